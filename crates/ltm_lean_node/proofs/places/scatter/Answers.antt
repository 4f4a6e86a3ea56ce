use Rattle.std.proofs.Common.{rules, ℕ, ◌+◌, ◌<◌, List, length, slice_index, arith, refl, sym, subst}
use Rattle.std.proofs.lemmas.List.{get_or-replicate}
use Rattle.ltm_lean_node.proofs.Placing.{Scattered, scattered_none, scattered_over, scattered_more}
use Rattle.ltm_lean_node.proofs.places.scatter.Goals as goal
use Rattle.ltm_lean_node.proofs.places.scatter.Goals.{then-place-into, else-place-into}

pub loop-i-init : goal.loop-i-init
loop-i-init c = scattered_none c.args.numbers.now c.args.places.now c.fill.new.self (length c.args.into.now) c.fill.ensures.len (λ x l. search (rules, get_or-replicate))

pub loop-i-preserved : goal.loop-i-preserved
loop-i-preserved c =
    let few : c.loop-i.i < length c.args.places.now = omega (arith, c.loop-i-test.true, c.requires.same) in
    elim c.if-place-into.branch [
      | then-place-into w ↦
          subst (λ (xs : List ℕ). Scattered c.args.numbers.now c.args.places.now xs (length c.args.into.now) (c.loop-i.i + 1)) (sym w.into-is)
          (scattered_more c.args.numbers.now c.args.places.now c.loop-i.into (length c.args.into.now) c.loop-i.i (slice_index c.args.places.now c.loop-i.i) w.from.result c.requires.apart few c.loop-i.invariant refl
          (omega (arith, w.if-place-into.true, c.loop-i.invariant.long)) w.from.ensures)
      | else-place-into w ↦
          subst (λ (xs : List ℕ). Scattered c.args.numbers.now c.args.places.now xs (length c.args.into.now) (c.loop-i.i + 1)) (sym w.into-is)
          (scattered_over c.args.numbers.now c.args.places.now c.loop-i.into (length c.args.into.now) c.loop-i.i c.loop-i.invariant (omega (arith, w.if-place-into.false, c.loop-i.invariant.long)))
    ]
