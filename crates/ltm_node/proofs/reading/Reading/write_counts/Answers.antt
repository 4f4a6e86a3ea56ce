use Rattle.std.proofs.Common.{◌≡◌, ◌∙◌, ℕ, Bool, cond, sym, subst, take, drop, length, replicate, ap, arith, slice_index}
use Rattle.std.proofs.lemmas.List.{length-replicate, get_or-replicate}
use Rattle.std.proofs.lemmas.Grind.{common_steps, same_number_lists}
use Rattle.ltm_node.specs.Shape.{counts_width, counts_begin}
use Rattle.ltm_node.specs.Inputs.{Inputs}
use Rattle.ltm_node.proofs.AsRead.{counts_as}
use Rattle.ltm_node.proofs.reading.Reading.write_counts.Goals as goal

pub returns-else-self : goal.returns-else-self
returns-else-self c =
    let n = c.self.inside.inputs.now in
    let few : ℕ = counts_width n.shape in
    let zeros : length c.args.into.now ≡ few → c.fill.new.self ≡ replicate few 0 = λ wide.
    same_number_lists c.fill.new.self (replicate few 0) (omega (arith, c.fill.ensures.len, wide, length-replicate {A = ℕ} few 0)) (λ k l.
    let here : slice_index c.fill.new.self k ≡ 0 = grind (arith, common_steps) in
    here ∙ sym (get_or-replicate few k 0 0 (omega (arith, c.fill.ensures.len, wide)))) in
    subst (λ (m : Inputs). length c.args.into.now ≡ counts_width m.shape → c.fill.new.self ≡ take (counts_width m.shape) (drop (counts_begin m.shape) m.row)) c.self.view_is
    (λ wide. zeros wide ∙ sym (counts_as c.self.inside.counted n.shape n.row c.self.invariant
    ∙ ap (λ (z : Bool). cond z (take few (drop (counts_begin n.shape) n.row)) (replicate few 0)) c.if-self.false))
    c.requires
