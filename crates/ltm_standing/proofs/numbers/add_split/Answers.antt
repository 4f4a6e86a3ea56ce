use Rattle.std.proofs.Common.{rules, arith, ◌≡◌, ℕ, ◌+◌, ◌%◌, ◌<◌, length, slice_index, get_or-set_other, ap, ◌∙◌}
use Rattle.ltm_units.specs.Nested.{nested_split}
use Rattle.ltm_curve.proofs.Lists.{written}
use Rattle.ltm_standing.proofs.Sharing.{next_share}
use Rattle.ltm_standing.proofs.numbers.add_split.Goals as goal

pub loop-i-preserved : goal.loop-i-preserved
loop-i-preserved c =
    let inv = c.loop-i.invariant in
    let l : c.loop-i.i < length c.args.row.now = search rules in
    let e : c.from-entered.result ≡ slice_index c.args.row.now c.loop-i.i = search rules in
    let next = next_share c.args.row.now c.args.part c.loop-i.rest c.loop-i.whole c.loop-i.i c.share_of-share.result c.from-entered.result inv.mixing l e c.share_of-share.ensures.share in
    let f : ℕ → ℕ = λ k. (slice_index c.args.numbers.now k + slice_index (nested_split c.args.part c.args.row.now) k) % 4294967296 in
    let here : slice_index c.loop-i.numbers c.loop-i.i + c.share_of-share.result ≡ slice_index c.args.numbers.now c.loop-i.i + slice_index (nested_split c.args.part c.args.row.now) c.loop-i.i = omega (arith, next.0, inv.rest c.loop-i.i (omega arith)) in
    record {
      mixing = next.1;
      few = omega (arith, inv.few);
      done = written c.loop-i.numbers f c.loop-i.i _ inv.done (search rules) (ap (λ z. z % 4294967296) here);
      rest = λ k h. get_or-set_other c.loop-i.numbers c.loop-i.i k _ 0 (omega arith) ∙ inv.rest k (omega arith);
    }
