use Rattle.std.proofs.Common.{◌+◌, nat_lt, slice_index, sym, ap, ◌∙◌}
use Rattle.ltm_used.proofs.Listing.{push_found, skip_found}
use Rattle.ltm_used.proofs.listed.add_found.Goals as goal
use Rattle.ltm_used.proofs.listed.add_found.Goals.{then-is_found+in_ok-push, else-is_found}

pub loop-number-preserved : goal.loop-number-preserved
loop-number-preserved c =
    elim c.if-is_found.branch [
      | then-is_found+in_ok-push w ↦
          ap (λ v. v.items) w.into-is
          ∙ (w.in_ok-push.ensures.items
          ∙ push_found c.args.into.now.items c.loop-number.into.items (λ k. nat_lt 0 (slice_index c.args.found.now.marks.items (c.args.first + k))) c.loop-number.number c.loop-number.invariant (sym c.is_found.ensures ∙ w.if-is_found.true))
      | else-is_found w ↦
          ap (λ v. v.items) w.into-is
          ∙ skip_found c.args.into.now.items c.loop-number.into.items (λ k. nat_lt 0 (slice_index c.args.found.now.marks.items (c.args.first + k))) c.loop-number.number c.loop-number.invariant (sym c.is_found.ensures ∙ w.if-is_found.false)
    ]
