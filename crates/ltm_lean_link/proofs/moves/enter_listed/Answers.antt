use Rattle.std.proofs.Common.{◌≡◌, ℕ, ◌+◌, length, slice_index, arith, sym, ap, ◌∙◌}
use Rattle.ltm_curve.specs.Counts.{total}
use Rattle.ltm_loading.specs.Groups.{up_of}
use Rattle.ltm_units.specs.Sums.{sum_below}
use Rattle.ltm_units.proofs.Sums.{sum_below-same}
use Rattle.ltm_lean_link.specs.Moved.{moved_at}
use Rattle.ltm_lean_link.proofs.Gathered.{gathered_up}
use Rattle.ltm_lean_link.proofs.moves.enter_listed.Goals as goal

pub returns-clause-came : goal.returns-clause-came
returns-clause-came c =
    c.gather_mail.ensures.all
    ∙ sum_below-same (length c.args.mail.now) (moved_at c.args.moved.now c.args.places.now) (slice_index c.gather_mail.new.into) (λ i l. sym (c.gather_mail.ensures.each i l))

pub returns-clause-entered : goal.returns-clause-entered
returns-clause-entered c = λ s counts l t ds us moved.
    let wide : length c.args.mail.now ≡ length ds = omega (arith, c.requires.same, moved.placed.long) in
    let all = gathered_up s counts l t ds us c.args.places.now c.args.moved.now moved in
    record {
      all = all.all ∙ ap (λ (z : ℕ). total s.destinations (counts (up_of l)) t + z) (sym (c.gather_mail.ensures.all ∙ ap (λ (z : ℕ). sum_below z (moved_at c.args.moved.now c.args.places.now)) wide));
      each = λ some i x. all.each i x ∙ ap (λ (z : ℕ). counts (up_of l) (slice_index ds i) t + z) (sym (c.gather_mail.ensures.each i (omega (arith, x, wide))));
    }
