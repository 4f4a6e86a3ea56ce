use Rattle.std.proofs.Common.{◌≡◌, ℕ, ◌+◌, length, slice_index, arith, sym, ap, ◌∙◌}
use Rattle.ltm_curve.specs.Counts.{total}
use Rattle.ltm_loading.specs.Groups.{down_of}
use Rattle.ltm_units.specs.Sums.{sum_below}
use Rattle.ltm_lean_link.specs.Moved.{moved_at}
use Rattle.ltm_lean_link.proofs.Gathered.{gathered_down}
use Rattle.ltm_lean_link.proofs.moves.leave_listed.Goals as goal

pub returns-clause-gone : goal.returns-clause-gone
returns-clause-gone c = λ s counts l t ds us moved.
    let wide : length c.args.room.now ≡ length ds = omega (arith, c.requires.room, c.requires.places, moved.placed.long) in
    (gathered_down s counts l t ds us c.args.places.now c.args.moved.now moved).all
    ∙ ap (λ (z : ℕ). total s.destinations (counts (down_of l)) t + z) (sym (c.gather-gone.ensures.all ∙ ap (λ (z : ℕ). sum_below z (moved_at c.args.moved.now c.args.places.now)) wide))

pub returns-clause-stands : goal.returns-clause-stands
returns-clause-stands c = λ s counts l k t ds us moved stands.
    c.leave.ensures.stands counts l k t ds
    (λ i x.
    (gathered_down s counts l t ds us c.args.places.now c.args.moved.now moved).each i x
    ∙ ap (λ (z : ℕ). counts (down_of l) (slice_index ds i) t + z) (sym (c.gather-gone.ensures.each i (omega (arith, x, c.requires.room, c.requires.places, moved.placed.long))))) stands
