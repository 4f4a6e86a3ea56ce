use Rattle.std.proofs.Common.{◌≡◌, take, None}
use Rattle.std.specs.List.{list_any}
use Rattle.ltm_units.specs.Numbers.{is_point, is_bad_at, first_below}
use Rattle.ltm_units.proofs.numbers.find_bad.Given as goal

abbrev pub invariant-loop-place : goal.invariant-loop-place
invariant-loop-place l = (l.has_point ≡ list_any is_point (take l.place l.text)) × (first_below (is_bad_at l.text) l.place ≡ None)
