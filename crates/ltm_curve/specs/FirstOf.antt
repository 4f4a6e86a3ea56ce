-- The first units of a group of some curves.
use Rattle.std.specs.Prelude.{◌≡◌, ◌<◌, ◌≤◌}
use Rattle.ltm_curve.specs.First.{last_within}
use Rattle.ltm_curve.specs.FirstLaws.{IsPart}
use Rattle.ltm_curve.specs.Table.{groups_of, destinations_of, slots_of, counts_of, total_of}
use Rattle.ltm_curve.specs.declared.curves.Curves.{Curves}
use Rattle.ltm_curve.specs.declared.composition.FirstUnits.{FirstUnits}

-- the group has so many units by a boundary, and they end at the last one not above it that has no more
pub record AreFirst (c : Curves) (units : FirstUnits) : Type 0 where
  pub group : units.group < groups_of c
  pub last : units.last ≤ slots_of c
  pub part : IsPart (destinations_of c) (counts_of c units.group) units.count units.last
  pub end : units.end ≡ last_within (total_of c units.group) units.count units.last
