use Rattle.std.proofs.Common.{◌≡◌, ◌+◌, ◌≤◌, ℕ, List, length, option_map}
use Rattle.std.specs.List.{slice_split}
use Rattle.ltm_curve.specs.Table.{slots_of}
use Rattle.ltm_records.specs.Pieces.{is_space, pieces_behind}
use Rattle.ltm_check.specs.CountsTold.{each_told}
use Rattle.ltm_check.proofs.Reading.{before, PutsFirst}
use Rattle.ltm_check.proofs.counts.read_counts.Given as goal

abbrev pub invariant-pieces : goal.invariant-pieces
invariant-pieces l = record {
  read : (counts : List ℕ) × (length counts ≡ l.boundary)
      × (each_told (slice_split is_space l.fn.text) ≡ before counts (each_told (pieces_behind (option_map (λ s. s.now) l.rest))))
      × PutsFirst l.fn.curves l.curves l.group l.destination counts;
  within : l.boundary ≤ l.slots + 1;
  slots_are : l.slots ≡ slots_of l.fn.curves;
}

abbrev pub decreases-pieces : goal.decreases-pieces
decreases-pieces l = length (pieces_behind (option_map (λ s. s.now) l.rest))
