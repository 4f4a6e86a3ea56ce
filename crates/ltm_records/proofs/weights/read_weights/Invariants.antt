use Rattle.std.proofs.Common.{◌≡◌, ◌≤◌, length, option_map}
use Rattle.ltm_records.specs.Pieces.{pieces_behind}
use Rattle.ltm_records.specs.Weights.{at_most_four, entries_of, weights_of}
use Rattle.ltm_records.proofs.Pieces.{before}
use Rattle.ltm_records.proofs.weights.read_weights.Given as goal

abbrev pub invariant-pieces : goal.invariant-pieces
invariant-pieces l = record {
  so_far : weights_of l.fn.text ≡ at_most_four (before l.entries (entries_of (pieces_behind (option_map (λ s. s.now) l.rest))));
  few : length l.entries ≤ 4;
}

abbrev pub decreases-pieces : goal.decreases-pieces
decreases-pieces l = length (pieces_behind (option_map (λ s. s.now) l.rest))
