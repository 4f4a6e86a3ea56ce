-- What the weights of a row are.
use Rattle.std.specs.Prelude.{ℕ, ◌<◌, ◌≤◌, ◌^◌, List, length, sum, All}

-- at most four weights, not all of them 0, and each fits 32 bits
abbrev pub AreWeights : List ℕ → Type 0
AreWeights weights = (length weights ≤ 4) × (0 < sum weights) × All (λ weight. weight < 2 ^ 32) weights
