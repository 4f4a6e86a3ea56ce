-- Weights that are all 0.
use Rattle.std.proofs.Common.{◌≡◌, ◌==◌, ℕ, List, sum, sym}
use Rattle.std.specs.List.{list_all}
use Rattle.std.proofs.lemmas.List.Folds.{sum_by-zero}

pub all_zero : (ws : List ℕ) → list_all (λ w. w == 0) ws ≡ (sum ws == 0)
all_zero ws = sym (sum_by-zero (λ w. w) ws)
