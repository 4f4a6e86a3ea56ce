use Rattle.std.specs.Prelude.{◌≡◌, ℕ, ◌*◌, ◌/◌, ◌^◌, ◌<◌, ◌≤◌, List, slice_index}

-- how many 2^-32nds a fraction is, rounded down
abbrev pub factor : ℕ → ℕ → ℕ
factor numerator denominator = numerator * 2 ^ 32 / denominator

-- the factors of those of five fractions that are at most 1
abbrev pub AreFactors : ℕ → List ℕ → List ℕ → Type 0
AreFactors denominator numerators factors =
    (i : ℕ) → i < 5 → slice_index numerators i ≤ denominator → slice_index factors i ≡ factor (slice_index numerators i) denominator
