-- Places of a table of totals.
use Rattle.std.proofs.Common.{◌≡◌, ◌≢◌, ℕ, ◌+◌, ◌*◌, ◌/◌, ◌%◌, ◌<◌, ◌≤◌, ◌⊎◌, arith, ap, sym, ◌∙◌, inl, inr}
use Rattle.std.proofs.lemmas.Nat.{div-mul-add, mod-mul-add}

-- different links or boundaries stand at different places
pub apart : (w l k link boundary : ℕ) → l < w → link < w → (l ≢ link) ⊎ (k ≢ boundary) → k * w + l ≢ boundary * w + link
apart w l k link boundary x y (inl other) = λ e. other (sym (mod-mul-add k w l x) ∙ (ap (λ (z : ℕ). z % w) e ∙ mod-mul-add boundary w link y))
apart w l k link boundary x y (inr other) = λ e. other (sym (div-mul-add k w l x) ∙ (ap (λ (z : ℕ). z / w) e ∙ div-mul-add boundary w link y))

-- a time of at least a step is long enough in slots
pub long_from : (step slots rest time : ℕ) → slots * step ≡ time + rest → step ≤ time → step + rest ≤ slots * step
long_from step slots rest time whole long = omega (arith, whole, long)
