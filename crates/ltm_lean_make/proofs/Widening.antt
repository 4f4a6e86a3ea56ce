-- The greatest width of the first nodes, with one node more.
use Rattle.std.proofs.Common.{◌≡◌, ℕ, ◌+◌, ◌≤◌, ◌⊎◌, arith, ap, sym, ◌∙◌, inl, inr}
use Rattle.std.proofs.lemmas.Bool.{cases_eq}
use Rattle.ltm_loading.specs.Setting.{Setting}
use Rattle.ltm_lean.specs.declared.tables.Tables.{Tables}
use Rattle.ltm_lean_make.specs.Widest.{listed_width, IsWidestListed}

pub widest_more : (s : Setting) (x : Tables) (n w v m : ℕ) → IsWidestListed s x n w → v ≡ listed_width s x n → w ≤ m → v ≤ m → (m ≡ w) ⊎ (m ≡ v) → IsWidestListed s x (n + 1) m
widest_more s x n w v m h is first second either = record {
  each = λ u l. elim (cases_eq u n) [
    | inl same ↦ let here : listed_width s x u ≡ v = ap (listed_width s x) same ∙ sym is in omega (arith, here, second)
    | inr other ↦ omega (arith, h.each u (omega (arith, l, other)), first)
  ];
  attained = elim either [
    | inl old ↦ elim h.attained [
      | inl none ↦ inl (old ∙ none)
      | inr some ↦ inr (some.0, (omega (arith, some.1.0), some.1.1 ∙ sym old))
    ]
    | inr new ↦ inr (n, (omega arith, sym (new ∙ is)))
  ];
}
