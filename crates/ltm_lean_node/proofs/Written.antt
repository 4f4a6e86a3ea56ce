-- Numbers that are written from a place on, and parts of a row.
use borrow.Rule.Slice.PartMut.{put_mid, post_of}
use Rattle.std.proofs.Common.{◌≡◌, ◌≢◌, ℕ, ◌+◌, ◌*◌, ◌<◌, ◌≤◌, ◌⊎◌, List, ◌++◌, length, take, append_assoc, slice_index, slice_set, arith, refl, sym, ap, ◌∙◌, inl, inr, get_or-set_same, get_or-set_other, get_or-append-add}
use Rattle.std.proofs.Math.Nat.{mul-le-mul_right}
use Rattle.std.proofs.lemmas.Bool.{cases_eq}
use Rattle.std.proofs.lemmas.List.{get_or_append_left, take_at}
use Rattle.ltm_lean_node.specs.Rows.{WritesAt}

pub writes_none : (place : ℕ) (f : ℕ → ℕ) (row : List ℕ) → WritesAt place 0 f row row
writes_none place f row = record { here = λ j l. absurd (omega arith); others = λ x h. refl }

-- one number more
pub writes_more : (place n : ℕ) (f : ℕ → ℕ) (old new : List ℕ) (at v : ℕ) → WritesAt place n f old new → at ≡ place + n → at < length new → v ≡ f n → WritesAt place (n + 1) f old (slice_set new at v)
writes_more place n f old new at v h e l is = record {
  here = λ j m. elim (cases_eq j n) [
    | inl same ↦
        let there : place + j ≡ at = omega (arith, same, e) in
        ap (slice_index (slice_set new at v)) there ∙ (get_or-set_same new at v 0 l ∙ (is ∙ ap f (sym same)))
    | inr other ↦ get_or-set_other new at (place + j) v 0 (λ x. other (omega (arith, x, e))) ∙ h.here j (omega (arith, m, other))
  ];
  others = λ x side.
      let apart : x ≢ at = λ same. elim side [ inl low ↦ omega (arith, low, same, e) | inr high ↦ omega (arith, high, same, e) ] in
      let before : (x < place) ⊎ (place + n ≤ x) = elim side [ inl low ↦ inl low | inr high ↦ inr (omega (arith, high)) ] in
      get_or-set_other new at x v 0 apart ∙ h.others x before;
}

-- numbers of another function that is the same there
pub writes_same : (place n : ℕ) (f g : ℕ → ℕ) (old new : List ℕ) → WritesAt place n f old new → ((j : ℕ) → j < n → f j ≡ g j) → WritesAt place n g old new
writes_same place n f g old new h same = record { here = λ j l. h.here j l ∙ same j l; others = h.others }

-- rows of w numbers one behind another
pub rows_more : (w i : ℕ) (f : ℕ → ℕ → ℕ) (old new : List ℕ) (place : ℕ) → ((k j : ℕ) → k < i → j < w → slice_index old (k * w + j) ≡ f k j) → place ≡ i * w → WritesAt place w (f i) old new
    → (k j : ℕ) → k < i + 1 → j < w → slice_index new (k * w + j) ≡ f k j
rows_more w i f old new place before at h k j l m =
    elim (cases_eq k i) [
      | inl same ↦
          let there : k * w + j ≡ place + j = ap (λ (z : ℕ). z * w + j) same ∙ omega (arith, at) in
          ap (slice_index new) there ∙ (h.here j m ∙ ap (λ (z : ℕ). f z j) (sym same))
      | inr other ↦
          let low : k < i = omega (arith, l, other) in
          let end : (k + 1) * w ≤ i * w = mul-le-mul_right w (omega (arith, low)) in
          let below : k * w + j < place = omega (arith, end, at, m) in h.others (k * w + j) (inl below) ∙ before k j low m
    ]

-- ---- parts of a row one behind another
pub in_first : (xs ys : List ℕ) (k : ℕ) → k < length xs → slice_index (xs ++ ys) k ≡ slice_index xs k
in_first xs ys k l = get_or_append_left xs ys 0 k l

pub in_rest : (xs ys : List ℕ) (k m : ℕ) → k ≡ length xs + m → slice_index (xs ++ ys) k ≡ slice_index ys m
in_rest xs ys k m e = ap (λ (z : ℕ). slice_index (xs ++ ys) z) e ∙ get_or-append-add xs ys m 0

-- the front of a room, written over as a whole
pub front_written : (n k : ℕ) (room row rest : List ℕ) → length row ≡ n → take n (put_mid 0 k room row ++ rest) ≡ row
front_written n k room row rest long = ap (take n) (append_assoc row (post_of 0 k room) rest) ∙ take_at row (post_of 0 k room ++ rest) n long
