-- A table is written row after row.
use Rattle.std.proofs.Common.{append_assoc, length-append, set, inl, inr, ◌≡◌, ℕ, ◌+◌, ◌*◌, ◌/◌, ◌%◌, ◌<◌, ◌≤◌, List, [], ◌∷◌, ◌++◌, length, take, slice_index, arith, ap, sym, ◌∙◌}
use Rattle.std.proofs.Math.Nat.{mul-le-mul_left}
use Rattle.std.proofs.lemmas.Bool.{cases_eq}
use Rattle.std.proofs.lemmas.List.{take_at, length-take-le, append-nil, get_or-set_other, get_or-set_same}
use borrow.Rule.Slice.PartMut.{put_mid, post_of}
use Rattle.ltm_curve.specs.First.{list_below}
use Rattle.ltm_curve.proofs.Lists.{length-list_below}
use Rattle.ltm_loading.specs.Pairs.{grid}
use Rattle.ltm_inputs.proofs.Lists.{grid-more}

-- the first rows of a table stand in a list, up to a place
pub record IsFilledTo (row : List ℕ) (place i w : ℕ) (f : ℕ → ℕ → ℕ) : Type 0 where
  pub end : place ≡ i * w
  pub rows : take place row ≡ grid i w f

pub filled_none : (row : List ℕ) (w : ℕ) (f : ℕ → ℕ → ℕ) → IsFilledTo row 0 0 w f
filled_none row w f =
    let none : 0 ≡ 0 * w = omega arith in record { end = none; rows = ap (λ (z : ℕ). list_below z (λ k. f (k / w) (k % w))) none }

-- there is room for one row more
pub row_fits : (row : List ℕ) (place i w n : ℕ) (f : ℕ → ℕ → ℕ) → IsFilledTo row place i w f → i < n → length row ≡ n * w → place + w ≤ length row
row_fits row place i w n f h l long = let more : w * (i + 1) ≤ w * n = mul-le-mul_left w (omega arith) in omega (arith, h.end)

-- one row more is written
pub filled_more : (row : List ℕ) (place i w v m n : ℕ) (f : ℕ → ℕ → ℕ) (ys : List ℕ) → IsFilledTo row place i w f → i < n → length row ≡ n * w → v ≡ w → m ≡ w → ys ≡ list_below w (f i) → IsFilledTo (put_mid place m row ys) (place + v) (i + 1) w f
filled_more row place i w v m n f ys h l long same part e =
    let fits : place + w ≤ length row = row_fits row place i w n f h l long in
    let front : length (take place row) ≡ place = length-take-le place row (omega arith) in
    let many : length ys ≡ w = ap (λ (z : List ℕ). length z) e ∙ length-list_below w (f i) in
    record {
      end = omega (arith, h.end);
      rows =
          ap (λ (z : List ℕ). take (place + v) z) (sym (append_assoc (take place row) ys (post_of place m row)))
          ∙ (take_at (take place row ++ ys) (post_of place m row) (place + v) (omega (arith, length-append (take place row) ys))
          ∙ (ap (λ (z : List ℕ). z ++ ys) h.rows ∙ (ap (λ (z : List ℕ). grid i w f ++ z) e ∙ sym (grid-more i w f))));
    }

-- nothing is behind a list
pub nothing_behind : (xs ys : List ℕ) → length ys ≡ 0 → xs ++ ys ≡ xs
nothing_behind xs [] none = append-nil xs
nothing_behind xs (y ∷ ys) none = absurd (omega arith)

-- one number more is written
pub set_next : (xs : List ℕ) (i v : ℕ) (f : ℕ → ℕ) → ((j : ℕ) → j < i → slice_index xs j ≡ f j) → i < length xs → v ≡ f i → (j : ℕ) → j < i + 1 → slice_index (set xs i v) j ≡ f j
set_next xs i v f before l here j less =
    elim (cases_eq j i) [
      | inl same ↦ ap (slice_index (set xs i v)) same ∙ (get_or-set_same xs i v 0 l ∙ (here ∙ ap f (sym same)))
      | inr other ↦ get_or-set_other xs i j v 0 other ∙ before j (omega arith)
    ]

-- a table of one row
pub grid-one : (w : ℕ) (f : ℕ → ℕ → ℕ) → grid 1 w f ≡ list_below w (f 0)
grid-one w f = grid-more 0 w f ∙ ap (λ (z : List ℕ). z ++ list_below w (f 0)) (sym (filled_none [] w f).rows)

-- what is written of one row is such a table
pub written_one : (xs : List ℕ) (n w : ℕ) (f : ℕ → ℕ → ℕ) → n ≡ 1 → xs ≡ list_below w (f 0) → xs ≡ grid n w f
written_one xs n w f one is = is ∙ (sym (grid-one w f) ∙ ap (λ (z : ℕ). grid z w f) (sym one))
