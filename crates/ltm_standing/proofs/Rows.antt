-- Rows one behind another in a list, and a total for each.
use Rattle.std.proofs.Common.{◌≡◌, ℕ, ◌+◌, ◌-◌, ◌*◌, ◌<◌, ◌≤◌, List, [], ◌∷◌, ◌++◌, length, drop, slice_index, arith, sym, ap, subst, ◌∙◌, inl, inr, get_or-append-add, get_or-drop, length-append}
use Rattle.std.proofs.Math.Nat.{mul-le-mul_right}
use Rattle.std.proofs.lemmas.Bool.{cases_lt}
use Rattle.std.proofs.lemmas.List.{length-drop, get_or_append_left, get_or_push, length_push}
use Rattle.ltm_units.specs.Sums.{sum_below}
use Rattle.ltm_units.proofs.Sums.{sum_below-same}
use Rattle.ltm_standing.specs.declared.standing.Standing.{Standing}
use Rattle.ltm_standing.specs.Standing.{width_of}

pub record AreRows (w : ℕ) (totals entries : List ℕ) : Type 0 where
  pub whole : length entries ≡ length totals * w
  pub sums : (j : ℕ) → j < length totals → slice_index totals j ≡ sum_below w (λ i. slice_index entries (j * w + i))
  pub some : (j : ℕ) → j < length totals → 0 < slice_index totals j

pub rows_of : (s : Standing) → AreRows (width_of s) s.totals.items s.entries.items
rows_of s = record { whole = s.whole; sums = s.sums; some = s.some }

pub rows_by : (w : ℕ) (totals entries totals' entries' : List ℕ) → totals' ≡ totals → entries' ≡ entries → AreRows w totals entries → AreRows w totals' entries'
rows_by w totals entries totals' entries' e f h = subst (λ (xs : List ℕ). AreRows w xs entries') (sym e) (subst (λ (ys : List ℕ). AreRows w totals ys) (sym f) h)

pub rows_dropped : (w : ℕ) (totals entries : List ℕ) (d : ℕ) → d ≤ length totals → AreRows w totals entries → AreRows w (drop d totals) (drop (d * w) entries)
rows_dropped w totals entries d l h =
    let long : length (drop d totals) ≡ length totals - d = length-drop d totals in
    let all : length (drop (d * w) entries) ≡ length entries - d * w = length-drop (d * w) entries in
    let n : ℕ = length totals - d in
    let parts : length totals ≡ length totals - d + d = omega (arith, l) in
    let product : length totals * w ≡ (length totals - d) * w + d * w = ap (λ (z : ℕ). z * w) parts ∙ omega arith in
    record {
      whole = all ∙ (omega (arith, h.whole, product) ∙ ap (λ (z : ℕ). z * w) (sym long));
      sums = λ j m.
          get_or-drop d totals j 0
          ∙ (h.sums (d + j) (omega (arith, long, m))
          ∙ sum_below-same w (λ i. slice_index entries ((d + j) * w + i)) (λ i. slice_index (drop (d * w) entries) (j * w + i))
          (λ i x. let at : (d + j) * w + i ≡ d * w + (j * w + i) = omega arith in ap (slice_index entries) at ∙ sym (get_or-drop (d * w) entries (j * w + i) 0)));
      some = λ j m. let at = get_or-drop d totals j 0 in omega (arith, at, h.some (d + j) (omega (arith, long, m)));
    }

-- a place of a row that stands before the end
pub place_below : (w n j i : ℕ) → j < n → i < w → j * w + i < n * w
place_below w n j i l m = let le : (j + 1) * w ≤ n * w = mul-le-mul_right w (omega arith) in omega (arith, le, m)

pub rows_pushed : (w : ℕ) (totals entries : List ℕ) (came : ℕ) (mail : List ℕ) → 0 < came → length mail ≡ w → came ≡ sum_below w (slice_index mail) → AreRows w totals entries → AreRows w (totals ++ came ∷ []) (entries ++ mail)
rows_pushed w totals entries came mail some wide sum h =
    let long : length (totals ++ came ∷ []) ≡ length totals + 1 = length_push totals came in
    let all : length (entries ++ mail) ≡ length entries + length mail = length-append entries mail in
    record {
      whole = all ∙ (let p : (length totals + 1) * w ≡ length totals * w + w = omega arith in omega (arith, h.whole, wide, p) ∙ ap (λ (z : ℕ). z * w) (sym long));
      sums = λ j m.
          elim (cases_lt j (length totals)) [
            | inl low ↦
                get_or_append_left totals (came ∷ []) 0 j low
                ∙ (h.sums j low
                ∙ sum_below-same w (λ i. slice_index entries (j * w + i)) (λ i. slice_index (entries ++ mail) (j * w + i))
                (λ i x. sym (get_or_append_left entries mail 0 (j * w + i) (omega (arith, h.whole, place_below w (length totals) j i low x)))))
            | inr high ↦
                let at : j ≡ length totals = omega (arith, long, m) in
                get_or_push totals came 0 j (sym at)
                ∙ (sum
                ∙ sum_below-same w (slice_index mail) (λ i. slice_index (entries ++ mail) (j * w + i))
                (λ i x.
                let begin : j * w ≡ length totals * w = ap (λ (z : ℕ). z * w) at in
                let place : j * w + i ≡ length entries + i = omega (arith, begin, h.whole) in
                sym (ap (slice_index (entries ++ mail)) place ∙ get_or-append-add entries mail i 0)))
          ];
      some = λ j m.
          elim (cases_lt j (length totals)) [
            | inl low ↦ let e = get_or_append_left totals (came ∷ []) 0 j low in omega (arith, e, h.some j low)
            | inr high ↦ let at : length totals ≡ j = omega (arith, long, m) in let e = get_or_push totals came 0 j at in omega (arith, e, some)
          ];
    }
