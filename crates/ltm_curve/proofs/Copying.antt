-- Cells are copied one after another.
use Rattle.std.proofs.Common.{◌≡◌, ℕ, ◌+◌, ◌*◌, ◌/◌, ◌%◌, ◌<◌, List, length, sum, slice_index, arith, inl, inr, ap, sym, ◌∙◌}
use Rattle.std.proofs.Math.Nat.{div-lt_iff_lt-mul}
use Rattle.std.proofs.lemmas.Nat.{mod_below, div-add-mod'}
use Rattle.std.proofs.lemmas.Bool.{cases_lt}
use Rattle.std.proofs.lemmas.List.{ext_get_or}
use Rattle.ltm_units.specs.Sums.{sum_below}
use Rattle.ltm_units.proofs.Sums.{sum_below-same}
use Rattle.ltm_curve.specs.Table.{groups_of, destinations_of, slots_of, place, counts_of, total_of, IsIn}
use Rattle.ltm_curve.specs.CurveLaws.{SameCounts}
use Rattle.ltm_curve.specs.Copying.{AgreesBut}
use Rattle.ltm_curve.specs.declared.curves.Curves.{Curves}
use Rattle.ltm_curve.specs.declared.changed.Changed.{Changed}
use Rattle.ltm_curve.proofs.Places.{same_place, same_everywhere}
use Rattle.ltm_curve.proofs.Lists.{sum_below-list}

-- where all boundaries are copied
pub agrees_all : (self other : Curves) (changed : Changed) (boundary : ℕ) → AgreesBut self other changed boundary 0 → slots_of other < boundary → SameCounts self other
agrees_all self other changed boundary agrees past = record {
  shape = agrees.shape;
  counts = λ g d k x. agrees.counts g d k x (inr (inl (omega (arith, x.is_boundary))));
}

-- each place of the table is that of a count
place_is_in : (c : Curves) (i : ℕ) → i < (slots_of c + 1) * groups_of c * destinations_of c →
    IsIn c (i / destinations_of c % groups_of c) (i % destinations_of c) (i / destinations_of c / groups_of c) × (place c (i / destinations_of c % groups_of c) (i % destinations_of c) (i / destinations_of c / groups_of c) ≡ i)
place_is_in c i l =
    let m : ℕ = destinations_of c in
    let n : ℕ = groups_of c in
    let some_m : 0 < m = elim (cases_lt 0 m) [ inl x ↦ x | inr z ↦ let e : m ≡ 0 = omega arith in absurd (let f : (slots_of c + 1) * n * m ≡ (slots_of c + 1) * n * 0 = ap (λ (y : ℕ). (slots_of c + 1) * n * y) e in omega (arith, f)) ] in
    let row : i / m < (slots_of c + 1) * n = (div-lt_iff_lt-mul some_m).1 l in
    let some_n : 0 < n = elim (cases_lt 0 n) [ inl x ↦ x | inr z ↦ let e : n ≡ 0 = omega arith in absurd (let f : (slots_of c + 1) * n ≡ (slots_of c + 1) * 0 = ap (λ (y : ℕ). (slots_of c + 1) * y) e in omega (arith, f)) ] in
    let boundary : i / m / n < slots_of c + 1 = (div-lt_iff_lt-mul some_n).1 row in (
      record { is_group = mod_below (i / m) n some_n; is_destination = mod_below i m some_m; is_boundary = omega (arith, boundary) },
      ap (λ (z : ℕ). z * m + i % m) (div-add-mod' (i / m) n) ∙ div-add-mod' i m,
    )

-- curves with the same counts have one table, and so all counts in common
pub same_tables : (a b : Curves) → SameCounts a b → a.counts.items ≡ b.counts.items
unfolding counts_of
same_tables a b same =
    let s = same.shape in
    let long : (a.slots + 1) * a.groups * a.destinations ≡ (b.slots + 1) * b.groups * b.destinations =
    ap (λ (z : ℕ). (z + 1) * a.groups * a.destinations) s.slots ∙ (ap (λ (z : ℕ). (b.slots + 1) * z * a.destinations) s.groups ∙ ap (λ (z : ℕ). (b.slots + 1) * b.groups * z) s.destinations) in
    ext_get_or 0 a.counts.items b.counts.items (omega (arith, long, a.long, b.long)) (λ i l.
    let at = place_is_in b i (omega (arith, long, a.long)) in
    let g = i / destinations_of b % groups_of b in
    let d = i % destinations_of b in
    let k = i / destinations_of b / groups_of b in
    ap (slice_index a.counts.items) (sym at.1 ∙ sym (same_place a b g d k s)) ∙ (same.counts g d k at.0 ∙ ap (slice_index b.counts.items) at.1))

pub same_counts : (a b : Curves) → SameCounts a b → counts_of a ≡ counts_of b
same_counts a b same = same_everywhere a b same.shape (same_tables a b same)

-- the sum of a row is the total of its group
pub row_total : (c : Curves) (counts : List ℕ) (g k : ℕ) → length counts ≡ destinations_of c → ((d : ℕ) → d < destinations_of c → slice_index counts d ≡ counts_of c g d k) → sum counts ≡ total_of c g k
row_total c counts g k long same =
    sym (sum_below-list counts) ∙ (ap (λ (n : ℕ). sum_below n (slice_index counts)) long ∙ sum_below-same (destinations_of c) (slice_index counts) (λ d. counts_of c g d k) same)
