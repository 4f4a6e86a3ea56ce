-- How the counts of groups are copied to their places.
use Rattle.std.proofs.Common.{◌≡◌, ℕ, ◌+◌, ◌-◌, ◌*◌, ◌<◌, ◌≤◌, List, length, slice_index, slice_set, inl, inr, arith, ap, ◌∙◌, sym, subst, get_or-set_same, get_or-set_other}
use Rattle.std.proofs.lemmas.Bool.{cases_lt}
use Rattle.std.proofs.lemmas.List.{length-set}
use Rattle.std.proofs.lemmas.Bool.{cases_eq}
use Rattle.std.proofs.lemmas.Nat.{mul-add-lt, same_from_place}
use Rattle.std.proofs.Math.Nat.{mul-le-mul_right}
use Rattle.ltm_curve.specs.Table.{counts_of, destinations_of, slots_of, IsIn}
use Rattle.ltm_curve.specs.declared.curves.Curves.{Curves}
use Rattle.ltm_check.specs.Window.{boundaries_of, copied_size, copied_place, HavePlaces, IsCopied, KeepsCopies}

-- with so many counts for each of `many` groups, each group of these has places
pub have_places : (c : Curves) (first end many size : ℕ) → end ≤ first + many → size ≡ copied_size c many → HavePlaces c first end size
have_places c first end many size few long g d k x y h =
    let group : g - first + 1 ≤ many = omega (arith, x, y, few) in
    let column : (g - first) * destinations_of c + d < destinations_of c * many = mul-add-lt (g - first) (destinations_of c) d many (omega (arith, group)) h.is_destination in
    let rows : ((g - first) * destinations_of c + d + 1) * boundaries_of c ≤ many * destinations_of c * boundaries_of c = mul-le-mul_right (boundaries_of c) (let m : (g - first) * destinations_of c + d + 1 ≤ many * destinations_of c = omega (arith, column) in m) in
    omega (arith, rows, long, h.is_boundary)

-- two counts have one place only if they are one count
same_count : (c : Curves) (first g d k g2 d2 k2 : ℕ) → first ≤ g → first ≤ g2 → IsIn c g d k → IsIn c g2 d2 k2 → copied_place c first g2 d2 k2 ≡ copied_place c first g d k → (g2 ≡ g) × ((d2 ≡ d) × (k2 ≡ k))
same_count c first g d k g2 d2 k2 x y h h2 e =
    let one = same_from_place ((g2 - first) * destinations_of c + d2) k2 ((g - first) * destinations_of c + d) k (boundaries_of c) (omega (arith, h2.is_boundary)) (omega (arith, h.is_boundary)) e in
    let two = same_from_place (g2 - first) d2 (g - first) d (destinations_of c) h2.is_destination h.is_destination one.0 in
    (omega (arith, two.0, x, y), (two.1, one.1))

-- the next boundary of a stretch has such a count, and a place for it
pub next_within : (c : Curves) (first g d from step many size : ℕ) → HavePlaces c first (g + 1) size → first ≤ g → IsIn c g d from → step < many → many ≤ slots_of c - from + 1 → IsIn c g d (from + step) × (copied_place c first g d (from + step) < size)
next_within c first g d from step many size places x h l few =
    let is_in : IsIn c g d (from + step) = record { is_group = h.is_group; is_destination = h.is_destination; is_boundary = omega (arith, h.is_boundary, l, few) } in
    (is_in, places g d (from + step) x (omega arith) is_in)

keeps_on : (c : Curves) (first : ℕ) (a b e : List ℕ) → KeepsCopies c first a b → KeepsCopies c first b e → KeepsCopies c first a e
keeps_on c first a b e p q = record { long = q.long ∙ p.long; same = λ g d k x h i. q.same g d k x h (p.same g d k x h i) }

-- a count is written at its place
is_put : (c : Curves) (first g d k count at : ℕ) (counts : List ℕ) → at ≡ copied_place c first g d k → at < length counts → count ≡ counts_of c g d k → IsCopied c first (slice_set counts at count) g d k
is_put c first g d k count at counts e l is = ap (slice_index (slice_set counts at count)) (sym e) ∙ (get_or-set_same counts at count 0 l ∙ is)

keeps_put : (c : Curves) (first g d k count at : ℕ) (counts : List ℕ) → at ≡ copied_place c first g d k → at < length counts → count ≡ counts_of c g d k → first ≤ g → IsIn c g d k → KeepsCopies c first counts (slice_set counts at count)
keeps_put c first g d k count at counts e l is x h = record {
  long = length-set counts at count;
  same = λ g2 d2 k2 y h2 before. elim (cases_eq (copied_place c first g2 d2 k2) at) [
    | inl here ↦
        let one = same_count c first g d k g2 d2 k2 x y h h2 (here ∙ e) in
        ap (slice_index (slice_set counts at count)) here ∙ (get_or-set_same counts at count 0 l ∙ (is ∙ (ap (λ (z : ℕ). counts_of c z d k) (sym one.0) ∙ (ap (λ (z : ℕ). counts_of c g2 z k) (sym one.1.0) ∙ ap (counts_of c g2 d2) (sym one.1.1)))))
    | inr apart ↦ get_or-set_other counts at (copied_place c first g2 d2 k2) count 0 apart ∙ before
  ];
}

pub places_stay : (c : Curves) (first end : ℕ) (old new : List ℕ) → length new ≡ length old → HavePlaces c first end (length old) → HavePlaces c first end (length new)
places_stay c first end old new e p = subst (HavePlaces c first end) (sym e) p

pub fewer_places : (c : Curves) (first end fewer size : ℕ) → fewer ≤ end → HavePlaces c first end size → HavePlaces c first fewer size
fewer_places c first end fewer size l p g d k x y h = p g d k x (omega (arith, y, l)) h

-- a count more of one record
pub one_more : (c : Curves) (first g d from step count at : ℕ) (old counts : List ℕ) → at ≡ copied_place c first g d (from + step) → at < length counts → count ≡ counts_of c g d (from + step) → first ≤ g → IsIn c g d (from + step) → KeepsCopies c first old counts → ((k : ℕ) → from ≤ k → k < from + step → IsIn c g d k → IsCopied c first counts g d k)
    → KeepsCopies c first old (slice_set counts at count) × ((k : ℕ) → from ≤ k → k < from + (step + 1) → IsIn c g d k → IsCopied c first (slice_set counts at count) g d k)
one_more c first g d from step count at old counts e l is x h keeps before =
    let put = keeps_put c first g d (from + step) count at counts e l is x h in (
      keeps_on c first old counts (slice_set counts at count) keeps put,
      λ k y z i. elim (cases_lt k (from + step)) [
        | inl less ↦ put.same g d k x i (before k y less i)
        | inr last ↦ subst (IsCopied c first (slice_set counts at count) g d) (let same : from + step ≡ k = omega arith in same) (is_put c first g d (from + step) count at counts e l is)
      ],
    )
