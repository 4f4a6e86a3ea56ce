-- The share of each destination in turn, out of what is left of a part.
use Rattle.std.proofs.Common.{◌≡◌, ℕ, suc, ◌+◌, ◌-◌, ◌*◌, ◌/◌, ◌<◌, ◌≤◌, List, [], ◌∷◌, length, sum, drop, slice_index, arith, ap, sym, ◌∙◌, subst}
use Rattle.std.proofs.lemmas.List.{drop_more}
use Rattle.std.proofs.lemmas.List.Sums.{sum_by-cons}
use Rattle.ltm_units.specs.Nested.{nested_split}
use Rattle.ltm_units.proofs.Splits.{sum-nested_split}
use Rattle.ltm_curve.specs.First.{entries, mixed, RowsRise}
use Rattle.ltm_curve.proofs.Lists.{length-list_below, index-list_below}
use Rattle.ltm_curve.proofs.Firsts.{mixed_next}

-- before the d-th share: what is left of the parts, and of the split
pub record IsMixing (xs : List ℕ) (part rest whole d : ℕ) : Type 0 where
  pub left : whole ≡ sum (drop d xs)
  pub shares : (j : ℕ) → slice_index (nested_split rest (drop d xs)) j ≡ slice_index (nested_split part xs) (d + j)

pub mixing_starts : (xs : List ℕ) (part whole : ℕ) → whole ≡ sum xs → IsMixing xs part part whole 0
mixing_starts xs part whole e = record { left = e; shares = λ j. let at : j ≡ 0 + j = omega arith in ap (slice_index (nested_split part xs)) at }

-- the d-th share
record HasShare (xs : List ℕ) (part rest whole d : ℕ) : Type 0 where
  within : slice_index xs d ≤ whole
  share : rest * slice_index xs d / whole ≡ slice_index (nested_split part xs) d
  next : IsMixing xs part (rest - rest * slice_index xs d / whole) (whole - slice_index xs d) (d + 1)

has_share : (xs : List ℕ) (part rest whole d : ℕ) → IsMixing xs part rest whole d → d < length xs → HasShare xs part rest whole d
has_share xs part rest whole d h l =
    let x : ℕ = slice_index xs d in
    let more : drop d xs ≡ slice_index xs d ∷ drop (d + 1) xs = drop_more xs d 0 l in
    let is_whole : whole ≡ slice_index xs d + sum (drop (d + 1) xs) = h.left ∙ (ap sum more ∙ sum_by-cons (λ y. y) (slice_index xs d) (drop (d + 1) xs)) in
    let one : rest * slice_index xs d / (slice_index xs d + sum (drop (d + 1) xs)) ≡ rest * slice_index xs d / whole = ap (λ (z : ℕ). rest * slice_index xs d / z) (sym is_whole) in
    let first : slice_index (nested_split rest (slice_index xs d ∷ drop (d + 1) xs)) 0 ≡ slice_index (nested_split part xs) (d + 0) =
    ap (λ (ys : List ℕ). slice_index (nested_split rest ys) 0) (sym more) ∙ h.shares 0 in
    let at : d + 0 ≡ d = omega arith in
    record {
      within = omega arith;
      share = sym one ∙ (first ∙ ap (slice_index (nested_split part xs)) at);
      next = record {
        left = omega arith;
        shares = λ j.
            let place : d + suc j ≡ d + 1 + j = omega arith in
            ap (λ (z : ℕ). slice_index (nested_split (rest - z) (drop (d + 1) xs)) j) (sym one)
            ∙ (ap (λ (ys : List ℕ). slice_index (nested_split rest ys) (suc j)) (sym more) ∙ (h.shares (suc j) ∙ ap (slice_index (nested_split part xs)) place));
      };
    }

same_next : (xs : List ℕ) (part rest whole d a b share entered : ℕ) → a ≡ share → b ≡ entered → IsMixing xs part (rest - a) (whole - b) (d + 1) → IsMixing xs part (rest - share) (whole - entered) (d + 1)
same_next xs part rest whole d a b share entered e f h =
    subst (λ (z : ℕ). IsMixing xs part (rest - z) (whole - entered) (d + 1)) e (subst (λ (z : ℕ). IsMixing xs part (rest - a) (whole - z) (d + 1)) f h)

-- the units of a destination that enter in a slot, in turn
has_entered : (m : ℕ) (rows : ℕ → ℕ → ℕ) (k part rest whole d entered : ℕ) → IsMixing (entries m rows k) part rest whole d → d < m → entered ≡ rows d (k + 1) - rows d k →
    HasShare (entries m rows k) part rest whole d × (slice_index (entries m rows k) d ≡ entered)
has_entered m rows k part rest whole d entered h l e = (
  has_share (entries m rows k) part rest whole d h (omega (arith, length-list_below m (λ i. rows i (k + 1) - rows i k))),
  index-list_below m (λ i. rows i (k + 1) - rows i k) d l ∙ sym e,
)

pub entered_within : (m : ℕ) (rows : ℕ → ℕ → ℕ) (k part rest whole d entered : ℕ) → IsMixing (entries m rows k) part rest whole d → d < m → entered ≡ rows d (k + 1) - rows d k → entered ≤ whole
entered_within m rows k part rest whole d entered h l e = let has = has_entered m rows k part rest whole d entered h l e in omega (arith, has.0.within, has.1)

-- the count of a destination and its share, and what is left after them
pub record Takes (m : ℕ) (rows : ℕ → ℕ → ℕ) (k part rest whole d before entered share : ℕ) : Type 0 where
  pub fits : before + share ≤ rows d (k + 1)
  pub is_mixed : before + share ≡ mixed m rows k part d
  pub next : IsMixing (entries m rows k) part (rest - share) (whole - entered) (d + 1)

pub takes : (m : ℕ) (rows : ℕ → ℕ → ℕ) (k part rest whole d before entered share : ℕ) → IsMixing (entries m rows k) part rest whole d → d < m → RowsRise m rows (k + 1) → part ≤ sum (entries m rows k) →
    before ≡ rows d k → entered ≡ rows d (k + 1) - rows d k → share ≡ rest * entered / whole → Takes m rows k part rest whole d before entered share
takes m rows k part rest whole d before entered share h l rise within is_before is_entered is_share =
    let has = has_entered m rows k part rest whole d entered h l is_entered in
    let same : rest * slice_index (entries m rows k) d / whole ≡ share = ap (λ (z : ℕ). rest * z / whole) has.1 ∙ sym is_share in
    let is_mixed : before + share ≡ mixed m rows k part d = omega (arith, same, has.0.share) in
    record {
      fits = omega (arith, is_mixed, mixed_next m rows k part d l (rise d k l (omega arith)) within);
      is_mixed = is_mixed;
      next = same_next (entries m rows k) part rest whole d (rest * slice_index (entries m rows k) d / whole) (slice_index (entries m rows k) d) share entered same has.1 has.0.next;
    }

-- two destinations: what of the part the first does not get is the other's
pub record MixedPair (m : ℕ) (rows : ℕ → ℕ → ℕ) (k part share : ℕ) : Type 0 where
  pub first : mixed m rows k part 0 ≡ rows 0 k + share
  pub other : mixed m rows k part 1 ≡ rows 1 k + (part - share)

mixed_pair : (rows : ℕ → ℕ → ℕ) (k part : ℕ) → part ≤ sum (entries 2 rows k) → MixedPair 2 rows k part (part * (rows 0 (k + 1) - rows 0 k) / (rows 0 (k + 1) - rows 0 k + (rows 1 (k + 1) - rows 1 k)))
mixed_pair rows k part within =
    let a : ℕ = rows 0 (k + 1) - rows 0 k in
    let b : ℕ = rows 1 (k + 1) - rows 1 k in
    let one : sum (b ∷ []) ≡ b = sum_by-cons (λ y. y) b [] ∙ omega arith in
    let share : part * a / (a + sum (b ∷ [])) ≡ part * a / (a + b) = ap (λ (z : ℕ). part * a / (a + z)) one in
    let rest : ℕ = slice_index (nested_split part (entries 2 rows k)) 1 in
    let all : sum (nested_split part (entries 2 rows k)) ≡ part = sum-nested_split (entries 2 rows k) part (λ none. omega arith) in
    let both : sum (nested_split part (entries 2 rows k)) ≡ part * a / (a + sum (b ∷ [])) + sum (rest ∷ []) = sum_by-cons (λ y. y) (part * a / (a + sum (b ∷ []))) (rest ∷ []) in
    let last : sum (rest ∷ []) ≡ rest = sum_by-cons (λ y. y) rest [] ∙ omega arith in
    record { first = omega (arith, share); other = omega (arith, share, all, both, last) }

pub mixed_two : (m : ℕ) (rows : ℕ → ℕ → ℕ) (k part share : ℕ) → m ≡ 2 → part ≤ sum (entries m rows k) → share ≡ part * (rows 0 (k + 1) - rows 0 k) / (rows 0 (k + 1) - rows 0 k + (rows 1 (k + 1) - rows 1 k)) → MixedPair m rows k part share
mixed_two m rows k part share two within e =
    subst (λ (z : ℕ). MixedPair m rows k part z) (sym e)
    (subst (λ (z : ℕ). MixedPair z rows k part (part * (rows 0 (k + 1) - rows 0 k) / (rows 0 (k + 1) - rows 0 k + (rows 1 (k + 1) - rows 1 k)))) (sym two)
    (mixed_pair rows k part (subst (λ (z : ℕ). part ≤ sum (entries z rows k)) two within)))
