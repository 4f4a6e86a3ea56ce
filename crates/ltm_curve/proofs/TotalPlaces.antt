-- Where totals lie in their tables.
use Rattle.std.proofs.Common.{◌≡◌, ◌≢◌, ℕ, ◌+◌, ◌*◌, ◌-◌, ◌<◌, ◌≤◌, ◌⊎◌, ◌++◌, Bool, true, false, nat_le, take, drop, if◌then◌else◌, List, length, replicate, slice_index, slice_set, arith, inl, inr, ap, sym, ◌∙◌, get_or-set_same, get_or-set_other}
use Rattle.std.proofs.Math.Nat.{mul-le-mul_right}
use Rattle.std.proofs.lemmas.Bool.{cases_eq, cases_lt}
use Rattle.std.proofs.lemmas.Bool.Decides.{nat_tests}
use Rattle.std.proofs.lemmas.Nat.{same_from_place}
use Rattle.std.proofs.lemmas.List.{length-take-le, length-drop}
use Rattle.ltm_curve.specs.declared.curves.Curves.{Curves}
use Rattle.ltm_curve.specs.declared.total_curves.TotalCurves.{TotalCurves}
use Rattle.ltm_curve.specs.Table.{groups_of, slots_of, total_of}
use Rattle.ltm_curve.specs.Totals.{row_sum, capped}
use Rattle.ltm_curve.specs.TotalCurves.{total_slots, total_at, IsTotal, SetsTotal, AreNarrow}
use Rattle.ltm_curve.proofs.Longer.{at_old, at_new}
use Rattle.ltm_curve.proofs.Kept.{capped_small}
use Rattle.ltm_curve.proofs.Lists.{part_at}
use Rattle.ltm_curve.proofs.PutOver.{put_over, before_over, in_over, after_over, outside}

is_last : (n g : ℕ) → n ≤ g → nat_le n g ≡ true
is_last n g l = grind (arith, nat_tests)

is_narrow : (n g : ℕ) → g < n → nat_le n g ≡ false
is_narrow n g l = grind (arith, nat_tests)

-- a total by the table in which it lies
at_last : (t : TotalCurves) (g k : ℕ) → t.narrow ≤ g → total_at t g k ≡ slice_index t.last.items k
unfolding total_at
at_last t g k l = ap (λ (b : Bool). if b then slice_index t.last.items k else slice_index t.totals.items (k * t.narrow + g)) (is_last t.narrow g l)

pub at_narrow : (t : TotalCurves) (g k : ℕ) → g < t.narrow → total_at t g k ≡ slice_index t.totals.items (k * t.narrow + g)
unfolding total_at
at_narrow t g k l = ap (λ (b : Bool). if b then slice_index t.last.items k else slice_index t.totals.items (k * t.narrow + g)) (is_narrow t.narrow g l)

-- the same, where another table has as many groups
at_narrow_as : (a b : TotalCurves) (g k : ℕ) → a.narrow ≡ b.narrow → g < b.narrow → total_at a g k ≡ slice_index a.totals.items (k * b.narrow + g)
at_narrow_as a b g k e l = at_narrow a g k (omega arith) ∙ ap (λ (z : ℕ). slice_index a.totals.items (k * z + g)) e

-- tables with the same numbers have the same totals
pub same_everywhere : (a b : TotalCurves) → a.narrow ≡ b.narrow → a.totals.items ≡ b.totals.items → a.last.items ≡ b.last.items → total_at a ≡ total_at b
unfolding total_at
same_everywhere a b groups totals last = λ i g k. if nat_le (groups i) g then slice_index (last i) k else slice_index (totals i) (k * groups i + g)

-- a total is set in one of the tables
pub sets_narrow : (old new : TotalCurves) (g k v at : ℕ) → g < old.narrow → new.narrow ≡ old.narrow → new.slots ≡ old.slots → at ≡ k * old.narrow + g → at < length old.totals.items →
    new.totals.items ≡ slice_set old.totals.items at v → new.last.items ≡ old.last.items → SetsTotal old new g k v
sets_narrow old new g k v at l groups slots is_at within set last = record {
  shape = record { same_groups = ap (λ (z : ℕ). z + 1) groups; same_slots = slots };
  here = at_narrow_as new old g k groups l
      ∙ (ap (slice_index new.totals.items) (sym is_at) ∙ (ap (λ (xs : List ℕ). slice_index xs at) set ∙ get_or-set_same old.totals.items at v 0 within));
  others = λ h j x differs.
      elim (cases_lt h old.narrow) [
        | inl low ↦
            let apart : j * old.narrow + h ≢ at = λ e. let same = same_from_place j h k g old.narrow low l (e ∙ is_at) in elim differs [ inl a ↦ a same.1 | inr b ↦ b same.0 ] in
            at_narrow_as new old h j groups low
            ∙ (ap (λ (xs : List ℕ). slice_index xs (j * old.narrow + h)) set ∙ (get_or-set_other old.totals.items at (j * old.narrow + h) v 0 apart ∙ sym (at_narrow old h j low)))
        | inr high ↦ at_last new h j (omega arith) ∙ (ap (λ (xs : List ℕ). slice_index xs j) last ∙ sym (at_last old h j high))
      ];
}

pub sets_last : (old new : TotalCurves) (g k v : ℕ) → IsTotal old g k → old.narrow ≤ g → new.narrow ≡ old.narrow → new.slots ≡ old.slots → k < length old.last.items →
    new.last.items ≡ slice_set old.last.items k v → new.totals.items ≡ old.totals.items → SetsTotal old new g k v
sets_last old new g k v here l groups slots within set totals = record {
  shape = record { same_groups = ap (λ (z : ℕ). z + 1) groups; same_slots = slots };
  here = at_last new g k (omega arith) ∙ (ap (λ (xs : List ℕ). slice_index xs k) set ∙ get_or-set_same old.last.items k v 0 within);
  others = λ h j x differs.
      elim (cases_lt h old.narrow) [
        | inl low ↦ at_narrow_as new old h j groups low ∙ (ap (λ (xs : List ℕ). slice_index xs (j * old.narrow + h)) totals ∙ sym (at_narrow old h j low))
        | inr high ↦
            let same : h ≡ g = omega (arith, x.is_group, here.is_group) in
            let apart : j ≢ k = elim differs [ inl a ↦ absurd (a same) | inr b ↦ b ] in
            at_last new h j (omega arith) ∙ (ap (λ (xs : List ℕ). slice_index xs j) set ∙ (get_or-set_other old.last.items k j v 0 apart ∙ sym (at_last old h j high)))
      ];
}

-- a row of the narrow table is written over
pub row_within : (t : TotalCurves) (k : ℕ) → k ≤ t.slots → k * t.narrow + t.narrow ≤ length t.totals.items
row_within t k l = let up : k + 1 ≤ t.slots + 1 = omega (arith, l) in omega (arith, t.long, mul-le-mul_right t.narrow up)

pub row_here : (old new : TotalCurves) (k : ℕ) (ys : List ℕ) (g : ℕ) → k ≤ old.slots → length ys ≡ old.narrow → new.narrow ≡ old.narrow →
    new.totals.items ≡ put_over (k * old.narrow) (k * old.narrow + old.narrow) old.totals.items ys → g < old.narrow → total_at new g k ≡ slice_index ys g
row_here old new k ys g l long groups over x =
    at_narrow_as new old g k groups x
    ∙ (ap (λ (xs : List ℕ). slice_index xs (k * old.narrow + g)) over ∙ in_over (k * old.narrow) (k * old.narrow + old.narrow) old.totals.items ys g (omega arith) (row_within old k l) (omega (arith, x, long)))

pub row_elsewhere : (old new : TotalCurves) (k : ℕ) (ys : List ℕ) (g j : ℕ) → k ≤ old.slots → length ys ≡ old.narrow → new.narrow ≡ old.narrow →
    new.totals.items ≡ put_over (k * old.narrow) (k * old.narrow + old.narrow) old.totals.items ys → new.last.items ≡ old.last.items → (j ≢ k) ⊎ (old.narrow ≤ g) → total_at new g j ≡ total_at old g j
row_elsewhere old new k ys g j l long groups over last other =
    elim (cases_lt g old.narrow) [
      | inl low ↦
          let apart : j ≢ k = elim other [ inl a ↦ a | inr b ↦ absurd (omega (arith, b, low)) ] in
          let same : length ys ≡ k * old.narrow + old.narrow - k * old.narrow = omega (arith, long) in
          let kept : slice_index (put_over (k * old.narrow) (k * old.narrow + old.narrow) old.totals.items ys) (j * old.narrow + g) ≡ slice_index old.totals.items (j * old.narrow + g) =
          elim (outside k j g old.narrow apart low) [
            | inl before ↦ before_over (k * old.narrow) (k * old.narrow + old.narrow) old.totals.items ys (j * old.narrow + g) (omega arith) (row_within old k l) before
            | inr after ↦ after_over (k * old.narrow) (k * old.narrow + old.narrow) old.totals.items ys (j * old.narrow + g) (omega arith) (row_within old k l) same after
          ] in
          at_narrow_as new old g j groups low ∙ (ap (λ (xs : List ℕ). slice_index xs (j * old.narrow + g)) over ∙ (kept ∙ sym (at_narrow old g j low)))
      | inr high ↦ at_last new g j (omega (arith, high, groups)) ∙ (ap (λ (xs : List ℕ). slice_index xs j) last ∙ sym (at_last old g j high))
    ]

-- where each number of the row is the total of curves or stays, so is each total
pub row_copied : (old new : TotalCurves) (c : Curves) (k : ℕ) (ys : List ℕ) → k ≤ old.slots → length ys ≡ old.narrow → new.narrow ≡ old.narrow →
    new.totals.items ≡ put_over (k * old.narrow) (k * old.narrow + old.narrow) old.totals.items ys → new.last.items ≡ old.last.items →
    ((g : ℕ) → g < old.narrow → (slice_index ys g ≡ total_of c g k) ⊎ (slice_index ys g ≡ total_at old g k)) →
    (g j : ℕ) → (total_at new g j ≡ total_of c g j) ⊎ (total_at new g j ≡ total_at old g j)
row_copied old new c k ys l long groups over last either g j =
    elim (cases_lt g old.narrow) [
      | inl low ↦ elim (cases_eq j k) [
        | inl e ↦
            let here : total_at new g j ≡ slice_index ys g = ap (total_at new g) e ∙ row_here old new k ys g l long groups over low in
            elim (either g low) [ inl a ↦ inl (here ∙ (a ∙ ap (total_of c g) (sym e))) | inr b ↦ inr (here ∙ (b ∙ ap (total_at old g) (sym e))) ]
        | inr apart ↦ inr (row_elsewhere old new k ys g j l long groups over last (inl apart))
      ]
      | inr high ↦ inr (row_elsewhere old new k ys g j l long groups over last (inr high))
    ]

-- a row that is lent
pub row_long : (xs : List ℕ) (a n : ℕ) → a + n ≤ length xs → length (take (a + n - a) (drop a xs)) ≡ n
row_long xs a n l = omega (arith, length-take-le (a + n - a) (drop a xs) (omega (arith, l, length-drop a xs)))

pub row_at : (t : TotalCurves) (k g : ℕ) (xs : List ℕ) → xs ≡ t.totals.items → g < t.narrow → slice_index (take (k * t.narrow + t.narrow - k * t.narrow) (drop (k * t.narrow) xs)) g ≡ total_at t g k
row_at t k g xs same l =
    part_at xs (k * t.narrow) t.narrow g l ∙ (ap (λ (ys : List ℕ). slice_index ys (k * t.narrow + g)) same ∙ sym (at_narrow t g k l))

-- what is kept of a total that fits in 32 bits is the total
pub total_is : (c : Curves) (k g : ℕ) (numbers : List ℕ) (each : ℕ) → AreNarrow c → k ≤ slots_of c → ((h : ℕ) → h < groups_of c → row_sum numbers each h ≡ capped (total_of c h k)) → g + 1 < groups_of c → row_sum numbers each g ≡ total_of c g k
total_is c k g numbers each narrow slot kept l = kept g (omega (arith, l)) ∙ capped_small (total_of c g k) (narrow g k l slot)

-- where zeros come behind both tables, the totals that were there stay, and further ones are 0
pub kept_in : (old new : TotalCurves) (n m g k : ℕ) → new.narrow ≡ old.narrow → new.totals.items ≡ old.totals.items ++ replicate n 0 → new.last.items ≡ old.last.items ++ replicate m 0 → IsTotal old g k →
    total_at new g k ≡ total_at old g k
kept_in old new n m g k groups totals last x =
    elim (cases_lt g old.narrow) [
      | inl low ↦
          let row : (k + 1) * old.narrow ≤ (old.slots + 1) * old.narrow = mul-le-mul_right old.narrow (let up : k + 1 ≤ old.slots + 1 = omega (arith, x.is_boundary) in up) in
          at_narrow_as new old g k groups low
          ∙ (ap (λ (xs : List ℕ). slice_index xs (k * old.narrow + g)) totals ∙ (at_old old.totals.items n (k * old.narrow + g) (omega (arith, old.long)) ∙ sym (at_narrow old g k low)))
      | inr high ↦ at_last new g k (omega arith) ∙ (ap (λ (xs : List ℕ). slice_index xs k) last ∙ (at_old old.last.items m k (omega (arith, old.last_long, x.is_boundary)) ∙ sym (at_last old g k high)))
    ]

pub none_past : (old new : TotalCurves) (n m g k : ℕ) → new.narrow ≡ old.narrow → new.totals.items ≡ old.totals.items ++ replicate n 0 → new.last.items ≡ old.last.items ++ replicate m 0 → total_slots old < k →
    total_at new g k ≡ 0
none_past old new n m g k groups totals last past =
    elim (cases_lt g old.narrow) [
      | inl low ↦
          let row : (old.slots + 1) * old.narrow ≤ k * old.narrow = mul-le-mul_right old.narrow (let up : old.slots + 1 ≤ k = omega arith in up) in
          at_narrow_as new old g k groups low ∙ (ap (λ (xs : List ℕ). slice_index xs (k * old.narrow + g)) totals ∙ at_new old.totals.items n (k * old.narrow + g) (omega (arith, old.long)))
      | inr high ↦ at_last new g k (omega arith) ∙ (ap (λ (xs : List ℕ). slice_index xs k) last ∙ at_new old.last.items m k (omega (arith, old.last_long)))
    ]
