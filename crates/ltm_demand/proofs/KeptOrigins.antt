-- What the origins of a demand keep.
use Rattle.std.proofs.Common.{◌≡◌, ◌≢◌, ◌==◌, ℕ, ◌+◌, ◌<◌, ◌≤◌, ◌^◌, Bool, true, false, cond, zero, suc, List, [], ◌∷◌, ◌++◌, length, get_or, set, All, arith, refl, ap, sym, subst, ◌∙◌, inl, inr}
use Rattle.std.specs.List.Sorted.{IsStrictlySortedBy}
use Rattle.std.proofs.lemmas.Bool.{cases_lt}
use Rattle.std.proofs.lemmas.Bool.Decides.{nat_tests}
use Rattle.std.proofs.Math.ListN.{get_or-map}
use Rattle.std.proofs.lemmas.List.Concat.{flat_map-cons}
use Rattle.std.proofs.lemmas.Grind.{flat_map-append}
use Rattle.std.proofs.lemmas.List.{get_or-set_same, get_or-set_other, get_or_past, append-nil}
use Rattle.std.proofs.lemmas.List.Elements.{All-nil, All-filter}
use Rattle.ltm_demand.specs.declared.row.DemandRow.{DemandRow}
use Rattle.ltm_demand.specs.Rows.{OriginRoom, IsNoLess, room_at, edited_rows, with_amount, has_slots, before, standing, behind, IsDemandRow}
use Rattle.ltm_demand.specs.Produced.{produced, part, joins, by_end, by_end_to, total, origin_part, origin_by_end}
use Rattle.ltm_demand.specs.Productions.{ProductionData, seen, seen_by_end, told, no_table, IsShifted, IsRoomy, IsReached}
use Rattle.ltm_demand.specs.Origins.{OriginData, no_origin, origin_at, rows_of, IsAlike}
use Rattle.ltm_demand.specs.Kept.{AreDemandRows, IsKept, room_in, room_of}
use Rattle.ltm_demand.specs.Places.{IsAt, IsGap}
use Rattle.ltm_units.specs.Bounds.{most_amount, most_rows}
use Rattle.ltm_demand.proofs.Told.{told_empty}
use Rattle.ltm_demand.proofs.State.{IsWas, rows_edited, all_edited, all_shown, seen_edited, seen_was, seen_le, origin_edited, origin_part_was, total_le}
use Rattle.ltm_demand.proofs.Destinations.{origin_by_end_le}
use Rattle.ltm_demand.proofs.Joined.{own_joined, set_joined, set_parted, parted_at, front, back}

pub kept_nothing : (slots most : ℕ) (tabled : Bool) → most ≤ most_rows → IsKept slots most tabled 0 []
unfolding IsStrictlySortedBy
kept_nothing slots most tabled few = record {
  are_rows = record { ordered = tt; each = All-nil (IsDemandRow slots); few = omega arith; bounded = few };
  counted = refl;
  own = λ o. All-nil (λ r. r.origin.0 ≡ o);
  reached = λ o. All-nil (λ r. IsReached no_table (seen tabled r));
  each = λ o d t. told_empty no_table (d + 1) t refl;
  all = λ o t. told_empty no_table 0 t refl;
}

-- origins with the same rows and tables that say the same
pub kept_alike : (slots most : ℕ) (tabled : Bool) (count : ℕ) (old new : List OriginData) → ((o : ℕ) → IsAlike (origin_at old o) (origin_at new o)) → rows_of new ≡ rows_of old → IsKept slots most tabled count old → IsKept slots most tabled count new
kept_alike slots most tabled count old new alike same kept = record {
  are_rows = subst (AreDemandRows slots most) (sym same) kept.are_rows;
  counted = kept.counted ∙ ap length (sym same);
  own = λ o. subst (All (λ r. r.origin.0 ≡ o)) (sym (alike o).rows) (kept.own o);
  reached = λ o. subst (All (λ r. IsReached (origin_at new o).table (seen tabled r))) (sym (alike o).rows) (λ k d below. record { destination = omega (arith, (kept.reached o k d below).destination, (alike o).destinations); end = omega (arith, (kept.reached o k d below).end, (alike o).slots) });
  each = λ o d t. (alike o).told (d + 1) t ∙ (kept.each o d t ∙ ap (λ rows. seen_by_end tabled rows o d t) (sym same));
  all = λ o t. (alike o).told 0 t ∙ (kept.all o t ∙ ap (λ rows. origin_by_end rows o t) (sym same));
}

pub alike : (x : OriginData) → IsAlike x x
alike x = record { rows = refl; told = λ c t. refl; destinations = omega arith; slots = omega arith }

-- one more origin that has no row says nothing new
new_alike : (x : OriginData) → x.rows ≡ [] → x.table ≡ no_table → IsAlike no_origin x
new_alike x rows table = record { rows = rows; told = λ c t. ap (λ (d : ProductionData). told d c t) table; destinations = omega arith; slots = omega arith }

pub push_alike : (xs : List OriginData) (x : OriginData) → x.rows ≡ [] → x.table ≡ no_table → (o : ℕ) → IsAlike (origin_at xs o) (origin_at (xs ++ x ∷ []) o)
push_alike [] x rows table zero = new_alike x rows table
push_alike [] x rows table (suc o) = alike no_origin
push_alike (y ∷ ys) x rows table zero = alike y
push_alike (y ∷ ys) x rows table (suc o) = push_alike ys x rows table o

pub push_places : (xs : List OriginData) (x : OriginData) (o : ℕ) → (origin_at xs o).places ≤ (origin_at (xs ++ x ∷ []) o).places
push_places [] x zero = omega arith
push_places [] x (suc o) = omega arith
push_places (y ∷ ys) x zero = omega arith
push_places (y ∷ ys) x (suc o) = push_places ys x o

pub push_rows : (xs : List OriginData) (x : OriginData) → x.rows ≡ [] → rows_of (xs ++ x ∷ []) ≡ rows_of xs
push_rows xs x none = flat_map-append (λ (y : OriginData). y.rows) xs (x ∷ []) ∙ ap (λ t. rows_of xs ++ (t ++ [])) none ∙ append-nil (rows_of xs)

pub alike_through : (a b c : OriginData) → IsAlike a b → IsAlike b c → IsAlike a c
alike_through a b c p q = record { rows = q.rows ∙ p.rows; told = λ k t. q.told k t ∙ p.told k t; destinations = omega (arith, p.destinations, q.destinations); slots = omega (arith, p.slots, q.slots) }

-- one origin in place of another
at_set : (xs : List OriginData) (i : ℕ) (x : OriginData) → i < length xs → (o : ℕ) → (P : OriginData → Type 0) → (o ≡ i → P x) → (o ≢ i → P (origin_at xs o)) → P (origin_at (set xs i x) o)
at_set xs i x inside o P here there = elim (o == i) as (λ b. (o == i) ≡ b → P (origin_at (set xs i x) o)) [
  | true ↦ λ e.
      let same : o ≡ i = grind (arith, nat_tests) in
      subst P (sym (ap (λ n. get_or (set xs i x) n no_origin) same ∙ get_or-set_same xs i x no_origin inside)) (here same)
  | false ↦ λ e.
      let apart : o ≢ i = grind (arith, nat_tests) in
      subst P (sym (get_or-set_other xs i o x no_origin apart)) (there apart)
] refl

part_elsewhere : (o d t : ℕ) (row : DemandRow) → o ≢ row.origin.0 → part o d t row ≡ 0
unfolding part
part_elsewhere o d t row other = let e : joins o d row ≡ false = grind (arith, nat_tests) in ap (λ b. cond b (produced row.from row.to row.amount.0 t) 0) e

origin_elsewhere : (o t : ℕ) (row : DemandRow) → o ≢ row.origin.0 → origin_part o t row ≡ 0
unfolding origin_part
origin_elsewhere o t row other = let e : (row.origin.0 == o) ≡ false = grind (arith, nat_tests) in ap (λ b. cond b (produced row.from row.to row.amount.0 t) 0) e

-- whatever its destination
seen_part : (tabled : Bool) (o t : ℕ) (row : DemandRow) → origin_part o t (seen tabled row) ≡ origin_part o t row
unfolding origin_part
seen_part tabled o t row = refl

-- once a row is set in the rows of its origin, and told to its table
pub kept_set : (slots most : ℕ) (tabled : Bool) (count count' : ℕ) (xs : List OriginData) (row : DemandRow) (was : ℕ) (x : OriginData) → IsKept slots most tabled count xs → row.origin.0 < length xs → IsWas (rows_of xs) row was → has_slots slots row ≡ true → row.amount.0 ≤ most_amount →
    length (edited_rows (rows_of xs) row) ≤ most → x.rows ≡ edited_rows (origin_at xs row.origin.0).rows row → IsShifted (origin_at xs row.origin.0).table x.table (seen tabled row) was → IsReached (origin_at xs row.origin.0).table (seen tabled row) → count' ≡ length (edited_rows (rows_of xs) row) →
    IsKept slots most tabled count' (set xs row.origin.0 x)
kept_set slots most tabled count count' xs row was x kept inside is in' small few rows shifted reached counts =
    let i = row.origin.0 in
    let joined : rows_of (set xs i x) ≡ edited_rows (rows_of xs) row = set_joined xs kept.own row x inside rows in
    record {
      are_rows = subst (AreDemandRows slots most) (sym joined) (rows_edited slots most (rows_of xs) row kept.are_rows in' small few);
      counted = counts ∙ ap length (sym joined);
      own = λ o. at_set xs i x inside o (λ y. All (λ r. r.origin.0 ≡ o) y.rows)
          (λ here. subst (All (λ r. r.origin.0 ≡ o)) (sym rows) (subst (λ n. All (λ r. r.origin.0 ≡ n) (edited_rows (origin_at xs i).rows row)) (sym here) (all_edited (λ r. r.origin.0 ≡ i) (origin_at xs i).rows row (kept.own i) (all_shown (λ r. r.origin.0 ≡ i) row refl))))
          (λ apart. kept.own o);
      reached = λ o. at_set xs i x inside o (λ y. All (λ r. IsReached y.table (seen tabled r)) y.rows)
          (λ here. subst (All (λ r. IsReached x.table (seen tabled r))) (sym rows) (λ k d below.
          let r = all_edited (λ r. IsReached (origin_at xs i).table (seen tabled r)) (origin_at xs i).rows row (kept.reached i) (all_shown (λ r. IsReached (origin_at xs i).table (seen tabled r)) row reached) k d below in
          record { destination = omega (arith, r.destination, shifted.destinations); end = omega (arith, r.end, shifted.slots) }))
          (λ apart. kept.reached o);
      each = λ o d t. at_set xs i x inside o (λ y. told y.table (d + 1) t ≡ seen_by_end tabled (rows_of (set xs i x)) o d t)
          (λ here. ap (λ n. told x.table (d + 1) t) here ∙ (omega (arith, shifted.each d t, kept.each i d t, seen_edited tabled (rows_of xs) row was i d t is, ap (λ rs. seen_by_end tabled rs i d t) joined, ap (λ n. seen_by_end tabled (rows_of (set xs i x)) n d t) here)))
          (λ apart. omega (arith, kept.each o d t, seen_edited tabled (rows_of xs) row was o d t is, ap (λ rs. seen_by_end tabled rs o d t) joined, part_elsewhere o d t (seen tabled row) apart, part_elsewhere o d t (seen tabled (with_amount row was)) apart));
      all = λ o t. at_set xs i x inside o (λ y. told y.table 0 t ≡ origin_by_end (rows_of (set xs i x)) o t)
          (λ here. omega (arith, shifted.all t, seen_part tabled i t row, seen_part tabled i t (with_amount row was), kept.all i t, origin_edited (rows_of xs) row was i t is, ap (λ rs. origin_by_end rs i t) joined, ap (λ n. origin_by_end (rows_of (set xs i x)) n t) here))
          (λ apart. omega (arith, kept.all o t, origin_edited (rows_of xs) row was o t is, ap (λ rs. origin_by_end rs o t) joined, origin_elsewhere o t row apart, origin_elsewhere o t (with_amount row was) apart));
    }

part_own : (row : DemandRow) (was t : ℕ) → part row.origin.0 row.destination t (with_amount row was) ≡ produced row.from row.to was t
unfolding part
part_own row was t = let e : joins row.origin.0 row.destination row ≡ true = grind (arith, nat_tests) in ap (λ b. cond b (produced row.from row.to was t) 0) e

origin_own : (row : DemandRow) (was t : ℕ) → origin_part row.origin.0 t (with_amount row was) ≡ produced row.from row.to was t
unfolding origin_part
origin_own row was t = let e : (row.origin.0 == row.origin.0) ≡ true = grind (arith, nat_tests) in ap (λ b. cond b (produced row.from row.to was t) 0) e

-- the table of a row's origin has what stood, and room for more
pub roomy_was : (slots most : ℕ) (tabled : Bool) (count : ℕ) (xs : List OriginData) (row : DemandRow) (was : ℕ) → IsKept slots most tabled count xs → IsWas (rows_of xs) row was → IsRoomy (origin_at xs row.origin.0).table (seen tabled row) was
roomy_was slots most tabled count xs row was kept is =
    let o = row.origin.0 in
    let rows = rows_of xs in
    record {
      has = λ k t which. elim which [
        | inl all ↦ subst (λ n. produced row.from row.to was t ≤ told (origin_at xs o).table n t) (sym all) (omega (arith, kept.all o t, origin_part_was rows row was o t is, origin_own row was t))
        | inr own ↦ subst (λ n. produced row.from row.to was t ≤ told (origin_at xs o).table n t) (sym own) (omega (arith, kept.each o (seen tabled row).destination t, seen_was tabled rows row was o (seen tabled row).destination t is, part_own (seen tabled row) was t))
      ];
      room = λ k t which. elim which [
        | inl all ↦ subst (λ n. told (origin_at xs o).table n t < 2 ^ 63) (sym all) (omega (arith, kept.all o t, origin_by_end_le rows o t, total_le slots most rows kept.are_rows))
        | inr own ↦ subst (λ n. told (origin_at xs o).table n t < 2 ^ 63) (sym own) (omega (arith, kept.each o (seen tabled row).destination t, seen_le tabled rows o (seen tabled row).destination t, total_le slots most rows kept.are_rows))
      ];
    }

-- the rows of an origin are rows within the horizon
pub each_own : (slots most : ℕ) (tabled : Bool) (count : ℕ) (xs : List OriginData) (o : ℕ) → IsKept slots most tabled count xs → All (IsDemandRow slots) (origin_at xs o).rows
each_own slots most tabled count xs o kept = subst (All (IsDemandRow slots)) (own_joined xs kept.own o) (All-filter (λ r. r.origin.0 == o) (IsDemandRow slots) (rows_of xs) kept.are_rows.each)

-- a place that has a row belongs to an origin
pub at_inside : (xs : List OriginData) (row : DemandRow) (i : ℕ) → IsAt (origin_at xs row.origin.0).rows row i → row.origin.0 < length xs
at_inside xs row i at = elim (cases_lt row.origin.0 (length xs)) [
  | inl inside ↦ inside
  | inr past ↦ absurd (let none : length (origin_at xs row.origin.0).rows ≡ 0 = ap (λ (x : OriginData). length x.rows) (get_or_past xs row.origin.0 no_origin past) in omega (arith, none, at.within))
]

pub empty_gap : (row : DemandRow) → IsGap [] row 0
unfolding before standing behind
empty_gap row = record { within = omega arith; before_is = refl; standing_is = refl; behind_is = refl }

-- the room of an origin among that of all
pub room_is : (xs : List OriginData) (o : ℕ) → room_at (room_of xs) o ≡ room_in (origin_at xs o)
room_is xs o = get_or-map room_in xs o no_origin

pub no_less : (r : OriginRoom) → IsNoLess r r
no_less r = record { rows = omega arith; destinations = omega arith; slots = omega arith }

-- the room is no less where that of one origin is no less
pub room_set : (xs : List OriginData) (i : ℕ) (x : OriginData) → i < length xs → IsNoLess (room_in (origin_at xs i)) (room_in x) → (o : ℕ) → IsNoLess (room_at (room_of xs) o) (room_at (room_of (set xs i x)) o)
room_set xs i x inside keeps o =
    subst (λ (r : OriginRoom). IsNoLess r (room_at (room_of (set xs i x)) o)) (sym (room_is xs o))
    (subst (λ (r : OriginRoom). IsNoLess (room_in (origin_at xs o)) r) (sym (room_is (set xs i x) o))
    (at_set xs i x inside o (λ y. IsNoLess (room_in (origin_at xs o)) (room_in y)) (λ here. subst (λ n. IsNoLess (room_in (origin_at xs n)) (room_in x)) (sym here) keeps) (λ apart. no_less (room_in (origin_at xs o)))))

pub no_less_through : (a b c : OriginRoom) → IsNoLess a b → IsNoLess b c → IsNoLess a c
no_less_through a b c p q = record { rows = omega (arith, p.rows, q.rows); destinations = omega (arith, p.destinations, q.destinations); slots = omega (arith, p.slots, q.slots) }

pub room_alike : (xs ys : List OriginData) → ((o : ℕ) → IsAlike (origin_at xs o) (origin_at ys o)) → ((o : ℕ) → (origin_at xs o).places ≤ (origin_at ys o).places) → (o : ℕ) → IsNoLess (room_at (room_of xs) o) (room_at (room_of ys) o)
room_alike xs ys alike places o =
    subst (λ (r : OriginRoom). IsNoLess r (room_at (room_of ys) o)) (sym (room_is xs o))
    (subst (λ (r : OriginRoom). IsNoLess (room_in (origin_at xs o)) r) (sym (room_is ys o)) (record { rows = places o; destinations = (alike o).destinations; slots = (alike o).slots }))

pub alike_set : (ys : List OriginData) (i : ℕ) (x : OriginData) → i < length ys → IsAlike (origin_at ys i) x → (o : ℕ) → IsAlike (origin_at ys o) (origin_at (set ys i x) o)
alike_set ys i x inside is o = at_set ys i x inside o (IsAlike (origin_at ys o)) (λ here. subst (λ n. IsAlike (origin_at ys n) x) (sym here) is) (λ apart. alike (origin_at ys o))

pub rows_set : (ys : List OriginData) (i : ℕ) (x : OriginData) → i < length ys → x.rows ≡ (origin_at ys i).rows → rows_of (set ys i x) ≡ rows_of ys
rows_set ys i x inside is = set_parted ys i x inside ∙ ap (λ t. front ys i ++ (t ++ back ys i)) is ∙ sym (parted_at ys i)

-- copies have the rows and the tables of the origins
pub record IsCopy (old new : OriginData) : Type 0 where
  pub rows : new.rows ≡ old.rows
  pub table : new.table ≡ old.table

pub copied_rows : (xs ys : List OriginData) → length ys ≡ length xs → ((i : ℕ) → i < length xs → IsCopy (origin_at xs i) (origin_at ys i)) → rows_of ys ≡ rows_of xs
copied_rows [] [] long copy = refl
copied_rows [] (y ∷ ys) long copy = absurd (omega (arith, long))
copied_rows (x ∷ xs) [] long copy = absurd (omega (arith, long))
copied_rows (x ∷ xs) (y ∷ ys) long copy =
    flat_map-cons (λ (z : OriginData). z.rows) y ys
    ∙ (ap (λ t. t ++ rows_of ys) (copy zero (omega arith)).rows ∙ ap (λ t. x.rows ++ t) (copied_rows xs ys (omega (arith, long)) (λ i less. copy (suc i) (omega arith))))
    ∙ sym (flat_map-cons (λ (z : OriginData). z.rows) x xs)

copy_alike : (xs ys : List OriginData) → length ys ≡ length xs → ((i : ℕ) → i < length xs → IsCopy (origin_at xs i) (origin_at ys i)) → (o : ℕ) → IsAlike (origin_at xs o) (origin_at ys o)
copy_alike xs ys long copy o = elim (cases_lt o (length xs)) [
  | inl inside ↦
      let c = copy o inside in
      record { rows = c.rows; told = λ k t. ap (λ (d : ProductionData). told d k t) c.table; destinations = omega (arith, ap (λ (d : ProductionData). d.destinations) c.table); slots = omega (arith, ap (λ (d : ProductionData). d.slots) c.table) }
  | inr past ↦
      subst (λ (x : OriginData). IsAlike x (origin_at ys o)) (sym (get_or_past xs o no_origin past))
      (subst (λ (y : OriginData). IsAlike no_origin y) (sym (get_or_past ys o no_origin (omega (arith, long)))) (alike no_origin))
]

pub kept_copied : (slots most : ℕ) (tabled : Bool) (count : ℕ) (xs ys : List OriginData) → length ys ≡ length xs → ((i : ℕ) → i < length xs → IsCopy (origin_at xs i) (origin_at ys i)) → IsKept slots most tabled count xs → IsKept slots most tabled count ys
kept_copied slots most tabled count xs ys long copy kept = kept_alike slots most tabled count xs ys (copy_alike xs ys long copy) (copied_rows xs ys long copy) kept
