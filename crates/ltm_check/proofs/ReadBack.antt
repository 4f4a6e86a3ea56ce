-- A written curve file is one, and tells the counts that were written.
use Rattle.std.proofs.Common.{◌≡◌, ℕ, zero, suc, ◌+◌, ◌-◌, ◌*◌, ◌/◌, ◌%◌, ◌<◌, ◌≤◌, ◌^◌, ◌==◌, ◌&&◌, ◌||◌, Bool, true, false, nat_lt, nat_le, if◌then◌else◌, decimal, List, [], ◌∷◌, ◌++◌, length, slice_index, slice_index_or, Some, None, codes, inl, inr, refl, sym, ap, subst, ◌∙◌, arith, append_assoc, length-append}
use Rattle.std.specs.Prelude.{slice_get}
use Rattle.std.specs.List.{list_all}
use Rattle.std.proofs.Math.Nat.{mul-le-mul_left}
use Rattle.std.proofs.Math.Dec.{eqb}
use Rattle.std.proofs.lemmas.Bool.{cases_Bool, cases_lt, eq-eqb}
use Rattle.std.proofs.lemmas.Bool.Decides.{nat_tests}
use Rattle.std.proofs.lemmas.List.Folds.{list_all-append}
use Rattle.std.proofs.lemmas.Nat.{mul-add-lt, div-mul-add, mod-mul-add, div_below, mod_below}
use Rattle.std.proofs.lemmas.Option.{slice_get_past, slice_get-get_or}
use Rattle.csv.specs.Reading.{default_config, records, strip_bom}
use Rattle.csv.specs.Writing.{default_writer, needs_byte, fields_text, is_blank, row_body, row_text}
use Rattle.csv.proofs.RoundTrip.{rows_text}
use Rattle.ltm_units.specs.Words.{is_name, is_name_byte}
use Rattle.ltm_units.specs.Numbers.{is_digit}
use Rattle.ltm_curve.specs.Counts.{Counts}
use Rattle.ltm_curve.specs.First.{list_below}
use Rattle.ltm_curve.proofs.Lists.{index-list_below}
use Rattle.ltm_scenario.specs.Network.{link_name, node_name}
use Rattle.ltm_scenario.specs.Data.{ScenarioData}
use Rattle.ltm_scenario.specs.Reads.{destination_node, destination_name}
use Rattle.ltm_records.specs.Fields.{Fields, same}
use Rattle.ltm_records.specs.Left.{records_of}
use Rattle.ltm_loading.specs.Setting.{IsSetting}
use Rattle.ltm_loading.specs.Groups.{up_of, groups}
use Rattle.ltm_setting.specs.Setting.{setting_of}
use Rattle.ltm_check.specs.Due.{record_count, record_place, group_at, destination_at, link_groups, node_groups_end, kind_of, name_of}
use Rattle.ltm_check.specs.CountsTold.{counts_told}
use Rattle.ltm_check.specs.File.{counts_in, or_no_counts, counts_at, fault_of, told, told_by, AreRightBelow, IsCurveFile}
use Rattle.ltm_units.specs.Texts.{texts_below}
use Rattle.ltm_check.specs.Text.{further_count, counts_text, due_text, record_text, header_text, group_text, curves_file}
use Rattle.ltm_check.specs.ReadBack.{AreNamed, CanBeTold, WrittenIsRead}
use Rattle.ltm_check.proofs.DigitsBack.{decimal_digits}
use Rattle.ltm_check.proofs.Joined.{text_told}
use Rattle.ltm_check.proofs.Placing.{fault_here, no_fault}
use Rattle.ltm_check.proofs.RowsWritten.{IsPlain, rows_below, length-rows_below, row_below, rows_are_texts, rows_text_first, texts_by_place, texts_same, four_text, rows_back}

-- ---- the rows
abbrev header : Fields
header = codes "kind" ∷ codes "name" ∷ codes "destination" ∷ codes "counts" ∷ []

abbrev row_of : ScenarioData → Counts → ℕ → ℕ → Fields
row_of s c g d = kind_of s g ∷ name_of s g d ∷ destination_name s d ∷ counts_text (setting_of s).slots (c g d) ∷ []

abbrev row_at : ScenarioData → Counts → ℕ → Fields
row_at s c place = row_of s c (group_at s place) (destination_at s place)

abbrev all_rows : ScenarioData → Counts → List Fields
all_rows s c = rows_below (record_count s) (row_at s c)

-- ---- fields that call for no quotes
all_plain : (p : ℕ → Bool) (xs : List ℕ) → ((b : ℕ) → p b ≡ true → needs_byte default_writer b ≡ false) → list_all p xs ≡ true → IsPlain xs
all_plain p [] plain all = refl
all_plain p (x ∷ xs) plain all = elim (cases_Bool (p x)) [
  | inl is ↦
      let rest : list_all p xs ≡ true = rw is at all in
      rw (plain x is, all_plain p xs plain rest) refl
  | inr isnt ↦ cc (rw isnt at all)
]

list_all_weaker : (p q : ℕ → Bool) (xs : List ℕ) → ((b : ℕ) → p b ≡ true → q b ≡ true) → list_all p xs ≡ true → list_all q xs ≡ true
list_all_weaker p q [] weaker all = refl
list_all_weaker p q (x ∷ xs) weaker all = elim (cases_Bool (p x)) [
  | inl is ↦
      let rest : list_all p xs ≡ true = rw is at all in
      rw (weaker x is, list_all_weaker p q xs weaker rest) refl
  | inr isnt ↦ cc (rw isnt at all)
]

name_byte_plain : (b : ℕ) → is_name_byte b ≡ true → needs_byte default_writer b ≡ false
name_byte_plain b is = grind (arith, nat_tests)

both_hold : (a b c : Bool) → (a && b && c) ≡ true → c ≡ true
both_hold true true c e = e
both_hold true false c e = cc e
both_hold false b c e = cc e

name_plain : (x : List ℕ) → is_name x ≡ true → IsPlain x
name_plain x is = all_plain is_name_byte x name_byte_plain (both_hold (nat_le 1 (length x)) (nat_le (length x) 32) (list_all is_name_byte x) is)

abbrev is_count_byte : ℕ → Bool
is_count_byte b = is_digit b || (b == 32)

count_byte_plain : (b : ℕ) → is_count_byte b ≡ true → needs_byte default_writer b ≡ false
count_byte_plain b is = grind (arith, nat_tests)

-- one of three texts
pick : (b c : Bool) (x y z : List ℕ) (P : List ℕ → Type 0) → (b ≡ true → P x) → (b ≡ false → c ≡ true → P y) → (b ≡ false → c ≡ false → P z) → P (if b then x else if c then y else z)
pick true c x y z P first second third = first refl
pick false true x y z P first second third = second refl refl
pick false false x y z P first second third = third refl refl

end_plain : (b : Bool) → IsPlain (if b then codes "up" else codes "down")
end_plain true = refl
end_plain false = refl

kind_plain : (s : ScenarioData) (g : ℕ) → IsPlain (kind_of s g)
kind_plain s g =
    pick (nat_lt g (link_groups s)) (nat_lt g (node_groups_end s)) (if g == up_of (g / 2) then codes "up" else codes "down") (codes "dep") (codes "arr") IsPlain
    (λ e. end_plain (g == up_of (g / 2))) (λ e f. refl) (λ e f. refl)

less_told : (a b : ℕ) → nat_lt a b ≡ true → a < b
less_told a b e = grind (arith, nat_tests)

more_told : (a b : ℕ) → nat_lt a b ≡ false → b ≤ a
more_told a b e = grind (arith, nat_tests)

destination_named : (s : ScenarioData) (d : ℕ) → IsSetting (setting_of s) → AreNamed s → d < (setting_of s).destinations → is_name (destination_name s d) ≡ true
unfolding setting_of
destination_named s d v named l = named.nodes (destination_node s d) (v.network.place_is_node d l)

name_named : (s : ScenarioData) (g d : ℕ) → IsSetting (setting_of s) → AreNamed s → d < (setting_of s).destinations → is_name (name_of s g d) ≡ true
name_named s g d v named l =
    pick (nat_lt g (link_groups s)) (nat_lt g (node_groups_end s)) (link_name s.network (g / 2)) (node_name s.network (g - link_groups s)) (destination_name s d) (λ x. is_name x ≡ true)
    (λ e. let low = less_told g (link_groups s) e in named.links (g / 2) (omega arith))
    (λ e f. let high = more_told g (link_groups s) e in let low = less_told g (node_groups_end s) f in named.nodes (g - link_groups s) (omega arith))
    (λ e f. destination_named s d v named l)

-- digits and spaces alone
digit_counts : (b : ℕ) → is_digit b ≡ true → is_count_byte b ≡ true
digit_counts b is = grind (arith, nat_tests)

any_count : (n : ℕ) → n < 2 ^ 64 → list_all is_count_byte (decimal n) ≡ true
any_count n l = list_all_weaker is_digit is_count_byte (decimal n) digit_counts (decimal_digits n l).digits

all_of_both : (p : ℕ → Bool) (xs ys : List ℕ) → list_all p xs ≡ true → list_all p ys ≡ true → list_all p (xs ++ ys) ≡ true
all_of_both p xs ys a b = list_all-append p xs ys ∙ rw (a, b) refl

spaced : (n : ℕ) → n < 2 ^ 64 → list_all is_count_byte (32 ∷ decimal n) ≡ true
spaced n l = let last = any_count n l in rw last refl

further_all : (n : ℕ) (f : ℕ → ℕ) → ((k : ℕ) → k ≤ n → f k < 2 ^ 64) → list_all is_count_byte (texts_below n (λ k. further_count (f (k + 1)))) ≡ true
unfolding further_count
further_all zero f small = refl
further_all (suc n) f small =
    all_of_both is_count_byte (texts_below n (λ k. further_count (f (k + 1)))) (32 ∷ decimal (f (n + 1))) (further_all n f (λ k l. small k (omega arith))) (spaced (f (n + 1)) (small (n + 1) (omega arith)))

counts_plain : (n : ℕ) (f : ℕ → ℕ) → ((k : ℕ) → k ≤ n → f k < 2 ^ 64) → IsPlain (counts_text n f)
unfolding counts_text
counts_plain n f small =
    all_plain is_count_byte (counts_text n f) count_byte_plain
    (all_of_both is_count_byte (decimal (f 0)) (texts_below n (λ k. further_count (f (k + 1)))) (any_count (f 0) (small 0 (omega arith))) (further_all n f small))

-- ---- the text is that of the rows
record_joined : (k n d t : List ℕ) → (k ++ 44 ∷ [] ++ n ++ 44 ∷ [] ++ d ++ 44 ∷ []) ++ t ++ 10 ∷ [] ≡ k ++ 44 ∷ (n ++ 44 ∷ (d ++ 44 ∷ (t ++ 10 ∷ [])))
record_joined k n d t =
    let tail : List ℕ = t ++ 10 ∷ [] in
    append_assoc (k ++ 44 ∷ [] ++ n ++ 44 ∷ [] ++ d ++ 44 ∷ []) t (10 ∷ [])
    ∙ (append_assoc (k ++ 44 ∷ [] ++ n ++ 44 ∷ [] ++ d) (44 ∷ []) tail
    ∙ (append_assoc (k ++ 44 ∷ [] ++ n ++ 44 ∷ []) d (44 ∷ tail)
    ∙ (append_assoc (k ++ 44 ∷ [] ++ n) (44 ∷ []) (d ++ 44 ∷ tail)
    ∙ (append_assoc (k ++ 44 ∷ []) n (44 ∷ (d ++ 44 ∷ tail)) ∙ append_assoc k (44 ∷ []) (n ++ 44 ∷ (d ++ 44 ∷ tail))))))

record_is_row : (s : ScenarioData) (c : Counts) (g d : ℕ) → IsSetting (setting_of s) → AreNamed s → CanBeTold (setting_of s) c → g < groups (setting_of s) → d < (setting_of s).destinations → record_text s c g d ≡ row_text default_writer (row_of s c g d)
unfolding record_text due_text
record_is_row s c g d v named few x y =
    record_joined (kind_of s g) (name_of s g d) (destination_name s d) (counts_text (setting_of s).slots (c g d))
    ∙ sym (four_text (kind_of s g) (name_of s g d) (destination_name s d) (counts_text (setting_of s).slots (c g d)) (kind_plain s g) (name_plain (name_of s g d) (name_named s g d v named y))
    (name_plain (destination_name s d) (destination_named s d v named y)) (counts_plain (setting_of s).slots (c g d) (λ k l. omega (arith, few g d k x y l))))

header_is_row : header_text ≡ row_text default_writer header
unfolding header_text fields_text is_blank
header_is_row = refl

group_is : (s : ScenarioData) (c : Counts) (g : ℕ) → group_text s c g ≡ texts_below (setting_of s).destinations (record_text s c g)
unfolding group_text
group_is s c g = refl

file_is : (s : ScenarioData) (c : Counts) → curves_file s c ≡ header_text ++ texts_below (groups (setting_of s)) (group_text s c)
unfolding curves_file
file_is s c = refl

some_wide : (p high wide : ℕ) → p < high * wide → 0 < wide
some_wide p high wide l = elim (cases_lt 0 wide) [ inl some ↦ some | inr none ↦ absurd (omega (arith, mul-le-mul_left high none)) ]

file_is_rows : (s : ScenarioData) (c : Counts) → IsSetting (setting_of s) → AreNamed s → CanBeTold (setting_of s) c → curves_file s c ≡ rows_text (header ∷ all_rows s c)
file_is_rows s c v named few =
    let high : ℕ = groups (setting_of s) in
    let wide : ℕ = (setting_of s).destinations in
    let body : texts_below high (group_text s c) ≡ rows_text (all_rows s c) =
    texts_same high (group_text s c) (λ g. texts_below wide (record_text s c g)) (λ g l. group_is s c g)
    ∙ (texts_by_place high wide (record_text s c)
    ∙ (texts_same (high * wide) (λ p. record_text s c (p / wide) (p % wide)) (λ p. row_text default_writer (row_at s c p))
    (λ p l. record_is_row s c (p / wide) (p % wide) v named few (div_below p wide high (some_wide p high wide l) l) (mod_below p wide (some_wide p high wide l)))
    ∙ sym (rows_are_texts (high * wide) (row_at s c)))) in
    file_is s c ∙ (ap (λ (z : List ℕ). z ++ texts_below high (group_text s c)) header_is_row ∙ (ap (λ (z : List ℕ). row_text default_writer header ++ z) body ∙ sym (rows_text_first header (all_rows s c))))

-- ---- and it is read as those rows
no_mark : (rest : List ℕ) → strip_bom (header_text ++ rest) ≡ header_text ++ rest
unfolding strip_bom header_text
no_mark rest = refl

ends_long : (row : Fields) → 1 ≤ length (row_text default_writer row)
ends_long row =
    let blank : List ℕ = if is_blank default_writer row then 34 ∷ 34 ∷ [] else [] in
    omega (arith, length-append (row_body default_writer row) (blank ++ 10 ∷ []), length-append blank (10 ∷ []))

rows_long : (rows : List Fields) → length rows ≤ length (rows_text rows)
rows_long [] = omega arith
rows_long (row ∷ rows) = omega (arith, ap length (rows_text_first row rows), length-append (row_text default_writer row) (rows_text rows), ends_long row, rows_long rows)

rows_some : (s : ScenarioData) (c : Counts) (k : ℕ) → k < length (header ∷ all_rows s c) → 1 ≤ length (slice_index_or (header ∷ all_rows s c) k [])
rows_some s c zero l = omega arith
rows_some s c (suc k) l =
    let inside : k < record_count s = omega (arith, length-rows_below (record_count s) (row_at s c)) in
    omega (arith, ap length (row_below (record_count s) (row_at s c) k inside))

records_are : (s : ScenarioData) (c : Counts) → IsSetting (setting_of s) → AreNamed s → CanBeTold (setting_of s) c → records_of (curves_file s c) ≡ header ∷ all_rows s c
records_are s c v named few =
    let text : curves_file s c ≡ rows_text (header ∷ all_rows s c) = file_is_rows s c v named few in
    let plain : strip_bom (curves_file s c) ≡ rows_text (header ∷ all_rows s c) = ap strip_bom (file_is s c) ∙ (no_mark (texts_below (groups (setting_of s)) (group_text s c)) ∙ (sym (file_is s c) ∙ text)) in
    ap (records default_config) plain
    ∙ rows_back (header ∷ all_rows s c) (length (rows_text (header ∷ all_rows s c)) + 1) (omega (arith, rows_long (header ∷ all_rows s c))) (rows_some s c)

-- ---- nothing is wrong with them, and they tell the counts
same_self : (x : List ℕ) → same x x ≡ true
same_self [] = refl
same_self (b ∷ xs) = let here : eqb b b ≡ true = eq-eqb b b refl in rw (here, same_self xs) refl

row_right : (s : ScenarioData) (c : Counts) (g d : ℕ) → CanBeTold (setting_of s) c → g < groups (setting_of s) → d < (setting_of s).destinations → fault_of s g d (row_of s c g d) ≡ None
row_right s c g d few x y =
    let told : counts_told ((setting_of s).slots + 1) (counts_text (setting_of s).slots (c g d)) ≡ Some (list_below ((setting_of s).slots + 1) (c g d)) = text_told (setting_of s).slots (c g d) (λ k l. few g d k x y l) in
    rw (same_self (kind_of s g), same_self (name_of s g d), same_self (destination_name s d), told) refl

row_counts : (s : ScenarioData) (c : Counts) (g d k : ℕ) → CanBeTold (setting_of s) c → g < groups (setting_of s) → d < (setting_of s).destinations → k ≤ (setting_of s).slots → slice_index (or_no_counts (counts_in s (row_of s c g d))) k ≡ c g d k
row_counts s c g d k few x y z =
    let told : counts_told ((setting_of s).slots + 1) (counts_text (setting_of s).slots (c g d)) ≡ Some (list_below ((setting_of s).slots + 1) (c g d)) = text_told (setting_of s).slots (c g d) (λ j l. few g d j x y l) in
    rw told (index-list_below ((setting_of s).slots + 1) (c g d) k (omega arith))

rows_right : (s : ScenarioData) (c : Counts) → CanBeTold (setting_of s) c → AreRightBelow s (all_rows s c) (record_count s + 1)
rows_right s c few place l = elim (cases_lt place (record_count s)) [
  | inl inside ↦
      let wide : ℕ = (setting_of s).destinations in
      let some : 0 < wide = some_wide place (groups (setting_of s)) wide inside in
      let there : slice_get (all_rows s c) place ≡ Some (row_at s c place) =
      slice_get-get_or (all_rows s c) place [] (omega (arith, length-rows_below (record_count s) (row_at s c))) ∙ ap (λ (z : Fields). Some z) (row_below (record_count s) (row_at s c) place inside) in
      fault_here s (all_rows s c) place (row_at s c place) inside there
      ∙ row_right s c (group_at s place) (destination_at s place) few (div_below place wide (groups (setting_of s)) some inside) (mod_below place wide some)
  | inr past ↦ no_fault s (all_rows s c) place past (slice_get_past (all_rows s c) place (omega (arith, length-rows_below (record_count s) (row_at s c))))
]

told_is : (s : ScenarioData) (rows : List Fields) (g d k : ℕ) → told_by s rows g d k ≡ slice_index (counts_at s rows (record_place s g d)) k
unfolding told_by
told_is s rows g d k = refl

rows_tell : (s : ScenarioData) (c : Counts) (g d k : ℕ) → CanBeTold (setting_of s) c → g < groups (setting_of s) → d < (setting_of s).destinations → k ≤ (setting_of s).slots → told_by s (all_rows s c) g d k ≡ c g d k
rows_tell s c g d k few x y z =
    let wide : ℕ = (setting_of s).destinations in
    let place : ℕ = record_place s g d in
    let inside : place < record_count s = omega (arith, mul-add-lt g wide d (groups (setting_of s)) x y) in
    let row : slice_index_or (all_rows s c) place [] ≡ row_of s c g d =
    row_below (record_count s) (row_at s c) place inside
    ∙ (ap (λ (h : ℕ). row_of s c h (place % wide)) (div-mul-add g wide d y) ∙ ap (λ (h : ℕ). row_of s c g h) (mod-mul-add g wide d y)) in
    told_is s (all_rows s c) g d k ∙ (ap (λ (f : Fields). slice_index (or_no_counts (counts_in s f)) k) row ∙ row_counts s c g d k few x y z)

pub written_back : WrittenIsRead
written_back s c v named few =
    let is : records_of (curves_file s c) ≡ header ∷ all_rows s c = records_are s c v named few in
    record {
      file = subst (IsCurveFile s) (sym is) (record { headed = refl; right = rows_right s c few });
      counts = λ g d k x y z. ap (λ (r : List Fields). told s r g d k) is ∙ rows_tell s c g d k few x y z;
    }
