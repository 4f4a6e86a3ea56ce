-- The limits that a table tells.
use Rattle.std.proofs.Common.{◌≡◌, ◌≢◌, ℕ, ◌+◌, ◌-◌, ◌*◌, ◌<◌, ◌≤◌, inl, inr, cond, ◌/◌, ◌%◌, ltb, List, [], ◌∷◌, ◌++◌, true, false, length, take, drop, replicate, get_or, slice_set, refl, sym, ap, ◌∙◌, arith, length-append, length-drop, get_or-set_same, get_or-set_other, slice_index}
use Rattle.std.proofs.lemmas.List.{get_or_past, get_or-take, get_or-drop, get_or-append_right, get_or_append_left, get_or_push, get_or_default, get_or-replicate, length-replicate, length-take, take_all, set-set, set-get_or}
use Rattle.std.proofs.lemmas.List.FromFn.{get_or-map-range_with_len, length-map-range_with_len, fill_by_all}
use Rattle.std.proofs.lemmas.Grind.{same_number_lists}
use Rattle.std.proofs.lemmas.Bool.{cases_lt, cases_eq, lt-ltb, le-ltb}
use Rattle.std.proofs.lemmas.Nat.{mul-add-lt, div-mul-add, mod-mul-add}
use Rattle.std.proofs.Math.Nat.{mul-le-mul_left, mul-le-mul_right, mul_comm}
use Rattle.std.proofs.Math.ListN.{set, length-set}
use Rattle.ltm_limits.specs.Limits.{limit_at, list_with_values, with_values, values_of, with_limits_of_link, never_set}
use Rattle.ltm_limits.specs.Tables.{said, limits_of_link, limits_in, wide_at, AreExchanged}

pub limits_long : (table : List ℕ) (links slots : ℕ) → length (limits_in table links slots) ≡ links
unfolding limits_in
limits_long table links slots = length-map-range_with_len (limits_of_link table links slots) 0 links

pub link_long : (table : List ℕ) (links slots link : ℕ) → length (limits_of_link table links slots link) ≡ slots
unfolding limits_of_link
link_long table links slots link = length-map-range_with_len (λ slot. said table links link slot) 0 slots

pub link_at : (table : List ℕ) (links slots link : ℕ) → link < links → get_or (limits_in table links slots) link [] ≡ limits_of_link table links slots link
unfolding limits_in
link_at table links slots link h = get_or-map-range_with_len (limits_of_link table links slots) 0 links link link [] h (omega arith)

pub slot_at : (table : List ℕ) (links slots link slot : ℕ) → slot < slots → get_or (limits_of_link table links slots link) slot 0 ≡ said table links link slot
unfolding limits_of_link
slot_at table links slots link slot h = get_or-map-range_with_len (λ s. said table links link s) 0 slots slot slot 0 h (omega arith)

-- what stands at a link and a slot is what the table says there
pub limit_at_place : (table : List ℕ) (links slots link slot : ℕ) → link < links → slot < slots → limit_at (limits_in table links slots) link slot ≡ said table links link slot
limit_at_place table links slots link slot hl hs =
    ap (λ xs. get_or xs slot 0) (link_at table links slots link hl) ∙ slot_at table links slots link slot hs

-- a link has the limits in a list where each place has what the table says
pub link_is : (table : List ℕ) (links slots link : ℕ) (xs : List ℕ) → length xs ≡ slots → ((slot : ℕ) → slot < slots → get_or xs slot 0 ≡ said table links link slot) → xs ≡ limits_of_link table links slots link
unfolding limits_of_link
link_is table links slots link xs long same = fill_by_all (λ slot. said table links link slot) xs slots 0 long same

-- two tables that say the same of a link give it the same limits
link_same : (t u : List ℕ) (links slots link : ℕ) → ((slot : ℕ) → slot < slots → said t links link slot ≡ said u links link slot) → limits_of_link t links slots link ≡ limits_of_link u links slots link
link_same t u links slots link same =
    link_is u links slots link (limits_of_link t links slots link) (link_long t links slots link) (λ slot h. slot_at t links slots link slot h ∙ same slot h)

-- a list of rows, each that of its link, is the limits
pub limits_are : (table : List ℕ) (links slots : ℕ) (rows : List (List ℕ)) → length rows ≡ links → ((link : ℕ) → link < links → get_or rows link [] ≡ limits_of_link table links slots link) → rows ≡ limits_in table links slots
unfolding limits_in
limits_are table links slots rows long same = fill_by_all (limits_of_link table links slots) rows links [] long same

pub limits_same : (t u : List ℕ) (links slots : ℕ) → ((link slot : ℕ) → link < links → slot < slots → said t links link slot ≡ said u links link slot) → limits_in t links slots ≡ limits_in u links slots
limits_same t u links slots same =
    limits_are u links slots (limits_in t links slots) (limits_long t links slots) (λ link hl. link_at t links slots link hl ∙ link_same t u links slots link (λ slot hs. same link slot hl hs))

-- limits that were never set may stand at the end
pub get_or-padded : (xs : List ℕ) (n i : ℕ) → get_or (xs ++ replicate n never_set) i never_set ≡ get_or xs i never_set
get_or-padded xs n i =
    elim (cases_lt i (length xs)) [
      | inl inside ↦ get_or_append_left xs (replicate n never_set) never_set i inside
      | inr past ↦
          get_or-append_right xs (replicate n never_set) (length xs) i never_set refl past
          ∙ elim (cases_lt (i - length xs) n) as (λ _. get_or (replicate n never_set) (i - length xs) never_set ≡ get_or xs i never_set) [
            | inl short ↦ get_or-replicate n (i - length xs) never_set never_set short ∙ sym (get_or_past xs i never_set past)
            | inr long ↦ get_or_past (replicate n never_set) (i - length xs) never_set (omega (arith, length-replicate n never_set)) ∙ sym (get_or_past xs i never_set past)
          ]
    ]

pub limits_reach : (table new : List ℕ) (links slots n count : ℕ) → length table ≤ count → new ≡ take count table ++ replicate n never_set → limits_in new links slots ≡ limits_in table links slots
limits_reach table new links slots n count short is =
    let all : take count table ≡ table = take_all count table short in
    let same : new ≡ table ++ replicate n never_set = is ∙ ap (λ t. t ++ replicate n never_set) all in
    limits_same new table links slots (λ link slot _ _. ap (λ t. get_or t (slot * links + link) never_set) same ∙ get_or-padded table n (slot * links + link))

-- ---- values written over a part of a list
pub written_before : (from : ℕ) (values xs : List ℕ) (k : ℕ) → from + length values ≤ length xs → k < from → get_or (list_with_values from values xs) k 0 ≡ get_or xs k 0
written_before from values xs k fits before =
    get_or_append_left (take from xs) (values ++ drop (from + length values) xs) 0 k (omega (arith, length-take from xs)) ∙ get_or-take from xs k 0 before

pub written_inside : (from : ℕ) (values xs : List ℕ) (k : ℕ) → from + length values ≤ length xs → from ≤ k → k < from + length values → get_or (list_with_values from values xs) k 0 ≡ get_or values (k - from) 0
written_inside from values xs k fits least below =
    get_or-append_right (take from xs) (values ++ drop (from + length values) xs) from k 0 (omega (arith, length-take from xs)) least
    ∙ get_or_append_left values (drop (from + length values) xs) 0 (k - from) (omega arith)

pub written_behind : (from : ℕ) (values xs : List ℕ) (k : ℕ) → from + length values ≤ length xs → from + length values ≤ k → get_or (list_with_values from values xs) k 0 ≡ get_or xs k 0
written_behind from values xs k fits least =
    get_or-append_right (take from xs) (values ++ drop (from + length values) xs) from k 0 (omega (arith, length-take from xs)) (omega arith)
    ∙ get_or-append_right values (drop (from + length values) xs) (length values) (k - from) 0 refl (omega arith)
    ∙ get_or-drop (from + length values) xs (k - from - length values) 0
    ∙ ap (λ i. get_or xs i 0) (omega arith)

pub length-written : (from : ℕ) (values xs : List ℕ) → from + length values ≤ length xs → length (list_with_values from values xs) ≡ length xs
length-written from values xs fits =
    omega (arith, length-append (take from xs) (values ++ drop (from + length values) xs), length-append values (drop (from + length values) xs), length-take from xs, length-drop (from + length values) xs)

-- the limits once a link's are exchanged
pub limits_exchanged : (old new : List ℕ) (links slots link from : ℕ) (values : List ℕ) → AreExchanged old new links link from values → link < links → from + length values ≤ slots → limits_in new links slots ≡ with_values (limits_in old links slots) link from values
limits_exchanged old new links slots link from values exchanged inside fits =
    let row : List ℕ = get_or (limits_in old links slots) link [] in
    let row_is : row ≡ limits_of_link old links slots link = link_at old links slots link inside in
    let long : length row ≡ slots = ap length row_is ∙ link_long old links slots link in
    let row_fits : from + length values ≤ length row = omega arith in
    sym (limits_are new links slots (slice_set (limits_in old links slots) link (list_with_values from values row)) (length-set (limits_in old links slots) link (list_with_values from values row) ∙ limits_long old links slots) (λ l hl.
    elim (cases_eq l link) [
      | inl same ↦
          ap (λ i. get_or (slice_set (limits_in old links slots) link (list_with_values from values row)) i []) same
          ∙ get_or-set_same (limits_in old links slots) link (list_with_values from values row) [] (omega (arith, limits_long old links slots))
          ∙ link_is new links slots link (list_with_values from values row) (length-written from values row row_fits ∙ long) (λ slot hs.
          elim (cases_lt slot from) [
            | inl before ↦ written_before from values row slot row_fits before ∙ ap (λ xs. get_or xs slot 0) row_is ∙ slot_at old links slots link slot hs ∙ sym (exchanged.before slot before)
            | inr least ↦ elim (cases_lt slot (from + length values)) [
              | inl below ↦ written_inside from values row slot row_fits least below ∙ sym (exchanged.written (slot - from) (omega arith)) ∙ ap (λ s. said new links link s) (let e : from + (slot - from) ≡ slot = omega arith in e)
              | inr behind ↦ written_behind from values row slot row_fits behind ∙ ap (λ xs. get_or xs slot 0) row_is ∙ slot_at old links slots link slot hs ∙ sym (exchanged.behind slot behind)
            ]
          ])
          ∙ ap (limits_of_link new links slots) (sym same)
      | inr apart ↦
          get_or-set_other (limits_in old links slots) link l (list_with_values from values row) [] apart
          ∙ link_at old links slots l hl
          ∙ link_same old new links slots l (λ slot hs. sym (exchanged.others l slot hl apart))
    ]))

-- what stood there
pub values_were : (old : List ℕ) (links slots link from : ℕ) (values : List ℕ) → link < links → from + length values ≤ slots → ((k : ℕ) → k < length values → slice_index values k ≡ said old links link (from + k)) → values ≡ values_of (limits_in old links slots) link from (length values)
values_were old links slots link from values inside fits same =
    let row : List ℕ = get_or (limits_in old links slots) link [] in
    let row_is : row ≡ limits_of_link old links slots link = link_at old links slots link inside in
    let long : length row ≡ slots = ap length row_is ∙ link_long old links slots link in
    let count : length (take (length values) (drop from row)) ≡ length values = omega (arith, length-take (length values) (drop from row), length-drop from row) in
    same_number_lists values (take (length values) (drop from row)) (sym count) (λ k hk.
    same k hk ∙ sym (get_or-take (length values) (drop from row) k 0 hk ∙ get_or-drop from row k 0 ∙ ap (λ xs. get_or xs (from + k) 0) row_is ∙ slot_at old links slots link (from + k) (omega arith)))

pub limits_none : (table : List ℕ) (slots : ℕ) → limits_in table 0 slots ≡ []
unfolding limits_in
limits_none table slots = refl

-- the limits once there is a link more
pub limits_more : (table wide : List ℕ) (links slots : ℕ) → ((link slot : ℕ) → link < links + 1 → slot < slots → said wide (links + 1) link slot ≡ wide_at table links slot link) → limits_in wide (links + 1) slots ≡ with_limits_of_link (limits_in table links slots) slots
limits_more table wide links slots same =
    let old : List (List ℕ) = limits_in table links slots in
    sym (limits_are wide (links + 1) slots (with_limits_of_link old slots) (omega (arith, length-append old (replicate slots never_set ∷ []), limits_long table links slots)) (λ link h.
    elim (cases_lt link links) [
      | inl inside ↦
          get_or_append_left old (replicate slots never_set ∷ []) [] link (omega (arith, limits_long table links slots))
          ∙ link_at table links slots link inside
          ∙ link_is wide (links + 1) slots link (limits_of_link table links slots link) (link_long table links slots link) (λ slot hs.
          slot_at table links slots link slot hs ∙ sym (same link slot h hs ∙ ap (λ b. cond b (said table links link slot) never_set) (lt-ltb link links inside)))
      | inr past ↦
          let last : link ≡ links = omega arith in
          ap (λ i. get_or (with_limits_of_link old slots) i []) last
          ∙ get_or_push old (replicate slots never_set) [] links (limits_long table links slots)
          ∙ link_is wide (links + 1) slots links (replicate slots never_set) (length-replicate slots never_set) (λ slot hs.
          get_or-replicate slots slot never_set 0 hs ∙ sym (same links slot (omega arith) hs ∙ ap (λ b. cond b (said table links links slot) never_set) (le-ltb links links (omega arith))))
          ∙ ap (limits_of_link wide (links + 1) slots) (sym last)
    ]))

pub limits_more_of_none : (table : List ℕ) (links slots : ℕ) → length table ≡ 0 → limits_in [] (links + 1) slots ≡ with_limits_of_link (limits_in table links slots) slots
limits_more_of_none table links slots none =
    limits_more table [] links slots (λ link slot h hs.
    sym (elim (ltb link links) as (λ b. cond b (said table links link slot) never_set ≡ never_set) [
      | true ↦ get_or_past table (slot * links + link) never_set (omega arith)
      | false ↦ refl
    ]))

pub limits_widened : (table wide : List ℕ) (links slots : ℕ) → length wide ≡ slots * (links + 1) → ((k : ℕ) → k < slots * (links + 1) → get_or wide k 0 ≡ wide_at table links (k / (links + 1)) (k % (links + 1))) → limits_in wide (links + 1) slots ≡ with_limits_of_link (limits_in table links slots) slots
limits_widened table wide links slots long same =
    limits_more table wide links slots (λ link slot h hs.
    let k : ℕ = slot * (links + 1) + link in
    let below : k < slots * (links + 1) = omega (arith, mul-add-lt slot (links + 1) link slots hs h, mul_comm slots (links + 1)) in
    get_or_default wide k never_set 0 (omega arith)
    ∙ same k below
    ∙ ap (λ s. wide_at table links s (k % (links + 1))) (div-mul-add slot (links + 1) link h)
    ∙ ap (λ m. wide_at table links slot m) (mod-mul-add slot (links + 1) link h))

-- ---- one place of the table is written
same_slot : (links slot l s link : ℕ) → l < links → link < links → slot * links + l ≡ s * links + link → slot ≡ s
same_slot links slot l s link hl hk e = sym (div-mul-add slot links l hl) ∙ ap (λ n. n / links) e ∙ div-mul-add s links link hk

same_link : (links slot l s link : ℕ) → l < links → link < links → slot * links + l ≡ s * links + link → l ≡ link
same_link links slot l s link hl hk e = sym (mod-mul-add slot links l hl) ∙ ap (λ n. n % links) e ∙ mod-mul-add s links link hk

pub said-set_same : (t : List ℕ) (links link s v : ℕ) → s * links + link < length t → said (set t (s * links + link) v) links link s ≡ v
said-set_same t links link s v inside = get_or-set_same t (s * links + link) v never_set inside

pub said-set_slot : (t : List ℕ) (links link s v slot : ℕ) → link < links → (slot ≡ s → ⊥) → said (set t (s * links + link) v) links link slot ≡ said t links link slot
said-set_slot t links link s v slot hk apart =
    let other : slot * links + link ≢ s * links + link = λ e. apart (same_slot links slot link s link hk hk e) in
    get_or-set_other t (s * links + link) (slot * links + link) v never_set other

pub said-set_link : (t : List ℕ) (links link s v l slot : ℕ) → l < links → link < links → (l ≡ link → ⊥) → said (set t (s * links + link) v) links l slot ≡ said t links l slot
said-set_link t links link s v l slot hl hk apart =
    let other : slot * links + l ≢ s * links + link = λ e. apart (same_link links slot l s link hl hk e) in
    get_or-set_other t (s * links + link) (slot * links + l) v never_set other

-- ---- what stood there, written back
written_back : (from : ℕ) (values xs : List ℕ) → from + length values ≤ length xs → list_with_values from (take (length values) (drop from xs)) (list_with_values from values xs) ≡ xs
written_back from values xs fits =
    let were : List ℕ = take (length values) (drop from xs) in
    let count : length were ≡ length values = omega (arith, length-take (length values) (drop from xs), length-drop from xs) in
    let there : List ℕ = list_with_values from values xs in
    let long : length there ≡ length xs = length-written from values xs fits in
    same_number_lists (list_with_values from were there) xs (length-written from were there (omega arith) ∙ long) (λ k hk.
    elim (cases_lt k from) [
      | inl before ↦ written_before from were there k (omega arith) before ∙ written_before from values xs k fits before
      | inr least ↦ elim (cases_lt k (from + length values)) [
        | inl below ↦
            written_inside from were there k (omega arith) least (omega arith)
            ∙ get_or-take (length values) (drop from xs) (k - from) 0 (omega arith) ∙ get_or-drop from xs (k - from) 0
            ∙ ap (λ i. get_or xs i 0) (let e : from + (k - from) ≡ k = omega arith in e)
        | inr behind ↦ written_behind from were there k (omega arith) (omega arith) ∙ written_behind from values xs k fits behind
      ]
    ])

-- the exchange is undone by another
pub exchanged_back : (table : List ℕ) (links slots link from : ℕ) (values : List ℕ) → link < links → from + length values ≤ slots → with_values (with_values (limits_in table links slots) link from values) link from (values_of (limits_in table links slots) link from (length values)) ≡ limits_in table links slots
exchanged_back table links slots link from values inside fits =
    let limits : List (List ℕ) = limits_in table links slots in
    let row : List ℕ = get_or limits link [] in
    let long : length row ≡ slots = ap length (link_at table links slots link inside) ∙ link_long table links slots link in
    let were : List ℕ = values_of limits link from (length values) in
    set-set limits link (list_with_values from values row) (list_with_values from were (get_or (set limits link (list_with_values from values row)) link []))
    ∙ ap (λ r. set limits link (list_with_values from were r)) (get_or-set_same limits link (list_with_values from values row) [] (omega (arith, limits_long table links slots)))
    ∙ ap (set limits link) (written_back from values row (omega arith))
    ∙ set-get_or limits link []

-- what stood there, written over the exchanged limits, gives back the limits
pub exchange_undone : (old new : List ℕ) (links slots link from : ℕ) (values were : List ℕ) → AreExchanged old new links link from values → link < links → from + length values ≤ slots → length were ≡ length values → ((k : ℕ) → k < length values → slice_index were k ≡ said old links link (from + k)) → with_values (limits_in new links slots) link from were ≡ limits_in old links slots
exchange_undone old new links slots link from values were exchanged inside fits long same =
    let stood : were ≡ values_of (limits_in old links slots) link from (length were) = values_were old links slots link from were inside (omega (arith, long, fits)) (λ k h. same k (omega (arith, long, h))) in
    ap (λ ls. with_values ls link from were) (limits_exchanged old new links slots link from values exchanged inside fits)
    ∙ ap (with_values (with_values (limits_in old links slots) link from values) link from) (stood ∙ ap (values_of (limits_in old links slots) link from) long)
    ∙ exchanged_back old links slots link from values inside fits
