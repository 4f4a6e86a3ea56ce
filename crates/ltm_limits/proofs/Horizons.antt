-- A longer horizon, and the way back.
use Rattle.std.proofs.Common.{◌≡◌, ℕ, ◌+◌, ◌-◌, ◌*◌, ◌<◌, ◌≤◌, List, [], ◌∷◌, ◌++◌, inl, inr, length, map, take, replicate, get_or, arith, refl, sym, ap, ◌∙◌, length-append}
use Rattle.std.proofs.lemmas.List.{get_or_past, get_or-take, get_or-append_right, get_or_append_left, get_or-replicate, get_or-map, length-map, length-replicate, length-take, take_all}
use Rattle.std.proofs.lemmas.Bool.{cases_eq, cases_lt}
use Rattle.std.proofs.lemmas.Nat.{mul-add-lt}
use Rattle.std.proofs.Math.Nat.{mul-le-mul_right, mul_comm}
use Rattle.ltm_limits.specs.Limits.{never_set, row_over, limits_over, limits_within}
use Rattle.ltm_limits.specs.Tables.{said, limits_in, IsQuiet, AreExchanged}
use Rattle.ltm_limits.proofs.Rows.{limits_long, link_at, link_long, slot_at, link_is, limits_are, get_or-padded}

-- ---- tables without limits past the horizon
pub quiet_without_links : (table : List ℕ) (slots : ℕ) → IsQuiet table 0 slots
quiet_without_links table slots link slot l past = absurd (omega arith)

pub quiet_empty : (links slots : ℕ) → IsQuiet [] links slots
quiet_empty links slots link slot l past = refl

pub quiet_past : (table : List ℕ) (links slots : ℕ) → length table ≤ slots * links → IsQuiet table links slots
quiet_past table links slots long link slot l past = get_or_past table (slot * links + link) never_set (omega (arith, long, mul-le-mul_right links past))

pub quiet_later : (table : List ℕ) (links slots more : ℕ) → slots ≤ more → IsQuiet table links slots → IsQuiet table links more
quiet_later table links slots more longer quiet link slot l past = quiet link slot l (omega (arith, longer, past))

pub quiet_shorter : (old new : List ℕ) (links slots : ℕ) → ((k : ℕ) → slots * links ≤ k → get_or new k never_set ≡ never_set) → IsQuiet new links slots
quiet_shorter old new links slots rest link slot l past = rest (slot * links + link) (omega (arith, mul-le-mul_right links past))

pub quiet_reach : (table new : List ℕ) (links slots n count : ℕ) → length table ≤ count → new ≡ take count table ++ replicate n never_set → IsQuiet table links slots → IsQuiet new links slots
quiet_reach table new links slots n count short is quiet link slot l past =
    let same : new ≡ table ++ replicate n never_set = is ∙ ap (λ t. t ++ replicate n never_set) (take_all count table short) in
    ap (λ t. get_or t (slot * links + link) never_set) same ∙ get_or-padded table n (slot * links + link) ∙ quiet link slot l past

pub quiet_exchanged : (old new : List ℕ) (links slots link from : ℕ) (values : List ℕ) → AreExchanged old new links link from values → from + length values ≤ slots → IsQuiet old links slots → IsQuiet new links slots
quiet_exchanged old new links slots link from values exchanged fits quiet l slot h past =
    elim (cases_eq l link) [
      | inl same ↦ ap (λ m. said new links m slot) same ∙ exchanged.behind slot (omega (arith, fits, past)) ∙ ap (λ m. said old links m slot) (sym same) ∙ quiet l slot h past
      | inr apart ↦ exchanged.others l slot h apart ∙ quiet l slot h past
    ]

-- ---- the limits of more slots, and of fewer
row_long : (table : List ℕ) (links slots link : ℕ) → link < links → length (get_or (limits_in table links slots) link []) ≡ slots
row_long table links slots link l = ap length (link_at table links slots link l) ∙ link_long table links slots link

row_at : (table : List ℕ) (links slots link slot : ℕ) → link < links → slot < slots → get_or (get_or (limits_in table links slots) link []) slot 0 ≡ said table links link slot
row_at table links slots link slot l h = ap (λ (xs : List ℕ). get_or xs slot 0) (link_at table links slots link l) ∙ slot_at table links slots link slot h

pub limits_lengthened : (table : List ℕ) (links slots more : ℕ) → slots ≤ more → IsQuiet table links slots → limits_in table links more ≡ limits_over (limits_in table links slots) more
limits_lengthened table links slots more longer quiet =
    let rows : List (List ℕ) = limits_in table links slots in
    sym (limits_are table links more (limits_over rows more) (length-map rows (row_over more) ∙ limits_long table links slots) (λ link l.
    let row : List ℕ = get_or rows link [] in
    let long : length row ≡ slots = row_long table links slots link l in
    let rest : ℕ = more - length row in
    get_or-map (row_over more) rows link [] [] (omega (arith, limits_long table links slots))
    ∙ link_is table links more link (row_over more row) (omega (arith, longer, long, length-append row (replicate rest never_set), length-replicate rest never_set)) (λ slot h.
    elim (cases_lt slot slots) [
      | inl before ↦ get_or_append_left row (replicate rest never_set) 0 slot (omega (arith, long, before)) ∙ row_at table links slots link slot l before
      | inr past ↦
          get_or-append_right row (replicate rest never_set) slots slot 0 long past
          ∙ get_or-replicate rest (slot - slots) never_set 0 (omega (arith, h, past, long))
          ∙ sym (quiet link slot l past)
    ])))

pub limits_shortened : (old new : List ℕ) (links slots fewer : ℕ) → fewer ≤ slots → ((k : ℕ) → k < fewer * links → get_or new k never_set ≡ get_or old k never_set) → limits_in new links fewer ≡ limits_within (limits_in old links slots) fewer
limits_shortened old new links slots fewer shorter same =
    let rows : List (List ℕ) = limits_in old links slots in
    sym (limits_are new links fewer (limits_within rows fewer) (length-map rows (take fewer) ∙ limits_long old links slots) (λ link l.
    let row : List ℕ = get_or rows link [] in
    get_or-map (take fewer) rows link [] [] (omega (arith, limits_long old links slots))
    ∙ link_is new links fewer link (take fewer row) (omega (arith, shorter, length-take fewer row, row_long old links slots link l)) (λ slot h.
    get_or-take fewer row slot 0 h
    ∙ row_at old links slots link slot l (omega (arith, h, shorter))
    ∙ sym (same (slot * links + link) (omega (arith, mul-add-lt slot links link fewer h l, mul_comm links fewer))))))

pub shortened_back : (table : List ℕ) (links slots more : ℕ) → slots ≤ more → limits_within (limits_in table links more) slots ≡ limits_in table links slots
shortened_back table links slots more longer = sym (limits_shortened table table links more slots longer (λ k h. refl))
