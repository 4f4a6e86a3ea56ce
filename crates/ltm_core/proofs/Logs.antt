-- The log after a batch and after a mark.
use Rattle.std.proofs.Common.{ℕ, suc, ◌≡◌, ◌+◌, ◌-◌, ◌≤◌, Bool, true, false, if◌then◌else◌, List, [], ◌∷◌, ◌++◌, length, map, take, refl, ap, sym, ◌∙◌, subst, arith, length-append}
use Rattle.std.specs.Prelude.{Ok, Result, slice_set}
use Rattle.std.specs.List.{zip}
use Rattle.std.proofs.lemmas.List.{map-append, take_all, take-append-le}
use Rattle.std.proofs.lemmas.Slice.Zip.{firsts-zip}
use Rattle.ltm_scenario.specs.declared.edit.Edit.{Edit}
use Rattle.ltm_scenario.specs.declared.edit.EditFault.{EditFault}
use Rattle.ltm_scenario.specs.Data.{ScenarioData}
use Rattle.ltm_scenario.specs.Edits.{edited_all}
use Rattle.ltm_core.specs.Log.{Log, MarkedBatch, log_of, batches_of, version_now, settled_in, settled_of, edited_or, after_batch, after_batches, AreAccepted, HoldsAccepted, scenario_at, scenario_now, with_batch, marked, with_mark, LogLaws}

-- ---- how many are accepted and settled
pub version_batch : (log : Log) (b : List Edit) → version_now (with_batch log b) ≡ version_now log + 1
unfolding version_now with_batch
version_batch log b = length-append log.batches ((b, false) ∷ [])

length_marked : (bs : List MarkedBatch) → length (marked bs) ≡ length bs
length_marked [] = refl
length_marked (b ∷ []) = refl
length_marked (b ∷ c ∷ bs) = ap suc (length_marked (c ∷ bs))

pub version_marked : (log : Log) → version_now (with_mark log) ≡ version_now log
unfolding version_now with_mark
version_marked log = length_marked log.batches

settled_marked_in : (n m : ℕ) (b : MarkedBatch) (bs : List MarkedBatch) → settled_in n m (marked (b ∷ bs)) ≡ n + suc (length bs)
settled_marked_in n m b [] = omega arith
settled_marked_in n m b (c ∷ bs) = settled_marked_in (n + 1) (if b.1 then n + 1 else m) c bs ∙ omega arith

settled_marked_list : (bs : List MarkedBatch) → settled_in 0 0 (marked bs) ≡ length bs
settled_marked_list [] = refl
settled_marked_list (b ∷ bs) = settled_marked_in 0 0 b bs ∙ omega arith

-- after a mark all batches are settled
pub settled_marked : (log : Log) → settled_of (with_mark log) ≡ version_now log
unfolding settled_of with_mark version_now
settled_marked log = settled_marked_list log.batches

settled_more : (n m : ℕ) (bs : List MarkedBatch) (b : List Edit) → settled_in n m (bs ++ (b, false) ∷ []) ≡ settled_in n m bs
settled_more n m [] b = refl
settled_more n m (c ∷ bs) b = settled_more (n + 1) (if c.1 then n + 1 else m) bs b

-- a batch settles nothing
pub settled_batch : (log : Log) (b : List Edit) → settled_of (with_batch log b) ≡ settled_of log
unfolding settled_of with_batch
settled_batch log b = settled_more 0 0 log.batches b

-- ---- the batches and the scenarios
pub opening_batch : (log : Log) (b : List Edit) → (with_batch log b).opening ≡ log.opening
unfolding with_batch
opening_batch log b = refl

pub opening_marked : (log : Log) → (with_mark log).opening ≡ log.opening
unfolding with_mark
opening_marked log = refl

pub batches_more : (log : Log) (b : List Edit) → batches_of (with_batch log b) ≡ batches_of log ++ b ∷ []
unfolding batches_of with_batch
batches_more log b = map-append (λ (m : MarkedBatch). m.0) log.batches ((b, false) ∷ [])

firsts_marked : (bs : List MarkedBatch) → map (λ (m : MarkedBatch). m.0) (marked bs) ≡ map (λ (m : MarkedBatch). m.0) bs
firsts_marked [] = refl
firsts_marked (b ∷ []) = refl
firsts_marked (b ∷ c ∷ bs) = ap (λ l. b.0 ∷ l) (firsts_marked (c ∷ bs))

pub batches_marked : (log : Log) → batches_of (with_mark log) ≡ batches_of log
unfolding batches_of with_mark
batches_marked log = firsts_marked log.batches

firsts_length : (bs : List MarkedBatch) → length (map (λ (m : MarkedBatch). m.0) bs) ≡ length bs
firsts_length [] = refl
firsts_length (b ∷ bs) = ap suc (firsts_length bs)

pub length_batches : (log : Log) → length (batches_of log) ≡ version_now log
unfolding batches_of version_now
length_batches log = firsts_length log.batches

-- the log of which no batch is accepted yet
pub first_scenario : (log : Log) → scenario_at log 0 ≡ log.opening
unfolding scenario_at
first_scenario log = refl

-- after all batches the scenario is the last one
pub last_scenario : (log : Log) → scenario_at log (version_now log) ≡ scenario_now log
unfolding scenario_at scenario_now
last_scenario log = ap (λ l. after_batches log.opening l) (take_all (version_now log) (batches_of log) (let e : length (batches_of log) ≡ version_now log = length_batches log in omega arith))

-- earlier scenarios stay
pub earlier_scenario : (log : Log) (b : List Edit) (k : ℕ) → k ≤ version_now log → scenario_at (with_batch log b) k ≡ scenario_at log k
unfolding scenario_at
earlier_scenario log b k low =
    let e : length (batches_of log) ≡ version_now log = length_batches log in
    let within : k ≤ length (batches_of log) = omega arith in
    let same : take k (batches_of (with_batch log b)) ≡ take k (batches_of log) =
    ap (λ l. take k l) (batches_more log b) ∙ take-append-le k (batches_of log) (b ∷ []) within in
    let o : (with_batch log b).opening ≡ log.opening = opening_batch log b in
    ap (λ s. after_batches s (take k (batches_of (with_batch log b)))) o ∙ ap (λ l. after_batches log.opening l) same

pub after_more : (s : ScenarioData) (batches : List (List Edit)) (batch : List Edit) → after_batches s (batches ++ batch ∷ []) ≡ after_batch (after_batches s batches) batch
after_more s [] batch = refl
after_more s (first ∷ batches) batch = after_more (after_batch s first) batches batch

-- the last batch makes the new scenario
pub next_scenario : (log : Log) (b : List Edit) → scenario_now (with_batch log b) ≡ after_batch (scenario_now log) b
unfolding scenario_now
next_scenario log b =
    ap (λ s. after_batches s (batches_of (with_batch log b))) (opening_batch log b)
    ∙ (ap (λ l. after_batches log.opening l) (batches_more log b) ∙ after_more log.opening (batches_of log) b)

-- a mark leaves all scenarios
pub marked_scenario : (log : Log) (k : ℕ) → scenario_at (with_mark log) k ≡ scenario_at log k
unfolding scenario_at
marked_scenario log k =
    ap (λ s. after_batches s (take k (batches_of (with_mark log)))) (opening_marked log) ∙ ap (λ l. after_batches log.opening (take k l)) (batches_marked log)

pub marked_now : (log : Log) → scenario_now (with_mark log) ≡ scenario_now log
unfolding scenario_now
marked_now log = ap (λ s. after_batches s (batches_of (with_mark log))) (opening_marked log) ∙ ap (λ l. after_batches log.opening l) (batches_marked log)

-- an accepted batch makes what its edits make
pub accepted_now : (log : Log) (b : List Edit) (next : ScenarioData) → edited_all (scenario_now log) b ≡ Ok next → scenario_now (with_batch log b) ≡ next
accepted_now log b next is = next_scenario log b ∙ ap (λ (r : Result ScenarioData EditFault). edited_or (scenario_now log) r) is

accepted_more : (s : ScenarioData) (batches : List (List Edit)) (batch : List Edit) (next : ScenarioData) → AreAccepted s batches →
    edited_all (after_batches s batches) batch ≡ Ok next → AreAccepted s (batches ++ batch ∷ [])
accepted_more s [] batch next h is = (is ∙ ap (λ (r : Result ScenarioData EditFault). Ok (edited_or s r)) (sym is), tt)
accepted_more s (first ∷ batches) batch next h is = (h.0, accepted_more (after_batch s first) batches batch next h.1 is)

-- the log with an accepted batch holds no refused one
pub holds_more : (log : Log) (b : List Edit) (next : ScenarioData) → HoldsAccepted log → edited_all (scenario_now log) b ≡ Ok next → HoldsAccepted (with_batch log b)
unfolding HoldsAccepted scenario_now
holds_more log b next holds is =
    let P : List (List Edit) → Type 0 = λ l. AreAccepted (with_batch log b).opening l in
    let Q : ScenarioData → Type 0 = λ s. AreAccepted s (batches_of log ++ b ∷ []) in
    subst P (sym (batches_more log b)) (subst Q (sym (opening_batch log b)) (accepted_more log.opening (batches_of log) b next holds is))

pub holds_marked : (log : Log) → HoldsAccepted log → HoldsAccepted (with_mark log)
unfolding HoldsAccepted
holds_marked log holds =
    let P : List (List Edit) → Type 0 = λ l. AreAccepted (with_mark log).opening l in
    let Q : ScenarioData → Type 0 = λ s. AreAccepted s (batches_of log) in
    subst P (sym (batches_marked log)) (subst Q (sym (opening_marked log)) holds)

-- the scenario after the first batches, by the parts of a log
pub after_first : (log : Log) (opening : ScenarioData) (batches : List (List Edit)) (k n : ℕ) → opening ≡ log.opening → batches ≡ batches_of log → k ≡ n → after_batches opening (take k batches) ≡ scenario_at log n
unfolding scenario_at
after_first log opening batches k n first all at = λ i. after_batches (first i) (take (at i) (all i))

-- ---- the log as it is kept
pub none_kept : (s : ScenarioData) (bs : List (List Edit)) (ms : List Bool) → bs ≡ [] → ms ≡ [] → log_of s bs ms ≡ record { opening = s; batches = [] }
unfolding log_of
none_kept s bs ms none none' = λ i. log_of s (none i) (none' i)

pub kept_opening : (opening : ScenarioData) (batches : List (List Edit)) (marks : List Bool) → (log_of opening batches marks).opening ≡ opening
unfolding log_of
kept_opening opening batches marks = refl

pub kept_batches : (s : ScenarioData) (bs : List (List Edit)) (ms : List Bool) → length ms ≡ length bs → batches_of (log_of s bs ms) ≡ bs
unfolding batches_of log_of
kept_batches s bs ms same = firsts-zip bs ms same

pub kept_version : (s : ScenarioData) (bs : List (List Edit)) (ms : List Bool) → length ms ≡ length bs → version_now (log_of s bs ms) ≡ length bs
kept_version s bs ms same = sym (length_batches (log_of s bs ms)) ∙ ap length (kept_batches s bs ms same)

zip_more : (bs : List (List Edit)) (ms : List Bool) (b : List Edit) (m : Bool) → length ms ≡ length bs → zip (bs ++ b ∷ []) (ms ++ m ∷ []) ≡ zip bs ms ++ (b, m) ∷ []
zip_more [] [] b m same = refl
zip_more [] (n ∷ ms) b m same = absurd (omega arith)
zip_more (c ∷ bs) [] b m same = absurd (omega arith)
zip_more (c ∷ bs) (n ∷ ms) b m same = ap (λ l. (c, n) ∷ l) (zip_more bs ms b m (omega arith))

-- a batch and its mark are put last
pub kept_with_batch : (s : ScenarioData) (bs : List (List Edit)) (ms : List Bool) (b : List Edit) → length ms ≡ length bs →
    log_of s (bs ++ b ∷ []) (ms ++ false ∷ []) ≡ with_batch (log_of s bs ms) b
unfolding log_of with_batch
kept_with_batch s bs ms b same = ap (λ l. record { opening = s; batches = l }) (zip_more bs ms b false same)

zip_marked : (bs : List (List Edit)) (ms : List Bool) → length ms ≡ length bs → zip bs (slice_set ms (length bs - 1) true) ≡ marked (zip bs ms)
zip_marked [] [] same = refl
zip_marked [] (n ∷ ms) same = absurd (omega arith)
zip_marked (c ∷ bs) [] same = absurd (omega arith)
zip_marked (c ∷ []) (n ∷ []) same = refl
zip_marked (c ∷ []) (n ∷ m ∷ ms) same = absurd (omega arith)
zip_marked (c ∷ d ∷ bs) (n ∷ []) same = absurd (omega arith)
zip_marked (c ∷ d ∷ bs) (n ∷ m ∷ ms) same =
    let e : length (c ∷ d ∷ bs) - 1 ≡ suc (length (d ∷ bs) - 1) = omega arith in
    ap (λ k. zip (c ∷ d ∷ bs) (slice_set (n ∷ m ∷ ms) k true)) e ∙ ap (λ l. (c, n) ∷ l) (zip_marked (d ∷ bs) (m ∷ ms) (omega arith))

-- the last mark is set
pub kept_with_mark : (s : ScenarioData) (bs : List (List Edit)) (ms : List Bool) → length ms ≡ length bs →
    log_of s bs (slice_set ms (length bs - 1) true) ≡ with_mark (log_of s bs ms)
unfolding log_of with_mark
kept_with_mark s bs ms same = ap (λ l. record { opening = s; batches = l }) (zip_marked bs ms same)

-- ---- what a log is when a batch was put last, and when the mark is set
pub put_log : (s : ScenarioData) (bs cs : List (List Edit)) (ms ns : List Bool) (b : List Edit) → length ms ≡ length bs → cs ≡ bs ++ b ∷ [] → ns ≡ ms ++ false ∷ [] → log_of s cs ns ≡ with_batch (log_of s bs ms) b
put_log s bs cs ms ns b same batches marks = (λ i. log_of s (batches i) (marks i)) ∙ kept_with_batch s bs ms b same

pub set_log : (s : ScenarioData) (bs : List (List Edit)) (ms new : List Bool) → length ms ≡ length bs → new ≡ slice_set ms (length ms - 1) true → log_of s bs new ≡ with_mark (log_of s bs ms)
set_log s bs ms new same made =
    ap (λ (l : List Bool). log_of s bs l) (made ∙ ap (λ (n : ℕ). slice_set ms (n - 1) true) same) ∙ kept_with_mark s bs ms same

-- nor is there a mark to be set where there is no batch
pub set_none : (ms : List Bool) → length ms ≡ 0 → ms ≡ slice_set ms (length ms - 1) true
set_none [] none = refl
set_none (m ∷ ms) none = absurd (omega arith)

pub logs_tell_all : LogLaws
logs_tell_all = record {
  version_batch = version_batch;
  version_mark = version_marked;
  settled_batch = settled_batch;
  settled_mark = settled_marked;
  last = last_scenario;
  earlier = earlier_scenario;
  marked_at = marked_scenario;
}
