-- The list of a board before and after a post.
use Rattle.std.proofs.Common.{◌≡◌, ◌⊎◌, ◌≤◌, ℕ, zero, suc, List, [], ◌∷◌, ◌++◌, length, map, take, drop, ◌+◌, inl, inr, refl, sym, ap, subst, ◌∙◌, arith, append_assoc, length-append, ⊎_elim}
use Rattle.std.proofs.lemmas.List.{map-append, take-append-le, take-append-drop, length-map, append-nil}
use mathlib.Core.List.{IsPrefix}
use Rattle.ltm_scenario.specs.declared.edit.Edit.{Edit}
use Rattle.ltm_scenario.specs.Data.{ScenarioData}
use Rattle.ltm_setting.specs.Setting.{setting_of}
use Rattle.ltm_flows.specs.declared.loading.Loading.{Loading}
use Rattle.ltm_flows.specs.Shown.{Shows, version_of}
use Rattle.ltm_core.specs.declared.entry.LogEntry.{LogEntry}
use Rattle.ltm_core.specs.declared.entry.LogEntry.TheVariants.{Opening, Accepted}
use Rattle.ltm_core.specs.Log.{Log, LogLaws, HoldsAccepted, AreAccepted, batches_of, version_now, scenario_at, scenario_now, after_batch}
use Rattle.ltm_core.specs.Cores.{CoreData, IsShownOf}
use Rattle.ltm_core.specs.Runs.{HoldsOfCore}
use Rattle.ltm_core.proofs.Logs.{length_batches, first_scenario}
use Rattle.ltm_session.specs.Analysts.{state_of}
use Rattle.ltm_board.specs.Lists.{PostData, list_of, opening_posts, entries_of_batches, entries_of_posts, LeadsTo, IsLoadingOf}
use Rattle.ltm_board.specs.Leads.{ListsLead}
use Rattle.ltm_board.specs.Boards.{BoardData, board_list}
use Rattle.ltm_session_viewers.specs.declared.boards.Boards.{Boards}
use Rattle.ltm_session_viewers.specs.Hung.{first_of, shown_list, AllHave}
use Rattle.ltm_session_viewers.proofs.Growing.{Grows}

-- ---- the first so many batches
-- they stay when the log grows
pub first_stays : (k : ℕ) (a b : Log) (more : List (List Edit)) → b.opening ≡ a.opening → batches_of b ≡ batches_of a ++ more → k ≤ version_now a → first_of b k ≡ first_of a k
first_stays k a b more opening batches few =
    let long = length_batches a in
    let same : take k (batches_of b) ≡ take k (batches_of a) = ap (λ l. take k l) batches ∙ take-append-le k (batches_of a) more (omega (arith, long, few)) in
    λ i. list_of (opening i) (same i)

-- with those after them they are all
pub all_of : (k : ℕ) (log : Log) → first_of log k ++ entries_of_batches (drop k (batches_of log)) ≡ list_of log.opening (batches_of log)
all_of k log =
    let bs = batches_of log in
    ap (λ l. Opening log.opening ∷ l) (sym (map-append (λ (b : List Edit). Accepted b) (take k bs) (drop k bs)) ∙ ap entries_of_batches (take-append-drop k bs))

take_all : {A : Type 0} (k : ℕ) (xs : List A) → length xs ≡ k → take k xs ≡ xs
take_all zero [] e = refl
take_all (suc k) [] e = refl
take_all zero (x ∷ xs) e = absurd (omega (arith, e))
take_all (suc k) (x ∷ xs) e = ap (λ l. x ∷ l) (take_all k xs (omega (arith, e)))

pub first_is_all : (k : ℕ) (log : Log) → k ≡ version_now log → first_of log k ≡ list_of log.opening (batches_of log)
first_is_all k log is = ap (λ l. list_of log.opening l) (take_all k (batches_of log) (length_batches log ∙ sym is))

-- ---- the boards
pub all_same : (boards : Boards) (a b : List LogEntry) → a ≡ b → AllHave boards a → AllHave boards b
all_same boards a b same have = subst (λ l. AllHave boards l) same have

-- ---- how long a list is, and where it leads
length_taken : {A : Type 0} (k : ℕ) (xs : List A) → k ≤ length xs → length (take k xs) ≡ k
length_taken zero xs few = refl
length_taken (suc k) [] few = absurd (omega (arith, few))
length_taken (suc k) (x ∷ xs) few = ap suc (length_taken k xs (omega (arith, few)))

pub first_long : (k : ℕ) (log : Log) → k ≤ version_now log → length (first_of log k) ≡ k + 1
first_long k log few =
    let long = length_batches log in
    let e : length (map (λ (b : List Edit). Accepted b) (take k (batches_of log))) ≡ k = length-map (take k (batches_of log)) (λ (b : List Edit). Accepted b) ∙ length_taken k (batches_of log) (omega (arith, long, few)) in
    omega (arith, e)

accepted_first : (k : ℕ) (s : ScenarioData) (batches : List (List Edit)) → AreAccepted s batches → AreAccepted s (take k batches)
accepted_first zero s batches ok = tt
accepted_first (suc k) s [] ok = tt
accepted_first (suc k) s (batch ∷ batches) ok = (ok.0, accepted_first k (after_batch s batch) batches ok.1)

pub first_leads : (k : ℕ) (log : Log) → HoldsAccepted log → LeadsTo (first_of log k) (scenario_at log k)
unfolding HoldsAccepted scenario_at
first_leads k log holds = record {
  opening = log.opening;
  batches = take k (batches_of log);
  is_list = refl;
  accepted = accepted_first k log.opening (batches_of log) holds;
  leaves = refl;
}

-- ---- posts one behind another
joined_both : {E : Type 0} (a b : List (List E)) → entries_of_posts (a ++ b) ≡ entries_of_posts a ++ entries_of_posts b
joined_both [] b = refl
joined_both (post ∷ posts) b = ap (λ l. post ++ l) (joined_both posts b) ∙ sym (append_assoc post (entries_of_posts posts) (entries_of_posts b))

pub joined_more : {E : Type 0} (posts : List (List E)) (post : List E) → entries_of_posts (posts ++ post ∷ []) ≡ entries_of_posts posts ++ post
joined_more posts post = joined_both posts (post ∷ []) ∙ ap (λ l. entries_of_posts posts ++ l) (append-nil post)

none_left : {E : Type 0} (xs : List E) → length xs ≡ 0 → xs ≡ []
none_left [] none = refl
none_left (x ∷ xs) none = absurd (omega (arith, none))

-- posts that begin with others, and put as many entries, put the same
pub same_joined : {E : Type 0} (a b : List (List E)) → IsPrefix a b → length (entries_of_posts b) ≡ length (entries_of_posts a) → entries_of_posts b ≡ entries_of_posts a
same_joined a b (rest, e) long =
    let whole : entries_of_posts b ≡ entries_of_posts a ++ entries_of_posts rest = sym (ap entries_of_posts e) ∙ joined_both a rest in
    let both = ap length whole in
    let cut = length-append (entries_of_posts a) (entries_of_posts rest) in
    let none : entries_of_posts rest ≡ [] = none_left (entries_of_posts rest) (omega (arith, long, both, cut)) in
    whole ∙ (ap (λ l. entries_of_posts a ++ l) none ∙ append-nil (entries_of_posts a))

-- a core that has accepted nothing shows the opening list
pub opens_list : (d : CoreData) → version_of d.shown ≡ 0 → entries_of_posts (opening_posts d.log.opening) ≡ shown_list d
opens_list d none = ap (λ k. first_of d.log k) (sym none)

-- ---- a line that was answered
pub few_still : (d e : CoreData) (k : ℕ) → Grows (state_of d) (state_of e) → version_of d.shown ≤ version_now d.log → k ≡ version_of d.shown → k ≤ version_now e.log
few_still d e k grown few is =
    let more = ap length grown.batches in
    let both = length-append (batches_of d.log) grown.more in
    let a = length_batches d.log in
    let b = length_batches e.log in
    omega (arith, more, both, a, b, few, is)

pub posted_still : (d e : CoreData) (k : ℕ) (boards : Boards) → Grows (state_of d) (state_of e) → version_of d.shown ≤ version_now d.log → k ≡ version_of d.shown
    → AllHave boards (shown_list d) → AllHave boards (first_of e.log k)
posted_still d e k boards grown few is have =
    let same : first_of e.log (version_of d.shown) ≡ first_of d.log (version_of d.shown) = first_stays (version_of d.shown) d.log e.log grown.more grown.opening grown.batches few in
    subst (λ n. AllHave boards (first_of e.log n)) (sym is) (subst (λ l. AllHave boards l) (sym same) have)

pub shown_newer : (d e : CoreData) (k : ℕ) → Grows (state_of d) (state_of e) → k ≡ version_of d.shown → (version_of e.shown ≡ k) ⊎ (version_of e.shown ≡ version_now e.log)
shown_newer d e k grown is = ⊎_elim (λ p. inl (p ∙ sym is)) (λ p. inr p) grown.shown

-- ---- a post
pub grown : (b b' : BoardData) (list : List LogEntry) (more : List LogEntry) → board_list b' ≡ board_list b ++ more ∷ [] → entries_of_posts (board_list b) ≡ list → entries_of_posts (board_list b') ≡ list ++ more
grown b b' list more posted same = ap entries_of_posts posted ∙ (joined_more (board_list b) more ∙ ap (λ l. l ++ more) same)

pub alike : (boards : Boards) (list : List LogEntry) → AllHave boards list → AllHave boards (entries_of_posts (board_list boards.first))
alike boards list have = subst (λ l. AllHave boards l) (sym have.0) have

pub up_to_date : (v w k now : ℕ) → (w ≡ k) ⊎ (w ≡ now) → v ≡ w → (v ≡ k → ⊥) → w ≡ now
up_to_date v w k now (inl same) is other = absurd (other (is ∙ same))
up_to_date v w k now (inr all) is other = all

-- what is put behind the first so many batches makes all
whole_list : (d : CoreData) (k : ℕ) (list : List LogEntry) (batches : List (List Edit)) → list ≡ first_of d.log k → batches ≡ drop k (batches_of d.log)
    → list ++ entries_of_batches batches ≡ list_of d.log.opening (batches_of d.log)
whole_list d k list batches is cut = (λ i. is i ++ entries_of_batches (cut i)) ∙ all_of k d.log

pub newer_list : (d : CoreData) (k : ℕ) (list : List LogEntry) (batches : List (List Edit)) → list ≡ first_of d.log k → batches ≡ drop k (batches_of d.log) → version_of d.shown ≡ version_now d.log
    → list ++ entries_of_batches batches ≡ shown_list d
newer_list d k list batches is cut up = whole_list d k list batches is cut ∙ sym (first_is_all (version_of d.shown) d.log up)

pub leads_newer : (laws : ListsLead) (d : CoreData) (k : ℕ) (list : List LogEntry) (batches : List (List Edit)) (s : ScenarioData) → HoldsOfCore d → list ≡ first_of d.log k
    → batches ≡ drop k (batches_of d.log) → s ≡ scenario_now d.log → LeadsTo (list ++ entries_of_batches batches) s
leads_newer laws d k list batches s holds is cut same =
    subst (λ l. LeadsTo l s) (sym (whole_list d k list batches is cut))
    (subst (λ (r : ScenarioData). LeadsTo (list_of d.log.opening (batches_of d.log)) r) (sym same) (laws.log d.log holds.core.log.accepted))

pub shows_now : (logs : LogLaws) (d : CoreData) (l : Loading) (s : ScenarioData) → l ≡ d.shown → IsShownOf d.log d.shown → version_of d.shown ≡ version_now d.log → s ≡ scenario_now d.log → IsLoadingOf s l
shows_now logs d l s is shown up same =
    let there : scenario_at d.log (version_of d.shown) ≡ s = ap (λ k. scenario_at d.log k) up ∙ (logs.last d.log ∙ sym same) in (
      version_of d.shown,
      subst (λ (x : Loading). Shows (setting_of s) (version_of d.shown) x) (sym is)
          (subst (λ (r : ScenarioData). Shows (setting_of r) (version_of d.shown) d.shown) there shown.shows),
    )

pub opens_board : (logs : LogLaws) (d : CoreData) (s : ScenarioData) (posts : List PostData) → posts ≡ opening_posts s → s ≡ scenario_now d.log → version_now d.log ≡ 0 → version_of d.shown ≡ 0
    → entries_of_posts posts ≡ shown_list d
opens_board logs d s posts is same fresh none =
    let first : s ≡ d.log.opening = same ∙ (sym (logs.last d.log) ∙ (ap (λ k. scenario_at d.log k) fresh ∙ first_scenario d.log)) in
    ap entries_of_posts is ∙ (ap (λ (r : ScenarioData). entries_of_posts (opening_posts r)) first ∙ opens_list d none)
