-- Lines of what has passed links and origins at some boundaries are those of their reports.
use Rattle.std.proofs.Common.{ℕ, ◌≡◌, ◌≢◌, ◌++◌, List, [], length, refl, ◌∙◌, ap, codes}
use Rattle.ltm_units.specs.Texts.{texts_below}
use Rattle.ltm_curve.specs.Counts.{Counts}
use Rattle.ltm_scenario.specs.Data.{ScenarioData}
use Rattle.ltm_scenario.specs.IsScenario.{IsScenario}
use Rattle.ltm_setting.specs.Setting.{setting_of}
use Rattle.ltm_loading.specs.Setting.{Setting}
use Rattle.ltm_loading.specs.Totals.{entered_link, left_link}
use Rattle.ltm_flows.specs.declared.loading.Loading.{Loading}
use Rattle.ltm_flows.specs.Origins.{produced_in_all, departed_from}
use Rattle.ltm_flows.specs.Shown.{Shows, ShowsCounts, version_of, last_of, links_of, nodes_of}
use Rattle.ltm_report.specs.Pieces.{version_piece, newline}
use Rattle.ltm_report.specs.Links.{name_piece}
use Rattle.ltm_report.specs.Rows.{counts, row}
use Rattle.ltm_report.specs.Sampled.{told_boundaries, told_at, passed_line, departed_line, passed_report, departed_report, passed_of, departed_of, sampled_report, IsSampledReport}
use Rattle.ltm_report.specs.Samples.{every_piece, rows, samples_line, samples_report}
use Rattle.ltm_report.proofs.Rowed.{behind, as_many, version_shown}
use Rattle.ltm_report.proofs.Delayed.{pick_none, pick_some}

-- the boundaries that are told of a loading are those of its setting
many_shown : (l : Loading) (s : Setting) (version : ℕ) (c : Counts) (every many slots : ℕ) → many ≡ told_boundaries every slots → slots ≡ last_of l → ShowsCounts s version c l
    → many ≡ told_boundaries every s.slots
many_shown l s version c every many slots is last shows = is ∙ ap (told_boundaries every) (last ∙ shows.shape.same_slots)

pub passed_told : (l : Loading) (name : List ℕ) (every link many slots : ℕ) (old x1 x2 x3 x4 : List ℕ)
    → many ≡ told_boundaries every slots → slots ≡ last_of l
    → x1 ≡ old ++ name_piece name
    → ((s : Setting) (version : ℕ) (c : Counts) → ShowsCounts s version c l
    → x2 ≡ x1 ++ row (codes " entered") many (λ place. entered_link s c link (told_at every s.slots place)))
    → ((s : Setting) (version : ℕ) (c : Counts) → ShowsCounts s version c l
    → x3 ≡ x2 ++ row (codes " left") many (λ place. left_link s c link (told_at every s.slots place)))
    → x4 ≡ x3 ++ newline
    → (s : Setting) (version : ℕ) (c : Counts) → ShowsCounts s version c l → x4 ≡ old ++ passed_report every name link s c
unfolding passed_report passed_line
passed_told l name every link many slots old x1 x2 x3 x4 is last e1 e2 e3 e4 s version c shows =
    let same = many_shown l s version c every many slots is last shows in
    let all : told_boundaries every s.slots ≡ told_boundaries every s.slots = refl in
    let f2 = as_many many (told_boundaries every s.slots) (told_boundaries every s.slots) (codes " entered") x1 x2 (λ place. entered_link s c link (told_at every s.slots place)) same all (e2 s version c shows) in
    let f3 = as_many many (told_boundaries every s.slots) (told_boundaries every s.slots) (codes " left") x2 x3 (λ place. left_link s c link (told_at every s.slots place)) same all (e3 s version c shows) in
    behind old x3 x4 _ _ (behind old x2 x3 _ _ (behind old x1 x2 _ _ e1 f2) f3) e4

pub departed_told : (l : Loading) (name : List ℕ) (every node many slots : ℕ) (old x1 x2 x3 x4 : List ℕ)
    → many ≡ told_boundaries every slots → slots ≡ last_of l
    → x1 ≡ old ++ codes "origin "
    → x2 ≡ x1 ++ name
    → ((s : Setting) (version : ℕ) (c : Counts) → ShowsCounts s version c l
    → x3 ≡ x2 ++ row (codes " departed") many (λ place. departed_from s c node (told_at every s.slots place)))
    → x4 ≡ x3 ++ newline
    → (s : Setting) (version : ℕ) (c : Counts) → ShowsCounts s version c l
    → x4 ≡ old ++ departed_line name (told_boundaries every s.slots) (λ place. departed_from s c node (told_at every s.slots place))
unfolding departed_line
departed_told l name every node many slots old x1 x2 x3 x4 is last e1 e2 e3 e4 s version c shows =
    let same = many_shown l s version c every many slots is last shows in
    let all : told_boundaries every s.slots ≡ told_boundaries every s.slots = refl in
    let f3 = as_many many (told_boundaries every s.slots) (told_boundaries every s.slots) (codes " departed") x2 x3 (λ place. departed_from s c node (told_at every s.slots place)) same all (e3 s version c shows) in
    behind old x3 x4 _ _ (behind old x2 x3 _ _ (behind old x1 x2 _ _ e1 e2) f3) e4

-- an origin that produces nothing has no line
pub not_departed : (every : ℕ) (name : List ℕ) (node : ℕ) (s : Setting) (c : Counts) → produced_in_all s node s.slots ≡ 0 → departed_report every name node s c ≡ []
unfolding departed_report
not_departed every name node s c none = pick_none (produced_in_all s node s.slots) _ none

pub some_departed : (every : ℕ) (name : List ℕ) (node : ℕ) (s : Setting) (c : Counts) → produced_in_all s node s.slots ≢ 0
    → departed_report every name node s c ≡ departed_line name (told_boundaries every s.slots) (λ place. departed_from s c node (told_at every s.slots place))
unfolding departed_report
some_departed every name node s c some = pick_some (produced_in_all s node s.slots) _ some

-- ---- all links and nodes in one line
-- words, and what is told of each of so many links or nodes
pub rows_told : (n m many : ℕ) (words old x1 x2 : List ℕ) (f : ℕ → ℕ → ℕ) → n ≡ m → x1 ≡ old ++ words → x2 ≡ x1 ++ texts_below n (λ thing. counts many (f thing))
    → x2 ≡ old ++ rows words m many f
unfolding rows
rows_told n m many words old x1 x2 f all one two =
    behind old x1 x2 words (texts_below n (λ thing. counts many (f thing))) one two ∙ ap (λ (k : ℕ). old ++ (words ++ texts_below k (λ thing. counts many (f thing)))) all

rows_as : (n m i j : ℕ) (words old new : List ℕ) (f : ℕ → ℕ → ℕ) → n ≡ m → i ≡ j → new ≡ old ++ rows words n i f → new ≡ old ++ rows words m j f
rows_as n m i j words old new f all same wrote = wrote ∙ (ap (λ (k : ℕ). old ++ rows words k i f) all ∙ ap (λ (k : ℕ). old ++ rows words m k f) same)

pub samples_told : (l : Loading) (v every many slots : ℕ) (old x1 x2 x3 x4 x5 x6 : List ℕ) → v ≡ version_of l
    → many ≡ told_boundaries every slots → slots ≡ last_of l
    → x1 ≡ old ++ version_piece v
    → x2 ≡ x1 ++ every_piece every
    → ((s : Setting) (version : ℕ) (c : Counts) → ShowsCounts s version c l
    → x3 ≡ x2 ++ rows (codes " in") (links_of l) many (λ link place. entered_link s c link (told_at every s.slots place)))
    → ((s : Setting) (version : ℕ) (c : Counts) → ShowsCounts s version c l
    → x4 ≡ x3 ++ rows (codes " out") (links_of l) many (λ link place. left_link s c link (told_at every s.slots place)))
    → ((s : Setting) (version : ℕ) (c : Counts) → ShowsCounts s version c l
    → x5 ≡ x4 ++ rows (codes " departed") (nodes_of l) many (λ node place. departed_from s c node (told_at every s.slots place)))
    → x6 ≡ x5 ++ newline
    → (s : Setting) (version : ℕ) (c : Counts) → ShowsCounts s version c l → x6 ≡ old ++ samples_report every version s c
unfolding samples_report samples_line
samples_told l v every many slots old x1 x2 x3 x4 x5 x6 number is last e1 e2 e3 e4 e5 e6 s version c shows =
    let same = many_shown l s version c every many slots is last shows in
    let f1 = version_shown l v version old x1 number shows.version e1 in
    let f3 = rows_as (links_of l) s.links many _ (codes " in") x2 x3 (λ link place. entered_link s c link (told_at every s.slots place)) shows.links same (e3 s version c shows) in
    let f4 = rows_as (links_of l) s.links many _ (codes " out") x3 x4 (λ link place. left_link s c link (told_at every s.slots place)) shows.links same (e4 s version c shows) in
    let f5 = rows_as (nodes_of l) s.nodes many _ (codes " departed") x4 x5 (λ node place. departed_from s c node (told_at every s.slots place)) shows.nodes same (e5 s version c shows) in
    behind old x5 x6 _ _ (behind old x4 x5 _ _ (behind old x3 x4 _ _ (behind old x2 x3 _ _ (behind old x1 x2 _ _ f1 e2) f3) f4) f5) e6

-- ---- of a whole case
pub sampled_told : (every : ℕ) (s : ScenarioData) (l : Loading) (none first second : List ℕ) → IsScenario s → Shows (setting_of s) 0 l → none ≡ []
    → ((c : Counts) → ShowsCounts (setting_of s) 0 c l → first ≡ none ++ texts_below (length s.network.links) (passed_of every s c))
    → ((c : Counts) → ShowsCounts (setting_of s) 0 c l → second ≡ first ++ texts_below (length s.network.nodes) (departed_of every s c))
    → IsSampledReport every s second
unfolding sampled_report
sampled_told every s l none first second is (c, shows) empty one two = (
  c,
  is,
  shows.loading,
  two c shows
      ∙ ap (λ (x : List ℕ). x ++ texts_below (length s.network.nodes) (departed_of every s c))
      (one c shows ∙ ap (λ (x : List ℕ). x ++ texts_below (length s.network.links) (passed_of every s c)) empty),
)
