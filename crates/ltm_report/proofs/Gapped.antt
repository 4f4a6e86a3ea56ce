-- Lines with the gap of a loading are those of its report.
use Rattle.std.proofs.Common.{ℕ, ◌≡◌, ◌++◌, List, [], length, ◌∙◌, ap}
use Rattle.ltm_curve.specs.Counts.{Counts}
use Rattle.ltm_units.specs.Texts.{texts_below}
use Rattle.ltm_scenario.specs.Data.{ScenarioData}
use Rattle.ltm_scenario.specs.IsScenario.{IsScenario}
use Rattle.ltm_setting.specs.Setting.{setting_of}
use Rattle.ltm_loading.specs.Setting.{Setting}
use Rattle.ltm_flows.specs.declared.loading.Loading.{Loading}
use Rattle.ltm_flows.specs.Shown.{Shows, ShowsCounts, version_of}
use Rattle.ltm_times.specs.Times.{time_spent}
use Rattle.ltm_gap.specs.declared.gaps.Gap.{Gap}
use Rattle.ltm_gap.specs.Gaps.{spent_to}
use Rattle.ltm_gap.specs.Told.{Suits, IsGap, IsGapTo}
use Rattle.ltm_report.specs.Gaps.{gap_line, gap_to_line}
use Rattle.ltm_report.specs.GapReports.{gap_report, gap_to_report, gap_to_of, case_gap_report, IsGapReport}

pub gap_told : (s : Setting) (c : Counts) (v version spent : ℕ) (gap : Gap) (old new : List ℕ) → v ≡ version → spent ≡ time_spent s c → IsGap s c gap → new ≡ old ++ gap_line v spent gap.least gap.late
    → new ≡ old ++ gap_report version s c
unfolding gap_report
gap_told s c v version spent gap old new number time is wrote =
    let least = is.least in
    let late = is.late in
    cc

pub gap_shown : (s : Setting) (l : Loading) (v spent : ℕ) (gap : Gap) (old new : List ℕ) → v ≡ version_of l → ((s : Setting) (version : ℕ) (c : Counts) → ShowsCounts s version c l → spent ≡ time_spent s c)
    → ((version : ℕ) (c : Counts) → ShowsCounts s version c l → IsGap s c gap) → new ≡ old ++ gap_line v spent gap.least gap.late
    → (version : ℕ) (c : Counts) → ShowsCounts s version c l → new ≡ old ++ gap_report version s c
gap_shown s l v spent gap old new is times gaps wrote version c shows = gap_told s c v version spent gap old new (is ∙ shows.version) (times s version c shows) (gaps version c shows) wrote

pub gap_to_told : (s : Setting) (c : Counts) (d : ℕ) (name told : List ℕ) (spent : ℕ) (gap : Gap) (old new : List ℕ) → told ≡ name → spent ≡ spent_to s c d → IsGapTo s c d gap → new ≡ old ++ gap_to_line told spent gap.least gap.late
    → new ≡ old ++ gap_to_report name d s c
unfolding gap_to_report
gap_to_told s c d name told spent gap old new named time is wrote =
    let least = is.least in
    let late = is.late in
    cc

pub shown_suits : (s : Setting) (v : ℕ) (l : Loading) → Shows s v l → Suits s l
shown_suits s v l (c, shows) = record { step = shows.step; slots = shows.shape.same_slots; links = shows.links; nodes = shows.nodes }

pub case_told : (s : ScenarioData) (l : Loading) (none first second : List ℕ) → IsScenario s → Shows (setting_of s) 0 l → none ≡ []
    → ((c : Counts) → ShowsCounts (setting_of s) 0 c l → first ≡ none ++ gap_report 0 (setting_of s) c)
    → ((c : Counts) → ShowsCounts (setting_of s) 0 c l → second ≡ first ++ texts_below (length s.destinations) (gap_to_of s c)) → IsGapReport s second
unfolding case_gap_report
case_told s l none first second is (c, shows) empty one two = (
  c,
  is,
  shows.loading,
  two c shows ∙ ap (λ (x : List ℕ). x ++ texts_below (length s.destinations) (gap_to_of s c)) (one c shows ∙ ap (λ (x : List ℕ). x ++ gap_report 0 (setting_of s) c) empty),
)
