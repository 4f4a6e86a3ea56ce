-- Lines with the queues and delays of a loading are those of its report.
use Rattle.std.proofs.Common.{ℕ, ◌≡◌, ◌≢◌, ◌++◌, List, [], length, ◌∙◌, ap, arith, cond, nat_eq}
use Rattle.std.proofs.lemmas.Bool.Decides.{nat_tests}
use Rattle.ltm_curve.specs.Counts.{Counts}
use Rattle.ltm_units.specs.Texts.{texts_below}
use Rattle.ltm_scenario.specs.Data.{ScenarioData}
use Rattle.ltm_scenario.specs.IsScenario.{IsScenario}
use Rattle.ltm_setting.specs.Setting.{setting_of}
use Rattle.ltm_loading.specs.Setting.{Setting}
use Rattle.ltm_flows.specs.declared.loading.Loading.{Loading}
use Rattle.ltm_flows.specs.Shown.{Shows, ShowsCounts, version_of}
use Rattle.ltm_times.specs.declared.delays.DelayTotals.{DelayTotals}
use Rattle.ltm_times.specs.declared.delays.LinkDelay.{LinkDelay}
use Rattle.ltm_times.specs.declared.delays.LinkState.{LinkState}
use Rattle.ltm_times.specs.declared.delays.OriginDelay.{OriginDelay}
use Rattle.ltm_times.specs.declared.delays.OriginState.{OriginState}
use Rattle.ltm_flows.specs.Origins.{produced_in_all}
use Rattle.ltm_times.specs.Queues.{queue, waiting_at}
use Rattle.ltm_times.specs.Delays.{fullest, waited_at, longest, AreDelayTotals, IsLinkDelay, IsLinkState, IsOriginDelay, IsOriginState}
use Rattle.ltm_report.specs.Delays.{delay_line, link_delay_line, queue_line, node_delay_line, origin_line}
use Rattle.ltm_report.specs.DelayReports.{delay_report, link_delay_report, queue_report, node_delay_report, origin_report, link_delay_of, node_delay_of, case_delay_report, IsDelayReport}

pub delay_shown : (l : Loading) (d : DelayTotals) (v : ℕ) (old new : List ℕ) → v ≡ version_of l
    → ((s : Setting) (version : ℕ) (c : Counts) → ShowsCounts s version c l → AreDelayTotals s c d)
    → new ≡ old ++ delay_line v d.spent d.queued d.waited
    → (s : Setting) (version : ℕ) (c : Counts) → ShowsCounts s version c l → new ≡ old ++ delay_report version s c
unfolding delay_report
delay_shown l d v old new is are wrote s version c shows =
    let all = are s version c shows in
    let number : v ≡ version = is ∙ shows.version in
    let spent = all.spent in
    let queued = all.queued in
    let waited = all.waited in
    cc

pub link_delay_shown : (link : ℕ) (name : List ℕ) (d : LinkDelay) (old new : List ℕ) (s : Setting) (c : Counts) → IsLinkDelay s c link d
    → new ≡ old ++ link_delay_line name d.spent d.queued d.peak.most.0 d.peak.at → new ≡ old ++ link_delay_report name link s c
unfolding link_delay_report
link_delay_shown link name d old new s c is wrote =
    let spent = is.spent in
    let queued = is.queued in
    let at = is.peak.at in
    let most : d.peak.most.0 ≡ queue s c link (fullest s c link) = is.peak.most ∙ ap (queue s c link) is.peak.at in
    cc

pub queue_shown : (l : Loading) (link : ℕ) (name : List ℕ) (v boundary : ℕ) (d : LinkState) (old new : List ℕ) → v ≡ version_of l
    → ((s : Setting) (version : ℕ) (c : Counts) → ShowsCounts s version c l → IsLinkState s c link boundary d)
    → new ≡ old ++ queue_line v name boundary d.entered.0 d.left.0 d.queue.0
    → (s : Setting) (version : ℕ) (c : Counts) → ShowsCounts s version c l → new ≡ old ++ queue_report version name link boundary s c
unfolding queue_report
queue_shown l link name v boundary d old new is are wrote s version c shows =
    let all = are s version c shows in
    let number : v ≡ version = is ∙ shows.version in
    let came = all.entered in
    let went = all.left in
    let stands = all.queue in
    cc

pub origin_shown : (l : Loading) (node : ℕ) (name : List ℕ) (v boundary : ℕ) (o : OriginState) (old new : List ℕ) → v ≡ version_of l
    → ((s : Setting) (version : ℕ) (c : Counts) → ShowsCounts s version c l → IsOriginState s c node boundary o)
    → new ≡ old ++ origin_line v name boundary o.produced.0 o.left.0 o.waiting.0
    → (s : Setting) (version : ℕ) (c : Counts) → ShowsCounts s version c l → new ≡ old ++ origin_report version name node boundary s c
unfolding origin_report
origin_shown l node name v boundary o old new is are wrote s version c shows =
    let all = are s version c shows in
    let number : v ≡ version = is ∙ shows.version in
    let came = all.produced in
    let went = all.left in
    let waits = all.waiting in
    cc

-- an origin that produces nothing has no line
pub pick_none : (n : ℕ) (x : List ℕ) → n ≡ 0 → cond (nat_eq n 0) [] x ≡ []
pick_none n x h = grind (arith, nat_tests)

pub pick_some : (n : ℕ) (x : List ℕ) → n ≢ 0 → cond (nat_eq n 0) [] x ≡ x
pick_some n x h = grind (arith, nat_tests)

pub no_line : (name : List ℕ) (node : ℕ) (s : Setting) (c : Counts) → produced_in_all s node s.slots ≡ 0 → node_delay_report name node s c ≡ []
unfolding node_delay_report
no_line name node s c none = pick_none (produced_in_all s node s.slots) _ none

pub some_line : (name : List ℕ) (node : ℕ) (s : Setting) (c : Counts) → produced_in_all s node s.slots ≢ 0
    → node_delay_report name node s c ≡ node_delay_line name (waited_at s c node) (waiting_at s c node (longest s c node)) (longest s c node)
unfolding node_delay_report
some_line name node s c some = pick_some (produced_in_all s node s.slots) _ some

pub node_delay_shown : (node : ℕ) (name : List ℕ) (d : OriginDelay) (old new : List ℕ) (s : Setting) (c : Counts) → produced_in_all s node s.slots ≢ 0 → IsOriginDelay s c node d
    → new ≡ old ++ node_delay_line name d.waited d.peak.most.0 d.peak.at → new ≡ old ++ node_delay_report name node s c
node_delay_shown node name d old new s c some is wrote =
    let line = some_line name node s c some in
    let waited = is.waited in
    let at = is.peak.at in
    let most : d.peak.most.0 ≡ waiting_at s c node (longest s c node) = is.peak.most ∙ ap (waiting_at s c node) is.peak.at in
    cc

-- ---- of a whole case
pub case_told : (s : ScenarioData) (l : Loading) (none first second third : List ℕ) → IsScenario s → Shows (setting_of s) 0 l → none ≡ []
    → ((r : Setting) (version : ℕ) (c : Counts) → ShowsCounts r version c l → first ≡ none ++ delay_report version r c)
    → ((c : Counts) → ShowsCounts (setting_of s) 0 c l → second ≡ first ++ texts_below (length s.network.links) (link_delay_of s c))
    → ((c : Counts) → ShowsCounts (setting_of s) 0 c l → third ≡ second ++ texts_below (length s.network.nodes) (node_delay_of s c))
    → IsDelayReport s third
unfolding case_delay_report
case_told s l none first second third is (c, shows) empty one two three = (
  c,
  is,
  shows.loading,
  three c shows
      ∙ ap (λ (x : List ℕ). x ++ texts_below (length s.network.nodes) (node_delay_of s c))
      (two c shows
      ∙ ap (λ (x : List ℕ). x ++ texts_below (length s.network.links) (link_delay_of s c))
      (one (setting_of s) 0 c shows ∙ ap (λ (x : List ℕ). x ++ delay_report 0 (setting_of s) c) empty)),
)
