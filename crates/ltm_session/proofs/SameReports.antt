-- Loadings of one scenario have the same reports.
use Rattle.std.proofs.Common.{ℕ, ◌≡◌, ◌-◌, ◌<◌, ◌≤◌, List, ap, ◌∙◌, arith}
use Rattle.ltm_flows.specs.Counts.{Counts}
use Rattle.ltm_loading.specs.Setting.{Setting}
use Rattle.ltm_loading.specs.Totals.{generated, arrived, on_links, waiting, entered_link, left_link}
use Rattle.ltm_loading.proofs.Same.{AgreeTo}
use Rattle.ltm_times.specs.Times.{time_spent}
use Rattle.ltm_flows.specs.Origins.{produced_in_all, departed_from}
use Rattle.ltm_times.specs.Queues.{queue, waiting_at}
use Rattle.ltm_times.specs.Delays.{queued, waited}
use Rattle.ltm_times.proofs.Alike.{arrived_same, on_links_same, waiting_same, entered_same, left_same, travel_same, spent_same}
use Rattle.ltm_times.proofs.DelaysAlike.{queue_same, queued_same, waited_same, departed_from_same}
use Rattle.ltm_gap.specs.Gaps.{least, late}
use Rattle.ltm_gap.proofs.Same.{least_same, late_same}
use Rattle.ltm_report.specs.Gaps.{gap_line}
use Rattle.ltm_report.specs.GapReports.{gap_report}
use Rattle.ltm_report.specs.Totals.{totals_line}
use Rattle.ltm_report.specs.Links.{link_line}
use Rattle.ltm_report.specs.Times.{time_line}
use Rattle.ltm_report.specs.Delays.{delay_line, queue_line, origin_line}
use Rattle.ltm_report.specs.Reports.{totals_report, link_report}
use Rattle.ltm_report.specs.DelayReports.{delay_report, queue_report, origin_report}
use Rattle.ltm_session.specs.Reports.{time_report}

pub totals_same : (s : Setting) (a b : Counts) (version : ℕ) → AgreeTo s a b s.slots → totals_report version s a ≡ totals_report version s b
unfolding totals_report
totals_same s a b version same =
    ap (λ x. totals_line version (generated s s.slots) x (on_links s a s.slots) (waiting s a s.slots)) (arrived_same s a b s.slots same (omega arith))
    ∙ ap (λ x. totals_line version (generated s s.slots) (arrived s b s.slots) x (waiting s a s.slots)) (on_links_same s a b same)
    ∙ ap (λ x. totals_line version (generated s s.slots) (arrived s b s.slots) (on_links s b s.slots) x) (waiting_same s a b same)

pub links_same : (s : Setting) (a b : Counts) (version link : ℕ) (name : List ℕ) → AgreeTo s a b s.slots → link < s.links → link_report version name link s a ≡ link_report version name link s b
unfolding link_report
links_same s a b version link name same there =
    ap (λ x. link_line version name x (left_link s a link s.slots)) (entered_same s a b link s.slots same there (omega arith))
    ∙ ap (λ x. link_line version name (entered_link s b link s.slots) x) (left_same s a b link s.slots same there (omega arith))

pub times_same : (s : Setting) (a b : Counts) (version link slot : ℕ) (name : List ℕ) → 0 < s.step → AgreeTo s a b s.slots → link < s.links → slot ≤ s.slots
    → time_report version name link slot s a ≡ time_report version name link slot s b
unfolding time_report
times_same s a b version link slot name some same there within = ap (time_line version name slot) (travel_same s a b link slot some same there within)

pub delays_same : (s : Setting) (a b : Counts) (version : ℕ) → 0 < s.step → AgreeTo s a b s.slots → delay_report version s a ≡ delay_report version s b
unfolding delay_report
delays_same s a b version some same =
    ap (λ x. delay_line version x (queued s a) (waited s a)) (spent_same s a b same)
    ∙ ap (λ x. delay_line version (time_spent s b) x (waited s a)) (queued_same s a b some same)
    ∙ ap (λ x. delay_line version (time_spent s b) (queued s b) x) (waited_same s a b same)

pub gaps_same : (s : Setting) (a b : Counts) (version : ℕ) → 0 < s.step → AgreeTo s a b s.slots → gap_report version s a ≡ gap_report version s b
unfolding gap_report
gaps_same s a b version some same =
    ap (λ x. gap_line version x (least s a) (late s a)) (spent_same s a b same)
    ∙ ap (λ x. gap_line version (time_spent s b) x (late s a)) (least_same s a b some same)
    ∙ ap (λ x. gap_line version (time_spent s b) (least s b) x) (late_same s a b some same)

pub queues_same : (s : Setting) (a b : Counts) (version link boundary : ℕ) (name : List ℕ) → 0 < s.step → AgreeTo s a b s.slots → link < s.links → boundary ≤ s.slots
    → queue_report version name link boundary s a ≡ queue_report version name link boundary s b
unfolding queue_report
queues_same s a b version link boundary name some same there within =
    ap (λ x. queue_line version name boundary x (left_link s a link boundary) (queue s a link boundary)) (entered_same s a b link boundary same there within)
    ∙ ap (λ x. queue_line version name boundary (entered_link s b link boundary) x (queue s a link boundary)) (left_same s a b link boundary same there within)
    ∙ ap (λ x. queue_line version name boundary (entered_link s b link boundary) (left_link s b link boundary) x) (queue_same s a b link boundary some same there within)

pub origins_same : (s : Setting) (a b : Counts) (version node boundary : ℕ) (name : List ℕ) → AgreeTo s a b s.slots → node < s.nodes → boundary ≤ s.slots
    → origin_report version name node boundary s a ≡ origin_report version name node boundary s b
unfolding origin_report
origins_same s a b version node boundary name same there within =
    let left = departed_from_same s a b node boundary same there within in
    ap (λ x. origin_line version name boundary (produced_in_all s node boundary) x (waiting_at s a node boundary)) left
    ∙ ap (λ x. origin_line version name boundary (produced_in_all s node boundary) (departed_from s b node boundary) (produced_in_all s node boundary - x)) left
