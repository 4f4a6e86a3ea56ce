-- What lines of all links, nodes or boundaries tell is what the lines of each alone tell.
use Rattle.std.proofs.Common.{ℕ, zero, suc, ◌≡◌, ◌+◌, ◌-◌, ◌*◌, ◌<◌, ◌≤◌, ◌++◌, List, [], nat_lt, refl, ap, ◌∙◌, codes, arith, if◌then◌else◌}
use Rattle.std.specs.Prelude.{◌/◌, ◌%◌, min}
use Rattle.std.proofs.Math.Nat.{zero-mul, min-le_right, min-eq_right}
use Rattle.std.proofs.lemmas.Nat.{div-add-mod', mod_below}
use Rattle.ltm_report.specs.Sampled.{passed_report, departed_report}
use Rattle.std.specs.Fmt.{digits}
use Rattle.ltm_units.specs.Sums.{sum_below}
use Rattle.ltm_units.specs.Texts.{number_piece, amount_piece, vehicles_text}
use Rattle.ltm_units.proofs.Sums.{sum_below-zero}
use Rattle.ltm_curve.specs.Counts.{Counts}
use Rattle.ltm_loading.specs.Setting.{Setting, IsSetting}
use Rattle.ltm_loading.specs.Totals.{entered_link, left_link}
use Rattle.ltm_flows.specs.Origins.{produced_in_all, departed_from}
use Rattle.ltm_flows.proofs.Filling.{idle_before}
use Rattle.ltm_times.specs.Times.{time_spent}
use Rattle.ltm_times.specs.Peaks.{peak}
use Rattle.ltm_times.specs.Queues.{queue, waiting_at}
use Rattle.ltm_times.specs.Delays.{spent_on, queued_on, fullest, waited_at, longest, queued, waited}
use Rattle.ltm_report.specs.Delays.{node_delay_line, seconds_piece, seconds_text}
use Rattle.ltm_report.specs.DelayReports.{delay_report, link_delay_report, queue_report, node_delay_report, origin_report}
use Rattle.ltm_report.specs.Rows.{peak_numbers, node_numbers}
use Rattle.ltm_report.specs.Samples.{samples_report}
use Rattle.ltm_report.specs.RowReports.{state_report, curve_report, departures_report, delays_report}
use Rattle.ltm_report.specs.RowLaws.{StateTellsQueues, CurvesTellQueues, DeparturesTellOrigins, TotalsTellCurves, TotalsTellDepartures, LastIsTold, SamplesTellCurves, DelaysTellDelay}
use Rattle.ltm_report.proofs.Delayed.{no_line, some_line}
use Rattle.ltm_report.proofs.Telling.{not_departed, some_departed}

pub state_tells_queues_holds : StateTellsQueues
unfolding state_report queue_report origin_report
state_tells_queues_holds s c boundary = record {
  entered = λ link. entered_link s c link boundary;
  gone = λ link. left_link s c link boundary;
  queued = λ link. queue s c link boundary;
  waiting = λ node. waiting_at s c node boundary;
  produced = λ node. produced_in_all s node boundary;
  departed = λ node. departed_from s c node boundary;
  state = λ version. refl;
  queue = λ version name link. refl;
  origin = λ version name node. refl;
}

pub curves_tell_queues_holds : CurvesTellQueues
unfolding curve_report queue_report
curves_tell_queues_holds s c link = record {
  entered = entered_link s c link;
  gone = left_link s c link;
  queued = queue s c link;
  curve = λ version name. refl;
  queue = λ version name boundary. refl;
}

pub departures_tell_origins_holds : DeparturesTellOrigins
unfolding departures_report origin_report
departures_tell_origins_holds s c node = record {
  produced = produced_in_all s node;
  departed = departed_from s c node;
  waiting = waiting_at s c node;
  departures = λ version name. refl;
  origin = λ version name boundary. refl;
}

pub totals_tell_curves_holds : TotalsTellCurves
unfolding curve_report passed_report
totals_tell_curves_holds s c every link = record {
  entered = entered_link s c link;
  gone = left_link s c link;
  curve = λ version name. refl;
  totals = λ name. refl;
  within = λ place. min-le_right ((place + 1) * every) s.slots;
}

-- the last multiple that is told is past the end, or the end itself
past_end : (every slots : ℕ) → 0 < every → slots ≤ ((slots - 1) / every + 1) * every
past_end every slots some =
    let n = slots - 1 in
    let parts : n / every * every + n % every ≡ n = div-add-mod' n every in
    let small : n % every < every = mod_below n every some in
    let more : (n / every + 1) * every ≡ n / every * every + every = omega (arith) in
    omega (parts, small, more, arith)

pub last_is_told_holds : LastIsTold
last_is_told_holds every slots some =
    let place : (slots - 1) / every + 1 - 1 + 1 ≡ (slots - 1) / every + 1 = omega (arith) in
    ap (λ (n : ℕ). min (n * every) slots) place ∙ min-eq_right (past_end every slots some)

pub samples_tell_curves_holds : SamplesTellCurves
unfolding curve_report departures_report samples_report
samples_tell_curves_holds s c every = record {
  entered = entered_link s c;
  gone = left_link s c;
  produced = produced_in_all s;
  departed = departed_from s c;
  curve = λ version name link. refl;
  departures = λ version name node. refl;
  samples = λ version. refl;
  within = λ place. min-le_right ((place + 1) * every) s.slots;
}

pub totals_tell_departures_holds : TotalsTellDepartures
unfolding departures_report
totals_tell_departures_holds s c every node = record {
  produced = produced_in_all s node;
  departed = departed_from s c node;
  departures = λ version name. refl;
  totals = λ name some. some_departed every name node s c (λ none. omega (arith, some, none));
  idle = λ name none. not_departed every name node s c none;
}

-- ---- a node that produces nothing
none_waits : (s : Setting) (c : Counts) (node k : ℕ) → IsSetting s → node < s.nodes → k ≤ s.slots → produced_in_all s node s.slots ≡ 0 → waiting_at s c node k ≡ 0
none_waits s c node k is there within none = let idle = idle_before s node k is there within none in omega (arith, idle)

flat_below : (f : ℕ → ℕ) (last most : ℕ) → ((k : ℕ) → k ≤ most → f k ≡ 0) → last ≤ most → peak f last ≡ 0
flat_below f zero most none within = refl
flat_below f (suc last) most none within =
    let before : peak f last ≡ 0 = flat_below f last most none (omega arith) in
    let here : f (suc last) ≡ 0 = none (suc last) within in
    rw (before, none 0 (omega arith), here) refl

zeros : node_numbers 0 0 0 ≡ codes " 0.000000 0.000 0"
unfolding node_numbers peak_numbers seconds_piece seconds_text amount_piece vehicles_text number_piece digits
zeros = refl

idle_numbers : (s : Setting) (c : Counts) (node : ℕ) → IsSetting s → node < s.nodes → produced_in_all s node s.slots ≡ 0
    → node_numbers (waited_at s c node) (waiting_at s c node (longest s c node)) (longest s c node) ≡ codes " 0.000000 0.000 0"
idle_numbers s c node is there none =
    let at : longest s c node ≡ 0 = flat_below (waiting_at s c node) s.slots s.slots (λ k within. none_waits s c node k is there within none) (omega arith) in
    let most : waiting_at s c node (longest s c node) ≡ 0 = ap (waiting_at s c node) at ∙ none_waits s c node 0 is there (omega arith) none in
    let sums : sum_below s.slots (λ t. waiting_at s c node (t + 1)) ≡ 0 = sum_below-zero s.slots (λ t. waiting_at s c node (t + 1)) (λ t less. none_waits s c node (t + 1) is there (omega arith) none) in
    let all : waited_at s c node ≡ 0 = ap (λ (n : ℕ). n * s.step) sums ∙ zero-mul s.step in
    ap (λ (n : ℕ). node_numbers n (waiting_at s c node (longest s c node)) (longest s c node)) all
    ∙ (ap (λ (n : ℕ). node_numbers 0 n (longest s c node)) most
    ∙ (ap (λ (n : ℕ). node_numbers 0 0 n) at ∙ zeros))

pub delays_tell_delay_holds : DelaysTellDelay
unfolding delays_report delay_report link_delay_report
delays_tell_delay_holds s c is = record {
  spent = time_spent s c;
  queued = queued s c;
  waited = waited s c;
  spent_on = spent_on s c;
  queued_on = queued_on s c;
  most_queued = λ link. queue s c link (fullest s c link);
  fullest = fullest s c;
  waited_at = waited_at s c;
  most_waiting = λ node. waiting_at s c node (longest s c node);
  longest = longest s c;
  delays = λ version. refl;
  delay = λ version. refl;
  link = λ name link. refl;
  node = λ name node some. some_line name node s c (λ none. omega (arith, some, none));
  idle = λ name node there none. (no_line name node s c none, idle_numbers s c node is there none);
}
