-- What a question asks to be reported, or the line that refuses it.
use Rattle.std.specs.Prelude.{ℕ, ◌≡◌, ◌++◌, Bool, true, false, List, codes, Option, None, Some, Result, Ok, Err, nat_le, nat_lt}
use Rattle.ltm_flows.specs.Counts.{Counts}
use Rattle.ltm_network.specs.Network.{NetworkData, find_link, find_node}
use Rattle.ltm_loading.specs.Setting.{Setting}
use Rattle.ltm_flows.specs.declared.loading.Loading.{Loading}
use Rattle.ltm_flows.specs.Shown.{ShowsCounts}
use Rattle.ltm_script.specs.declared.command.Question.{Question}
use Rattle.ltm_script.specs.declared.command.Question.TheVariants as question
use Rattle.ltm_report.specs.Refusals.{unknown_name_line, bad_slots_line}
use Rattle.ltm_report.specs.Reports.{totals_report, link_report}
use Rattle.ltm_report.specs.DelayReports.{delay_report, queue_report, origin_report}
use Rattle.ltm_report.specs.GapReports.{gap_report}
use Rattle.ltm_report.specs.Samples.{samples_report}
use Rattle.ltm_report.specs.RowReports.{state_report, curve_report, departures_report, delays_report}
use Rattle.ltm_session.specs.Reports.{time_report}

-- how a report is told of a loading: of its version, of what it is a loading of, and of its counts
abbrev pub Report : Type 0
Report = ℕ → Setting → Counts → List ℕ

-- a question, told by its word, that names a link or a node is refused where nothing has the name
abbrev pub of_name : List ℕ → Option ℕ → (ℕ → Report) → Result Report (List ℕ)
of_name word None report = Err (unknown_name_line word)
of_name word (Some place) report = Ok (report place)

-- a report that names a slot or a boundary is refused where what is shown has none such, and totals by every 0 slots
abbrev pub where_there : List ℕ → Bool → Result Report (List ℕ) → Result Report (List ℕ)
where_there word there (Err refusal) = Err refusal
where_there word true (Ok report) = Ok report
where_there word false (Ok report) = Err (bad_slots_line word)

-- what is asked of a loading of a network that has so many slots: the report, or the line that refuses the question
abbrev pub asked : NetworkData → ℕ → Question → Result Report (List ℕ)
asked n slots question.Totals = Ok totals_report
asked n slots (question.Samples every) = where_there (codes "totals") (nat_lt 0 every) (Ok (λ version. samples_report every version))
asked n slots (question.Link name) = of_name (codes "link") (find_link n name) (λ link version. link_report version name link)
asked n slots (question.Time name slot) =
    where_there (codes "time") (nat_lt slot slots) (of_name (codes "time") (find_link n name) (λ link version. time_report version name link slot))
asked n slots question.Delay = Ok delay_report
asked n slots (question.Queue name boundary) =
    where_there (codes "queue") (nat_le boundary slots) (of_name (codes "queue") (find_link n name) (λ link version. queue_report version name link boundary))
asked n slots (question.Origin name boundary) =
    where_there (codes "origin") (nat_le boundary slots) (of_name (codes "origin") (find_node n name) (λ node version. origin_report version name node boundary))
asked n slots (question.State boundary) = where_there (codes "state") (nat_le boundary slots) (Ok (λ version. state_report version boundary))
asked n slots (question.Curve name) = of_name (codes "curve") (find_link n name) (λ link version. curve_report version name link)
asked n slots (question.Departures name) = of_name (codes "departures") (find_node n name) (λ node version. departures_report version name node)
asked n slots question.Delays = Ok delays_report
asked n slots question.Gap = Ok gap_report

-- the report of a loading, or the line that refuses a question, was appended to a text
abbrev pub Appends : Loading → Result Report (List ℕ) → List ℕ → List ℕ → Type 0
Appends l (Ok report) old new = (s : Setting) (version : ℕ) (c : Counts) → ShowsCounts s version c l → new ≡ old ++ report version s c
Appends l (Err refusal) old new = new ≡ old ++ refusal
