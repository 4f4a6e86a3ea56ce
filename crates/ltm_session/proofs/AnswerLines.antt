-- Each answer is one line.
use Rattle.std.proofs.Common.{ℕ, ◌≡◌, Bool, true, false, List, refl, codes, sym, subst, length, ◌+◌, Option, None, Some, Result, Ok, Err}
use Rattle.std.specs.Prelude.{MatchResult, nat_le, nat_lt}
use Rattle.ltm_flows.specs.Counts.{Counts}
use Rattle.ltm_network.specs.Network.{NetworkData, find_link, find_node}
use Rattle.ltm_scenario.specs.declared.edit.Edit.{Edit}
use Rattle.ltm_scenario.specs.declared.edit.EditFault.{EditFault}
use Rattle.ltm_scenario.specs.Data.{ScenarioData}
use Rattle.ltm_scenario.specs.Edits.{edited_all}
use Rattle.ltm_loading.specs.Setting.{Setting}
use Rattle.ltm_setting.specs.Setting.{setting_of}
use Rattle.ltm_script.specs.declared.command.Command.{Command}
use Rattle.ltm_script.specs.declared.command.Command.TheVariants as command
use Rattle.ltm_script.specs.declared.command.Question.{Question}
use Rattle.ltm_script.specs.declared.command.Question.TheVariants as question
use Rattle.ltm_script.specs.declared.command.CommandFault.{CommandFault}
use Rattle.ltm_report.specs.Answers.{accepted_line, settled_line}
use Rattle.ltm_report.specs.EditFaults.{edit_fault_line}
use Rattle.ltm_report.specs.CommandFaults.{command_fault_line}
use Rattle.ltm_report.specs.Refusals.{unknown_name_line, bad_slots_line}
use Rattle.ltm_report.specs.Reports.{link_report}
use Rattle.ltm_report.specs.DelayReports.{queue_report, origin_report}
use Rattle.ltm_report.specs.Samples.{samples_report}
use Rattle.ltm_report.specs.RowReports.{state_report, curve_report, departures_report}
use Rattle.ltm_core.specs.Log.{after_batches}
use Rattle.ltm_session.specs.Reports.{time_report}
use Rattle.ltm_session.specs.Questions.{Report, of_name, where_there, asked}
use Rattle.ltm_session.specs.OneLine.{IsPlain, IsOneLine}
use Rattle.ltm_session.specs.Promise.{Standing, Tells, slots_after, IsAnswer}
use Rattle.ltm_session.proofs.Named.{NamesOne, HasName}
use Rattle.ltm_session.proofs.Pieces.{plain_words}
use Rattle.ltm_session.proofs.ReportLines.{edit_fault_one, command_fault_one, unknown_name_one, bad_slots_one, accepted_one, settled_one, totals_report_one, link_report_one, time_report_one}
use Rattle.ltm_session.proofs.DelayLines.{delay_report_one, queue_report_one, origin_report_one}
use Rattle.ltm_session.proofs.RowLines.{state_report_one, samples_report_one, curve_report_one, departures_report_one, delays_report_one, gap_report_one}

one_as : (text line : List ℕ) → IsOneLine line → text ≡ line → IsOneLine text
one_as text line one is = subst IsOneLine (sym is) one

edit_one : (made : Result ScenarioData EditFault) (version : ℕ) (text : List ℕ)
    → MatchResult made (λ next. text ≡ accepted_line version) (λ fault. text ≡ edit_fault_line fault) → IsOneLine text
edit_one (Ok next) version text is = one_as text (accepted_line version) (accepted_one version) is
edit_one (Err fault) version text is = one_as text (edit_fault_line fault) (edit_fault_one fault) is

tells_one : (s : ScenarioData) (batches : List (List Edit)) (report : Report) (text : List ℕ)
    → ((version : ℕ) (s : Setting) (c : Counts) → IsOneLine (report version s c)) → Tells s batches report text → IsOneLine text
tells_one s batches report text one (c, scenario, loads, is) =
    one_as text (report (length batches) (setting_of (after_batches s batches)) c) (one (length batches) (setting_of (after_batches s batches)) c) is

-- ---- questions
-- what is asked is one line, and so is each refusal
abbrev AreOneLine : Result Report (List ℕ) → Type 0
AreOneLine r = MatchResult r (λ report. (version : ℕ) (s : Setting) (c : Counts) → IsOneLine (report version s c)) (λ refusal. IsOneLine refusal)

named_one : (word : List ℕ) (found : Option ℕ) (report : ℕ → Report) → IsPlain word
    → ((k version : ℕ) (s : Setting) (c : Counts) → IsOneLine (report k version s c)) → AreOneLine (of_name word found report)
named_one word None report plain each = unknown_name_one word plain
named_one word (Some k) report plain each = each k

there_one : (word : List ℕ) (there : Bool) (r : Result Report (List ℕ)) → IsPlain word → AreOneLine r → AreOneLine (where_there word there r)
there_one word there (Err refusal) plain one = one
there_one word true (Ok report) plain one = one
there_one word false (Ok report) plain one = bad_slots_one word plain

asked_one : (n : NetworkData) (slots : ℕ) (q : Question) → NamesOne q → AreOneLine (asked n slots q)
asked_one n slots question.Totals named = totals_report_one
asked_one n slots (question.Samples every) named =
    there_one (codes "totals") (nat_lt 0 every) (Ok (λ version. samples_report every version)) (plain_words (codes "totals") refl)
    (λ version s c. samples_report_one every version s c)
asked_one n slots (question.Link name) named =
    named_one (codes "link") (find_link n name) (λ link version. link_report version name link) (plain_words (codes "link") refl)
    (λ link version s c. link_report_one version name link s c named)
asked_one n slots (question.Time name slot) named =
    there_one (codes "time") (nat_lt slot slots) _ (plain_words (codes "time") refl)
    (named_one (codes "time") (find_link n name) (λ link version. time_report version name link slot) (plain_words (codes "time") refl)
    (λ link version s c. time_report_one version name link slot s c named))
asked_one n slots question.Delay named = delay_report_one
asked_one n slots (question.Queue name boundary) named =
    there_one (codes "queue") (nat_le boundary slots) _ (plain_words (codes "queue") refl)
    (named_one (codes "queue") (find_link n name) (λ link version. queue_report version name link boundary) (plain_words (codes "queue") refl)
    (λ link version s c. queue_report_one version name link boundary s c named))
asked_one n slots (question.Origin name boundary) named =
    there_one (codes "origin") (nat_le boundary slots) _ (plain_words (codes "origin") refl)
    (named_one (codes "origin") (find_node n name) (λ node version. origin_report version name node boundary) (plain_words (codes "origin") refl)
    (λ node version s c. origin_report_one version name node boundary s c named))
asked_one n slots (question.State boundary) named =
    there_one (codes "state") (nat_le boundary slots) (Ok (λ version. state_report version boundary)) (plain_words (codes "state") refl)
    (λ version s c. state_report_one version boundary s c)
asked_one n slots (question.Curve name) named =
    named_one (codes "curve") (find_link n name) (λ link version. curve_report version name link) (plain_words (codes "curve") refl)
    (λ link version s c. curve_report_one version name link s c named)
asked_one n slots (question.Departures name) named =
    named_one (codes "departures") (find_node n name) (λ node version. departures_report version name node) (plain_words (codes "departures") refl)
    (λ node version s c. departures_report_one version name node s c named)
asked_one n slots question.Delays named = delays_report_one
asked_one n slots question.Gap named = gap_report_one

told_one : (s : ScenarioData) (shown : List (List Edit)) (r : Result Report (List ℕ)) (text : List ℕ) → AreOneLine r
    → MatchResult r (λ report. Tells s shown report text) (λ refusal. text ≡ refusal) → IsOneLine text
told_one s shown (Ok report) text one told = tells_one s shown report text one told
told_one s shown (Err refusal) text one is = one_as text refusal one is

pub answer_one : (s : ScenarioData) (now : Standing) (shown : List (List Edit)) (said : Result Command CommandFault) (text : List ℕ)
    → HasName said → IsAnswer s now shown said text → IsOneLine text
answer_one s now shown (Ok (command.Edit batch)) text name is =
    edit_one (edited_all (after_batches s now.accepted) batch) (length now.accepted + 1) text is
answer_one s now shown (Ok command.Settle) text name (n, is) = one_as text (settled_line (length now.accepted) n) (settled_one (length now.accepted) n) is
answer_one s now shown (Ok (command.Ask q)) text named is =
    told_one s shown (asked s.network (slots_after s shown) q) text (asked_one s.network (slots_after s shown) q named) is
answer_one s now shown (Err fault) text name is = one_as text (command_fault_line fault) (command_fault_one fault) is
