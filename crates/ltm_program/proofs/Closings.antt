-- What a session leaves written, with the line that closes it.
use Rattle.std.proofs.Common.{ℕ, ◌≡◌, ◌≤◌, ◌⊎◌, inl, inr, refl, ap, sym, subst, ◌∙◌, arith, List, [], ◌++◌, length, Option, Some, None}
use Rattle.std.specs.Prelude.{IfSome, take}
use Rattle.std.proofs.lemmas.List.{append-nil, take-append-le, length-append}
use Rattle.ltm_io.specs.declared.doc.Doc.{Doc}
use Rattle.ltm_io.specs.Faults.{Rose}
use Rattle.ltm_io.specs.Sink.{appended, AppendsFront}
use Rattle.ltm_io.specs.Script.{lines_of}
use Rattle.ltm_scenario.specs.Data.{ScenarioData}
use Rattle.ltm_session.specs.declared.ends.SessionEnd.{SessionEnd}
use Rattle.ltm_session.specs.declared.ends.SessionEnd.TheVariants as end
use Rattle.ltm_session.specs.Analysts.{Analysts, opening_state}
use Rattle.ltm_session.specs.Session.{Answering, AnswersLines, IsSession, Wrote, EndsBefore, end_of}
use Rattle.ltm_session.proofs.Progress.{nothing_more, appended_more, whole_front, front_more}
use Rattle.ltm_command.specs.declared.status.Status.{Status}
use Rattle.ltm_command.specs.declared.status.Status.TheVariants as ending
use Rattle.ltm_command.specs.Program.{IsWhole}
use Rattle.ltm_command.specs.Run.{Outside, IsRun}
use Rattle.ltm_program.specs.Sessions.{closing_of, status_of_end, EndsUnder, ServesWhole}

-- ---- fronts
-- nothing more
none_more : (old new : Option (List ℕ)) → AppendsFront old new [] → new ≡ old
none_more old new (n, few, is) =
    let zero : n ≡ 0 = omega (few, arith) in is ∙ ap (λ k. appended (take k []) old) zero ∙ sym (nothing_more old)

longer : (old new : Option (List ℕ)) (output more : List ℕ) → AppendsFront old new output → AppendsFront old new (output ++ more)
longer old new output more (n, few, is) = (n, omega (arith, few, length-append output more), is ∙ ap (λ o. appended o old) (sym (take-append-le n output more few)))

-- a whole output, and a front of the closing line or nothing
closed_after : (old now new : Option (List ℕ)) (output more : List ℕ) → now ≡ appended output old → (new ≡ now) ⊎ AppendsFront now new more → AppendsFront old new (output ++ more)
closed_after old now new output more is (inl same) = longer old new output more (whole_front old new output (same ∙ is))
closed_after old now new output more is (inr front) = front_more old now new output more is front

-- a front of an output, and nothing after it
closed_early : (old now new : Option (List ℕ)) (output : List ℕ) → AppendsFront old now output → (new ≡ now) ⊎ AppendsFront now new [] → AppendsFront old new (output ++ [])
closed_early old now new output front (inl same) = longer old new output [] (subst (λ o. AppendsFront old o output) (sym same) front)
closed_early old now new output front (inr more) = longer old new output [] (subst (λ o. AppendsFront old o output) (sym (none_more now new more)) front)

closed_front : (e : SessionEnd) (old now new : Option (List ℕ)) (output : List ℕ) → Wrote e old now output → (new ≡ now) ⊎ AppendsFront now new (closing_of e) → AppendsFront old new (output ++ closing_of e)
closed_front end.Ended old now new output wrote more = closed_after old now new output [] wrote more
closed_front (end.LineTooLong n) old now new output wrote more = closed_after old now new output (closing_of (end.LineTooLong n)) wrote more
closed_front end.TooManyCommands old now new output wrote more = closed_after old now new output (closing_of end.TooManyCommands) wrote more
closed_front end.ReadFault old now new output wrote more = closed_after old now new output [] wrote more
closed_front end.WriteFault old now new output wrote more = closed_early old now new output wrote more
closed_front end.NoMemory old now new output wrote more = closed_early old now new output wrote more

-- ---- whole texts
-- under a status of a whole text all of the output was written
wrote_whole : (e : SessionEnd) (old now : Option (List ℕ)) (output : List ℕ) → IsWhole (status_of_end e) → Wrote e old now output → now ≡ appended output old
wrote_whole end.Ended old now output whole wrote = wrote
wrote_whole (end.LineTooLong n) old now output whole wrote = wrote
wrote_whole end.TooManyCommands old now output whole wrote = wrote
wrote_whole end.ReadFault old now output whole wrote = wrote
wrote_whole end.WriteFault old now output whole wrote = absurd whole
wrote_whole end.NoMemory old now output whole wrote = absurd whole

-- ---- a session that ended well
-- an output by this rule of answers
abbrev pub IsOutputBy : Answering → ScenarioData → List ℕ → List ℕ → Type 0
IsOutputBy answers s script output = (t : Analysts) × AnswersLines answers (opening_state s 0) (lines_of script) output t

pub ended_whole : {answers : Answering} (s : ScenarioData) (script left old now : Option (List ℕ)) (e : SessionEnd) (output : List ℕ) (t : Analysts) → e ≡ end.Ended
    → IsSession answers (opening_state s 0) script left e output t → Wrote e old now output → ((lines : List ℕ) → script ≡ Some lines → e ≡ end.Ended → left ≡ Some [])
    → ServesWhole (IsOutputBy answers) s script left old now
ended_whole {answers = answers} s None left old now e output t is so wrote read = tt
ended_whole {answers = answers} s (Some lines) left old now e output t is so wrote read =
    let (rest, cut, before) = so.ends in
    let none : rest ≡ [] = subst (λ x. EndsBefore x (length so.answered) rest) is before in
    let all : lines_of lines ≡ so.answered = cut ∙ ap (λ r. so.answered ++ r) none ∙ append-nil so.answered in
    let runs = subst (λ ls. AnswersLines answers (opening_state s 0) ls output t) (sym all) so.runs in
    (output, (t, runs), subst (λ x. Wrote x old now output) is wrote, read lines refl is)

-- ---- statuses
-- what a closing line leaves: the status of the end, or that it was not written
abbrev pub Closes : SessionEnd → Status → Type 0
Closes e result = (result ≡ status_of_end e) ⊎ ((result ≡ ending.WriteFault) ⊎ (result ≡ ending.NoMemory))

-- where nothing failed, the status is that of the end which the script has
ends_plain : (e : SessionEnd) (script : List ℕ) (result : Status) → ((e ≡ end.ReadFault → ⊥) → (e ≡ end.WriteFault → ⊥) → (e ≡ end.NoMemory → ⊥) → e ≡ end_of script)
    → (e ≡ end.ReadFault → ⊥) → (e ≡ end.WriteFault → ⊥) → result ≡ status_of_end e → (result ≡ status_of_end (end_of script)) ⊎ (result ≡ ending.NoMemory)
ends_plain end.Ended script result says read write well = inl (well ∙ ap status_of_end (says (λ x. cc) (λ x. cc) (λ x. cc)))
ends_plain (end.LineTooLong n) script result says read write well = inl (well ∙ ap status_of_end (says (λ x. cc) (λ x. cc) (λ x. cc)))
ends_plain end.TooManyCommands script result says read write well = inl (well ∙ ap status_of_end (says (λ x. cc) (λ x. cc) (λ x. cc)))
ends_plain end.ReadFault script result says read write well = absurd (read refl)
ends_plain end.WriteFault script result says read write well = absurd (write refl)
ends_plain end.NoMemory script result says read write well = inr well

pub ends_well : (e : SessionEnd) (script : List ℕ) (result : Status) → ((e ≡ end.ReadFault → ⊥) → (e ≡ end.WriteFault → ⊥) → (e ≡ end.NoMemory → ⊥) → e ≡ end_of script)
    → (e ≡ end.ReadFault → ⊥) → (e ≡ end.WriteFault → ⊥) → (result ≡ ending.WriteFault → ⊥) → Closes e result
    → (result ≡ status_of_end (end_of script)) ⊎ (result ≡ ending.NoMemory)
ends_well e script result says read write faulted (inl well) = ends_plain e script result says read write well
ends_well e script result says read write faulted (inr (inl failed)) = absurd (faulted failed)
ends_well e script result says read write faulted (inr (inr none)) = inr none

-- a session ends in no status of the words or of the files
of_no_files : (e : SessionEnd) → (status_of_end e ≡ ending.Usage → ⊥) × (status_of_end e ≡ ending.FolderFault → ⊥)
of_no_files end.Ended = (λ x. cc, λ x. cc)
of_no_files (end.LineTooLong n) = (λ x. cc, λ x. cc)
of_no_files end.TooManyCommands = (λ x. cc, λ x. cc)
of_no_files end.ReadFault = (λ x. cc, λ x. cc)
of_no_files end.WriteFault = (λ x. cc, λ x. cc)
of_no_files end.NoMemory = (λ x. cc, λ x. cc)

pub no_files : (e : SessionEnd) (result : Status) → Closes e result → (result ≡ ending.Usage → ⊥) × (result ≡ ending.FolderFault → ⊥)
no_files e result (inl well) = (λ x. (of_no_files e).0 (sym well ∙ x), λ x. (of_no_files e).1 (sym well ∙ x))
no_files e result (inr (inl failed)) = (λ x. cc, λ x. cc)
no_files e result (inr (inr none)) = (λ x. cc, λ x. cc)

-- ---- faults of the output
-- a count that rose in a part rose in the whole
rose_after : (a b c : ℕ) → a ≤ b → Rose b c → Rose a c
rose_after a b c later rose = omega (arith, later, rose)

rose_before : (a b c : ℕ) → Rose a b → b ≤ c → Rose a c
rose_before a b c rose later = omega (arith, later, rose)

failed_writing : (e : SessionEnd) (result : Status) (a b c : ℕ) → result ≡ ending.WriteFault → (result ≡ ending.WriteFault → (e ≡ end.WriteFault) ⊎ Rose b c) → (e ≡ end.WriteFault → Rose a b)
    → a ≤ b → b ≤ c → Rose a c
failed_writing e result a b c is cause first later last =
    elim (cause is) [
      | inl failed ↦ rose_before a b c (first failed) last
      | inr rose ↦ rose_after a b c later rose
    ]

-- ---- runs
read_out : (script left : Option (List ℕ)) → ((lines : List ℕ) → script ≡ Some lines → left ≡ Some []) → IfSome script (λ x. left ≡ Some [])
read_out None left read = tt
read_out (Some lines) left read = read lines refl

-- a script was served up to an end, and the line was written that closes it; no file was fetched
pub run_served : (IsOutput : SessionEnd → List ℕ → Type 0) (e : SessionEnd) (output : List ℕ) (status : Status) (now : Option (List ℕ)) (writes : ℕ) (b a : Outside)
    → (a.told ≡ b.told) × ((d : Doc) → a.faults d ≡ b.faults d) → IsOutput e output → Wrote e b.written now output
    → ((lines : List ℕ) → b.left ≡ Some lines → e ≡ end.Ended → a.left ≡ Some []) → (e ≡ end.ReadFault → Rose b.read_faults a.read_faults)
    → (e ≡ end.WriteFault → Rose b.write_faults writes) → b.write_faults ≤ writes → writes ≤ a.write_faults
    → Closes e status → (IsWhole status → a.written ≡ appended (closing_of e) now) → (a.written ≡ now) ⊎ AppendsFront now a.written (closing_of e)
    → (status ≡ ending.WriteFault → (e ≡ end.WriteFault) ⊎ Rose writes a.write_faults) → (status ≡ ending.Ok → e ≡ end.Ended) → (status ≡ ending.ReadFault → e ≡ end.ReadFault)
    → IsRun (EndsUnder IsOutput) (λ d. ⊥) (Unit {0}) status b a
run_served IsOutput e output status now writes b a stays is wrote read heard failed later last closes closed front cause well cut = record {
  touches = (stays.0, λ d out. stays.1 d);
  reads = (
    λ blind. absurd (blind tt),
    λ reads ok. read_out b.left a.left (λ lines told. read lines told (well ok)),
    λ missing. absurd ((no_files e status closes).1 missing),
  );
  faults = (
    λ missing. absurd ((no_files e status closes).1 missing),
    λ stopped. (tt, heard (cut stopped)),
    λ unwritten. failed_writing e status b.write_faults writes a.write_faults unwritten cause failed later last,
  );
  whole = λ all. whole closes all;
  front = inr (status_of_end e, output ++ closing_of e, (of_no_files e).1, (e, output, is, refl, refl), closed_front e b.written now a.written output wrote front);
}
  where
    whole : Closes e status → IsWhole status → (t : List ℕ) × EndsUnder IsOutput status t × (a.written ≡ appended t b.written)
    whole (inl same) all =
        let written : now ≡ appended output b.written = wrote_whole e b.written now output (subst IsWhole same all) wrote in
        (output ++ closing_of e, (e, output, is, same, refl), closed all ∙ ap (appended (closing_of e)) written ∙ appended_more b.written output (closing_of e))
    whole (inr (inl unwritten)) all = absurd (subst IsWhole unwritten all)
    whole (inr (inr none)) all = absurd (subst IsWhole none all)
