-- What a line leaves of the log: the batches before it stand first, and what is shown stays or is the last.
use Rattle.std.proofs.Common.{◌≡◌, ◌⊎◌, ℕ, List, [], ◌∷◌, ◌++◌, inl, inr, sym, ap, ◌∙◌}
use Rattle.std.proofs.lemmas.List.{append-nil}
use Rattle.std.specs.Prelude.{Result, Ok, Err, MatchResult}
use Rattle.ltm_scenario.specs.declared.edit.Edit.{Edit}
use Rattle.ltm_scenario.specs.declared.edit.EditFault.{EditFault}
use Rattle.ltm_scenario.specs.Data.{ScenarioData}
use Rattle.ltm_scenario.specs.Edits.{edited_all}
use Rattle.ltm_script.specs.declared.command.Command.{Command}
use Rattle.ltm_script.specs.declared.command.Command.TheVariants as command
use Rattle.ltm_script.specs.declared.command.CommandFault.{CommandFault}
use Rattle.ltm_script.specs.declared.command.CommandFault.TheVariants as fault
use Rattle.ltm_core.specs.Log.{with_batch, batches_of, version_now, scenario_now}
use Rattle.ltm_core.proofs.Logs.{batches_more, batches_marked, opening_batch, opening_marked, version_marked}
use Rattle.ltm_session.specs.Analysts.{Analysts, settled}
use Rattle.ltm_session.specs.Answers.{AnswersAlone}

pub record Grows (s t : Analysts) : Type 0 where
  pub opening : t.log.opening ≡ s.log.opening
  pub more : List (List Edit)
  pub batches : batches_of t.log ≡ batches_of s.log ++ more
  pub shown : (t.shown ≡ s.shown) ⊎ (t.shown ≡ version_now t.log)

stays : (s t : Analysts) → t ≡ s → Grows s t
stays s t same = record {
  opening = ap (λ (a : Analysts). a.log.opening) same;
  more = [];
  batches = ap (λ (a : Analysts). batches_of a.log) same ∙ sym (append-nil (batches_of s.log));
  shown = inl (ap (λ (a : Analysts). a.shown) same);
}

edits : (r : Result ScenarioData EditFault) (s t : Analysts) (batch : List Edit) (P : Type 0) (Q : EditFault → Type 0)
    → MatchResult r (λ _. P × (t ≡ record s { log = with_batch s.log batch })) (λ f. Q f × (t ≡ s)) → Grows s t
edits (Ok x) s t batch P Q (p, same) = record {
  opening = ap (λ (a : Analysts). a.log.opening) same ∙ opening_batch s.log batch;
  more = batch ∷ [];
  batches = ap (λ (a : Analysts). batches_of a.log) same ∙ batches_more s.log batch;
  shown = inl (ap (λ (a : Analysts). a.shown) same);
}
edits (Err f) s t batch P Q (p, same) = stays s t same

settles : (s t : Analysts) → t ≡ settled s → Grows s t
settles s t same = record {
  opening = ap (λ (a : Analysts). a.log.opening) same ∙ opening_marked s.log;
  more = [];
  batches = ap (λ (a : Analysts). batches_of a.log) same ∙ (batches_marked s.log ∙ sym (append-nil (batches_of s.log)));
  shown = inr (ap (λ (a : Analysts). a.shown) same ∙ (sym (version_marked s.log) ∙ sym (ap (λ (a : Analysts). version_now a.log) same)));
}

pub grows : (s t : Analysts) (said : Result Command CommandFault) (text : List ℕ) → AnswersAlone s said text t → Grows s t
grows s t (Ok command.Settle) text (told, same) = settles s t same
grows s t (Ok (command.Edit batch)) text told = edits (edited_all (scenario_now s.log) batch) s t batch _ _ told
grows s t (Ok (command.Ask q)) text (told, same) = stays s t same
grows s t (Err fault.NotJson) text (told, same) = stays s t same
grows s t (Err (fault.NotCommand place)) text (told, same) = stays s t same
grows s t (Err fault.NoMemory) text told = absurd told
