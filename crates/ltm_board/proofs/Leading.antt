-- Where lists lead.
use Rattle.std.proofs.Common.{◌≡◌, List, [], ◌∷◌, ◌++◌, Ok, refl, sym, ap, ◌∙◌}
use Rattle.ltm_scenario.specs.declared.edit.Edit.{Edit}
use Rattle.ltm_scenario.specs.Data.{ScenarioData}
use Rattle.ltm_scenario.specs.Edits.{edited_all}
use Rattle.ltm_core.specs.declared.entry.LogEntry.{LogEntry}
use Rattle.ltm_core.specs.declared.entry.LogEntry.TheVariants.{Opening, Accepted, Mark}
use Rattle.ltm_core.specs.Log.{Log, HoldsAccepted, batches_of, scenario_now, AreAccepted, edited_or, after_batch, after_batches}
use Rattle.ltm_board.specs.Lists.{list_of, entries_of_batches, LeadsTo}
use Rattle.ltm_board.specs.Leads.{ListsLead}
use Rattle.ltm_board.proofs.Right.{opens_itself}

made : (s next : ScenarioData) (batch : List Edit) → edited_all s batch ≡ Ok next → after_batch s batch ≡ next
made s next batch is = ap (λ r. edited_or s r) is

record Further (s next : ScenarioData) (batches : List (List Edit)) (batch : List Edit) : Type 0 where
  pub accepted : AreAccepted s (batches ++ batch ∷ [])
  pub leaves : after_batches s (batches ++ batch ∷ []) ≡ next

one_more : (s next : ScenarioData) (batches : List (List Edit)) (batch : List Edit) → AreAccepted s batches → edited_all (after_batches s batches) batch ≡ Ok next → Further s next batches batch
one_more s next [] batch ok is = let e = made s next batch is in record { accepted = (is ∙ ap Ok (sym e), tt); leaves = e }
one_more s next (first ∷ batches) batch ok is = let r = one_more (after_batch s first) next batches batch ok.1 is in record { accepted = (ok.0, r.accepted); leaves = r.leaves }

both : (batches : List (List Edit)) (batch : List Edit) → entries_of_batches (batches ++ batch ∷ []) ≡ entries_of_batches batches ++ entries_of_batches (batch ∷ [])
both [] batch = refl
both (first ∷ batches) batch = ap (λ l. Accepted first ∷ l) (both batches batch)

further : (list : List LogEntry) (s next : ScenarioData) (batch : List Edit) → LeadsTo list s → edited_all s batch ≡ Ok next → LeadsTo (list ++ entries_of_batches (batch ∷ [])) next
further list s next batch leads is =
    let r = one_more leads.opening next leads.batches batch leads.accepted (ap (λ (z : ScenarioData). edited_all z batch) leads.leaves ∙ is) in record {
      opening = leads.opening;
      batches = leads.batches ++ batch ∷ [];
      is_list = ap (λ l. l ++ entries_of_batches (batch ∷ [])) leads.is_list ∙ ap (λ l. Opening leads.opening ∷ l) (sym (both leads.batches batch));
      accepted = r.accepted;
      leaves = r.leaves;
    }

of_log : (log : Log) → HoldsAccepted log → LeadsTo (list_of log.opening (batches_of log)) (scenario_now log)
unfolding HoldsAccepted scenario_now
of_log log holds = record { opening = log.opening; batches = batches_of log; is_list = refl; accepted = holds; leaves = refl }

-- what a list says
abbrev opening_or : ScenarioData → List LogEntry → ScenarioData
opening_or s (Opening t ∷ rest) = t
opening_or s (Accepted batch ∷ rest) = s
opening_or s (Mark ∷ rest) = s
opening_or s [] = s

abbrev batches_in : List LogEntry → List (List Edit)
batches_in (Opening t ∷ rest) = batches_in rest
batches_in (Accepted batch ∷ rest) = batch ∷ batches_in rest
batches_in (Mark ∷ rest) = batches_in rest
batches_in [] = []

said : (batches : List (List Edit)) → batches_in (entries_of_batches batches) ≡ batches
said [] = refl
said (batch ∷ batches) = ap (λ l. batch ∷ l) (said batches)

leads_by : (list : List LogEntry) (s r : ScenarioData) → LeadsTo list s → after_batches (opening_or r list) (batches_in list) ≡ s
leads_by list s r leads =
    (λ i. after_batches (opening_or r (leads.is_list i)) (batches_in (leads.is_list i)))
    ∙ (ap (λ l. after_batches leads.opening l) (said leads.batches) ∙ leads.leaves)

one : (list : List LogEntry) (s t : ScenarioData) → LeadsTo list s → LeadsTo list t → s ≡ t
one list s t a b = sym (leads_by list s s a) ∙ leads_by list t s b

pub lists_lead : ListsLead
lists_lead = record { opening = opens_itself; further = further; log = of_log; one = one }
