-- A legal history with one call more, and an office after a call.
use Rattle.std.proofs.Common.{◌≡◌, ◌⊎◌, ℕ, ◌+◌, ◌==◌, Bool, true, false, cond, List, [], ◌∷◌, ◌++◌, length, map, take, refl, sym, ap, ◌∙◌, inl, inr, ⊎_elim, subst, Result, Ok, Err, IfOk, OnErr, append_assoc, length-append}
use Rattle.std.proofs.lemmas.Bool.{ne_eqb}
use Rattle.std.proofs.lemmas.List.{append-nil, map-append}
use Rattle.std.proofs.Math.Seq.{take-append_seam}
use Rattle.ltm_scenario.specs.declared.edit.Edit.{Edit}
use Rattle.ltm_scenario.specs.Data.{ScenarioData}
use Rattle.ltm_scenario.specs.Edits.{edited_all}
use Rattle.ltm_core.specs.State.{now}
use Rattle.ltm_core.specs.Answers.{IsNoneClaimed}
use Rattle.ltm_flows.specs.declared.loading.Loading.{Loading}
use Rattle.ltm_flows.specs.Shown.{SameLoading}
use Rattle.ltm_core.specs.Log.{Log, after_batches, batches_of, scenario_now, with_batch}
use Rattle.ltm_core.specs.Cores.{CoreData, IsNoneOut}
use Rattle.ltm_core.specs.CoreAnswers.{AcceptsBatch, LooksAs}
use Rattle.ltm_editors.specs.declared.call.Call.{Call}
use Rattle.ltm_editors.specs.declared.call.Verdict.{Verdict}
use Rattle.ltm_editors.specs.declared.call.Verdict.TheVariants.{Accepted, Refused}
use Rattle.ltm_editors.specs.Lists.{entries_of, GrowsBy}
use Rattle.ltm_editors.specs.History.{if_accepted, accepted_in, as_verdict, verdict_after, IsLegalHistory}
use Rattle.ltm_editors.specs.Offices.{OfficeData, office_of, IsOffice, TellsVerdict, AnswersCall, StaysAs}
use Rattle.ltm_editors.proofs.Prefixes.{of_append, grown_begins}

module _ {A : Type 0} where
  never_empty : {P : Type 0} (ys : List A) (y : A) (zs : List A) → [] ≡ ys ++ y ∷ zs → P
  never_empty [] y zs e = absurd (cc)
  never_empty (w ∷ ys) y zs e = absurd (cc)

  -- what stands in a list with one more at its end is that one, or stood there before
  last_or : (xs : List A) (x : A) (ys : List A) (y : A) (zs : List A) → xs ++ x ∷ [] ≡ ys ++ y ∷ zs → ((xs ≡ ys) × (x ≡ y)) ⊎ ((rest : List A) × (xs ≡ ys ++ y ∷ rest))
  last_or [] x [] y zs e = inl (refl, (cc))
  last_or [] x (w ∷ ys) y zs e = let t : [] ≡ ys ++ y ∷ zs = (cc) in never_empty ys y zs t
  last_or (a ∷ xs) x [] y zs e = let h : a ≡ y = (cc) in inr (xs, (λ i. h i ∷ xs))
  last_or (a ∷ xs) x (w ∷ ys) y zs e =
      let h : a ≡ w = (cc) in let t : xs ++ x ∷ [] ≡ ys ++ y ∷ zs = (cc) in
      ⊎_elim (λ p. inl ((λ i. h i ∷ p.0 i), p.1)) (λ p. inr (p.0, (λ i. h i ∷ p.1 i))) (last_or xs x ys y zs t)

-- ---- what was found, with one entry of this number more
module _ {E : Type 0} (author : E → ℕ) where
  left_out : (b : Bool) (x : E) → b ≡ false → cond b (x ∷ []) [] ≡ []
  left_out true x e = absurd (cc)
  left_out false x e = refl

  pub grows_more : (n : ℕ) (found list : List E) (x : E) → GrowsBy author n found list → author x ≡ n → GrowsBy author n found (list ++ x ∷ [])
  grows_more n found list x g is = let p = grown_begins author n found list g in (
    ap (λ l. take (length found) (l ++ x ∷ [])) (sym p.1) ∙ (ap (λ l. take (length found) l) (append_assoc found p.0 (x ∷ [])) ∙ take-append_seam found (p.0 ++ x ∷ [])),
    (λ m other. of_append author m list (x ∷ []) ∙ (ap (λ l. entries_of author m list ++ l) (left_out (author x == m) x (ne_eqb (author x) m (λ e. other (sym e ∙ is))))
        ∙ (append-nil (entries_of author m list) ∙ g.1 m other))),
  )

-- ---- histories
accepted_put : (history : List Call) (call : Call) → accepted_in (history ++ call ∷ []) ≡ accepted_in history ++ if_accepted call.verdict call.batch.value
accepted_put [] call = append-nil (if_accepted call.verdict call.batch.value)
accepted_put (c ∷ cs) call = ap (λ l. if_accepted c.verdict c.batch.value ++ l) (accepted_put cs call)
    ∙ sym (append_assoc (if_accepted c.verdict c.batch.value) (accepted_in cs) (if_accepted call.verdict call.batch.value))

legal_put : (s : ScenarioData) (history : List Call) (call : Call) → IsLegalHistory s history → call.verdict ≡ verdict_after s (accepted_in history) call.batch.value → IsLegalHistory s (history ++ call ∷ [])
legal_put s history call legal right before c after e = ⊎_elim
    (λ p. sym (ap (λ (z : Call). z.verdict) p.1) ∙ (right ∙ (λ i. verdict_after s (accepted_in (p.0 i)) (p.1 i).batch.value)))
    (λ p. legal before c p.0 p.1)
    (last_or history call before c after e)

-- ---- logs
scenario_is : (log : Log) → scenario_now log ≡ after_batches log.opening (batches_of log)
unfolding scenario_now
scenario_is log = refl

batches_put : (log : Log) (batch : List Edit) → batches_of (with_batch log batch) ≡ batches_of log ++ batch ∷ []
unfolding batches_of with_batch
batches_put log batch = map-append (λ b. b.0) log.batches ((batch, false) ∷ [])

opening_put : (log : Log) (batch : List Edit) → (with_batch log batch).opening ≡ log.opening
unfolding with_batch
opening_put log batch = refl

none_out_looks : (old new : CoreData) → LooksAs old new → IsNoneOut old → IsNoneOut new
unfolding IsNoneOut
none_out_looks old new looks none = subst (λ r. IsNoneClaimed (now r) r.desk) (sym looks.repair) none

-- ---- offices
log_put : (old : CoreData) (batch : List Edit) (new : CoreData) → AcceptsBatch old batch new → new.log ≡ with_batch old.log batch
log_put old batch new a = ap (λ (d : CoreData). d.log) a.keeps

pub opening_same : (old : CoreData) (batch : List Edit) (verdict : Verdict) (new : CoreData) → TellsVerdict old batch verdict new → new.log.opening ≡ old.log.opening
opening_same old batch (Accepted number) new t = ap (λ (l : Log). l.opening) (log_put old batch new t.0) ∙ opening_put old.log batch
opening_same old batch (Refused fault) new t = ap (λ (l : Log). l.opening) t.0.log

-- the scenario that the core edits is that after the batches of the history
scenario_in : (old : CoreData) (history : List Call) → IsOffice old history → scenario_now old.log ≡ after_batches old.log.opening (accepted_in history)
scenario_in old history o = scenario_is old.log ∙ ap (λ bs. after_batches old.log.opening bs) o.accepted

pub verdict_right : (old : CoreData) (history : List Call) (batch : List Edit) (verdict : Verdict) (new : CoreData) → IsOffice old history → TellsVerdict old batch verdict new
    → verdict ≡ verdict_after old.log.opening (accepted_in history) batch
verdict_right old history batch (Accepted number) new o t =
    let edited : edited_all (after_batches old.log.opening (accepted_in history)) batch ≡ Ok (scenario_now new.log) = ap (λ s. edited_all s batch) (sym (scenario_in old history o)) ∙ t.0.edited in
    let count : number ≡ length (accepted_in history) + 1 =
    t.1 ∙ (ap (λ (l : Log). length (batches_of l)) (log_put old batch new t.0) ∙ (ap (λ bs. length bs) (batches_put old.log batch) ∙ (length-append (batches_of old.log) (batch ∷ []) ∙ ap (λ bs. length bs + 1) o.accepted))) in
    ap (λ n. Accepted n) count ∙ sym (ap (λ r. as_verdict (length (accepted_in history)) r) edited)
verdict_right old history batch (Refused fault) new o t =
    let edited : edited_all (after_batches old.log.opening (accepted_in history)) batch ≡ Err fault = ap (λ s. edited_all s batch) (sym (scenario_in old history o)) ∙ t.1 in
    sym (ap (λ r. as_verdict (length (accepted_in history)) r) edited)

-- the batches of the core are then those of the history with the call
batches_same : (old : CoreData) (history : List Call) (batch : List Edit) (verdict : Verdict) (new : CoreData) → IsOffice old history → TellsVerdict old batch verdict new
    → batches_of new.log ≡ accepted_in history ++ if_accepted verdict batch
batches_same old history batch (Accepted number) new o t = ap batches_of (log_put old batch new t.0) ∙ (batches_put old.log batch ∙ ap (λ bs. bs ++ batch ∷ []) o.accepted)
batches_same old history batch (Refused fault) new o t = ap batches_of t.0.log ∙ (o.accepted ∙ sym (append-nil (accepted_in history)))

none_out_same : (old : CoreData) (batch : List Edit) (verdict : Verdict) (new : CoreData) → IsNoneOut old → TellsVerdict old batch verdict new → IsNoneOut new
none_out_same old batch (Accepted number) new none t = t.0.none_out
none_out_same old batch (Refused fault) new none t = none_out_looks old new t.0 none

pub office_put : (old : CoreData) (history : List Call) (batch : List Edit) (verdict : Verdict) (new : CoreData) (call : Call) → IsOffice old history → TellsVerdict old batch verdict new
    → call.verdict ≡ verdict → call.batch.value ≡ batch → IsOffice new (history ++ call ∷ [])
office_put old history batch verdict new call o t is_verdict is_batch = record {
  none_out = none_out_same old batch verdict new o.none_out t;
  legal = subst (λ s. IsLegalHistory s (history ++ call ∷ [])) (sym (opening_same old batch verdict new t))
      (legal_put old.log.opening history call o.legal (is_verdict ∙ (verdict_right old history batch verdict new o t ∙ ap (λ b. verdict_after old.log.opening (accepted_in history) b) (sym is_batch))));
  accepted = batches_same old history batch verdict new o t ∙ sym (accepted_put history call ∙ (λ i. accepted_in history ++ if_accepted (is_verdict i) (is_batch i)));
}

pub office_looks : (old : CoreData) (history : List Call) (new : CoreData) → IsOffice old history → LooksAs old new → IsOffice new history
office_looks old history new o looks = record {
  none_out = none_out_looks old new looks o.none_out;
  legal = subst (λ s. IsLegalHistory s history) (sym (ap (λ (l : Log). l.opening) looks.log)) o.legal;
  accepted = ap batches_of looks.log ∙ o.accepted;
}

batches_none : (log : Log) → log.batches ≡ [] → batches_of log ≡ []
unfolding batches_of
batches_none log none = ap (λ bs. map (λ b. b.0) bs) none

-- with no call yet
pub office_begins : (core : CoreData) (history : List Call) → history ≡ [] → core.log.batches ≡ [] → IsNoneOut core → IsOffice core history
office_begins core history empty fresh none = record {
  none_out = none;
  legal = λ before call after e. never_empty before call after (sym empty ∙ e);
  accepted = batches_none core.log fresh ∙ sym (ap accepted_in empty);
}

-- an office of which the core and the history are known
pub office_at : (o : OfficeData) (core : CoreData) (history : List Call) → office_of core history ≡ o → IsOffice core history → IsOffice o.core o.history
office_at o core history is holds = subst (λ (z : OfficeData). IsOffice z.core z.history) is holds

-- ---- what is said of an office that is kept, said of the office
pub answers_at : {F : Type 0} (kept o : OfficeData) (editor : ℕ) (batch : List Edit) (new : OfficeData) (r : Result Verdict F) → kept ≡ o
    → IfOk r (λ verdict. AnswersCall kept editor batch verdict new) → IfOk r (λ verdict. AnswersCall o editor batch verdict new)
answers_at kept o editor batch new r is answers = subst (λ z. IfOk r (λ verdict. AnswersCall z editor batch verdict new)) is answers

pub stays_at : {F : Type 0} (kept o new : OfficeData) (r : Result Verdict F) → kept ≡ o → OnErr r (StaysAs kept new) → OnErr r (StaysAs o new)
stays_at kept o new r is stays = subst (λ z. OnErr r (StaysAs z new)) is stays

-- the same, where room was taken before
pub still_answers : {F : Type 0} (core : CoreData) (old calls : List Call) (editor : ℕ) (batch : List Edit) (new : OfficeData) (r : Result Verdict F) → calls ≡ old
    → IfOk r (λ verdict. AnswersCall (office_of core calls) editor batch verdict new) → IfOk r (λ verdict. AnswersCall (office_of core old) editor batch verdict new)
still_answers core old calls editor batch new r same = answers_at (office_of core calls) (office_of core old) editor batch new r (ap (λ l. office_of core l) same)

pub still_stays : {F : Type 0} (core : CoreData) (old calls : List Call) (new : OfficeData) (r : Result Verdict F) → calls ≡ old → OnErr r (StaysAs (office_of core calls) new) → OnErr r (StaysAs (office_of core old) new)
still_stays core old calls new r same = stays_at (office_of core calls) (office_of core old) new r (ap (λ l. office_of core l) same)

same_loading : (l : Loading) → SameLoading l l
same_loading l = record {
  version = refl;
  step = refl;
  links = refl;
  nodes = refl;
  shape = record { same_groups = refl; same_slots = refl };
  totals = refl;
  free = λ i. refl;
  produced = λ n k x m. refl;
  generated = λ k m. refl;
}

-- room alone was taken
pub nothing_done : (core : CoreData) (old calls : List Call) → calls ≡ old → StaysAs (office_of core old) (office_of core calls)
nothing_done core old calls same = record {
  history = same;
  core = record { log = refl; scenario = refl; commits = refl; stopped = refl; history = refl; shown = same_loading core.shown; desk = refl; repair = refl };
}
