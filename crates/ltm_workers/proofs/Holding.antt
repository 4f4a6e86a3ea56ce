-- What the hands of workers hold, over turns.
use Rattle.std.proofs.Common.{◌≡◌, ◌≢◌, ℕ, ◌+◌, ◌<◌, List, [], ◌∷◌, zero, suc, length, inl, inr, refl, ap, sym, subst, ◌∙◌, slice_index_or, slice_set, get_or-set_same, get_or-set_other, length-set}
use Rattle.std.specs.Prelude.{Option, Some, None}
use Rattle.std.proofs.lemmas.Bool.{cases_eq, false≢true}
use Rattle.std.proofs.lemmas.List.{map-set, length-map}
use Rattle.ltm_core.specs.Setting.{setting_of}
use Rattle.ltm_core.specs.Data.{ScenarioData}
use Rattle.ltm_flows.specs.Pairs.{shape_at}
use Rattle.ltm_repair.specs.Desk.{Desk, IsOther}
use Rattle.ltm_repair.specs.Events.{CoreEvent, Commit}
use Rattle.ltm_repair.specs.Facts.{IsSound}
use Rattle.ltm_repair.specs.State.{RepairState, now}
use Rattle.ltm_repair.specs.Answers.{Got, NotYet, Rest, AnswersClaim}
use Rattle.ltm_core.specs.Log.{Log, version_now}
use Rattle.ltm_core.specs.Claims.{ClaimData, ScratchData}
use Rattle.ltm_core.specs.Cores.{CoreData, desk_in, repair_of, IsNoneOut, IsCore}
use Rattle.ltm_core.specs.CoreAnswers.{IsKeptClaim, KeepsAll, CommitsDone, TellsGiveBack}
use Rattle.ltm_workers.specs.declared.hands.Hand.{Hand}
use Rattle.ltm_workers.specs.declared.hands.Hand.TheVariants.{Free, Holds}
use Rattle.ltm_core.specs.Runs.{IsRun}
use Rattle.ltm_workers.specs.Draining.{KeepsButWork}
use Rattle.ltm_workers.specs.Driving.{Held, none_held, give_backs}
use Rattle.ltm_workers.proofs.Working.{keeps_work}
use Rattle.ltm_workers.specs.Hands.{held_in, held_at, all_held, IsHandKept, IsApart, AreHandsKept, SparesOthers, IsNextHand, LaysDown}

-- ---- what stays
keeps_log : (d e : CoreData) → KeepsButWork d e → e.log ≡ d.log
keeps_log d e keeps = ap (λ (z : CoreData). z.log) keeps

keeps_scenario : (d e : CoreData) → KeepsButWork d e → e.scenario ≡ d.scenario
keeps_scenario d e keeps = ap (λ (z : CoreData). z.scenario) keeps

-- a claim is kept where it is still claimed
pub kept_stays : (d e : CoreData) (c : ClaimData) → KeepsButWork d e → (desk_in e).claimed c.pair.node.0 c.pair.slot ≡ (desk_in d).claimed c.pair.node.0 c.pair.slot →
    IsKeptClaim d c.pair c.ticket c.inputs → IsKeptClaim e c.pair c.ticket c.inputs
kept_stays d e c keeps same kept =
    let P : Log → Type 0 = λ z. c.ticket ≡ version_now z in
    let Q : ScenarioData → Type 0 = λ z. c.inputs.shape ≡ shape_at (setting_of z) c.pair.node.0 in
    record {
      current = subst P (sym (keeps_log d e keeps)) kept.current;
      claimed = same ∙ kept.claimed;
      shape = subst Q (sym (keeps_scenario d e keeps)) kept.shape;
    }

pub keeps_all : (d e : CoreData) → KeepsAll d e → KeepsButWork d e
keeps_all d e same = keeps_work d e d.commits e.history same

pub keeps_more : (d m e : CoreData) → KeepsButWork d m → KeepsButWork m e → KeepsButWork d e
keeps_more d m e first second = second ∙ ap (λ (z : CoreData). record z { table = e.table; commits = e.commits; history = e.history }) first

-- ---- the list of hands
filled : (hands : List (Option Hand)) (w i : ℕ) (filling : Option Hand) (h : Hand) → w < length hands → i ≡ w → slice_index_or (slice_set hands w filling) i None ≡ Some h → filling ≡ Some h
filled hands w i filling h within same at =
    sym (get_or-set_same hands w filling None within) ∙ (ap (λ (k : ℕ). slice_index_or (slice_set hands w filling) k None) (sym same) ∙ at)

untouched : (hands : List (Option Hand)) (w i : ℕ) (filling : Option Hand) (h : Hand) → i ≢ w → slice_index_or (slice_set hands w filling) i None ≡ Some h → slice_index_or hands i None ≡ Some h
untouched hands w i filling h other at = sym (get_or-set_other hands w i filling None other) ∙ at

hand_stays : (d e : CoreData) (hand h : Hand) → SparesOthers d hand e → IsHandKept d h → ((c : ClaimData) → h ≡ Holds c → IsApart hand c) → IsHandKept e h
hand_stays d e hand (Free scratch) spares kept apart = tt
hand_stays d e hand (Holds c) spares kept apart = spares.others c (apart c refl) kept

apart_other : (b c : ClaimData) → IsApart (Holds c) b → IsApart (Holds b) c
apart_other b c other = λ p q. other (sym p) (sym q)

apart_back : (h : Hand) (c : ClaimData) → ((b : ClaimData) → h ≡ Holds b → IsApart (Holds c) b) → IsApart h c
apart_back (Free scratch) c other = tt
apart_back (Holds b) c other = apart_other b c (other b refl)

-- one hand is emptied or filled again, and the other claims are spared
pub hands_after : (d e : CoreData) (hands : List (Option Hand)) (w : ℕ) (hand : Hand) (filling : Option Hand) → AreHandsKept d hands → slice_index_or hands w None ≡ Some hand → w < length hands →
    SparesOthers d hand e → ((next : Hand) → filling ≡ Some next → IsNextHand d hand e next) → AreHandsKept e (slice_set hands w filling)
hands_after d e hands w hand filling are holds within spares next = record {
  four = length-set hands w filling ∙ are.four;
  kept = λ i h at.
      elim (cases_eq i w) [
        | inl same ↦ (next h (filled hands w i filling h within same at)).kept
        | inr other ↦
            let here = untouched hands w i filling h other at in
            hand_stays d e hand h spares (are.kept i h here) (λ c is. are.apart w i hand c (λ same. other (sym same)) holds (here ∙ ap Some is))
      ];
  apart = λ i j h c ne at_i at_j.
      elim (cases_eq i w) [
        | inl same ↦
            let there = untouched hands w j filling (Holds c) (λ same_j. ne (same ∙ sym same_j)) at_j in
            (next h (filled hands w i filling h within same at_i)).apart c (are.apart w j hand c (λ same_j. ne (same ∙ same_j)) holds there) (are.kept j (Holds c) there)
        | inr other ↦
            let here = untouched hands w i filling h other at_i in
            elim (cases_eq j w) [
              | inl same_j ↦
                  apart_back h c (λ b is.
                  (next (Holds c) (filled hands w j filling (Holds c) within same_j at_j)).apart b (are.apart w i hand b (λ same. other (sym same)) holds (here ∙ ap Some is))
                  (are.kept i (Holds b) (here ∙ ap Some is)))
              | inr other_j ↦ are.apart i j h c ne here (untouched hands w j filling (Holds c) other_j at_j)
            ]
      ];
}

pub held_set : (hands : List (Option Hand)) (w : ℕ) (filling : Option Hand) → all_held (slice_set hands w filling) ≡ slice_set (all_held hands) w (held_at filling)
held_set hands w filling = map-set held_at hands w filling

pub held_everywhere : (hands : List (Option Hand)) (i : ℕ) → slice_index_or (all_held hands) i None ≡ held_at (slice_index_or hands i None)
held_everywhere [] i = refl
held_everywhere (hand ∷ hands) zero = refl
held_everywhere (hand ∷ hands) (suc i) = held_everywhere hands i

pub held_get : (hands : List (Option Hand)) (w : ℕ) (hand : Hand) → slice_index_or hands w None ≡ Some hand → slice_index_or (all_held hands) w None ≡ held_in hand
held_get hands w hand is = held_everywhere hands w ∙ ap held_at is

-- ---- at the start
free_kept : (d : CoreData) (hand : Hand) → held_in hand ≡ None → IsHandKept d hand
free_kept d (Free scratch) none = tt
free_kept d (Holds claim) none = absurd (cc)

free_apart : (hand : Hand) (c : ClaimData) → held_in hand ≡ None → IsApart hand c
free_apart (Free scratch) c none = tt
free_apart (Holds claim) c none = absurd (cc)

pub none_at : (i : ℕ) → slice_index_or none_held i None ≡ None
none_at zero = refl
none_at (suc zero) = refl
none_at (suc (suc zero)) = refl
none_at (suc (suc (suc zero))) = refl
none_at (suc (suc (suc (suc i)))) = refl

none_in : (hands : List (Option Hand)) (i : ℕ) (hand : Hand) → all_held hands ≡ none_held → slice_index_or hands i None ≡ Some hand → held_in hand ≡ None
none_in hands i hand none is = sym (held_get hands i hand is) ∙ (ap (λ (z : List Held). slice_index_or z i None) none ∙ none_at i)

pub first_kept : (d : CoreData) (hands : List (Option Hand)) → all_held hands ≡ none_held → AreHandsKept d hands
first_kept d hands none = record {
  four = sym (length-map hands held_at) ∙ ap (λ (z : List Held). length z) none;
  kept = λ i hand is. free_kept d hand (none_in hands i hand none is);
  apart = λ i j hand claim other is_i is_j. free_apart hand claim (none_in hands i hand none is_i);
}

-- ---- a claim
pub desk_of : (d : CoreData) → (repair_of d).desk ≡ desk_in d
unfolding repair_of
desk_of d = refl

claimed_of : (d : CoreData) (u t : ℕ) → (desk_in d).claimed u t ≡ (repair_of d).desk.claimed u t
claimed_of d u t = ap (λ (k : Desk). k.claimed u t) (sym (desk_of d))

same_claimed : (d e : CoreData) (u t : ℕ) → (repair_of e).desk.claimed u t ≡ (repair_of d).desk.claimed u t → (desk_in e).claimed u t ≡ (desk_in d).claimed u t
same_claimed d e u t same = claimed_of e u t ∙ (same ∙ sym (claimed_of d u t))

was_free : (s e : RepairState) (u t ticket : ℕ) (row : List ℕ) → IsSound (now s) s.desk → AnswersClaim s (Got u t ticket row) e → s.desk.claimed u t ≡ None
was_free s e u t ticket row sound told =
    sound.active.apart u t (elim (told.desk.1.drops.each u t) [
      | inl same ↦ sym same ∙ told.desk.2.was_active
      | inr off ↦ absurd (false≢true (sym off.0 ∙ told.desk.2.was_active))
    ])

is_both : (o : Option (List ℕ)) (row : List ℕ) → o ≡ None → o ≡ Some row → ⊥
is_both o row none some = cc

-- a pair that is claimed now is none that was claimed before
apart_from : (d e : CoreData) (u t ticket : ℕ) (row : List ℕ) (c : ClaimData) → IsCore d → AnswersClaim (repair_of d) (Got u t ticket row) (repair_of e) → IsKeptClaim d c.pair c.ticket c.inputs → IsOther u t c.pair.node.0 c.pair.slot
apart_from d e u t ticket row c is told kept same_u same_t =
    let free = was_free (repair_of d) (repair_of e) u t ticket row is.repair.desk told in
    let here = kept.claimed in
    is_both ((desk_in d).claimed u t) c.inputs.row (claimed_of d u t ∙ free) (rw (same_u, same_t) here)

claim_claimed : (s e : RepairState) (u t ticket x y : ℕ) (row : List ℕ) → AnswersClaim s (Got u t ticket row) e → IsOther u t x y → e.desk.claimed x y ≡ s.desk.claimed x y
claim_claimed s e u t ticket x y row told apart = told.desk.2.others.claimed x y apart ∙ ap (λ (f : ℕ → ℕ → Option (List ℕ)). f x y) told.desk.1.drops.claimed

pub got_spares : (d e : CoreData) (u t ticket : ℕ) (row : List ℕ) (scratch : ScratchData) → IsCore d → KeepsAll d e → AnswersClaim (repair_of d) (Got u t ticket row) (repair_of e) → SparesOthers d (Free scratch) e
got_spares d e u t ticket row scratch is keeps told = record {
  keeps = keeps_all d e keeps;
  others = λ c free kept.
      let apart = apart_from d e u t ticket row c is told kept in
      kept_stays d e c (keeps_all d e keeps) (same_claimed d e c.pair.node.0 c.pair.slot (claim_claimed (repair_of d) (repair_of e) u t ticket c.pair.node.0 c.pair.slot row told apart)) kept;
}

pub got_next : (d e : CoreData) (claim : ClaimData) (scratch : ScratchData) → IsCore d → AnswersClaim (repair_of d) (Got claim.pair.node.0 claim.pair.slot claim.ticket claim.inputs.row) (repair_of e) →
    IsKeptClaim e claim.pair claim.ticket claim.inputs → IsNextHand d (Free scratch) e (Holds claim)
got_next d e claim scratch is told kept = record {
  kept = kept;
  apart = λ c free before. apart_from d e claim.pair.node.0 claim.pair.slot claim.ticket claim.inputs.row c is told before;
}

none_spares : (d e : CoreData) (scratch : ScratchData) → KeepsAll d e → (repair_of e).desk.claimed ≡ (repair_of d).desk.claimed → SparesOthers d (Free scratch) e
none_spares d e scratch keeps same = record {
  keeps = keeps_all d e keeps;
  others = λ c free kept.
      kept_stays d e c (keeps_all d e keeps) (same_claimed d e c.pair.node.0 c.pair.slot (ap (λ (f : ℕ → ℕ → Option (List ℕ)). f c.pair.node.0 c.pair.slot) same)) kept;
}

pub wait_spares : (d e : CoreData) (scratch : ScratchData) → KeepsAll d e → AnswersClaim (repair_of d) NotYet (repair_of e) → SparesOthers d (Free scratch) e
wait_spares d e scratch keeps told = none_spares d e scratch keeps told.desk.drops.claimed

pub rest_spares : (d e : CoreData) (scratch : ScratchData) → KeepsAll d e → AnswersClaim (repair_of d) Rest (repair_of e) → SparesOthers d (Free scratch) e
rest_spares d e scratch keeps told = none_spares d e scratch keeps told.desk.0.drops.claimed

-- ---- a give-back and a commit
pub gave_lays_down : (d e : CoreData) (claim : ClaimData) → IsKeptClaim d claim.pair claim.ticket claim.inputs → TellsGiveBack d claim e → LaysDown d (Holds claim) e
gave_lays_down d e claim kept told =
    let gave = told.kept kept in
    record {
      spares = record {
        keeps = keeps_all d e told.keeps;
        others = λ c apart before. kept_stays d e c (keeps_all d e told.keeps) (same_claimed d e c.pair.node.0 c.pair.slot (gave.desk.others.claimed c.pair.node.0 c.pair.slot apart)) before;
      };
      emptied = (gave, told.adds kept);
    }

commit_keeps : (d e : CoreData) (claim : ClaimData) → CommitsDone d claim.pair claim.inputs.row e → KeepsButWork d e
commit_keeps d e claim done = keeps_work d e (d.commits + 1) (Commit claim.pair.node.0 claim.pair.slot ∷ d.history) done.keeps

pub commit_spares : (d e : CoreData) (claim : ClaimData) → CommitsDone d claim.pair claim.inputs.row e → SparesOthers d (Holds claim) e
commit_spares d e claim done = record {
  keeps = commit_keeps d e claim done;
  others = λ c apart before. kept_stays d e c (commit_keeps d e claim done) (same_claimed d e c.pair.node.0 c.pair.slot (done.commits.desk.claimed c.pair.node.0 c.pair.slot apart)) before;
}

-- ---- where no claim is out no hand holds one
held_none : (d : CoreData) (hand : Hand) → IsCore d → IsNoneOut d → IsHandKept d hand → held_in hand ≡ None
unfolding IsNoneOut
held_none d (Free scratch) is none kept = refl
held_none d (Holds claim) is none kept =
    let here : (repair_of d).desk.claimed claim.pair.node.0 claim.pair.slot ≡ Some claim.inputs.row = sym (claimed_of d claim.pair.node.0 claim.pair.slot) ∙ kept.claimed in
    let pair = is.repair.desk.claims claim.pair.node.0 claim.pair.slot claim.inputs.row here in
    absurd (is_both ((repair_of d).desk.claimed claim.pair.node.0 claim.pair.slot) claim.inputs.row (none claim.pair.node.0 claim.pair.slot pair.is_node pair.is_slot) here)

none_given_back : (d : CoreData) (hands : List (Option Hand)) → IsCore d → IsNoneOut d → ((i : ℕ) (hand : Hand) → slice_index_or hands i None ≡ Some hand → IsHandKept d hand) → give_backs (all_held hands) ≡ []
none_given_back d [] is none kept = refl
none_given_back d (None ∷ hands) is none kept = none_given_back d hands is none (λ i hand at. kept (suc i) hand at)
none_given_back d (Some hand ∷ hands) is none kept =
    let P : Held → Type 0 = λ z. give_backs (z ∷ all_held hands) ≡ [] in
    subst P (sym (held_none d hand is none (kept 0 hand refl))) (none_given_back d hands is none (λ i h at. kept (suc i) h at))

pub none_laid_down : (d e : CoreData) (hands : List (Option Hand)) → IsCore d → IsNoneOut d → AreHandsKept d hands → IsRun d (give_backs (all_held hands)) e → e ≡ d
none_laid_down d e hands is none are run =
    let P : List CoreEvent → Type 0 = λ z. IsRun d z e in
    subst P (none_given_back d hands is none are.kept) run
