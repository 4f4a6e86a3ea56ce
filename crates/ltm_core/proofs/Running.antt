-- What holds of every run of a core.
use Rattle.std.proofs.Common.{◌≡◌, ℕ, ◌<◌, ◌≤◌, ◌∙◌, List, [], ◌∷◌, inl, inr, ap, subst, sym, refl, arith}
use Rattle.std.proofs.lemmas.Bool.{cases_lt}
use Rattle.std.specs.Prelude.{◌≢◌, Option, Some, None, Result, Ok, Err, ◌⊎◌}
use Rattle.ltm_curve.specs.Counts.{Counts}
use Rattle.ltm_curve.specs.TotalCurves.{total_at}
use Rattle.ltm_scenario.specs.declared.edit.Edit.{Edit}
use Rattle.ltm_scenario.specs.declared.edit.EditFault.{EditFault}
use Rattle.ltm_loading.specs.Setting.{Setting}
use Rattle.ltm_loading.specs.Pairs.{pair_row}
use Rattle.ltm_loading.specs.Loading.{IsLoading}
use Rattle.ltm_loading.specs.LoadingTotals.{AreLoadingTotals}
use Rattle.ltm_loading.specs.Differing.{sum_pairs, unlike, row_of, differing as how_many_differ}
use Rattle.ltm_loading.proofs.PairSums.{le-sum_pairs, sum_pairs-same}
use Rattle.ltm_loading.proofs.Unlike.{unlike_cases, row_of_new}
use Rattle.ltm_repair.proofs.Cases.{cases_option}
use Rattle.ltm_flows.specs.Shown.{version_of, curves_of}
use Rattle.ltm_repair.specs.State.{now}
use Rattle.ltm_repair.specs.Desk.{Desk, IsAtRest}
use Rattle.ltm_repair.specs.Counting.{left_to_do, astray, strayed}
use Rattle.ltm_repair.specs.Answers.{NotYet, Rest}
use Rattle.ltm_repair.specs.Events.{CoreEvent, GiveBack, Stay}
use Rattle.ltm_repair.specs.Runs.{CoreRun}
use Rattle.ltm_repair.specs.Kept.{ShownIsLoading}
use Rattle.ltm_repair.specs.Work.{NoneTwice, RepairsOneBatch}
use Rattle.ltm_repair.specs.Making.{settle_event, AnswersAreEvents}
use Rattle.ltm_core.specs.declared.answers.Committed.{Committed}
use Rattle.ltm_core.specs.declared.answers.Committed.TheVariants.{Ok as Done, Stale}
use Rattle.ltm_core.specs.declared.answers.Recomputed.{Recomputed}
use Rattle.ltm_core.specs.declared.answers.Recomputed.TheVariants.{Done as DoneAnew, NotYet as ClaimsOut, Rest as NoneLeft}
use Rattle.ltm_core.specs.declared.answers.Published.{Published}
use Rattle.ltm_core.specs.declared.answers.Published.TheVariants.{Done as Shown, NotAtRest}
use Rattle.ltm_core.specs.Claims.{ClaimData, DoneData}
use Rattle.ltm_core.specs.Log.{version_now, settled_of}
use Rattle.ltm_core.specs.Settling.{setting_at}
use Rattle.ltm_core.specs.Laws.{RepairLaws, RunLaws}
use Rattle.ltm_core.specs.Histories.{CameBy}
use Rattle.ltm_core.specs.Cores.{CoreData, desk_in, repair_of, IsResting, claims_of, left_of, undone_of, IsCore}
use Rattle.ltm_core.specs.CoreAnswers.{TellsCommit, TellsRecompute, TellsGiveBack, TellsAccept, TellsPublish, TellsSettle}
use Rattle.ltm_core.specs.Runs.{Does, IsRun, with_events, CallsAreEvents, commit_event, recompute_events, accept_event, publish_event, setting_in, RepairsBatch, HoldsOfRuns, HoldsOfCore}
use Rattle.ltm_core.proofs.Cores.{core_now}
use Rattle.ltm_core.proofs.Histories.{none_twice_told}
use Rattle.ltm_core.proofs.Claimings.{claim_kept_or_not}

-- ---- calls are events
-- a core is another one, so its history is
told_in : (e : CoreData) {z : CoreData} → e ≡ z → e.history ≡ z.history
told_in e same = ap (λ (c : CoreData). c.history) same

stays_same : (d e : CoreData) → e ≡ d → Does d Stay e
stays_same d e same = (ap repair_of same, ap (λ (c : CoreData). c.history) same)

commit_happens : (d e : CoreData) (done : DoneData) (answer : Committed) → TellsCommit d done answer e → Does d (commit_event done answer) e
commit_happens d e done (Done scratch) h = ((done.solved.inputs.row, _, h.1.commits), told_in e h.1.keeps)
commit_happens d e done (Stale claimed_at now scratch) h = stays_same d e h.3

recompute_happens : AnswersAreEvents → (d e : CoreData) (answer : Recomputed) → TellsRecompute d answer e → IsRun d (recompute_events answer) e
recompute_happens law d e (DoneAnew pair) h =
    (h.between, (law.claim (repair_of d) (repair_of h.between) _ h.claims, h.adds), (e, ((h.row, _, h.commits.commits), told_in e h.commits.keeps), refl))
recompute_happens law d e ClaimsOut h = (e, (law.claim (repair_of d) (repair_of e) NotYet h.0, h.2), refl)
recompute_happens law d e NoneLeft h = (e, (law.claim (repair_of d) (repair_of e) Rest h.0, h.2), refl)

give_back_happens : (d e : CoreData) (claim : ClaimData) → TellsGiveBack d claim e → Does d (GiveBack claim.pair.node.0 claim.pair.slot) e ⊎ Does d Stay e
give_back_happens d e claim h = elim (claim_kept_or_not d claim.pair claim.ticket claim.inputs) [ inl kept ↦ inl (h.kept kept, h.adds kept) | inr gone ↦ inr (stays_same d e (h.stale gone)) ]

accept_happens : (d e : CoreData) (batch : List Edit) (answer : Result (Unit {0}) (List Edit × EditFault)) → TellsAccept d batch answer e → Does d (accept_event answer) e
accept_happens d e batch (Ok taken) h = ((_, h.accepted), told_in e h.keeps)
accept_happens d e batch (Err refused) h = (h.1.repair, h.1.history)

publish_happens : (d e : CoreData) (answer : Published) → TellsPublish d answer e → Does d (publish_event answer) e
publish_happens d e (Shown version) h = (h.published, told_in e h.keeps)
publish_happens d e NotAtRest h = stays_same d e h.1

settle_happens : (d e : CoreData) (answer : Option ℕ) → TellsSettle d answer e → Does d (settle_event answer) e
settle_happens d e (Some n) h = (h.settled, told_in e h.keeps)
settle_happens d e None h = stays_same d e h.1

pub calls_are_events : AnswersAreEvents → CallsAreEvents
calls_are_events law = record {
  claim = λ d e answer h adds. (law.claim (repair_of d) (repair_of e) _ h, adds);
  commit = commit_happens;
  recompute = recompute_happens law;
  give_back = give_back_happens;
  accept = accept_happens;
  publish = publish_happens;
  settle = settle_happens;
}

-- ---- runs
run_of : (d e : CoreData) (events : List CoreEvent) → IsRun d events e → CoreRun (repair_of d) events (repair_of e)
run_of d e [] same = ap repair_of same
run_of d e (x ∷ xs) (m, first, rest) = (repair_of m, first.0, run_of m e xs rest)

history_of : (d e : CoreData) (events : List CoreEvent) → IsRun d events e → e.history ≡ with_events events d.history
history_of d e [] same = ap (λ (c : CoreData). c.history) same
history_of d e (x ∷ xs) (m, first, rest) = history_of m e xs rest ∙ ap (λ (h : List CoreEvent). with_events xs h) first.1

loads : (d : CoreData) (c : Counts) → IsLoading (setting_in d) c → IsLoading (now (repair_of d)) c
unfolding repair_of
loads d c loading = loading

rests : (d : CoreData) → IsResting d → IsAtRest (now (repair_of d)) (repair_of d).desk
unfolding IsResting
rests d rest = rest

one_batch : (d m e : CoreData) (events : List CoreEvent) (h : RepairsBatch d m e events) → RepairsOneBatch (repair_of d) (repair_of m) (repair_of e) h.batch.0.0 events
one_batch d m e events h = record {
  repair = h.core.repair;
  rest = rests d h.rest;
  batch = h.batch.0.1;
  run = run_of m e events h.run;
  no_other = h.no_other;
  rest_again = rests e h.rest_again;
}

shown_numbers : (law : RunLaws) (d e : CoreData) (events : List CoreEvent) → IsCore d → IsRun d events e → version_of d.shown ≤ version_of e.shown
unfolding repair_of
shown_numbers law d e events is run = (law.nothing_back (repair_of d) (repair_of e) events is.repair (run_of d e events run)).shown

accepted_numbers : (law : RunLaws) (d e : CoreData) (events : List CoreEvent) → IsCore d → IsRun d events e → version_now d.log ≤ version_now e.log
unfolding repair_of
accepted_numbers law d e events is run = (law.nothing_back (repair_of d) (repair_of e) events is.repair (run_of d e events run)).accepted

pub runs_hold : RunLaws → HoldsOfRuns
unfolding left_of undone_of claims_of repair_of
runs_hold law = record {
  history = history_of;
  shown = shown_numbers law;
  accepted = accepted_numbers law;
  changed = λ d e u t is step. law.changed (repair_of d) (repair_of e) u t is.repair step.0;
  woken = λ d e touched step u t l. law.woken (repair_of d) (repair_of e) touched step u t l;
  others = λ d e x step no_commit no_batch u t on. law.others (repair_of d) (repair_of e) x step.0 no_commit no_batch u t on;
  none_twice = λ d e events h u t. law.none_twice (repair_of d) (repair_of e) events h.core.repair (run_of d e events h.run) h.no_batch u t;
  useful = λ d e events c h loading. law.useful (repair_of d) (repair_of e) events c h.core.repair (run_of d e events h.run) h.no_batch (loads d c loading);
  drained = λ d e events c h rest loading. law.drained (repair_of d) (repair_of e) events c h.core.repair (run_of d e events h.run) h.no_batch (rests e rest) (loads d c loading);
  differences = λ d m e events a b h one two u t x l.
      law.differences (repair_of d) (repair_of m) (repair_of e) h.batch.0.0 events a b (one_batch d m e events h) (loads d a one) (loads m b two) u t x l;
  differing = λ d m e events a b h one two. law.differing (repair_of d) (repair_of m) (repair_of e) h.batch.0.0 events a b (one_batch d m e events h) (loads d a one) (loads m b two);
  bounded = λ d e events h. law.bounded (repair_of d) (repair_of e) events h.core.repair (run_of d e events h.run) h.no_batch;
  balance = λ d e events h. law.balance (repair_of d) (repair_of e) events h.core.repair (run_of d e events h.run) h.no_batch;
  schedule = λ d e events h none. law.schedule (repair_of d) (repair_of e) events h.core.repair none (run_of d e events h.run) h.no_batch;
}

-- ---- every core
settled_low : (d : CoreData) → IsCore d → settled_of d.log ≤ version_now d.log
unfolding repair_of
settled_low d is = let a = is.repair.shows.settled_first in let b = is.repair.shows.accepted_last in omega (a, b, arith)

shows_all : ShownIsLoading → (d : CoreData) → IsCore d → version_of d.shown ≡ version_now d.log → IsResting d × AreLoadingTotals (now (repair_of d)) (total_at (curves_of d.shown))
unfolding repair_of IsResting
shows_all law d is at = let both = (law (repair_of d) is.repair).up_to_date at in (both.1, both.0)

-- where all inputs of an earlier loading's pairs are kept, and what is kept has not strayed from it, what is kept is what it reads
kept_is_earlier : (q : Setting) (d : Desk) (before : Counts) (u t : ℕ) → (t < q.slots → d.kept u t ≢ None) → astray (d.kept u t) (row_of q before u t) ≡ 0 → d.kept u t ≡ row_of q before u t
kept_is_earlier q d before u t all home =
    elim (cases_option (d.kept u t)) [
      | inl none ↦ elim (cases_lt t q.slots) [
        | inl old ↦ absurd (all old none)
        | inr new ↦ none ∙ sym (row_of_new q before u t new)
      ]
      | inr some ↦ elim (unlike_cases (d.kept u t) (row_of q before u t)) [
        | inl kept ↦ kept.0
        | inr other ↦
            let one : astray (d.kept u t) (row_of q before u t) ≡ unlike (d.kept u t) (row_of q before u t) = rw some.1 refl in
            absurd (let apart : unlike (d.kept u t) (row_of q before u t) ≡ 1 = other.1 in omega (one, apart, home, arith))
      ]
    ]

-- then what is left to do is what differs from it
left_is_difference : (s q : Setting) (d : Desk) (before after : Counts) → q.nodes ≡ s.nodes → ((u t : ℕ) → u < s.nodes → t < q.slots → d.kept u t ≢ None) →
    strayed s.slots q before d ≡ 0 → left_to_do s after d ≡ how_many_differ q s before after
unfolding strayed left_to_do how_many_differ
left_is_difference s q d before after same all none =
    let F : ℕ → ℕ → ℕ = λ u t. astray (d.kept u t) (row_of q before u t) in
    sum_pairs-same s.nodes s.slots (λ u t. unlike (d.kept u t) (Some (pair_row s after u t))) (λ u t. unlike (row_of q before u t) (Some (pair_row s after u t)))
    (λ u t x l.
    let low : F u t ≤ sum_pairs q.nodes s.slots F = le-sum_pairs q.nodes s.slots F u t (omega (same, x, arith)) l in
    let zero : F u t ≡ 0 = omega (none, low, arith) in
    ap (λ o. unlike o (Some (pair_row s after u t))) (kept_is_earlier q d before u t (λ old. all u t x old) zero))

left_since : (d : CoreData) → IsCore d → d.commits ≡ 0 → (before after : Counts) → IsLoading (setting_at d.log (settled_of d.log)) before → IsLoading (setting_in d) after →
    left_of d after ≡ how_many_differ (setting_at d.log (settled_of d.log)) (setting_in d) before after
unfolding left_of repair_of
left_since d is none before after one two =
    let low : settled_of d.log ≤ version_now d.log = settled_low d is in
    let most : strayed (setting_in d).slots (setting_at d.log (settled_of d.log)) before (desk_in d) ≤ d.commits = is.repair.count.covers before one in
    left_is_difference (setting_in d) (setting_at d.log (settled_of d.log)) (desk_in d) before after (is.repair.history.network (settled_of d.log) low).nodes
    (is.repair.count.none_lost none) (omega arith)

pub core_holds : RepairLaws → NoneTwice → (d : CoreData) → IsCore d → CameBy d → HoldsOfCore d
core_holds laws twice d is came = record {
  core = is;
  came = came;
  none_twice = none_twice_told laws.keeps twice d came;
  rest = λ r. subst (λ (s : Setting). IsLoading s (repair_of d).desk.counts) (core_now d is) (laws.rest (repair_of d) is.repair (rests d r));
  up_to_date = λ at.
      let both = shows_all laws.shown d is at in
      (both.0, subst (λ (s : Setting). AreLoadingTotals s (total_at (curves_of d.shown))) (core_now d is) both.1);
  uncounted = left_since d is;
}

pub core_holds_at : RepairLaws → NoneTwice → (d v : CoreData) → d ≡ v → IsCore d → CameBy d → HoldsOfCore v
core_holds_at laws twice d v same is came = subst HoldsOfCore same (core_holds laws twice d is came)
