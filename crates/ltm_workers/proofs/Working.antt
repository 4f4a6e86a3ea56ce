-- What a pair that is computed anew does to a core, and what many of them do.
use Rattle.std.proofs.Common.{◌≡◌, ℕ, ◌+◌, ◌-◌, ◌<◌, ◌^◌, min, Bool, List, [], ◌∷◌, ◌++◌, length, inl, inr, refl, ap, sym, subst, ◌∙◌, arith}
use Rattle.std.specs.Prelude.{Option}
use Rattle.std.proofs.lemmas.List.{length-append}
use Rattle.ltm_flows.specs.Setting.{Setting}
use Rattle.ltm_repair.specs.State.{RepairState, now}
use Rattle.ltm_repair.specs.Events.{CoreEvent, Commit, SameBooks, CommitHappened}
use Rattle.ltm_repair.specs.Desk.{IsAtRest}
use Rattle.ltm_repair.specs.Answers.{Got, NotYet, Rest, AnswersClaim, IsNoneClaimed}
use Rattle.ltm_repair.specs.Runs.{in_all, work_in, batch_in, commit_in, commits_in}
use Rattle.ltm_repair.proofs.Cases.{cases_pair}
use Rattle.ltm_units.specs.declared.places.Pair.{Pair}
use Rattle.ltm_core.specs.Cores.{CoreData, repair_of, IsResting, IsNoneOut, undone_of, IsCore}
use Rattle.ltm_core.specs.declared.answers.Recomputed.TheVariants.{Done, Rest as NoneLeft}
use Rattle.ltm_core.specs.Log.{version_now}
use Rattle.ltm_core.specs.CoreAnswers.{KeepsAll, CommitsDone, TellsRecompute}
use Rattle.ltm_core.specs.Runs.{IsRun, CallsAreEvents, WorksOn, HoldsOfRuns, HoldsOfCore, recompute_events}
use Rattle.ltm_workers.specs.Draining.{KeepsButWork, Works, CountsLeft, CountsDifferences}

-- ---- runs one after another
pub runs_join : (d m e : CoreData) (xs ys : List CoreEvent) → IsRun d xs m → IsRun m ys e → IsRun d (xs ++ ys) e
runs_join d m e [] ys same run = subst (λ (z : CoreData). IsRun z ys e) same run
runs_join d m e (x ∷ xs) ys (n, first, rest) run = (n, first, runs_join n m e xs ys rest run)

pub in_all_joined : (f : CoreEvent → ℕ) (xs ys : List CoreEvent) → in_all f (xs ++ ys) ≡ in_all f xs + in_all f ys
in_all_joined f [] ys = omega arith
in_all_joined f (x ∷ xs) ys = let more : in_all f (xs ++ ys) ≡ in_all f xs + in_all f ys = in_all_joined f xs ys in omega arith

-- ---- what stays
pub keeps_work : (d e : CoreData) (n : ℕ) (h : List CoreEvent) → e ≡ record d { table = e.table; commits = n; history = h } → KeepsButWork d e
keeps_work d e n h same =
    same
    ∙ (ap (λ (k : ℕ). record d { table = e.table; commits = k; history = h }) (sym (ap (λ (z : CoreData). z.commits) same))
    ∙ ap (λ (l : List CoreEvent). record d { table = e.table; commits = e.commits; history = l }) (sym (ap (λ (z : CoreData). z.history) same)))

pub works_none : (d : CoreData) (n : ℕ) → IsCore d → IsNoneOut d → n < 2 ^ 64 → Works d n d n
works_none d n is none small = record {
  events = [];
  run = record { core = is; run = refl; no_batch = refl };
  work = refl;
  commits = omega arith;
  steps = omega arith;
  keeps = refl;
  none_out = none;
}

pub works_more : (d m e : CoreData) (before between after : ℕ) → Works d before m between → Works m between e after → Works d before e after
works_more d m e before between after p q =
    let commits : commits_in (p.events ++ q.events) ≡ commits_in p.events + commits_in q.events = in_all_joined commit_in p.events q.events in
    let works : in_all work_in (p.events ++ q.events) ≡ in_all work_in p.events + in_all work_in q.events = in_all_joined work_in p.events q.events in
    let many : length (p.events ++ q.events) ≡ length p.events + length q.events = length-append p.events q.events in
    let batches : in_all batch_in (p.events ++ q.events) ≡ in_all batch_in p.events + in_all batch_in q.events = in_all_joined batch_in p.events q.events in
    record {
      events = p.events ++ q.events;
      run = record {
        core = p.run.core;
        run = runs_join d m e p.events q.events p.run.run q.run.run;
        no_batch = let a = p.run.no_batch in let b = q.run.no_batch in omega (a, b, batches, arith);
      };
      work = let a = p.work in let b = q.work in omega (a, b, works, many, arith);
      commits = let a = p.commits in let b = q.commits in omega (a, b, commits, arith);
      steps = let a = p.steps in let b = q.steps in omega (a, b, commits, arith);
      keeps = q.keeps ∙ ap (λ (z : CoreData). record z { table = e.table; commits = e.commits; history = e.history }) p.keeps;
      none_out = q.none_out;
    }

-- ---- a claim and its commit
pub same_now : (s e : RepairState) → SameBooks s e → now e ≡ now s
same_now s e same = ap (λ (n : ℕ). e.settings n) same.accepted ∙ ap (λ (f : ℕ → Setting). f s.accepted) same.settings

none_after : (s m e : RepairState) (u t ticket : ℕ) (row other : List ℕ) (wakes : ℕ → ℕ → Bool) → AnswersClaim s (Got u t ticket row) m → CommitHappened m u t other wakes e → IsNoneClaimed (now s) s.desk → IsNoneClaimed (now e) e.desk
none_after s m e u t ticket row other wakes claim commit none =
    let P : Setting → Type 0 = λ z. IsNoneClaimed z e.desk in
    subst P (sym (same_now m e commit.books ∙ same_now s m claim.only.books)) (λ w v x l. elim (cases_pair u t w v) [
      | inl at ↦ rw (← at.0, ← at.1) commit.desk.free
      | inr apart ↦
          commit.desk.claimed w v apart
          ∙ (claim.desk.2.others.claimed w v apart ∙ (ap (λ (f : ℕ → ℕ → Option (List ℕ)). f w v) claim.desk.1.drops.claimed ∙ none w v x l))
    ])

keeps_one : (d m e : CoreData) (pair : Pair) (row : List ℕ) → KeepsAll d m → CommitsDone m pair row e → (e.commits ≡ d.commits + 1) × KeepsButWork d e
keeps_one d m e pair row same done =
    let claimed : m.commits ≡ d.commits = ap (λ (z : CoreData). z.commits) same in
    let counted : e.commits ≡ m.commits + 1 = ap (λ (z : CoreData). z.commits) done.keeps in (
      omega (claimed, counted, arith),
      keeps_work m e (m.commits + 1) (Commit pair.node.0 pair.slot ∷ m.history) done.keeps ∙ ap (λ (z : CoreData). record z { table = e.table; commits = e.commits; history = e.history }) same,
    )

-- a pair was computed anew
pub works_one : CallsAreEvents → HoldsOfRuns → (d e : CoreData) (pair : Pair) (before after : ℕ) → IsCore d → IsNoneOut d → TellsRecompute d (Done pair) e → after ≡ min (before + 1) (2 ^ 64 - 1) →
    Works d before e after × (undone_of e < undone_of d)
unfolding IsNoneOut
works_one events runs d e pair before after is none told ticks =
    let kept = keeps_one d told.between e pair told.row told.keeps told.commits in
    let run : WorksOn d (recompute_events (Done pair)) e = record { core = is; run = events.recompute d e (Done pair) told; no_batch = refl } in (
      record {
        events = recompute_events (Done pair);
        run = run;
        work = refl;
        commits = kept.0;
        steps = ticks;
        keeps = kept.1;
        none_out = none_after (repair_of d) (repair_of told.between) (repair_of e) pair.node.0 pair.slot (version_now d.log) told.row told.row _ told.claims told.commits.commits none;
      },
      let fewer = runs.bounded d e (recompute_events (Done pair)) run in omega (fewer, arith),
    )

pub rests_after : (s e : RepairState) → AnswersClaim s Rest e → IsAtRest (now e) e.desk × IsNoneClaimed (now e) e.desk
rests_after s e told =
    let rest : IsAtRest (now e) e.desk = subst (λ (z : Setting). IsAtRest z e.desk) (sym (same_now s e told.only.books)) told.desk.1 in
    (rest, λ u t x l. (rest u t x l).1)

-- no pair was left to be worked on
pub works_rest : CallsAreEvents → (d e : CoreData) (n : ℕ) → IsCore d → n < 2 ^ 64 → TellsRecompute d NoneLeft e → Works d n e n × IsResting e
unfolding IsNoneOut IsResting
works_rest events d e n is small (told, same, adds) =
    let kept : e.commits ≡ d.commits = ap (λ (z : CoreData). z.commits) same in
    let rest = rests_after (repair_of d) (repair_of e) told in (
      record {
        events = recompute_events NoneLeft;
        run = record { core = is; run = events.recompute d e NoneLeft (told, same, adds); no_batch = refl };
        work = refl;
        commits = omega (kept, arith);
        steps = omega (small, arith);
        keeps = keeps_work d e d.commits e.history same;
        none_out = rest.1;
      },
      rest.0,
    )

-- no claim is out, so none is waited for
pub never_waits : (d : CoreData) (e : RepairState) → IsNoneOut d → AnswersClaim (repair_of d) NotYet e → ⊥
unfolding IsNoneOut
never_waits d e none told = let out = told.not_yet.0 refl in out.1.3 (none out.1.0 out.0 out.1.1 out.1.2)

-- ---- a drain
pub counts_left : HoldsOfRuns → (d e : CoreData) (before after : ℕ) → Works d before e after → IsResting e → CountsLeft d e
counts_left runs d e before after works rest c loading = let made = runs.drained d e works.events c works.run rest loading in let counted = works.commits in omega (made, counted, arith)

pub counts_differences : (d e : CoreData) → HoldsOfCore d → CountsLeft d e → CountsDifferences d e
counts_differences d e holds counts none before after first second = let made = counts after second in let differs = holds.uncounted none before after first second in omega (made, differs, none, arith)
