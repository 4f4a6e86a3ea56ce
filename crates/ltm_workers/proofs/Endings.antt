-- What a drive has come to when it ends.
use Rattle.std.proofs.Common.{◌≡◌, ℕ, ◌+◌, ◌*◌, ◌≤◌, List, [], ◌∷◌, ◌++◌, length, refl, ap, sym, subst, ◌∙◌, inl, inr, arith}
use Rattle.std.proofs.lemmas.List.{length-append}
use Rattle.ltm_flows.specs.Setting.{Setting}
use Rattle.ltm_core.specs.Setting.{setting_of}
use Rattle.ltm_repair.specs.Events.{CoreEvent, Look}
use Rattle.ltm_repair.specs.Answers.{Rest as NothingLeft, AnswersClaim}
use Rattle.ltm_repair.specs.Runs.{in_all, batch_in, commit_in, commits_in, work_in, give_back_in, look_in}
use Rattle.ltm_core.specs.Log.{LogLaws}
use Rattle.ltm_core.specs.Cores.{CoreData, repair_of, IsResting, IsNoneOut, IsCore, claims_of}
use Rattle.ltm_core.specs.CoreAnswers.{Adds}
use Rattle.ltm_core.specs.Runs.{IsRun, Does, HoldsOfRuns, WorksOn, setting_in}
use Rattle.ltm_workers.specs.declared.driving.Followed.{Followed}
use Rattle.ltm_workers.specs.declared.driving.Followed.TheVariants.{ToRest, ToEnd}
use Rattle.ltm_workers.specs.declared.driving.Driven.{Driven}
use Rattle.ltm_workers.specs.declared.driving.Driven.TheVariants.{Rest, ScheduleEnded}
use Rattle.ltm_workers.specs.Draining.{KeepsButWork, Works}
use Rattle.ltm_workers.specs.Driving.{Held, none_held, give_backs, TellsDrive, IsShort, IsShortWhereEnded, pairs_of}
use Rattle.ltm_workers.specs.Hands.{Follows, FollowsToRest, TellsFollowed, TellsEnd}
use Rattle.ltm_workers.proofs.Working.{runs_join, in_all_joined, rests_after}
use Rattle.ltm_workers.proofs.Acts.{IsOwnedIn}
use Rattle.ltm_workers.proofs.Holding.{none_at}
use Rattle.ltm_workers.proofs.Drives.{drive_runs, drive_counts, drive_owned, drive_alone, drive_commits, laid_down, laid_down_commits, counts_laid_down, work_laid_down}

-- ---- at the start
owned_first : (d : CoreData) → IsNoneOut d → IsOwnedIn d none_held
unfolding IsNoneOut
owned_first d none u t lu lt claimed = absurd (claimed (none u t lu lt))

-- ---- what was done
none_out_after : (d e : CoreData) (held : List Held) → IsOwnedIn d held → IsRun d (give_backs held) e → IsNoneOut e
unfolding IsNoneOut
none_out_after d e held owned run = laid_down held d e owned run

pub end_works : (old last new : CoreData) (before after given_back not_yet : ℕ) (bytes : List ℕ) (held : List Held) → IsCore old → IsNoneOut old → Follows old before bytes given_back not_yet held last after →
    IsRun last (give_backs held) new → KeepsButWork old new → Works old before new after
end_works old last new before after given_back not_yet bytes held is none follows run keeps =
    let events : List CoreEvent = follows.events ++ give_backs held in
    let counts = drive_counts bytes none_held old follows.events held last follows.drive in
    let commits = drive_commits bytes none_held old follows.events held last follows.drive in
    let laid = laid_down_commits held last new run in
    let joined : commits_in events ≡ commits_in follows.events + commits_in (give_backs held) = in_all_joined commit_in follows.events (give_backs held) in
    let works : in_all work_in events ≡ in_all work_in follows.events + in_all work_in (give_backs held) = in_all_joined work_in follows.events (give_backs held) in
    let long : length events ≡ length follows.events + length (give_backs held) = length-append follows.events (give_backs held) in
    let all_work = counts.work in let many = counts.many in let given = work_laid_down held in
    let batches : in_all batch_in events ≡ in_all batch_in follows.events + in_all batch_in (give_backs held) = in_all_joined batch_in follows.events (give_backs held) in
    let same = laid.0 in let no_commit = laid.1 in let no_batch = counts.no_batch in let none_more = counts_laid_down held in let ticks = follows.steps in
    record {
      events = events;
      run = record {
        core = is;
        run = runs_join old last new follows.events (give_backs held) (drive_runs bytes none_held old follows.events held last follows.drive) run;
        no_batch = omega (batches, no_batch, none_more, arith);
      };
      work = omega (works, long, all_work, many, given, arith);
      commits = omega (commits, same, joined, no_commit, arith);
      steps = omega (ticks, joined, no_commit, arith);
      keeps = keeps;
      none_out = none_out_after last new held (drive_owned bytes none_held old follows.events held last refl (owned_first old none) follows.drive) run;
    }

rest_event : (d e : CoreData) → AnswersClaim (repair_of d) NothingLeft (repair_of e) → Adds d Look e → Does d Look e
rest_event d e told adds = (record { desk = told.desk.0.drops; only = told.only }, adds)

commits_of : (d : CoreData) → (repair_of d).commits ≡ d.commits
unfolding repair_of
commits_of d = refl

pub rest_leaves : (d e : CoreData) → AnswersClaim (repair_of d) NothingLeft (repair_of e) → IsResting e × IsNoneOut e
unfolding IsResting IsNoneOut
rest_leaves d e told = rests_after (repair_of d) (repair_of e) told

pub rest_works : (old new : CoreData) (before after : ℕ) (bytes : List ℕ) → IsCore old → FollowsToRest old before bytes new after → KeepsButWork old new → Works old before new after
rest_works old new before after bytes is to_rest keeps =
    let follows = to_rest.follows in
    let events : List CoreEvent = follows.events ++ Look ∷ [] in
    let counts = drive_counts to_rest.used none_held old follows.events to_rest.held to_rest.last follows.drive in
    let commits = drive_commits to_rest.used none_held old follows.events to_rest.held to_rest.last follows.drive in
    let last = commits_of to_rest.last in let here = commits_of new in let same = to_rest.rest.only.commits in
    let joined : commits_in events ≡ commits_in follows.events + 0 = in_all_joined commit_in follows.events (Look ∷ []) in
    let works : in_all work_in events ≡ in_all work_in follows.events + 1 = in_all_joined work_in follows.events (Look ∷ []) in
    let long : length events ≡ length follows.events + 1 = length-append follows.events (Look ∷ []) in
    let all_work = counts.work in let many = counts.many in
    let batches : in_all batch_in events ≡ in_all batch_in follows.events + 0 = in_all_joined batch_in follows.events (Look ∷ []) in
    let no_batch = counts.no_batch in let ticks = follows.steps in
    record {
      events = events;
      run = record {
        core = is;
        run = runs_join old to_rest.last new follows.events (Look ∷ []) (drive_runs to_rest.used none_held old follows.events to_rest.held to_rest.last follows.drive)
            (new, rest_event to_rest.last new to_rest.rest to_rest.adds, refl);
        no_batch = omega (batches, no_batch, arith);
      };
      work = omega (works, long, all_work, many, arith);
      commits = omega (commits, last, here, same, joined, arith);
      steps = omega (ticks, joined, arith);
      keeps = keeps;
      none_out = (rest_leaves to_rest.last new to_rest.rest).1;
    }

pub drive_works : (followed : Followed) (old mid new : CoreData) (before after : ℕ) (bytes : List ℕ) (held : List Held) → IsCore old → IsNoneOut old → TellsFollowed old before bytes followed held mid after →
    IsRun mid (give_backs held) new → (IsNoneOut mid → new ≡ mid) → KeepsButWork old new → Works old before new after
drive_works ToRest old mid new before after bytes held is none told run same keeps =
    let here : new ≡ mid = same (rest_leaves told.last mid told.rest).1 in
    let P : CoreData → Type 0 = λ z. KeepsButWork old z → Works old before z after in
    subst P (sym here) (λ k. rest_works old mid before after bytes is told k) keeps
drive_works (ToEnd tally) old mid new before after bytes held is none told run same keeps =
    end_works old mid new before after tally.given_back tally.not_yet bytes held is none told run keeps

-- ---- what is told
pub tells_drive : (followed : Followed) (driven : Driven) (old mid new : CoreData) (before after : ℕ) (bytes : List ℕ) (held : List Held) → TellsFollowed old before bytes followed held mid after →
    IsRun mid (give_backs held) new → (IsNoneOut mid → new ≡ mid) → TellsEnd followed driven new → TellsDrive old bytes driven new
tells_drive ToRest driven old mid new before after bytes held told run same end =
    let leaves = rest_leaves told.last mid told.rest in
    let here : new ≡ mid = same leaves.1 in
    let P : CoreData → Type 0 = λ z. TellsDrive old bytes Rest z in
    rw end (subst P (sym here) (
      leaves.0,
      inl (record {
        used = told.used;
        byte = told.byte;
        unused = told.unused;
        split = told.split;
        events = told.follows.events;
        held = told.held;
        last = told.last;
        drive = told.follows.drive;
        free = told.free;
        rest = told.rest;
        adds = told.adds;
      }),
    ))
tells_drive (ToEnd tally) Rest old mid new before after bytes held told run same end =
    (end, inr (tally.given_back, tally.not_yet, record { events = told.events; held = held; last = mid; drive = told.drive; gave_back = told.gave_back; waited = told.waited; lays_down = run }))
tells_drive (ToEnd tally) (ScheduleEnded given_back not_yet) old mid new before after bytes held told run same (other, given, waited) =
    (record { events = told.events; held = held; last = mid; drive = told.drive; gave_back = given ∙ told.gave_back; waited = waited ∙ told.waited; lays_down = run }, other)

-- ---- how long a schedule is
setting_same : LogLaws → (d : CoreData) → IsCore d → setting_in d ≡ setting_of d.scenario
setting_same laws d is = ap setting_of (laws.last d.log ∙ is.scenario)

pub is_short : HoldsOfRuns → LogLaws → (old last : CoreData) (before after given_back not_yet : ℕ) (bytes : List ℕ) (held : List Held) → IsCore old → IsNoneOut old → claims_of old ≡ 0 →
    Follows old before bytes given_back not_yet held last after → IsShort old bytes given_back not_yet
is_short runs laws old last before after given_back not_yet bytes held is none no_claim follows =
    let counts = drive_counts bytes none_held old follows.events held last follows.drive in
    let run : WorksOn old follows.events last = record { core = is; run = drive_runs bytes none_held old follows.events held last follows.drive; no_batch = counts.no_batch } in
    let P : Setting → Type 0 = λ z. in_all work_in follows.events ≤ 2 * pairs_of z + 2 * in_all give_back_in follows.events + in_all look_in follows.events in
    let bound = subst P (setting_same laws old is) (runs.schedule old last follows.events run no_claim) in
    let work = counts.work in let given = follows.gave_back in let waited = follows.waited in let said = counts.give_back in
    record {
      few = omega (bound, work, given, waited, arith);
      gave_back = omega (said, given, arith);
      alone = λ worker all.
          let alone = drive_alone worker bytes none_held old follows.events held last all refl (owned_first old none) (λ i other. none_at i) follows.drive in omega (alone, waited, arith);
    }

pub drive_short : HoldsOfRuns → LogLaws → (followed : Followed) (driven : Driven) (old mid new : CoreData) (before after : ℕ) (bytes : List ℕ) (held : List Held) → IsCore old → IsNoneOut old → claims_of old ≡ 0 →
    TellsFollowed old before bytes followed held mid after → TellsEnd followed driven new → IsShortWhereEnded old bytes driven
drive_short runs laws ToRest driven old mid new before after bytes held is none no_claim told end = rw end tt
drive_short runs laws (ToEnd tally) Rest old mid new before after bytes held is none no_claim told end = tt
drive_short runs laws (ToEnd tally) (ScheduleEnded given_back not_yet) old mid new before after bytes held is none no_claim told (other, given, waited) =
    rw (given, waited) (is_short runs laws old mid before after tally.given_back tally.not_yet bytes held is none no_claim told)
