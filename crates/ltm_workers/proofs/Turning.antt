-- What a turn comes to, among all hands and in a schedule.
use Rattle.std.proofs.Common.{◌≡◌, ℕ, suc, ◌+◌, ◌-◌, ◌^◌, ◌<◌, ◌≤◌, min, List, [], ◌∷◌, ◌++◌, length, take, drop, drop-cons, refl, ap, sym, subst, ◌∙◌, slice_index_or, slice_set, get_or-set_same, get_or-set_other, length-set, true, false, inl, inr, arith}
use Rattle.std.specs.Prelude.{Option, Some, None, IsSome, All, if◌then◌else◌}
use Rattle.std.proofs.lemmas.Bool.{cases_eq}
use Rattle.std.proofs.lemmas.List.{take_more, length-map, get_or_default, set-set, take-append-drop}
use Rattle.std.proofs.lemmas.List.Elements.{All-set}
use Rattle.std.proofs.lemmas.List.Sums.{count_by-le-length}
use Rattle.ltm_repair.specs.Answers.{Rest as NothingLeft, AnswersClaim}
use Rattle.ltm_repair.specs.Events.{CoreEvent, Look, GiveBack, Commit}
use Rattle.ltm_repair.specs.Runs.{in_all, look_in, give_back_in, commit_in, commits_in}
use Rattle.ltm_core.specs.Claims.{ClaimData, ScratchData}
use Rattle.ltm_core.specs.Cores.{CoreData, repair_of}
use Rattle.ltm_core.specs.CoreAnswers.{CommitsDone, Adds}
use Rattle.ltm_core.specs.Runs.{IsRun, Does}
use Rattle.ltm_workers.specs.declared.hands.Hand.{Hand}
use Rattle.ltm_workers.specs.declared.hands.Hand.TheVariants.{Free, Holds}
use Rattle.ltm_workers.specs.declared.virtual_turns.Act.{Act}
use Rattle.ltm_workers.specs.declared.virtual_turns.Act.TheVariants.{Claimed, Committed, GaveBack, Waited, Rested}
use Rattle.ltm_workers.specs.Draining.{KeepsButWork}
use Rattle.ltm_workers.specs.Driving.{Held, says_give_back, worker_of, held_by, Acts, IsDrive, none_held, give_backs}
use Rattle.ltm_workers.specs.Hands.{held_in, held_at, all_held, gave_back, waited, committed, IsEventOf, TellsAct, AreHandsKept, SparesOthers, IsNextHand, TellsTurn, Follows, FollowsToRest, LaysDown}
use Rattle.ltm_workers.proofs.Working.{runs_join, in_all_joined}
use Rattle.ltm_workers.proofs.Drives.{drive_more, drive_counts}
use Rattle.ltm_workers.proofs.Holding.{commit_spares, hands_after, held_set, held_get, keeps_more}

-- ---- with a pair in hand
pub gave_act : (byte : ℕ) (d e : CoreData) (hand : Hand) (claim : ClaimData) → hand ≡ Holds claim → says_give_back byte ≡ true → Does d (GiveBack claim.pair.node.0 claim.pair.slot) e →
    (x : CoreEvent) × IsEventOf GaveBack x × Acts byte d (held_in hand) x e None
gave_act byte d e hand claim is says does =
    let u : ℕ = claim.pair.node.0 in let t : ℕ = claim.pair.slot in
    let P : Hand → Type 0 = λ z. (x : CoreEvent) × IsEventOf GaveBack x × Acts byte d (held_in z) x e None in
    let here : GiveBack u t ≡ (if says_give_back byte then GiveBack u t else Commit u t) = rw says refl in
    subst P (sym is) (GiveBack u t, record { give_back = refl; look = refl; commit = refl }, (here, does, refl))

pub committed_act : (byte : ℕ) (d e : CoreData) (hand : Hand) (claim : ClaimData) → hand ≡ Holds claim → says_give_back byte ≡ false → CommitsDone d claim.pair claim.inputs.row e →
    (x : CoreEvent) × IsEventOf Committed x × Acts byte d (held_in hand) x e None
committed_act byte d e hand claim is says done =
    let u : ℕ = claim.pair.node.0 in let t : ℕ = claim.pair.slot in
    let P : Hand → Type 0 = λ z. (x : CoreEvent) × IsEventOf Committed x × Acts byte d (held_in z) x e None in
    let here : Commit u t ≡ (if says_give_back byte then GiveBack u t else Commit u t) = rw says refl in
    let does : Does d (Commit u t) e = ((claim.inputs.row, _, done.commits), ap (λ (z : CoreData). z.history) done.keeps) in
    subst P (sym is) (Commit u t, record { give_back = refl; look = refl; commit = refl }, (here, does, refl))

pub commit_spares_hand : (d e : CoreData) (hand : Hand) (claim : ClaimData) → hand ≡ Holds claim → CommitsDone d claim.pair claim.inputs.row e → SparesOthers d hand e
commit_spares_hand d e hand claim is done = let P : Hand → Type 0 = λ z. SparesOthers d z e in subst P (sym is) (commit_spares d e claim done)

-- ---- among all hands
only_this : (d e : CoreData) (hand next h : Hand) → IsNextHand d hand e next → Some next ≡ Some h → IsNextHand d hand e h
only_this d e hand next h is same =
    let P : Option Hand → Type 0 = λ o. elim o as (λ _. Type 0) [ None ↦ IsNextHand d hand e next | Some z ↦ IsNextHand d hand e z ] in subst P same is

pub put_back : (hands picked changed : List (Option Hand)) (w : ℕ) (next : Hand) → picked ≡ slice_set hands w None → changed ≡ slice_set picked w (Some next) → changed ≡ slice_set hands w (Some next)
put_back hands picked changed w next taken put = put ∙ (ap (λ (z : List (Option Hand)). slice_set z w (Some next)) taken ∙ set-set hands w None (Some next))

pub turn_kept : (d e : CoreData) (hands changed : List (Option Hand)) (w : ℕ) (hand next : Hand) → AreHandsKept d hands → slice_index_or hands w None ≡ Some hand → w < 4 →
    SparesOthers d hand e → IsNextHand d hand e next → changed ≡ slice_set hands w (Some next) → AreHandsKept e changed
turn_kept d e hands changed w hand next are is below spares put same =
    let four = are.four in
    let within : w < length hands = omega (below, four, arith) in
    let P : List (Option Hand) → Type 0 = λ z. AreHandsKept e z in
    subst P (sym same) (hands_after d e hands w hand (Some next) are is within spares (λ h filled. only_this d e hand next h put filled))

pub turn_full : (hands changed : List (Option Hand)) (w : ℕ) (next : Hand) → All IsSome hands → changed ≡ slice_set hands w (Some next) → All IsSome changed
turn_full hands changed w next full same = let P : List (Option Hand) → Type 0 = λ z. All IsSome z in subst P (sym same) (All-set IsSome hands w (Some next) refl full)

pub turn_told : (byte w : ℕ) (d e : CoreData) (hands changed : List (Option Hand)) (hand next : Hand) (act : Act) → w ≡ worker_of byte → slice_index_or hands w None ≡ Some hand →
    changed ≡ slice_set hands w (Some next) → TellsAct byte d (held_in hand) act e (held_in next) → TellsTurn byte d (all_held hands) act e (all_held changed)
turn_told byte w d e hands changed hand next act at is same told =
    let P : Held → Type 0 = λ z. TellsAct byte d z act e (held_in next) in
    let held : held_by (all_held hands) byte ≡ held_in hand = ap (λ (i : ℕ). slice_index_or (all_held hands) i None) (sym at) ∙ held_get hands w hand is in
    record {
      next = held_in next;
      changes = ap (λ (z : List (Option Hand)). all_held z) same ∙ (held_set hands w (Some next) ∙ ap (λ (i : ℕ). slice_set (all_held hands) i (held_in next)) at);
      tells = subst P (sym held) told;
    }

-- ---- in a schedule
other_act : (byte : ℕ) (d e : CoreData) (held next : Held) (act : Act) → (act ≡ Rested → ⊥) → TellsAct byte d held act e next → (x : CoreEvent) × IsEventOf act x × Acts byte d held x e next
other_act byte d e held next Claimed other told = told
other_act byte d e held next Committed other told = told
other_act byte d e held next GaveBack other told = told
other_act byte d e held next Waited other told = told
other_act byte d e held next Rested other told = absurd (other refl)

rested_act : (byte : ℕ) (d e : CoreData) (held next : Held) (act : Act) → act ≡ Rested → TellsAct byte d held act e next →
    (held ≡ None) × (next ≡ None) × AnswersClaim (repair_of d) NothingLeft (repair_of e) × Adds d Look e
rested_act byte d e held next act is told = let P : Act → Type 0 = λ z. TellsAct byte d held z e next in subst P is told

pub follows_more : (old mid e : CoreData) (before between after given not given_more not_more byte : ℕ) (bytes : List ℕ) (held changed : List Held) (act : Act) → Follows old before bytes given not held mid between →
    TellsTurn byte mid held act e changed → (act ≡ Rested → ⊥) → after ≡ min (between + committed act) (2 ^ 64 - 1) → given_more ≡ given + gave_back act → not_more ≡ not + waited act →
    Follows old before (bytes ++ byte ∷ []) given_more not_more changed e after
follows_more old mid e before between after given not given_more not_more byte bytes held changed act follows turn other ticks gave wait =
    let acts = other_act byte mid e (held_by held byte) turn.next act other turn.tells in
    let x : CoreEvent = acts.0 in
    let P : List Held → Type 0 = λ z. IsDrive (bytes ++ byte ∷ []) none_held old (follows.events ++ x ∷ []) z e in
    let a : in_all give_back_in (follows.events ++ x ∷ []) ≡ in_all give_back_in follows.events + (give_back_in x + 0) = in_all_joined give_back_in follows.events (x ∷ []) in
    let b : in_all look_in (follows.events ++ x ∷ []) ≡ in_all look_in follows.events + (look_in x + 0) = in_all_joined look_in follows.events (x ∷ []) in
    let c : commits_in (follows.events ++ x ∷ []) ≡ commits_in follows.events + (commit_in x + 0) = in_all_joined commit_in follows.events (x ∷ []) in
    let g = follows.gave_back in let n = follows.waited in let s = follows.steps in
    let p = acts.1.give_back in let q = acts.1.look in let r = acts.1.commit in
    record {
      events = follows.events ++ x ∷ [];
      drive = subst P (sym turn.changes) (drive_more bytes none_held old follows.events held mid byte x turn.next e follows.drive acts.2);
      gave_back = omega (a, g, p, gave, arith);
      waited = omega (b, n, q, wait, arith);
      steps = omega (c, s, r, ticks, arith);
    }

pub follows_to_rest : (old mid e : CoreData) (before between after given not byte : ℕ) (schedule used unused : List ℕ) (held changed : List Held) (act : Act) → Follows old before used given not held mid between →
    TellsTurn byte mid held act e changed → act ≡ Rested → after ≡ min (between + committed act) (2 ^ 64 - 1) → schedule ≡ used ++ byte ∷ unused → FollowsToRest old before schedule e after
follows_to_rest old mid e before between after given not byte schedule used unused held changed act follows turn is ticks split =
    let told = rested_act byte mid e (held_by held byte) turn.next act is turn.tells in
    let none : committed act ≡ 0 = ap committed is in
    let s = follows.steps in
    record {
      used = used;
      byte = byte;
      unused = unused;
      split = split;
      held = held;
      given_back = given;
      not_yet = not;
      last = mid;
      follows = record { events = follows.events; drive = follows.drive; gave_back = follows.gave_back; waited = follows.waited; steps = omega (s, none, ticks, arith) };
      free = told.0;
      rest = told.2;
      adds = told.3;
    }

pub schedule_split : (all : List ℕ) (i : ℕ) → i < length all → all ≡ take i all ++ slice_index_or all i 0 ∷ drop (suc i) all
schedule_split all i within = sym (take-append-drop i all) ∙ ap (λ (z : List ℕ). take i all ++ z) (drop-cons all i 0 within)

-- the counts are no more than the bytes
pub few_counted : (old new : CoreData) (before after given not : ℕ) (bytes : List ℕ) (held : List Held) → Follows old before bytes given not held new after → (given ≤ length bytes) × (not ≤ length bytes)
few_counted old new before after given not bytes held follows =
    let counts = drive_counts bytes none_held old follows.events held new follows.drive in
    let a = counts.give_back in let b = counts.look in let g = follows.gave_back in let n = follows.waited in
    let c = count_by-le-length says_give_back bytes in (omega (a, g, c, arith), omega (b, n, arith))

-- ---- hands that are emptied one after another
give_backs-append : (xs ys : List Held) → give_backs (xs ++ ys) ≡ give_backs xs ++ give_backs ys
give_backs-append [] ys = refl
give_backs-append (None ∷ xs) ys = give_backs-append xs ys
give_backs-append (Some pair ∷ xs) ys = ap (λ (z : List CoreEvent). GiveBack pair.0 pair.1 ∷ z) (give_backs-append xs ys)

-- the hands of the first workers are empty, and those of the others as they were
pub record LaidDown (first : CoreData) (hands : List (Option Hand)) (w : ℕ) (now : CoreData) (left : List (Option Hand)) : Type 0 where
  pub run : IsRun first (give_backs (take w (all_held hands))) now
  pub keeps : KeepsButWork first now
  pub kept : AreHandsKept now left
  pub rest : (i : ℕ) → w ≤ i → slice_index_or left i None ≡ slice_index_or hands i None
  pub empty : (i : ℕ) → i < w → slice_index_or left i None ≡ None
  pub long : length left ≡ length hands

one_laid : (d e : CoreData) (hand : Hand) → LaysDown d hand e → IsRun d (give_backs (held_in hand ∷ [])) e
one_laid d e (Free scratch) laid = laid.emptied
one_laid d e (Holds claim) laid = (e, laid.emptied, refl)

pub laid_more : (first now e : CoreData) (hands left : List (Option Hand)) (w : ℕ) (hand : Hand) → LaidDown first hands w now left → w < 4 → slice_index_or left w None ≡ Some hand → LaysDown now hand e →
    LaidDown first hands (w + 1) e (slice_set left w None)
laid_more first now e hands left w hand laid below is lays =
    let long = laid.long in let four = laid.kept.four in
    let here : w < length left = omega (below, four, arith) in
    let within : w < length hands = omega (here, long, arith) in
    let at : slice_index_or (all_held hands) w None ≡ held_in hand = held_get hands w hand (sym (laid.rest w (omega arith)) ∙ is) in
    let many : length (all_held hands) ≡ length hands = length-map hands held_at in
    let inside : w < length (all_held hands) = omega (many, within, arith) in
    let more : take (w + 1) (all_held hands) ≡ take w (all_held hands) ++ held_in hand ∷ [] =
    take_more (all_held hands) w None inside ∙ ap (λ (z : Held). take w (all_held hands) ++ z ∷ []) at in
    let events : give_backs (take (w + 1) (all_held hands)) ≡ give_backs (take w (all_held hands)) ++ give_backs (held_in hand ∷ []) =
    ap (λ (z : List Held). give_backs z) more ∙ give_backs-append (take w (all_held hands)) (held_in hand ∷ []) in
    let P : List CoreEvent → Type 0 = λ z. IsRun first z e in
    record {
      run = subst P (sym events) (runs_join first now e (give_backs (take w (all_held hands))) (give_backs (held_in hand ∷ [])) laid.run (one_laid now e hand lays));
      keeps = keeps_more first now e laid.keeps lays.spares.keeps;
      kept = hands_after now e left w hand None laid.kept is here lays.spares (λ next none. absurd (cc));
      rest = λ i l. get_or-set_other left w i None None (λ same. omega (l, same, arith)) ∙ laid.rest i (omega (l, arith));
      empty = λ i l.
          elim (cases_eq i w) [
            | inl same ↦ ap (λ (k : ℕ). slice_index_or (slice_set left w None) k None) same ∙ get_or-set_same left w None None here
            | inr other ↦ get_or-set_other left w i None None other ∙ laid.empty i (omega (l, other, arith))
          ];
      long = length-set left w None ∙ long;
    }

-- hands that are all empty
pub all_empty : (hands : List (Option Hand)) (w : ℕ) → length hands ≡ 4 → 4 ≤ w → ((i : ℕ) → i < w → slice_index_or hands i None ≡ None) → All (λ hand. hand ≡ None) hands
all_empty hands w four all empty k d within = get_or_default hands k d None within ∙ empty k (omega (within, four, all, arith))

-- the first buffers are there, and one more is put back
pub one_more_back : (scratches : List (Option ScratchData)) (w : ℕ) (scratch : ScratchData) → length scratches ≡ 4 → w < 4 → ((i : ℕ) (d : Option ScratchData) → i < w → IsSome (slice_index_or scratches i d)) →
    (i : ℕ) (d : Option ScratchData) → i < w + 1 → IsSome (slice_index_or (slice_set scratches w (Some scratch)) i d)
one_more_back scratches w scratch four below full i d within =
    elim (cases_eq i w) [
      | inl same ↦
          let here : slice_index_or (slice_set scratches w (Some scratch)) i d ≡ Some scratch =
          ap (λ (k : ℕ). slice_index_or (slice_set scratches w (Some scratch)) k d) same ∙ get_or-set_same scratches w (Some scratch) d (omega (four, below, arith)) in
          rw here refl
      | inr other ↦ rw (get_or-set_other scratches w i (Some scratch) d other) (full i d (omega (within, other, arith)))
    ]

pub all_back : (scratches : List (Option ScratchData)) (w : ℕ) → length scratches ≡ 4 → 4 ≤ w → ((i : ℕ) (d : Option ScratchData) → i < w → IsSome (slice_index_or scratches i d)) → All IsSome scratches
all_back scratches w four all full k d within = full k d (omega (within, four, all, arith))
