-- What holds of every drive.
use Rattle.std.proofs.Common.{◌≡◌, ◌≢◌, ℕ, ◌+◌, ◌<◌, ◌≤◌, List, [], ◌∷◌, ◌++◌, length, refl, ap, sym, subst, ◌∙◌, slice_index_or, slice_set, length-set, inl, inr, arith, get_or-set_other}
use Rattle.std.proofs.lemmas.Bool.{cases_eq}
use Rattle.std.specs.Prelude.{Bool, true, false, Some, None, All, if◌then◌else◌}
use Rattle.std.specs.List.{count_by}
use Rattle.std.proofs.lemmas.List.Elements.{All-head, All-tail}
use Rattle.std.proofs.lemmas.List.Sums.{sum_by-cons}
use Rattle.ltm_repair.specs.Answers.{NotYet, AnswersClaim}
use Rattle.ltm_repair.specs.Events.{CoreEvent, Look, Claim, GiveBack, Commit, Accept, Publish, Settle, Stay}
use Rattle.ltm_repair.specs.State.{now}
use Rattle.ltm_repair.specs.Runs.{in_all, work_in, batch_in, give_back_in, look_in, commits_in}
use Rattle.ltm_core.specs.Cores.{CoreData, repair_of}
use Rattle.ltm_core.specs.Runs.{IsRun}
use Rattle.ltm_workers.specs.Draining.{AreWork}
use Rattle.ltm_workers.specs.Driving.{Held, says_give_back, worker_of, held_by, Claims, Acts, IsDrive, give_backs}
use Rattle.ltm_workers.proofs.Owned.{owned_rest, owned_none}
use Rattle.ltm_workers.proofs.Acts.{IsOwnedIn, IsOnePiece, acts_does, acts_piece, acts_owned, owned_given_back, one_if, acts_commits, gave_commits}

-- ---- its events are a run
pub drive_runs : (bytes : List ℕ) (held : List Held) (d : CoreData) (events : List CoreEvent) (after : List Held) (e : CoreData) → IsDrive bytes held d events after e → IsRun d events e
drive_runs [] held d [] after e drive = drive.1
drive_runs [] held d (x ∷ xs) after e drive = absurd drive
drive_runs (byte ∷ bytes) held d [] after e drive = absurd drive
drive_runs (byte ∷ bytes) held d (x ∷ xs) after e (m, next, acts, rest) =
    (m, acts_does byte d (held_by held byte) x m next acts, drive_runs bytes (slice_set held (worker_of byte) next) m xs after e rest)

-- ---- it makes one event for each byte
pub record CountsBytes (bytes : List ℕ) (events : List CoreEvent) : Type 0 where
  pub work : in_all work_in events ≡ length bytes
  pub many : length events ≡ length bytes
  pub no_batch : in_all batch_in events ≡ 0
  pub give_back : in_all give_back_in events ≤ count_by says_give_back bytes
  pub look : in_all look_in events ≤ length bytes

more_bytes : (byte : ℕ) (bytes : List ℕ) (x : CoreEvent) (xs : List CoreEvent) → IsOnePiece byte x → CountsBytes bytes xs → CountsBytes (byte ∷ bytes) (x ∷ xs)
more_bytes byte bytes x xs one rest =
    let p = one.work in let q = one.no_batch in let r = one.give_back in
    let a = rest.work in let b = rest.no_batch in let c = rest.give_back in let l = rest.look in
    let sums = sum_by-cons (λ (y : ℕ). one_if (says_give_back y)) byte bytes in
    let m = rest.many in
    record { work = omega (p, a, arith); many = omega (m, arith); no_batch = omega (q, b, arith); give_back = omega (r, c, sums, arith); look = omega (p, l, arith) }

pub drive_counts : (bytes : List ℕ) (held : List Held) (d : CoreData) (events : List CoreEvent) (after : List Held) (e : CoreData) → IsDrive bytes held d events after e → CountsBytes bytes events
drive_counts [] held d [] after e drive = record { work = refl; many = refl; no_batch = refl; give_back = omega arith; look = omega arith }
drive_counts [] held d (x ∷ xs) after e drive = absurd drive
drive_counts (byte ∷ bytes) held d [] after e drive = absurd drive
drive_counts (byte ∷ bytes) held d (x ∷ xs) after e (m, next, acts, rest) =
    more_bytes byte bytes x xs (acts_piece byte d (held_by held byte) x m next acts) (drive_counts bytes (slice_set held (worker_of byte) next) m xs after e rest)

-- ---- one byte more
pub drive_more : (bytes : List ℕ) (held : List Held) (d : CoreData) (events : List CoreEvent) (between : List Held) (m : CoreData) (byte : ℕ) (x : CoreEvent) (next : Held) (e : CoreData) →
    IsDrive bytes held d events between m → Acts byte m (held_by between byte) x e next →
    IsDrive (bytes ++ byte ∷ []) held d (events ++ x ∷ []) (slice_set between (worker_of byte) next) e
drive_more [] held d [] between m byte x next e (same, here) acts =
    let P : List Held → Type 0 = λ z. (k : CoreData) × (n : Held) × Acts byte d (held_by z byte) x k n × ((slice_set between (worker_of byte) next ≡ slice_set z (worker_of byte) n) × (e ≡ k)) in
    let Q : CoreData → Type 0 = λ z. Acts byte z (held_by between byte) x e next in
    subst P same (e, next, subst Q here acts, (refl, refl))
drive_more [] held d (y ∷ ys) between m byte x next e drive acts = absurd drive
drive_more (b ∷ bytes) held d [] between m byte x next e drive acts = absurd drive
drive_more (b ∷ bytes) held d (y ∷ ys) between m byte x next e (k, n, first, rest) acts =
    (k, n, first, drive_more bytes (slice_set held (worker_of b) n) k ys between m byte x next e rest acts)

-- ---- who holds what
worker_within : (held : List Held) (byte : ℕ) → length held ≡ 4 → worker_of byte < length held
worker_within held byte four = omega (four, arith)

still_four : (held : List Held) (byte : ℕ) (next : Held) → length held ≡ 4 → length (slice_set held (worker_of byte) next) ≡ 4
still_four held byte next four = length-set held (worker_of byte) next ∙ four

pub drive_owned : (bytes : List ℕ) (held : List Held) (d : CoreData) (events : List CoreEvent) (after : List Held) (e : CoreData) → length held ≡ 4 → IsOwnedIn d held → IsDrive bytes held d events after e → IsOwnedIn e after
drive_owned [] held d [] after e four owned (same, here) = rw (same, here) owned
drive_owned [] held d (x ∷ xs) after e four owned drive = absurd drive
drive_owned (byte ∷ bytes) held d [] after e four owned drive = absurd drive
drive_owned (byte ∷ bytes) held d (x ∷ xs) after e four owned (m, next, acts, rest) =
    drive_owned bytes (slice_set held (worker_of byte) next) m xs after e (still_four held byte next four)
    (acts_owned byte d (held_by held byte) x m next held (worker_of byte) acts owned refl (worker_within held byte four)) rest

-- ---- a worker that is alone never waits
abbrev pub IsAlone : ℕ → List Held → Type 0
IsAlone worker held = (i : ℕ) → i ≢ worker → slice_index_or held i None ≡ None

none_or_some : (own : Held) (u t : ℕ) → own ≡ None → own ≡ Some (u, t) → ⊥
none_or_some own u t e f = cc

-- no pair is claimed, so none is waited for
waits_for_none : (d e : CoreData) (held : List Held) (worker : ℕ) → IsOwnedIn d held → IsAlone worker held → slice_index_or held worker None ≡ None → AnswersClaim (repair_of d) NotYet (repair_of e) → ⊥
waits_for_none d e held worker owned alone none told =
    let out = told.not_yet.0 refl in
    let holder = owned out.1.0 out.0 out.1.1 out.1.2 out.1.3 in
    elim (cases_eq holder.0 worker) [
      | inl at ↦ none_or_some (slice_index_or held worker None) out.1.0 out.0 none (ap (λ (i : ℕ). slice_index_or held i None) (sym at) ∙ holder.1)
      | inr other ↦ none_or_some (slice_index_or held holder.0 None) out.1.0 out.0 (alone holder.0 other) holder.1
    ]

claims_alone : (d e : CoreData) (x : CoreEvent) (next : Held) (held : List Held) (worker : ℕ) → IsOwnedIn d held → IsAlone worker held → slice_index_or held worker None ≡ None → Claims d x e next → look_in x ≡ 0
claims_alone d e Look next held worker owned alone none (told, is, adds) = absurd (waits_for_none d e held worker owned alone none told)
claims_alone d e (Claim u t) next held worker owned alone none h = refl
claims_alone d e (GiveBack u t) next held worker owned alone none h = refl
claims_alone d e (Commit u t) next held worker owned alone none h = refl
claims_alone d e Accept next held worker owned alone none h = refl
claims_alone d e Publish next held worker owned alone none h = refl
claims_alone d e (Settle n) next held worker owned alone none h = refl
claims_alone d e Stay next held worker owned alone none h = refl

spent_alone : (b : Bool) (u t : ℕ) → look_in (if b then GiveBack u t else Commit u t) ≡ 0
spent_alone true u t = refl
spent_alone false u t = refl

acts_alone : (byte : ℕ) (d : CoreData) (own : Held) (x : CoreEvent) (e : CoreData) (next : Held) (held : List Held) (worker : ℕ) →
    Acts byte d own x e next → IsOwnedIn d held → slice_index_or held worker None ≡ own → IsAlone worker held → look_in x ≡ 0
acts_alone byte d None x e next held worker acts owned is alone = claims_alone d e x next held worker owned alone is acts
acts_alone byte d (Some pair) x e next held worker (what, does, after) owned is alone = rw what (spent_alone (says_give_back byte) pair.0 pair.1)

still_alone : (worker : ℕ) (held : List Held) (next : Held) → IsAlone worker held → IsAlone worker (slice_set held worker next)
still_alone worker held next alone i other = get_or-set_other held worker i next None other ∙ alone i other

pub drive_alone : (worker : ℕ) (bytes : List ℕ) (held : List Held) (d : CoreData) (events : List CoreEvent) (after : List Held) (e : CoreData) → All (λ b. worker_of b ≡ worker) bytes →
    length held ≡ 4 → IsOwnedIn d held → IsAlone worker held → IsDrive bytes held d events after e → in_all look_in events ≡ 0
drive_alone worker [] held d [] after e all four owned alone drive = refl
drive_alone worker [] held d (x ∷ xs) after e all four owned alone drive = absurd drive
drive_alone worker (byte ∷ bytes) held d [] after e all four owned alone drive = absurd drive
drive_alone worker (byte ∷ bytes) held d (x ∷ xs) after e all four owned alone (m, next, acts, rest) =
    let is_worker : worker_of byte ≡ worker = All-head (λ (b : ℕ). worker_of b ≡ worker) byte bytes all in
    let P : ℕ → Type 0 = λ z. IsAlone z held in
    let here : IsAlone (worker_of byte) held = subst P (sym is_worker) alone in
    let Q : ℕ → Type 0 = λ z. IsAlone z (slice_set held (worker_of byte) next) in
    let one : look_in x ≡ 0 = acts_alone byte d (held_by held byte) x m next held (worker_of byte) acts owned refl here in
    let others : in_all look_in xs ≡ 0 =
    drive_alone worker bytes (slice_set held (worker_of byte) next) m xs after e (All-tail (λ (b : ℕ). worker_of b ≡ worker) byte bytes all)
    (still_four held byte next four) (acts_owned byte d (held_by held byte) x m next held (worker_of byte) acts owned refl (worker_within held byte four))
    (subst Q is_worker (still_alone (worker_of byte) held next here)) rest in
    omega (one, others, arith)

-- ---- what is still held is given back
pub laid_down : (held : List Held) (d e : CoreData) → IsOwnedIn d held → IsRun d (give_backs held) e → (u t : ℕ) → u < (now (repair_of e)).nodes → t < (now (repair_of e)).slots → (repair_of e).desk.claimed u t ≡ None
laid_down [] d e owned run = let P : CoreData → Type 0 = λ z. (u t : ℕ) → u < (now (repair_of z)).nodes → t < (now (repair_of z)).slots → (repair_of z).desk.claimed u t ≡ None in subst P (sym run) (owned_none (now (repair_of d)) (repair_of d).desk owned)
laid_down (None ∷ held) d e owned run = laid_down held d e (owned_rest (now (repair_of d)) (repair_of d).desk held owned) run
laid_down (Some pair ∷ held) d e owned (m, gave, run) =
    laid_down held m e (owned_rest (now (repair_of m)) (repair_of m).desk held (owned_given_back d m (Some pair ∷ held) 0 pair.0 pair.1 owned refl gave)) run

pub counts_laid_down : (held : List Held) → in_all batch_in (give_backs held) ≡ 0
counts_laid_down [] = refl
counts_laid_down (None ∷ held) = counts_laid_down held
counts_laid_down (Some pair ∷ held) = let more : in_all batch_in (give_backs held) ≡ 0 = counts_laid_down held in omega (more, arith)

pub work_laid_down : (held : List Held) → AreWork (give_backs held)
work_laid_down [] = refl
work_laid_down (None ∷ held) = work_laid_down held
work_laid_down (Some pair ∷ held) = let more : AreWork (give_backs held) = work_laid_down held in omega (more, arith)

-- ---- the commits of a drive, and of hands that are emptied
pub drive_commits : (bytes : List ℕ) (held : List Held) (d : CoreData) (events : List CoreEvent) (after : List Held) (e : CoreData) → IsDrive bytes held d events after e → e.commits ≡ d.commits + commits_in events
drive_commits [] held d [] after e (same, here) = let at : e.commits ≡ d.commits = ap (λ (z : CoreData). z.commits) here in omega (at, arith)
drive_commits [] held d (x ∷ xs) after e drive = absurd drive
drive_commits (byte ∷ bytes) held d [] after e drive = absurd drive
drive_commits (byte ∷ bytes) held d (x ∷ xs) after e (m, next, acts, rest) =
    let one = acts_commits byte d (held_by held byte) x m next acts in
    let others = drive_commits bytes (slice_set held (worker_of byte) next) m xs after e rest in omega (one, others, arith)

pub laid_down_commits : (held : List Held) (d e : CoreData) → IsRun d (give_backs held) e → (e.commits ≡ d.commits) × (commits_in (give_backs held) ≡ 0)
laid_down_commits [] d e run = (ap (λ (z : CoreData). z.commits) run, refl)
laid_down_commits (None ∷ held) d e run = laid_down_commits held d e run
laid_down_commits (Some pair ∷ held) d e (m, gave, run) =
    let first = gave_commits d m pair.0 pair.1 gave in
    let rest = laid_down_commits held m e run in let same = rest.0 in let none = rest.1 in (omega (first, same, arith), omega (none, arith))
