-- What an act is: its event, and who holds the claimed pairs after it.
use Rattle.std.proofs.Common.{◌≡◌, ℕ, ◌+◌, ◌<◌, ◌≤◌, List, length, refl, ap, sym, subst, ◌∙◌, slice_index_or, slice_set, true, false, Bool, arith}
use Rattle.std.specs.Prelude.{Option, Some, None, if◌then◌else◌}
use Rattle.std.proofs.lemmas.List.{set-get_or}
use Rattle.ltm_flows.specs.Setting.{Setting}
use Rattle.ltm_repair.specs.Answers.{Got, NotYet, AnswersClaim}
use Rattle.ltm_repair.specs.Events.{CoreEvent, Look, Claim, GiveBack, Commit, Accept, Publish, Settle, Stay, SameBooks}
use Rattle.ltm_repair.specs.State.{RepairState, now}
use Rattle.ltm_repair.specs.Runs.{work_in, batch_in, give_back_in, commit_in}
use Rattle.ltm_core.specs.Cores.{CoreData, repair_of}
use Rattle.ltm_core.specs.CoreAnswers.{Adds}
use Rattle.ltm_core.specs.Runs.{Does}
use Rattle.ltm_workers.specs.Driving.{Held, says_give_back, Claims, Acts}
use Rattle.ltm_workers.proofs.Working.{same_now}
use Rattle.ltm_workers.proofs.Owned.{IsOwned, owned_freed, owned_taken}

-- ---- the event of an act happens
claim_does : (d e : CoreData) (u t ticket : ℕ) (row : List ℕ) → AnswersClaim (repair_of d) (Got u t ticket row) (repair_of e) → Adds d (Claim u t) e → Does d (Claim u t) e
claim_does d e u t ticket row told adds = ((row, record { dropped = told.desk.0; drops = told.desk.1.drops; takes = told.desk.2; only = told.only }), adds)

claims_does : (d e : CoreData) (x : CoreEvent) (next : Held) → Claims d x e next → Does d x e
claims_does d e Look next (told, is, adds) = (record { desk = told.desk.drops; only = told.only }, adds)
claims_does d e (Claim u t) next (ticket, row, told, is, adds) = claim_does d e u t ticket row told adds
claims_does d e (GiveBack u t) next h = absurd h
claims_does d e (Commit u t) next h = absurd h
claims_does d e Accept next h = absurd h
claims_does d e Publish next h = absurd h
claims_does d e (Settle n) next h = absurd h
claims_does d e Stay next h = absurd h

pub acts_does : (byte : ℕ) (d : CoreData) (held : Held) (x : CoreEvent) (e : CoreData) (next : Held) → Acts byte d held x e next → Does d x e
acts_does byte d None x e next acts = claims_does d e x next acts
acts_does byte d (Some pair) x e next (is, does, after) = does

-- ---- it is one piece of work, no batch, and a give-back only where the byte says so
abbrev pub one_if : Bool → ℕ
one_if b = if b then 1 else 0

pub record IsOnePiece (byte : ℕ) (x : CoreEvent) : Type 0 where
  pub work : work_in x ≡ 1
  pub no_batch : batch_in x ≡ 0
  pub give_back : give_back_in x ≤ one_if (says_give_back byte)

claims_piece : (byte : ℕ) (d e : CoreData) (x : CoreEvent) (next : Held) → Claims d x e next → IsOnePiece byte x
claims_piece byte d e Look next h = record { work = refl; no_batch = refl; give_back = omega arith }
claims_piece byte d e (Claim u t) next h = record { work = refl; no_batch = refl; give_back = omega arith }
claims_piece byte d e (GiveBack u t) next h = absurd h
claims_piece byte d e (Commit u t) next h = absurd h
claims_piece byte d e Accept next h = absurd h
claims_piece byte d e Publish next h = absurd h
claims_piece byte d e (Settle n) next h = absurd h
claims_piece byte d e Stay next h = absurd h

spent_piece : (b : Bool) (u t : ℕ) → (work_in (if b then GiveBack u t else Commit u t) ≡ 1) × (batch_in (if b then GiveBack u t else Commit u t) ≡ 0) × (give_back_in (if b then GiveBack u t else Commit u t) ≤ one_if b)
spent_piece true u t = (refl, refl, omega arith)
spent_piece false u t = (refl, refl, omega arith)

pub acts_piece : (byte : ℕ) (d : CoreData) (held : Held) (x : CoreEvent) (e : CoreData) (next : Held) → Acts byte d held x e next → IsOnePiece byte x
acts_piece byte d None x e next acts = claims_piece byte d e x next acts
acts_piece byte d (Some pair) x e next (is, does, after) =
    let piece = spent_piece (says_give_back byte) pair.0 pair.1 in
    rw is (record { work = piece.0; no_batch = piece.1; give_back = piece.2 })

-- ---- each claimed pair is held by some worker
abbrev pub IsOwnedIn : CoreData → List Held → Type 0
IsOwnedIn d held = IsOwned (now (repair_of d)) (repair_of d).desk held

-- owned after an act, by what the books say
owned_after : (s e : RepairState) (held : List Held) → SameBooks s e → IsOwned (now s) e.desk held → IsOwned (now e) e.desk held
owned_after s e held same owned = let P : Setting → Type 0 = λ z. IsOwned z e.desk held in subst P (sym (same_now s e same)) owned

owned_claim : (s e : RepairState) (held : List Held) (w u t ticket : ℕ) (row : List ℕ) → IsOwned (now s) s.desk held → slice_index_or held w None ≡ None → w < length held →
    AnswersClaim s (Got u t ticket row) e → IsOwned (now e) e.desk (slice_set held w (Some (u, t)))
owned_claim s e held w u t ticket row owned none within told =
    owned_after s e (slice_set held w (Some (u, t))) told.only.books (
    owned_taken (now s) s.desk e.desk held w u t owned none within (λ x y apart.
    told.desk.2.others.claimed x y apart ∙ ap (λ (f : ℕ → ℕ → Option (List ℕ)). f x y) told.desk.1.drops.claimed
    )
    )

owned_wait : (s e : RepairState) (held : List Held) (w : ℕ) → IsOwned (now s) s.desk held → slice_index_or held w None ≡ None → AnswersClaim s NotYet e → IsOwned (now e) e.desk (slice_set held w None)
owned_wait s e held w owned none told =
    let same : slice_set held w None ≡ held = ap (slice_set held w) (sym none) ∙ set-get_or held w None in
    let P : List Held → Type 0 = λ z. IsOwned (now e) e.desk z in
    subst P (sym same) (
    owned_after s e held told.only.books (λ x y lx ly claimed. owned x y lx ly (λ no. claimed (ap (λ (f : ℕ → ℕ → Option (List ℕ)). f x y) told.desk.drops.claimed ∙ no)))
    )

owned_claims : (d e : CoreData) (held : List Held) (w : ℕ) (x : CoreEvent) (next : Held) → IsOwnedIn d held → slice_index_or held w None ≡ None → w < length held → Claims d x e next → IsOwnedIn e (slice_set held w next)
owned_claims d e held w Look next owned none within (told, is, adds) = rw is (owned_wait (repair_of d) (repair_of e) held w owned none told)
owned_claims d e held w (Claim u t) next owned none within (ticket, row, told, is, adds) = rw is (owned_claim (repair_of d) (repair_of e) held w u t ticket row owned none within told)
owned_claims d e held w (GiveBack u t) next owned none within h = absurd h
owned_claims d e held w (Commit u t) next owned none within h = absurd h
owned_claims d e held w Accept next owned none within h = absurd h
owned_claims d e held w Publish next owned none within h = absurd h
owned_claims d e held w (Settle n) next owned none within h = absurd h
owned_claims d e held w Stay next owned none within h = absurd h

-- a pair that was held is given back or committed
pub owned_given_back : (d e : CoreData) (held : List Held) (w u t : ℕ) → IsOwnedIn d held → slice_index_or held w None ≡ Some (u, t) → Does d (GiveBack u t) e → IsOwnedIn e (slice_set held w None)
owned_given_back d e held w u t owned is gave =
    owned_after (repair_of d) (repair_of e) (slice_set held w None) gave.0.only.books (
    owned_freed (now (repair_of d)) (repair_of d).desk (repair_of e).desk held w u t owned is gave.0.desk.free gave.0.desk.others.claimed
    )

owned_committed : (d e : CoreData) (held : List Held) (w u t : ℕ) → IsOwnedIn d held → slice_index_or held w None ≡ Some (u, t) → Does d (Commit u t) e → IsOwnedIn e (slice_set held w None)
owned_committed d e held w u t owned is ((row, wakes, done), adds) =
    owned_after (repair_of d) (repair_of e) (slice_set held w None) done.books (
    owned_freed (now (repair_of d)) (repair_of d).desk (repair_of e).desk held w u t owned is done.desk.free done.desk.claimed
    )

owned_spent : (b : Bool) (d e : CoreData) (held : List Held) (w u t : ℕ) → IsOwnedIn d held → slice_index_or held w None ≡ Some (u, t) → Does d (if b then GiveBack u t else Commit u t) e → IsOwnedIn e (slice_set held w None)
owned_spent true d e held w u t owned is does = owned_given_back d e held w u t owned is does
owned_spent false d e held w u t owned is does = owned_committed d e held w u t owned is does

pub acts_owned : (byte : ℕ) (d : CoreData) (own : Held) (x : CoreEvent) (e : CoreData) (next : Held) (held : List Held) (w : ℕ) →
    Acts byte d own x e next → IsOwnedIn d held → slice_index_or held w None ≡ own → w < length held → IsOwnedIn e (slice_set held w next)
acts_owned byte d None x e next held w acts owned is within = owned_claims d e held w x next owned is within acts
acts_owned byte d (Some pair) x e next held w (what, does, after) owned is within =
    let P : CoreEvent → Type 0 = λ z. Does d z e in
    rw after (owned_spent (says_give_back byte) d e held w pair.0 pair.1 owned is (subst P what does))

-- ---- the count of commits
commits_of : (d : CoreData) → (repair_of d).commits ≡ d.commits
unfolding repair_of
commits_of d = refl

claims_commits : (d e : CoreData) (x : CoreEvent) (next : Held) → Claims d x e next → (repair_of e).commits ≡ (repair_of d).commits + commit_in x
claims_commits d e Look next (told, is, adds) = let same = told.only.commits in omega (same, arith)
claims_commits d e (Claim u t) next (ticket, row, told, is, adds) = let same = told.only.commits in omega (same, arith)
claims_commits d e (GiveBack u t) next h = absurd h
claims_commits d e (Commit u t) next h = absurd h
claims_commits d e Accept next h = absurd h
claims_commits d e Publish next h = absurd h
claims_commits d e (Settle n) next h = absurd h
claims_commits d e Stay next h = absurd h

spent_commits : (b : Bool) (d e : CoreData) (u t : ℕ) → Does d (if b then GiveBack u t else Commit u t) e → (repair_of e).commits ≡ (repair_of d).commits + commit_in (if b then GiveBack u t else Commit u t)
spent_commits true d e u t gave = let same = gave.0.only.commits in omega (same, arith)
spent_commits false d e u t ((row, wakes, done), adds) = done.commits

acts_more : (byte : ℕ) (d : CoreData) (own : Held) (x : CoreEvent) (e : CoreData) (next : Held) → Acts byte d own x e next → (repair_of e).commits ≡ (repair_of d).commits + commit_in x
acts_more byte d None x e next acts = claims_commits d e x next acts
acts_more byte d (Some pair) x e next (what, does, after) =
    let P : CoreEvent → Type 0 = λ z. Does d z e in rw what (spent_commits (says_give_back byte) d e pair.0 pair.1 (subst P what does))

pub acts_commits : (byte : ℕ) (d : CoreData) (own : Held) (x : CoreEvent) (e : CoreData) (next : Held) → Acts byte d own x e next → e.commits ≡ d.commits + commit_in x
acts_commits byte d own x e next acts =
    let more = acts_more byte d own x e next acts in let before = commits_of d in let after = commits_of e in omega (more, before, after, arith)

pub gave_commits : (d e : CoreData) (u t : ℕ) → Does d (GiveBack u t) e → e.commits ≡ d.commits
gave_commits d e u t gave = let same = gave.0.only.commits in let before = commits_of d in let after = commits_of e in omega (same, before, after, arith)
