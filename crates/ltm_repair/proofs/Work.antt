-- How much there is to do between two batches.
use Rattle.std.proofs.Common.{◌≡◌, ℕ, ◌+◌, ◌<◌, ◌≤◌, arith, inl, inr, ap, sym, refl, ◌∙◌, Bool, List, [], ◌∷◌}
use Rattle.std.specs.Prelude.{Some, ◌==◌}
use Rattle.std.proofs.lemmas.Bool.{cases_lt, cases_Bool, eq-eqb, eqb-true}
use Rattle.ltm_curve.specs.Counts.{Counts}
use Rattle.ltm_loading.specs.Setting.{Setting}
use Rattle.ltm_loading.specs.Pairs.{pair_row}
use Rattle.ltm_loading.specs.Loading.{IsLoading}
use Rattle.ltm_loading.specs.Differing.{sum_pairs, unlike, row_of, differing}
use Rattle.ltm_loading.proofs.PairSums.{sum_pairs-same}
use Rattle.ltm_loading.proofs.Unlike.{unlike_same, row_of_old, row_of_new}
use Rattle.ltm_repair.specs.Desk.{Desk, IsAtRest, IsOther}
use Rattle.ltm_repair.specs.Counting.{left_to_do, busy, waiting, undone}
use Rattle.ltm_repair.specs.State.{RepairState, now}
use Rattle.ltm_repair.specs.Repair.{IsRepair}
use Rattle.ltm_repair.specs.Events.{CoreEvent, Look, Claim, GiveBack, Commit, Accept, Publish, Settle, Stay, Happens, CommitHappened, Accepted}
use Rattle.ltm_repair.specs.Runs.{CoreRun, in_all, commit_of, commits_of, commit_in, commits_in, batch_in, AcceptsNothing}
use Rattle.ltm_repair.specs.Work.{NoneTwice, CommitsDifferences, CommitsAreDiffering, CommitsAreUseful, DrainsAreExact, CommitsAreBounded}
use Rattle.ltm_repair.proofs.Cases.{cases_pair}
use Rattle.ltm_repair.proofs.Waits.{CommitWaits, commit_waits, calm_waits, waiting_le, drop_calm, give_back_calm, commit_undone, calm_undone}
use Rattle.ltm_repair.proofs.LeftToDo.{rest_final, rest_done, CommitsFinal, commit_final, commit_others, commit_done}
use Rattle.ltm_repair.proofs.Books.{now_is_setting, claim_calm, claim_kept}
use Rattle.ltm_repair.proofs.Batches.{accept_repair}
use Rattle.ltm_repair.proofs.Runs.{event_keeps}

-- ---- without a batch
-- the first event and the others are no batch
pub record NoBatch (x : CoreEvent) (xs : List CoreEvent) : Type 0 where
  pub first : batch_in x ≡ 0
  pub rest : AcceptsNothing xs

pub no_batch : (x : CoreEvent) (xs : List CoreEvent) → AcceptsNothing (x ∷ xs) → NoBatch x xs
no_batch x xs plain = let sum : batch_in x + in_all batch_in xs ≡ 0 = plain in record { first = omega arith; rest = omega arith }

pub same_now : (s : RepairState) (x : CoreEvent) (e : RepairState) → Happens s x e → batch_in x ≡ 0 → now e ≡ now s
same_now s Look e h plain = rw (h.only.books.settings, h.only.books.accepted) refl
same_now s (Claim u t) e h plain = rw (h.1.only.books.settings, h.1.only.books.accepted) refl
same_now s (GiveBack u t) e h plain = rw (h.only.books.settings, h.only.books.accepted) refl
same_now s (Commit u t) e h plain = rw (h.2.books.settings, h.2.books.accepted) refl
same_now s Accept e h plain = absurd (omega arith)
same_now s Publish e h plain = rw (h.settings, h.accepted) refl
same_now s (Settle n) e h plain = rw (h.settings, h.accepted) refl
same_now s Stay e h plain = rw h refl

-- no pair gets busier but by a commit, and kept inputs stay
calm_after : (s : RepairState) (x : CoreEvent) (e : RepairState) → Happens s x e → batch_in x ≡ 0 → commit_in x ≡ 0 → (w v : ℕ) → busy e.desk w v ≤ busy s.desk w v
calm_after s Look e h plain none w v = drop_calm (now s) s.desk e.desk h.desk w v
calm_after s (Claim u t) e h plain none w v = claim_calm s u t h.0 e h.1 w v
calm_after s (GiveBack u t) e h plain none w v = give_back_calm s.desk u t e.desk h.desk w v
calm_after s (Commit u t) e h plain none w v = absurd (omega arith)
calm_after s Accept e h plain none w v = absurd (omega arith)
calm_after s Publish e h plain none w v = rw h.desk (omega arith)
calm_after s (Settle n) e h plain none w v = rw h.desk (omega arith)
calm_after s Stay e h plain none w v = rw h (omega arith)

kept_after : (s : RepairState) (x : CoreEvent) (e : RepairState) → Happens s x e → batch_in x ≡ 0 → commit_in x ≡ 0 → e.desk.kept ≡ s.desk.kept
kept_after s Look e h plain none = h.desk.work.kept
kept_after s (Claim u t) e h plain none = claim_kept s u t h.0 e h.1
kept_after s (GiveBack u t) e h plain none = h.desk.work.kept
kept_after s (Commit u t) e h plain none = absurd (omega arith)
kept_after s Accept e h plain none = absurd (omega arith)
kept_after s Publish e h plain none = rw h.desk refl
kept_after s (Settle n) e h plain none = rw h.desk refl
kept_after s Stay e h plain none = rw h refl

other_event : (u t : ℕ) (x : CoreEvent) → commit_in x ≡ 0 → commit_of u t x ≡ 0
other_event u t (Commit w v) none = absurd (omega arith)
other_event u t Look none = refl
other_event u t (Claim w v) none = refl
other_event u t (GiveBack w v) none = refl
other_event u t Accept none = refl
other_event u t Publish none = refl
other_event u t (Settle n) none = refl
other_event u t Stay none = refl

this_pair : (u t w v : ℕ) → u ≡ w → t ≡ v → commit_of u t (Commit w v) ≡ 1
this_pair u t w v p q = rw (eq-eqb u w p, eq-eqb t v q) refl

other_pair : (u t w v : ℕ) → IsOther u t w v → commit_of u t (Commit w v) ≡ 0
other_pair u t w v other = elim (cases_Bool (u == w)) [
  | inr a ↦ rw a refl
  | inl a ↦ elim (cases_Bool (t == v)) [
    | inr b ↦ rw (a, b) refl
    | inl b ↦ absurd (other (eqb-true u w a) (eqb-true t v b))
  ]
]

-- an event is a commit or none
pub data IsKind : CoreEvent → Type 0 where
  a_commit : (w v : ℕ) → IsKind (Commit w v)
  no_commit : (x : CoreEvent) → commit_in x ≡ 0 → IsKind x

kind : (x : CoreEvent) → IsKind x
kind (Commit w v) = a_commit w v
kind Look = no_commit Look refl
kind (Claim w v) = no_commit (Claim w v) refl
kind (GiveBack w v) = no_commit (GiveBack w v) refl
kind Accept = no_commit Accept refl
kind Publish = no_commit Publish refl
kind (Settle n) = no_commit (Settle n) refl
kind Stay = no_commit Stay refl

-- ---- no pair twice
waits_after : (s : RepairState) (x : CoreEvent) (e : RepairState) → IsKind x → IsRepair s → Happens s x e → batch_in x ≡ 0 → (u t : ℕ) →
    commit_of u t x + waiting (now s).nodes e.desk u t ≤ waiting (now s).nodes s.desk u t
waits_after s x e (no_commit y none) is h plain u t =
    omega (arith, other_event u t x none, calm_waits (now s).nodes s.desk e.desk (calm_after s x e h plain none) u t)
waits_after s x e (a_commit w v) is h plain u t =
    let waits : CommitWaits (now s).nodes s.desk e.desk w v = commit_waits (now s) s.desk w v h.0 h.1 e.desk is.desk h.2.desk in
    elim (cases_pair u t w v) [
      | inl at ↦
          let after : waiting (now s).nodes e.desk u t ≡ 0 = rw (at.0, at.1) waits.after in
          let before : waiting (now s).nodes s.desk u t ≡ 1 = rw (at.0, at.1) waits.before in
          omega (this_pair u t w v at.0 at.1, after, before, arith)
      | inr other ↦ omega (other_pair u t w v other, waits.less u t, arith)
    ]

run_waits : (s e : RepairState) (events : List CoreEvent) → IsRepair s → CoreRun s events e → AcceptsNothing events → (u t : ℕ) → commits_of u t events ≤ waiting (now s).nodes s.desk u t
run_waits s e [] is run plain u t = omega arith
run_waits s e (x ∷ xs) is run plain u t =
    let none : NoBatch x xs = no_batch x xs plain in
    let same : now run.0 ≡ now s = same_now s x run.0 run.1 none.first in
    let rest : commits_of u t xs ≤ waiting (now run.0).nodes run.0.desk u t = run_waits run.0 e xs (event_keeps s x run.0 is run.1) run.2 none.rest u t in
    let rest_there : commits_of u t xs ≤ waiting (now s).nodes run.0.desk u t = rw same at rest in
    omega (waits_after s x run.0 (kind x) is run.1 none.first u t, rest_there, arith)

pub none_twice : NoneTwice
none_twice s e events is run plain u t = omega (run_waits s e events is run plain u t, waiting_le (now s).nodes s.desk u t, arith)

-- ---- bounds of the commits
undone_after : (s : RepairState) (x : CoreEvent) (e : RepairState) → IsKind x → IsRepair s → Happens s x e → batch_in x ≡ 0 →
    commit_in x + undone (now s).nodes (now s).slots e.desk ≤ undone (now s).nodes (now s).slots s.desk
undone_after s x e (no_commit y none) is h plain = omega (none, calm_undone (now s).nodes (now s).slots s.desk e.desk (calm_after s x e h plain none), arith)
undone_after s x e (a_commit w v) is h plain = omega (commit_undone (now s) s.desk w v h.0 h.1 e.desk is.desk h.2.desk, arith)

pub commits_are_bounded : CommitsAreBounded
commits_are_bounded s e [] is run plain = rw run (omega arith)
commits_are_bounded s e (x ∷ xs) is run plain =
    let none : NoBatch x xs = no_batch x xs plain in
    let same : now run.0 ≡ now s = same_now s x run.0 run.1 none.first in
    let rest : commits_in xs + undone (now e).nodes (now e).slots e.desk ≤ undone (now run.0).nodes (now run.0).slots run.0.desk =
    commits_are_bounded run.0 e xs (event_keeps s x run.0 is run.1) run.2 none.rest in
    let rest_there : commits_in xs + undone (now e).nodes (now e).slots e.desk ≤ undone (now s).nodes (now s).slots run.0.desk = rw same at rest in
    omega (undone_after s x run.0 (kind x) is run.1 none.first, rest_there, arith)

-- ---- each commit is useful
left_same : (s : Setting) (c : Counts) (d e : Desk) → e.kept ≡ d.kept → left_to_do s c e ≡ left_to_do s c d
unfolding left_to_do
left_same s c d e h = rw h refl

left_after : (s : RepairState) (x : CoreEvent) (e : RepairState) (c : Counts) → IsKind x → IsRepair s → Happens s x e → batch_in x ≡ 0 → IsLoading (now s) c →
    commit_in x + left_to_do (now s) c e.desk ≡ left_to_do (now s) c s.desk
left_after s x e c (no_commit y none) is h plain loading = omega (none, left_same (now s) c s.desk e.desk (kept_after s x e h plain none), arith)
left_after s x e c (a_commit w v) is h plain loading =
    let done : left_to_do (now s) c e.desk + 1 ≡ left_to_do (now s) c s.desk = commit_done (now s) s.desk w v h.0 h.1 e.desk c (now_is_setting s is) is.desk h.2.desk loading in
    omega (done, arith)

pub commits_are_useful : CommitsAreUseful
commits_are_useful s e [] c is run plain loading = rw run (omega arith)
commits_are_useful s e (x ∷ xs) c is run plain loading =
    let none : NoBatch x xs = no_batch x xs plain in
    let same : now run.0 ≡ now s = same_now s x run.0 run.1 none.first in
    let rest : commits_in xs + left_to_do (now e) c e.desk ≡ left_to_do (now run.0) c run.0.desk =
    commits_are_useful run.0 e xs c (event_keeps s x run.0 is run.1) run.2 none.rest (rw same loading) in
    let rest_there : commits_in xs + left_to_do (now e) c e.desk ≡ left_to_do (now s) c run.0.desk = rw same at rest in
    omega (left_after s x run.0 c (kind x) is run.1 none.first loading, rest_there, arith)

-- without a batch the setting stays to the end
run_now : (s e : RepairState) (events : List CoreEvent) → CoreRun s events e → AcceptsNothing events → now e ≡ now s
run_now s e [] run plain = rw run refl
run_now s e (x ∷ xs) run plain =
    let none : NoBatch x xs = no_batch x xs plain in
    run_now run.0 e xs run.2 none.rest ∙ same_now s x run.0 run.1 none.first

run_keeps : (s e : RepairState) (events : List CoreEvent) → IsRepair s → CoreRun s events e → IsRepair e
run_keeps s e [] is run = rw run is
run_keeps s e (x ∷ xs) is run = run_keeps run.0 e xs (event_keeps s x run.0 is run.1) run.2

pub drains_are_exact : DrainsAreExact
drains_are_exact s e events c is run plain rest loading =
    let last : IsRepair e = run_keeps s e events is run in
    let same : now e ≡ now s = run_now s e events run plain in
    let done : left_to_do (now e) c e.desk ≡ 0 = rest_done (now e) e.desk c (now_is_setting e last) last.desk rest (rw same loading) in
    omega (commits_are_useful s e events c is run plain loading, done, arith)

-- ---- exactly the differing pairs
exact_after : (s : RepairState) (x : CoreEvent) (e : RepairState) (c : Counts) → IsKind x → IsRepair s → Happens s x e → batch_in x ≡ 0 → IsLoading (now s) c →
    (u t : ℕ) → u < (now s).nodes → t < (now s).slots → commit_of u t x + unlike (e.desk.kept u t) (Some (pair_row (now s) c u t)) ≡ unlike (s.desk.kept u t) (Some (pair_row (now s) c u t))
exact_after s x e c (no_commit y none) is h plain loading u t node slot = rw (other_event u t x none, kept_after s x e h plain none) (omega arith)
exact_after s x e c (a_commit w v) is h plain loading u t node slot =
    let step : CommitHappened s w v h.0 h.1 e = h.2 in
    elim (cases_pair u t w v) [
      | inl at ↦
          let final : CommitsFinal (now s) s.desk w v e.desk c = commit_final (now s) s.desk w v h.0 h.1 e.desk c (now_is_setting s is) is.desk step.desk loading in
          let after : unlike (e.desk.kept u t) (Some (pair_row (now s) c u t)) ≡ 0 = rw (at.0, at.1) final.after in
          let before : unlike (s.desk.kept u t) (Some (pair_row (now s) c u t)) ≡ 1 = rw (at.0, at.1) final.before in
          omega (this_pair u t w v at.0 at.1, after, before, arith)
      | inr other ↦
          let same : unlike (e.desk.kept u t) (Some (pair_row (now s) c u t)) ≡ unlike (s.desk.kept u t) (Some (pair_row (now s) c u t)) =
          commit_others (now s) s.desk w v h.0 h.1 e.desk c (now_is_setting s is) is.desk step.desk loading u t (λ p q. other (sym p) (sym q)) in
          omega (other_pair u t w v other, same, arith)
    ]

run_exact : (s e : RepairState) (events : List CoreEvent) (c : Counts) → IsRepair s → CoreRun s events e → AcceptsNothing events → IsAtRest (now e) e.desk → IsLoading (now s) c →
    (u t : ℕ) → u < (now s).nodes → t < (now s).slots → commits_of u t events ≡ unlike (s.desk.kept u t) (Some (pair_row (now s) c u t))
run_exact s e [] c is run plain rest loading u t node slot =
    let there : IsAtRest (now s) s.desk = rw run at rest in
    sym (unlike_same (s.desk.kept u t) (Some (pair_row (now s) c u t)) (rest_final (now s) s.desk c (now_is_setting s is) is.desk there loading u t node slot))
run_exact s e (x ∷ xs) c is run plain rest loading u t node slot =
    let none : NoBatch x xs = no_batch x xs plain in
    let same : now run.0 ≡ now s = same_now s x run.0 run.1 none.first in
    let next : commits_of u t xs ≡ unlike (run.0.desk.kept u t) (Some (pair_row (now run.0) c u t)) =
    run_exact run.0 e xs c (event_keeps s x run.0 is run.1) run.2 none.rest rest (rw same loading) u t (rw same node) (rw same slot) in
    let next_there : commits_of u t xs ≡ unlike (run.0.desk.kept u t) (Some (pair_row (now s) c u t)) = rw same at next in
    omega (exact_after s x run.0 c (kind x) is run.1 none.first loading u t node slot, next_there, arith)

-- after a batch at rest, the kept inputs are those of the old loading
kept_over : (s m : RepairState) (touched : ℕ → ℕ → Bool) (a : Counts) → IsRepair s → IsAtRest (now s) s.desk → Accepted s touched m → IsLoading (now s) a →
    (u t : ℕ) → u < (now m).nodes → t < (now m).slots → m.desk.kept u t ≡ row_of (now s) a u t
kept_over s m touched a is rest took first u t node slot =
    elim (cases_lt t (now s).slots) [
      | inl old ↦
          let nodes : (now s).nodes ≡ (now m).nodes = took.network.nodes in
          let kept : m.desk.kept u t ≡ Some (pair_row (now s) a u t) =
          took.desk.grows.old_kept u t old ∙ rest_final (now s) s.desk a (now_is_setting s is) is.desk rest first u t (omega arith) old in
          kept ∙ sym (row_of_old (now s) a u t old)
      | inr new ↦ took.desk.grows.new_kept u t new slot ∙ sym (row_of_new (now s) a u t new)
    ]

pub commits_differences : CommitsDifferences
commits_differences s m e touched events a b h first second u t node slot =
    let middle : IsRepair m = accept_repair s touched m h.repair h.batch in
    let count : commits_of u t events ≡ unlike (m.desk.kept u t) (Some (pair_row (now m) b u t)) = run_exact m e events b middle h.run h.no_other h.rest_again second u t node slot in
    count ∙ ap (λ z. unlike z (Some (pair_row (now m) b u t))) (kept_over s m touched a h.repair h.rest h.batch first u t node slot)

pub commits_are_differing : CommitsAreDiffering
unfolding left_to_do differing
commits_are_differing s m e touched events a b h first second =
    let middle : IsRepair m = accept_repair s touched m h.repair h.batch in
    let F : ℕ → ℕ → ℕ = λ u t. unlike (m.desk.kept u t) (Some (pair_row (now m) b u t)) in
    let G : ℕ → ℕ → ℕ = λ u t. unlike (row_of (now s) a u t) (Some (pair_row (now m) b u t)) in
    let same : sum_pairs (now m).nodes (now m).slots F ≡ sum_pairs (now m).nodes (now m).slots G =
    sum_pairs-same (now m).nodes (now m).slots F G
    (λ u t node slot. ap (λ z. unlike z (Some (pair_row (now m) b u t))) (kept_over s m touched a h.repair h.rest h.batch first u t node slot)) in
    drains_are_exact m e events b middle h.run h.no_other h.rest_again second ∙ same
