-- How many claims are out after each event.
use Rattle.std.proofs.Common.{◌≡◌, ℕ, ◌+◌, cond, arith, inl, inr, refl, List, [], ◌∷◌}
use Rattle.std.specs.Prelude.{Some, None, is_some}
use Rattle.ltm_loading.specs.Setting.{Setting}
use Rattle.ltm_repair.specs.Desk.{Desk}
use Rattle.ltm_repair.specs.Facts.{IsClaim, IsSound}
use Rattle.ltm_repair.specs.Moves.{TakesClaim, GivesBack}
use Rattle.ltm_loading.specs.Differing.{sum_pairs}
use Rattle.ltm_repair.specs.Counting.{claims_out}
use Rattle.ltm_repair.specs.State.{RepairState, now}
use Rattle.ltm_repair.specs.Repair.{IsRepair}
use Rattle.ltm_repair.specs.Events.{CoreEvent, Look, Claim, GiveBack, Commit, Accept, Publish, Settle, Stay, Happens}
use Rattle.ltm_repair.specs.Runs.{in_all, look_in, claim_in, give_back_in, commit_in, work_in, commits_in, batch_in}
use Rattle.ltm_repair.specs.Work.{ClaimsBalance, WorkIsBounded}
use Rattle.ltm_repair.proofs.Cases.{cases_option}
use Rattle.ltm_loading.proofs.PairSums.{sum_pairs-change}
use Rattle.ltm_repair.proofs.Keeps.{drop_keeps}
use Rattle.ltm_repair.proofs.Waits.{claimed_undone, all_undone}
use Rattle.ltm_repair.proofs.Runs.{event_keeps}
use Rattle.ltm_repair.proofs.Work.{NoBatch, no_batch, same_now, commits_are_bounded}

-- 1 where the pair is claimed
abbrev out : Desk → ℕ → ℕ → ℕ
out d u t = cond (is_some (d.claimed u t)) 1 0

same_out : (nodes slots : ℕ) (d e : Desk) → e.claimed ≡ d.claimed → claims_out nodes slots e ≡ claims_out nodes slots d
unfolding claims_out
same_out nodes slots d e same = rw same refl

take_out : (s : Setting) (d : Desk) (u t : ℕ) (row : List ℕ) (e : Desk) → IsSound s d → TakesClaim s d u t row e → claims_out s.nodes s.slots e ≡ claims_out s.nodes s.slots d + 1
unfolding claims_out
take_out s d u t row e sound step =
    let none : d.claimed u t ≡ None = sound.active.apart u t step.was_active in
    let before : out d u t ≡ 0 = rw none refl in
    let after : out e u t ≡ 1 = rw step.holds refl in
    let change : sum_pairs s.nodes s.slots (out e) + out d u t ≡ sum_pairs s.nodes s.slots (out d) + out e u t =
    sum_pairs-change s.nodes s.slots (out e) (out d) u t step.claim.is_node step.claim.is_slot (λ w v x l other. rw (step.others.claimed w v other) refl) in
    omega (before, after, change, arith)

free_out : (s : Setting) (d : Desk) (u t : ℕ) (row : List ℕ) (e : Desk) → IsSound s d → d.claimed u t ≡ Some row → e.claimed u t ≡ None → ((w v : ℕ) → (u ≡ w → t ≡ v → ⊥) → e.claimed w v ≡ d.claimed w v) →
    claims_out s.nodes s.slots e + 1 ≡ claims_out s.nodes s.slots d
unfolding claims_out
free_out s d u t row e sound was free others =
    let mine : IsClaim s d u t row = sound.claims u t row was in
    let before : out d u t ≡ 1 = rw was refl in
    let after : out e u t ≡ 0 = rw free refl in
    let change : sum_pairs s.nodes s.slots (out e) + out d u t ≡ sum_pairs s.nodes s.slots (out d) + out e u t =
    sum_pairs-change s.nodes s.slots (out e) (out d) u t mine.is_node mine.is_slot (λ w v x l other. rw (others w v other) refl) in
    omega (before, after, change, arith)

give_out : (s : Setting) (d : Desk) (u t : ℕ) (e : Desk) → IsSound s d → GivesBack d u t e → claims_out s.nodes s.slots e + 1 ≡ claims_out s.nodes s.slots d
give_out s d u t e sound step = elim (cases_option (d.claimed u t)) [
  | inl none ↦ absurd (step.was_claimed none)
  | inr some ↦ free_out s d u t some.0 e sound some.1 step.free step.others.claimed
]

event_out : (s : RepairState) (x : CoreEvent) (e : RepairState) → IsRepair s → Happens s x e → batch_in x ≡ 0 →
    claims_out (now s).nodes (now s).slots e.desk + (commit_in x + give_back_in x) ≡ claims_out (now s).nodes (now s).slots s.desk + claim_in x
event_out s Look e is h plain = omega (same_out (now s).nodes (now s).slots s.desk e.desk h.desk.claimed, arith)
event_out s (Claim u t) e is h plain =
    omega (
      same_out (now s).nodes (now s).slots s.desk h.1.dropped h.1.drops.claimed,
      take_out (now s) h.1.dropped u t h.0 e.desk (drop_keeps (now s) s.desk h.1.dropped is.desk h.1.drops) h.1.takes,
      arith,
    )
event_out s (GiveBack u t) e is h plain = omega (give_out (now s) s.desk u t e.desk is.desk h.desk, arith)
event_out s (Commit u t) e is h plain = omega (free_out (now s) s.desk u t h.0 e.desk is.desk h.2.desk.was_claimed h.2.desk.free h.2.desk.claimed, arith)
event_out s Accept e is h plain = absurd (omega arith)
event_out s Publish e is h plain = rw h.desk (omega arith)
event_out s (Settle n) e is h plain = rw h.desk (omega arith)
event_out s Stay e is h plain = rw h (omega arith)

pub claims_balance : ClaimsBalance
claims_balance s e [] is run plain = rw run (omega arith)
claims_balance s e (x ∷ xs) is run plain =
    let none : NoBatch x xs = no_batch x xs plain in
    let same : now run.0 ≡ now s = same_now s x run.0 run.1 none.first in
    let rest : claims_out (now e).nodes (now e).slots e.desk + (commits_in xs + in_all give_back_in xs) ≡ claims_out (now run.0).nodes (now run.0).slots run.0.desk + in_all claim_in xs =
    claims_balance run.0 e xs (event_keeps s x run.0 is run.1) run.2 none.rest in
    let there : claims_out (now e).nodes (now e).slots e.desk + (commits_in xs + in_all give_back_in xs) ≡ claims_out (now s).nodes (now s).slots run.0.desk + in_all claim_in xs = rw same at rest in
    omega (event_out s x run.0 is run.1 none.first, there, arith)

-- ---- bounds
four_kinds : (events : List CoreEvent) → in_all work_in events ≡ in_all look_in events + in_all claim_in events + commits_in events + in_all give_back_in events
four_kinds [] = refl
four_kinds (x ∷ xs) = omega (four_kinds xs, arith)

pub work_is_bounded : WorkIsBounded
work_is_bounded s e events is none run plain =
    omega (
      four_kinds events,
      claims_balance s e events is run plain,
      none,
      commits_are_bounded s e events is run plain,
      claimed_undone (now e).nodes (now e).slots e.desk,
      all_undone (now s).nodes (now s).slots s.desk,
      arith,
    )
