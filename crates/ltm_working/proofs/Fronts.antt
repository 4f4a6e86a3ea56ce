-- The front of a table.
use Rattle.std.proofs.Common.{◌≡◌, ℕ, ◌<◌, ◌||◌, Bool, true, false, refl, sym, ◌∙◌, subst, arith, inl, inr}
use Rattle.std.proofs.lemmas.Bool.{cases_lt}
use Rattle.ltm_loading.specs.Setting.{Setting}
use Rattle.ltm_frontier.specs.declared.frontier.Frontier.{Frontier}
use Rattle.ltm_frontier.specs.Frontier.{is_active, is_claimed, AllIdle, IsFront, SamePairs, SameSize}
use Rattle.ltm_repair.specs.Desk.{Desk, IsIdle, IsIdleBefore, IsAtRest}
use Rattle.ltm_repair.specs.Facts.{IsSound}
use Rattle.ltm_repair.specs.Index.{IndexIsCurrent}
use Rattle.ltm_repair.specs.Answers.{HasClaimAt}
use Rattle.ltm_working.specs.declared.table.Table.{Table}
use Rattle.ltm_working.specs.Desks.{desk_at, place_of}
use Rattle.ltm_working.specs.Ready.{ClaimsArePlaced, IsReady}
use Rattle.ltm_working.proofs.Desks.{active_is, claimed_off, claim_same, same_desk, idle_here}
use Rattle.ltm_working.proofs.Taking.{front_of_claims}

-- the same pairs are the same desk
pub front_desk : (s : Setting) (t : Table) (f : Frontier) → IsReady s t → SamePairs t.frontier f → desk_at s (record t { frontier = f }) ≡ desk_at s t
front_desk s t f ready same = same_desk s t (record t { frontier = f }) refl refl
    (λ u v x l. same.active u v)
    (λ u v x l. claim_same t (record t { frontier = f }) u v (same.claims.pairs u v) refl)

pub front_ready : (s : Setting) (t : Table) (f : Frontier) → IsReady s t → SamePairs t.frontier f → SameSize t.frontier f → IsReady s (record t { frontier = f })
front_ready s t f ready same size = record {
  fits = record {
    curves = ready.fits.curves;
    kept = ready.fits.kept;
    claims = ready.fits.claims;
    frontier = record { nodes = size.nodes ∙ ready.fits.frontier.nodes; slots = size.slots ∙ ready.fits.frontier.slots };
    index = ready.fits.index;
    changed = ready.fits.changed;
  };
  sound = subst (λ (d : Desk). IsSound s d) (sym (front_desk s t f ready same)) ready.sound;
  index = subst (λ (d : Desk). IndexIsCurrent s d (place_of t.index)) (sym (front_desk s t f ready same)) ready.index;
  claims = subst (λ (d : Desk). ClaimsArePlaced s d (place_of t.index)) (sym (front_desk s t f ready same)) ready.claims;
  weights = ready.weights;
}

-- all pairs before the front are idle, or all are
pub before_front : (s : Setting) (t : Table) (slot : ℕ) → IsReady s t → IsFront t.frontier slot → IsIdleBefore s (desk_at s t) slot
before_front s t slot ready front u v x l =
    let in_time : slot < s.slots = omega (arith, front.is_slot, ready.fits.frontier.slots) in
    let idle = front.before u v (omega (arith, x, ready.fits.frontier.nodes)) l in
    idle_here s t u v x (omega arith) idle.0 idle.1

pub all_rest : (s : Setting) (t : Table) → IsReady s t → AllIdle t.frontier → IsAtRest s (desk_at s t)
all_rest s t ready all u v x l =
    let idle = all u v (omega (arith, x, ready.fits.frontier.nodes)) (omega (arith, l, ready.fits.frontier.slots)) in
    idle_here s t u v x l idle.0 idle.1

or_off : (a b : Bool) → a ≡ false → b ≡ false → (a || b) ≡ false
or_off a b e f = rw (e, f) refl

-- some pair of the front is not idle
front_busy : (s : Setting) (t : Table) (slot : ℕ) → IsReady s t → (front : IsFront t.frontier slot) → IsIdle (desk_at s t) front.node slot → ⊥
front_busy s t slot ready front idle =
    let x : front.node < s.nodes = omega (arith, front.is_node, ready.fits.frontier.nodes) in
    let l : slot < s.slots = omega (arith, front.is_slot, ready.fits.frontier.slots) in
    let off : (is_active t.frontier front.node slot || is_claimed t.frontier front.node slot) ≡ false =
    or_off (is_active t.frontier front.node slot) (is_claimed t.frontier front.node slot) (sym (active_is s t front.node slot x l) ∙ idle.0) (claimed_off s t front.node slot x l idle.1) in
    let on : (is_active t.frontier front.node slot || is_claimed t.frontier front.node slot) ≡ true = front.busy in
    absurd (cc)

-- claims that are out are of the front
pub claims_at_front : (s : Setting) (t : Table) (slot v : ℕ) → IsReady s t → IsFront t.frontier slot → HasClaimAt s (desk_at s t) v → v ≡ slot
claims_at_front s t slot v ready front has = elim (cases_lt slot v) [
  | inl low ↦ absurd (front_busy s t slot ready front (front_of_claims s (desk_at s t) v ready.sound has front.node slot (omega (arith, front.is_node, ready.fits.frontier.nodes)) low))
  | inr high ↦ elim (cases_lt v slot) [
    | inl early ↦ absurd (has.3 (before_front s t slot ready front has.0 v has.1 early).1)
    | inr same ↦ omega arith
  ]
]

pub none_at_rest : (s : Setting) (d : Desk) (v : ℕ) → IsAtRest s d → HasClaimAt s d v → ⊥
none_at_rest s d v rest has = has.3 (rest has.0 v has.1 has.2).1

-- not at rest where there is a front
pub not_rest : (s : Setting) (t : Table) (slot : ℕ) → IsReady s t → IsFront t.frontier slot → IsAtRest s (desk_at s t) → ⊥
not_rest s t slot ready front rest =
    front_busy s t slot ready front (rest front.node slot (omega (arith, front.is_node, ready.fits.frontier.nodes)) (omega (arith, front.is_slot, ready.fits.frontier.slots)))
