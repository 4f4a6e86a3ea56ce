use Rattle.std.proofs.Common.{◌≡◌, ◌<◌, ◌≤◌, ◌==◌, ◌&&◌, ℕ, Bool, true, false, refl, arith}
use Rattle.std.proofs.lemmas.Bool.{ne_eqb}
use Rattle.ltm_frontier.specs.Claims.{width, slot_in, has_node}
use Rattle.ltm_frontier.specs.declared.frontier.Frontier.{Frontier}
use Rattle.ltm_frontier.specs.Frontier.{nodes_in, slots_in, is_claimed, IsFirst, IsFront, IsFrontFrom}
use Rattle.ltm_frontier.proofs.frontier.Frontier.search.Goals as goal

-- the first active pair is the front where no earlier pair is claimed
from_first : (f : Frontier) (end t u : ℕ) → IsFirst f end t u → end ≤ slots_in f → ((w v : ℕ) → w < nodes_in f → v < t → is_claimed f w v ≡ false) → IsFrontFrom f t u
from_first f end t u first inside free =
    let front : IsFront f t = record {
      is_slot = omega (arith, first.inside, inside);
      before = λ w v x y. (first.before w v x y, free w v x y);
      node = u;
      is_node = first.is_node;
      busy = rw first.active refl;
    } in
    record { front = front; passed = λ w x y. first.least w y }

-- no pair of a slot before the claims is claimed
earlier : (f : Frontier) (w v : ℕ) → v < slot_in f.claims → is_claimed f w v ≡ false
earlier f w v l = rw (ne_eqb v (slot_in f.claims) (λ e. omega (arith, e, l))) refl

and_off : (a b : Bool) → b ≡ false → (a && b) ≡ false
and_off true b off = off
and_off false b off = refl

-- nor is any where no node is
none : (f : Frontier) (w v : ℕ) → has_node f.claims w ≡ false → is_claimed f w v ≡ false
none f w v off = and_off (v == slot_in f.claims) (has_node f.claims w) off

pub returns-in-Some-first_active : goal.returns-in-Some-first_active
returns-in-Some-first_active c =
    let f : Frontier = c.args.self.now in
    let first : IsFirst f c.slot-slot.result c.in-Some-first_active.pair.slot c.in-Some-first_active.pair.node.0 = c.in-Some-first_active.ensures in
    let claim : (c.in-Some.field-0 < width f.claims) × (has_node f.claims c.in-Some.field-0 ≡ true) = c.in-Some.ensures in
    let there : slot_in f.claims < slots_in f = f.there c.in-Some.field-0 (omega (arith, claim.0, f.nodes)) claim.1 in
    from_first f c.slot-slot.result c.in-Some-first_active.pair.slot c.in-Some-first_active.pair.node.0 first (omega (arith, c.slot-slot.ensures, there))
    (λ w v x y. earlier f w v (omega (arith, y, first.inside, c.slot-slot.ensures)))

pub returns-in-Some-first_active-2 : goal.returns-in-Some-first_active-2
returns-in-Some-first_active-2 c =
    let f : Frontier = c.args.self.now in
    let first : IsFirst f c.slots.result c.in-Some-first_active-2.pair.slot c.in-Some-first_active-2.pair.node.0 = c.in-Some-first_active-2.ensures in
    let free : (u : ℕ) → u < width f.claims → has_node f.claims u ≡ false = c.in-None.ensures in
    from_first f c.slots.result c.in-Some-first_active-2.pair.slot c.in-Some-first_active-2.pair.node.0 first (omega (arith, c.slots.ensures)) (λ w v x y. none f w v (free w (omega (arith, x, f.nodes))))
