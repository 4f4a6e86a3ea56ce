use Rattle.std.proofs.Common.{◌≡◌, ◌<◌, ◌==◌, ◌&&◌, ℕ, Bool, true, false, refl, arith, inl, inr}
use Rattle.std.proofs.lemmas.Bool.{cases_lt}
use Rattle.ltm_marks.specs.Marks.{IsNext}
use Rattle.ltm_frontier.specs.Claims.{width, has_node}
use Rattle.ltm_frontier.specs.declared.frontier.Frontier.{Frontier}
use Rattle.ltm_frontier.specs.Frontier.{slots_in, IsFront}
use Rattle.ltm_frontier.proofs.Counting.{none_counted}
use Rattle.ltm_frontier.proofs.frontier.Frontier.near.Goals as goal

and_off : (a b : Bool) → b ≡ false → (a && b) ≡ false
and_off true b off = off
and_off false b off = refl

pub returns-in-Some : goal.returns-in-Some
returns-in-Some c =
    let f : Frontier = c.args.self.now in
    let u : ℕ = c.in-Some.node in
    let next : IsNext f.active f.low f.first u = c.in-Some.ensures in
    let low : f.low < slots_in f = omega (arith, c.if-slot-rows.false, c.rows.ensures.value) in
    let free : (w : ℕ) → w < width f.claims → has_node f.claims w ≡ false = none_counted f.claims.nodes (omega (arith, c.count.ensures, c.if-count-gt0.false)) in
    let front : IsFront f f.low = record {
      is_slot = low;
      before = λ w v x y. (f.idle w v x y, and_off (v == f.claims.slot) (has_node f.claims w) (free w (omega (arith, x, f.nodes))));
      node = u;
      is_node = next.inside;
      busy = rw next.marked refl;
    } in
    record {
      from = record {
        front = front;
        passed = λ w x y. elim (cases_lt w f.first) [ inl below ↦ f.passed w x below low | inr from ↦ next.before w from y ];
      };
      unclaimed = omega (arith, c.count.ensures, c.if-count-gt0.false);
      is_node = next.inside;
      active = next.marked;
    }
