use Rattle.std.proofs.Common.{◌≡◌, List, length, get_or, None, Some, sym, ap, ◌∙◌, arith}
use Rattle.std.proofs.Math.ListN.{set}
use Rattle.std.proofs.lemmas.List.{length-map}
use Rattle.ltm_units.specs.declared.places.NodeId.{NodeId}
use Rattle.ltm_scenario.specs.Reads.{destination_of}
use Rattle.ltm_scenario.proofs.Places.{numbers, numbers-push, put_keeps}
use Rattle.ltm_scenario.proofs.destinations.Destinations.put.Goals as goal

pub invariant_of-self-2 : goal.invariant_of-self-2
invariant_of-self-2 c =
    let old : List NodeId = c.self.inside.list.items in
    let place : c.len-place.result ≡ length (numbers old) = c.len-place.ensures ∙ omega (arith, length-map old (λ (n : NodeId). n.0), c.self.inside.list.ok.0) in
    let new : destination_of (numbers old) c.args.node.0 ≡ None = ap (λ ds. destination_of ds c.args.node.0) c.self.view_is ∙ c.requires.new in (
      omega (arith, c.in_ok-push.ensures.len, place, ap (λ ds. length ds) c.self.view_is),
      λ n.
          ap (λ p. get_or (set c.reach.new.places.items c.args.node.0 (Some p)) n None) place
          ∙ put_keeps (numbers old) c.reach.new.places.items c.args.node.0 (λ k. c.reach.ensures.same k ∙ c.self.invariant.1 k) new (omega (arith, c.in_ok-reach.ensures.ok, c.reach.new.places.ok.0)) n
          ∙ ap (λ ds. destination_of ds n) (sym (numbers-push old c.push.new.self.items c.args.node c.in_ok-push.ensures.items)),
    )
