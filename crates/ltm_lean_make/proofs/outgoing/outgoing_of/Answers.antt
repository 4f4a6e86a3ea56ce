use Rattle.std.proofs.Common.{ℕ, List, length, arith, refl, ap, subst}
use Rattle.ltm_used.specs.Lists.{list_of}
use Rattle.ltm_lean_node.specs.Places.{ArePlaces}
use Rattle.ltm_lean_make.proofs.outgoing.outgoing_of.Goals as goal

pub returns-clause-link : goal.returns-clause-link
returns-clause-link c = record {
  link = refl;
  wide = omega (arith, c.in_ok-mail.ensures.wide, ap length c.link_list-list.ensures.list);
  placed = subst (λ (ds : List ℕ). ArePlaces ds (list_of c.args.tables.now.nodes c.args.node.0) c.in_ok-places.places.items) c.link_list-list.ensures.list
      (subst (λ (us : List ℕ). ArePlaces c.link_list-list.result.now us c.in_ok-places.places.items) c.node_list.ensures.list c.in_ok-places.ensures);
}
