use Rattle.std.proofs.Common.{◌≡◌, ℕ, List, length, arith, refl, ap, subst}
use Rattle.ltm_setting.specs.Setting.{setting_of}
use Rattle.ltm_used.specs.Lists.{list_of}
use Rattle.ltm_lean_node.specs.Places.{ArePlaces}
use Rattle.ltm_lean_make.proofs.incoming.incoming_of.Goals as goal

pub returns-clause-link : goal.returns-clause-link
returns-clause-link c = record {
  link = refl;
  wide = omega (arith, c.in_ok-standing.ensures.wide, ap length c.link_list-list.ensures.list);
  placed = subst (λ (ds : List ℕ). ArePlaces ds (list_of c.args.tables.now.nodes c.args.node.0) c.in_ok-places.places.items) c.link_list-list.ensures.list
      (subst (λ (us : List ℕ). ArePlaces c.link_list-list.result.now us c.in_ok-places.places.items) c.node_list.ensures.list c.in_ok-places.ensures);
}

pub returns-clause-stands : goal.returns-clause-stands
returns-clause-stands c = λ counts load.
    let s = setting_of c.args.scenario.now in
    let l : ℕ = c.args.link.0 in
    let ds : List ℕ = list_of c.args.tables.now.links l in
    let long : length ds ≡ length c.link_list-list.result.now = omega (arith, ap length c.link_list-list.ensures.list) in
    c.in_ok-standing.ensures.stands s counts l ds (c.requires.tables.link_listed counts l load c.requires.link) long
