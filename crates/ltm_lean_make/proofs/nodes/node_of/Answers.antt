use Rattle.std.proofs.Common.{rules, ◌≡◌, ℕ, ◌*◌, ◌<◌, List, Option, length, slice_index, arith, ap, subst, ◌∙◌}
use Rattle.std.proofs.lemmas.List.{get_or-replicate}
use Rattle.std.proofs.Math.Nat.{mul-le-mul_left}
use Rattle.ltm_node.specs.Shape.{is_this}
use Rattle.ltm_setting.specs.Setting.{setting_of}
use Rattle.ltm_used.specs.Lists.{list_of}
use Rattle.ltm_lean_make.proofs.First.{left_first}
use Rattle.ltm_lean_make.proofs.nodes.node_of.Goals as goal

pub overflow_mul-list : goal.overflow_mul-list
overflow_mul-list c = omega (arith, c.node_list-list.ensures.few, mul-le-mul_left (length c.node_list-list.result.now) c.out_links.ensures.few)

pub returns-clause-node : goal.returns-clause-node
returns-clause-node c =
    let s = setting_of c.args.scenario.now in
    let u : ℕ = c.args.node.0 in
    let us : List ℕ = list_of c.args.tables.now.nodes u in
    let placed : (k : ℕ) → k < length us → is_this c.own_place-own.result k ≡ is_this c.destination_at.result (slice_index us k) =
    subst (λ (ds : List ℕ). (k : ℕ) → k < length ds → is_this c.own_place-own.result k ≡ is_this c.destination_at.result (slice_index ds k)) c.node_list-list.ensures.list c.own_place-own.ensures in
    record {
      there = c.requires.node;
      own_place = λ k l. placed k l ∙ ap (λ (o : Option ℕ). is_this o (slice_index us k)) c.destination_at.ensures.place;
      gone_wide = (let long : length c.in_ok-gone.gone.items ≡ length c.node_list-list.result.now = search rules in omega (arith, long, ap length c.node_list-list.ensures.list));
      incoming = c.in_ok-ins.ensures.links;
      outgoing = c.in_ok-outs.ensures.links;
      weights = record { wide = c.in_ok-kept.ensures.wide ∙ (ap (λ (q : ℕ). length c.node_list-list.result.now * q) c.out_links.ensures.count ∙ ap (λ (ds : List ℕ). length ds * s.outs u) c.node_list-list.ensures.list); in_force = λ t l m. absurd (omega (arith, m, c.in_ok-kept.ensures.none)) };
    }

pub returns-clause-stands : goal.returns-clause-stands
returns-clause-stands c = λ counts load.
    let s = setting_of c.args.scenario.now in
    let u : ℕ = c.args.node.0 in
    record {
      links = c.in_ok-ins.ensures.stands counts load;
      origin = λ some. left_first s counts u (list_of c.args.tables.now.nodes u) c.in_ok-gone.gone.items load c.requires.node (c.requires.tables.node_order u c.requires.node) (λ i l. let there : i < length c.node_list-list.result.now = omega (arith, l, ap length c.node_list-list.ensures.list) in search (rules, get_or-replicate));
    }

pub returns-clause-still : goal.returns-clause-still
returns-clause-still c = record { gone = c.in_ok-ins.ensures.still; came = c.in_ok-outs.ensures.still }
