use Rattle.std.proofs.Common.{ℕ, refl, subst, arith}
use Rattle.std.specs.Prelude.{Option}
use Rattle.ltm_index.specs.Lists.{list_of}
use Rattle.ltm_index.specs.Chains.{behind}
use Rattle.ltm_working.proofs.Listing.{Marked, marked_none, marked_next, marked_all}
use Rattle.ltm_working.proofs.marking.mark_list.Goals as goal

pub loop-at-init : goal.loop-at-init
loop-at-init c = record {
  stands = c.next_reader-at.ensures.stands;
  within = c.next_reader-at.ensures.within;
  marked = marked_none c.args.frontier.now c.args.node.0 c.args.from (list_of c.args.index.now c.args.link.0 c.args.boundary) c.next_reader-at.result c.next_reader-at.ensures.left;
}

pub loop-at-preserved : goal.loop-at-preserved
loop-at-preserved c =
    let all = list_of c.args.index.now c.args.link.0 c.args.boundary in
    record {
      stands = c.next_reader-at-in-Some.ensures.stands;
      within = c.next_reader-at-in-Some.ensures.within;
      marked = marked_next c.args.frontier.now c.loop-at.frontier c.mark_not_before.new.frontier c.args.node.0 c.args.from all (behind c.in-Some.slot all) c.in-Some.slot c.next_reader-at-in-Some.result
          (subst (λ (o : Option ℕ). Marked c.args.frontier.now c.loop-at.frontier c.args.node.0 c.args.from all o) c.in-Some.is c.loop-at.invariant.marked)
          c.mark_not_before.ensures refl c.next_reader-at-in-Some.ensures.left;
    }

pub returns : goal.returns
returns c =
    let all = list_of c.args.index.now c.args.link.0 c.args.boundary in
    marked_all c.args.frontier.now c.loop-at.frontier c.args.index.now c.args.node.0 c.args.from c.args.link.0 c.args.boundary c.slots_stand_by_entry.ensures.stands c.requires.link (omega arith)
    (subst (λ (o : Option ℕ). Marked c.args.frontier.now c.loop-at.frontier c.args.node.0 c.args.from all o) c.in_default.is c.loop-at.invariant.marked)
