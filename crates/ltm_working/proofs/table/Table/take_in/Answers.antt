use Rattle.std.proofs.Common.{ℕ, nat_le, subst}
use Rattle.ltm_frontier.specs.Frontier.{Activates}
use Rattle.ltm_working.specs.Growing.{Lengthens}
use Rattle.ltm_working.proofs.Batching.{takes_batch}
use Rattle.ltm_working.proofs.table.Table.take_in.Goals as goal

pub returns : goal.returns
returns c = λ before leads ready.
    takes_batch before c.args.scenario.now c.args.edits.now c.args.self.now c.lengthen.new.self c.void_all.new.self c.mark_touched.new.frontier c.mark_from.new.frontier c.mark_touched.new.kept (record {
      setting = c.is_setting.ensures.setting;
      leads = leads;
      ready = ready;
      grows = subst (λ (n : ℕ). Lengthens c.args.self.now c.lengthen.new.self n) c.slot_count.ensures.value c.lengthen.ensures;
      voids = c.void_all.ensures;
      marks = c.mark_touched.ensures.marks;
      unweighs = c.mark_touched.ensures.weights;
      news = subst (λ (n : ℕ). Activates c.mark_touched.new.frontier c.mark_from.new.frontier (λ u v. nat_le n v)) c.slots-before.ensures c.mark_from.ensures;
    })
