use Rattle.std.proofs.Common.{◌≡◌, ℕ, true, false, sym, subst, arith}
use Rattle.ltm_curve.specs.Table.{counts_of}
use Rattle.ltm_node.specs.Uncounted.{uncounted}
use Rattle.ltm_setting.specs.Setting.{setting_of}
use Rattle.ltm_repair.specs.Desk.{Desk, IsSettled}
use Rattle.ltm_working.proofs.Dropping.{at_front, placed_ready, placed_now, indexed_desk, most_wide, work_here}
use Rattle.ltm_working.proofs.table.Table.reread.Goals as goal

pub flows_of-requires-clause-ready : goal.flows_of-requires-clause-ready
flows_of-requires-clause-ready c = at_front (setting_of c.args.scenario.now) c.args.self.now c.args.pair.slot c.requires.ready.ready c.requires.slot c.requires.ready.idle

pub flows_of-requires-clause-room : goal.flows_of-requires-clause-room
flows_of-requires-clause-room c = omega (arith, most_wide (setting_of c.args.scenario.now) c.args.pair.node.0 c.is_setting.ensures.setting c.requires.node, c.requires.room)

pub flows_of-requires-clause-places : goal.flows_of-requires-clause-places
flows_of-requires-clause-places c = omega (arith, c.is_setting.ensures.setting.small.few_ins c.args.pair.node.0 c.requires.node)

pub place_again-requires-clause-places : goal.place_again-requires-clause-places
place_again-requires-clause-places c = omega (arith, c.flows_of.auto.positions, c.is_setting.ensures.setting.small.few_ins c.args.pair.node.0 c.requires.node)

pub returns-clause-ready : goal.returns-clause-ready
returns-clause-ready c = placed_ready (setting_of c.args.scenario.now) c.args.self.now c.args.pair.node.0 c.args.pair.slot c.place_again.new.index c.is_setting.ensures.setting c.requires.ready.ready c.requires.node c.requires.slot c.requires.active c.place_again.ensures

pub returns-clause-desk : goal.returns-clause-desk
returns-clause-desk c = indexed_desk (setting_of c.args.scenario.now) c.args.self.now c.place_again.new.index

pub returns-clause-read : goal.returns-clause-read
returns-clause-read c =
    let s = setting_of c.args.scenario.now in
    let counts = counts_of c.args.self.now.curves in
    let new = record c.args.self.now { index = c.place_again.new.index } in
    let u : ℕ = c.args.pair.node.0 in
    let slot : ℕ = c.args.pair.slot in
    let same = indexed_desk s c.args.self.now c.place_again.new.index in
    let front = at_front s c.args.self.now slot c.requires.ready.ready c.requires.slot c.requires.ready.idle in
    record {
      placed = placed_now s c.args.self.now u slot c.place_again.new.index c.place_again.ensures;
      settled = λ yes. subst (λ (d : Desk). IsSettled s d u slot) (sym same) (c.is_settled-settled.ensures.settled.0 yes);
      work = λ no.
          let read = c.is_settled-settled.ensures.inputs no in
          let off : c.is_settled-settled.result ≡ false = no in
          work_here s new u slot c.is_settled-settled.new.inputs c.requires.node c.requires.slot c.requires.active read
          (c.uncounted_in_range.ensures s counts slot u (uncounted c.is_settled-settled.new.inputs) c.is_setting.ensures.setting front.front c.requires.slot c.requires.node read)
          (λ is. let on : c.is_settled-settled.result ≡ true = c.is_settled-settled.ensures.settled.1 (subst (λ (d : Desk). IsSettled s d u slot) same is) in absurd (cc));
    }
