use Rattle.std.proofs.Common.{◌≡◌, ℕ, ◌<◌, ap, sym, ◌∙◌, subst, arith}
use Rattle.ltm_loading.specs.Setting.{Setting}
use Rattle.ltm_setting.specs.Setting.{setting_of}
use Rattle.ltm_frontier.specs.Frontier.{is_active}
use Rattle.ltm_repair.specs.Desk.{Desk}
use Rattle.ltm_repair.proofs.Keeps.{drop_idle_before}
use Rattle.ltm_working.specs.declared.table.Table.{Table}
use Rattle.ltm_working.specs.Desks.{desk_at}
use Rattle.ltm_working.specs.Dropping.{DropsOne, DropsAt}
use Rattle.ltm_working.proofs.Dropping.{drops_more, none_more, none_left, same_trans, seen_trans}
use Rattle.ltm_working.proofs.table.Table.find_at.Goals as goal

pub returns-in_default-clause-found : goal.returns-in_default-clause-found
returns-in_default-clause-found c =
    none_left (setting_of c.args.scenario.now) c.loop-from.self c.args.slot c.loop-from.from.0 (setting_of c.args.scenario.now).nodes c.requires.slot (sym c.node_count-nodes.ensures.value ∙ c.node_count-nodes.ensures.value)
    c.loop-from.invariant.none c.in_default.ensures (sym c.loop-from.invariant.ready.fits.frontier.nodes)

pub reread-requires-clause-ready : goal.reread-requires-clause-ready
reread-requires-clause-ready c =
    let s = setting_of c.args.scenario.now in
    record { ready = c.loop-from.invariant.ready; idle = drop_idle_before s (desk_at s c.args.self.now) (desk_at s c.loop-from.self) c.args.slot c.loop-from.invariant.drops.drops c.requires.ready.idle }

-- where the desk is the same, so is what was dropped
seen : (s : Setting) (d m e : Desk) (slot : ℕ) → e ≡ m → DropsAt s d slot m → DropsAt s d slot e
seen s d m e slot same drops = subst (λ (z : Desk). DropsAt s d slot z) (sym same) drops

pub returns-then-not-reread-clause-drops : goal.returns-then-not-reread-clause-drops
returns-then-not-reread-clause-drops c =
    seen (setting_of c.args.scenario.now) (desk_at (setting_of c.args.scenario.now) c.args.self.now) (desk_at (setting_of c.args.scenario.now) c.loop-from.self) (desk_at (setting_of c.args.scenario.now) c.reread.new.self) c.args.slot c.reread.ensures.desk c.loop-from.invariant.drops

pub returns-then-not-reread-clause-found : goal.returns-then-not-reread-clause-found
returns-then-not-reread-clause-found c = record { work = c.reread.ensures.read.work c.if-not-reread.true; placed = c.reread.ensures.read.placed }

pub returns-then-not-reread-clause-same : goal.returns-then-not-reread-clause-same
returns-then-not-reread-clause-same c = seen_trans c.args.self.now c.loop-from.self c.reread.new.self c.loop-from.invariant.same c.reread.ensures.same

pub drop_settled-requires-clause-ready : goal.drop_settled-requires-clause-ready
drop_settled-requires-clause-ready c =
    let s = setting_of c.args.scenario.now in
    record { ready = c.reread.ensures.ready; idle = drop_idle_before s (desk_at s c.args.self.now) (desk_at s c.reread.new.self) c.args.slot (seen s (desk_at s c.args.self.now) (desk_at s c.loop-from.self) (desk_at s c.reread.new.self) c.args.slot c.reread.ensures.desk c.loop-from.invariant.drops).drops c.requires.ready.idle }

pub drop_settled-requires-clause-active : goal.drop_settled-requires-clause-active
drop_settled-requires-clause-active c =
    ap (λ (z : Table). is_active z.frontier c.in-Some.node.0 c.args.slot) c.reread.ensures.same ∙ c.in-Some.ensures.active

pub drop_settled-requires-clause-settled : goal.drop_settled-requires-clause-settled
drop_settled-requires-clause-settled c = c.reread.ensures.read.settled c.if-not-reread.false

pub loop-from-preserved : goal.loop-from-preserved
loop-from-preserved c =
    let s = setting_of c.args.scenario.now in
    let u : ℕ = c.in-Some.node.0 in
    let x : u < s.nodes = omega (arith, c.in-Some.ensures.is_node, c.loop-from.invariant.ready.fits.frontier.nodes) in
    record {
      ready = c.drop_settled.ensures.ready;
      drops = drops_more s (desk_at s c.args.self.now) (desk_at s c.reread.new.self) (desk_at s c.drop_settled.new.self) c.args.slot u (seen s (desk_at s c.args.self.now) (desk_at s c.loop-from.self) (desk_at s c.reread.new.self) c.args.slot c.reread.ensures.desk c.loop-from.invariant.drops) c.drop_settled.ensures.drops;
      same = same_trans c.args.self.now c.reread.new.self c.drop_settled.new.self (seen_trans c.args.self.now c.loop-from.self c.reread.new.self c.loop-from.invariant.same c.reread.ensures.same) c.drop_settled.ensures.same;
      none = none_more s c.loop-from.self (desk_at s c.drop_settled.new.self) c.args.slot c.loop-from.from.0 u c.loop-from.invariant.ready c.requires.slot x c.loop-from.invariant.none c.in-Some.ensures
          (subst (λ (d : Desk). DropsOne s d u c.args.slot (desk_at s c.drop_settled.new.self)) c.reread.ensures.desk c.drop_settled.ensures.drops);
      room = c.reread.ensures.room ∙ c.loop-from.invariant.room;
    }
