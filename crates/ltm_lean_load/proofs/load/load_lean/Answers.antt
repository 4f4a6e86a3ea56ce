use Rattle.std.proofs.Common.{List, slice_index_or, arith, subst, sym}
use Rattle.ltm_existence.specs.Existence.{HasLoading}
use Rattle.ltm_loading.specs.Setting.{Setting}
use Rattle.ltm_setting.specs.Setting.{setting_of}
use Rattle.ltm_lean.specs.declared.node.LeanNode.{LeanNode}
use Rattle.ltm_lean.specs.Nodes.{StandsAtNode}
use Rattle.ltm_lean_load.proofs.load.load_lean.Goals as goal

pub all_slots-requires-clause-stands : goal.all_slots-requires-clause-stands
all_slots-requires-clause-stands c counts load u d x =
    subst (λ (ns : List LeanNode). StandsAtNode (setting_of c.args.scenario.now) counts c.in_ok-tables.tables 0 0 (slice_index_or ns u d)) (sym c.deref_mut.ensures.value) (c.in_ok-nodes.ensures.stands counts u d load x)

pub of_totals-requires-clause-moved : goal.of_totals-requires-clause-moved
of_totals-requires-clause-moved c =
    let s : Setting = setting_of c.args.scenario.now in
    let some : HasLoading s = c.there_is_a_loading.ensures s c.is_setting.ensures.setting in
    record {
      counts = some.counts;
      loading = some.loading;
      sums = λ g k x y. c.in_ok-all_slots.ensures.kept some.counts some.loading g k x (omega (arith, y)) y;
    }
