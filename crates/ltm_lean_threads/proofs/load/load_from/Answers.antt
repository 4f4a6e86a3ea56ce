use Rattle.std.proofs.Common.{List, All, slice_index_or, arith, subst, sym}
use Rattle.ltm_existence.specs.Existence.{HasLoading}
use Rattle.ltm_loading.specs.Setting.{Setting}
use Rattle.ltm_setting.specs.Setting.{setting_of}
use Rattle.ltm_lean.specs.declared.node.LeanNode.{LeanNode}
use Rattle.ltm_lean.specs.Nodes.{StandsAtNode}
use Rattle.ltm_lean_threads.specs.declared.parts.Part.{Part}
use Rattle.ltm_lean_threads.specs.Runs.{HasRoom}
use Rattle.ltm_lean_threads.proofs.load.load_from.Goals as goal

pub all_in_threads-requires-clause-room : goal.all_in_threads-requires-clause-room
all_in_threads-requires-clause-room g c κs within =
    subst (λ (ps : List Part). All (HasRoom (setting_of c.args.scenario.now) c.args.tables) ps) (sym c.deref_mut-2.ensures.value) c.in_ok-parts.ensures.room

pub all_in_threads-requires-clause-stands : goal.all_in_threads-requires-clause-stands
all_in_threads-requires-clause-stands g c κs within = λ counts load u d x.
    subst (λ (ns : List LeanNode). StandsAtNode (setting_of c.args.scenario.now) counts c.args.tables 0 0 (slice_index_or ns u d)) (sym c.deref_mut.ensures.value) (c.in_ok-nodes.ensures.stands counts u d load x)

pub of_totals-requires-clause-moved : goal.of_totals-requires-clause-moved
of_totals-requires-clause-moved g c =
    let s : Setting = setting_of c.args.scenario.now in
    let some : HasLoading s = c.there_is_a_loading.ensures s c.is_setting.ensures.setting in
    record {
      counts = some.counts;
      loading = some.loading;
      sums = λ gr k x y. c.in_ok-all_in_threads.ensures.kept some.counts some.loading gr k x (omega (arith, y)) y;
    }
