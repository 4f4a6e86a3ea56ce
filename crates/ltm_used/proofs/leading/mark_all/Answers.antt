use Rattle.std.proofs.Common.{◌≡◌, All, refl, sym, ap, subst, ◌∙◌}
use Rattle.std.proofs.lemmas.List.Elements.{All-head, All-rest, All-cons}
use Rattle.ltm_splits.specs.Rows.{SplitRow, SplitsData}
use Rattle.ltm_scenario.specs.Data.{ScenarioData}
use Rattle.ltm_scenario.specs.IsScenario.{IsSplitOf}
use Rattle.ltm_setting.specs.Setting.{setting_of}
use Rattle.ltm_used.specs.Leading.{KeepsMarks, IsMarked, AreAllMarked}
use Rattle.ltm_used.proofs.Marking.{keeps_more, marked_on}
use Rattle.ltm_used.proofs.leading.mark_all.Goals as goal

pub rows-init : goal.rows-init
rows-init c =
    let s : ScenarioData = c.args.scenario.now in
    let all : c.rows-rows.result ≡ s.splits = c.rows-rows.ensures.rows ∙ ap (λ (d : SplitsData). d.rows) c.splits.ensures in
    record {
      long = refl;
      all = subst (All (IsSplitOf s)) (sym all) c.setup-setup.ensures.scenario.splits;
      seen = λ later keeps h. subst (AreAllMarked (setting_of s) later) all h;
    }

pub rows-preserved : goal.rows-preserved
rows-preserved c =
    let s : ScenarioData = c.args.scenario.now in
    let row : SplitRow = (c.in-Some.key, c.in-Some.weights.now) in
    let keeps : KeepsMarks c.rows.goes c.mark_row.new.goes = c.mark_row.ensures.keeps in
    record {
      long = keeps.long ∙ c.rows.invariant.long;
      all = All-rest (IsSplitOf s) _ c.next.new.self c.rows.rows c.in-Some.ensures.steps c.rows.invariant.all;
      seen = λ later more h.
          c.rows.invariant.seen later (keeps_more c.rows.goes c.mark_row.new.goes later keeps more)
          (subst (AreAllMarked (setting_of s) later) (sym c.in-Some.ensures.steps)
          (All-cons (IsMarked (setting_of s) later) (c.in-Some.key, c.in-Some.weights.now) c.next.new.self
          (marked_on (setting_of s) c.mark_row.new.goes later (c.in-Some.key, c.in-Some.weights.now) more c.mark_row.ensures.marks) h));
    }

pub mark_row-requires-clause-node : goal.mark_row-requires-clause-node
unfolding setting_of
mark_row-requires-clause-node c =
    let s : ScenarioData = c.args.scenario.now in
    let one : IsSplitOf s (c.in-Some.key, c.in-Some.weights.now) = All-head (IsSplitOf s) (c.in-Some.key, c.in-Some.weights.now) c.next.new.self (subst (All (IsSplitOf s)) c.in-Some.ensures.steps c.rows.invariant.all) in
    one.node_is_node

pub mark_row-requires-clause-destination : goal.mark_row-requires-clause-destination
unfolding setting_of
mark_row-requires-clause-destination c =
    let s : ScenarioData = c.args.scenario.now in
    let one : IsSplitOf s (c.in-Some.key, c.in-Some.weights.now) = All-head (IsSplitOf s) (c.in-Some.key, c.in-Some.weights.now) c.next.new.self (subst (All (IsSplitOf s)) c.in-Some.ensures.steps c.rows.invariant.all) in
    one.destination_is_one

pub mark_row-requires-clause-weights : goal.mark_row-requires-clause-weights
unfolding setting_of
mark_row-requires-clause-weights c =
    let s : ScenarioData = c.args.scenario.now in
    let one : IsSplitOf s (c.in-Some.key, c.in-Some.weights.now) = All-head (IsSplitOf s) (c.in-Some.key, c.in-Some.weights.now) c.next.new.self (subst (All (IsSplitOf s)) c.in-Some.ensures.steps c.rows.invariant.all) in
    one.weight_for_each
