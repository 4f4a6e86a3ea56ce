use Rattle.std.proofs.Common.{◌≡◌, ◌||◌, All, refl, sym, ap, subst, ◌∙◌, arith}
use Rattle.std.proofs.lemmas.List.Elements.{All-head, All-rest}
use Rattle.ltm_marks.specs.Marks.{is_marked}
use Rattle.ltm_splits.specs.Rows.{SplitsData}
use Rattle.ltm_scenario.specs.Data.{ScenarioData}
use Rattle.ltm_scenario.specs.IsScenario.{IsSplitOf}
use Rattle.ltm_setting.specs.Setting.{setting_of}
use Rattle.ltm_rows.specs.Begins.{key_begins, row_begins}
use Rattle.ltm_rows.proofs.Begun.{either_way}
use Rattle.ltm_rows.proofs.begins.mark_all.Goals as goal

pub rows-init : goal.rows-init
rows-init c =
    let s : ScenarioData = c.args.scenario.now in
    let all : c.rows-rows.result ≡ s.splits = c.rows-rows.ensures.rows ∙ ap (λ (d : SplitsData). d.rows) c.splits.ensures in
    record {
      width = refl;
      slots = refl;
      all = subst (All (IsSplitOf s)) (sym all) c.setup-setup.ensures.scenario.splits;
      seen = λ u t l m. ap (λ rows. row_begins rows u t || is_marked c.args.marks.now u t) all;
    }

pub rows-preserved : goal.rows-preserved
rows-preserved c =
    let s : ScenarioData = c.args.scenario.now in
    record {
      width = c.mark_begin.ensures.width ∙ c.rows.invariant.width;
      slots = c.mark_begin.ensures.rows ∙ c.rows.invariant.slots;
      all = All-rest (IsSplitOf s) _ c.next.new.self c.rows.rows c.in-Some.ensures.steps c.rows.invariant.all;
      seen = λ u t l m.
          ap (λ z. row_begins c.next.new.self u t || z) (c.mark_begin.ensures.marks u t (omega (arith, l, c.rows.invariant.width)) (omega (arith, m, c.rows.invariant.slots)))
          ∙ (either_way (row_begins c.next.new.self u t) (key_begins c.in-Some.key u t) (is_marked c.rows.marks u t)
          ∙ (sym (ap (λ rows. row_begins rows u t || is_marked c.rows.marks u t) c.in-Some.ensures.steps) ∙ c.rows.invariant.seen u t l m));
    }

pub mark_begin-requires : goal.mark_begin-requires
unfolding setting_of
mark_begin-requires c =
    let s : ScenarioData = c.args.scenario.now in
    let one : IsSplitOf s (c.in-Some.key, c.in-Some._weights.now) = All-head (IsSplitOf s) (c.in-Some.key, c.in-Some._weights.now) c.next.new.self (subst (All (IsSplitOf s)) c.in-Some.ensures.steps c.rows.invariant.all) in
    omega (arith, one.node_is_node, c.rows.invariant.width, c.requires)
