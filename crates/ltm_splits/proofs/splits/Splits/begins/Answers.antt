use Rattle.std.proofs.Common.{sym, ap, ◌∙◌, List}
use Rattle.std.specs.Option.{option_map}
use Rattle.std.specs.List.{slice_get}
use Rattle.ltm_splits.specs.Rows.{SplitsData, begins}
use Rattle.ltm_splits.specs.Table.{Entry}
use Rattle.ltm_splits.proofs.Pairs.{begins_all}
use Rattle.ltm_splits.proofs.splits.Splits.begins.Goals as goal

pub returns-in-Some : goal.returns-in-Some
returns-in-Some c =
    c.begins.ensures ∙ ap (λ (es : List Entry). option_map (λ e. e.0) (slice_get es 0)) c.in-Some.ensures
    ∙ sym (begins_all c.args.node.0 c.args.destination c.self.inside.table)
    ∙ ap (λ (v : SplitsData). begins v.rows c.args.node.0 c.args.destination) c.self.view_is

pub returns-in-None : goal.returns-in-None
returns-in-None c =
    ap (λ (es : List Entry). option_map (λ e. e.0) (slice_get es 0)) c.in-None.ensures
    ∙ sym (begins_all c.args.node.0 c.args.destination c.self.inside.table)
    ∙ ap (λ (v : SplitsData). begins v.rows c.args.node.0 c.args.destination) c.self.view_is
