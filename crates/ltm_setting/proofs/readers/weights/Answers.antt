use Rattle.std.proofs.Common.{◌≡◌, ◌∙◌, ap, sym, subst, List, ℕ, length, Some, None}
use Rattle.std.specs.Prelude.{IfSome}
use Rattle.std.specs.Option.{option_copied}
use Rattle.ltm_network.specs.Network.{out_links}
use Rattle.ltm_splits.specs.Rows.{row_in_force, SplitsData}
use Rattle.ltm_setting.specs.Setting.{setting_of}
use Rattle.ltm_setting.proofs.InForce.{weight_for_each}
use Rattle.ltm_setting.proofs.readers.weights.Goals as goal

pub returns-clause-count : goal.returns-clause-count
unfolding setting_of
returns-clause-count c =
    let s = c.args.scenario.now in
    let n = c.args.node.0 in
    let d' = c.args.destination in
    let t = c.args.slot in
    let W : List ℕ → Type 0 = λ w. length w ≡ length (out_links s.network n) in
    elim c.weights_at.result as (λ r. option_copied r ≡ row_in_force s.splits n d' t → IfSome r (λ w. W w.now)) [
      | None ↦ λ e. tt
      | Some w ↦ λ e. subst (λ o. IfSome o W) (sym e) (weight_for_each s n d' t c.setup-setup.ensures.scenario.splits)
    ] (c.weights_at.ensures ∙ ap (λ (d : SplitsData). row_in_force d.rows n d' t) c.splits.ensures)
