use Rattle.std.proofs.Common.{◌≡◌, ◌==◌, ℕ, List, false, sum, map, ap, subst, sym, ◌∙◌}
use Rattle.ltm_network.specs.Network.{NetworkData, head_of, out_links}
use Rattle.ltm_scenario.specs.Data.{ScenarioData}
use Rattle.ltm_make.specs.declared.branches.Way.{Way}
use Rattle.ltm_make.specs.declared.making.Making.{Making}
use Rattle.ltm_make.specs.Branches.{number, weight_to}
use Rattle.ltm_make.specs.Splits.{way_of}
use Rattle.ltm_make.proofs.Weighing.{some_weight}
use Rattle.ltm_make.proofs.making.Making.add_split.Goals as goal
use Rattle.ltm_make.proofs.making.Making.add_split.Goals.{in-Some+in_ok-draw_way-in-Some, in-None}

pub put_row-requires-clause-some : goal.put_row-requires-clause-some
put_row-requires-clause-some c =
    let d : NetworkData = c.args.self.now.scenario.network in
    let kept : c.match-branches.self.scenario ≡ c.args.self.now.scenario = elim c.match-branches.branch [
      | in-Some+in_ok-draw_way-in-Some w ↦ ap (λ (m : Making). m.scenario) w.self-is ∙ (w.in_ok-draw_way-in-Some.ensures.scenario ∙ c.in_ok-first.ensures.scenario)
      | in-None w ↦ ap (λ (m : Making). m.scenario) w.self-is ∙ c.in_ok-first.ensures.scenario
    ] in
    let net : c.network-2.result.now ≡ c.args.self.now.scenario.network = c.network-2.ensures ∙ ap (λ (s : ScenarioData). s.network) kept in
    let W : NetworkData → ℕ → Way → List ℕ = λ n u first. map (λ link. weight_to first c.match-branches.second (head_of n link)) (out_links n u) in
    let items : c.as_slice.result.now ≡ W d (number d c.args.node) (way_of d c.args.branches.0 c.args.self.now.words) =
    c.as_slice.ensures.value
    ∙ (c.in_ok-weights.ensures
    ∙ (ap (λ (n : NetworkData). W n c.in_ok-at.at.0 c.in_ok-first.first) net
    ∙ (ap (λ (u : ℕ). W c.args.self.now.scenario.network u c.in_ok-first.first) (c.in_ok-at.ensures.number ∙ ap (λ (n : NetworkData). number n c.args.node) c.network.ensures)
    ∙ ap (λ (first : Way). W c.args.self.now.scenario.network (number c.args.self.now.scenario.network c.args.node) first) c.in_ok-first.ensures.way))) in
    subst (λ (xs : List ℕ). (sum xs == 0) ≡ false) (sym items)
    (some_weight c.args.self.now.scenario.network c.args.node c.args.branches.0 c.args.self.now.words c.match-branches.second c.requires.branches.leads c.requires.branches.some)
