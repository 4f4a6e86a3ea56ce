use Rattle.std.proofs.Common.{◌≡◌, ◌≤◌, ℕ, subst, sym, arith, rules}
use Rattle.ltm_node.specs.Inputs.{supply}
use Rattle.ltm_node.specs.Narrow.{IsNarrow, laid}
use Rattle.ltm_node.proofs.NarrowSteps.{step_to_out}
use Rattle.ltm_node.proofs.narrow.Narrow.send_many.Goals as goal

pub returns : goal.returns
returns c =
    let n = c.args.self.now.inputs.now in
    let s : IsNarrow n.shape = search rules in
    let total : ℕ = c.write_left-total.result in
    let fits : total ≤ c.can_take-most.result = omega (arith, c.if-total-most.false) in
    λ t. step_to_out n (laid n.shape c.write_rest.new.counts) total s c.requires.elsewhere (c.write_left-total.ensures.total fits)
    (λ j l.
    let only : j ≡ 0 = omega (arith, c.requires.out) in
    subst (λ (z : ℕ). total ≤ supply n z) (sym only) (omega (arith, c.can_take-most.ensures)))
    c.write_rest.ensures.after
