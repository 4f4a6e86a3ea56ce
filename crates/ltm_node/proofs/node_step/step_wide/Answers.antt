use Rattle.std.proofs.Common.{refl, sym, ◌∙◌}
use Rattle.ltm_node.specs.Demands.{part}
use Rattle.ltm_node.specs.declared.portion.Portion.TheVariants.{Whole}
use Rattle.ltm_node.specs.Portion.{numerator}
use Rattle.ltm_node.proofs.Moved.{all_of, moved_whole}
use Rattle.ltm_node.proofs.Whole.{all_step, sent_held}
use Rattle.ltm_node.proofs.node_step.step_wide.Goals as goal

pub advance-requires-clause-begun : goal.advance-requires-clause-begun
advance-requires-clause-begun c =
    let n = c.args.inputs.now in
    λ i j il jl. record {
      by_part = λ arm d out l. moved_whole n (numerator Whole) arm d out refl l ∙ sym (all_of (part n arm d out));
      total = c.nothing-sent.ensures i j;
    }

pub add_up-totals-requires-clause-sent : goal.add_up-totals-requires-clause-sent
add_up-totals-requires-clause-sent c = sent_held c.args.inputs.now c.advance.new.self.row c.advance.new.tally c.advance.ensures.after

pub step_short-requires-clause-sent : goal.step_short-requires-clause-sent
step_short-requires-clause-sent c = sent_held c.args.inputs.now c.advance.new.self.row c.advance.new.tally c.advance.ensures.after

pub returns-then-fits_supply-clause-step : goal.returns-then-fits_supply-clause-step
returns-then-fits_supply-clause-step c =
    all_step c.args.inputs.now c.advance.new.self c.advance.new.tally c.requires.solvable.few_arms c.advance.ensures.shape c.advance.ensures.after (c.fits_supply.ensures c.if-fits_supply.true)
