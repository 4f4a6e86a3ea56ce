use Rattle.std.proofs.Common.{ℕ, ◌+◌, List, ap, refl, sym, ◌∙◌, subst, arith}
use Rattle.ltm_node.specs.declared.shape.NodeShape.{NodeShape}
use Rattle.ltm_setting.specs.Setting.{setting_of}
use Rattle.ltm_rows.specs.declared.layout.Part.TheVariants.{Amounts, Weights}
use Rattle.ltm_rows.specs.Parts.{without_counts}
use Rattle.ltm_rows.specs.Starts.{part_width}
use Rattle.ltm_rows.specs.Rows.{PutsRow}
use Rattle.ltm_working.proofs.Weighing.{weighed_forget, inputs_parts}
use Rattle.ltm_working.proofs.table.Table.settle.Goals as goal

pub keep-requires-clause-node : goal.keep-requires-clause-node
keep-requires-clause-node c = omega (arith, c.requires.renewal.node, c.renew_pair.ensures.fits.kept.amounts.nodes)

pub keep-requires-clause-slot : goal.keep-requires-clause-slot
keep-requires-clause-slot c = omega (arith, c.requires.renewal.slot, c.renew_pair.ensures.fits.kept.same_slots)

pub keep-requires-clause-amounts : goal.keep-requires-clause-amounts
keep-requires-clause-amounts c = ap (part_width Amounts) c.requires.inputs.shape ∙ sym (c.renew_pair.ensures.fits.kept.amounts.widths c.args.renewal.pair.node.0 c.requires.renewal.node)

pub keep-requires-clause-weights : goal.keep-requires-clause-weights
keep-requires-clause-weights c = ap (part_width Weights) c.requires.inputs.shape ∙ sym (c.renew_pair.ensures.fits.kept.weights.widths c.args.renewal.pair.node.0 c.requires.renewal.node)

pub keep-requires-clause-weighed : goal.keep-requires-clause-weighed
keep-requires-clause-weighed c = λ on.
    let s = setting_of c.args.renewal.scenario.now in
    weighed_forget s _ c.args.self.now.kept c.renew_pair.new.self.kept c.args.renewal.pair.node.0 (c.args.renewal.pair.slot + 1) c.requires.renewal.fits.kept c.requires.weights c.renew_pair.ensures.kept
    c.args.renewal.pair.node.0 c.args.renewal.pair.slot c.requires.renewal.node c.requires.renewal.slot on
    ∙ sym (inputs_parts s _ c.args.renewal.pair.node.0 c.args.renewal.pair.slot c.args.inputs.now c.requires.inputs).1

pub release-requires-clause-claimed : goal.release-requires-clause-claimed
release-requires-clause-claimed c = c.renew_pair.ensures.wakes.claims.pairs c.args.renewal.pair.node.0 c.args.renewal.pair.slot ∙ c.requires.claimed

pub returns : goal.returns
returns c = record {
  between = c.renew_pair.new.self;
  renews = c.renew_pair.ensures;
  puts = subst (λ (z : List ℕ). PutsRow c.renew_pair.new.self.kept c.keep.new.kept c.args.renewal.pair.node.0 c.args.renewal.pair.slot z)
      (ap (λ (z : NodeShape). without_counts z c.args.inputs.now.row) c.requires.inputs.shape) c.keep.ensures;
  frees = c.release.ensures;
  same = refl;
}
