use Rattle.std.proofs.Common.{◌≡◌, ◌<◌, ℕ, List, Bool, true, false, ap, sym, refl, ◌∙◌}
use Rattle.std.specs.Prelude.{Some}
use Rattle.ltm_curve.specs.Table.{counts_of}
use Rattle.ltm_loading.specs.Setting.{Setting}
use Rattle.ltm_loading.specs.Pairs.{pair_row}
use Rattle.ltm_node.specs.Uncounted.{uncounted}
use Rattle.ltm_loading.specs.Uncounted.{IsUncountedPair}
use Rattle.ltm_setting.specs.Setting.{setting_of}
use Rattle.ltm_inputs.specs.Parts.{weights_part}
use Rattle.ltm_rows.specs.declared.layout.Part.TheVariants.{Amounts, Weights}
use Rattle.ltm_rows.specs.Starts.{part_width}
use Rattle.ltm_rows.specs.Parts.{amounts_in, row_of_parts}
use Rattle.ltm_rows.specs.Rows.{weights_of, is_weighed}
use Rattle.ltm_working.specs.declared.table.Table.{Table}
use Rattle.ltm_working.specs.Ready.{IsReady}
use Rattle.ltm_working.specs.Desks.{row_without_counts}
use Rattle.ltm_working.proofs.Keeping.{parts_are, kept_uncounted}
use Rattle.ltm_working.proofs.Weighing.{amounts_part, flows_amounts, kept_amounts, amounts_kept}
use Rattle.ltm_working.proofs.Dropping.{settled_row}
use Rattle.ltm_working.proofs.table.Table.is_settled.Goals as goal

pub returns-then-not-is_weighed-clause-settled : goal.returns-then-not-is_weighed-clause-settled
returns-then-not-is_weighed-clause-settled c =
    let s = setting_of c.args.scenario.now in
    let counts = counts_of c.args.self.now.curves in
    let u : ℕ = c.args.pair.node.0 in
    let settled = settled_row s c.args.self.now u c.args.pair.slot c.requires.ready.fits.kept c.requires.node c.requires.slot in
    let read : IsUncountedPair s counts u c.args.pair.slot (uncounted c.weigh.new.into) = c.weigh.ensures.inputs counts c.requires.flows in
    let row : row_of_parts c.parts_of.result ≡ row_without_counts s u (pair_row s counts u c.args.pair.slot) =
    parts_are s u c.weigh.new.into _ read.shape c.parts_of.ensures.row ∙ kept_uncounted s counts u c.args.pair.slot c.weigh.new.into read in
    (λ yes. settled.1 (c.keeps.ensures.0 yes ∙ ap (λ (z : List ℕ). Some z) row), λ is. c.keeps.ensures.1 (settled.0 is ∙ ap (λ (z : List ℕ). Some z) (sym row)))

pub keeps_amounts-requires-clause-amounts : goal.keeps_amounts-requires-clause-amounts
keeps_amounts-requires-clause-amounts c = c.parts_of-2.ensures.amounts ∙ (ap (part_width Amounts) c.requires.flows.shape ∙ sym (c.requires.ready.fits.kept.amounts.widths c.args.pair.node.0 c.requires.node))

-- the weights that stand are those of the pair
current : (s : Setting) (t : Table) (u v : ℕ) (weighed : Bool) → IsReady s t → u < s.nodes → v < s.slots → weighed ≡ is_weighed t.kept u v → weighed ≡ true → weights_of t.kept u v ≡ weights_part s u v
current s t u v weighed ready x l told on = ready.weights u v x l (sym told ∙ on)

pub returns-then-keeps_amounts-clause-settled : goal.returns-then-keeps_amounts-clause-settled
returns-then-keeps_amounts-clause-settled c =
    let s = setting_of c.args.scenario.now in
    let counts = counts_of c.args.self.now.curves in
    let u : ℕ = c.args.pair.node.0 in
    let same = c.keeps_amounts.ensures.0 c.if-keeps_amounts.true in
    let weights = current s c.args.self.now u c.args.pair.slot c.is_weighed.result c.requires.ready c.requires.node c.requires.slot c.is_weighed.ensures c.if-not-is_weighed.false in
    let amounts : amounts_in c.parts_of-2.result ≡ amounts_part s counts u c.args.pair.slot =
    flows_amounts s counts u c.args.pair.slot c.args.inputs.now c.parts_of-2.result.sends.now c.parts_of-2.result.limits.now c.requires.flows c.parts_of-2.ensures.sends c.parts_of-2.ensures.limits in (
      λ yes. (settled_row s c.args.self.now c.args.pair.node.0 c.args.pair.slot c.requires.ready.fits.kept c.requires.node c.requires.slot).1
          (kept_amounts s c.args.self.now.kept (counts_of c.args.self.now.curves) c.args.pair.node.0 c.args.pair.slot (amounts_in c.parts_of-2.result) weights amounts same.0 same.1),
      λ is. refl,
    )

pub weigh_as-requires : goal.weigh_as-requires
weigh_as-requires c = c.weights.ensures.width ∙ (c.requires.ready.fits.kept.weights.widths c.args.pair.node.0 c.requires.node ∙ sym (ap (part_width Weights) c.requires.flows.shape))

pub returns-clause-settled : goal.returns-clause-settled
returns-clause-settled c =
    let s = setting_of c.args.scenario.now in
    let counts = counts_of c.args.self.now.curves in
    let u : ℕ = c.args.pair.node.0 in
    let amounts : amounts_in c.parts_of-2.result ≡ amounts_part s counts u c.args.pair.slot =
    flows_amounts s counts u c.args.pair.slot c.args.inputs.now c.parts_of-2.result.sends.now c.parts_of-2.result.limits.now c.requires.flows c.parts_of-2.ensures.sends c.parts_of-2.ensures.limits in (
      λ yes. absurd (cc),
      λ is.
          let same = (settled_row s c.args.self.now c.args.pair.node.0 c.args.pair.slot c.requires.ready.fits.kept c.requires.node c.requires.slot).0 is in
          let on : c.keeps_amounts.result ≡ true =
          c.keeps_amounts.ensures.1 (amounts_kept s c.args.self.now.kept (counts_of c.args.self.now.curves) c.args.pair.node.0 c.args.pair.slot (amounts_in c.parts_of-2.result) c.requires.ready.fits.kept c.requires.node c.requires.slot amounts same) in
          let off : c.keeps_amounts.result ≡ false = c.if-keeps_amounts.false in
          absurd (cc),
    )

pub returns-clause-inputs : goal.returns-clause-inputs
returns-clause-inputs c = λ no.
    let s = setting_of c.args.scenario.now in
    let weights = current s c.args.self.now c.args.pair.node.0 c.args.pair.slot c.is_weighed.result c.requires.ready c.requires.node c.requires.slot c.is_weighed.ensures c.if-not-is_weighed.false in
    c.weigh_as.ensures.inputs s (counts_of c.args.self.now.curves) c.args.pair.node.0 c.args.pair.slot c.requires.flows (c.weights.ensures.row ∙ weights)
