use Rattle.std.proofs.Common.{rules, ◌≡◌, ◌≤◌, ◌⊎◌, arith}
use Rattle.ltm_setting.specs.Setting.{setting_of}
use Rattle.ltm_lean_make.specs.Widest.{listed_width}
use Rattle.ltm_lean_make.proofs.Widening.{widest_more}
use Rattle.ltm_lean_make.proofs.widest.widest_listed.Goals as goal

pub loop-node-preserved : goal.loop-node-preserved
loop-node-preserved c =
    let first : c.loop-node.widest ≤ c.max-widest.result = search rules in
    let second : c.width_at.result ≤ c.max-widest.result = search rules in
    let either : (c.max-widest.result ≡ c.loop-node.widest) ⊎ (c.max-widest.result ≡ c.width_at.result) = search rules in
    record {
      widest = widest_more (setting_of c.args.scenario.now) c.args.tables.now c.loop-node.node c.loop-node.widest c.width_at.result c.max-widest.result c.loop-node.invariant.widest c.width_at.ensures.width first second either;
      small = search rules;
    }

pub returns-clause-inputs : goal.returns-clause-inputs
returns-clause-inputs c = λ u own l. c.loop-node.invariant.widest.each u (omega (arith, l, c.loop-node-test.false))

pub returns-clause-outputs : goal.returns-clause-outputs
returns-clause-outputs c = λ u own l.
    let within : listed_width (setting_of c.args.scenario.now) c.args.tables.now u ≤ c.loop-node.widest = c.loop-node.invariant.widest.each u (omega (arith, l, c.loop-node-test.false)) in omega (arith, within)

pub returns-clause-outs : goal.returns-clause-outs
returns-clause-outs c = λ u l.
    let within : listed_width (setting_of c.args.scenario.now) c.args.tables.now u ≤ c.loop-node.widest = c.loop-node.invariant.widest.each u (omega (arith, l, c.loop-node-test.false)) in omega (arith, within)
