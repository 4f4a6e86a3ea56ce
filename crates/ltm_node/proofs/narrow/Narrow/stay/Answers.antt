use Rattle.std.proofs.Common.{rules}
use Rattle.ltm_node.specs.Narrow.{IsNarrow, laid}
use Rattle.ltm_node.proofs.NarrowSteps.{step_still}
use Rattle.ltm_node.proofs.narrow.Narrow.stay.Goals as goal

pub returns : goal.returns
returns c =
    let n = c.args.self.now.inputs.now in
    let s : IsNarrow n.shape = search rules in
    step_still n (laid n.shape c.write_rest.new.counts) s c.requires.elsewhere c.requires.nothing c.write_rest.ensures.after
