use Rattle.std.proofs.Common.{rules}
use Rattle.ltm_node.specs.Narrow.{IsNarrow, laid}
use Rattle.ltm_node.proofs.NarrowSteps.{step_to_sink}
use Rattle.ltm_node.proofs.narrow.Narrow.sink.Goals as goal

pub returns : goal.returns
returns c =
    let n = c.args.self.now.inputs.now in
    let s : IsNarrow n.shape = search rules in
    step_to_sink n (laid n.shape c.write_rest.new.counts) c.write_left-total.result s c.requires.own (c.write_left-total.ensures.total c.write_left-total.ensures.small) c.write_rest.ensures.after
