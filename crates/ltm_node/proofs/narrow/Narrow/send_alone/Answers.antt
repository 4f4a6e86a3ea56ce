use Rattle.std.proofs.Common.{arith, rules}
use Rattle.ltm_node.specs.Narrow.{IsNarrow, laid}
use Rattle.ltm_node.proofs.NarrowSteps.{step_alone}
use Rattle.ltm_node.proofs.narrow.Narrow.send_alone.Goals as goal

pub returns : goal.returns
returns c =
    let n = c.args.self.now.inputs.now in
    let s : IsNarrow n.shape = search rules in
    step_alone n (laid n.shape c.shift.new.counts) c.min.result s c.requires.arm c.requires.out c.requires.elsewhere c.requires.all
    (omega (arith, c.min.ensures, c.sending-amount.ensures, c.can_take-most.ensures)) c.shift.ensures.after
