use Rattle.std.proofs.Common.{sym}
use Rattle.ltm_workers.proofs.Turning.{gave_act, committed_act, commit_spares_hand}
use Rattle.ltm_workers.proofs.virtual_turns.act_with.Goals as goal

pub returns-then-gives_back-clause-act : goal.returns-then-gives_back-clause-act
returns-then-gives_back-clause-act c = gave_act c.args.byte c.args.core.now c.give_up.new.core c.args.hand c.in-Holds.claim c.in-Holds.is (sym c.if-gives_back.ensures) c.give_up.ensures.emptied

pub returns-in-Holds-clause-act : goal.returns-in-Holds-clause-act
returns-in-Holds-clause-act c = committed_act c.args.byte c.args.core.now c.finish.new.core c.args.hand c.in-Holds.claim c.in-Holds.is (sym c.if-gives_back.ensures) c.finish.ensures.commits

pub returns-in-Holds-clause-spares : goal.returns-in-Holds-clause-spares
returns-in-Holds-clause-spares c = commit_spares_hand c.args.core.now c.finish.new.core c.args.hand c.in-Holds.claim c.in-Holds.is c.finish.ensures.commits
