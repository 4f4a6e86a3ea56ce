use Rattle.ltm_session.proofs.Settled.{settles_alone}
use Rattle.ltm_session.proofs.settling.settle.Goals as goal

pub returns : goal.returns
returns c =
    settles_alone c.logs_tell_all.ensures c.args.core.now c.repair.new.core c.show.new.core c.count-count.new.core c.count-count.result (record {
      before = c.facts.ensures;
      awaits = c.requires;
      shown = c.shown-shown.ensures.is_shown;
      repaired = c.repair.ensures;
      showing = c.show.ensures;
      after = c.facts-2.ensures;
      counted = c.count-count.ensures;
      last = c.facts-3.ensures;
    })
