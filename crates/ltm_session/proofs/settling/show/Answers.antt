use Rattle.std.proofs.Common.{◌≡◌, ◌+◌, ap, ◌∙◌, arith}
use Rattle.ltm_core.specs.Cores.{CoreData}
use Rattle.ltm_core.specs.Told.{settles_of}
use Rattle.ltm_session.proofs.settling.show.Goals as goal

pub returns-in-Done : goal.returns-in-Done
returns-in-Done c =
    let shows = c.in-Done.ensures.answer in
    let more : settles_of c.publish.new.self ≡ 0 + settles_of c.args.core.now = ap (λ (x : CoreData). settles_of x) shows.keeps in
    record {
      log = ap (λ (x : CoreData). x.log) shows.keeps;
      shown = shows.shown ∙ shows.all;
      commits = ap (λ (x : CoreData). x.commits) shows.keeps;
      settles = omega (more, arith);
    }

pub unreachable-requires : goal.unreachable-requires
unreachable-requires c = let (busy, same) = c.in-NotAtRest.ensures.answer in busy c.requires
