use Rattle.std.proofs.Common.{rules, ◌≡◌, subst}
use Rattle.ltm_core.specs.Cores.{CoreData}
use Rattle.ltm_session_viewers.specs.Serving.{ServesPosting}
use Rattle.ltm_session_viewers.proofs.Scripted.{scripted, at_its_end}
use Rattle.ltm_session_viewers.proofs.serving.serve_and_end.Goals as goal

pub returns-clause-serves : goal.returns-clause-serves
returns-clause-serves g c =
    let viewed = c.serve_lines-viewed.result.0 in
    let end = c.serve_lines-viewed.result.1 in
    let told = g.S.Source.left c.args.source.now in
    let left = g.S.Source.left c.serve_lines-viewed.new.source in
    let old = g.W.Sink.written c.args.sink.now in
    let new = g.W.Sink.written c.serve_lines-viewed.new.sink in
    let back : viewed.core.now ≡ c.core-1.given.0 = search rules in
    subst (λ (e : CoreData). ServesPosting c.args.core.now c.args.stage told left end old new e viewed.boards) back (record {
      script = scripted c.args.core.now viewed.core.now told left end old new c.requires.set.fresh c.serve_lines-viewed.ensures.serves;
      posted = at_its_end end (λ write memory. (c.serve_lines-viewed.ensures.awaits write memory).1);
      hooks = c.serve_lines-viewed.ensures.keeps.1;
    })
