use Rattle.ltm_workers.proofs.Editing.{counts_of, counted_told, counted_settles}
use Rattle.ltm_workers.proofs.editor_turns.count_commits.Goals as goal

pub returns-in-Some-clause-told : goal.returns-in-Some-clause-told
returns-in-Some-clause-told c =
    let so = counts_of c.args.core.now c.settle_count-counted.new.self _ _ c.version-version.ensures.version c.in-Some.ensures.answer in
    counted_told c.lists_tell_all.ensures c.args.core.now c.settle_count-counted.new.self _ _ so

pub returns-in-Some-clause-settles : goal.returns-in-Some-clause-settles
returns-in-Some-clause-settles c =
    let so = counts_of c.args.core.now c.settle_count-counted.new.self _ _ c.version-version.ensures.version c.in-Some.ensures.answer in
    counted_settles c.lists_tell_all.ensures c.args.core.now c.settle_count-counted.new.self _ _ so c.settle_count-counted.ensures.shown c.facts.ensures.came c.facts-2.ensures.came
