use Rattle.ltm_casefile.proofs.Fetching.{risen_since, told_fault, told_asked, told_others}
use Rattle.ltm_casefile.proofs.fetch_case.fetch_parts.Goals as goal

pub returns-in-Err-clause-risen : goal.returns-in-Err-clause-risen
returns-in-Err-clause-risen g c = risen_since (g.F.Folder.faults c.args.folder.now) (g.F.Folder.faults c.fetch_texts.new.folder) (g.F.Folder.faults c.fetch_limits.new.folder) _ c.fetch_texts.ensures.later c.in-Err.ensures.risen

pub returns-in-Err-clause-fault : goal.returns-in-Err-clause-fault
returns-in-Err-clause-fault g c = told_fault _ _ c.in_ok-texts.texts c.setup.result.now c.in_ok-opened.opened _ c.fetch_texts.ensures.keeps c.in_ok-texts.ensures.ok c.setup.ensures c.in_ok-opened.ensures.ok c.in-Err.ensures.fault

pub returns-in-Err-clause-asked : goal.returns-in-Err-clause-asked
returns-in-Err-clause-asked g c = told_asked _ c.in_ok-texts.texts c.setup.result.now c.in_ok-opened.opened _ c.in_ok-texts.ensures.ok c.setup.ensures c.in_ok-opened.ensures.ok c.in-Err.ensures.asked

pub returns-in-Err-clause-unasked : goal.returns-in-Err-clause-unasked
returns-in-Err-clause-unasked g c = told_others _ c.in_ok-texts.texts c.setup.result.now c.in_ok-opened.opened (g.F.Folder.faults c.args.folder.now) (g.F.Folder.faults c.fetch_texts.new.folder) (g.F.Folder.faults c.fetch_limits.new.folder) c.in_ok-texts.ensures.ok c.setup.ensures c.in_ok-opened.ensures.ok c.fetch_texts.ensures.unasked c.fetch_limits.ensures.others

pub returns-in-Ok-clause-unasked : goal.returns-in-Ok-clause-unasked
returns-in-Ok-clause-unasked g c = told_others _ c.in_ok-texts.texts c.setup.result.now c.in_ok-opened.opened (g.F.Folder.faults c.args.folder.now) (g.F.Folder.faults c.fetch_texts.new.folder) (g.F.Folder.faults c.fetch_limits.new.folder) c.in_ok-texts.ensures.ok c.setup.ensures c.in_ok-opened.ensures.ok c.fetch_texts.ensures.unasked c.fetch_limits.ensures.others
