use Rattle.std.proofs.Common.{sym, ◌∙◌}
use Rattle.ltm_workers.specs.Hands.{all_held}
use Rattle.ltm_workers.proofs.Holding.{first_kept, none_laid_down, keeps_more}
use Rattle.ltm_workers.proofs.Endings.{tells_drive, drive_works, drive_short}
use Rattle.ltm_workers.proofs.driving.drive.Goals as goal

pub follow-followed-requires-clause-kept : goal.follow-followed-requires-clause-kept
follow-followed-requires-clause-kept c = first_kept c.args.core.now c.take_up-hands.result c.take_up-hands.ensures.none

pub returns-clause-drive : goal.returns-clause-drive
returns-clause-drive c =
    tells_drive c.follow-followed.result c.end.result c.args.core.now c.follow-followed.new.core c.lay_all_down.new.core c.args.steps.now c.follow-followed.new.steps c.args.schedule.now (all_held c.follow-followed.new.hands)
    c.follow-followed.ensures.followed c.lay_all_down.ensures.run
    (λ none. none_laid_down c.follow-followed.new.core c.lay_all_down.new.core c.follow-followed.new.hands c.facts-2.ensures.core none c.follow-followed.ensures.kept c.lay_all_down.ensures.run) c.end.ensures

pub returns-clause-works : goal.returns-clause-works
returns-clause-works c =
    drive_works c.follow-followed.result c.args.core.now c.follow-followed.new.core c.lay_all_down.new.core c.args.steps.now c.follow-followed.new.steps c.args.schedule.now (all_held c.follow-followed.new.hands)
    c.facts.ensures.core c.requires c.follow-followed.ensures.followed c.lay_all_down.ensures.run
    (λ none. none_laid_down c.follow-followed.new.core c.lay_all_down.new.core c.follow-followed.new.hands c.facts-2.ensures.core none c.follow-followed.ensures.kept c.lay_all_down.ensures.run)
    (keeps_more c.args.core.now c.follow-followed.new.core c.lay_all_down.new.core c.follow-followed.ensures.keeps c.lay_all_down.ensures.keeps)

pub returns-clause-short : goal.returns-clause-short
returns-clause-short c =
    drive_short c.runs_of_cores.ensures c.logs_tell_all.ensures c.follow-followed.result c.end.result c.args.core.now c.follow-followed.new.core c.lay_all_down.new.core c.args.steps.now c.follow-followed.new.steps c.args.schedule.now
    (all_held c.follow-followed.new.hands) c.facts.ensures.core c.requires (sym c.claimed-out.ensures.count ∙ c.claimed-out.ensures.none.1 c.requires) c.follow-followed.ensures.followed c.end.ensures
