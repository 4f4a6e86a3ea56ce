use Rattle.ltm_setting.specs.Setting.{setting_of}
use Rattle.ltm_flows.specs.Shown.{Shows}
use Rattle.ltm_try_command.specs.Repairs.{Repairs}
use Rattle.ltm_try_command.proofs.Repaired.{opens_shown, opens_scenario}
use Rattle.ltm_try_command.proofs.Reported.{trial_text}
use Rattle.ltm_try_command.proofs.trial.report.Goals as goal

pub returns : goal.returns
returns c =
    let shows : Shows (setting_of c.args.core.now.scenario) 0 c.args.core.now.shown = opens_shown c.args.core.now c.requires.opening c.shown-shown.ensures.is_shown in
    let done : Repairs c.args.core.now.scenario c.args.batch c.in_ok-recomputed.recomputed c.in_ok-recomputed.solved c.repair.new.core = c.in_ok-recomputed.ensures in (
      done.edited,
      done.edits,
      record {
        scenario = opens_scenario c.args.core.now c.requires.opening c.facts.ensures.core;
        edited = done.scenario;
        network = done.network;
        before = shows.0;
        after = done.shows.0;
        loads = shows.1.loading;
        reloads = done.shows.1.loading;
        lines =
            trial_text (setting_of c.args.core.now.scenario) (setting_of done.edited) shows.0 done.shows.0 c.in_ok-recomputed.recomputed c.in_ok-recomputed.solved
            c.new-text.result.items c.push_before.new.into.items c.push_after.new.into.items c.new-text.ensures.items (c.in_ok-push_before.ensures (setting_of c.args.core.now.scenario) shows.0 shows.1)
            (c.in_ok-push_after.ensures (setting_of done.edited) done.shows.0 done.shows.1)
            (done.counts shows.0 done.shows.0 shows.1.loading done.shows.1.loading) done.same;
      },
    )
