use Rattle.std.proofs.Common.{◌<◌, refl, ◌∙◌, arith}
use Rattle.ltm_setting.specs.Setting.{setting_of}
use Rattle.ltm_repair.specs.Answers.{IsNoneClaimed}
use Rattle.ltm_repair.proofs.Keeps.{drop_idle_before}
use Rattle.ltm_working.specs.Desks.{desk_at}
use Rattle.ltm_working.proofs.Dropping.{drops_none, drops_both, same_trans}
use Rattle.ltm_working.proofs.Searches.{idle_more, none_then, drops_free, first_none, claims_then}
use Rattle.ltm_working.proofs.table.Table.find_first.Goals as goal

pub loop-slot-init : goal.loop-slot-init
loop-slot-init c = record {
  ready = c.requires.ready.ready;
  drops = (drops_none (setting_of c.args.scenario.now) (desk_at (setting_of c.args.scenario.now) c.args.self.now) c.args.front).drops;
  idle = c.requires.ready.idle;
  same = refl;
  room = refl;
}

pub loop-slot-preserved : goal.loop-slot-preserved
loop-slot-preserved c =
    let s = setting_of c.args.scenario.now in
    let l : c.loop-slot.slot < s.slots = omega (arith, c.loop-slot-test.true, c.slot_count-slot-end.ensures.value) in
    let none : IsNoneClaimed s (desk_at s c.loop-slot.self) = none_then s (desk_at s c.args.self.now) (desk_at s c.loop-slot.self) c.loop-slot.invariant.drops c.requires.none in
    record {
      ready = c.find_at.ensures.ready;
      drops = drops_both s (desk_at s c.args.self.now) (desk_at s c.loop-slot.self) (desk_at s c.find_at.new.self) c.loop-slot.slot c.loop-slot.invariant.drops c.find_at.ensures.drops;
      idle = idle_more s (desk_at s c.loop-slot.self) (desk_at s c.find_at.new.self) c.loop-slot.slot c.find_at.ensures.drops l none
          (drop_idle_before s (desk_at s c.loop-slot.self) (desk_at s c.find_at.new.self) c.loop-slot.slot c.find_at.ensures.drops.drops c.loop-slot.invariant.idle) c.in_default.ensures.found;
      same = same_trans c.args.self.now c.loop-slot.self c.find_at.new.self c.loop-slot.invariant.same c.find_at.ensures.same;
      room = c.find_at.ensures.room ∙ c.loop-slot.invariant.room;
    }

pub find_at-requires-clause-ready : goal.find_at-requires-clause-ready
find_at-requires-clause-ready c = record { ready = c.loop-slot.invariant.ready; idle = c.loop-slot.invariant.idle }

pub returns-in-Some-clause-finds : goal.returns-in-Some-clause-finds
returns-in-Some-clause-finds c =
    let s = setting_of c.args.scenario.now in
    let drops = drops_both s (desk_at s c.args.self.now) (desk_at s c.loop-slot.self) (desk_at s c.find_at.new.self) c.loop-slot.slot c.loop-slot.invariant.drops c.find_at.ensures.drops in (
      drops_free s (desk_at s c.args.self.now) (desk_at s c.find_at.new.self) drops c.requires.none,
      record {
        work = record {
          is_slot = omega (arith, c.loop-slot-test.true, c.slot_count-slot-end.ensures.value);
          idle = drop_idle_before s (desk_at s c.loop-slot.self) (desk_at s c.find_at.new.self) c.loop-slot.slot c.find_at.ensures.drops.drops c.loop-slot.invariant.idle;
          work = c.in-Some.ensures.found.work;
        };
        one_slot = λ v has.
            let before = claims_then s (desk_at s c.args.self.now) (desk_at s c.find_at.new.self) v drops has in
            absurd (before.3 (c.requires.none before.0 v before.1 before.2));
        placed = c.in-Some.ensures.found.placed;
      },
    )

pub returns-clause-finds : goal.returns-clause-finds
returns-clause-finds c =
    let s = setting_of c.args.scenario.now in
    first_none s (desk_at s c.args.self.now) (desk_at s c.loop-slot.self) c.loop-slot.invariant.drops
    (λ u v x l. c.loop-slot.invariant.idle u v x (omega (arith, l, c.loop-slot-test.false, c.loop-slot.auto.slot-end, c.slot_count-slot-end.ensures.value))) c.requires.none
