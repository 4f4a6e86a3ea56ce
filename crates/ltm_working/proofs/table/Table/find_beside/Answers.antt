use Rattle.ltm_setting.specs.Setting.{setting_of}
use Rattle.ltm_repair.proofs.Keeps.{drop_idle_before}
use Rattle.ltm_working.specs.Desks.{desk_at}
use Rattle.ltm_working.proofs.Taking.{one_slot, front_of_claims}
use Rattle.ltm_working.proofs.Searches.{drops_one, beside_none, claims_then}
use Rattle.ltm_working.proofs.table.Table.find_beside.Goals as goal

pub find_at-requires-clause-slot : goal.find_at-requires-clause-slot
find_at-requires-clause-slot c = c.requires.out.2

pub find_at-requires-clause-ready : goal.find_at-requires-clause-ready
find_at-requires-clause-ready c = record { ready = c.requires.ready; idle = front_of_claims (setting_of c.args.scenario.now) (desk_at (setting_of c.args.scenario.now) c.args.self.now) c.args.slot c.requires.ready.sound c.requires.out }

pub returns-in-Some-clause-finds : goal.returns-in-Some-clause-finds
returns-in-Some-clause-finds c =
    let s = setting_of c.args.scenario.now in (
      drops_one s (desk_at s c.args.self.now) (desk_at s c.find_at.new.self) c.args.slot c.in-Some.ensures.drops (λ v has. one_slot s (desk_at s c.args.self.now) v c.args.slot c.requires.ready.sound has c.requires.out),
      record {
        work = record {
          is_slot = c.requires.out.2;
          idle = drop_idle_before s (desk_at s c.args.self.now) (desk_at s c.find_at.new.self) c.args.slot c.in-Some.ensures.drops.drops
              (front_of_claims s (desk_at s c.args.self.now) c.args.slot c.requires.ready.sound c.requires.out);
          work = c.in-Some.ensures.found.work;
        };
        one_slot = λ v has.
            one_slot s (desk_at s c.args.self.now) v c.args.slot c.requires.ready.sound (claims_then s (desk_at s c.args.self.now) (desk_at s c.find_at.new.self) v c.in-Some.ensures.drops.drops has) c.requires.out;
        placed = c.in-Some.ensures.found.placed;
      },
    )

pub returns-in-None-clause-finds : goal.returns-in-None-clause-finds
returns-in-None-clause-finds c =
    let s = setting_of c.args.scenario.now in
    beside_none s (desk_at s c.args.self.now) (desk_at s c.find_at.new.self) c.args.slot c.in-None.ensures.drops c.requires.out
    (λ v has. one_slot s (desk_at s c.args.self.now) v c.args.slot c.requires.ready.sound has c.requires.out) c.in-None.ensures.found
