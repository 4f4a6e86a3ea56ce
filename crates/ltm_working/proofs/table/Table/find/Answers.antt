use Rattle.std.proofs.Common.{◌≡◌, refl, sym, subst, ◌∙◌, arith}
use Rattle.ltm_setting.specs.Setting.{setting_of}
use Rattle.ltm_repair.specs.Desk.{Desk, IsIdleBefore}
use Rattle.ltm_repair.specs.Answers.{DropsAtFront, IsNoneClaimed}
use Rattle.ltm_repair.specs.Moves.{DropsSettled}
use Rattle.ltm_working.specs.declared.table.Table.{Table}
use Rattle.ltm_working.specs.Desks.{desk_at}
use Rattle.ltm_working.specs.Searching.{Finds}
use Rattle.ltm_working.proofs.Counting.{none_claimed}
use Rattle.ltm_working.proofs.Desks.{changed_stays}
use Rattle.ltm_working.proofs.Dropping.{drops_none, same_trans, seen_trans}
use Rattle.ltm_working.proofs.FoundAfter.{found_after}
use Rattle.ltm_working.proofs.Fronts.{front_desk, front_ready, before_front}
use Rattle.ltm_working.proofs.Searches.{drops_free}
use Rattle.ltm_working.proofs.table.Table.find.Goals as goal

pub find_far-requires-clause-ready : goal.find_far-requires-clause-ready
find_far-requires-clause-ready c = front_ready (setting_of c.args.scenario.now) c.args.self.now _ c.requires.ready c.advance_near.ensures.pairs c.advance_near.ensures.size

pub returns-in_default-clause-finds : goal.returns-in_default-clause-finds
returns-in_default-clause-finds c =
    let s = setting_of c.args.scenario.now in
    subst (λ (d : Desk). Finds s d c.find_far.result c.find_far.new.inputs c.find_far.new.self) (front_desk s c.args.self.now _ c.requires.ready c.advance_near.ensures.pairs) c.find_far.ensures.finds

pub returns-in_default-clause-changed : goal.returns-in_default-clause-changed
returns-in_default-clause-changed c =
    c.find_far.ensures.changed ∙ changed_stays (setting_of c.args.scenario.now) c.args.self.now (record c.args.self.now { frontier = c.advance_near.new.self }) refl

pub reread-requires-clause-ready : goal.reread-requires-clause-ready
reread-requires-clause-ready c =
    let s = setting_of c.args.scenario.now in
    record {
      ready = front_ready s c.args.self.now _ c.requires.ready c.advance_near.ensures.pairs c.advance_near.ensures.size;
      idle = subst (λ (d : Desk). IsIdleBefore s d c.in-Some.pair.slot) (sym (front_desk s c.args.self.now _ c.requires.ready c.advance_near.ensures.pairs)) (before_front s c.args.self.now c.in-Some.pair.slot c.requires.ready c.in-Some.ensures.first.from.front);
    }

pub returns-then-not-reread-clause-finds : goal.returns-then-not-reread-clause-finds
returns-then-not-reread-clause-finds c =
    let s = setting_of c.args.scenario.now in
    let d : Desk = desk_at s c.args.self.now in
    let same : desk_at s c.reread.new.self ≡ d = c.reread.ensures.desk ∙ front_desk s c.args.self.now _ c.requires.ready c.advance_near.ensures.pairs in
    let none : IsNoneClaimed s d = none_claimed s c.args.self.now c.requires.ready c.in-Some.ensures.first.unclaimed in (
      subst (λ (e : Desk). DropsAtFront s d e) (sym same) (drops_free s d d (drops_none s d 0).drops none),
      record {
        work = record {
          is_slot = omega (arith, c.in-Some.ensures.first.from.front.is_slot, c.requires.ready.fits.frontier.slots);
          idle = subst (λ (e : Desk). IsIdleBefore s e c.in-Some.pair.slot) (sym same) (before_front s c.args.self.now c.in-Some.pair.slot c.requires.ready c.in-Some.ensures.first.from.front);
          work = c.reread.ensures.read.work c.if-not-reread.true;
        };
        one_slot = λ v has. absurd (has.3 (subst (λ (e : Desk). IsNoneClaimed s e) (sym same) none has.0 v has.1 has.2));
        placed = c.reread.ensures.read.placed;
      },
    )

pub returns-then-not-reread-clause-changed : goal.returns-then-not-reread-clause-changed
returns-then-not-reread-clause-changed c =
    let mid : Table = record c.args.self.now { frontier = c.advance_near.new.self } in
    changed_stays (setting_of c.args.scenario.now) c.args.self.now c.reread.new.self (seen_trans c.args.self.now mid c.reread.new.self refl c.reread.ensures.same)

pub drop_settled-requires-clause-ready : goal.drop_settled-requires-clause-ready
drop_settled-requires-clause-ready c =
    let s = setting_of c.args.scenario.now in
    let same : desk_at s c.reread.new.self ≡ desk_at s c.args.self.now = c.reread.ensures.desk ∙ front_desk s c.args.self.now _ c.requires.ready c.advance_near.ensures.pairs in
    record {
      ready = c.reread.ensures.ready;
      idle = subst (λ (d : Desk). IsIdleBefore s d c.in-Some.pair.slot) (sym same) (before_front s c.args.self.now c.in-Some.pair.slot c.requires.ready c.in-Some.ensures.first.from.front);
    }

pub returns-clause-finds : goal.returns-clause-finds
returns-clause-finds c =
    let s = setting_of c.args.scenario.now in
    let d : Desk = desk_at s c.args.self.now in
    let same : desk_at s c.reread.new.self ≡ d = c.reread.ensures.desk ∙ front_desk s c.args.self.now _ c.requires.ready c.advance_near.ensures.pairs in
    found_after s d (desk_at s c.drop_settled.new.self) c.find_far-2.result c.find_far-2.new.inputs c.find_far-2.new.self
    (subst (λ (e : Desk). DropsSettled s e (desk_at s c.drop_settled.new.self)) same c.drop_settled.ensures.drops.drops)
    (none_claimed s c.args.self.now c.requires.ready c.in-Some.ensures.first.unclaimed) c.find_far-2.ensures.finds

pub returns-clause-changed : goal.returns-clause-changed
returns-clause-changed c =
    let mid : Table = record c.args.self.now { frontier = c.advance_near.new.self } in
    c.find_far-2.ensures.changed
    ∙ changed_stays (setting_of c.args.scenario.now) c.args.self.now c.drop_settled.new.self
    (same_trans c.args.self.now c.reread.new.self c.drop_settled.new.self (seen_trans c.args.self.now mid c.reread.new.self refl c.reread.ensures.same) c.drop_settled.ensures.same)
