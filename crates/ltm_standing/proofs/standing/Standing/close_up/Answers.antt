use Rattle.std.proofs.Common.{rules, arith, refl, ap, ◌≡◌, ◌*◌, ◌≤◌, drop, length}
use Rattle.std.proofs.lemmas.List.{length-drop}
use Rattle.ltm_standing.specs.Standing.{width_of}
use Rattle.ltm_standing.proofs.Rows.{AreRows, rows_of, rows_by, rows_dropped}
use Rattle.ltm_standing.proofs.Grows.{closes_keeps}
use Rattle.ltm_standing.proofs.standing.Standing.close_up.Goals as goal

pub invariant_of-self : goal.invariant_of-self
invariant_of-self c =
    let s = c.args.self.now in
    let order : s.dead ≤ s.next = s.order in
    let within : s.next ≤ length s.totals.items = s.within in
    let totals : c.take_front-2.new.numbers.items ≡ drop s.dead s.totals.items = search rules in
    let entries : c.take_front.new.numbers.items ≡ drop (s.dead * width_of s) s.entries.items = search rules in
    let rows : AreRows (width_of s) c.take_front-2.new.numbers.items c.take_front.new.numbers.items =
    rows_by (width_of s) (drop s.dead s.totals.items) (drop (s.dead * width_of s) s.entries.items) _ _ totals entries (rows_dropped (width_of s) s.totals.items s.entries.items s.dead (omega arith) (rows_of s)) in
    record {
      order = omega arith;
      within = omega (arith, ap length totals, length-drop s.dead s.totals.items);
      whole = rows.whole;
      sums = rows.sums;
      some = rows.some;
    }

pub returns-clause-keeps : goal.returns-clause-keeps
returns-clause-keeps c k t =
    let s = c.args.self.now in
    let order : s.dead ≤ s.next = s.order in
    closes_keeps k t s _ (record {
      rest = refl;
      base = refl;
      low = refl;
      dead = refl;
      next = omega arith;
      totals = search rules;
      entries = search rules;
    })
