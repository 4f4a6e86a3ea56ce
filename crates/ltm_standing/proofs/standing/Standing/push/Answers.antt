use Rattle.std.proofs.Common.{rules, arith, refl, ap, ◌≡◌, ◌≤◌, ◌∙◌, [], ◌∷◌, ◌++◌, take, length}
use Rattle.std.proofs.lemmas.List.{take_at, length_push}
use Rattle.ltm_standing.specs.Standing.{width_of}
use Rattle.ltm_standing.proofs.Rows.{AreRows, rows_of, rows_by, rows_pushed}
use Rattle.ltm_standing.proofs.standing.Standing.push.Goals as goal

pub invariant_of-self : goal.invariant_of-self
invariant_of-self c =
    let s = c.args.self.now in
    let entries : c.extend_from_slice.new.self.items ≡ s.entries.items = search rules in
    let rows : AreRows (width_of s) s.totals.items c.extend_from_slice.new.self.items = rows_by (width_of s) s.totals.items s.entries.items _ _ refl entries (rows_of s) in
    record { order = s.order; within = s.within; whole = rows.whole; sums = rows.sums; some = rows.some }

pub invariant_of-self-in-Ok : goal.invariant_of-self-in-Ok
invariant_of-self-in-Ok c =
    let s = c.args.self.now in
    let within : s.next ≤ length s.totals.items = s.within in
    let entries : c.extend_from_slice.new.self.items ≡ s.entries.items ++ c.args.mail.now = search rules in
    let totals : c.push.new.self.items ≡ s.totals.items ++ c.args.came ∷ [] = search rules in
    let rows : AreRows (width_of s) c.push.new.self.items c.extend_from_slice.new.self.items =
    rows_by (width_of s) (s.totals.items ++ c.args.came ∷ []) (s.entries.items ++ c.args.mail.now) _ _ totals entries
    (rows_pushed (width_of s) s.totals.items s.entries.items c.args.came c.args.mail.now c.requires.some c.requires.mail c.requires.came (rows_of s)) in
    record { order = s.order; within = omega (arith, ap length totals, length_push s.totals.items c.args.came); whole = rows.whole; sums = rows.sums; some = rows.some }

pub invariant_of-self-in-Err : goal.invariant_of-self-in-Err
invariant_of-self-in-Err c =
    let s = c.args.self.now in
    let within : s.next ≤ length s.totals.items = s.within in
    let totals : c.push.new.self.items ≡ s.totals.items = search rules in
    let all : c.extend_from_slice.new.self.items ≡ s.entries.items ++ c.args.mail.now = search rules in
    let long : length s.entries.items ≡ c.len-long.result = search rules in
    let entries : c.truncate.new.self.items ≡ s.entries.items = c.truncate.ensures.items ∙ (ap (take c.len-long.result) all ∙ take_at s.entries.items c.args.mail.now c.len-long.result long) in
    let rows : AreRows (width_of s) c.push.new.self.items c.truncate.new.self.items = rows_by (width_of s) s.totals.items s.entries.items _ _ totals entries (rows_of s) in
    record { order = s.order; within = omega (arith, ap length totals); whole = rows.whole; sums = rows.sums; some = rows.some }
