use Rattle.std.proofs.Common.{rules, refl, ◌≡◌, ◌∷◌, [], ◌++◌, slice_index, slice_set}
use Rattle.ltm_used.proofs.Finding.{AreFound, found_of, found_more, found_by}
use Rattle.ltm_used.proofs.found.Found.find.Goals as goal

pub invariant_of-self-2 : goal.invariant_of-self-2
invariant_of-self-2 c =
    let s = c.args.self.now in
    let none : slice_index s.marks.items c.args.number ≡ 0 = search rules in
    let order : c.push.new.self.items ≡ s.order.items ++ c.args.number ∷ [] = search rules in
    let all : AreFound (slice_set s.marks.items c.args.number 1) c.push.new.self.items =
    found_by (slice_set s.marks.items c.args.number 1) (s.order.items ++ c.args.number ∷ []) _ _ refl order (found_more s.marks.items s.order.items c.args.number (found_of s) c.requires none) in
    record { bits = all.bits; counted = all.counted; inside = all.inside; listed = all.listed }
