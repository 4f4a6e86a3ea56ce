use Rattle.std.specs.Prelude.{◌≡◌, ℕ, ◌-◌, ◌<◌, ◌≤◌, false}
use Rattle.ltm_marks.specs.Marks.{is_marked}
use Rattle.ltm_marks.proofs.marks.Marks.next_marked.Given as goal

abbrev pub invariant-loop-from : goal.invariant-loop-from
invariant-loop-from l = (l.fn.from ≤ l.from) × ((w : ℕ) → l.fn.from ≤ w → w < l.from → is_marked l.self w l.row ≡ false)

abbrev pub decreases-loop-from : goal.decreases-loop-from
decreases-loop-from l = l.self.width - l.from
