use Rattle.std.proofs.Common.{◌≡◌, ◌<◌, ℕ, ◌+◌, ◌-◌, List, length, drop, slice_set, slice_index_or, arith, ap, sym, ◌∙◌}
use lib.Seq.{paste}
use Rattle.std.proofs.lemmas.List.{get_or-drop, length-drop}
use Rattle.std.proofs.lemmas.List.Edits.{paste_none, paste_more}
use Rattle.ltm_rows.proofs.rows.weighing.copy_on.Goals as goal

pub returns-then-to-from-eq1 : goal.returns-then-to-from-eq1
returns-then-to-from-eq1 c =
    let xs : List ℕ = c.args.numbers.now in
    let from : ℕ = c.args.from in
    let at : ℕ = c.args.at in
    let tail : List ℕ = drop from xs in
    let number : slice_index_or tail 0 0 ≡ slice_index_or xs from 0 = get_or-drop from xs 0 0 ∙ ap (λ (k : ℕ). slice_index_or xs k 0) (let s : from + 0 ≡ from = omega arith in s) in
    let some : 0 < length tail = omega (arith, length-drop from xs, c.requires.behind, c.requires.within, c.if-to-from-eq1.true) in
    ap (λ (ys : List ℕ). slice_set ys at (slice_index_or xs from 0)) (paste_none xs at tail)
    ∙ (ap (λ (k : ℕ). slice_set (paste xs at tail 0) k (slice_index_or xs from 0)) (let s : at ≡ at + 0 = omega arith in s)
    ∙ (ap (slice_set (paste xs at tail 0) (at + 0)) (sym number)
    ∙ (paste_more xs at tail 0 0 (omega (arith, c.requires.within, c.if-to-from-eq1.true)) some
    ∙ ap (paste xs at tail) (let s : 0 + 1 ≡ c.args.to - from = omega (arith, c.if-to-from-eq1.true) in s))))
