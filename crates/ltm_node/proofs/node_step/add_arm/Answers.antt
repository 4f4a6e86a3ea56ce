use Rattle.std.proofs.Common.{◌≡◌, ◌<◌, ℕ, ◌+◌, ◌%◌, List, [], ◌∷◌, slice_index, arith}
use Rattle.ltm_units.specs.Sums.{sum_below}
use Rattle.ltm_shares.specs.Sent.{sent_at}
use Rattle.ltm_node.proofs.Totals.{of_four, total_on}
use Rattle.ltm_node.proofs.node_step.add_arm.Goals as goal

pub returns : goal.returns
returns c =
    let n = c.args.inputs.now in
    let s = c.args.sent.now in
    let a : ℕ = c.args.arm in
    let t : ℕ → ℕ = slice_index c.args.totals.now in
    let one : ℕ = (t 0 + c.at.result) % 18446744073709551616 in
    let two : ℕ = (t 1 + c.at-2.result) % 18446744073709551616 in
    let three : ℕ = (t 2 + c.at-3.result) % 18446744073709551616 in
    let four : ℕ = (t 3 + c.at-4.result) % 18446744073709551616 in
    let totals : List ℕ = one ∷ two ∷ three ∷ four ∷ [] in
    let P : ℕ → Type 0 = λ j. j < n.shape.outs → slice_index totals j ≡ sum_below (a + 1) (λ i. sent_at s i j) in
    λ j jl. of_four P
    (λ l. total_on n s 0 a (t 0) c.at.result c.requires.solvable c.requires.sent c.requires.arm l (c.requires.before 0 l) c.at.ensures)
    (λ l. total_on n s 1 a (t 1) c.at-2.result c.requires.solvable c.requires.sent c.requires.arm l (c.requires.before 1 l) c.at-2.ensures)
    (λ l. total_on n s 2 a (t 2) c.at-3.result c.requires.solvable c.requires.sent c.requires.arm l (c.requires.before 2 l) c.at-3.ensures)
    (λ l. total_on n s 3 a (t 3) c.at-4.result c.requires.solvable c.requires.sent c.requires.arm l (c.requires.before 3 l) c.at-4.ensures)
    j (omega (arith, c.requires.solvable.few_outs)) jl
