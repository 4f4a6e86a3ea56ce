use Rattle.std.proofs.Common.{◌≡◌, ℕ, ◌≤◌, arith, List, [], length, refl, sym, subst}
use Rattle.std.proofs.lemmas.List.Elements.{All-nil}
use Rattle.std.specs.List.Sorted.{IsStrictlySortedBy}
use Rattle.ltm_splits.specs.Rows.{IsOrdered, HaveWeights}
use Rattle.ltm_splits.specs.Weights.{AreWeights}
use Rattle.ltm_splits.specs.Table.{Entry, rows_of_all}
use Rattle.ltm_splits.proofs.splits.Splits.of_most.Goals as goal

nothing : (most : ℕ) → IsOrdered (rows_of_all []) × (0 ≡ length (rows_of_all [])) × HaveWeights (rows_of_all []) × (length (rows_of_all []) ≤ most)
unfolding IsStrictlySortedBy
nothing most = (tt, refl, All-nil (λ row. AreWeights row.1), omega arith)

pub invariant_of-result : goal.invariant_of-result
invariant_of-result c =
    let P : List (List (List Entry)) → Type 0 = λ t. IsOrdered (rows_of_all t) × (0 ≡ length (rows_of_all t)) × HaveWeights (rows_of_all t) × (length (rows_of_all t) ≤ c.args.most_rows) in
    subst P (sym c.new.ensures) (nothing c.args.most_rows)
