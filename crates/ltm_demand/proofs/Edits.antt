-- What writing at a place makes of the rows.
use Rattle.std.proofs.Common.{◌≡◌, ℕ, ◌<◌, ◌==◌, true, false, cond, List, [], ◌∷◌, ◌++◌, get_or, set, take, sum_by, arith, ap, sym, ◌∙◌}
use Rattle.std.specs.List.{insert, remove}
use Rattle.std.proofs.lemmas.List.{set_split, get_or_read, take-append-drop}
use Rattle.std.proofs.lemmas.Bool.Decides.{nat_tests}
use Rattle.ltm_demand.specs.declared.row.DemandRow.{DemandRow}
use Rattle.ltm_demand.specs.Rows.{behind, row_if_any, edited_rows, amount_at}
use Rattle.ltm_demand.specs.Places.{IsAt, IsGap}

shown_none : (row : DemandRow) → row.amount.0 ≡ 0 → row_if_any row ≡ []
shown_none row none = let e : (row.amount.0 == 0) ≡ true = grind (arith, nat_tests) in ap (λ b. cond b [] (row ∷ [])) e

shown_some : (row : DemandRow) → 0 < row.amount.0 → row_if_any row ≡ row ∷ []
shown_some row some = let e : (row.amount.0 == 0) ≡ false = grind (arith, nat_tests) in ap (λ b. cond b [] (row ∷ [])) e

-- writing over the row of that key
pub set_is : (rows : List DemandRow) (row : DemandRow) (i : ℕ) → IsAt rows row i → 0 < row.amount.0 → set rows i row ≡ edited_rows rows row
unfolding edited_rows
set_is rows row i at some = set_split rows i row at.within ∙ sym (ap (λ f. f ++ (row_if_any row ++ behind rows row)) at.before_is ∙ ap (λ s. take i rows ++ (s ++ behind rows row)) (shown_some row some) ∙ ap (λ b. take i rows ++ (row ∷ b)) at.behind_is)

-- taking the row of that key out
pub remove_is : (rows : List DemandRow) (row : DemandRow) (i : ℕ) → IsAt rows row i → row.amount.0 ≡ 0 → remove rows i ≡ edited_rows rows row
unfolding edited_rows
remove_is rows row i at none = sym (ap (λ f. f ++ (row_if_any row ++ behind rows row)) at.before_is ∙ ap (λ s. take i rows ++ (s ++ behind rows row)) (shown_none row none) ∙ ap (λ b. take i rows ++ b) at.behind_is)

-- putting it where no row has the key
pub insert_is : (rows : List DemandRow) (row : DemandRow) (i : ℕ) → IsGap rows row i → 0 < row.amount.0 → insert rows i row ≡ edited_rows rows row
unfolding edited_rows
insert_is rows row i gap some = sym (ap (λ f. f ++ (row_if_any row ++ behind rows row)) gap.before_is ∙ ap (λ s. take i rows ++ (s ++ behind rows row)) (shown_some row some) ∙ ap (λ b. take i rows ++ (row ∷ b)) gap.behind_is)

-- taking out where no row has the key changes nothing
pub edited_nothing : (rows : List DemandRow) (row : DemandRow) (i : ℕ) → IsGap rows row i → row.amount.0 ≡ 0 → edited_rows rows row ≡ rows
unfolding edited_rows
edited_nothing rows row i gap none = ap (λ f. f ++ (row_if_any row ++ behind rows row)) gap.before_is ∙ ap (λ s. take i rows ++ (s ++ behind rows row)) (shown_none row none) ∙ ap (λ b. take i rows ++ b) gap.behind_is ∙ take-append-drop i rows

-- the amount at the key is that of the row at its place, and 0 where none has it
pub amount_found : (rows : List DemandRow) (row : DemandRow) (i : ℕ) → IsAt rows row i → amount_at rows row ≡ (get_or rows i row).amount.0
unfolding amount_at
amount_found rows row i at = ap (sum_by (λ (r : DemandRow). r.amount.0)) at.standing_is ∙ (omega arith)

pub amount_absent : (rows : List DemandRow) (row : DemandRow) (i : ℕ) → IsGap rows row i → amount_at rows row ≡ 0
unfolding amount_at
amount_absent rows row i gap = ap (sum_by (λ (r : DemandRow). r.amount.0)) gap.standing_is

-- the same of what an index read
pub amount_read : (rows : List DemandRow) (row : DemandRow) (i : ℕ) (x : DemandRow) → IsAt rows row i → x ≡ get_or rows i x → x.amount.0 ≡ amount_at rows row
amount_read rows row i x at is = ap (λ (r : DemandRow). r.amount.0) (get_or_read rows i x at.within is row) ∙ sym (amount_found rows row i at)
