-- What the test of amounts tells.
use Rattle.std.proofs.Common.{◌≡◌, ℕ, ◌≤◌, ◌↔◌, List, Bool, true, IsTrue, nat_le, sym, ◌∙◌, arith}
use Rattle.std.proofs.lemmas.Bool.Decides.{nat_tests}
use Rattle.std.proofs.lemmas.List.Elements.{All-weaker}
use Rattle.std.proofs.lemmas.List.Sums.{AllPass-from_list_all, list_all-from_AllPass}
use Rattle.std.specs.List.{list_all}
use Rattle.ltm_scenario.specs.declared.edit.Edit.{Edit}
use Rattle.ltm_scenario.specs.Edits.{amount_of, HaveAmounts}
use Rattle.ltm_units.specs.Bounds.{most_amount}

small : (n : ℕ) → nat_le n most_amount ≡ true → n ≤ most_amount
small n is = grind (arith, nat_tests)

is_small : (n : ℕ) → n ≤ most_amount → nat_le n most_amount ≡ true
is_small n is = grind (arith, nat_tests)

pub have_amounts : (edits : List Edit) (r : Bool) → r ≡ list_all (λ edit. nat_le (amount_of edit) most_amount) edits → IsTrue r ↔ HaveAmounts edits
have_amounts edits r is = (
  λ t. All-weaker (λ edit. nat_le (amount_of edit) most_amount ≡ true) (λ edit. amount_of edit ≤ most_amount) (λ edit. small (amount_of edit)) edits (AllPass-from_list_all (λ edit. nat_le (amount_of edit) most_amount) edits (sym is ∙ t)),
  λ all. is ∙ list_all-from_AllPass (λ edit. nat_le (amount_of edit) most_amount) edits (All-weaker (λ edit. amount_of edit ≤ most_amount) (λ edit. nat_le (amount_of edit) most_amount ≡ true) (λ edit. is_small (amount_of edit)) edits all),
)
