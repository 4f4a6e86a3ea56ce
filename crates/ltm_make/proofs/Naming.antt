-- A letter and digits are a name, and tell the number.
use Rattle.std.proofs.Common.{◌≡◌, ℕ, ◌+◌, ◌^◌, ◌%◌, ◌<◌, ◌≤◌, ◌&&◌, Bool, true, arith, ap, ◌∙◌, List, [], ◌∷◌, length}
use Rattle.std.specs.List.{list_all}
use Rattle.std.specs.Fmt.{decimal}
use Rattle.std.proofs.lemmas.Bool.Decides.{nat_tests}
use Rattle.std.proofs.lemmas.List.Folds.{list_all-append}
use Rattle.std.proofs.lemmas.Fmt.{decimal_by_steps, length-decimal-le}
use Rattle.ltm_units.specs.Words.{is_name_byte, is_name}
use Rattle.ltm_make.specs.Names.{numbered}

digit_byte : (b : ℕ) → 48 ≤ b → b ≤ 57 → is_name_byte b ≡ true
digit_byte b low high = grind (arith, nat_tests)

digits_pass : (n : ℕ) → n < 2 ^ 64 → list_all is_name_byte (decimal n) ≡ true
digits_pass n small =
    decimal_by_steps (λ k ds. list_all is_name_byte ds ≡ true)
    (λ k l. ap (λ (b : Bool). b && true) (digit_byte (48 + k) (omega arith) (omega arith)))
    (λ k ds l h. list_all-append is_name_byte ds ((48 + k % 10) ∷ [])
    ∙ (ap (λ (b : Bool). b && list_all is_name_byte ((48 + k % 10) ∷ [])) h
    ∙ ap (λ (b : Bool). b && true) (digit_byte (48 + k % 10) (omega arith) (omega arith))))
    n small

is_named : (text : List ℕ) → 1 ≤ length text → length text ≤ 32 → list_all is_name_byte text ≡ true → is_name text ≡ true
is_named text some few all = grind (arith, nat_tests)

pub numbered_is_name : (letter n : ℕ) → is_name_byte letter ≡ true → n < 2 ^ 32 → is_name (numbered letter n) ≡ true
unfolding numbered
numbered_is_name letter n h small =
    let few : length (decimal n) ≤ 10 = length-decimal-le 10 n (omega arith) (omega arith) (omega arith) in
    is_named (letter ∷ decimal n) (omega arith) (omega arith)
    (ap (λ (b : Bool). b && list_all is_name_byte (decimal n)) h ∙ digits_pass n (omega arith))
