-- The pieces of which lines are made have no newline.
use Rattle.std.proofs.Common.{ℕ, zero, suc, ◌≡◌, ◌≢◌, ◌+◌, ◌/◌, ◌%◌, ◌<◌, ◌&&◌, ◌==◌, Bool, true, false, List, [], ◌∷◌, ◌++◌, length, arith}
use Rattle.std.proofs.lemmas.Bool.Decides.{nat_tests}
use Rattle.std.proofs.lemmas.List.Elements.{All-nil, All-cons, All-append, All-weaker}
use Rattle.std.proofs.lemmas.List.Sums.{AllPass-from_list_all}
use Rattle.std.specs.Prelude.{not, if◌then◌else◌, nat_le}
use Rattle.std.specs.List.{list_all}
use Rattle.std.specs.Fmt.{decimal, digits, digits_onto, digit_glyph}
use Rattle.ltm_units.specs.Texts.{number_piece, amount_piece, vehicles_text}
use Rattle.ltm_units.specs.Words.{is_name, is_name_byte}
use Rattle.ltm_session.specs.OneLine.{IsPlain}

pub plain_append : (a b : List ℕ) → IsPlain a → IsPlain b → IsPlain (a ++ b)
plain_append a b = All-append (λ byte. byte ≢ 10) a b

other_byte : (b : ℕ) → (not (b == 10)) ≡ true → b ≢ 10
other_byte b is = grind (arith, nat_tests)

-- words that are written out
pub plain_words : (words : List ℕ) → list_all (λ b. not (b == 10)) words ≡ true → IsPlain words
plain_words words is = All-weaker (λ b. (not (b == 10)) ≡ true) (λ byte. byte ≢ 10) other_byte words (AllPass-from_list_all (λ b. not (b == 10)) words is)

digit_plain : (n : ℕ) → digit_glyph false (n % 10) ≢ 10
digit_plain n = by ((n % 10) == 10) (nat_small n)
  where
    nat_small : (n : ℕ) → n % 10 < 10
    nat_small n = omega arith

    by : (b : Bool) → n % 10 < 10 → digit_glyph false (n % 10) ≢ 10
    by b small = grind (arith, nat_tests)

either : (b : Bool) (xs ys : List ℕ) → IsPlain xs → IsPlain ys → IsPlain (if b then xs else ys)
either true xs ys p q = p
either false xs ys p q = q

plain_onto : (k n : ℕ) (acc : List ℕ) → IsPlain acc → IsPlain (digits_onto k 10 false n acc)
plain_onto zero n acc plain = plain
plain_onto (suc k) n acc plain =
    let more : IsPlain (digit_glyph false (n % 10) ∷ acc) = All-cons (λ byte. byte ≢ 10) (digit_glyph false (n % 10)) acc (digit_plain n) plain in
    either (n / 10 == 0) (digit_glyph false (n % 10) ∷ acc) (digits_onto k 10 false (n / 10) (digit_glyph false (n % 10) ∷ acc)) more
    (plain_onto k (n / 10) (digit_glyph false (n % 10) ∷ acc) more)

pub plain_decimal : (n : ℕ) → IsPlain (decimal n)
unfolding digits
plain_decimal n = plain_onto 64 n [] (All-nil (λ byte. byte ≢ 10))

pub plain_number : (words : List ℕ) (n : ℕ) → IsPlain words → IsPlain (number_piece words n)
unfolding number_piece
plain_number words n plain = plain_append words (decimal n) plain (plain_decimal n)

four_plain : (a b c d : ℕ) → a ≢ 10 → b ≢ 10 → c ≢ 10 → d ≢ 10 → IsPlain (a ∷ b ∷ c ∷ d ∷ [])
four_plain a b c d p q r s =
    let P : ℕ → Type 0 = λ byte. byte ≢ 10 in
    All-cons P a (b ∷ c ∷ d ∷ []) p (All-cons P b (c ∷ d ∷ []) q (All-cons P c (d ∷ []) r (All-cons P d [] s (All-nil P))))

plain_vehicles : (n : ℕ) → IsPlain (vehicles_text n)
unfolding vehicles_text
plain_vehicles n =
    let digits : IsPlain (46 ∷ (48 + n % 1000 / 100) ∷ (48 + n % 100 / 10) ∷ (48 + n % 10) ∷ []) =
    four_plain 46 (48 + n % 1000 / 100) (48 + n % 100 / 10) (48 + n % 10) (omega arith) (omega arith) (omega arith) (omega arith) in
    plain_append (decimal (n / 1000)) (46 ∷ (48 + n % 1000 / 100) ∷ (48 + n % 100 / 10) ∷ (48 + n % 10) ∷ []) (plain_decimal (n / 1000)) digits

pub plain_amount : (words : List ℕ) (n : ℕ) → IsPlain words → IsPlain (amount_piece words n)
unfolding amount_piece
plain_amount words n plain = plain_append words (vehicles_text n) plain (plain_vehicles n)

name_byte : (b : ℕ) → is_name_byte b ≡ true → b ≢ 10
name_byte b is = grind (arith, nat_tests)

both_hold : (a b c : Bool) → (a && b && c) ≡ true → c ≡ true
both_hold true true c e = e
both_hold true false c e = cc e
both_hold false b c e = cc e

pub plain_name : (name : List ℕ) → is_name name ≡ true → IsPlain name
plain_name name is = All-weaker (λ b. is_name_byte b ≡ true) (λ byte. byte ≢ 10) name_byte name
    (AllPass-from_list_all is_name_byte name (both_hold (nat_le 1 (length name)) (nat_le (length name) 32) (list_all is_name_byte name) is))
