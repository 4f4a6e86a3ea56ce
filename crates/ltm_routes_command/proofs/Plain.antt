-- A name has no byte that means something in a file of records or in a field of weights.
use Rattle.std.proofs.Common.{ℕ, ◌≡◌, ◌==◌, ◌&&◌, Bool, true, false, List, [], ◌∷◌, ◌++◌, length, refl, ap, sym, ◌∙◌, nat_le, inl, inr}
use Rattle.std.specs.Prelude.{All, ◌||◌}
use Rattle.std.specs.List.{list_any, list_all}
use Rattle.std.proofs.lemmas.Bool.{cases_Bool, eqb-true}
use Rattle.std.proofs.lemmas.List.Elements.{All-cons, All-nil}
use Rattle.std.proofs.lemmas.List.Folds.{list_any-append}
use Rattle.csv.specs.Writing.{default_writer, needs_byte}
use Rattle.ltm_units.specs.Words.{is_name, is_name_byte}
use Rattle.ltm_records.specs.Pieces.{is_space}
use Rattle.ltm_records.specs.Weights.{is_equals}

-- a byte of which the test fails is not one of which it holds
another_byte : (b n : ℕ) → is_name_byte n ≡ false → is_name_byte b ≡ true → (b == n) ≡ false
another_byte b n fails is = elim (cases_Bool (b == n)) [
  | inl same ↦ let wrong : true ≡ false = sym is ∙ ap is_name_byte (eqb-true b n same) ∙ fails in cc
  | inr other ↦ other
]

byte_plain : (b : ℕ) → is_name_byte b ≡ true → needs_byte default_writer b ≡ false
byte_plain b is = rw (another_byte b 44 refl is, another_byte b 34 refl is, another_byte b 13 refl is, another_byte b 10 refl is) refl

byte_no_space : (b : ℕ) → is_name_byte b ≡ true → is_space b ≡ false
byte_no_space b is = another_byte b 32 refl is

byte_no_equals : (b : ℕ) → is_name_byte b ≡ true → is_equals b ≡ false
byte_no_equals b is = another_byte b 61 refl is

both : (a b : Bool) → (a && b) ≡ true → (a ≡ true) × (b ≡ true)
both true b is = (refl, is)
both false b is = cc

neither : (a b : Bool) → a ≡ false → b ≡ false → (a || b) ≡ false
neither true b x y = cc
neither false b x y = y

bytes_of : (name : List ℕ) → is_name name ≡ true → list_all is_name_byte name ≡ true
bytes_of name is = (both (nat_le 1 (length name) && nat_le (length name) 32) (list_all is_name_byte name) is).1

-- a text of which the bytes of names hold something false
all_fail : (test : ℕ → Bool) → ((b : ℕ) → is_name_byte b ≡ true → test b ≡ false) → (text : List ℕ) → list_all is_name_byte text ≡ true → All (λ b. test b ≡ false) text
all_fail test fails [] is = All-nil (λ b. test b ≡ false)
all_fail test fails (b ∷ rest) is =
    let h = both (is_name_byte b) (list_all is_name_byte rest) is in
    All-cons (λ b. test b ≡ false) b rest (fails b h.0) (all_fail test fails rest h.1)

pub name_has_no_space : (name : List ℕ) → is_name name ≡ true → All (λ b. is_space b ≡ false) name
name_has_no_space name is = all_fail is_space byte_no_space name (bytes_of name is)

pub name_has_no_equals : (name : List ℕ) → is_name name ≡ true → All (λ b. is_equals b ≡ false) name
name_has_no_equals name is = all_fail is_equals byte_no_equals name (bytes_of name is)

none_needs : (text : List ℕ) → list_all is_name_byte text ≡ true → list_any (needs_byte default_writer) text ≡ false
none_needs [] is = refl
none_needs (b ∷ rest) is =
    let h = both (is_name_byte b) (list_all is_name_byte rest) is in
    neither (needs_byte default_writer b) (list_any (needs_byte default_writer) rest) (byte_plain b h.0) (none_needs rest h.1)

abbrev pub AllNames : List (List ℕ) → Type 0
AllNames names = All (λ name. is_name name ≡ true) names

-- no byte of the text calls for quotes
abbrev pub IsPlain : List ℕ → Type 0
IsPlain text = list_any (needs_byte default_writer) text ≡ false

pub name_is_plain : (name : List ℕ) → is_name name ≡ true → IsPlain name
name_is_plain name is = none_needs name (bytes_of name is)

pub plain_append : (a b : List ℕ) → IsPlain a → IsPlain b → IsPlain (a ++ b)
plain_append a b x y = list_any-append (needs_byte default_writer) a b ∙ neither (list_any (needs_byte default_writer) a) (list_any (needs_byte default_writer) b) x y
