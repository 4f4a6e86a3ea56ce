-- Texts that are cut at a byte, and entries that are put one behind another.
use Rattle.std.proofs.Common.{ℕ, ◌≡◌, ◌+◌, ◌-◌, ◌<◌, ◌≤◌, Bool, true, false, cond, List, [], ◌∷◌, ◌++◌, length, take, drop, Option, Some, None, refl, ◌∙◌, arith, append_assoc, length-append, length-drop}
use Rattle.std.specs.Prelude.{position, nat_lt}
use Rattle.std.specs.List.{slice_split, position_or_len, before_first, after_first}
use Rattle.std.proofs.lemmas.Grind.{common_steps}
use Rattle.std.proofs.lemmas.List.{take_all, drop_all, append-nil}
use Rattle.std.proofs.lemmas.List.Splits.{slice_split_first, slice_split-cons_no}
use Rattle.ltm_records.specs.Weights.{Entry, is_equals, entry_of, onto, at_most_four}

no_place : (a b : ℕ) → cond (nat_lt a b) (Some a) None ≡ None → b ≤ a
no_place a b h = grind (arith, common_steps)

a_place : (a b i : ℕ) → cond (nat_lt a b) (Some a) None ≡ Some i → (a < b) × (i ≡ a)
a_place a b i h = (grind (arith, common_steps), grind (arith, common_steps))

-- a text with no such byte is one piece
longer_piece : (p : ℕ → Bool) (x : ℕ) (xs : List ℕ) (b : Bool) → p x ≡ b → length (x ∷ xs) ≤ position_or_len p (x ∷ xs)
    → (length xs ≤ position_or_len p xs → slice_split p xs ≡ xs ∷ []) → slice_split p (x ∷ xs) ≡ (x ∷ xs) ∷ []
longer_piece p x xs true e far shorter = absurd (let h = rw e at far in omega arith)
longer_piece p x xs false e far shorter =
    let h = rw e at far in
    slice_split-cons_no p x xs e ∙ rw (shorter (omega arith)) refl

whole_piece : (p : ℕ → Bool) (text : List ℕ) → length text ≤ position_or_len p text → slice_split p text ≡ text ∷ []
whole_piece p [] far = refl
whole_piece p (x ∷ xs) far = longer_piece p x xs (p x) refl far (whole_piece p xs)

pub one_piece : (p : ℕ → Bool) (text : List ℕ) → position p text ≡ None → slice_split p text ≡ text ∷ []
one_piece p text none = whole_piece p text (no_place _ _ none)

-- what stands behind a place, as a range of a slice
behind : (text : List ℕ) (n : ℕ) → take (length text - n) (drop n text) ≡ drop n text
behind text n = take_all (length text - n) (drop n text) (omega (arith, length-drop n text))

pub first_piece : (p : ℕ → Bool) (text : List ℕ) (place : ℕ) → position p text ≡ Some place
    → slice_split p text ≡ take place text ∷ slice_split p (take (length text - (place + 1)) (drop (place + 1) text))
first_piece p text place at =
    let there = a_place (position_or_len p text) (length text) place at in
    rw (behind text (place + 1), there.1) (slice_split_first p text 0 there.0)

pub place_inside : (p : ℕ → Bool) (text : List ℕ) (place : ℕ) → position p text ≡ Some place → place < length text
place_inside p text place at =
    let there = a_place (position_or_len p text) (length text) place at in
    omega arith

pub before_place : (p : ℕ → Bool) (text : List ℕ) (place : ℕ) → position p text ≡ Some place → before_first p text ≡ take place text
before_place p text place at =
    let there = a_place (position_or_len p text) (length text) place at in
    rw there.1 refl

pub after_place : (p : ℕ → Bool) (text : List ℕ) (place : ℕ) → position p text ≡ Some place → after_first p text ≡ take (length text - (place + 1)) (drop (place + 1) text)
after_place p text place at =
    let there = a_place (position_or_len p text) (length text) place at in
    rw (behind text (place + 1), there.1) refl

-- with no `=` a text tells no entry
pub no_entry : (text : List ℕ) → position is_equals text ≡ None → entry_of text ≡ None
no_entry text none =
    let far = no_place _ _ none in
    let empty : after_first is_equals text ≡ [] = drop_all (position_or_len is_equals text + 1) text (omega arith) in
    rw empty (grind (arith, common_steps))

pub ruleset cuts = (one_piece, first_piece, place_inside, before_place, after_place, no_entry)

-- some entries and those that follow them, where those are entries
abbrev pub before : List Entry → Option (List Entry) → Option (List Entry)
before es (Some more) = Some (es ++ more)
before es None = None

pub one_more : (es : List Entry) (e : Entry) (more : Option (List Entry)) → before es (onto (Some e) more) ≡ before (es ++ e ∷ []) more
one_more es e (Some fs) = rw append_assoc refl
one_more es e None = refl

pub one_first : (e : Entry) (more : Option (List Entry)) → onto (Some e) more ≡ before (e ∷ []) more
one_first e (Some fs) = refl
one_first e None = refl

pub five : (es : List Entry) (e : Entry) (more : Option (List Entry)) → 4 ≤ length es → at_most_four (before es (onto (Some e) more)) ≡ None
five es e (Some fs) h =
    let long = length-append es (e ∷ fs) in
    grind (arith, common_steps)
five es e None h = refl

pub all_of : (es : List Entry) → length es ≤ 4 → at_most_four (before es (Some [])) ≡ Some es
all_of es h = rw (append-nil es) (grind (arith, common_steps))

pub ruleset steps = (one_more, one_first, five, all_of)
