-- A text is cut at its first newline.
use Rattle.std.proofs.Common.{ℕ, zero, suc, ◌≡◌, ◌+◌, ◌<◌, ◌≤◌, List, [], ◌∷◌, length, take, drop, ◌-◌, refl, ap, sym, subst, ◌∙◌, arith}
use Rattle.std.specs.Prelude.{◌≢◌, slice_index}
use Rattle.std.proofs.lemmas.Bool.{eq-eqb, ne_eqb}
use Rattle.std.proofs.lemmas.List.{drop_all, take_all, drop-drop, length-drop}
use Rattle.ltm_io.specs.Script.{before_lines, lines_of}

-- a newline first, and another byte first
at_newline : (b : ℕ) (bs : List ℕ) → b ≡ 10 → lines_of (b ∷ bs) ≡ [] ∷ lines_of bs
at_newline b bs is = rw (eq-eqb b 10 is) refl

at_byte : (b : ℕ) (bs : List ℕ) → b ≢ 10 → lines_of (b ∷ bs) ≡ before_lines b (lines_of bs)
at_byte b bs other = rw (ne_eqb b 10 other) refl

pub first_line : (text : List ℕ) (n : ℕ) → text ≢ [] → n ≤ length text → ((k : ℕ) → k < n → slice_index text k ≢ 10) → (n < length text → slice_index text n ≡ 10)
    → lines_of text ≡ take n text ∷ lines_of (drop (suc n) text)
first_line [] n some within none newline = absurd (some refl)
first_line (b ∷ bs) zero some within none newline = at_newline b bs (newline (omega arith))
first_line (b ∷ []) (suc n) some within none newline =
    let last : n ≡ 0 = omega arith in
    at_byte b [] (none 0 (omega arith)) ∙ rw last refl
first_line (b ∷ c ∷ bs) (suc n) some within none newline =
    at_byte b (c ∷ bs) (none 0 (omega arith))
    ∙ ap (λ ls. before_lines b ls) (first_line (c ∷ bs) n (λ e. cc) (omega (arith, within)) (λ k l. none (suc k) (omega (arith, l))) (λ l. newline (omega (arith, l))))

-- what is left of a text from a place on
whole_rest : (text : List ℕ) (at : ℕ) → take (length text - at) (drop at text) ≡ drop at text
whole_rest text at = take_all (length text - at) (drop at text) (omega (arith, length-drop at text))

rest_after : (text : List ℕ) (at n : ℕ) → at + n + 1 ≡ at + (n + 1) → drop (n + 1) (drop at text) ≡ drop (at + n + 1) text
rest_after text at n far = drop-drop (n + 1) at text ∙ ap (λ (k : ℕ). drop k text) (sym far)

pub fits_rest : (text : List ℕ) (at n : ℕ) → at < length text → n ≤ length (take (length text - at) (drop at text)) → at + n + 1 ≤ length text + 1
fits_rest text at n within few = let l = ap (λ (xs : List ℕ). length xs) (whole_rest text at) in omega (arith, l, length-drop at text, within, few)

pub none_left : (text : List ℕ) (at : ℕ) → length text ≤ at → lines_of (drop at text) ≡ []
none_left text at past = ap lines_of (drop_all at text past)

-- a line that begins at a place, and what is left after it
pub cut_at : (text : List ℕ) (at n : ℕ) → at < length text
    → (take (length text - at) (drop at text) ≢ [] → lines_of (take (length text - at) (drop at text)) ≡ take n (take (length text - at) (drop at text)) ∷ lines_of (drop (n + 1) (take (length text - at) (drop at text))))
    → lines_of (drop at text) ≡ take (at + n - at) (drop at text) ∷ lines_of (drop (at + n + 1) text)
cut_at text at n within first =
    let rest = whole_rest text at in
    let cut : drop at text ≢ [] → lines_of (drop at text) ≡ take n (drop at text) ∷ lines_of (drop (n + 1) (drop at text)) =
    subst (λ (r : List ℕ). r ≢ [] → lines_of r ≡ take n r ∷ lines_of (drop (n + 1) r)) rest first in
    let some : drop at text ≢ [] = λ none. (let l = ap (λ (xs : List ℕ). length xs) none in absurd (omega (arith, l, length-drop at text, within))) in
    let same : at + n - at ≡ n = omega arith in
    let far : at + n + 1 ≡ at + (n + 1) = omega arith in
    cut some ∙ (λ i. take (sym same i) (drop at text) ∷ lines_of (rest_after text at n far i))
