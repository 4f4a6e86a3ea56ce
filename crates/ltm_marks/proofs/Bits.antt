-- One bit is set or cleared.
use Rattle.std.proofs.Common.{◌≡◌, ◌≢◌, ℕ, ◌+◌, ◌-◌, ◌*◌, ◌/◌, ◌%◌, ◌^◌, ◌<◌, ◌≤◌, ◌⊎◌, ◌==◌, Bool, true, false, length, get_or, slice_index, slice_set, arith, inl, inr, refl, ap, sym, ◌∙◌, w64, bit_and, bit_or, get_or-set_same, get_or-set_other, replicate, List, ◌++◌}
use Rattle.std.specs.Int.{bit_at, bit_not, trailing_zeros}
use Rattle.std.proofs.Math.Nat.{mul-le-mul_right, div-div-eq-div-mul, div-le_self}
use Rattle.std.proofs.lemmas.Nat.{mod_below, pow-add}
use Rattle.std.proofs.lemmas.Nat.Bits.{bit_at_set_same, bit_at_set_other, bit_at_clear_same, bit_at_clear_other, bit_at-zero, bit_at-trailing_zeros, bit_at_above}
use Rattle.std.proofs.lemmas.Bool.{cases_eq, cases_lt}
use Rattle.std.proofs.lemmas.List.{get_or-replicate, get_or_past, length-replicate, get_or_append_left, get_or-append_right}
use Rattle.ltm_units.specs.Bounds.{most_marked}
use Rattle.ltm_marks.specs.declared.marks.Marks.{Marks}
use Rattle.ltm_marks.specs.Bits.{NoBit, IsFirstBit}
use Rattle.ltm_marks.specs.Marks.{width_of, rows_of, word_of, is_marked, SetsMark, ClearsRows, IsNextInWord, HasNoneInWord}

-- pairs in one word have other bits
other_bit : (words u t w v : ℕ) → u / 64 < words → w / 64 < words → v * words + w / 64 ≡ t * words + u / 64 → (u ≡ w → t ≡ v → ⊥) → w % 64 ≢ u % 64
other_bit words u t w v in_u in_w at other bit =
    elim (cases_lt v t) [
      | inl less ↦ let next : v + 1 ≤ t = omega arith in let times : (v + 1) * words ≤ t * words = mul-le-mul_right words next in omega (times, at, in_w, arith)
      | inr high ↦ elim (cases_lt t v) [
        | inl more ↦ let next : t + 1 ≤ v = omega arith in let times : (t + 1) * words ≤ v * words = mul-le-mul_right words next in omega (times, at, in_u, arith)
        | inr low ↦
            let same : t ≡ v = omega arith in
            let times : t * words ≡ v * words = ap (λ z. z * words) same in
            let word : u / 64 ≡ w / 64 = omega (times, at, arith) in
            other (omega (word, bit, arith)) same
      ]
    ]

in_words : (m : Marks) (u : ℕ) → m.words ≡ m.width / 64 + 1 → u < m.width → u / 64 < m.words
in_words m u wide x = omega arith

-- a word with one bit of a value in place of it
pub sets_mark : (old new : Marks) (u t x : ℕ) (value : Bool) → old.words ≡ old.width / 64 + 1 → u < width_of old → t < rows_of old → word_of old u t < length old.bits.items →
    new.width ≡ old.width → new.rows ≡ old.rows → new.room ≡ old.room → new.words ≡ old.words → new.bits.items ≡ slice_set old.bits.items (word_of old u t) x →
    (bit_at x (u % 64) == 1) ≡ value → ((i : ℕ) → i < 64 → i ≢ u % 64 → bit_at x i ≡ bit_at (slice_index old.bits.items (word_of old u t)) i) → SetsMark old new u t value
unfolding is_marked
sets_mark old new u t x value wide node slot within nodes slots room words bits here others =
    let at : ℕ = word_of old u t in
    record {
      size = record { width = nodes; rows = slots; room = room };
      here = rw (words, bits, get_or-set_same old.bits.items at x 0 within) here;
      others = λ w v y l other. rw (words, bits) (elim (cases_eq (word_of old w v) at) [
        | inl same ↦
            let bit : w % 64 ≢ u % 64 = other_bit old.words u t w v (in_words old u wide node) (in_words old w wide y) same other in
            let e : get_or (slice_set old.bits.items at x) (word_of old w v) 0 ≡ x = ap (λ i. get_or (slice_set old.bits.items at x) i 0) same ∙ get_or-set_same old.bits.items at x 0 within in
            let f : get_or old.bits.items at 0 ≡ get_or old.bits.items (word_of old w v) 0 = ap (λ i. get_or old.bits.items i 0) (sym same) in
            ap (λ z. bit_at z (w % 64) == 1) e ∙ (ap (λ z. z == 1) (others (w % 64) (mod_below w 64 (omega arith)) bit) ∙ ap (λ z. bit_at z (w % 64) == 1) f)
        | inr apart ↦ ap (λ z. bit_at z (w % 64) == 1) (get_or-set_other old.bits.items at (word_of old w v) x 0 apart)
      ]);
    }

pub marks_bit : (n k : ℕ) → k < 64 → ((bit_at (bit_or n (1 * 2 ^ k % 2 ^ 64)) k == 1) ≡ true) × ((i : ℕ) → i < 64 → i ≢ k → bit_at (bit_or n (1 * 2 ^ k % 2 ^ 64)) i ≡ bit_at n i)
marks_bit n k l = (rw (bit_at_set_same w64 n k l) refl, λ i m apart. bit_at_set_other w64 n k l i apart)

pub clears_bit : (n k : ℕ) → k < 64 → ((bit_at (bit_and n (bit_not w64 (1 * 2 ^ k % 2 ^ 64))) k == 1) ≡ false) × ((i : ℕ) → i < 64 → i ≢ k → bit_at (bit_and n (bit_not w64 (1 * 2 ^ k % 2 ^ 64))) i ≡ bit_at n i)
clears_bit n k l = (rw (bit_at_clear_same w64 n k l) refl, λ i m apart. bit_at_clear_other w64 n k l i m apart)

-- ---- the first set bit
shifted : (n f i : ℕ) → bit_at (n / 2 ^ f) i ≡ bit_at n (f + i)
shifted n f i = ap (λ x. x % 2) (div-div-eq-div-mul n (2 ^ f) (2 ^ i) ∙ ap (λ x. n / x) (sym (pow-add 2 f i)))

from_shift : (n f i : ℕ) → f ≤ i → bit_at n i ≡ bit_at (n / 2 ^ f) (i - f)
from_shift n f i l = let e : f + (i - f) ≡ i = omega arith in ap (λ x. bit_at n x) (sym e) ∙ sym (shifted n f (i - f))

pub none_from : (n f : ℕ) → n / 2 ^ f ≡ 0 → NoBit n f
none_from n f none i l m = from_shift n f i l ∙ ap (λ x. bit_at x (i - f)) none ∙ bit_at-zero (i - f)

pub first_is : (n f : ℕ) → n < 2 ^ 64 → (n / 2 ^ f ≡ 0 → ⊥) → IsFirstBit n f (f + trailing_zeros w64 (n / 2 ^ f))
first_is n f small some =
    let r : ℕ = n / 2 ^ f in
    let within : r ≤ n = div-le_self n (2 ^ f) in
    let facts : (trailing_zeros w64 r < 64) × (bit_at r (trailing_zeros w64 r) ≡ 1) × ((i : ℕ) → i < trailing_zeros w64 r → bit_at r i ≡ 0) = bit_at-trailing_zeros w64 r (omega arith) (omega arith) in
    let one : bit_at n (f + trailing_zeros w64 r) ≡ 1 = sym (shifted n f (trailing_zeros w64 r)) ∙ facts.1 in
    record {
      is_bit = elim (cases_lt (f + trailing_zeros w64 r) 64) [
        | inl low ↦ low
        | inr high ↦ let none : bit_at n (f + trailing_zeros w64 r) ≡ 0 = bit_at_above n 64 (f + trailing_zeros w64 r) small high in absurd (omega (arith, one, none))
      ];
      least = omega arith;
      set = one;
      before = λ i l m. from_shift n f i l ∙ facts.2 (i - f) (omega arith);
    }

-- ---- the first mark in a word
same_word : (m : Marks) (t u w : ℕ) → w / 64 ≡ u / 64 → word_of m w t ≡ word_of m u t
same_word m t u w e = ap (λ z. t * m.words + z) e

pub none_in_word : (m : Marks) (t from : ℕ) → NoBit (slice_index m.bits.items (word_of m from t)) (from % 64) → HasNoneInWord m t from
unfolding is_marked
none_in_word m t from none w l e =
    let z : bit_at (slice_index m.bits.items (word_of m w t)) (w % 64) ≡ 0 =
    ap (λ k. bit_at (slice_index m.bits.items k) (w % 64)) (same_word m t from w e) ∙ none (w % 64) (omega arith) (mod_below w 64 (omega arith)) in
    rw z refl

pub first_in_word : (m : Marks) (t from found : ℕ) → IsFirstBit (slice_index m.bits.items (word_of m from t)) (from % 64) found → IsNextInWord m t from (from - from % 64 + found)
unfolding is_marked
first_in_word m t from found is =
    let n : ℕ = slice_index m.bits.items (word_of m from t) in
    let u : ℕ = from - from % 64 + found in
    let least : from % 64 ≤ found = is.least in
    let low : found < 64 = is.is_bit in
    let word : u / 64 ≡ from / 64 = omega arith in
    let bit : u % 64 ≡ found = omega arith in
    record {
      least = omega arith;
      in_word = word;
      marked =
          let one : bit_at (slice_index m.bits.items (word_of m u t)) (u % 64) ≡ 1 =
          ap (λ k. bit_at (slice_index m.bits.items k) (u % 64)) (same_word m t from u word) ∙ (ap (λ k. bit_at n k) bit ∙ is.set) in
          rw one refl;
      before = λ w l b.
          let e : w / 64 ≡ from / 64 = omega arith in
          let z : bit_at (slice_index m.bits.items (word_of m w t)) (w % 64) ≡ 0 =
          ap (λ k. bit_at (slice_index m.bits.items k) (w % 64)) (same_word m t from w e) ∙ is.before (w % 64) (omega arith) (omega arith) in
          rw z refl;
    }

-- without bits no pair is marked
pub zero_at : (n i : ℕ) → slice_index (replicate n 0) i ≡ 0
zero_at n i = elim (cases_lt i n) [ inl low ↦ get_or-replicate n i 0 0 low | inr past ↦ get_or_past (replicate n 0) i 0 (omega (arith, length-replicate {A = ℕ} n 0)) ]

pub none_marked : (m : Marks) (n w v : ℕ) → m.bits.items ≡ replicate n 0 → is_marked m w v ≡ false
unfolding is_marked
none_marked m n w v zeros = rw (zeros, zero_at n (word_of m w v), bit_at-zero (w % 64)) refl

pub words_fit : (slots words : ℕ) → slots ≤ most_marked → words ≤ most_marked / 64 + 1 → slots * words ≤ most_marked * (most_marked / 64 + 1)
words_fit slots words l m = let x : slots * words ≤ most_marked * words = mul-le-mul_right words l in omega arith

-- from a word on there are no bits, so no place is marked there
pub none_from_word : (m : Marks) (n place row : ℕ) → ((i : ℕ) → n ≤ i → slice_index m.bits.items i ≡ 0) → n ≤ word_of m place row → is_marked m place row ≡ false
unfolding is_marked
none_from_word m n place row none at = rw (none (word_of m place row) at, bit_at-zero (place % 64)) refl

-- the words of later rows come later
pub later_word : (words rows place row : ℕ) → rows ≤ row → rows * words ≤ row * words + place / 64
later_word words rows place row l = let x : rows * words ≤ row * words = mul-le-mul_right words l in omega arith

-- words without bits at the end change no mark
pub zeros_after : (xs : List ℕ) (n i : ℕ) → slice_index (xs ++ replicate n 0) i ≡ slice_index xs i
zeros_after xs n i = elim (cases_lt i (length xs)) [
  | inl low ↦ get_or_append_left xs (replicate n 0) 0 i low
  | inr past ↦ get_or-append_right xs (replicate n 0) (length xs) i 0 refl past ∙ (zero_at n (i - length xs) ∙ sym (get_or_past xs i 0 past))
]

pub same_marks : (old new : Marks) → new.words ≡ old.words → ((i : ℕ) → slice_index new.bits.items i ≡ slice_index old.bits.items i) → (p r : ℕ) → is_marked new p r ≡ is_marked old p r
unfolding is_marked
same_marks old new words bits p r = rw words (ap (λ z. bit_at z (p % 64) == 1) (bits (word_of old p r)))

-- the words of the rows that are there and of those that come behind
pub more_rows : (room rows words x y : ℕ) → room ≤ rows → x ≡ room * words → y ≡ (rows - room) * words → x + y ≡ rows * words
more_rows room rows words x y l a b =
    let e : room + (rows - room) ≡ rows = omega arith in
    let f : (room + (rows - room)) * words ≡ rows * words = ap (λ z. z * words) e in
    omega (arith, a, b, f)

-- a mark is the bit of its place in the word of any place beside it
pub mark_in_word : (m : Marks) (row place p : ℕ) → p / 64 ≡ place / 64 → is_marked m p row ≡ (bit_at (slice_index m.bits.items (word_of m place row)) (p % 64) == 1)
unfolding is_marked
mark_in_word m row place p e = ap (λ k. bit_at (slice_index m.bits.items k) (p % 64) == 1) (same_word m row place p e)

-- ---- rows without bits
rows_in_order : (words from to : ℕ) → from ≤ to → from * words ≤ to * words
rows_in_order words from to l = mul-le-mul_right words l

-- a row lies behind all words of the rows before it
behind : (words p r rows : ℕ) → rows ≤ r → rows * words ≤ r * words + p / 64
behind words p r rows l = let a : rows * words ≤ r * words = rows_in_order words rows r l in omega (arith, a)

-- and before all words of the rows behind it
ahead : (words p r rows : ℕ) → p / 64 < words → r < rows → r * words + p / 64 < rows * words
ahead words p r rows x l =
    let next : r + 1 ≤ rows = omega arith in
    let a : (r + 1) * words ≤ rows * words = mul-le-mul_right words next in
    omega (arith, a, x)

pub clears_rows : (old new : Marks) (from to : ℕ) → old.words ≡ old.width / 64 + 1 → new.width ≡ old.width → new.rows ≡ old.rows → new.room ≡ old.room → new.words ≡ old.words →
    ((i : ℕ) → from * old.words ≤ i → i < to * old.words → slice_index new.bits.items i ≡ 0) →
    ((i : ℕ) → (i < from * old.words) ⊎ (to * old.words ≤ i) → slice_index new.bits.items i ≡ slice_index old.bits.items i) → ClearsRows old new from to
unfolding is_marked
clears_rows old new from to wide width rows room words none others = record {
  size = record { width = width; rows = rows; room = room };
  none = λ p r x l m. rw (words, none (word_of old p r) (behind old.words p r from l) (ahead old.words p r to (in_words old p wide x) m), bit_at-zero (p % 64)) refl;
  others = λ p r x either. rw words (ap (λ z. bit_at z (p % 64) == 1) (others (word_of old p r) (elim either [
    | inl low ↦ inl (ahead old.words p r from (in_words old p wide x) low)
    | inr high ↦ inr (behind old.words p r to high)
  ])));
}
