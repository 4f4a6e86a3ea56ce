-- The records of a written curve file are those that are due.
use Rattle.std.proofs.Common.{◌≡◌, ℕ, zero, suc, ◌+◌, ◌*◌, ◌/◌, ◌%◌, ◌<◌, ◌≤◌, false, List, [], ◌∷◌, ◌++◌, length, inl, inr, refl, sym, ap, ◌∙◌, arith, append_assoc, length-append, slice_index_or}
use Rattle.std.specs.List.{list_any}
use Rattle.std.proofs.lemmas.Bool.{cases_lt}
use Rattle.std.proofs.lemmas.List.{append-nil, get_or_append_left, get_or_push}
use Rattle.std.proofs.Math.Nat.{suc-mul}
use Rattle.std.proofs.lemmas.Nat.{div-mul-add, mod-mul-add}
use Rattle.csv.specs.Machine.{next_record}
use Rattle.csv.specs.Reading.{default_config, records_from}
use Rattle.csv.specs.Writing.{default_writer, needs_byte, fields_text, is_blank, row_text}
use Rattle.csv.specs.declared.parser.State.TheVariants as st
use Rattle.csv.proofs.RoundTrip.{rows_text, read-write}
use Rattle.ltm_records.specs.Fields.{Fields}
use Rattle.ltm_units.specs.Texts.{texts_below}

-- a field that calls for no quotes
abbrev pub IsPlain : List ℕ → Type 0
IsPlain x = list_any (needs_byte default_writer) x ≡ false

-- ---- the records of a table one after the other
abbrev pub rows_below : ℕ → (ℕ → Fields) → List Fields
rows_below zero row = []
rows_below (suc n) row = rows_below n row ++ row n ∷ []

pub length-rows_below : (n : ℕ) (row : ℕ → Fields) → length (rows_below n row) ≡ n
length-rows_below zero row = refl
length-rows_below (suc n) row = omega (arith, length-append (rows_below n row) (row n ∷ []), length-rows_below n row)

pub row_below : (n : ℕ) (row : ℕ → Fields) (k : ℕ) → k < n → slice_index_or (rows_below n row) k [] ≡ row k
row_below zero row k l = absurd (omega arith)
row_below (suc n) row k l = elim (cases_lt k n) [
  | inl less ↦ get_or_append_left (rows_below n row) (row n ∷ []) [] k (omega (arith, length-rows_below n row)) ∙ row_below n row k less
  | inr last ↦ let e : n ≡ k = omega arith in get_or_push (rows_below n row) (row n) [] k (omega (arith, length-rows_below n row)) ∙ ap row e
]

rows_text_none : rows_text [] ≡ []
unfolding rows_text
rows_text_none = refl

pub rows_text_first : (row : Fields) (rows : List Fields) → rows_text (row ∷ rows) ≡ row_text default_writer row ++ rows_text rows
unfolding rows_text
rows_text_first row rows = refl

rows_text_more : (rows : List Fields) (row : Fields) → rows_text (rows ++ row ∷ []) ≡ rows_text rows ++ row_text default_writer row
rows_text_more [] row = rows_text_first row [] ∙ (ap (λ (z : List ℕ). row_text default_writer row ++ z) rows_text_none ∙ (append-nil (row_text default_writer row) ∙ ap (λ (z : List ℕ). z ++ row_text default_writer row) (sym rows_text_none)))
rows_text_more (first ∷ rows) row =
    rows_text_first first (rows ++ row ∷ [])
    ∙ (ap (λ (z : List ℕ). row_text default_writer first ++ z) (rows_text_more rows row)
    ∙ (sym (append_assoc (row_text default_writer first) (rows_text rows) (row_text default_writer row)) ∙ ap (λ (z : List ℕ). z ++ row_text default_writer row) (sym (rows_text_first first rows))))

pub rows_are_texts : (n : ℕ) (row : ℕ → Fields) → rows_text (rows_below n row) ≡ texts_below n (λ k. row_text default_writer (row k))
rows_are_texts zero row = rows_text_none
rows_are_texts (suc n) row = rows_text_more (rows_below n row) (row n) ∙ ap (λ (z : List ℕ). z ++ row_text default_writer (row n)) (rows_are_texts n row)

-- ---- texts for each group and destination are texts for each place
pub texts_same : (n : ℕ) (f g : ℕ → List ℕ) → ((k : ℕ) → k < n → f k ≡ g k) → texts_below n f ≡ texts_below n g
texts_same zero f g same = refl
texts_same (suc n) f g same = ap (λ (z : List ℕ). z ++ f n) (texts_same n f g (λ k l. same k (omega arith))) ∙ ap (λ (z : List ℕ). texts_below n g ++ z) (same n (omega arith))

pub texts_at : (m n : ℕ) (f : ℕ → List ℕ) → m ≡ n → texts_below m f ≡ texts_below n f
texts_at m n f e = ap (λ (z : ℕ). texts_below z f) e

pub texts_add : (m n : ℕ) (f : ℕ → List ℕ) → texts_below (m + n) f ≡ texts_below m f ++ texts_below n (λ k. f (m + k))
texts_add m zero f = texts_at (m + 0) m f (omega arith) ∙ sym (append-nil (texts_below m f))
texts_add m (suc n) f = texts_at (m + suc n) (suc (m + n)) f (omega arith) ∙ (ap (λ (z : List ℕ). z ++ f (m + n)) (texts_add m n f) ∙ append_assoc (texts_below m f) (texts_below n (λ k. f (m + k))) (f (m + n)))

pub texts_by_place : (height width : ℕ) (f : ℕ → ℕ → List ℕ) → texts_below height (λ g. texts_below width (f g)) ≡ texts_below (height * width) (λ p. f (p / width) (p % width))
texts_by_place zero width f = texts_at 0 (0 * width) (λ p. f (p / width) (p % width)) (omega arith)
texts_by_place (suc height) width f =
    ap (λ (z : List ℕ). z ++ texts_below width (f height)) (texts_by_place height width f)
    ∙ (ap (λ (z : List ℕ). texts_below (height * width) (λ p. f (p / width) (p % width)) ++ z)
    (texts_same width (f height) (λ d. f ((height * width + d) / width) ((height * width + d) % width)) (λ d l.
    ap (λ (z : ℕ). f z d) (sym (div-mul-add height width d l)) ∙ ap (λ (z : ℕ). f ((height * width + d) / width) z) (sym (mod-mul-add height width d l))))
    ∙ (sym (texts_add (height * width) width (λ p. f (p / width) (p % width)))
    ∙ texts_at (height * width + width) (suc height * width) (λ p. f (p / width) (p % width)) (sym (suc-mul height width))))

-- ---- what a row of four plain fields is written as

four_joined : (a b c d : List ℕ) → (a ++ 44 ∷ (b ++ 44 ∷ (c ++ 44 ∷ (d ++ [])))) ++ 10 ∷ [] ≡ a ++ 44 ∷ (b ++ 44 ∷ (c ++ 44 ∷ (d ++ 10 ∷ [])))
four_joined a b c d = rw (append_assoc, append_assoc, append_assoc, append_assoc) refl

pub four_text : (a b c d : List ℕ) → IsPlain a → IsPlain b → IsPlain c → IsPlain d → row_text default_writer (a ∷ b ∷ c ∷ d ∷ []) ≡ a ++ 44 ∷ (b ++ 44 ∷ (c ++ 44 ∷ (d ++ 10 ∷ [])))
unfolding fields_text is_blank
four_text a b c d pa pb pc pd = rw (pa, pb, pc, pd) (four_joined a b c d)

-- ---- the records of rows that are written
pub rows_back : (rows : List Fields) (fuel : ℕ) → length rows < fuel → ((k : ℕ) → k < length rows → 1 ≤ length (slice_index_or rows k [])) → records_from default_config fuel st.StartRecord (rows_text rows) ≡ rows
unfolding records_from rows_text next_record
rows_back rows zero l some = absurd (omega arith)
rows_back [] (suc fuel) l some = refl
rows_back ([] ∷ rows) (suc fuel) l some = let none = some 0 (omega arith) in absurd (omega (arith, none))
rows_back ((field ∷ fields) ∷ rows) (suc fuel) l some =
    rw (read-write (field ∷ fields) (rows_text rows)) (ap (λ (z : List Fields). (field ∷ fields) ∷ z) (rows_back rows fuel (omega arith) (λ k m. some (suc k) (omega arith))))
