-- The records of a file of splits, as they are written, and as csv reads them.
use Rattle.std.proofs.Common.{ℕ, zero, suc, ◌≡◌, ◌+◌, ◌≤◌, true, List, [], ◌∷◌, ◌++◌, length, map, refl, ap, sym, subst, arith, ◌∙◌, append_assoc, length-append}
use Rattle.std.specs.Prelude.{codes, None, if◌then◌else◌}
use Rattle.std.proofs.lemmas.List.{append-nil}
use Rattle.std.proofs.lemmas.List.Elements.{All-head, All-tail}
use Rattle.csv.specs.Machine.{next_record}
use Rattle.csv.specs.Reading.{default_config, records_from, strip_bom}
use Rattle.csv.specs.Writing.{default_writer, field_text, fields_text, row_text, row_body, is_blank, read_back}
use Rattle.csv.specs.declared.parser.State.TheVariants as st
use Rattle.csv.proofs.RoundTrip.{read-write, rows_text}
use Rattle.ltm_units.specs.Words.{is_name}
use Rattle.ltm_records.specs.Fields.{Fields}
use Rattle.ltm_records.specs.Left.{records_of}
use Rattle.ltm_report.specs.Routes.{splits_header_line, entry_piece, further_entries, entries, key_piece, route_row_line}
use Rattle.ltm_routes_command.proofs.Plain.{IsPlain, AllNames, name_is_plain, plain_append}

-- the fields of a split row
abbrev pub fields_of_row : List ℕ → List ℕ → List (List ℕ) → Fields
fields_of_row node destination links = node ∷ destination ∷ codes "0" ∷ entries links ∷ []

abbrev pub header_fields : Fields
header_fields = codes "node" ∷ codes "destination" ∷ codes "from_slot" ∷ codes "weights" ∷ []

-- four fields that need no quotes
row_is : (a b c d : List ℕ) → IsPlain a → IsPlain b → IsPlain c → IsPlain d
    → row_text default_writer (a ∷ b ∷ c ∷ d ∷ []) ≡ (a ++ (44 ∷ (b ++ (44 ∷ (c ++ (44 ∷ (d ++ []))))))) ++ (10 ∷ [])
unfolding is_blank fields_text
row_is a b c d pa pb pc pd = rw (pa, pb, pc, pd) refl

line_is : (n d e : List ℕ) → (((n ++ codes ",") ++ d) ++ codes ",0,") ++ e ++ codes "\n" ≡ (n ++ (44 ∷ (d ++ (44 ∷ (codes "0" ++ (44 ∷ (e ++ []))))))) ++ (10 ∷ [])
line_is n d e = rw (append-nil e) (simp append_assoc refl)

entry_plain : (link : List ℕ) → is_name link ≡ true → IsPlain (entry_piece link)
unfolding entry_piece
entry_plain link is = plain_append link (codes "=1") (name_is_plain link is) refl

further_plain : (links : List (List ℕ)) → AllNames links → IsPlain (further_entries links)
further_plain [] named = refl
further_plain (link ∷ links) named =
    plain_append (codes " " ++ entry_piece link) (further_entries links)
    (plain_append (codes " ") (entry_piece link) refl (entry_plain link (All-head (λ name. is_name name ≡ true) link links named)))
    (further_plain links (All-tail (λ name. is_name name ≡ true) link links named))

entries_plain : (links : List (List ℕ)) → AllNames links → IsPlain (entries links)
entries_plain [] named = refl
entries_plain (link ∷ links) named =
    plain_append (entry_piece link) (further_entries links) (entry_plain link (All-head (λ name. is_name name ≡ true) link links named))
    (further_plain links (All-tail (λ name. is_name name ≡ true) link links named))

-- a line of a split row is its record as csv writes it
pub row_line : (node destination : List ℕ) (links : List (List ℕ)) → is_name node ≡ true → is_name destination ≡ true → AllNames links
    → row_text default_writer (fields_of_row node destination links) ≡ route_row_line node destination links
unfolding route_row_line key_piece
row_line node destination links named end all =
    row_is node destination (codes "0") (entries links) (name_is_plain node named) (name_is_plain destination end) refl (entries_plain links all)
    ∙ sym (line_is node destination (entries links))

pub header_line : row_text default_writer header_fields ≡ splits_header_line
unfolding splits_header_line
header_line = row_is (codes "node") (codes "destination") (codes "from_slot") (codes "weights") refl refl refl refl

-- ---- what csv reads of such texts
ends : next_record default_config st.StartRecord [] [] [] ≡ None
unfolding next_record
ends = refl

all_read : (n : ℕ) (rows : List Fields) → length rows ≤ n → records_from default_config n st.StartRecord (rows_text rows) ≡ map read_back rows
unfolding records_from rows_text
all_read zero [] few = refl
all_read (suc n) [] few = rw ends refl
all_read zero (row ∷ rows) few = absurd (omega arith)
all_read (suc n) (row ∷ rows) few = rw (read-write row (rows_text rows)) (ap (λ t. read_back row ∷ t) (all_read n rows (omega arith)))

some_behind : (a b : List ℕ) → 1 ≤ length (a ++ (b ++ 10 ∷ []))
some_behind a b = let x = length-append a (b ++ 10 ∷ []) in let y = length-append b (10 ∷ []) in omega arith

row_some : (row : Fields) → 1 ≤ length (row_text default_writer row)
row_some row = some_behind (row_body default_writer row) (if is_blank default_writer row then 34 ∷ 34 ∷ [] else [])

rows_long : (rows : List Fields) → length rows ≤ length (rows_text rows)
unfolding rows_text
rows_long [] = omega arith
rows_long (row ∷ rows) =
    let more = rows_long rows in
    let both = length-append (row_text default_writer row) (rows_text rows) in
    let some = row_some row in omega arith

no_mark : (rest : List ℕ) → strip_bom (splits_header_line ++ rest) ≡ splits_header_line ++ rest
unfolding strip_bom splits_header_line
no_mark rest = refl

headed : (rows : List Fields) → rows_text (header_fields ∷ rows) ≡ splits_header_line ++ rows_text rows
unfolding rows_text
headed rows = ap (λ t. t ++ rows_text rows) header_line

-- a header and rows below it are read back
pub file_read : (rows : List Fields) → records_of (splits_header_line ++ rows_text rows) ≡ header_fields ∷ map read_back rows
file_read rows =
    let text : List ℕ = splits_header_line ++ rows_text rows in
    let long : length (header_fields ∷ rows) ≤ length text + 1 = subst (λ t. length (header_fields ∷ rows) ≤ length t + 1) (headed rows) (let l = rows_long (header_fields ∷ rows) in omega arith) in
    ap (λ t. records_from default_config (length t + 1) st.StartRecord t) (no_mark (rows_text rows))
    ∙ subst (λ t. records_from default_config (length text + 1) st.StartRecord t ≡ header_fields ∷ map read_back rows) (headed rows) (all_read (length text + 1) (header_fields ∷ rows) long)

pub texts_append : (xs ys : List Fields) → rows_text (xs ++ ys) ≡ rows_text xs ++ rows_text ys
unfolding rows_text
texts_append [] ys = refl
texts_append (x ∷ xs) ys = ap (λ t. row_text default_writer x ++ t) (texts_append xs ys) ∙ sym (append_assoc (row_text default_writer x) (rows_text xs) (rows_text ys))
