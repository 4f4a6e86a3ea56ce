-- One byte more of a line.
use Rattle.std.proofs.Common.{ℕ, suc, ◌≡◌, ◌+◌, ◌<◌, ◌≤◌, ◌==◌, Bool, true, false, List, [], ◌∷◌, ◌++◌, length, Option, Some, None, IfSome, refl, ap, sym, ◌∙◌, append_assoc, length-append, arith, if◌then◌else◌}
use Rattle.std.proofs.lemmas.List.{append-nil}
use Rattle.std.proofs.lemmas.Bool.{le-ltb, lt-ltb}
use Rattle.ltm_io.specs.Script.{lines_of, before_lines, before_first, whole_lines, after_line}
use Rattle.ltm_io.specs.Source.{prepended}
use Rattle.ltm_io.specs.Bytes.{TakesOne}
use Rattle.ltm_io.specs.Answers.{answer_to, Answers, GivesLine, CutsLine}
use Rattle.ltm_io.specs.declared.lines.Line.TheVariants.{Text, End, TooLong}

-- what stands before the first newline, or all
abbrev pub first_line : List ℕ → List ℕ
first_line [] = []
first_line (b ∷ bs) = if b == 10 then [] else b ∷ first_line bs

newline_first : (b : ℕ) (bs : List ℕ) → (b == 10) ≡ true → first_line (b ∷ bs) ≡ []
newline_first b bs h = rw h refl

plain_first : (b : ℕ) (bs : List ℕ) → (b == 10) ≡ false → first_line (b ∷ bs) ≡ b ∷ first_line bs
plain_first b bs h = rw h refl

newline_after : (b : ℕ) (bs : List ℕ) → (b == 10) ≡ true → after_line (b ∷ bs) ≡ bs
newline_after b bs h = rw h refl

plain_after : (b : ℕ) (bs : List ℕ) → (b == 10) ≡ false → after_line (b ∷ bs) ≡ after_line bs
plain_after b bs h = rw h refl

newline_cut : (b : ℕ) (bs : List ℕ) → (b == 10) ≡ true → lines_of (b ∷ bs) ≡ [] ∷ lines_of bs
newline_cut b bs h = rw h refl

plain_cut : (b : ℕ) (bs : List ℕ) → (b == 10) ≡ false → lines_of (b ∷ bs) ≡ before_lines b (lines_of bs)
plain_cut b bs h = rw h refl

cut_after : (b : ℕ) (bs : List ℕ) (t : Bool) → (b == 10) ≡ t → (0 < length bs → lines_of bs ≡ first_line bs ∷ lines_of (after_line bs))
    → lines_of (b ∷ bs) ≡ first_line (b ∷ bs) ∷ lines_of (after_line (b ∷ bs))
cut_after b bs true h more =
    newline_cut b bs h ∙ ap (λ l. l ∷ lines_of bs) (sym (newline_first b bs h)) ∙ ap (λ r. first_line (b ∷ bs) ∷ lines_of r) (sym (newline_after b bs h))
cut_after b [] false h more =
    plain_cut b [] h ∙ ap (λ l. l ∷ []) (sym (plain_first b [] h)) ∙ ap (λ r. first_line (b ∷ []) ∷ lines_of r) (sym (plain_after b [] h))
cut_after b (c ∷ cs) false h more =
    plain_cut b (c ∷ cs) h ∙ ap (before_lines b) (more (omega arith))
    ∙ ap (λ l. l ∷ lines_of (after_line (c ∷ cs))) (sym (plain_first b (c ∷ cs) h)) ∙ ap (λ r. first_line (b ∷ c ∷ cs) ∷ lines_of r) (sym (plain_after b (c ∷ cs) h))

-- a script that is not empty is its first line and the lines of the rest
pub cut : (bytes : List ℕ) → 0 < length bytes → lines_of bytes ≡ first_line bytes ∷ lines_of (after_line bytes)
cut [] some = absurd (omega (arith, some))
cut (b ∷ bs) some = cut_after b bs (b == 10) refl (cut bs)

-- the line so far stands before the bytes that are left, and no byte of it is a newline
pub record Progress (bytes line rest : List ℕ) : Type 0 where
  pub whole : bytes ≡ line ++ rest
  pub first : first_line bytes ≡ line ++ first_line rest
  pub after : after_line bytes ≡ after_line rest

abbrev pub Progresses : Option (List ℕ) → List ℕ → Option (List ℕ) → Type 0
Progresses None line now = now ≡ None
Progresses (Some bytes) line now = (rest : List ℕ) × (now ≡ Some rest) × Progress bytes line rest

pub start : (told : Option (List ℕ)) → Progresses told [] told
start None = refl
start (Some bytes) = (bytes, refl, record { whole = refl; first = refl; after = refl })

-- the first byte of what is told
none_before : (b : ℕ) (new : Option (List ℕ)) → None ≡ prepended (b ∷ []) new → new ≡ None
none_before b None h = refl
none_before b (Some more) h = cc

some_before : (rest : List ℕ) (b : ℕ) (new : Option (List ℕ)) → Some rest ≡ prepended (b ∷ []) new → (more : List ℕ) × (rest ≡ b ∷ more) × (new ≡ Some more)
some_before rest b None h = cc
some_before rest b (Some more) h = let same : Some rest ≡ Some (b ∷ more) = h in let is : rest ≡ b ∷ more = cc in (more, is, refl)

-- a byte that is no newline joins the line
pub joins : (told now new : Option (List ℕ)) (line : List ℕ) (b : ℕ) → Progresses told line now → TakesOne now (Some b) new → (b == 10) ≡ false → Progresses told (line ++ b ∷ []) new
joins None now new line b p t plain = none_before b new (sym p ∙ t)
joins (Some bytes) now new line b (rest, at_now, p) t plain =
    let (more, is, at_new) = some_before rest b new (sym at_now ∙ t) in (
      more,
      at_new,
      record {
        whole = p.whole ∙ ap (λ r. line ++ r) is ∙ sym (append_assoc line (b ∷ []) more);
        first = p.first ∙ ap (λ r. line ++ r) (ap first_line is ∙ plain_first b more plain) ∙ sym (append_assoc line (b ∷ []) (first_line more));
        after = p.after ∙ ap after_line is ∙ plain_after b more plain;
      },
    )

-- the answer to a first line that fits, or does not
fitting : (max : ℕ) (line : List ℕ) (lines : List (List ℕ)) → length line ≤ max → Text ≡ answer_to max (line ∷ lines)
fitting max line lines fits = rw (le-ltb max (length line) fits) refl

passing : (max : ℕ) (line : List ℕ) (lines : List (List ℕ)) → max < length line → TooLong ≡ answer_to max (line ∷ lines)
passing max line lines long = rw (lt-ltb max (length line) long) refl

-- the line is the first, and these are the others
pub record IsFirst (bytes line rest : List ℕ) : Type 0 where
  pub lines : lines_of bytes ≡ line ∷ lines_of (after_line bytes)
  pub after : after_line bytes ≡ rest

given : (told : List ℕ) (line rest : List ℕ) (new : Option (List ℕ)) → new ≡ Some rest → IsFirst told line rest → GivesLine (Some told) line new
given told line rest new at_new f = (f.lines, at_new ∙ ap Some (sym f.after))

-- a newline ends the line
newline_ends : (bytes line rest more : List ℕ) (b : ℕ) → Progress bytes line rest → rest ≡ b ∷ more → (b == 10) ≡ true → IsFirst bytes line more
newline_ends bytes line rest more b p is newline =
    let long : length bytes ≡ length line + suc (length more) = ap length (p.whole ∙ ap (λ r. line ++ r) is) ∙ length-append line (b ∷ more) in
    let first : first_line bytes ≡ line = p.first ∙ ap (λ r. line ++ r) (ap first_line is ∙ newline_first b more newline) ∙ append-nil line in
    record {
      lines = cut bytes (omega (arith, long)) ∙ ap (λ l. l ∷ lines_of (after_line bytes)) first;
      after = p.after ∙ ap after_line is ∙ newline_after b more newline;
    }

-- and so does the end
end_ends : (bytes line rest : List ℕ) → 0 < length line → Progress bytes line rest → rest ≡ [] → IsFirst bytes line []
end_ends bytes line rest some p empty =
    let first : first_line bytes ≡ line = p.first ∙ ap (λ r. line ++ first_line r) empty ∙ append-nil line in
    record {
      lines = cut bytes (omega (arith, ap length p.whole, length-append line rest)) ∙ ap (λ l. l ∷ lines_of (after_line bytes)) first;
      after = p.after ∙ ap after_line empty;
    }

pub ends_line : (told now new : Option (List ℕ)) (line : List ℕ) (b : ℕ) → Progresses told line now → TakesOne now (Some b) new → (b == 10) ≡ true → GivesLine told line new
ends_line None now new line b p t newline = none_before b new (sym p ∙ t)
ends_line (Some bytes) now new line b (rest, at_now, p) t newline =
    let (more, is, at_new) = some_before rest b new (sym at_now ∙ t) in
    given bytes line more new at_new (newline_ends bytes line rest more b p is newline)

pub ends_text : (max : ℕ) (told now new : Option (List ℕ)) (line : List ℕ) (b : ℕ) → length line ≤ max → Progresses told line now → TakesOne now (Some b) new → (b == 10) ≡ true → Answers max Text told
ends_text max None now new line b fits p t newline = tt
ends_text max (Some bytes) now new line b fits (rest, at_now, p) t newline =
    let (more, is, at_new) = some_before rest b new (sym at_now ∙ t) in
    let f : IsFirst bytes line more = newline_ends bytes line rest more b p is newline in
    fitting max line (lines_of (after_line bytes)) fits ∙ ap (answer_to max) (sym f.lines)

-- what is left where nothing is left
left_none : (rest : List ℕ) (now new : Option (List ℕ)) → now ≡ Some rest → TakesOne now None new → (rest ≡ []) × (new ≡ Some [])
left_none rest now new is (same, none) =
    let empty : rest ≡ [] = let told : IfSome (Some rest) (λ bytes. bytes ≡ []) = rw is at none in told in
    (empty, same ∙ is ∙ ap Some empty)

pub last_line : (told now new : Option (List ℕ)) (line : List ℕ) → 0 < length line → Progresses told line now → TakesOne now None new → GivesLine told line new
last_line None now new line some p t = t.0 ∙ p
last_line (Some bytes) now new line some (rest, at_now, p) t =
    let (empty, at_new) = left_none rest now new at_now t in
    given bytes line [] new at_new (end_ends bytes line rest some p empty)

pub last_text : (max : ℕ) (told now new : Option (List ℕ)) (line : List ℕ) → 0 < length line → length line ≤ max → Progresses told line now → TakesOne now None new → Answers max Text told
last_text max None now new line some fits p t = tt
last_text max (Some bytes) now new line some fits (rest, at_now, p) t =
    let (empty, at_new) = left_none rest now new at_now t in
    let f : IsFirst bytes line [] = end_ends bytes line rest some p empty in
    fitting max line (lines_of (after_line bytes)) fits ∙ ap (answer_to max) (sym f.lines)

-- no line is left
pub no_line : (max : ℕ) (told now new : Option (List ℕ)) (line : List ℕ) → length line ≡ 0 → Progresses told line now → TakesOne now None new → Answers max End told
no_line max None now new line none p t = tt
no_line max (Some bytes) now new [] none (rest, at_now, p) t =
    let (empty, at_new) = left_none rest now new at_now t in ap (λ l. answer_to max (lines_of l)) (sym (p.whole ∙ empty))
no_line max (Some bytes) now new (x ∷ line) none p t = absurd (omega arith)

pub same_end : (told now new : Option (List ℕ)) (line : List ℕ) → length line ≡ 0 → Progresses told line now → TakesOne now None new → new ≡ told
same_end None now new line none p t = t.0 ∙ p
same_end (Some bytes) now new [] none (rest, at_now, p) t = t.0 ∙ at_now ∙ ap Some (sym p.whole)
same_end (Some bytes) now new (x ∷ line) none p t = absurd (omega arith)

-- a byte past the greatest length
pub passes : (max : ℕ) (told now new : Option (List ℕ)) (line : List ℕ) (b : ℕ) → max ≤ length line → Progresses told line now → TakesOne now (Some b) new → (b == 10) ≡ false → Answers max TooLong told
passes max None now new line b full p t plain = tt
passes max (Some bytes) now new line b full (rest, at_now, p) t plain =
    let (more, is, at_new) = some_before rest b new (sym at_now ∙ t) in
    let first : first_line bytes ≡ line ++ (b ∷ first_line more) = p.first ∙ ap (λ r. line ++ r) (ap first_line is ∙ plain_first b more plain) in
    let long : length bytes ≡ length line + suc (length more) = ap length (p.whole ∙ ap (λ r. line ++ r) is) ∙ length-append line (b ∷ more) in
    passing max (first_line bytes) (lines_of (after_line bytes)) (omega (arith, full, ap length first, length-append line (b ∷ first_line more)))
    ∙ ap (answer_to max) (sym (cut bytes (omega (arith, long))))

-- ---- a read failed
none_whole : (b : ℕ) (lines : List (List ℕ)) → before_first b lines ≡ [] → lines ≡ []
none_whole b [] h = refl
none_whole b (line ∷ lines) h = cc

unended_rest : (b : ℕ) (bs : List ℕ) (t : Bool) → (b == 10) ≡ t → whole_lines (b ∷ bs) ≡ [] → (t ≡ false) × (whole_lines bs ≡ [])
unended_rest b bs true h none = let whole : [] ∷ whole_lines bs ≡ [] = rw h at none in absurd (cc)
unended_rest b bs false h none = let rest : before_first b (whole_lines bs) ≡ [] = rw h at none in (refl, none_whole b (whole_lines bs) rest)

plain_whole : (b : ℕ) (bs : List ℕ) → (b == 10) ≡ false → whole_lines bs ≡ [] → whole_lines (b ∷ bs) ≡ []
plain_whole b bs h none = rw (h, none) refl

-- a byte that is no newline ends no line
pub unended : (line : List ℕ) (b : ℕ) → whole_lines line ≡ [] → (b == 10) ≡ false → whole_lines (line ++ b ∷ []) ≡ []
unended [] b none plain = plain_whole b [] plain refl
unended (c ∷ line) b none plain =
    let (kind, rest) = unended_rest c line (c == 10) refl none in
    plain_whole c (line ++ b ∷ []) kind (unended line b rest plain)

-- what came of a line stands before what is left in the source
pub cuts : (told now left : Option (List ℕ)) (line : List ℕ) → whole_lines line ≡ [] → Progresses told line now → now ≡ left → CutsLine told line left
cuts None now left line none p is = (ap (prepended line) (sym p ∙ is), none)
cuts (Some bytes) now left line none (rest, at_now, p) is = (ap Some p.whole ∙ ap (prepended line) (sym at_now ∙ is), none)

pub ruleset line_steps = (joins, ends_line, ends_text, last_line, last_text, no_line, same_end, passes, start, unended, cuts)
