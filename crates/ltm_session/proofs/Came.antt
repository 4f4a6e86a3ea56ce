-- Which lines had come whole where a read failed.
use Rattle.std.proofs.Common.{ℕ, ◌≡◌, ◌⊎◌, inl, inr, ◌==◌, Bool, true, false, List, [], ◌∷◌, ◌++◌, refl, ap, sym, subst, ◌∙◌, append_assoc}
use Rattle.std.proofs.lemmas.List.{append-nil}
use Rattle.std.specs.Prelude.{Option, Some, None, IfSome}
use Rattle.ltm_io.specs.Script.{lines_of, before_lines, before_first, whole_lines, after_line}
use Rattle.ltm_session.specs.declared.ends.SessionEnd.{SessionEnd}
use Rattle.ltm_session.specs.declared.ends.SessionEnd.TheVariants.{ReadFault}
use Rattle.ltm_session.specs.Session.{CameWhole}
use Rattle.ltm_session.specs.Serving.{Begins, HasRead, EndsIfTold}

-- ---- the first line of a script
newline_after : (b : ℕ) (bs : List ℕ) → (b == 10) ≡ true → after_line (b ∷ bs) ≡ bs
newline_after b bs h = rw h refl

plain_after : (b : ℕ) (bs : List ℕ) → (b == 10) ≡ false → after_line (b ∷ bs) ≡ after_line bs
plain_after b bs h = rw h refl

newline_cut : (b : ℕ) (bs : List ℕ) → (b == 10) ≡ true → lines_of (b ∷ bs) ≡ [] ∷ lines_of bs
newline_cut b bs h = rw h refl

plain_cut : (b : ℕ) (bs : List ℕ) → (b == 10) ≡ false → lines_of (b ∷ bs) ≡ before_lines b (lines_of bs)
plain_cut b bs h = rw h refl

newline_whole : (b : ℕ) (bs : List ℕ) → (b == 10) ≡ true → whole_lines (b ∷ bs) ≡ [] ∷ whole_lines bs
newline_whole b bs h = rw h refl

plain_whole : (b : ℕ) (bs : List ℕ) → (b == 10) ≡ false → whole_lines (b ∷ bs) ≡ before_first b (whole_lines bs)
plain_whole b bs h = rw h refl

-- what a first line takes: a newline ends it, or nothing is left
abbrev pub TakesFirst : List ℕ → List ℕ → Type 0
TakesFirst bytes piece =
    ((line : List ℕ) × Begins piece (line ∷ []) × (lines_of bytes ≡ line ∷ lines_of (after_line bytes))) ⊎ (after_line bytes ≡ [])

newline_takes : (b : ℕ) (bs : List ℕ) → (b == 10) ≡ true → (piece : List ℕ) × (b ∷ bs ≡ piece ++ after_line (b ∷ bs)) × TakesFirst (b ∷ bs) piece
newline_takes b bs h = (
  b ∷ [],
  ap (λ r. b ∷ r) (sym (newline_after b bs h)),
  inl ([], λ more. newline_whole b more h, newline_cut b bs h ∙ ap (λ (r : List ℕ). [] ∷ lines_of r) (sym (newline_after b bs h))),
)

plain_takes : (b : ℕ) (bs piece : List ℕ) → (b == 10) ≡ false → TakesFirst bs piece → TakesFirst (b ∷ bs) (b ∷ piece)
plain_takes b bs piece h (inl (line, whole, cut)) = inl (
  b ∷ line,
  λ more. plain_whole b (piece ++ more) h ∙ ap (before_first b) (whole more),
  plain_cut b bs h ∙ ap (before_lines b) cut ∙ ap (λ r. (b ∷ line) ∷ lines_of r) (sym (plain_after b bs h)),
)
plain_takes b bs piece h (inr none) = inr (plain_after b bs h ∙ none)

takes_one : (b : ℕ) (bs : List ℕ) (t : Bool) → (b == 10) ≡ t → ((piece : List ℕ) × (bs ≡ piece ++ after_line bs) × TakesFirst bs piece)
    → (piece : List ℕ) × (b ∷ bs ≡ piece ++ after_line (b ∷ bs)) × TakesFirst (b ∷ bs) piece
takes_one b bs true h so = newline_takes b bs h
takes_one b bs false h (piece, is, takes) =
    (b ∷ piece, ap (λ r. b ∷ r) is ∙ ap (λ r. b ∷ (piece ++ r)) (sym (plain_after b bs h)), plain_takes b bs piece h takes)

takes_first : (bytes : List ℕ) → (piece : List ℕ) × (bytes ≡ piece ++ after_line bytes) × TakesFirst bytes piece
takes_first [] = ([], refl, inr refl)
takes_first (b ∷ bs) = takes_one b bs (b == 10) refl (takes_first bs)

-- ---- one line more
begins_more : (front piece : List ℕ) (lines : List (List ℕ)) (line : List ℕ) → Begins front lines → Begins piece (line ∷ []) → Begins (front ++ piece) (lines ++ line ∷ [])
begins_more front piece lines line begins whole = λ more.
    ap whole_lines (append_assoc front piece more) ∙ begins (piece ++ more) ∙ ap (λ l. lines ++ l) (whole more) ∙ sym (append_assoc lines (line ∷ []) (whole_lines more))

begins_line : (front piece rest : List ℕ) (lines : List (List ℕ)) (line : List ℕ) → Begins front lines ⊎ (rest ≡ []) → TakesFirst rest piece → lines_of rest ≡ line ∷ lines_of (after_line rest)
    → Begins (front ++ piece) (lines ++ line ∷ []) ⊎ (after_line rest ≡ [])
begins_line front piece rest lines line (inr none) takes first = inr (ap after_line none)
begins_line front piece rest lines line (inl begins) (inr none) first = inr none
begins_line front piece rest lines line (inl begins) (inl (l, whole, cut)) first =
    let both : l ∷ lines_of (after_line rest) ≡ line ∷ lines_of (after_line rest) = sym cut ∙ first in
    let same : l ≡ line = cc in
    inl (begins_more front piece lines line begins (subst (λ x. Begins piece (x ∷ [])) same whole))

pub has_read_more : (script front rest : List ℕ) (new : Option (List ℕ)) (lines : List (List ℕ)) (line : List ℕ) → script ≡ front ++ rest → lines_of script ≡ lines ++ lines_of rest
    → Begins front lines ⊎ (rest ≡ []) → lines_of rest ≡ line ∷ lines_of (after_line rest) → new ≡ Some (after_line rest) → HasRead (Some script) new (lines ++ line ∷ [])
has_read_more script front rest new lines line whole cut begins first left =
    let (piece, is, takes) = takes_first rest in (
      front ++ piece,
      after_line rest,
      whole ∙ ap (λ r. front ++ r) is ∙ sym (append_assoc front piece (after_line rest)),
      left,
      cut ∙ ap (λ l. lines ++ l) first ∙ sym (append_assoc lines (line ∷ []) (lines_of (after_line rest))),
      begins_line front piece rest lines line begins takes first,
    )

-- ---- a failed read
last_none : (a b : List ℕ) → a ++ b ≡ [] → b ≡ []
last_none [] b h = h
last_none (x ∷ a) b h = absurd (cc)

came_lines : (script front rest came last : List ℕ) (lines : List (List ℕ)) → lines_of script ≡ lines ++ lines_of rest → rest ≡ came ++ last → Begins front lines ⊎ (rest ≡ [])
    → ([] ≡ whole_lines came) ⊎ ((last ≡ []) × ([] ≡ lines_of rest)) → (lines ≡ whole_lines (front ++ came)) ⊎ ((last ≡ []) × (lines ≡ lines_of script))
came_lines script front rest came last lines cut is begins (inr (all, none)) = inr (all, sym (cut ∙ ap (λ l. lines ++ l) (sym none) ∙ append-nil lines))
came_lines script front rest came last lines cut is (inl begins) (inl none) = inl (sym (begins came ∙ ap (λ l. lines ++ l) (sym none) ∙ append-nil lines))
came_lines script front rest came last lines cut is (inr gone) (inl none) =
    inr (last_none came last (sym is ∙ gone), sym (cut ∙ ap (λ r. lines ++ lines_of r) gone ∙ append-nil lines))

-- what had come whole of the script is what was answered
came_whole : (script front rest : List ℕ) (left : Option (List ℕ)) (lines : List (List ℕ)) → script ≡ front ++ rest → lines_of script ≡ lines ++ lines_of rest → Begins front lines ⊎ (rest ≡ [])
    → CameWhole rest left [] → CameWhole script left lines
came_whole script front rest left lines whole cut begins (came, last, is, at, ended) =
    (front ++ came, last, whole ∙ ap (λ r. front ++ r) is ∙ sym (append_assoc front came last), at, came_lines script front rest came last lines cut is begins ended)

pub came_so : (end : SessionEnd) (count : ℕ) (told now left : Option (List ℕ)) (lines : List (List ℕ)) → HasRead told now lines → EndsIfTold end count now left
    → end ≡ ReadFault → IfSome told (λ script. CameWhole script left lines)
came_so end count None now left lines read ends failed = tt
came_so end count (Some script) now left lines (front, rest, whole, at, cut, begins) ends failed =
    let (before, read, came) = subst (λ n. EndsIfTold end count n left) at ends in
    came_whole script front rest left lines whole cut begins (came failed)
