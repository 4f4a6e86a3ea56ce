-- How a session ends is what its script says.
use Rattle.std.proofs.Common.{ℕ, suc, ◌≡◌, ◌+◌, ◌<◌, ◌≤◌, List, [], ◌∷◌, ◌++◌, length, refl, ap, sym, subst, ◌∙◌, arith}
use Rattle.std.proofs.lemmas.List.Elements.{All-head, All-tail}
use Rattle.std.proofs.lemmas.Bool.{lt-leb, le-leb, lt-ltb, le-ltb}
use Rattle.std.specs.Prelude.{All, Option, Some}
use Rattle.ltm_session.specs.declared.ends.SessionEnd.{SessionEnd}
use Rattle.ltm_session.specs.declared.ends.SessionEnd.TheVariants.{Ended, ReadFault, WriteFault, LineTooLong, TooManyCommands, NoMemory}
use Rattle.ltm_session.specs.Analysts.{Analysts}
use Rattle.ltm_session.specs.Session.{Answering, IsSession, EndsBefore, end_from, end_of, most_lines, longest_line}

through : (n : ℕ) (answered left : List (List ℕ)) → All (λ line. length line ≤ longest_line) answered → n + length answered ≤ most_lines
    → end_from n (answered ++ left) ≡ end_from (n + length answered) left
through n [] left fit few = ap (λ k. end_from k left) (omega arith)
through n (line ∷ lines) left fit few =
    let place : n + 1 + length lines ≡ n + suc (length lines) = omega arith in
    rw (lt-leb most_lines n (omega (arith, few)), le-ltb longest_line (length line) (All-head (λ l. length l ≤ longest_line) line lines fit))
    (through (n + 1) lines left (All-tail (λ l. length l ≤ longest_line) line lines fit) (omega (arith, few)) ∙ ap (λ k. end_from k left) place)

over : (n : ℕ) (line : List ℕ) (lines : List (List ℕ)) → most_lines ≤ n → end_from n (line ∷ lines) ≡ TooManyCommands
over n line lines many = rw (le-leb most_lines n many) refl

long : (n : ℕ) (line : List ℕ) (lines : List (List ℕ)) → n < most_lines → longest_line < length line → end_from n (line ∷ lines) ≡ LineTooLong (n + 1)
long n line lines few more = rw (lt-leb most_lines n few, lt-ltb longest_line (length line) more) refl

ends_there : (end : SessionEnd) (n : ℕ) (left : List (List ℕ)) → EndsBefore end n left → (end ≡ ReadFault → ⊥) → (end ≡ WriteFault → ⊥) → (end ≡ NoMemory → ⊥) → end_from n left ≡ end
ends_there Ended n left empty a b c = ap (λ l. end_from n l) empty
ends_there (LineTooLong k) n [] (is, few, none) a b c = absurd none
ends_there (LineTooLong k) n (line ∷ lines) (is, few, more) a b c = long n line lines few more ∙ ap LineTooLong (sym is)
ends_there TooManyCommands n [] (is, some) a b c = absurd (omega (arith, some))
ends_there TooManyCommands n (line ∷ lines) (is, some) a b c = over n line lines (omega (arith, is))
ends_there ReadFault n left e a b c = absurd (a refl)
ends_there WriteFault n left e a b c = absurd (b refl)
ends_there NoMemory n left e a b c = absurd (c refl)

-- where nothing failed, the session ended as its script says
pub one_end : (answers : Answering) (s : Analysts) (script output : List ℕ) (left : Option (List ℕ)) (end : SessionEnd) (t : Analysts) → IsSession answers s (Some script) left end output t
    → (end ≡ ReadFault → ⊥) → (end ≡ WriteFault → ⊥) → (end ≡ NoMemory → ⊥) → end_of script ≡ end
one_end answers s script output left end t so a b c =
    let (rest, cut, ends) = so.ends in
    let few = so.few in
    let here : 0 + length so.answered ≡ length so.answered = omega arith in
    ap (λ l. end_from 0 l) cut ∙ through 0 so.answered rest so.fit (omega (arith, few)) ∙ ap (λ n. end_from n rest) here
    ∙ ends_there end (length so.answered) rest ends a b c

pub ends_as_told : (answers : Answering) (s : Analysts) (told left : Option (List ℕ)) (output : List ℕ) (end : SessionEnd) (t : Analysts) → IsSession answers s told left end output t
    → (script : List ℕ) → told ≡ Some script → (end ≡ ReadFault → ⊥) → (end ≡ WriteFault → ⊥) → (end ≡ NoMemory → ⊥) → end ≡ end_of script
ends_as_told answers s told left output end t so script is a b c =
    sym (one_end answers s script output left end t (subst (λ x. IsSession answers s x left end output t) is so) a b c)
