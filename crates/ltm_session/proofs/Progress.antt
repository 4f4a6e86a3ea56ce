-- One line more, and how a session ends.
use Rattle.std.proofs.Common.{ℕ, ◌≡◌, ◌⊎◌, inl, inr, ◌+◌, ◌<◌, ◌≤◌, List, [], ◌∷◌, ◌++◌, length, take, refl, ap, sym, subst, ◌∙◌, arith, append_assoc, length-append}
use Rattle.std.proofs.lemmas.List.{append-nil}
use Rattle.std.proofs.lemmas.List.Elements.{All-push, All-nil}
use Rattle.std.proofs.Math.Seq.{take-append-add, take-length}
use Rattle.std.specs.Prelude.{Option, Some, None, IfSome}
use Rattle.ltm_io.specs.Source.{prepended}
use Rattle.ltm_io.specs.Script.{lines_of}
use Rattle.ltm_io.specs.Answers.{GivesLine}
use Rattle.ltm_io.specs.Sink.{appended, AppendsFront}
use Rattle.ltm_session.specs.declared.ends.SessionEnd.{SessionEnd}
use Rattle.ltm_session.specs.declared.ends.SessionEnd.TheVariants.{Ended, ReadFault, WriteFault, LineTooLong, TooManyCommands, NoMemory}
use Rattle.ltm_session.specs.Analysts.{Analysts}
use Rattle.ltm_session.specs.Session.{Answering, AnswersLine, AnswersLines, EndsBefore, IsSession, Wrote, longest_line, most_lines}
use Rattle.ltm_session.specs.Serving.{HasRead, IsServing, EndsIfTold, StopsAt}
use Rattle.ltm_session.proofs.Came.{has_read_more, came_so}

-- one line more is answered
pub one_more : (answers : Answering) (s : Analysts) (lines : List (List ℕ)) (output : List ℕ) (t : Analysts) (line text : List ℕ) (u : Analysts)
    → AnswersLines answers s lines output t → AnswersLine answers t line text u → AnswersLines answers s (lines ++ line ∷ []) (output ++ text) u
one_more answers s [] output t line text u (none, same) more =
    (u, text, [], subst (λ v. AnswersLine answers v line text u) same more, (refl, refl), ap (λ o. o ++ text) none ∙ sym (append-nil text))
one_more answers s (first ∷ lines) output t line text u (v, words, rest, is, lasts, whole) more =
    (v, words, rest ++ text, is, one_more answers v lines rest t line text u lasts more, ap (λ o. o ++ text) whole ∙ append_assoc words rest text)

-- one line more is read
pub read_more : (told now new : Option (List ℕ)) (lines : List (List ℕ)) (line : List ℕ) → HasRead told now lines → GivesLine now line new
    → HasRead told new (lines ++ line ∷ [])
read_more None now new lines line read reads = tt
read_more (Some script) now new lines line (front, rest, whole, at, cut, begins) reads =
    let (first, left) = subst (λ n. GivesLine n line new) at reads in has_read_more script front rest new lines line whole cut begins first left

begun : (told coming : Option (List ℕ)) → coming ≡ told → HasRead told coming []
begun None coming same = tt
begun (Some script) coming same = ([], script, refl, same, refl, inl (λ more. refl))

-- nothing was read ahead
pub nothing_ahead : (left : Option (List ℕ)) → prepended [] left ≡ left
nothing_ahead None = refl
nothing_ahead (Some bytes) = refl

pub nothing_more : (written : Option (List ℕ)) → written ≡ appended [] written
nothing_more None = refl
nothing_more (Some w) = ap Some (sym (append-nil w))

-- a session begins
pub serving_begins : (answers : Answering) (s : Analysts) (told coming written : Option (List ℕ)) → coming ≡ told → IsServing answers s told coming written written 0 s
serving_begins answers s told coming written same = record {
  answered = [];
  output = [];
  counted = refl;
  fit = All-nil _;
  runs = (refl, refl);
  read = begun told coming same;
  wrote = nothing_more written;
}

pub appended_more : (old : Option (List ℕ)) (a b : List ℕ) → appended b (appended a old) ≡ appended (a ++ b) old
appended_more None a b = refl
appended_more (Some w) a b = ap Some (append_assoc w a b)

-- a line was read, answered and its answer written
pub serving_more : (answers : Answering) (s : Analysts) (told now new w w1 w2 : Option (List ℕ)) (count : ℕ) (t u : Analysts) (line text : List ℕ)
    → IsServing answers s told now w w1 count t → GivesLine now line new → length line ≤ longest_line
    → AnswersLine answers t line text u → w2 ≡ appended text w1 → IsServing answers s told new w w2 (count + 1) u
serving_more answers s told now new w w1 w2 count t u line text so reads fits is wrote = record {
  answered = so.answered ++ line ∷ [];
  output = so.output ++ text;
  counted = length-append so.answered (line ∷ []) ∙ ap (λ n. n + 1) so.counted;
  fit = All-push (λ l. length l ≤ longest_line) so.answered line so.fit fits;
  runs = one_more answers s so.answered so.output t line text u so.runs is;
  read = read_more told now new so.answered line so.read reads;
  wrote = wrote ∙ ap (appended text) so.wrote ∙ appended_more w so.output text;
}

-- what the end says of the whole script
ends_so : (end : SessionEnd) (count : ℕ) (told now new : Option (List ℕ)) (lines : List (List ℕ)) → length lines ≡ count → HasRead told now lines → EndsIfTold end count now new
    → IfSome told (λ script. (left : List (List ℕ)) × (lines_of script ≡ lines ++ left) × EndsBefore end (length lines) left)
ends_so end count None now new lines counted read ends = tt
ends_so end count (Some script) now new lines counted (front, rest, whole, at, cut, begins) ends =
    let (before, read, came) = subst (λ n. EndsIfTold end count n new) at ends in
    (lines_of rest, cut, subst (λ n. EndsBefore end n (lines_of rest)) (sym counted) before)

pub whole_front : (old new : Option (List ℕ)) (output : List ℕ) → new ≡ appended output old → AppendsFront old new output
whole_front old new output is = (length output, omega arith, is ∙ ap (λ o. appended o old) (sym (take-length output)))

wrote_all : (end : SessionEnd) (old new : Option (List ℕ)) (output : List ℕ) → new ≡ appended output old → Wrote end old new output
wrote_all Ended old new output is = is
wrote_all (LineTooLong n) old new output is = is
wrote_all TooManyCommands old new output is = is
wrote_all ReadFault old new output is = is
wrote_all WriteFault old new output is = whole_front old new output is
wrote_all NoMemory old new output is = whole_front old new output is

-- the session ends where the script does, or where it can't be read
pub serving_ends : (answers : Answering) (s : Analysts) (told now new w w1 : Option (List ℕ)) (count : ℕ) (t : Analysts) (end : SessionEnd)
    → IsServing answers s told now w w1 count t → count ≤ most_lines → EndsIfTold end count now new
    → (output : List ℕ) × IsSession answers s told new end output t × Wrote end w w1 output
serving_ends answers s told now new w w1 count t end so few ends = (
  so.output,
  record {
    answered = so.answered;
    few = subst (λ n. n ≤ most_lines) (sym so.counted) few;
    fit = so.fit;
    runs = so.runs;
    ends = ends_so end count told now new so.answered so.counted so.read ends;
    came = came_so end count told now new so.answered so.read ends;
  },
  wrote_all end w w1 so.output so.wrote,
)

-- the next lines are not looked at
left_over : (end : SessionEnd) → (end ≡ WriteFault) ⊎ (end ≡ NoMemory) → (told now : Option (List ℕ)) (lines : List (List ℕ)) → HasRead told now lines
    → IfSome told (λ script. (left : List (List ℕ)) × (lines_of script ≡ lines ++ left) × EndsBefore end (length lines) left)
left_over end is None now lines read = tt
left_over end (inl is) (Some script) now lines (front, rest, whole, at, cut, begins) = (lines_of rest, cut, subst (λ e. EndsBefore e (length lines) (lines_of rest)) (sym is) tt)
left_over end (inr is) (Some script) now lines (front, rest, whole, at, cut, begins) = (lines_of rest, cut, subst (λ e. EndsBefore e (length lines) (lines_of rest)) (sym is) tt)

-- no read failed
pub no_fault_read : (end : SessionEnd) → (end ≡ WriteFault) ⊎ (end ≡ NoMemory) → end ≡ ReadFault → ⊥
no_fault_read end (inl is) read = cc
no_fault_read end (inr is) read = cc

front_so : (end : SessionEnd) → (end ≡ WriteFault) ⊎ (end ≡ NoMemory) → (old new : Option (List ℕ)) (output : List ℕ) → AppendsFront old new output → Wrote end old new output
front_so end (inl is) old new output front = subst (λ e. Wrote e old new output) (sym is) front
front_so end (inr is) old new output front = subst (λ e. Wrote e old new output) (sym is) front

pub front_more : (old now new : Option (List ℕ)) (output text : List ℕ) → now ≡ appended output old → AppendsFront now new text → AppendsFront old new (output ++ text)
front_more old now new output text is (n, few, wrote) =
    let long = length-append output text in (
      length output + n,
      omega (arith, long),
      wrote ∙ ap (appended (take n text)) is ∙ appended_more old output (take n text) ∙ ap (λ o. appended o old) (sym (take-append-add output text n)),
    )

-- the session stops at a line
pub serving_stops : (answers : Answering) (s : Analysts) (told now new left w w1 w2 : Option (List ℕ)) (count : ℕ) (t u : Analysts) (line : List ℕ) (end : SessionEnd)
    → IsServing answers s told now w w1 count t → count < most_lines → GivesLine now line new → length line ≤ longest_line
    → StopsAt answers t line u end w1 w2
    → (output : List ℕ) × IsSession answers s told left end output u × Wrote end w w2 output
serving_stops answers s told now new left w w1 w2 count t u line end so few reads fits (is, inl (same, still)) = (
  so.output,
  record {
    answered = so.answered;
    few = subst (λ n. n ≤ most_lines) (sym so.counted) (omega arith);
    fit = so.fit;
    runs = subst (λ v. AnswersLines answers s so.answered so.output v) (sym same) so.runs;
    ends = left_over end is told now so.answered so.read;
    came = λ failed. absurd (no_fault_read end is failed);
  },
  wrote_all end w w2 so.output (still ∙ so.wrote),
)
serving_stops answers s told now new left w w1 w2 count t u line end so few reads fits (is, inr (text, answered, front)) = (
  so.output ++ text,
  record {
    answered = so.answered ++ line ∷ [];
    few = let long = length-append so.answered (line ∷ []) in let counted = so.counted in omega (arith, long, counted, few);
    fit = All-push (λ l. length l ≤ longest_line) so.answered line so.fit fits;
    runs = one_more answers s so.answered so.output t line text u so.runs answered;
    ends = left_over end is told new (so.answered ++ line ∷ []) (read_more told now new so.answered line so.read reads);
    came = λ failed. absurd (no_fault_read end is failed);
  },
  front_so end is w w2 (so.output ++ text) (front_more w w1 w2 so.output text so.wrote front),
)

-- nothing was done
pub never_begun : (answers : Answering) (s : Analysts) (told left w : Option (List ℕ)) → (output : List ℕ) × IsSession answers s told left NoMemory output s × Wrote NoMemory w w output
never_begun answers s told left w = (
  [],
  record {
    answered = [];
    few = omega arith;
    fit = All-nil _;
    runs = (refl, refl);
    ends = left_over NoMemory (inr refl) told told [] (begun told told refl);
    came = λ failed. absurd (no_fault_read NoMemory (inr refl) failed);
  },
  whole_front w w [] (nothing_more w),
)

pub never_begun_at : (answers : Answering) (s : Analysts) (told left w : Option (List ℕ)) (t : Analysts) → t ≡ s
    → (output : List ℕ) × IsSession answers s told left NoMemory output t × Wrote NoMemory w w output
never_begun_at answers s told left w t same =
    subst (λ (u : Analysts). (output : List ℕ) × IsSession answers s told left NoMemory output u × Wrote NoMemory w w output) (sym same) (never_begun answers s told left w)
