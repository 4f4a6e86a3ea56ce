-- Texts that are one line each are found again in what is put together from them.
use Rattle.std.proofs.Common.{ℕ, ◌≡◌, ◌≢◌, List, [], ◌∷◌, ◌++◌, map, refl, ap, sym, ◌∙◌, append_assoc}
use Rattle.std.proofs.lemmas.Bool.{ne_eqb}
use Rattle.std.proofs.lemmas.List.Elements.{All-head, All-tail}
use Rattle.std.specs.Prelude.{All}
use Rattle.std.specs.List.{concat}
use Rattle.ltm_io.specs.Script.{before_lines, lines_of}
use Rattle.ltm_report.specs.Pieces.{newline}
use Rattle.ltm_session.specs.OneLine.{IsPlain, IsOneLine, texts_of}
use Rattle.ltm_session.proofs.Pieces.{plain_append}

pub one_line : (words : List ℕ) → IsPlain words → IsOneLine (words ++ newline)
one_line words plain = record { words = words; plain = plain; ends = refl }

pub piece_first : (piece text : List ℕ) → IsPlain piece → IsOneLine text → IsOneLine (piece ++ text)
piece_first piece text plain one = record {
  words = piece ++ one.words;
  plain = plain_append piece one.words plain one.plain;
  ends = ap (λ t. piece ++ t) one.ends ∙ sym (append_assoc piece one.words newline);
}

cut_at : (words rest : List ℕ) → IsPlain words → lines_of (words ++ 10 ∷ rest) ≡ words ∷ lines_of rest
cut_at [] rest plain = refl
cut_at (b ∷ bs) rest plain =
    rw (ne_eqb b 10 (All-head (λ byte. byte ≢ 10) b bs plain))
    (ap (λ ls. before_lines b ls) (cut_at bs rest (All-tail (λ byte. byte ≢ 10) b bs plain)))

cut_first : (text rest : List ℕ) (one : IsOneLine text) → lines_of (text ++ rest) ≡ one.words ∷ lines_of rest
cut_first text rest one = ap (λ t. lines_of (t ++ rest)) one.ends ∙ ap lines_of (append_assoc one.words newline rest) ∙ cut_at one.words rest one.plain

-- the lines of a text that is put together from lines are these
pub cut_back : (texts : List (List ℕ)) → All IsOneLine texts → texts_of (concat texts) ≡ texts
cut_back [] all = refl
cut_back (text ∷ texts) all =
    let one = All-head IsOneLine text texts all in
    ap (λ ls. map (λ line. line ++ newline) ls) (cut_first text (concat texts) one)
    ∙ ap (λ t. t ∷ texts_of (concat texts)) (sym one.ends)
    ∙ ap (λ ls. text ∷ ls) (cut_back texts (All-tail IsOneLine text texts all))

pub one_cut : (a b : List (List ℕ)) → All IsOneLine a → All IsOneLine b → concat a ≡ concat b → a ≡ b
one_cut a b one other same = sym (cut_back a one) ∙ ap texts_of same ∙ cut_back b other
