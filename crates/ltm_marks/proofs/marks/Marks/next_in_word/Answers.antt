use Rattle.std.proofs.Common.{ℕ, ◌%◌, List, slice_index, ap, subst, ◌∙◌}
use Rattle.std.proofs.lemmas.List.{get_or_default}
use Rattle.ltm_marks.specs.Bits.{NoBit, IsFirstBit}
use Rattle.ltm_marks.proofs.Bits.{none_in_word, first_in_word}
use Rattle.ltm_marks.proofs.marks.Marks.next_in_word.Goals as goal

pub returns-in-Some : goal.returns-in-Some
returns-in-Some c =
    let items : List ℕ = c.args.self.now.bits.items in
    let e = c.index.ensures ∙ (get_or_default items c.word-word.result _ 0 c.word-word.ensures.within ∙ ap (λ i. slice_index items i) c.word-word.ensures.value) in
    first_in_word c.args.self.now c.args.row c.args.from c.in-Some.found (subst (λ n. IsFirstBit n (c.args.from % 64) c.in-Some.found) e c.in-Some.ensures)

pub returns-in-None : goal.returns-in-None
returns-in-None c =
    let items : List ℕ = c.args.self.now.bits.items in
    let e = c.index.ensures ∙ (get_or_default items c.word-word.result _ 0 c.word-word.ensures.within ∙ ap (λ i. slice_index items i) c.word-word.ensures.value) in
    none_in_word c.args.self.now c.args.row c.args.from (subst (λ n. NoBit n (c.args.from % 64)) e c.in-None.ensures)
