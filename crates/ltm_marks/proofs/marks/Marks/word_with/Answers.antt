use Rattle.std.proofs.Common.{ℕ, ◌%◌, ◌==◌, List, slice_index, ap, sym, ◌∙◌}
use Rattle.std.specs.Int.{bit_at}
use Rattle.std.proofs.lemmas.List.{get_or_default}
use Rattle.ltm_marks.proofs.Bits.{mark_in_word}
use Rattle.ltm_marks.proofs.marks.Marks.word_with.Goals as goal

pub returns : goal.returns
returns c = λ p e.
    let items : List ℕ = c.args.self.now.bits.items in
    let read = c.index.ensures ∙ (get_or_default items c.word-word.result _ 0 c.word-word.ensures.within ∙ ap (λ i. slice_index items i) c.word-word.ensures.value) in
    mark_in_word c.args.self.now c.args.row c.args.place p e ∙ ap (λ z. bit_at z (p % 64) == 1) (sym read)
