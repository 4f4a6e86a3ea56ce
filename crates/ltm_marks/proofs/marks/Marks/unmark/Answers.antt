use Rattle.std.proofs.Common.{◌≡◌, ℕ, ◌*◌, ◌%◌, ◌^◌, ◌<◌, List, length, false, slice_set, slice_index, bit_and, w64, refl, ap, subst, ◌∙◌, arith}
use Rattle.std.specs.Int.{bit_at, bit_not}
use Rattle.std.proofs.lemmas.List.{get_or_default}
use Rattle.std.proofs.lemmas.Nat.{mod_below}
use Rattle.ltm_marks.specs.Marks.{word_of}
use Rattle.ltm_marks.proofs.Bits.{sets_mark, clears_bit}
use Rattle.ltm_marks.proofs.marks.Marks.unmark.Goals as goal

pub returns : goal.returns
returns c =
    let items : List ℕ = c.args.self.now.bits.items in
    let x : ℕ = (bit_and c.index_mut.result.now (bit_not w64 (1 * 2 ^ (c.args.place % 64) % 2 ^ 64))) in
    let bit = clears_bit c.index_mut.result.now (c.args.place % 64) (mod_below c.args.place 64 (omega arith)) in
    let at : c.word-word.result ≡ word_of c.args.self.now c.args.place c.args.row = c.word-word.ensures.value in
    let was = c.index_mut.ensures.value ∙ (get_or_default items c.word-word.result c.index_mut.result.now 0 c.word-word.ensures.within ∙ ap (λ i. slice_index items i) at) in
    sets_mark c.args.self.now _ c.args.place c.args.row x false c.args.self.now.words_are c.requires.place c.requires.row (subst (λ i. i < length items) at c.word-word.ensures.within) refl refl refl refl
    (ap (λ i. slice_set items i x) at) bit.0 (λ i m apart. bit.1 i m apart ∙ ap (λ z. bit_at z i) was)
