use Rattle.std.proofs.Common.{refl}
use Rattle.ltm_marks.proofs.Bits.{clears_rows}
use Rattle.ltm_marks.proofs.marks.Marks.clear_rows.Goals as goal

pub returns : goal.returns
returns c = clears_rows c.args.self.now _ c.args.from c.args.to c.args.self.now.words_are refl refl refl refl c.clear_words.ensures.none c.clear_words.ensures.others
