-- The words from which a case is made.
use Rattle.std.specs.Prelude.{ℕ}
use Rattle.rand_pcg.specs.Lcg.{Lcg, started, increment_of}
use Rattle.rand_pcg.specs.Pcg.{multiplier_64, pcg32}

-- the generator of a number, on the stream that all made cases use
unfoldable pub words_from : ℕ → Lcg
words_from start = started 64 multiplier_64 start (increment_of 64 54)

-- the next word
unfoldable pub word : Lcg → ℕ
word g = (pcg32 g).0

-- the words after it
unfoldable pub rest : Lcg → Lcg
rest g = (pcg32 g).1
