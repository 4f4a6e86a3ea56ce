use Rattle.std.proofs.Common.{◌≡◌, ◌-◌, ◌≤◌}
use Rattle.ltm_make.specs.MadeCase.{words_past, bytes_of}
use Rattle.ltm_make.proofs.made.draw_bytes.Given as goal

abbrev pub invariant-loop-drawn : goal.invariant-loop-drawn
invariant-loop-drawn l = record {
  within : l.drawn ≤ l.count;
  words : l.words ≡ words_past l.drawn l.fn.words;
  bytes : l.bytes.items ≡ bytes_of l.drawn l.fn.words;
}

abbrev pub decreases-loop-drawn : goal.decreases-loop-drawn
decreases-loop-drawn l = l.count - l.drawn
