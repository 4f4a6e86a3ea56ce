-- What a commit wakes.
use Rattle.std.specs.Prelude.{◌≡◌, ℕ, ◌+◌, ◌<◌, List, Some, false}
use Rattle.ltm_loading.specs.Setting.{Setting, IsSetting}
use Rattle.ltm_loading.specs.Flows.{position}
use Rattle.ltm_repair.specs.Desk.{Desk}
use Rattle.ltm_repair.specs.Facts.{IsSound}
use Rattle.ltm_repair.specs.Moves.{Sets, WakesReaders}
use Rattle.ltm_pairs.specs.Readers.{reads_commit}

-- to wake the readers of a commit wakes each pair whose inputs changed
abbrev pub ReadersWake : Type 0
ReadersWake =
    (s : Setting) (d e : Desk) (u t : ℕ) (row : List ℕ) → IsSetting s → IsSound s d → d.claimed u t ≡ Some row → Sets s d u t row e →
    WakesReaders s d e t (reads_commit s d.counts e.counts u (t + 1))

-- and a pair that does not wake keeps its positions
abbrev pub ReadersKeepPositions : Type 0
ReadersKeepPositions =
    (s : Setting) (d e : Desk) (u t : ℕ) (row : List ℕ) → IsSetting s → IsSound s d → d.claimed u t ≡ Some row → Sets s d u t row e →
    (w v i : ℕ) → w < s.nodes → v < s.slots → i < s.ins w → reads_commit s d.counts e.counts u (t + 1) w v ≡ false →
    position s e.counts (s.in_link w i) v ≡ position s d.counts (s.in_link w i) v
