-- Bytes that are written a piece at a time.
use Rattle.std.specs.Prelude.{ℕ, ◌≡◌, ◌≤◌, List, length, take, drop, Option}
use Rattle.ltm_io.specs.Sink.{appended}

-- a front of these bytes was written, and the rest waits
abbrev pub Passes : List ℕ → Option (List ℕ) → Option (List ℕ) → List ℕ → Type 0
Passes bytes old new waits = (n : ℕ) × (n ≤ length bytes) × (new ≡ appended (take n bytes) old) × (waits ≡ drop n bytes)
