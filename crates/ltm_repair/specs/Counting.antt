-- How many pairs have other inputs than a loading, and how many may still be committed.
use Rattle.std.specs.Prelude.{ℕ, ◌||◌, min, ◌+◌, List, Option, Some, if◌then◌else◌, is_some}
use Rattle.ltm_curve.specs.Counts.{Counts}
use Rattle.ltm_loading.specs.Setting.{Setting}
use Rattle.ltm_loading.specs.Pairs.{pair_row}
use Rattle.ltm_loading.specs.Differing.{sum_pairs, unlike, row_of}
use Rattle.ltm_repair.specs.Desk.{Desk}

-- of how many pairs the kept inputs, if any, are not those of these counts
unfoldable pub left_to_do : Setting → Counts → Desk → ℕ
left_to_do s c d = sum_pairs s.nodes s.slots (λ u t. unlike (d.kept u t) (Some (pair_row s c u t)))

-- 1 where inputs are kept, and are not this row
abbrev pub astray : Option (List ℕ) → Option (List ℕ) → ℕ
astray kept row = if is_some kept then unlike kept row else 0

-- how many of the pairs of so many slots have kept inputs that an earlier setting and its counts do not have: no such
-- pair, or other inputs
unfoldable pub strayed : ℕ → Setting → Counts → Desk → ℕ
strayed slots s c d = sum_pairs s.nodes slots (λ u t. astray (d.kept u t) (row_of s c u t))

-- 1 where the pair is active or claimed
abbrev pub busy : Desk → ℕ → ℕ → ℕ
busy d u t = if d.active u t || is_some (d.claimed u t) then 1 else 0

-- 1 where the pair or one of an earlier slot is active or claimed
abbrev pub waiting : ℕ → Desk → ℕ → ℕ → ℕ
waiting nodes d u t = min 1 (busy d u t + sum_pairs nodes t (busy d))

-- how many pairs may still be committed before another batch is accepted
unfoldable pub undone : ℕ → ℕ → Desk → ℕ
undone nodes slots d = sum_pairs nodes slots (waiting nodes d)

-- how many pairs are claimed
unfoldable pub claims_out : ℕ → ℕ → Desk → ℕ
claims_out nodes slots d = sum_pairs nodes slots (λ u t. if is_some (d.claimed u t) then 1 else 0)
