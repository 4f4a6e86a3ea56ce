-- A text has at most as many records as bytes, and one more.
use Rattle.std.proofs.Common.{ℕ, zero, suc, ◌+◌, ◌≤◌, List, [], ◌∷◌, length, Option, Some, None, true, false, cond, arith}
use Rattle.csv.specs.Machine.{Read, next_record}
use Rattle.csv.specs.Reading.{default_config, records_from, records_next, strip_bom, is_bom}
use Rattle.csv.specs.declared.parser.Config.{Config}
use Rattle.csv.specs.declared.parser.State.{State}
use Rattle.csv.specs.declared.parser.State.TheVariants as st
use Rattle.ltm_records.specs.Fields.{Fields}
use Rattle.ltm_records.specs.Left.{records_of}

next_few : (more : State → List ℕ → List Fields) (n : ℕ) (o : Option Read) → ((s : State) (xs : List ℕ) → length (more s xs) ≤ n) → length (records_next more o) ≤ n + 1
next_few more n None few = omega arith
next_few more n (Some q) few = omega (arith, few q.1 q.2)

from_few : (cfg : Config) (n : ℕ) (s : State) (xs : List ℕ) → length (records_from cfg n s xs) ≤ n
unfolding records_from
from_few cfg zero s xs = omega arith
from_few cfg (suc n) s xs = omega (arith, next_few (records_from cfg n) n (next_record cfg s [] [] xs) (from_few cfg n))

-- a byte order mark that is taken off leaves fewer bytes
strip_short : (bytes : List ℕ) → length (strip_bom bytes) ≤ length bytes
unfolding strip_bom
strip_short [] = omega arith
strip_short (a ∷ []) = omega arith
strip_short (a ∷ b ∷ []) = omega arith
strip_short (a ∷ b ∷ c ∷ rest) = elim (is_bom a b c) as (λ t. length (cond t rest (a ∷ b ∷ c ∷ rest)) ≤ length (a ∷ b ∷ c ∷ rest)) [ true ↦ omega arith | false ↦ omega arith ]

pub few : (bytes : List ℕ) → length (records_of bytes) ≤ length bytes + 1
few bytes = omega (arith, from_few default_config (length (strip_bom bytes) + 1) st.StartRecord (strip_bom bytes), strip_short bytes)
