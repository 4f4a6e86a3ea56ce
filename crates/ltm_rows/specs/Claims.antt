-- The inputs of claims, a row for each node.
use Rattle.std.specs.Prelude.{◌≡◌, ◌≢◌, ℕ, ◌<◌, List}
use Rattle.ltm_inputs.specs.Setting.{Setting}
use Rattle.ltm_rows.specs.declared.layout.Part.TheVariants.{All}
use Rattle.ltm_rows.specs.declared.claim_rows.ClaimRows.{ClaimRows}
use Rattle.ltm_rows.specs.Layouts.{nodes_in, width_in, row_in, LiesAs}

-- for how many nodes there are rows
abbrev pub nodes_claimed : ClaimRows → ℕ
nodes_claimed k = nodes_in k.places

-- how many numbers the row of a node has
abbrev pub claim_width : ClaimRows → ℕ → ℕ
claim_width k u = width_in k.places u

-- the row of a node
unfoldable pub claim_row : ClaimRows → ℕ → List ℕ
claim_row k u = row_in k.places k.numbers.items u 0

-- a row of each node, as wide as its inputs
abbrev pub HasClaims : Setting → ClaimRows → Type 0
HasClaims s k = LiesAs s All k.places

-- one row is written in its place, and no other changes
pub record WritesClaim (old new : ClaimRows) (u : ℕ) (row : List ℕ) : Type 0 where
  pub places : new.places ≡ old.places
  pub here : claim_row new u ≡ row
  pub others : (w : ℕ) → w < nodes_claimed old → u ≢ w → claim_row new w ≡ claim_row old w
