use Rattle.std.specs.Prelude.{ℕ, ◌<◌, ◌≤◌, slice_index}
use Rattle.ltm_node.specs.declared.portion.Portion.{Portion}
use Rattle.ltm_node.specs.declared.portion.Portion.TheVariants.{Whole, Share}
use Rattle.ltm_node.specs.Inputs.{Inputs}

-- what the arms' portions are parts of
abbrev pub denominator : Portion → ℕ
denominator Whole = 1
denominator (Share shares) = shares.now.denominator

-- how many of those parts an arm moves
abbrev pub numerator : Portion → ℕ → ℕ
numerator Whole arm = 1
numerator (Share shares) arm = slice_index shares.now.numerators arm

-- no arm moves more than all
pub record AreFractions (n : Inputs) (portion : Portion) : Type 0 where
  pub positive : 0 < denominator portion
  pub at_most_all : (arm : ℕ) → arm < n.shape.arms → numerator portion arm ≤ denominator portion
