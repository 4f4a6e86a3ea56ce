-- Counts that are copied from other curves.
use Rattle.std.specs.Prelude.{◌≡◌, ◌≢◌, ℕ, ◌<◌, ◌⊎◌, false}
use Rattle.ltm_curve.specs.Table.{destinations_of, counts_of, SameShape, IsIn}
use Rattle.ltm_curve.specs.Cells.{is_changed}
use Rattle.ltm_curve.specs.declared.curves.Curves.{Curves}
use Rattle.ltm_curve.specs.declared.changed.Changed.{Changed}

-- the counts of one group at one boundary become those of other curves, and no count else is changed
pub record CopiesCell (old new other : Curves) (group boundary : ℕ) : Type 0 where
  pub shape : SameShape new old
  pub here : (d : ℕ) → d < destinations_of old → counts_of new group d boundary ≡ counts_of other group d boundary
  pub others : (g d k : ℕ) → IsIn old g d k → (g ≢ group) ⊎ (k ≢ boundary) → counts_of new g d k ≡ counts_of old g d k

-- a cell that is not changed, or that comes before a group at a boundary
abbrev pub IsCopied : Changed → ℕ → ℕ → ℕ → ℕ → Type 0
IsCopied changed boundary group g k = (is_changed changed g k ≡ false) ⊎ ((k < boundary) ⊎ ((k ≡ boundary) × (g < group)))

-- curves of one shape have the same counts in all cells that are copied
pub record AgreesBut (self other : Curves) (changed : Changed) (boundary group : ℕ) : Type 0 where
  pub shape : SameShape self other
  pub counts : (g d k : ℕ) → IsIn other g d k → IsCopied changed boundary group g k → counts_of self g d k ≡ counts_of other g d k
