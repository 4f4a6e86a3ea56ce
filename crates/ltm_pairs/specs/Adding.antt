-- What it is to add reaches to a spread.
use Rattle.std.specs.Prelude.{◌≡◌, ℕ, ◌+◌, ◌<◌, ◌≤◌, ◌||◌, Bool, All, length}
use Rattle.ltm_units.specs.declared.places.Reach.{Reach}
use Rattle.ltm_loading.specs.Setting.{Setting}
use Rattle.ltm_pairs.specs.Reaches.{SpreadData, lies_in_one}

-- a reach is of pairs of the setting, and of none before a boundary
pub record IsFrom (s : Setting) (k : ℕ) (r : Reach) : Type 0 where
  pub node : r.node.0 < s.nodes
  pub later : k ≤ r.from
  pub within : r.to ≤ s.slots

-- at most so many reaches from a boundary on are added, in which the pairs lie that pass the test, and no others
pub record Adds (s : Setting) (k most : ℕ) (old new : SpreadData) (reads : ℕ → ℕ → Bool) : Type 0 where
  pub each : (w v : ℕ) → v < s.slots → lies_in_one new.reaches w v ≡ (lies_in_one old.reaches w v || reads w v)
  pub more : length new.reaches ≤ length old.reaches + most
  pub from : All (IsFrom s k) old.reaches → All (IsFrom s k) new.reaches
  pub all_new : new.all_new ≡ old.all_new
