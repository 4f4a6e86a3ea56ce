-- Settled pairs are dropped on the way to a pair to be worked on.
use Rattle.std.specs.Prelude.{◌≡◌, ◌≢◌, ℕ, ◌<◌, Some, Bool, IsTrue, IsFalse, true, false}
use Rattle.ltm_node.specs.Inputs.{Inputs}
use Rattle.ltm_node.specs.Solvable.{IsSolvable}
use Rattle.ltm_node.specs.Uncounted.{uncounted}
use Rattle.ltm_loading.specs.Setting.{Setting}
use Rattle.ltm_loading.specs.Pairs.{pair_row}
use Rattle.ltm_loading.specs.Uncounted.{IsUncountedPair}
use Rattle.ltm_repair.specs.Desk.{Desk, IsOther, IsSettled, IsIdleBefore}
use Rattle.ltm_repair.specs.Index.{IsPlaced}
use Rattle.ltm_repair.specs.Moves.{DropsSettled}
use Rattle.ltm_working.specs.declared.table.Table.{Table}
use Rattle.ltm_working.specs.Desks.{desk_at, place_of}
use Rattle.ltm_working.specs.Ready.{IsReady}

-- one settled pair is dropped
pub record DropsOne (s : Setting) (old : Desk) (u t : ℕ) (new : Desk) : Type 0 where
  pub drops : DropsSettled s old new
  pub here : new.active u t ≡ false
  pub others : (w v : ℕ) → IsOther u t w v → new.active w v ≡ old.active w v

-- nothing is left to do of a table before a slot
pub record IsReadyAt (s : Setting) (t : Table) (slot : ℕ) : Type 0 where
  pub ready : IsReady s t
  pub idle : IsIdleBefore s (desk_at s t) slot

-- settled pairs of one slot are dropped
pub record DropsAt (s : Setting) (old : Desk) (slot : ℕ) (new : Desk) : Type 0 where
  pub drops : DropsSettled s old new
  pub only : (u v : ℕ) → old.active u v ≡ true → new.active u v ≡ false → v ≡ slot

-- an active pair whose inputs, which stand ready but for the counts, are not the kept ones
pub record IsWork (s : Setting) (d : Desk) (u t : ℕ) (n : Inputs) : Type 0 where
  pub is_node : u < s.nodes
  pub active : d.active u t ≡ true
  pub inputs : IsUncountedPair s d.counts u t (uncounted n)
  pub solvable : IsSolvable (uncounted n)
  pub changed : d.kept u t ≢ Some (pair_row s d.counts u t)

-- it stands in the index with its positions
pub record IsPlacedWork (s : Setting) (t : Table) (u v : ℕ) (n : Inputs) : Type 0 where
  pub work : IsWork s (desk_at s t) u v n
  pub placed : IsPlaced s (desk_at s t) (place_of t.index) u v

-- a pair that was looked at stands there too; it is settled where its inputs are the kept ones, and work where not
pub record IsReread (s : Setting) (t : Table) (u v : ℕ) (kept : Bool) (n : Inputs) : Type 0 where
  pub placed : IsPlaced s (desk_at s t) (place_of t.index) u v
  pub settled : IsTrue kept → IsSettled s (desk_at s t) u v
  pub work : IsFalse kept → IsWork s (desk_at s t) u v n

-- such work of the front slot
pub record HasWork (s : Setting) (d : Desk) (u t : ℕ) (n : Inputs) : Type 0 where
  pub is_slot : t < s.slots
  pub idle : IsIdleBefore s d t
  pub work : IsWork s d u t n

-- the first nodes are not active at a slot
abbrev pub NoneActive : Desk → ℕ → ℕ → Type 0
NoneActive d slot nodes = (u : ℕ) → u < nodes → d.active u slot ≡ false

-- all but active pairs, claims and the index stays
abbrev pub SameWorkAs : Table → Table → Type 0
SameWorkAs old new = new ≡ record old { frontier = new.frontier; index = new.index }
