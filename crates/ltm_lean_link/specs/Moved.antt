-- What a link sends and what moves there in a slot, told by place in the list of a node.
use Rattle.std.specs.Prelude.{◌≡◌, ℕ, ◌+◌, ◌-◌, ◌<◌, List, length, slice_index, min}
use Rattle.ltm_curve.specs.Counts.{Counts}
use Rattle.ltm_loading.specs.Setting.{Setting}
use Rattle.ltm_loading.specs.Groups.{up_of, down_of}
use Rattle.ltm_loading.specs.Flows.{link_sending}
use Rattle.ltm_standing.specs.declared.standing.Standing.{Standing}
use Rattle.ltm_standing.specs.Listed.{NotIn, IsListed, Stands, HasEntered}
use Rattle.ltm_totals.specs.declared.totals.Totals.{Totals}
use Rattle.ltm_totals.specs.Totals.{AreTotals}
use Rattle.ltm_lean_node.specs.Places.{ArePlaces}

-- a link of a loading at the beginning of a slot, with all that entered before it taken in
pub record IsLinkAt (s : Setting) (c : Counts) (l t : ℕ) (ds : List ℕ) (entered left : Totals) (standing : Standing) : Type 0 where
  pub listed : IsListed s c l ds
  pub up : AreTotals s c up_of t entered
  pub down : AreTotals s c down_of t left
  pub stands : Stands c l ds t t standing

-- what a link sends in a slot of each destination of the list of a node
abbrev pub IsSent : Setting → Counts → ℕ → ℕ → List ℕ → List ℕ → Type 0
IsSent s c l t us row = (k : ℕ) → k < length us → slice_index row k ≡ link_sending s c l t (slice_index us k)

-- what entered a link in the slot before a slot; before the first nothing did
abbrev pub HasCome : Setting → Counts → ℕ → List ℕ → ℕ → ℕ → List ℕ → Type 0
HasCome s c l ds t came mail = 0 < t → HasEntered s c l ds (t - 1) came mail

-- what is counted in a slot of the destinations of the list of a node; of the others nothing is
pub record IsMoved (s : Setting) (c : Counts) (group t : ℕ) (us moved : List ℕ) : Type 0 where
  pub each : (k : ℕ) → k < length us → c group (slice_index us k) (t + 1) ≡ c group (slice_index us k) t + slice_index moved k
  pub others : (d : ℕ) → d < s.destinations → NotIn us d → c group d (t + 1) ≡ c group d t

-- what is counted at an end of a link in a slot, by place in the list of the node there, and the places of the link's list
pub record IsMovedAt (s : Setting) (c : Counts) (l group t : ℕ) (ds us places moved : List ℕ) : Type 0 where
  pub listed : IsListed s c l ds
  pub slot : t < s.slots
  pub placed : ArePlaces ds us places
  pub long : length moved ≡ length us
  pub counted : IsMoved s c group t us moved

-- the number at the place of a destination, at most 65,535; 0 where the place is not there
abbrev pub moved_at : List ℕ → List ℕ → ℕ → ℕ
moved_at moved places i = min 65535 (slice_index moved (slice_index places i))
