-- What a finished loading shows, and of which setting it is the loading.
use Rattle.std.specs.Prelude.{◌≡◌, ◌≢◌, ℕ, ◌<◌, ◌≤◌, ◌⊎◌, min, map, slice_index, false}
use Rattle.ltm_curve.specs.declared.curves.Curves.{Curves}
use Rattle.ltm_curve.specs.declared.changed.Changed.{Changed}
use Rattle.ltm_curve.specs.declared.total_curves.TotalCurves.{TotalCurves}
use Rattle.ltm_curve.specs.Counts.{Counts}
use Rattle.ltm_curve.specs.Table.{groups_of, slots_of, total_of}
use Rattle.ltm_curve.specs.TotalCurves.{total_groups, total_slots, total_room, total_at, HasTotals}
use Rattle.ltm_curve.specs.Cells.{is_changed}
use Rattle.ltm_loading.specs.Setting.{Setting}
use Rattle.ltm_loading.specs.Loading.{IsLoading}
use Rattle.ltm_loading.specs.LoadingTotals.{HaveTotals}
use Rattle.ltm_loading.specs.Totals.{generated}
use Rattle.ltm_loading.specs.Groups.{groups}
use Rattle.ltm_flows.specs.declared.loading.Loading.{Loading}
use Rattle.ltm_flows.specs.Origins.{produced_in_all}
use Rattle.ltm_flows.specs.Production.{produced_in, all_produced}

abbrev pub version_of : Loading → ℕ
version_of l = l.version

abbrev pub step_of : Loading → ℕ
step_of l = l.step.0

abbrev pub links_of : Loading → ℕ
links_of l = l.links

abbrev pub nodes_of : Loading → ℕ
nodes_of l = l.nodes

-- the totals of its groups by boundary
abbrev pub curves_of : Loading → TotalCurves
curves_of l = l.curves

-- the last boundary
abbrev pub last_of : Loading → ℕ
last_of l = total_slots l.curves

-- the free-flow time of a link
abbrev pub free_of : Loading → ℕ → ℕ
free_of l link = slice_index (map (λ time. time.0) l.free.items) link

-- what the origin of a node has produced by a boundary
abbrev pub produced_of : Loading → ℕ → ℕ → ℕ
produced_of l node boundary = produced_in l.production node boundary

-- what all origins have
abbrev pub generated_of : Loading → ℕ → ℕ
generated_of l boundary = all_produced l.production boundary

-- for how many slots a loading has room
abbrev pub loading_room : Loading → ℕ
loading_room l = min (total_room l.curves) l.production.room

-- a loading is of these counts, which are the one loading of a setting, under a version
pub record ShowsCounts (s : Setting) (number : ℕ) (c : Counts) (l : Loading) : Type 0 where
  pub version : version_of l ≡ number
  pub loading : IsLoading s c
  pub shape : HasTotals (curves_of l) (groups s) s.slots
  pub totals : HaveTotals s c (total_at (curves_of l))
  pub step : step_of l ≡ s.step
  pub links : links_of l ≡ s.links
  pub nodes : nodes_of l ≡ s.nodes
  pub free : (i : ℕ) → i < s.links → free_of l i ≡ s.free_time i
  pub produced : (n k : ℕ) → n < s.nodes → k ≤ s.slots → produced_of l n k ≡ produced_in_all s n k
  pub generated : (k : ℕ) → k ≤ s.slots → generated_of l k ≡ generated s k

-- a loading is the one loading of a setting, under a version
abbrev pub Shows : Setting → ℕ → Loading → Type 0
Shows s number l = (c : Counts) × ShowsCounts s number c l

-- a loading has the sizes of a setting, or fewer slots and room for those of the setting
pub record Fits (s : Setting) (l : Loading) : Type 0 where
  pub groups : total_groups (curves_of l) ≡ groups s
  pub slots : last_of l ≤ s.slots
  pub room : s.slots ≤ loading_room l
  pub links : links_of l ≡ s.links
  pub nodes : nodes_of l ≡ s.nodes

-- outside the changed cells a loading has the totals of these curves, and those that it does not reach are 0
pub record AgreesOutside (l : Loading) (c : Curves) (changed : Changed) : Type 0 where
  pub agree : (g k : ℕ) → g < groups_of c → k ≤ last_of l → is_changed changed g k ≡ false → total_at (curves_of l) g k ≡ total_of c g k
  pub beyond : (g k : ℕ) → g < groups_of c → k ≤ slots_of c → last_of l < k → is_changed changed g k ≡ false → total_of c g k ≡ 0

-- by each boundary of a loading its origins have produced what they produce in a setting
abbrev pub HasProduction : Setting → Loading → Type 0
HasProduction s l = (n k : ℕ) → n < s.nodes → k ≤ last_of l → produced_of l n k ≡ produced_in_all s n k

-- what the origin of a node has produced behind a boundary is that of a setting, and all else that origins have is as before
pub record RenewsProduction (s : Setting) (node behind : ℕ) (old new : Loading) : Type 0 where
  pub renewed : (k : ℕ) → behind < k → k ≤ last_of old → produced_of new node k ≡ produced_in_all s node k
  pub others : (n k : ℕ) → n < nodes_of old → k ≤ last_of old → (n ≢ node) ⊎ (k ≤ behind) → produced_of new n k ≡ produced_of old n k

-- all else that is read from a loading stays, and its room
pub record SameButProduction (old new : Loading) : Type 0 where
  pub version : version_of new ≡ version_of old
  pub step : step_of new ≡ step_of old
  pub links : links_of new ≡ links_of old
  pub nodes : nodes_of new ≡ nodes_of old
  pub curves : curves_of new ≡ curves_of old
  pub free : free_of new ≡ free_of old
  pub room : loading_room new ≡ loading_room old

-- all that is read from a loading stays
pub record SameLoading (old new : Loading) : Type 0 where
  pub version : version_of new ≡ version_of old
  pub step : step_of new ≡ step_of old
  pub links : links_of new ≡ links_of old
  pub nodes : nodes_of new ≡ nodes_of old
  pub shape : HasTotals (curves_of new) (total_groups (curves_of old)) (last_of old)
  pub totals : total_at (curves_of new) ≡ total_at (curves_of old)
  pub free : (i : ℕ) → free_of new i ≡ free_of old i
  pub produced : (n k : ℕ) → n < nodes_of old → k ≤ last_of old → produced_of new n k ≡ produced_of old n k
  pub generated : (k : ℕ) → k ≤ last_of old → generated_of new k ≡ generated_of old k
