-- The pairs whose inputs an edit may change.
use Rattle.std.specs.Prelude.{◌≡◌, ℕ, ◌<◌, ◌≤◌, ◌&&◌, min, nat_le, nat_lt, Bool, false, List, [], ◌∷◌, ◌++◌, length, Ok, Option, None, Some}
use Rattle.std.specs.List.{list_any}
use Rattle.std.specs.Option.{option_map_or}
use Rattle.ltm_units.specs.declared.places.Reach.{Reach}
use Rattle.ltm_curve.specs.Counts.{Counts}
use Rattle.ltm_limits.specs.Limits.{AreWhole}
use Rattle.ltm_network.specs.Network.{NetworkData, find_node, find_link, tail_of, head_of}
use Rattle.ltm_scenario.specs.declared.edit.Edit.{Edit}
use Rattle.ltm_scenario.specs.declared.edit.Edit.TheVariants.{Demand, Limit, Split, Splits, Diagram, Exit, Horizon}
use Rattle.ltm_scenario.specs.Data.{ScenarioData}
use Rattle.ltm_scenario.specs.Edits.{edited, edited_from}
use Rattle.ltm_loading.specs.Flows.{position}
use Rattle.ltm_loading.specs.Networks.{SameNetwork}
use Rattle.ltm_loading.specs.Pairs.{pair_row}
use Rattle.ltm_setting.specs.Setting.{setting_of}
use Rattle.ltm_pairs.specs.Reaches.{reach, lies_in_one}

-- slots of the node of that name
abbrev pub of_node : NetworkData → List ℕ → ℕ → ℕ → List Reach
of_node network name from to = option_map_or (λ node. reach node from to ∷ []) (find_node network name) []

-- slots of the node at an end of the link of that name
abbrev pub of_end : NetworkData → (ℕ → ℕ) → List ℕ → ℕ → ℕ → List Reach
of_end network end name from to = option_map_or (λ link. reach (end link) from to ∷ []) (find_link network name) []

-- demand: its origin, from its first slot on. An entry limit: the tail of the link, in its slots. An exit limit: the
-- head, in its slots. Weights: the node, from their first slot on; where they are all that the node has for a
-- destination, in every slot. A diagram: both ends of the link, in every slot. A
-- longer horizon: no pair that was there before
abbrev pub touched_in : NetworkData → ℕ → Edit → List Reach
touched_in network slots (Demand origin destination from to amount) = of_node network origin from slots
touched_in network slots (Limit link from to amount) = of_end network (tail_of network) link from (min to slots)
touched_in network slots (Split node destination from weights) = of_node network node from slots
touched_in network slots (Splits node destination rows) = of_node network node 0 slots
touched_in network slots (Diagram link diagram) = of_end network (tail_of network) link 0 slots ++ of_end network (head_of network) link 0 slots
touched_in network slots (Exit link from to amount) = of_end network (head_of network) link from (min to slots)
touched_in network slots (Horizon more) = []

abbrev pub touched_by : ScenarioData → Edit → List Reach
touched_by s edit = touched_in s.network s.setup.slots edit

-- the slots that an edit adds to the horizon, from one up to and without another; one kind of edit alone adds any
abbrev pub new_slots : ScenarioData → Edit → Option (ℕ × ℕ)
new_slots s (Demand origin destination from to amount) = None
new_slots s (Limit link from to amount) = None
new_slots s (Split node destination from weights) = None
new_slots s (Splits node destination rows) = None
new_slots s (Diagram link diagram) = None
new_slots s (Exit link from to amount) = None
new_slots s (Horizon slots) = Some (s.setup.slots, slots)

-- the slot is one that the edit adds
abbrev pub adds_slot : ScenarioData → Edit → ℕ → Bool
adds_slot s edit slot = option_map_or (λ added. nat_le added.0 slot && nat_lt slot added.1) (new_slots s edit) false

-- the pair lies in a reach of one of the edits
abbrev pub is_touched : ScenarioData → List Edit → ℕ → ℕ → Bool
is_touched s edits node slot = list_any (λ edit. lies_in_one (touched_by s edit) node slot) edits

-- the slot is one that one of the edits adds
abbrev pub is_added : ScenarioData → List Edit → ℕ → Bool
is_added s edits slot = list_any (λ edit. adds_slot s edit slot) edits

-- each link has an entry and an exit limit for each slot
pub record HaveSlots (s : ScenarioData) : Type 0 where
  pub entry : AreWhole s.entry (length s.network.links) s.setup.slots
  pub exit : AreWhole s.exit (length s.network.links) s.setup.slots

-- an edit leaves the network as it is, the horizon no shorter, and limits whole
pub record EditKeeps (s next : ScenarioData) : Type 0 where
  pub network : SameNetwork (setting_of s) (setting_of next)
  pub slots : (setting_of s).slots ≤ (setting_of next).slots
  pub limits : HaveSlots s → HaveSlots next

abbrev pub EditsKeep : Type 0
EditsKeep = (s next : ScenarioData) (edit : Edit) → edited s edit ≡ Ok next → EditKeeps s next

-- each pair of the first scenario that does not pass the test reads the same of both, whatever the counts are, and its
-- in-links have the same positions
pub record ReadsSameBut (s next : ScenarioData) (touched : ℕ → ℕ → Bool) : Type 0 where
  pub inputs : (c : Counts) (u t : ℕ) → t < s.setup.slots → touched u t ≡ false → pair_row (setting_of next) c u t ≡ pair_row (setting_of s) c u t
  pub positions : (c : Counts) (u t i : ℕ) → t < s.setup.slots → touched u t ≡ false → i < (setting_of s).ins u →
      position (setting_of next) c ((setting_of s).in_link u i) t ≡ position (setting_of s) c ((setting_of s).in_link u i) t

-- so reads a pair outside the reaches of an accepted edit
abbrev pub TouchedHoldsReaders : Type 0
TouchedHoldsReaders =
    (s next : ScenarioData) (edit : Edit) → HaveSlots s → edited s edit ≡ Ok next → ReadsSameBut s next (lies_in_one (touched_by s edit))

-- and a pair outside the reaches of an accepted batch, each edit of which is asked of the scenario before the batch
abbrev pub BatchTouchesReaders : Type 0
BatchTouchesReaders =
    (place : ℕ) (s next : ScenarioData) (edits : List Edit) → HaveSlots s → edited_from place s edits ≡ Ok next →
    EditKeeps s next × ReadsSameBut s next (is_touched s edits)

-- and the slots that an accepted batch adds to the horizon are those that its edits add, each asked of the scenario before
-- the batch
abbrev pub AddedSlotsAreNew : Type 0
AddedSlotsAreNew =
    (place : ℕ) (s next : ScenarioData) (edits : List Edit) → edited_from place s edits ≡ Ok next →
    (slot : ℕ) → is_added s edits slot ≡ (nat_le s.setup.slots slot && nat_lt slot next.setup.slots)
