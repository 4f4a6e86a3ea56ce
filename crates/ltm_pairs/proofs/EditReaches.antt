-- What a pair reads outside the reaches of an edit.
use Rattle.std.proofs.Common.{◌≡◌, ℕ, ◌<◌, ◌≤◌, ◌⊎◌, ◌||◌, min, List, [], ◌∷◌, ◌++◌, Bool, true, false, length, Some, Option, arith, inl, inr, refl, ap, subst}
use Rattle.std.specs.Option.{option_map_or}
use Rattle.std.proofs.lemmas.List.{length-map}
use Rattle.ltm_units.specs.declared.places.Reach.{Reach}
use Rattle.ltm_network.specs.Network.{NetworkData, Link, find_node, find_link, tail_of, head_of, link_names}
use Rattle.ltm_network.proofs.Apart.{named_there}
use Rattle.ltm_scenario.specs.declared.edit.Edit.{Edit}
use Rattle.ltm_scenario.specs.Data.{ScenarioData}
use Rattle.ltm_scenario.specs.Build.{as_limit}
use Rattle.ltm_scenario.specs.Edits.{weights_at, entries_said}
use Rattle.ltm_scenario.specs.Makes.{Makes, demand, entry, exit, split, splits, diagram, horizon}
use Rattle.ltm_loading.specs.Networks.{SameFor}
use Rattle.ltm_setting.specs.Setting.{setting_of}
use Rattle.ltm_pairs.specs.Reaches.{reach, lies_in, lies_in_one}
use Rattle.ltm_pairs.specs.Touched.{of_node, of_end, touched_by, HaveSlots, TouchedHoldsReaders}
use Rattle.ltm_pairs.proofs.EditLaws.{EditLaws}
use Rattle.ltm_pairs.proofs.Touching.{outside, outside_slots, row_long, by_demand, by_split, by_pair, by_entry, by_exit, by_diagram, by_horizon}

-- ---- tests
no_end : (a : Bool) → a || false ≡ false → a ≡ false
no_end true h = cc
no_end false h = refl

neither : (a b : Bool) → a || (b || false) ≡ false → (a ≡ false) × (b ≡ false)
neither true b h = cc
neither false b h = (refl, no_end b h)

-- ---- a name that is found has the reach of its number
reach_at : (network : NetworkData) (name : List ℕ) (from to node u t : ℕ) → find_node network name ≡ Some node → lies_in_one (of_node network name from to) u t ≡ false → lies_in u t (reach node from to) ≡ false
reach_at network name from to node u t is h =
    let at : of_node network name from to ≡ reach node from to ∷ [] = ap (λ (o : Option ℕ). option_map_or (λ n. reach n from to ∷ []) o []) is in
    no_end (lies_in u t (reach node from to)) (subst (λ (rs : List Reach). lies_in_one rs u t ≡ false) at h)

end_at : (network : NetworkData) (end : ℕ → ℕ) (name : List ℕ) (from to link u t : ℕ) → find_link network name ≡ Some link → lies_in_one (of_end network end name from to) u t ≡ false →
    lies_in u t (reach (end link) from to) ≡ false
end_at network end name from to link u t is h =
    let at : of_end network end name from to ≡ reach (end link) from to ∷ [] = ap (λ (o : Option ℕ). option_map_or (λ l. reach (end l) from to ∷ []) o []) is in
    no_end (lies_in u t (reach (end link) from to)) (subst (λ (rs : List Reach). lies_in_one rs u t ≡ false) at h)

-- a link that is found is one
pub link_there : (s : ScenarioData) (name : List ℕ) (link : ℕ) → find_link s.network name ≡ Some link → link < length s.network.links
link_there s name link is = omega ((named_there (link_names s.network) name link is).0, length-map s.network.links (λ (l : Link). l.name), arith)

-- not in a reach from a slot on, or not in a reach that is cut at the horizon
from_on : (node from slots first u t : ℕ) → lies_in u t (reach node from slots) ≡ false → t < slots → first ≡ from → (node ≡ u → ⊥) ⊎ (t < first)
from_on node from slots first u t h l is = elim (outside node from slots u t h l) [ inl apart ↦ inl apart | inr soon ↦ inr (omega arith) ]

in_slots : (node from to slots u t : ℕ) → lies_in u t (reach node from (min to slots)) ≡ false → to ≤ slots → (node ≡ u → ⊥) ⊎ ((t < from) ⊎ (to ≤ t))
in_slots node from to slots u t h fits =
    elim (outside_slots node from (min to slots) u t h) [
      | inl apart ↦ inl apart
      | inr slots ↦ inr (elim slots [ inl soon ↦ inl soon | inr late ↦ inr (omega arith) ])
    ]

-- no slot of the node is in the horizon
nowhere : (node slots u t : ℕ) → lies_in u t (reach node 0 slots) ≡ false → t < slots → node ≡ u → ⊥
nowhere node slots u t h l = elim (outside node 0 slots u t h l) [ inl apart ↦ apart | inr soon ↦ absurd (omega arith) ]

-- ---- what an edit makes gives a pair outside its reaches the same numbers
same_for : EditLaws → (s next : ScenarioData) (edit : Edit) → HaveSlots s → Makes s next edit → (u t : ℕ) → t < s.setup.slots → lies_in_one (touched_by s edit) u t ≡ false → SameFor (setting_of next) (setting_of s) u t
same_for laws s next edit whole (demand origin destination from to amount row said) u t l h =
    by_demand laws s row u t (from_on row.origin.0 from s.setup.slots row.from u t (reach_at s.network origin from s.setup.slots row.origin.0 u t said.starts_at h) l said.begins)
same_for laws s next edit whole (entry name from to amount link said) u t l h =
    let there : link < length s.network.links = link_there s name link said.named in
    by_entry laws s link from to (as_limit amount.0) u t (omega (arith, whole.entry.for_each)) (omega (said.some_slots, arith))
    (omega (arith, said.within, row_long s.entry (length s.network.links) s.setup.slots link whole.entry there))
    (in_slots (tail_of s.network link) from to s.setup.slots u t (end_at s.network (tail_of s.network) name from (min to s.setup.slots) link u t said.named h) said.within)
same_for laws s next edit whole (exit name from to amount link said) u t l h =
    let there : link < length s.network.links = link_there s name link said.named in
    by_exit laws s link from to (as_limit amount.0) u t (omega (arith, whole.exit.for_each)) (omega (said.some_slots, arith))
    (omega (arith, said.within, row_long s.exit (length s.network.links) s.setup.slots link whole.exit there))
    (in_slots (head_of s.network link) from to s.setup.slots u t (end_at s.network (head_of s.network) name from (min to s.setup.slots) link u t said.named h) said.within)
same_for laws s next edit whole (split node destination from weights key said) u t l h =
    by_split laws s key (weights_at s key.node.0 weights) u t
    (from_on key.node.0 from s.setup.slots key.from u t (reach_at s.network node from s.setup.slots key.node.0 u t said.stands_at h) l said.begins)
same_for laws s next edit whole (splits node destination rows n d said) u t l h =
    by_pair laws s n d (entries_said s n rows) u t (nowhere n s.setup.slots u t (reach_at s.network node 0 s.setup.slots n u t said.stand_at h) l)
same_for laws s next edit whole (diagram name new link named sets) u t l h =
    let slots : ℕ = s.setup.slots in
    let both = neither (lies_in u t (reach (tail_of s.network link) 0 slots)) (lies_in u t (reach (head_of s.network link) 0 slots))
    (subst (λ (o : Option ℕ). lies_in_one (option_map_or (λ l. reach (tail_of s.network l) 0 slots ∷ []) o [] ++ option_map_or (λ l. reach (head_of s.network l) 0 slots ∷ []) o []) u t ≡ false) named h) in
    by_diagram s link new u t (nowhere (tail_of s.network link) slots u t both.0 l) (nowhere (head_of s.network link) slots u t both.1 l)
same_for laws s next edit whole (horizon slots said) u t l h = by_horizon laws s slots u t whole.entry whole.exit l

pub touched_holds_readers : EditLaws → TouchedHoldsReaders
touched_holds_readers laws s next edit whole is =
    let made : Makes s next edit = laws.make s next edit is in
    record {
      inputs = λ c u t l h. laws.reads (setting_of next) (setting_of s) c u t (same_for laws s next edit whole made u t l h);
      positions = λ c u t i l h x. laws.positions (setting_of next) (setting_of s) c u t i (same_for laws s next edit whole made u t l h) x;
    }
