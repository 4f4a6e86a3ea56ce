-- A made case: a scenario, a batch and a schedule, each from the words that are left.
use Rattle.std.specs.Prelude.{ℕ, zero, suc, ◌≡◌, ◌*◌, ◌-◌, ◌%◌, List, [], ◌∷◌, ◌++◌, length}
use Rattle.rand_pcg.specs.Lcg.{Lcg}
use Rattle.ltm_scenario.specs.declared.edit.Edit.{Edit}
use Rattle.ltm_scenario.specs.declared.edit.Edit.TheVariants.{Demand, Limit}
use Rattle.ltm_make.specs.declared.making.Making.{Making}
use Rattle.ltm_make.specs.declared.made.Made.{Made}
use Rattle.ltm_make.specs.Words.{word, rest}
use Rattle.ltm_make.specs.Names.{name_of_node, name_of_link}
use Rattle.ltm_make.specs.Links.{making_from, with_grid}
use Rattle.ltm_make.specs.Splits.{with_ends, with_splits}
use Rattle.ltm_make.specs.Demands.{with_demands}

-- the links of the grid, then the destinations, the split rows and the demand
abbrev pub made_from : ℕ → ℕ → ℕ → Making
made_from start nodes width = with_demands width nodes (with_splits nodes width nodes (with_ends width (with_grid nodes width (making_from start))))

-- one vehicle a slot into a link that is drawn, over the slots 5 to 14; then 30 vehicles from the last node to the first,
-- over the slots 0 to 9
abbrev pub two_edits : ℕ → ℕ → List Edit
two_edits link last =
    Limit (name_of_link link) 5 15 (record { 0 = 1000 }) ∷ Demand (name_of_node last) (name_of_node 0) 0 10 (record { 0 = 30000 }) ∷ []

abbrev pub batch_of : ℕ → Making → List Edit
batch_of nodes m = two_edits (word m.words % length m.scenario.network.links) (nodes - 1)

-- the words behind so many
abbrev pub words_past : ℕ → Lcg → Lcg
words_past zero g = g
words_past (suc n) g = rest (words_past n g)

-- so many bytes, one of each word
abbrev pub bytes_of : ℕ → Lcg → List ℕ
bytes_of zero g = []
bytes_of (suc n) g = bytes_of n g ++ (word (words_past n g) % 256) ∷ []

-- for each node 480 bytes
abbrev pub schedule_of : ℕ → Making → List ℕ
schedule_of nodes m = bytes_of (480 * nodes) (rest m.words)

-- what is made of a number, for so many nodes
pub record IsMade (start nodes width : ℕ) (made : Made) : Type 0 where
  pub scenario : made.scenario ≡ (made_from start nodes width).scenario
  pub batch : made.batch ≡ batch_of nodes (made_from start nodes width)
  pub schedule : made.schedule.items ≡ schedule_of nodes (made_from start nodes width)
