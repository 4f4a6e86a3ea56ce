-- At which pairs of node and slot split rows begin.
use Rattle.std.specs.Prelude.{◌≡◌, ℕ, ◌+◌, ◌<◌, ◌==◌, ◌&&◌, Bool, false, List}
use Rattle.std.specs.List.{list_any}
use Rattle.ltm_marks.specs.Marks.{width_of, rows_of, is_marked}
use Rattle.ltm_splits.specs.declared.keys.SplitKey.{SplitKey}
use Rattle.ltm_splits.specs.Rows.{SplitRow}
use Rattle.ltm_inputs.specs.Setting.{Setting}
use Rattle.ltm_inputs.specs.Parts.{weights_part}
use Rattle.ltm_rows.specs.declared.begins.Begins.{Begins}

-- whether the key is that of a row of a node that begins at a slot
abbrev pub key_begins : SplitKey → ℕ → ℕ → Bool
key_begins key u t = (key.node.0 == u) && (key.from == t)

-- whether one of the rows does
abbrev pub row_begins : List SplitRow → ℕ → ℕ → Bool
row_begins rows u t = list_any (λ row. key_begins row.0 u t) rows

-- for how many nodes and slots it is known
abbrev pub nodes_begun : Begins → ℕ
nodes_begun b = width_of b.marks

abbrev pub slots_begun : Begins → ℕ
slots_begun b = rows_of b.marks

-- whether a row of a node is marked to begin at a slot
abbrev pub begins_at : Begins → ℕ → ℕ → Bool
begins_at b u t = is_marked b.marks u t

-- at a slot at which none begins the weights of a node are those of the slot before
pub record TellsBegins (s : Setting) (b : Begins) : Type 0 where
  pub nodes : nodes_begun b ≡ s.nodes
  pub slots : slots_begun b ≡ s.slots
  pub stay : (u t : ℕ) → u < s.nodes → t + 1 < s.slots → begins_at b u (t + 1) ≡ false → weights_part s u (t + 1) ≡ weights_part s u t
