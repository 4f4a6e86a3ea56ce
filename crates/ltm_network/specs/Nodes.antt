-- The tables of the nodes: names, and the numbers of the links that leave and enter each.
use Rattle.std.specs.Prelude.{ℕ, is_some, if◌then◌else◌, List, [], ◌∷◌, ◌++◌, slice_index_or, slice_set, take}
use Rattle.ltm_network.specs.Names.{place_of, with_name}

pub record NodeTables : Type 0 where
  pub names : List (List ℕ)
  pub outs : List (List ℕ)
  pub ins : List (List ℕ)

-- a table of links with one row more, where the name is new
abbrev pub with_row_if_new : List (List ℕ) → List ℕ → List (List ℕ) → List (List ℕ)
with_row_if_new names name table = if is_some (place_of names name) then table else table ++ [] ∷ []

-- the tables, with a node of that name
abbrev pub with_node : NodeTables → List ℕ → NodeTables
with_node n name = record { names = with_name n.names name; outs = with_row_if_new n.names name n.outs; ins = with_row_if_new n.names name n.ins }

abbrev pub first_nodes : ℕ → NodeTables → NodeTables
first_nodes count n = record { names = take count n.names; outs = take count n.outs; ins = take count n.ins }

-- the link last in one row
abbrev pub with_last : List (List ℕ) → ℕ → ℕ → List (List ℕ)
with_last table node link = slice_set table node (slice_index_or table node [] ++ link ∷ [])

-- the tables, with a link that leaves the tail and enters the head
abbrev pub with_ends : NodeTables → ℕ → ℕ → ℕ → NodeTables
with_ends n link tail head = record { names = n.names; outs = with_last n.outs tail link; ins = with_last n.ins head link }
