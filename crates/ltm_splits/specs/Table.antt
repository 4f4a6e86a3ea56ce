-- How the rows lie: for each node, for each destination, the short list of first slots and weights.
use Rattle.std.specs.Prelude.{ℕ, ◌+◌, List, [], ◌∷◌, ◌++◌, map, slice_index_or, slice_set}
use Rattle.ltm_splits.specs.Rows.{SplitRow, key_of}

-- the lists of the places from i on, end to end
abbrev pub end_to_end : {A E : Type 0} → (ℕ → A → List E) → ℕ → List A → List E
end_to_end list i [] = []
end_to_end list i (x ∷ xs) = list i x ++ end_to_end list (i + 1) xs

-- a first slot, and the weights from then on
abbrev pub Entry : Type 0
Entry = ℕ × List ℕ

abbrev pub rows_of_pair : ℕ → ℕ → List Entry → List SplitRow
rows_of_pair node destination entries = map (λ e. (key_of node destination e.0, e.1)) entries

abbrev pub rows_of_node : ℕ → List (List Entry) → List SplitRow
rows_of_node node pairs = end_to_end (rows_of_pair node) 0 pairs

abbrev pub rows_of_all : List (List (List Entry)) → List SplitRow
rows_of_all nodes = end_to_end rows_of_node 0 nodes

-- the list of a pair
abbrev pub entries_at : List (List (List Entry)) → ℕ → ℕ → List Entry
entries_at nodes node destination = slice_index_or (slice_index_or nodes node []) destination []

-- with another list for a pair
abbrev pub with_entries : List (List (List Entry)) → ℕ → ℕ → List Entry → List (List (List Entry))
with_entries nodes node destination entries = slice_set nodes node (slice_set (slice_index_or nodes node []) destination entries)

-- the rows from a place on: those left of a pair, then those of the pairs left of its node, then those of the nodes left
abbrev pub rows_left : ℕ → ℕ → List Entry → ℕ → List (List Entry) → ℕ → List (List (List Entry)) → List SplitRow
rows_left node destination entries next_destination pairs next_node nodes =
    rows_of_pair node destination entries ++ (end_to_end (rows_of_pair node) next_destination pairs ++ end_to_end rows_of_node next_node nodes)
