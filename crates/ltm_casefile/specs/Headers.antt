-- Which headers a setup may have, as they are written.
use Rattle.std.specs.Prelude.{ℕ, ◌≡◌, ◌-◌, ◌++◌, codes, Bool, true, if◌then◌else◌, List, [], ◌∷◌, ◌↔◌}
use Rattle.ltm_records.specs.Fields.{Fields, field}
use Rattle.ltm_casefile.specs.declared.columns.Columns.{Columns}
use Rattle.ltm_casefile.specs.Columns.{limits_field, cells_field, rows_field, links_field, destinations_field, moves_field, carry_field, history_field, routes_field, columns_of, is_setup_header}

-- a name, or nothing
abbrev pub if_there : Bool → List ℕ → Fields
if_there there name = if there then name ∷ [] else []

-- three names, and then any of ten, in this order
abbrev pub header_of : Columns → Fields
header_of c =
    codes "step_ms" ∷ codes "slots" ∷ codes "origin_capacity"
    ∷ (if_there c.signals (codes "signals") ++ (if_there c.limits (codes "limits") ++ (if_there c.cells (codes "cells") ++ (if_there c.rows (codes "rows")
    ++ (if_there c.links (codes "links") ++ (if_there c.destinations (codes "destinations") ++ (if_there c.moves (codes "moves") ++ (if_there c.carry (codes "carry")
    ++ (if_there c.history (codes "history") ++ if_there c.routes (codes "routes"))))))))))

-- a header is taken exactly if it is one of these, and what is read of it is which
abbrev pub HeadersAreTaken : Type 0
HeadersAreTaken =
    (fields : Fields) → ((is_setup_header fields ≡ true) ↔ ((c : Columns) × (fields ≡ header_of c)))
    × ((c : Columns) → fields ≡ header_of c → columns_of fields ≡ c)

-- each column's number is read where its own name stands
pub record AreAtTheirNames (c : Columns) : Type 0 where
  pub signals : c.signals ≡ true → field (header_of c) 3 ≡ codes "signals"
  pub limits : c.limits ≡ true → field (header_of c) (limits_field c - 1) ≡ codes "limits"
  pub cells : c.cells ≡ true → field (header_of c) (cells_field c - 1) ≡ codes "cells"
  pub rows : c.rows ≡ true → field (header_of c) (rows_field c - 1) ≡ codes "rows"
  pub links : c.links ≡ true → field (header_of c) (links_field c - 1) ≡ codes "links"
  pub destinations : c.destinations ≡ true → field (header_of c) (destinations_field c - 1) ≡ codes "destinations"
  pub moves : c.moves ≡ true → field (header_of c) (moves_field c - 1) ≡ codes "moves"
  pub carry : c.carry ≡ true → field (header_of c) (carry_field c - 1) ≡ codes "carry"
  pub history : c.history ≡ true → field (header_of c) (history_field c - 1) ≡ codes "history"
  pub routes : c.routes ≡ true → field (header_of c) (routes_field c - 1) ≡ codes "routes"

abbrev pub ColumnsAreAtTheirNames : Type 0
ColumnsAreAtTheirNames = (c : Columns) → AreAtTheirNames c
