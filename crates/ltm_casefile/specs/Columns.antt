-- The header of a setup: three columns, and then any of signals, limits, cells, rows, links, destinations,
-- moves, carry, history and routes, in this order.
use Rattle.std.specs.Prelude.{ℕ, ◌+◌, ◌==◌, ◌&&◌, codes, Bool, if◌then◌else◌, length}
use Rattle.ltm_records.specs.Fields.{Fields, has}
use Rattle.ltm_casefile.specs.declared.columns.Columns.{Columns}

-- one column, or none
abbrev pub one_if : Bool → ℕ
one_if there = if there then 1 else 0

-- where a field stands in a record, counted from 1; that of the signals is the fourth
abbrev pub limits_field : Columns → ℕ
limits_field c = 4 + one_if c.signals

abbrev pub cells_field : Columns → ℕ
cells_field c = limits_field c + one_if c.limits

abbrev pub rows_field : Columns → ℕ
rows_field c = cells_field c + one_if c.cells

abbrev pub links_field : Columns → ℕ
links_field c = rows_field c + one_if c.rows

abbrev pub destinations_field : Columns → ℕ
destinations_field c = links_field c + one_if c.links

abbrev pub moves_field : Columns → ℕ
moves_field c = destinations_field c + one_if c.destinations

abbrev pub carry_field : Columns → ℕ
carry_field c = moves_field c + one_if c.moves

abbrev pub history_field : Columns → ℕ
history_field c = carry_field c + one_if c.carry

abbrev pub routes_field : Columns → ℕ
routes_field c = history_field c + one_if c.history

-- how many fields a record has
abbrev pub width_of : Columns → ℕ
width_of c = 3 + one_if c.signals + one_if c.limits + one_if c.cells + one_if c.rows + one_if c.links + one_if c.destinations + one_if c.moves + one_if c.carry + one_if c.history + one_if c.routes

-- which of the ten a header has
unfoldable pub columns_of : Fields → Columns
columns_of fields =
    let signals = has fields 3 (codes "signals") in
    let limits_at = 3 + one_if signals in
    let limits = has fields limits_at (codes "limits") in
    let cells_at = limits_at + one_if limits in
    let cells = has fields cells_at (codes "cells") in
    let rows_at = cells_at + one_if cells in
    let rows = has fields rows_at (codes "rows") in
    let links_at = rows_at + one_if rows in
    let links = has fields links_at (codes "links") in
    let destinations_at = links_at + one_if links in
    let destinations = has fields destinations_at (codes "destinations") in
    let moves_at = destinations_at + one_if destinations in
    let moves = has fields moves_at (codes "moves") in
    let carry_at = moves_at + one_if moves in
    let carry = has fields carry_at (codes "carry") in
    let history_at = carry_at + one_if carry in
    let history = has fields history_at (codes "history") in
    let routes = has fields (history_at + one_if history) (codes "routes") in
    record {
      signals = signals;
      limits = limits;
      cells = cells;
      rows = rows;
      links = links;
      destinations = destinations;
      moves = moves;
      carry = carry;
      history = history;
      routes = routes;
    }

-- a header has no other column
abbrev pub is_setup_header : Fields → Bool
is_setup_header fields =
    has fields 0 (codes "step_ms") && has fields 1 (codes "slots") && has fields 2 (codes "origin_capacity") && (length fields == width_of (columns_of fields))
