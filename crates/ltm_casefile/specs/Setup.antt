-- What the setup says.
use Rattle.std.specs.Prelude.{ℕ, ◌==◌, not, nat_lt, Bool, false, if◌then◌else◌, List, [], ◌∷◌, length, Result, Ok, Err}
use Rattle.ltm_units.specs.Bounds.{longest_file, most_kept_rows, most_routed_rows, default_demand_rows, default_split_rows, default_links, default_destinations}
use Rattle.ltm_units.specs.Results.{refuse}
use Rattle.ltm_scenario.specs.declared.setup.SetupFault.{SetupFault}
use Rattle.ltm_scenario.specs.declared.setup.SetupFault.TheVariants.{Range as OutOfRange, MostCells, MostRows, MostLinks, MostDestinations}
use Rattle.ltm_scenario.specs.Setup.{setup_checked, default_cells, kept_or}
use Rattle.ltm_scenario.specs.Data.{empty_scenario}
use Rattle.ltm_scenario.specs.Build.{◌>>=◌}
use Rattle.ltm_records.specs.Fields.{Fields}
use Rattle.ltm_records.specs.Left.{records_of}
use Rattle.ltm_casefile.specs.declared.faults.CaseCause.{CaseCause}
use Rattle.ltm_casefile.specs.declared.faults.CaseCause.TheVariants.{Range, Rows}
use Rattle.ltm_casefile.specs.declared.faults.CaseFault.{CaseFault}
use Rattle.ltm_casefile.specs.declared.faults.CaseFault.TheVariants.{Bad}
use Rattle.ltm_casefile.specs.declared.faults.File.TheVariants as file
use Rattle.ltm_casefile.specs.declared.columns.Columns.{Columns}
use Rattle.ltm_casefile.specs.declared.setup.SetupRecord.{SetupRecord}
use Rattle.ltm_casefile.specs.declared.setup.Opened.{Opened}
use Rattle.ltm_casefile.specs.Columns.{limits_field, cells_field, rows_field, links_field, destinations_field, moves_field, carry_field, history_field, routes_field, width_of, columns_of, is_setup_header}
use Rattle.ltm_casefile.specs.Fields.{has_width, number_in, amount_in}
use Rattle.ltm_casefile.specs.Folder.{longest_large_file}
use Rattle.ltm_casefile.specs.Rows.{at_row, below_header}

-- the number of a column that the header has, or what stands for one that it lacks
abbrev pub number_if : Bool → ℕ → Fields → ℕ → Result ℕ CaseCause
number_if there absent fields field = if there then number_in fields field else Ok absent

-- how many split rows there may be: where nodes without one take their routes, one for each node and destination
abbrev pub most_splits : ℕ → Bool → ℕ → ℕ
most_splits routes history rows = if routes == 1 then kept_or history most_kept_rows most_routed_rows else rows

-- step in milliseconds, slots, origin capacity, and then signals, limits and what bounds the case, below a header with these
-- columns; one column says how many rows of demand there may be, and how many of splits
unfoldable pub setup_record : Columns → Fields → Result SetupRecord CaseCause
setup_record columns fields =
    has_width fields (width_of columns) >>= λ _.
    number_in fields 1 >>= λ step.
    number_in fields 2 >>= λ slots.
    amount_in fields 3 >>= λ capacity.
    number_if columns.signals 0 fields 4 >>= λ signals.
    number_if columns.limits 0 fields (limits_field columns) >>= λ limits.
    number_if columns.cells default_cells fields (cells_field columns) >>= λ cells.
    number_if columns.rows default_demand_rows fields (rows_field columns) >>= λ demand_rows.
    number_if columns.rows default_split_rows fields (rows_field columns) >>= λ split_rows.
    number_if columns.links default_links fields (links_field columns) >>= λ links.
    number_if columns.destinations default_destinations fields (destinations_field columns) >>= λ destinations.
    number_if columns.moves 0 fields (moves_field columns) >>= λ moves.
    number_if columns.carry 0 fields (carry_field columns) >>= λ carry.
    number_if columns.history 1 fields (history_field columns) >>= λ history.
    number_if columns.routes 0 fields (routes_field columns) >>= λ routes.
    Ok (record {
      setup = record {
        step = record { 0 = step };
        slots = slots;
        origin_capacity = capacity;
        most_cells = cells;
        most_demand_rows = demand_rows;
        most_split_rows = most_splits routes (not (history == 0)) split_rows;
        most_links = links;
        most_destinations = destinations;
        by_turn = moves == 1;
        carry = carry == 1;
        history = not (history == 0);
      };
      signals = signals;
      limits = limits;
      moves = moves;
      carry = carry;
      history = history;
      routes = routes;
    })

-- signals and limits are 0 or 1
abbrev pub flags_checked : Columns → SetupRecord → Result (Unit {0}) CaseCause
flags_checked columns r =
    refuse (nat_lt 1 r.signals) (Range 4) >>= λ _.
    refuse (nat_lt 1 r.limits) (Range (limits_field columns))

-- and so are moves, carry, history and routes
abbrev pub rules_checked : Columns → SetupRecord → Result (Unit {0}) CaseCause
rules_checked columns r =
    refuse (nat_lt 1 r.moves) (Range (moves_field columns)) >>= λ _.
    refuse (nat_lt 1 r.carry) (Range (carry_field columns)) >>= λ _.
    refuse (nat_lt 1 r.history) (Range (history_field columns)) >>= λ _.
    refuse (nat_lt 1 r.routes) (Range (routes_field columns))

-- a field is out of its limits, and is the first unless signals or limits are
abbrev pub after_flags : Columns → SetupRecord → ℕ → Result (Unit {0}) CaseCause
after_flags columns r field = flags_checked columns r >>= λ _. Err (Range field)

-- the first field that is out of its limits, in the order of the header: signals and limits stand before what bounds the
-- case, and moves, carry, history and routes, which are 0 or 1, behind that
abbrev pub in_range : Columns → SetupRecord → Result (Unit {0}) SetupFault → Result (Unit {0}) CaseCause
in_range columns r (Ok x) = flags_checked columns r >>= λ _. rules_checked columns r
in_range columns r (Err (OutOfRange field)) = Err (Range field)
in_range columns r (Err MostCells) = after_flags columns r (cells_field columns)
in_range columns r (Err MostRows) = after_flags columns r (rows_field columns)
in_range columns r (Err MostLinks) = after_flags columns r (links_field columns)
in_range columns r (Err MostDestinations) = after_flags columns r (destinations_field columns)

-- a scenario without links, and what the setup asks for
abbrev pub opened : Columns → SetupRecord → Result Opened CaseCause
opened columns r =
    in_range columns r (setup_checked r.setup) >>= λ _.
    Ok (record { scenario = empty_scenario r.setup; asked = record { signals = r.signals == 1; limits = r.limits == 1; routes = r.routes == 1 } })

abbrev pub setup_read : Columns → Fields → Result Opened CaseCause
setup_read columns fields = setup_record columns fields >>= λ r. opened columns r

-- exactly one record, below a header with these columns
abbrev pub only_row : Columns → List Fields → Result Opened CaseFault
only_row columns [] = Err (Bad file.Setup 2 Rows)
only_row columns (row ∷ rows) =
    at_row file.Setup 2 (setup_read columns row) >>= λ o.
    at_row file.Setup 3 (refuse (not (length rows == 0)) Rows) >>= λ _.
    Ok o

-- what the records of the setup say
unfoldable pub setup_of : List Fields → Result Opened CaseFault
setup_of rows = below_header file.Setup is_setup_header (λ header. only_row (columns_of header)) rows

-- the setup asks for more rows than a case with history may have
abbrev pub asks_for_many : Result Opened CaseFault → Bool
asks_for_many (Ok opened) = nat_lt most_kept_rows opened.scenario.setup.most_demand_rows
asks_for_many (Err fault) = false

-- the most bytes of the files of demand and of splits that stand beside a setup
unfoldable pub longest_beside : List ℕ → ℕ
longest_beside setup = if asks_for_many (setup_of (records_of setup)) then longest_large_file else longest_file
