-- The setup of a case.
use Rattle.std.specs.Prelude.{ℕ, ◌≤◌, ◌&&◌, Bool, true, false, nat_le, Result, Ok, Err, if◌then◌else◌}
use Rattle.ltm_units.specs.declared.quantities.Millis.{Millis}
use Rattle.ltm_units.specs.declared.quantities.Units.{Units}
use Rattle.ltm_units.specs.Bounds.{longest_step, most_in_slot, most_slots, most_rows, most_routed_rows, most_links, most_destinations, most_kept_rows, most_kept_links, most_kept_destinations, default_links, default_destinations, default_demand_rows, default_split_rows}
use Rattle.ltm_units.specs.Results.{◌>>>◌}
use Rattle.ltm_scenario.specs.declared.setup.Setup.{Setup}
use Rattle.ltm_scenario.specs.declared.setup.SetupFault.{SetupFault}
use Rattle.ltm_scenario.specs.declared.setup.SetupFault.TheVariants.{Range, MostCells, MostRows, MostLinks, MostDestinations}

-- the most cells that a setup may ask for: what 32 bits hold
abbrev pub largest_cells : ℕ
largest_cells = 4294967295

-- a step of 1 to 60,000 ms, 1 to 10,000 slots, 1 to 32,000 units from an origin in a slot, and how large the case may be
pub record IsSetup (setup : Setup) : Type 0 where
  pub step_least : 1 ≤ setup.step.0
  pub step_most : setup.step.0 ≤ longest_step
  pub slots_least : 1 ≤ setup.slots
  pub slots_most : setup.slots ≤ most_slots
  pub capacity_least : 1 ≤ setup.origin_capacity.0
  pub capacity_most : setup.origin_capacity.0 ≤ most_in_slot
  pub cells_least : 1 ≤ setup.most_cells
  pub cells_most : setup.most_cells ≤ largest_cells
  pub demand_rows_least : 1 ≤ setup.most_demand_rows
  pub demand_rows_most : setup.most_demand_rows ≤ most_rows
  pub split_rows_least : 1 ≤ setup.most_split_rows
  pub split_rows_most : setup.most_split_rows ≤ most_routed_rows
  pub links_least : 1 ≤ setup.most_links
  pub links_most : setup.most_links ≤ most_links
  pub destinations_least : 1 ≤ setup.most_destinations
  pub destinations_most : setup.most_destinations ≤ most_destinations

-- the most cells of a case that does not say how many it may have
abbrev pub default_cells : ℕ
default_cells = 54000000

-- the setup of a case that does not say how large it may be, nor that turns move whole, capacities are carried, or no history is
-- kept
abbrev pub setup_of : Millis → ℕ → Units → Setup
setup_of step slots capacity = record {
  step = step;
  slots = slots;
  origin_capacity = capacity;
  most_cells = default_cells;
  most_demand_rows = default_demand_rows;
  most_split_rows = default_split_rows;
  most_links = default_links;
  most_destinations = default_destinations;
  by_turn = false;
  carry = false;
  history = true;
}

abbrev pub is_between : ℕ → ℕ → ℕ → Bool
is_between least most n = nat_le least n && nat_le n most

-- the number is 1 or more, and at most this
abbrev pub limited : ℕ → ℕ → SetupFault → Result (Unit {0}) SetupFault
limited most n fault = if is_between 1 most n then Ok tt else Err fault

-- what a case may ask for where its history is kept, and where it is not
abbrev pub kept_or : Bool → ℕ → ℕ → ℕ
kept_or history kept most = if history then kept else most

-- rows, links and destinations are within their limits
abbrev pub sizes_checked : Setup → Result (Unit {0}) SetupFault
sizes_checked setup =
    limited (kept_or setup.history most_kept_rows most_rows) setup.most_demand_rows MostRows
    >>> limited (kept_or setup.history most_kept_rows most_routed_rows) setup.most_split_rows MostRows
    >>> limited (kept_or setup.history most_kept_links most_links) setup.most_links MostLinks
    >>> limited (kept_or setup.history most_kept_destinations most_destinations) setup.most_destinations MostDestinations

-- the first field that is out of its limits, the first three counted from 1; what bounds the case comes last
abbrev pub setup_checked : Setup → Result (Unit {0}) SetupFault
setup_checked setup =
    limited longest_step setup.step.0 (Range 1)
    >>> limited most_slots setup.slots (Range 2)
    >>> limited most_in_slot setup.origin_capacity.0 (Range 3)
    >>> limited largest_cells setup.most_cells MostCells
    >>> sizes_checked setup
