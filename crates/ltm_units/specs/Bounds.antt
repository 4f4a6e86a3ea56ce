-- How large the numbers of a case and of its files may be.
use Rattle.std.specs.Prelude.{ℕ}

-- ---- a network and its horizon
abbrev pub most_slots : ℕ
most_slots = 10000

abbrev pub most_links : ℕ
most_links = 40000

-- two ends of each link
abbrev pub most_nodes : ℕ
most_nodes = 80000

abbrev pub most_destinations : ℕ
most_destinations = 2000

-- a step, in milliseconds
abbrev pub longest_step : ℕ
longest_step = 60000

-- the free-flow time and the wave time of a link, in milliseconds
abbrev pub longest_time : ℕ
longest_time = 3600000000

-- vehicles that stand on a kilometre
abbrev pub most_per_km : ℕ
most_per_km = 10000

-- ---- of a case whose history is kept, in which each destination has a count at every boundary of every link
abbrev pub most_kept_links : ℕ
most_kept_links = 16000

abbrev pub most_kept_destinations : ℕ
most_kept_destinations = 256

abbrev pub most_kept_rows : ℕ
most_kept_rows = 500000

-- ---- of a case that does not say how large it may be
abbrev pub default_links : ℕ
default_links = 4000

abbrev pub default_destinations : ℕ
default_destinations = 64

abbrev pub default_demand_rows : ℕ
default_demand_rows = 10000

abbrev pub default_split_rows : ℕ
default_split_rows = 50000

-- ---- amounts, in thousandths of a vehicle
-- what passes a link, or leaves an origin, in one slot
abbrev pub most_in_slot : ℕ
most_in_slot = 32000

-- what stands on a link
abbrev pub most_on_link : ℕ
most_on_link = 10000000000

-- what one record or edit says
abbrev pub most_amount : ℕ
most_amount = 1000000000

-- what an origin has produced for a destination, or for all
abbrev pub most_produced : ℕ
most_produced = 8000000000000000

-- ---- rows and bytes
-- rows of demand, and rows of splits
abbrev pub most_rows : ℕ
most_rows = 8000000

-- rows of splits of a case whose nodes without one take the least route: one for each node and destination
abbrev pub most_routed_rows : ℕ
most_routed_rows = 160000000

-- numbers that a pair of node and slot reads, at five arms, four out-links and 2,000 destinations
abbrev pub widest_row : ℕ
widest_row = 36010

-- bytes of a file of a case, of edits or of routes
abbrev pub longest_file : ℕ
longest_file = 16777216

-- places and rows of a table of marks
abbrev pub most_marked : ℕ
most_marked = 262144
