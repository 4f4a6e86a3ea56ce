-- The words of causes: the name of a fault's variant, and what it carries.
use Rattle.std.specs.Prelude.{ℕ, List, ◌++◌, codes}
use Rattle.ltm_units.specs.declared.names.Name.{Name}
use Rattle.ltm_diagram.specs.declared.diagram.Field.{Field}
use Rattle.ltm_diagram.specs.declared.diagram.Field.TheVariants.{Length, Free, Wave, Jam}
use Rattle.ltm_diagram.specs.declared.diagram.DiagramFault.{DiagramFault}
use Rattle.ltm_diagram.specs.declared.diagram.DiagramFault.TheVariants.{Zero, Over, StepTooLong, NoCapacity, CapacityOver}
use Rattle.ltm_network.specs.declared.network.NetworkFault.{NetworkFault}
use Rattle.ltm_network.specs.declared.network.NetworkFault.TheVariants.{TwiceNamed, SelfLoop, TooManyLinks, TooManyOut, TooManyIn, NoMemory}
use Rattle.ltm_casefile.specs.declared.faults.CaseCause.{CaseCause}
use Rattle.ltm_casefile.specs.declared.faults.CaseCause.TheVariants as cause
use Rattle.ltm_units.specs.Texts.{number_piece}

-- the field of `links.csv` in which a diagram's field stands
unfoldable pub field_word : Field → List ℕ
field_word Length = codes "length_m"
field_word Free = codes "free_kmh"
field_word Wave = codes "wave_kmh"
field_word Jam = codes "jam_per_km"

unfoldable pub free_time_words : ℕ → List ℕ
free_time_words free = number_piece (codes "StepTooLong ") free

-- the free-flow time and the wave time in milliseconds, as `StepTooLong 2000 4000`
unfoldable pub times_words : ℕ → ℕ → List ℕ
times_words free wave = free_time_words free ++ number_piece (codes " ") wave

-- what is wrong with a diagram, as `Zero length_m`
unfoldable pub diagram_words : DiagramFault → List ℕ
diagram_words (Zero field) = codes "Zero " ++ field_word field
diagram_words (Over field) = codes "Over " ++ field_word field
diagram_words (StepTooLong free wave) = times_words free wave
diagram_words NoCapacity = codes "NoCapacity"
diagram_words CapacityOver = codes "CapacityOver"

unfoldable pub network_word : NetworkFault → List ℕ
network_word TwiceNamed = codes "TwiceNamed"
network_word SelfLoop = codes "SelfLoop"
network_word TooManyLinks = codes "TooManyLinks"
network_word TooManyOut = codes "TooManyOut"
network_word TooManyIn = codes "TooManyIn"
network_word NoMemory = codes "NoMemory"

-- the names of the two ends of a pair, as `NoSplit n1 n2`
unfoldable pub no_split_words : Name → Name → List ℕ
no_split_words node destination = codes "NoSplit " ++ node ++ codes " " ++ destination

-- what is wrong; of a fault of the network or of a diagram its own words
unfoldable pub cause_words : CaseCause → List ℕ
cause_words cause.Header = codes "Header"
cause_words cause.Rows = codes "Rows"
cause_words cause.Width = codes "Width"
cause_words (cause.Field place) = number_piece (codes "Field ") place
cause_words (cause.Range place) = number_piece (codes "Range ") place
cause_words (cause.Network fault) = network_word fault
cause_words (cause.Diagram fault) = diagram_words fault
cause_words (cause.Unknown place) = number_piece (codes "Unknown ") place
cause_words cause.NoOrigin = codes "NoOrigin"
cause_words cause.SameEnds = codes "SameEnds"
cause_words cause.BadSlots = codes "BadSlots"
cause_words cause.ZeroWeight = codes "ZeroWeight"
cause_words cause.TooManyDestinations = codes "TooManyDestinations"
cause_words cause.TooManyRows = codes "TooManyRows"
cause_words (cause.NoSplit node destination) = no_split_words node destination
cause_words (cause.CellsOver count) = number_piece (codes "CellsOver ") count
