-- Reports, refusals and what tells of an edit or a settle: each is one line.
use Rattle.std.proofs.Common.{ℕ, ◌≡◌, true, List, ◌++◌, refl, codes, Option, None, Some}
use Rattle.ltm_units.specs.Texts.{number_piece, amount_piece}
use Rattle.ltm_units.specs.Words.{is_name}
use Rattle.ltm_flows.specs.Counts.{Counts}
use Rattle.ltm_diagram.specs.declared.diagram.Field.{Field}
use Rattle.ltm_diagram.specs.declared.diagram.Field.TheVariants.{Length, Free, Wave, Jam}
use Rattle.ltm_diagram.specs.declared.diagram.DiagramFault.{DiagramFault}
use Rattle.ltm_diagram.specs.declared.diagram.DiagramFault.TheVariants.{Zero, Over, StepTooLong, NoCapacity, CapacityOver}
use Rattle.ltm_scenario.specs.declared.edit.EditCause.{EditCause}
use Rattle.ltm_scenario.specs.declared.edit.EditCause.TheVariants as cause
use Rattle.ltm_scenario.specs.declared.edit.EditFault.{EditFault}
use Rattle.ltm_loading.specs.Setting.{Setting}
use Rattle.ltm_loading.specs.Totals.{generated, arrived, on_links, waiting, entered_link, left_link}
use Rattle.ltm_times.specs.Times.{travel_time}
use Rattle.ltm_script.specs.declared.command.CommandFault.{CommandFault}
use Rattle.ltm_script.specs.declared.command.CommandFault.TheVariants as fault
use Rattle.ltm_report.specs.Pieces.{version_piece}
use Rattle.ltm_report.specs.Answers.{accepted_piece, accepted_line, settled_piece, recomputed_piece, settled_line}
use Rattle.ltm_report.specs.Causes.{field_word, free_time_words, times_words, diagram_words}
use Rattle.ltm_report.specs.EditFaults.{edit_cause_words, refused_edit_piece, edit_fault_line}
use Rattle.ltm_report.specs.CommandFaults.{command_fault_words, command_fault_line}
use Rattle.ltm_report.specs.Refusals.{unknown_name_line, bad_slots_line}
use Rattle.ltm_report.specs.Totals.{came_piece, stays_piece, totals_line}
use Rattle.ltm_report.specs.Links.{name_piece, through_piece, load_link_line, link_line}
use Rattle.ltm_report.specs.Times.{time_words, slot_piece, time_line}
use Rattle.ltm_report.specs.Reports.{totals_report, link_report}
use Rattle.ltm_session.specs.Reports.{time_report}
use Rattle.ltm_session.specs.OneLine.{IsPlain, IsOneLine}
use Rattle.ltm_session.proofs.Pieces.{plain_append, plain_words, plain_number, plain_amount, plain_name}
use Rattle.ltm_session.proofs.OneLine.{one_line, piece_first}

-- ---- what is refused
field_plain : (field : Field) → IsPlain (field_word field)
unfolding field_word
field_plain Length = plain_words (codes "length_m") refl
field_plain Free = plain_words (codes "free_kmh") refl
field_plain Wave = plain_words (codes "wave_kmh") refl
field_plain Jam = plain_words (codes "jam_per_km") refl

times_plain : (free wave : ℕ) → IsPlain (times_words free wave)
unfolding times_words free_time_words
times_plain free wave = plain_append (number_piece (codes "StepTooLong ") free) (number_piece (codes " ") wave)
    (plain_number (codes "StepTooLong ") free (plain_words (codes "StepTooLong ") refl))
    (plain_number (codes " ") wave (plain_words (codes " ") refl))

diagram_plain : (f : DiagramFault) → IsPlain (diagram_words f)
unfolding diagram_words
diagram_plain (Zero field) = plain_append (codes "Zero ") (field_word field) (plain_words (codes "Zero ") refl) (field_plain field)
diagram_plain (Over field) = plain_append (codes "Over ") (field_word field) (plain_words (codes "Over ") refl) (field_plain field)
diagram_plain (StepTooLong free wave) = times_plain free wave
diagram_plain NoCapacity = plain_words (codes "NoCapacity") refl
diagram_plain CapacityOver = plain_words (codes "CapacityOver") refl

cause_plain : (c : EditCause) → IsPlain (edit_cause_words c)
unfolding edit_cause_words
cause_plain cause.UnknownName = plain_words (codes "UnknownName") refl
cause_plain cause.UnknownDestination = plain_words (codes "UnknownDestination") refl
cause_plain cause.NoOrigin = plain_words (codes "NoOrigin") refl
cause_plain cause.SameEnds = plain_words (codes "SameEnds") refl
cause_plain cause.BadSlots = plain_words (codes "BadSlots") refl
cause_plain cause.OpenSplit = plain_words (codes "OpenSplit") refl
cause_plain cause.ZeroWeight = plain_words (codes "ZeroWeight") refl
cause_plain cause.TooManyRows = plain_words (codes "TooManyRows") refl
cause_plain (cause.Diagram f) = diagram_plain f
cause_plain (cause.CellsOver count) = plain_number (codes "CellsOver ") count (plain_words (codes "CellsOver ") refl)
cause_plain cause.NoMemory = plain_words (codes "NoMemory") refl

place_plain : (place : ℕ) → IsPlain (refused_edit_piece place)
unfolding refused_edit_piece
place_plain place = plain_number (codes "refused edit ") place (plain_words (codes "refused edit ") refl)

pub edit_fault_one : (f : EditFault) → IsOneLine (edit_fault_line f)
unfolding edit_fault_line
edit_fault_one f = one_line (refused_edit_piece f.place ++ codes " " ++ edit_cause_words f.cause)
    (plain_append (refused_edit_piece f.place ++ codes " ") (edit_cause_words f.cause)
    (plain_append (refused_edit_piece f.place) (codes " ") (place_plain f.place) (plain_words (codes " ") refl)) (cause_plain f.cause))

words_plain : (f : CommandFault) → IsPlain (command_fault_words f)
unfolding command_fault_words
words_plain fault.NotJson = plain_words (codes "NotJson") refl
words_plain (fault.NotCommand place) = plain_number (codes "NotCommand ") place (plain_words (codes "NotCommand ") refl)
words_plain fault.NoMemory = plain_words (codes "NoMemory") refl

pub command_fault_one : (f : CommandFault) → IsOneLine (command_fault_line f)
unfolding command_fault_line
command_fault_one f = one_line (codes "refused command " ++ command_fault_words f)
    (plain_append (codes "refused command ") (command_fault_words f) (plain_words (codes "refused command ") refl) (words_plain f))

pub unknown_name_one : (word : List ℕ) → IsPlain word → IsOneLine (unknown_name_line word)
unfolding unknown_name_line
unknown_name_one word plain =
    piece_first (codes "refused " ++ word) (codes " UnknownName\n") (plain_append (codes "refused ") word (plain_words (codes "refused ") refl) plain)
    (one_line (codes " UnknownName") (plain_words (codes " UnknownName") refl))

pub bad_slots_one : (word : List ℕ) → IsPlain word → IsOneLine (bad_slots_line word)
unfolding bad_slots_line
bad_slots_one word plain =
    piece_first (codes "refused " ++ word) (codes " BadSlots\n") (plain_append (codes "refused ") word (plain_words (codes "refused ") refl) plain)
    (one_line (codes " BadSlots") (plain_words (codes " BadSlots") refl))

-- ---- what is done
pub accepted_one : (version : ℕ) → IsOneLine (accepted_line version)
unfolding accepted_line accepted_piece
accepted_one version = one_line (number_piece (codes "accepted version ") version)
    (plain_number (codes "accepted version ") version (plain_words (codes "accepted version ") refl))

pub settled_one : (version count : ℕ) → IsOneLine (settled_line version count)
unfolding settled_line settled_piece recomputed_piece
settled_one version count = one_line (number_piece (codes "settled version ") version ++ number_piece (codes " recomputed ") count)
    (plain_append (number_piece (codes "settled version ") version) (number_piece (codes " recomputed ") count)
    (plain_number (codes "settled version ") version (plain_words (codes "settled version ") refl))
    (plain_number (codes " recomputed ") count (plain_words (codes " recomputed ") refl)))

-- ---- reports
pub version_plain : (version : ℕ) → IsPlain (version_piece version)
unfolding version_piece
version_plain version = plain_number (codes "version ") version (plain_words (codes "version ") refl)

came_plain : (a b : ℕ) → IsPlain (came_piece a b)
unfolding came_piece
came_plain a b = plain_append (amount_piece (codes " generated ") a) (amount_piece (codes " arrived ") b)
    (plain_amount (codes " generated ") a (plain_words (codes " generated ") refl))
    (plain_amount (codes " arrived ") b (plain_words (codes " arrived ") refl))

stays_plain : (a b : ℕ) → IsPlain (stays_piece a b)
unfolding stays_piece
stays_plain a b = plain_append (amount_piece (codes " on_links ") a) (amount_piece (codes " waiting ") b)
    (plain_amount (codes " on_links ") a (plain_words (codes " on_links ") refl))
    (plain_amount (codes " waiting ") b (plain_words (codes " waiting ") refl))

totals_one : (version a b c d : ℕ) → IsOneLine (totals_line version a b c d)
unfolding totals_line
totals_one version a b c d = one_line (version_piece version ++ came_piece a b ++ stays_piece c d)
    (plain_append (version_piece version ++ came_piece a b) (stays_piece c d)
    (plain_append (version_piece version) (came_piece a b) (version_plain version) (came_plain a b)) (stays_plain c d))

pub totals_report_one : (version : ℕ) (s : Setting) (c : Counts) → IsOneLine (totals_report version s c)
unfolding totals_report
totals_report_one version s c = totals_one version (generated s s.slots) (arrived s c s.slots) (on_links s c s.slots) (waiting s c s.slots)

pub name_plain : (name : List ℕ) → is_name name ≡ true → IsPlain (name_piece name)
unfolding name_piece
name_plain name is = plain_append (codes "link ") name (plain_words (codes "link ") refl) (plain_name name is)

pub through_plain : (a b : ℕ) → IsPlain (through_piece a b)
unfolding through_piece
through_plain a b = plain_append (amount_piece (codes " in ") a) (amount_piece (codes " out ") b)
    (plain_amount (codes " in ") a (plain_words (codes " in ") refl))
    (plain_amount (codes " out ") b (plain_words (codes " out ") refl))

load_link_one : (name : List ℕ) (a b : ℕ) → is_name name ≡ true → IsOneLine (load_link_line name a b)
unfolding load_link_line
load_link_one name a b is = one_line (name_piece name ++ through_piece a b)
    (plain_append (name_piece name) (through_piece a b) (name_plain name is) (through_plain a b))

-- the words of every report of something that has a name: its version and a space
pub opens_plain : (version : ℕ) → IsPlain (version_piece version ++ codes " ")
opens_plain version = plain_append (version_piece version) (codes " ") (version_plain version) (plain_words (codes " ") refl)

pub link_report_one : (version : ℕ) (name : List ℕ) (link : ℕ) (s : Setting) (c : Counts) → is_name name ≡ true → IsOneLine (link_report version name link s c)
unfolding link_report link_line
link_report_one version name link s c is =
    piece_first (version_piece version ++ codes " ") (load_link_line name (entered_link s c link s.slots) (left_link s c link s.slots)) (opens_plain version)
    (load_link_one name (entered_link s c link s.slots) (left_link s c link s.slots) is)

time_plain : (time : Option ℕ) → IsPlain (time_words time)
unfolding time_words
time_plain None = plain_words (codes " time none") refl
time_plain (Some time) = plain_number (codes " time ") time (plain_words (codes " time ") refl)

pub slot_plain : (slot : ℕ) → IsPlain (slot_piece slot)
unfolding slot_piece
slot_plain slot = plain_number (codes " slot ") slot (plain_words (codes " slot ") refl)

time_one : (version : ℕ) (name : List ℕ) (slot : ℕ) (time : Option ℕ) → is_name name ≡ true → IsOneLine (time_line version name slot time)
unfolding time_line
time_one version name slot time is = one_line (version_piece version ++ codes " " ++ name_piece name ++ slot_piece slot ++ time_words time)
    (plain_append (version_piece version ++ codes " " ++ name_piece name ++ slot_piece slot) (time_words time)
    (plain_append (version_piece version ++ codes " " ++ name_piece name) (slot_piece slot)
    (plain_append (version_piece version ++ codes " ") (name_piece name) (opens_plain version) (name_plain name is)) (slot_plain slot)) (time_plain time))

pub time_report_one : (version : ℕ) (name : List ℕ) (link slot : ℕ) (s : Setting) (c : Counts) → is_name name ≡ true → IsOneLine (time_report version name link slot s c)
unfolding time_report
time_report_one version name link slot s c is = time_one version name slot (travel_time s c link slot) is
