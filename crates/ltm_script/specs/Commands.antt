-- The command that a JSON value is, or why it is none.
use Rattle.std.specs.Prelude.{ℕ, ◌+◌, List, codes, Option, Some, None, Result, Ok, Err, option_and_then, if◌then◌else◌}
use Rattle.serde_json.specs.Data.{Data, Items, no_items, item}
use Rattle.serde_json.specs.Find.{get, as_array}
use Rattle.ltm_scenario.specs.Names.{same}
use Rattle.ltm_scenario.specs.declared.edit.Edit.{Edit}
use Rattle.ltm_scenario.specs.Batch.{is_count}
use Rattle.ltm_scenario.specs.Edits.{HaveAmounts}
use Rattle.ltm_script.specs.declared.command.Command.{Command}
use Rattle.ltm_script.specs.declared.command.Command.TheVariants as command
use Rattle.ltm_script.specs.declared.command.Question.{Question}
use Rattle.ltm_script.specs.declared.command.Question.TheVariants as question
use Rattle.ltm_script.specs.declared.command.CommandFault.{CommandFault}
use Rattle.ltm_script.specs.declared.command.CommandFault.TheVariants.{NotCommand}
use Rattle.ltm_script.specs.Members.{◌>>=◌, text_in, name_in, whole_of, whole_in}
use Rattle.ltm_script.specs.Edits.{edits_from}

abbrev pub count_of : Items → ℕ
count_of no_items = 0
count_of (item d ds) = count_of ds + 1

-- a question, where there is one
abbrev pub or_none : Option Question → Result Command CommandFault
or_none None = Err (NotCommand 0)
or_none (Some q) = Ok (command.Ask q)

abbrev pub batch_of : Result (List Edit) CommandFault → Result Command CommandFault
batch_of (Ok edits) = Ok (command.Edit edits)
batch_of (Err fault) = Err fault

-- 1 to 32 edits
abbrev pub array_of : Option Items → Result Command CommandFault
array_of None = Err (NotCommand 0)
array_of (Some items) = if is_count (count_of items) then batch_of (edits_from 1 items) else Err (NotCommand 0)

-- the totals by so many slots where there is a member `every`, and else those at the end
abbrev pub totals_by : Option Data → Option Question
totals_by None = Some question.Totals
totals_by (Some every) = whole_of every >>= λ slots. Some (question.Samples slots)

abbrev pub totals_of : Data → Option Question
totals_of d = totals_by (get (codes "every") d)

abbrev pub link_of : Data → Option Question
link_of d = name_in (codes "link") d >>= λ link. Some (question.Link link)

abbrev pub time_of : Data → Option Question
time_of d = name_in (codes "link") d >>= λ link. whole_in (codes "slot") d >>= λ slot. Some (question.Time link slot)

abbrev pub queue_of : Data → Option Question
queue_of d = name_in (codes "link") d >>= λ link. whole_in (codes "slot") d >>= λ slot. Some (question.Queue link slot)

abbrev pub origin_of : Data → Option Question
origin_of d = name_in (codes "node") d >>= λ node. whole_in (codes "slot") d >>= λ slot. Some (question.Origin node slot)

abbrev pub state_of : Data → Option Question
state_of d = whole_in (codes "slot") d >>= λ slot. Some (question.State slot)

abbrev pub curve_of : Data → Option Question
curve_of d = name_in (codes "link") d >>= λ link. Some (question.Curve link)

abbrev pub departures_of : Data → Option Question
departures_of d = name_in (codes "node") d >>= λ node. Some (question.Departures node)

-- a question by its word
abbrev pub question_by : List ℕ → Data → Option Question
question_by word d =
    if same word (codes "totals") then totals_of d
    else if same word (codes "link") then link_of d
    else if same word (codes "time") then time_of d
    else if same word (codes "delay") then Some question.Delay
    else if same word (codes "queue") then queue_of d
    else if same word (codes "origin") then origin_of d
    else if same word (codes "state") then state_of d
    else if same word (codes "curve") then curve_of d
    else if same word (codes "departures") then departures_of d
    else if same word (codes "delays") then Some question.Delays
    else if same word (codes "gap") then Some question.Gap
    else None

-- a command by its word
abbrev pub command_by : List ℕ → Data → Result Command CommandFault
command_by word d =
    if same word (codes "edit") then array_of (option_and_then as_array (get (codes "edits") d))
    else if same word (codes "settle") then Ok command.Settle
    else or_none (question_by word d)

abbrev pub command_from : Option (List ℕ) → Data → Result Command CommandFault
command_from None d = Err (NotCommand 0)
command_from (Some word) d = command_by word d

abbrev pub command_of : Data → Result Command CommandFault
command_of d = command_from (text_in (codes "do") d) d

-- each amount of the command's edits is at most 1,000,000 vehicles
abbrev pub HasAmounts : Command → Type 0
HasAmounts (command.Edit edits) = HaveAmounts edits
HasAmounts (command.Ask question) = Unit {0}
HasAmounts command.Settle = Unit {0}
