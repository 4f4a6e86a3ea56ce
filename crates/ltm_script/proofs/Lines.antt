-- The value that a line is, and the readings that are none of want of memory.
use Rattle.std.proofs.Common.{ℕ, ◌≡◌, ◌≢◌, Bool, true, false, List, Option, Some, None, Result, Ok, Err, refl, codes, sym, ◌∙◌, if◌then◌else◌, IsUtf8}
use Rattle.std.specs.Prelude.{option_and_then}
use Rattle.std.specs.Str.{is_utf8}
use Rattle.std.proofs.lemmas.Str.{IsUtf8-from_is_utf8, is_utf8-from_IsUtf8}
use Rattle.serde_json.specs.Data.{Data, Items}
use Rattle.serde_json.specs.Find.{get, as_array}
use Rattle.serde_json.specs.Read.{read}
use Rattle.ltm_scenario.specs.Names.{same}
use Rattle.ltm_scenario.specs.declared.edit.Edit.{Edit}
use Rattle.ltm_scenario.specs.Batch.{is_count}
use Rattle.ltm_script.specs.declared.command.Command.{Command}
use Rattle.ltm_script.specs.declared.command.Command.TheVariants as command
use Rattle.ltm_script.specs.declared.command.Question.{Question}
use Rattle.ltm_script.specs.declared.command.CommandFault.{CommandFault}
use Rattle.ltm_script.specs.declared.command.CommandFault.TheVariants.{NotJson, NotCommand, NoMemory}
use Rattle.ltm_script.specs.Members.{text_in}
use Rattle.ltm_script.specs.Edits.{edits_from}
use Rattle.ltm_script.specs.Commands.{count_of, or_none, batch_of, array_of, question_by, command_by, command_from, command_of}
use Rattle.ltm_script.specs.Line.{value_of, command_in, reading}
use Rattle.ltm_script.proofs.Placed.{edits_never}

-- the value is that of the text
pub value_read : (line : List ℕ) (d : Data) → IsUtf8 line → read line ≡ Some d → value_of line ≡ Some d
unfolding value_of
value_read line d utf8 is = rw (is_utf8-from_IsUtf8 line utf8) is

none_after : (line : List ℕ) (t : Bool) → is_utf8 line ≡ t → (IsUtf8 line → read line ≡ None) → (if t then read line else None) ≡ None
none_after line true is none = none (IsUtf8-from_is_utf8 line is)
none_after line false is none = refl

pub value_none : (line : List ℕ) → (IsUtf8 line → read line ≡ None) → value_of line ≡ None
unfolding value_of
value_none line none = none_after line (is_utf8 line) refl none

pub ruleset values = (value_read, value_none)

-- a choice of two
either : (b : Bool) (x y : Result Command CommandFault) → x ≢ Err NoMemory → y ≢ Err NoMemory → (if b then x else y) ≢ Err NoMemory
either true x y first second = first
either false x y first second = second

or_none_never : (q : Option Question) → or_none q ≢ Err NoMemory
or_none_never None = λ is. cc
or_none_never (Some q) = λ is. cc

batch_never : (edits : Result (List Edit) CommandFault) → edits ≢ Err NoMemory → batch_of edits ≢ Err NoMemory
batch_never (Ok es) never = λ is. cc
batch_never (Err NotJson) never = λ is. cc
batch_never (Err (NotCommand place)) never = λ is. cc
batch_never (Err NoMemory) never = λ is. never refl

array_never : (items : Option Items) → array_of items ≢ Err NoMemory
array_never None = λ is. cc
array_never (Some items) = either (is_count (count_of items)) (batch_of (edits_from 1 items)) (Err (NotCommand 0)) (batch_never (edits_from 1 items) (edits_never 1 items)) (λ is. cc)

command_never : (word : Option (List ℕ)) (d : Data) → command_from word d ≢ Err NoMemory
command_never None d = λ is. cc
command_never (Some word) d =
    either (same word (codes "edit")) _ _ (array_never (option_and_then as_array (get (codes "edits") d)))
    (either (same word (codes "settle")) _ _ (λ is. cc) (or_none_never (question_by word d)))

reading_never : (value : Option Data) → command_in value ≢ Err NoMemory
reading_never None = λ is. cc
reading_never (Some d) = command_never (text_in (codes "do") d) d

pub one_reading : (line : List ℕ) → reading line ≢ Err NoMemory
one_reading line = reading_never (value_of line)
