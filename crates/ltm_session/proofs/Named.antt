-- The names of a line that was read are names.
use Rattle.std.proofs.Common.{ℕ, ◌≡◌, Bool, true, false, List, refl, codes, Option, None, Some, Result, Ok, Err}
use Rattle.std.specs.Prelude.{IfSome, option_and_then, if◌then◌else◌}
use Rattle.serde_json.specs.Data.{Data, Items}
use Rattle.serde_json.specs.Find.{get, as_array}
use Rattle.ltm_units.specs.Words.{is_name}
use Rattle.ltm_network.specs.Names.{same}
use Rattle.ltm_scenario.specs.declared.edit.Edit.{Edit}
use Rattle.ltm_scenario.specs.Batch.{is_count}
use Rattle.ltm_script.specs.Commands.{or_none, batch_of, array_of, totals_by, totals_of, link_of, time_of, queue_of, origin_of, state_of, curve_of, departures_of, question_by, command_by, command_from, count_of}
use Rattle.ltm_script.specs.Edits.{edits_from}
use Rattle.ltm_script.specs.Line.{reading, command_in, value_of}
use Rattle.ltm_script.specs.Members.{◌>>=◌, text_in, name_of, name_in, whole_of, whole_in}
use Rattle.ltm_script.specs.declared.command.Command.{Command}
use Rattle.ltm_script.specs.declared.command.Command.TheVariants as command
use Rattle.ltm_script.specs.declared.command.Question.{Question}
use Rattle.ltm_script.specs.declared.command.Question.TheVariants as question
use Rattle.ltm_script.specs.declared.command.CommandFault.{CommandFault}
use Rattle.ltm_script.specs.declared.command.CommandFault.TheVariants as fault

-- the name in a question is one
abbrev pub NamesOne : Question → Type 0
NamesOne (question.Link name) = is_name name ≡ true
NamesOne (question.Time name slot) = is_name name ≡ true
NamesOne (question.Queue name boundary) = is_name name ≡ true
NamesOne (question.Origin name boundary) = is_name name ≡ true
NamesOne (question.Curve name) = is_name name ≡ true
NamesOne (question.Departures name) = is_name name ≡ true
NamesOne q = Unit {0}

abbrev pub HasName : Result Command CommandFault → Type 0
HasName (Ok (command.Ask q)) = NamesOne q
HasName said = Unit {0}

abbrev AsksNamed : Option Question → Type 0
AsksNamed o = IfSome o NamesOne

abbrev IsNamed : Option (List ℕ) → Type 0
IsNamed o = IfSome o (λ name. is_name name ≡ true)

named_if : (text : List ℕ) (b : Bool) → is_name text ≡ b → IsNamed (if b then Some text else None)
named_if text true is = is
named_if text false is = tt

named_in : (o : Option (List ℕ)) → IsNamed (option_and_then name_of o)
named_in None = tt
named_in (Some text) = named_if text (is_name text) refl

either : (b : Bool) (x y : Result Command CommandFault) → HasName x → HasName y → HasName (if b then x else y)
either true x y p q = p
either false x y p q = q

batch_named : (r : Result (List Edit) CommandFault) → HasName (batch_of r)
batch_named (Ok edits) = tt
batch_named (Err f) = tt

array_named : (o : Option Items) → HasName (array_of o)
array_named None = tt
array_named (Some items) = either (is_count (count_of items)) (batch_of (edits_from 1 items)) (Err (fault.NotCommand 0)) (batch_named (edits_from 1 items)) tt

-- a question that has a name, and one that has a slot too
one_named : (o : Option (List ℕ)) (ask : List ℕ → Question) → ((name : List ℕ) → is_name name ≡ true → NamesOne (ask name)) → IsNamed o
    → AsksNamed (o >>= λ name. Some (ask name))
one_named None ask each is = tt
one_named (Some name) ask each is = each name is

two_named : (o : Option (List ℕ)) (slot : Option ℕ) (ask : List ℕ → ℕ → Question) → ((name : List ℕ) (k : ℕ) → is_name name ≡ true → NamesOne (ask name k)) → IsNamed o
    → AsksNamed (o >>= λ name. slot >>= λ k. Some (ask name k))
two_named None slot ask each is = tt
two_named (Some name) None ask each is = tt
two_named (Some name) (Some k) ask each is = each name k is

-- totals by so many slots have no name
totals_named : (every : Option Data) → AsksNamed (totals_by every)
totals_named None = tt
totals_named (Some d) = samples_named (whole_of d)
  where
    samples_named : (slots : Option ℕ) → AsksNamed (slots >>= λ k. Some (question.Samples k))
    samples_named None = tt
    samples_named (Some k) = tt

state_named : (slot : Option ℕ) → AsksNamed (slot >>= λ k. Some (question.State k))
state_named None = tt
state_named (Some k) = tt

asks_either : (b : Bool) (x y : Option Question) → AsksNamed x → AsksNamed y → AsksNamed (if b then x else y)
asks_either true x y p q = p
asks_either false x y p q = q

question_named : (word : List ℕ) (d : Data) → AsksNamed (question_by word d)
question_named word d =
    let link = named_in (text_in (codes "link") d) in
    let node = named_in (text_in (codes "node") d) in
    asks_either (same word (codes "totals")) (totals_of d) _ (totals_named (get (codes "every") d))
    (asks_either (same word (codes "link")) (link_of d) _ (one_named (name_in (codes "link") d) (λ name. question.Link name) (λ name is. is) link)
    (asks_either (same word (codes "time")) (time_of d) _ (two_named (name_in (codes "link") d) (whole_in (codes "slot") d) (λ name k. question.Time name k) (λ name k is. is) link)
    (asks_either (same word (codes "delay")) (Some question.Delay) _ tt
    (asks_either (same word (codes "queue")) (queue_of d) _ (two_named (name_in (codes "link") d) (whole_in (codes "slot") d) (λ name k. question.Queue name k) (λ name k is. is) link)
    (asks_either (same word (codes "origin")) (origin_of d) _ (two_named (name_in (codes "node") d) (whole_in (codes "slot") d) (λ name k. question.Origin name k) (λ name k is. is) node)
    (asks_either (same word (codes "state")) (state_of d) _ (state_named (whole_in (codes "slot") d))
    (asks_either (same word (codes "curve")) (curve_of d) _ (one_named (name_in (codes "link") d) (λ name. question.Curve name) (λ name is. is) link)
    (asks_either (same word (codes "departures")) (departures_of d) _ (one_named (name_in (codes "node") d) (λ name. question.Departures name) (λ name is. is) node)
    (asks_either (same word (codes "delays")) (Some question.Delays) _ tt
    (asks_either (same word (codes "gap")) (Some question.Gap) None tt tt))))))))))

or_none_named : (o : Option Question) → AsksNamed o → HasName (or_none o)
or_none_named None is = tt
or_none_named (Some q) is = is

by_named : (word : List ℕ) (d : Data) → HasName (command_by word d)
by_named word d =
    either (same word (codes "edit")) (array_of (option_and_then as_array (get (codes "edits") d))) _ (array_named (option_and_then as_array (get (codes "edits") d)))
    (either (same word (codes "settle")) (Ok command.Settle) (or_none (question_by word d)) tt (or_none_named (question_by word d) (question_named word d)))

from_named : (word : Option (List ℕ)) (d : Data) → HasName (command_from word d)
from_named None d = tt
from_named (Some word) d = by_named word d

value_named : (o : Option Data) → HasName (command_in o)
value_named None = tt
value_named (Some d) = from_named (text_in (codes "do") d) d

pub reading_named : (line : List ℕ) → HasName (reading line)
reading_named line = value_named (value_of line)
