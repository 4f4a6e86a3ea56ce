-- The edits of an array, one more at a time.
use Rattle.std.proofs.Common.{ℕ, ◌≡◌, ◌≢◌, ◌+◌, ◌<◌, List, [], ◌∷◌, ◌++◌, length, drop, get_or, Option, Some, None, Result, Ok, Err, refl, ap, sym, ◌∙◌, append_assoc, add-one, arith, map}
use Rattle.std.proofs.Math.Seq.{drop-cons}
use Rattle.std.proofs.lemmas.List.{append-nil, drop_all}
use Rattle.serde_json.specs.Data.{Data, Items, no_items, item}
use Rattle.serde_json.specs.View.{view, items_view}
use Rattle.serde_json.specs.declared.value.Value.{Value}
use Rattle.ltm_scenario.specs.declared.edit.Edit.{Edit}
use Rattle.ltm_script.specs.declared.command.CommandFault.{CommandFault}
use Rattle.ltm_script.specs.declared.command.CommandFault.TheVariants.{NotJson, NotCommand, NoMemory}
use Rattle.ltm_script.specs.Edits.{edit_of, before, edits_from}
use Rattle.ltm_script.specs.Commands.{count_of}

-- edits before others, where the others are edits
abbrev pub joined : List Edit → Result (List Edit) CommandFault → Result (List Edit) CommandFault
joined front (Ok es) = Ok (front ++ es)
joined front (Err fault) = Err fault

before_joins : (front : List Edit) (e : Edit) (place : ℕ) (more : Result (List Edit) CommandFault) → joined front (before (Some e) place more) ≡ joined (front ++ e ∷ []) more
before_joins front e place (Ok es) = ap Ok (sym (append_assoc front (e ∷ []) es))
before_joins front e place (Err fault) = refl

-- what is left from a place on
rest_at : (values : List Value) (i : ℕ) (x : Value) → i < length values → x ≡ get_or values i x → items_view (drop i values) ≡ item (view x) (items_view (drop (i + 1) values))
rest_at values i x within is = rw (drop-cons values i x, add-one, ← is) refl

pub one_more : (front : List Edit) (values : List Value) (i place : ℕ) (x : Value) (e : Edit) → i < length values → x ≡ get_or values i x → Some e ≡ edit_of (view x)
    → joined (front ++ e ∷ []) (edits_from (place + 1) (items_view (drop (i + 1) values))) ≡ joined front (edits_from place (items_view (drop i values)))
unfolding edits_from
one_more front values i place x e within is found = rw (rest_at values i x within is, ← found) (sym (before_joins front e place (edits_from (place + 1) (items_view (drop (i + 1) values)))))

pub bad_edit : (front : List Edit) (values : List Value) (i place : ℕ) (x : Value) → i < length values → x ≡ get_or values i x → None ≡ edit_of (view x)
    → joined front (edits_from place (items_view (drop i values))) ≡ Err (NotCommand place)
unfolding edits_from
bad_edit front values i place x within is none = rw (rest_at values i x within is, ← none) refl

pub all_edits : (front : List Edit) (values : List Value) (place : ℕ) → joined front (edits_from place (items_view (drop (length values) values))) ≡ Ok front
unfolding edits_from
all_edits front values place = rw (drop_all (length values) values (omega arith)) (ap Ok (append-nil front))

pub count-view : (values : List Value) → count_of (items_view values) ≡ length values
count-view [] = refl
count-view (v ∷ vs) = omega (arith, count-view vs)

pub ruleset counts = (count-view)

-- no want of memory is told of edits
never_after : (first : Option Edit) (place : ℕ) (more : Result (List Edit) CommandFault) → more ≢ Err NoMemory → before first place more ≢ Err NoMemory
never_after None place more never = λ is. cc
never_after (Some e) place (Ok es) never = λ is. cc
never_after (Some e) place (Err fault) never = never

pub edits_never : (place : ℕ) (items : Items) → edits_from place items ≢ Err NoMemory
unfolding edits_from
edits_never place no_items = λ is. cc
edits_never place (item d ds) = never_after (edit_of d) place (edits_from (place + 1) ds) (edits_never (place + 1) ds)
