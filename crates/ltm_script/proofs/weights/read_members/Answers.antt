use Rattle.std.proofs.Common.{arith, ◌≡◌, ◌∙◌, ◌<◌, length, length-append, sym, Some, [], ◌∷◌, string_bytes}
use Rattle.std.proofs.lemmas.List.{length-set}
use Rattle.serde_json.specs.View.{view}
use Rattle.ltm_script.specs.Weights.{weight_of}
use Rattle.std.proofs.lemmas.Map.Iter.{iter_turn, rest_more}
use Rattle.std.specs.Map.Iter.{deref_pair}
use Rattle.ltm_script.proofs.Named.{member_more}
use Rattle.ltm_script.proofs.weights.read_members.Goals as goal

pub listed : goal.listed
listed c =
    let turn = iter_turn deref_pair c.args.members.now.entries c.loop-name.yielded c.into_iter-name-iterator.result c.loop-name.name-iterator c.next.new.self c.next.result c.into_iter-name-iterator.ensures.into_iter_gives.0 c.loop-name.yielded_by (c.in-Some.name, c.in-Some.value) c.in-Some.is c.next.ensures.steps in
    omega (arith, turn.0)

pub loop-name-preserved : goal.loop-name-preserved
loop-name-preserved c =
    let rest = rest_more deref_pair c.loop-name.name-iterator c.next.new.self c.next.result (c.in-Some.name, c.in-Some.value) c.in-Some.is c.next.ensures.steps in
    let turn = iter_turn deref_pair c.args.members.now.entries c.loop-name.yielded c.into_iter-name-iterator.result c.loop-name.name-iterator c.next.new.self c.next.result c.into_iter-name-iterator.ensures.into_iter_gives.0 c.loop-name.yielded_by (c.in-Some.name, c.in-Some.value) c.in-Some.is c.next.ensures.steps in
    let within : c.loop-name.count < length c.loop-name.places = omega (arith, turn.0) in
    let found : Some c.in_ok-places.field-0 ≡ weight_of (string_bytes c.in-Some.name.now) (view c.in-Some.value.now) = sym c.in_ok-places.was ∙ rw c.as_str.ensures.value at c.read_weight.ensures in (
      omega (arith, length-append c.loop-name.yielded ((c.in-Some.name, c.in-Some.value) ∷ [])),
      c.loop-name.invariant.1,
      rw length-set c.loop-name.invariant.2,
      member_more c.loop-name.places c.loop-name.count c.in_ok-places.field-0 c.loop-name.name-iterator c.next.new.self c.in-Some.name.now c.in-Some.value.now within rest found ∙ c.loop-name.invariant.3,
    )
