use Rattle.std.proofs.Common.{◌≡◌, Result, Err, ◌∙◌, refl, sym}
use Rattle.ltm_routes.specs.declared.faults.RoutesFault.{RoutesFault}
use Rattle.ltm_routes.proofs.Placed.{there_set, missing_set, missing_refused}
use Rattle.ltm_routes.proofs.set_rows.set_row.Goals as goal

pub returns-then-not-is_missing-clause-ok : goal.returns-then-not-is_missing-clause-ok
returns-then-not-is_missing-clause-ok c = there_set c.args.scenario.now c.args.destination c.args.node.0 c.args.routes.now (sym c.is_missing.ensures ∙ c.if-not-is_missing.true)

pub returns-in-Ok-clause-ok : goal.returns-in-Ok-clause-ok
returns-in-Ok-clause-ok c =
    missing_set c.args.scenario.now c.set_split.new.self c.args.destination c.args.node.0 c.args.routes.now c.deref.result.now (sym c.is_missing.ensures ∙ c.if-not-is_missing.false)
    (c.deref.ensures.value ∙ c.in_ok-weights.ensures) c.in-Ok.ensures.ok

refusal : {A : Type 0} (x y : RoutesFault) (a b : Result A RoutesFault) → a ≡ Err x → b ≡ Err y → a ≡ b → x ≡ y
refusal x y a b is at same = cc

pub returns-in-Err : goal.returns-in-Err
returns-in-Err c = record {
  ok = tt;
  too_many = λ e.
      missing_refused c.args.scenario.now c.args.destination c.args.node.0 c.args.routes.now c.deref.result.now c.in-Err.fault c.links_at_their_places.ensures c.keep_roads.ensures c.requires.routes c.requires.node
      (sym c.is_missing.ensures ∙ c.if-not-is_missing.false) (c.deref.ensures.value ∙ c.in_ok-weights.ensures) (c.setup-setup.ensures.scenario.setup).slots_least (c.in-Err.ensures.cause (c.fault_of.ensures (refusal _ _ _ _ refl refl e)));
}
