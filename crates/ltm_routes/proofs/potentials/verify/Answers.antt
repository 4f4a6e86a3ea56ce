use Rattle.std.proofs.Common.{◌≡◌, ℕ, ◌<◌, Bool, List, Option, true, false, sym, subst, ◌∙◌}
use Rattle.ltm_units.specs.declared.quantities.Millis.{Millis}
use Rattle.ltm_scenario.specs.Reads.{destination_node}
use Rattle.ltm_routes.specs.Roads.{Roads, AreRoads, roads_of}
use Rattle.ltm_routes.specs.Potentials.{AreLeastTimes, AllFit, AllLeadOn, is_zero, potential_at}
use Rattle.ltm_routes.proofs.Exact.{tight_least, least_fit, least_lead, least_zero}
use Rattle.ltm_routes.proofs.potentials.verify.Goals as goal

not_zero : (r : Roads) (p : List (Option Millis)) (to end : ℕ) (told : Bool) → end ≡ to → end < r.nodes → told ≡ is_zero (potential_at p end) → told ≡ false → AreLeastTimes r to p → false ≡ true
not_zero r p to end told same there is said least =
    sym said ∙ is ∙ least_zero r p end there (subst (λ n. AreLeastTimes r n p) (sym same) least)

pub returns-then-not-is_zero : goal.returns-then-not-is_zero
returns-then-not-is_zero c = (
  λ (x : false ≡ true). absurd (cc),
  λ least.
      not_zero (roads_of c.args.scenario.now) c.args.potentials.now (destination_node c.args.scenario.now c.args.destination) c.destination_node-end.result.0 c.is_zero.result
      c.destination_node-end.ensures.node c.destination_node-end.ensures.there c.is_zero.ensures c.if-not-is_zero.true least,
)

not_fit : (r : Roads) (p : List (Option Millis)) (to : ℕ) (told : Bool) → AreRoads r → (told ≡ true → AllFit r p) × (AllFit r p → told ≡ true) → told ≡ false → AreLeastTimes r to p → false ≡ true
not_fit r p to told roads says said least = sym said ∙ says.1 (least_fit r p to roads least)

pub returns-then-not-all_fit : goal.returns-then-not-all_fit
returns-then-not-all_fit c = (
  λ (x : false ≡ true). absurd (cc),
  λ least.
      not_fit (roads_of c.args.scenario.now) c.args.potentials.now (destination_node c.args.scenario.now c.args.destination) c.all_fit.result
      c.keep_roads.ensures c.all_fit.ensures c.if-not-all_fit.true least,
)

pub record Tested (r : Roads) (p : List (Option Millis)) (to end : ℕ) : Type 0 where
  pub roads : AreRoads r
  pub same : end ≡ to
  pub there : end < r.nodes
  pub zero : is_zero (potential_at p end) ≡ true
  pub fit : AllFit r p

all_tell : (r : Roads) (p : List (Option Millis)) (to end : ℕ) (told : Bool) → Tested r p to end → (told ≡ true → AllLeadOn r end p) × (AllLeadOn r end p → told ≡ true) → (told ≡ true → AreLeastTimes r to p) × (AreLeastTimes r to p → told ≡ true)
all_tell r p to end told t says = (
  λ yes'. subst (λ n. AreLeastTimes r n p) t.same (tight_least r p end t.roads t.zero t.fit (says.0 yes')),
  λ least. says.1 (least_lead r p end t.roads (subst (λ n. AreLeastTimes r n p) (sym t.same) least)),
)

pub returns : goal.returns
returns c =
    all_tell (roads_of c.args.scenario.now) c.args.potentials.now (destination_node c.args.scenario.now c.args.destination) c.destination_node-end.result.0 c.all_lead_on.result
    (record {
      roads = c.keep_roads.ensures;
      same = c.destination_node-end.ensures.node;
      there = c.destination_node-end.ensures.there;
      zero = sym c.is_zero.ensures ∙ c.if-not-is_zero.false;
      fit = (c.all_fit.ensures).0 c.if-not-all_fit.false;
    })
    c.all_lead_on.ensures
