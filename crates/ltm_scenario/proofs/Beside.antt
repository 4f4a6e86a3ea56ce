-- The limits of links beside their diagrams.
use Rattle.std.proofs.Common.{◌≡◌, ℕ, ◌<◌, Bool, List, length, map, get_or, Some, Ok, Result, slice_get, sym, ap, subst, ◌∙◌, arith}
use Rattle.std.proofs.Math.ListN.{set}
use Rattle.std.proofs.lemmas.List.{map-set, get_or-map, length-map}
use Rattle.std.proofs.lemmas.List.Elements.{All-get_or, All-set}
use Rattle.std.proofs.lemmas.Option.{get_or_from_slice_get}
use Rattle.ltm_diagram.specs.declared.diagram.Diagram.{Diagram}
use Rattle.ltm_diagram.specs.declared.diagram.Limits.{Limits}
use Rattle.ltm_diagram.specs.declared.diagram.DiagramFault.{DiagramFault}
use Rattle.ltm_diagram.specs.Limits.{limits_of}
use Rattle.ltm_diagram.specs.Delays.{AreDelays}
use Rattle.ltm_scenario.specs.declared.diagrams.Timed.{Timed}
use Rattle.ltm_scenario.specs.Timed.{AreTimed}

abbrev Answer : Type 0
Answer = Result Limits DiagramFault

abbrev good : Timed → Answer
good t = Ok t.limits

same_limits : (a b : Limits) → ◌≡◌ {A = Answer} (Ok a) (Ok b) → a ≡ b
same_limits a b is = cc

as_long : (step : ℕ) (carry : Bool) (ds : List Diagram) (ts : List Timed) → AreTimed step carry ds ts → length ts ≡ length ds
as_long step carry ds ts timed = sym (length-map ts good) ∙ sym (ap length timed.limits) ∙ length-map ds (λ d. limits_of d step carry)

-- what stands beside a diagram are its limits
pub limits_beside : (step : ℕ) (carry : Bool) (ds : List Diagram) (ts : List Timed) (link : ℕ) (diagram : Diagram) (t : Timed) → AreTimed step carry ds ts → link < length ds → t ≡ get_or ts link t → slice_get ds link ≡ Some diagram → limits_of diagram step carry ≡ Ok t.limits
limits_beside step carry ds ts link diagram t timed inside there here =
    let e : Answer = good t in
    ap (λ (d : Diagram). limits_of d step carry) (sym (get_or_from_slice_get ds link diagram diagram here))
    ∙ sym (get_or-map (λ d. limits_of d step carry) ds link diagram e inside)
    ∙ ap (λ xs. get_or xs link e) timed.limits
    ∙ get_or-map good ts link t e (omega (arith, as_long step carry ds ts timed))
    ∙ ap good (sym there)

-- and its times counted in slots
pub delays_beside : (step : ℕ) (carry : Bool) (ds : List Diagram) (ts : List Timed) (link : ℕ) (diagram : Diagram) (t : Timed) (limits : Limits) → AreTimed step carry ds ts → link < length ds → t ≡ get_or ts link t → slice_get ds link ≡ Some diagram → limits_of diagram step carry ≡ Ok limits → AreDelays step limits t.delays
delays_beside step carry ds ts link diagram t limits timed inside there here is =
    let same : t.limits ≡ limits = same_limits t.limits limits (sym (limits_beside step carry ds ts link diagram t timed inside there here) ∙ is) in
    let at : AreDelays step (get_or ts link t).limits (get_or ts link t).delays = All-get_or (λ (x : Timed). AreDelays step x.limits x.delays) ts link t (omega (arith, as_long step carry ds ts timed, inside)) timed.delays in
    subst (λ l. AreDelays step l t.delays) same (subst (λ (x : Timed). AreDelays step x.limits x.delays) (sym there) at)

pub timed_set : (step : ℕ) (carry : Bool) (ds : List Diagram) (ts : List Timed) (link : ℕ) (diagram : Diagram) (t : Timed) → AreTimed step carry ds ts → limits_of diagram step carry ≡ Ok t.limits → AreDelays step t.limits t.delays → AreTimed step carry (set ds link diagram) (set ts link t)
timed_set step carry ds ts link diagram t timed is delays = record {
  some_step = timed.some_step;
  small_step = timed.small_step;
  limits =
      map-set (λ d. limits_of d step carry) ds link diagram
      ∙ ap (set (map (λ d. limits_of d step carry) ds) link) is
      ∙ ap (λ xs. set xs link (good t)) timed.limits
      ∙ sym (map-set good ts link t);
  delays = All-set (λ (x : Timed). AreDelays step x.limits x.delays) ts link t delays timed.delays;
}
