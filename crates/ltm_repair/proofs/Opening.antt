-- What a repair begins with.
use Rattle.std.proofs.Common.{◌≡◌, ℕ, ◌≤◌, arith, ap, subst, sym, ◌∙◌, List}
use Rattle.std.specs.Prelude.{Some, None}
use Rattle.ltm_loading.specs.Setting.{IsSetting}
use Rattle.ltm_loading.specs.Pairs.{pair_row}
use Rattle.ltm_loading.specs.Networks.{SameNetwork}
use Rattle.ltm_loading.proofs.Bounds.{in_range_holds}
use Rattle.ltm_repair.specs.Desk.{IsAtRest}
use Rattle.ltm_repair.specs.Facts.{IsSound, IsStepOf}
use Rattle.ltm_repair.specs.Counting.{left_to_do, strayed, undone}
use Rattle.ltm_repair.specs.State.{RepairState, now}
use Rattle.ltm_repair.specs.Repair.{OpensAtRest, AreOfOneNetwork, ShowsALoading, CountsTheWork, IsOpening}
use Rattle.ltm_repair.specs.Kept.{OpeningIsRepair}
use Rattle.ltm_repair.proofs.Networks.{network_refl}
use Rattle.ltm_repair.proofs.LeftToDo.{rest_done, rest_home}
use Rattle.ltm_repair.proofs.Fronts.{earlier}
use Rattle.ltm_repair.proofs.Waits.{rest_undone}

opening_sound : (s : RepairState) → OpensAtRest s → IsSound (now s) s.desk
opening_sound s o = record {
  counts = record {
    empty = o.loading.front.empty;
    sinks = o.loading.no_origin;
    steps = λ u t x l row h.
        let e : pair_row (now s) s.desk.counts u t ≡ row = (let k : s.desk.kept u t ≡ Some (pair_row (now s) s.desk.counts u t) = o.kept u t x l in cc) in
        let step : IsStepOf (now s) s.desk.counts u t (pair_row (now s) s.desk.counts u t) = record {
          in_range = in_range_holds (now s) s.desk.counts t u o.setting (earlier (now s) s.desk.counts t (omega arith) o.loading) l x;
          step = o.loading.front.steps u t x l;
        } in
        subst (λ (z : List ℕ). IsStepOf (now s) s.desk.counts u t z) e step;
    unset = λ u t x l none. let k : s.desk.kept u t ≡ Some (pair_row (now s) s.desk.counts u t) = o.kept u t x l in absurd (cc);
  };
  active = record {
    idle_is_settled = λ u t x l idle. o.kept u t x l;
    apart = λ u t active. (o.idle u t).1;
  };
  claims = λ u t row h. let n : s.desk.claimed u t ≡ None = (o.idle u t).1 in absurd (cc);
}

opening_history : (s : RepairState) → IsOpening s → AreOfOneNetwork s
opening_history s o =
    let none : s.accepted ≡ 0 = o.accepted in
    let at : (k : ℕ) → k ≤ s.accepted → s.accepted ≡ k = λ k l. omega arith in
    record {
      valid = λ k l. let P : ℕ → Type 0 = λ n. IsSetting (s.settings n) in subst P (at k l) o.rest.setting;
      network = λ k l. let P : ℕ → Type 0 = λ n. SameNetwork (s.settings n) (now s) in subst P (at k l) (network_refl (now s));
      horizon = λ k l. let P : ℕ → Type 0 = λ n. (s.settings n).slots ≤ (now s).slots in subst P (at k l) (let same : (now s).slots ≤ (now s).slots = omega arith in same);
    }

opening_shows : (s : RepairState) → IsOpening s → ShowsALoading s
opening_shows s o =
    let at_shown : s.settings s.shown_at ≡ now s = ap s.settings (o.shown_at ∙ sym o.accepted) in
    record {
      settled_first = rw (o.settled, o.shown_at) (omega arith);
      accepted_last = rw (o.accepted, o.shown_at) (omega arith);
      loading = rw at_shown (record { counts = s.desk.counts; loading = o.rest.loading; sums = o.shows });
      agree = rw at_shown (λ g k x same low. o.shows g k x low);
      beyond = rw at_shown (λ g b k x m same low high. absurd (omega arith));
    }

opening_counts : (s : RepairState) → IsOpening s → IsAtRest (now s) s.desk → IsSound (now s) s.desk → CountsTheWork s
opening_counts s o rest sound =
    let at_settled : s.settings s.settled ≡ now s = ap s.settings (o.settled ∙ sym o.accepted) in
    let none : s.commits ≡ 0 = o.commits in
    record {
      covers = rw at_settled (λ c loading.
          let z : strayed (now s).slots (now s) c s.desk ≡ 0 = rest_home (now s) s.desk c o.rest.setting sound rest loading in omega arith);
      no_waste = λ loadings are.
          let z : left_to_do (now s) (loadings s.accepted) s.desk ≡ 0 = rest_done (now s) s.desk (loadings s.accepted) o.rest.setting sound rest (are s.accepted (rw (o.settled, o.accepted) (omega arith)) (omega arith)) in
          omega (z, none, arith);
      none_lost = rw at_settled (λ free u t x l lost. let kept : s.desk.kept u t ≡ Some (pair_row (now s) s.desk.counts u t) = o.rest.kept u t x l in absurd (cc));
      fits = let z : undone (now s).nodes (now s).slots s.desk ≡ 0 = rest_undone (now s) s.desk rest in omega (z, none, arith);
    }

pub opening_is_repair : OpeningIsRepair
opening_is_repair s o =
    let rest : IsAtRest (now s) s.desk = λ u t x l. o.rest.idle u t in
    let sound : IsSound (now s) s.desk = opening_sound s o.rest in
    record {
      history = opening_history s o;
      desk = sound;
      shows = opening_shows s o;
      up_to_date = λ h. rest;
      count = opening_counts s o rest sound;
    }
