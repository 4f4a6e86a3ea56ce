-- What holds of a desk is kept by what changes neither counts nor kept inputs.
use Rattle.std.proofs.Common.{◌≡◌, ℕ, arith, inl, inr, sym, ◌∙◌, true, false}
use Rattle.std.specs.Prelude.{Some, None, List}
use Rattle.std.proofs.lemmas.Bool.{cases_lt}
use Rattle.ltm_loading.specs.Setting.{Setting}
use Rattle.ltm_repair.specs.Desk.{Desk, IsSettled, IsIdle, IsIdleBefore}
use Rattle.ltm_repair.specs.Facts.{CountsAreSteps, IsClaim, IsSound}
use Rattle.ltm_repair.specs.Moves.{DropsSettled, TakesClaim, GivesBack}
use Rattle.ltm_repair.proofs.Cases.{cases_pair}

-- the same counts and kept inputs
same_steps : (s : Setting) (d e : Desk) → e.counts ≡ d.counts → e.kept ≡ d.kept → CountsAreSteps s d → CountsAreSteps s e
same_steps s d e counts kept h = record {
  empty = rw counts h.empty;
  sinks = rw counts h.sinks;
  steps = rw (counts, kept) h.steps;
  unset = rw (counts, kept) h.unset;
}

same_settled : (s : Setting) (d e : Desk) (u t : ℕ) → e.counts ≡ d.counts → e.kept ≡ d.kept → IsSettled s d u t → IsSettled s e u t
same_settled s d e u t counts kept h = rw (counts, kept) h

-- a claim stays one where counts and kept inputs stay and earlier pairs stay idle
same_claim : (s : Setting) (d e : Desk) (u t : ℕ) (row : List ℕ) → e.counts ≡ d.counts → e.kept ≡ d.kept → IsIdleBefore s e t → IsClaim s d u t row → IsClaim s e u t row
same_claim s d e u t row counts kept idle was = record {
  is_node = was.is_node;
  is_slot = was.is_slot;
  now = rw counts was.now;
  changed = rw kept was.changed;
  front = idle;
}

drop_idle : (s : Setting) (d e : Desk) (u t : ℕ) → DropsSettled s d e → IsIdle d u t → IsIdle e u t
drop_idle s d e u t step idle = (elim (step.each u t) [ inl same ↦ same ∙ idle.0 | inr gone ↦ gone.0 ], rw step.claimed idle.1)

pub drop_idle_before : (s : Setting) (d e : Desk) (f : ℕ) → DropsSettled s d e → IsIdleBefore s d f → IsIdleBefore s e f
drop_idle_before s d e f step idle u t x l = drop_idle s d e u t step (idle u t x l)

pub drop_keeps : (s : Setting) (d e : Desk) → IsSound s d → DropsSettled s d e → IsSound s e
drop_keeps s d e sound step = record {
  counts = same_steps s d e step.work.counts step.work.kept sound.counts;
  active = record {
    idle_is_settled = λ u t x l idle. elim (step.each u t) [
      | inl same ↦ same_settled s d e u t step.work.counts step.work.kept (sound.active.idle_is_settled u t x l (sym same ∙ idle.0, rw step.claimed at idle.1))
      | inr gone ↦ same_settled s d e u t step.work.counts step.work.kept gone.1
    ];
    apart = λ u t active. elim (step.each u t) [
      | inl same ↦ rw step.claimed (sound.active.apart u t (sym same ∙ active))
      | inr gone ↦ let a : e.active u t ≡ false = gone.0 in absurd (cc)
    ];
  };
  claims = λ u t row h.
      let was : IsClaim s d u t row = sound.claims u t row (rw step.claimed at h) in
      same_claim s d e u t row step.work.counts step.work.kept (drop_idle_before s d e t step was.front) was;
}

pub take_keeps : (s : Setting) (d : Desk) (u t : ℕ) (row : List ℕ) (e : Desk) → IsSound s d → TakesClaim s d u t row e → IsSound s e
take_keeps s d u t row e sound step =
    let front : IsIdleBefore s e t = λ w v x l. elim (cases_pair u t w v) [
      | inl at ↦ absurd (omega (arith, at.1))
      | inr other ↦ (step.others.active w v other ∙ (step.claim.front w v x l).0, step.others.claimed w v other ∙ (step.claim.front w v x l).1)
    ] in
    record {
      counts = same_steps s d e step.work.counts step.work.kept sound.counts;
      active = record {
        idle_is_settled = λ w v x l idle. elim (cases_pair u t w v) [
          | inl at ↦ let h : e.claimed w v ≡ Some row = rw (← at.0, ← at.1) step.holds in let n : e.claimed w v ≡ None = idle.1 in absurd (cc)
          | inr other ↦ same_settled s d e w v step.work.counts step.work.kept (sound.active.idle_is_settled w v x l (sym (step.others.active w v other) ∙ idle.0, sym (step.others.claimed w v other) ∙ idle.1))
        ];
        apart = λ w v active. elim (cases_pair u t w v) [
          | inl at ↦ let a : e.active w v ≡ false = rw (← at.0, ← at.1) step.inactive in absurd (cc)
          | inr other ↦ step.others.claimed w v other ∙ sound.active.apart w v (sym (step.others.active w v other) ∙ active)
        ];
      };
      claims = λ w v that h. elim (cases_pair u t w v) [
        | inl at ↦
            let h2 : e.claimed u t ≡ Some that = rw (at.0, at.1) h in
            let same : row ≡ that = let h1 : e.claimed u t ≡ Some row = step.holds in cc in
            rw (← at.0, ← at.1, ← same) (same_claim s d e u t row step.work.counts step.work.kept front step.claim)
        | inr other ↦
            let was : IsClaim s d w v that = sound.claims w v that (sym (step.others.claimed w v other) ∙ h) in
            let idle : IsIdleBefore s e v = elim (cases_lt t v) [
              | inl past ↦ let a : d.active u t ≡ false = (was.front u t step.claim.is_node past).0 in let b : d.active u t ≡ true = step.was_active in absurd (cc)
              | inr low ↦ λ a b x l. front a b x (omega arith)
            ] in
            same_claim s d e w v that step.work.counts step.work.kept idle was
      ];
    }

pub give_back_keeps : (s : Setting) (d : Desk) (u t : ℕ) (e : Desk) → IsSound s d → GivesBack d u t e → IsSound s e
give_back_keeps s d u t e sound step =
    record {
      counts = same_steps s d e step.work.counts step.work.kept sound.counts;
      active = record {
        idle_is_settled = λ w v x l idle. elim (cases_pair u t w v) [
          | inl at ↦ let h : e.active w v ≡ true = rw (← at.0, ← at.1) step.again in let n : e.active w v ≡ false = idle.0 in absurd (cc)
          | inr other ↦ same_settled s d e w v step.work.counts step.work.kept (sound.active.idle_is_settled w v x l (sym (step.others.active w v other) ∙ idle.0, sym (step.others.claimed w v other) ∙ idle.1))
        ];
        apart = λ w v active. elim (cases_pair u t w v) [
          | inl at ↦ rw (← at.0, ← at.1) step.free
          | inr other ↦ step.others.claimed w v other ∙ sound.active.apart w v (sym (step.others.active w v other) ∙ active)
        ];
      };
      claims = λ w v that h. elim (cases_pair u t w v) [
        | inl at ↦ let n : e.claimed w v ≡ None = rw (← at.0, ← at.1) step.free in absurd (cc)
        | inr other ↦
            let was : IsClaim s d w v that = sound.claims w v that (sym (step.others.claimed w v other) ∙ h) in
            let idle : IsIdleBefore s e v = λ a b x l. elim (cases_pair u t a b) [
              | inl at ↦ let n : d.claimed u t ≡ None = rw (at.0, at.1) ((was.front a b x l).1) in absurd (step.was_claimed n)
              | inr apart ↦ (step.others.active a b apart ∙ (was.front a b x l).0, step.others.claimed a b apart ∙ (was.front a b x l).1)
            ] in
            same_claim s d e w v that step.work.counts step.work.kept idle was
      ];
    }
