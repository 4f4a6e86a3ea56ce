-- What holds of a desk is kept by a batch.
use Rattle.std.proofs.Common.{◌≡◌, ℕ, ◌+◌, ◌≤◌, arith, inl, inr, ap, subst, sym, ◌∙◌, Bool, true, false, ◌||◌}
use Rattle.std.specs.Prelude.{Some, None, is_some}
use Rattle.std.proofs.lemmas.Bool.{cases_lt}
use Rattle.ltm_loading.specs.Setting.{Setting, IsSetting}
use Rattle.ltm_loading.specs.Groups.{groups, dep_of}
use Rattle.ltm_loading.specs.Pairs.{pair_row}
use Rattle.ltm_loading.specs.NextPair.{IsOf}
use Rattle.ltm_loading.proofs.Same.{pair_row_same}
use Rattle.ltm_loading.proofs.Setters.{of_group}
use Rattle.ltm_repair.specs.Desk.{Desk}
use Rattle.ltm_repair.specs.Facts.{CountsAreSteps, IsSound, IsStepOf}
use Rattle.ltm_repair.specs.Moves.{Grows, Accepts}
use Rattle.ltm_loading.specs.Networks.{SameNetwork}
use Rattle.ltm_repair.proofs.Cases.{or_none, is_some_none}
use Rattle.ltm_repair.proofs.Networks.{groups_same, dep_same, of_same, step_network, step_counts}

accept_steps : (r s : Setting) (d e : Desk) → IsSetting s → SameNetwork r s → CountsAreSteps r d → Grows r s d e → CountsAreSteps s e
accept_steps r s d e is same h step =
    let wide : r.slots ≤ s.slots = step.slots in
    let groups_r : groups r ≡ groups s = groups_same r s same in
    let nodes_r : r.nodes ≡ s.nodes = same.nodes in
    let ends_r : r.destinations ≡ s.destinations = same.destinations in
    record {
      empty = λ g b y m. step.old_counts g b 0 y m (omega arith) ∙ h.empty g b (omega arith) (omega arith);
      sinks = λ w b k y none m l. elim (cases_lt r.slots k) [
        | inl new ↦ step.new_counts (dep_of s w) b k (omega arith) m new l
        | inr old ↦
            let P : ℕ → Type 0 = λ z. d.counts z b k ≡ 0 in
            let outs : r.outs w ≡ 0 = rw same.outs none in
            step.old_counts (dep_of s w) b k (omega arith) m old ∙ subst P (dep_same r s w same) (h.sinks w b k (omega arith) outs (omega arith) old)
      ];
      steps = λ u t y l row kept. elim (cases_lt t r.slots) [
        | inl old ↦
            let was : IsStepOf r d.counts u t row = h.steps u t (omega arith) old row (sym (step.old_kept u t old) ∙ kept) in
            step_counts s d.counts e.counts u t row is y (λ g b of m. sym (step.old_counts g b (t + 1) (of_group s u g b is y of) m (omega arith))) (step_network r s d.counts u t row same was)
        | inr new ↦ let n : e.kept u t ≡ None = step.new_kept u t new l in absurd (cc)
      ];
      unset = λ u t y l none. elim (cases_lt t r.slots) [
        | inr new ↦ inl (λ g b of m. step.new_counts g b (t + 1) (of_group s u g b is y of) m (omega arith) (omega arith))
        | inl old ↦ elim (h.unset u t (omega arith) old (sym (step.old_kept u t old) ∙ none)) [
          | inl zero ↦ inl (λ g b of m.
              let of_r : IsOf r u g b = subst (λ (z : Type 0). z) (sym (of_same r s u g b same)) of in
              step.old_counts g b (t + 1) (of_group s u g b is y of) m (omega arith) ∙ zero g b of_r (omega arith))
          | inr set ↦ inr (
            set.0,
            step_counts s d.counts e.counts u t set.0 is y (λ g b of m. sym (step.old_counts g b (t + 1) (of_group s u g b is y of) m (omega arith)))
                (step_network r s d.counts u t set.0 same set.1),
          )
        ]
      ];
    }

pub accept_keeps : (r s : Setting) (d : Desk) (touched : ℕ → ℕ → Bool) (e : Desk) → IsSetting s → SameNetwork r s → IsSound r d → Accepts r s d touched e → IsSound s e
accept_keeps r s d touched e is same sound step = record {
  counts = accept_steps r s d e is same sound.counts step.grows;
  active = record {
    idle_is_settled = λ u t x l idle. elim (cases_lt t r.slots) [
      | inl old ↦
          let nodes_r : r.nodes ≡ s.nodes = same.nodes in
          let first : ((d.active u t || is_some (d.claimed u t)) ≡ false) × (touched u t ≡ false) =
          or_none (d.active u t || is_some (d.claimed u t)) (touched u t) (sym (step.old_active u t old) ∙ idle.0) in
          let second : (d.active u t ≡ false) × (is_some (d.claimed u t) ≡ false) = or_none (d.active u t) (is_some (d.claimed u t)) first.0 in
          let free : d.claimed u t ≡ None = is_some_none (d.claimed u t) second.1 in
          let back : pair_row s e.counts u t ≡ pair_row s d.counts u t =
          pair_row_same s e.counts d.counts u t is (record { same = λ g b k y m low. step.grows.old_counts g b k y m (omega arith) }) x in
          step.grows.old_kept u t old ∙ sound.active.idle_is_settled u t (omega arith) old (second.0, free) ∙ ap (λ z. Some z) (sym (back ∙ step.readers u t x old first.1))
      | inr new ↦ let a : e.active u t ≡ true = step.new_active u t x new l in let n : e.active u t ≡ false = idle.0 in absurd (cc)
    ];
    apart = λ u t active. step.void u t;
  };
  claims = λ u t row h. let n : e.claimed u t ≡ None = step.void u t in absurd (cc);
}
