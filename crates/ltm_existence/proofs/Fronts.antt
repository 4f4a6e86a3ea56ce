-- Front after front, up to a loading.
use Rattle.std.proofs.Common.{◌≡◌, ℕ, zero, suc, ◌+◌, ◌<◌, ◌≤◌, arith, inl, inr, refl, sym, subst, ◌∙◌}
use Rattle.std.proofs.lemmas.Bool.{cases_lt}
use Rattle.ltm_curve.specs.Counts.{Counts}
use Rattle.ltm_node.specs.Outputs.{Outputs}
use Rattle.ltm_node.specs.Step.{IsNodeStep}
use Rattle.ltm_loading.specs.Setting.{Setting, IsSetting}
use Rattle.ltm_loading.specs.Pairs.{shape_at, pair_row, pair_inputs, count_row, MeetsStep}
use Rattle.ltm_loading.specs.Loading.{IsFront, OriginsWithoutOutsAreEmpty}
use Rattle.ltm_loading.proofs.Bounds.{in_range_holds}
use Rattle.ltm_loading.proofs.Same.{AgreeTo, pair_row_same}
use Rattle.ltm_loading.proofs.Setters.{counts_set_only_holds, meets_same, same_step}
use Rattle.ltm_existence.specs.Existence.{HasStep, HasNextFront, ThereIsANextFront, ThereIsALoading}
use Rattle.ltm_existence.proofs.Steps.{there_is_a_step_holds}
use Rattle.ltm_existence.proofs.NextCounts.{next_counts, next_before, next_origin, next_row}

-- the outputs of each node in a slot; those of no node do not matter
record Stepped (s : Setting) (c : Counts) (t u : ℕ) : Type 0 where
  outputs : Outputs
  step : u < s.nodes → IsNodeStep (pair_inputs s c u t) outputs

stepped : (s : Setting) (c : Counts) (t u : ℕ) → IsSetting s → IsFront s c t → t < s.slots → Stepped s c t u
stepped s c t u v f y = elim (cases_lt u s.nodes) [
  | inl x ↦
      let h : HasStep (pair_inputs s c u t) = there_is_a_step_holds (pair_inputs s c u t) (in_range_holds s c t u v f y x) in
      record { outputs = h.outputs; step = λ z. h.step }
  | inr none ↦ record { outputs = record { shape = shape_at s u; row = pair_row s c u t; room = 0 }; step = λ z. absurd (omega arith) }
]

-- the pairs up to a slot, once the counts past it are those of the outputs
next_meets : (s : Setting) (c : Counts) (t : ℕ) (o : ℕ → Outputs) (u k : ℕ) → IsSetting s → IsFront s c t → u < s.nodes → IsNodeStep (pair_inputs s c u t) (o u) → k < t + 1 → MeetsStep s (next_counts s c t o) u k
next_meets s c t o u k v f x step l =
    let new : Counts = next_counts s c t o in
    let same : (j : ℕ) → j ≤ t → AgreeTo s c new j = λ j z. record { same = λ g d i w m y. sym (next_before s c t o g d i (omega arith)) } in
    elim (cases_lt k t) [
      | inl before ↦
          let row : count_row s c u (k + 1) ≡ count_row s new u (k + 1) =
          counts_set_only_holds s c new u (k + 1) v x (λ g d of m. sym (next_before s c t o g d (k + 1) (omega arith))) in
          meets_same s c new u k v x (same k (omega arith)) row (f.steps u k x before)
      | inr now ↦
          let e : t ≡ k = omega arith in
          let mine : MeetsStep s new u t =
          same_step (pair_inputs s c u t) (o u) (shape_at s u) (pair_row s new u t) (count_row s new u (t + 1)) refl (pair_row_same s c new u t v (same t (omega arith)) x) (sym (next_row s c t o u v x step)) step in
          subst (λ (z : ℕ). MeetsStep s new u z) e mine
    ]

pub there_is_a_next_front_holds : ThereIsANextFront
there_is_a_next_front_holds s c t v f none y =
    let at : (u : ℕ) → Stepped s c t u = λ u. stepped s c t u v f y in
    let o : ℕ → Outputs = λ u. (at u).outputs in
    record {
      counts = next_counts s c t o;
      same = λ g d k x m l. next_before s c t o g d k l;
      front = record {
        empty = λ g d x m. next_before s c t o g d 0 (omega arith) ∙ f.empty g d x m;
        steps = λ u k x l. next_meets s c t o u k v f x ((at u).step x) l;
      };
      no_origin = λ u d k x closed m l. next_origin s c t o u d k x closed (none u d k x closed m l);
    }

-- a front up to a slot
record HasFront (s : Setting) (t : ℕ) : Type 0 where
  counts : Counts
  front : IsFront s counts t
  no_origin : OriginsWithoutOutsAreEmpty s counts

front : (s : Setting) (t : ℕ) → IsSetting s → t ≤ s.slots → HasFront s t
front s zero v l = record {
  counts = λ g d k. 0;
  front = record { empty = λ g d x m. refl; steps = λ u t x y. absurd (omega arith) };
  no_origin = λ u d k x closed m y. refl;
}
front s (suc t) v l =
    let e : t + 1 ≡ suc t = omega arith in
    let h : HasFront s t = front s t v (omega arith) in
    let next : HasNextFront s h.counts t = there_is_a_next_front_holds s h.counts t v h.front h.no_origin (omega arith) in
    subst (λ (k : ℕ). HasFront s k) e (record { counts = next.counts; front = next.front; no_origin = next.no_origin })

pub there_is_a_loading_holds : ThereIsALoading
there_is_a_loading_holds s v =
    let h : HasFront s s.slots = front s s.slots v (omega arith) in
    record { counts = h.counts; loading = record { front = h.front; no_origin = h.no_origin } }
