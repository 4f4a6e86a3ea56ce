-- What a table of zeros becomes node by node.
use Rattle.std.proofs.Common.{◌≡◌, ℕ, ◌+◌, ◌<◌, ◌≤◌, arith, inl, inr, refl, subst, sym, ◌∙◌}
use Rattle.std.proofs.lemmas.Bool.{cases_eq}
use Rattle.ltm_units.proofs.Sums.{le-sum_below, sum_below-zero}
use Rattle.ltm_curve.proofs.Lasts.{row_le}
use Rattle.ltm_loading.specs.Setting.{Setting, IsSetting}
use Rattle.ltm_flows.specs.Origins.{produced_in_all}
use Rattle.ltm_flows.specs.Production.{produced_in, RenewsNode, ProducesNothing, ProducedByFirst}
use Rattle.ltm_flows.specs.declared.production.Production.{Production}

pub first_none : (s : Setting) (p : Production) → s.slots ≤ p.room → ProducesNothing p → ProducedByFirst s 0 p p
first_none s p room none = record {
  sizes = record { nodes = refl; room = refl };
  first = λ n k low x y. absurd (omega (arith, low));
  others = λ n k high x y. none n k x (omega (arith, y, room));
}

-- what has produced nothing by the last boundary has produced nothing before
pub idle_before : (s : Setting) (n k : ℕ) → IsSetting s → n < s.nodes → k ≤ s.slots → produced_in_all s n s.slots ≡ 0 → produced_in_all s n k ≡ 0
idle_before s n k v x y none = sum_below-zero s.destinations (λ d. s.produced n d k) (λ d z.
    let last : s.produced n d s.slots ≤ produced_in_all s n s.slots = le-sum_below s.destinations (λ e. s.produced n e s.slots) d z in
    let rises : s.produced n d k ≤ s.produced n d s.slots = row_le s.destinations (s.produced n) s.slots (v.produced_rises n x) d k s.slots z y (omega arith) in
    omega (arith, none, last, rises))

pub first_idle : (s : Setting) (node amount : ℕ) (old new : Production) → IsSetting s → old.nodes ≡ s.nodes → node < old.nodes → amount ≡ produced_in_all s node s.slots → (0 < amount → ⊥) → ProducedByFirst s node old new → ProducedByFirst s (node + 1) old new
first_idle s node amount old new v nodes l is idle first = record {
  sizes = first.sizes;
  first = λ n k x y z. elim (cases_eq n node) [
    | inr other ↦ first.first n k (omega (arith, x, other)) y z
    | inl here ↦
        let nothing : produced_in_all s n k ≡ 0 = idle_before s n k v (omega (arith, y, nodes)) z (subst (λ (m : ℕ). produced_in_all s m s.slots ≡ 0) (sym here) (omega (arith, is, idle))) in
        first.others n k (omega (arith, here)) y z ∙ sym nothing
  ];
  others = λ n k x y z. first.others n k (omega (arith, x)) y z;
}

pub first_next : (s : Setting) (node : ℕ) (old mid new : Production) → s.slots ≤ old.room → node < old.nodes → ProducedByFirst s node old mid → RenewsNode s node 0 (s.slots + 1) mid new → ProducedByFirst s (node + 1) old new
first_next s node old mid new room l first renews = record {
  sizes = record { nodes = renews.sizes.nodes ∙ first.sizes.nodes; room = renews.sizes.room ∙ first.sizes.room };
  first = λ n k x y z. elim (cases_eq n node) [
    | inl here ↦ subst (λ (m : ℕ). produced_in new m k ≡ produced_in_all s m k) (sym here) (renews.renewed k (omega arith) (omega (arith, z)))
    | inr other ↦ renews.others n k (omega (arith, y, first.sizes.nodes)) (omega (arith, z, room, first.sizes.room)) (inl other) ∙ first.first n k (omega (arith, x, other)) y z
  ];
  others = λ n k x y z. renews.others n k (omega (arith, y, first.sizes.nodes)) (omega (arith, z, room, first.sizes.room)) (inl (λ e. omega (arith, e, x))) ∙ first.others n k (omega (arith, x)) y z;
}
