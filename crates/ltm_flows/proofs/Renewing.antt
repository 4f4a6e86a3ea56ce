-- What is renewed amount by amount.
use Rattle.std.proofs.Common.{◌≡◌, ◌≢◌, ℕ, ◌+◌, ◌<◌, ◌≤◌, ◌⊎◌, arith, inl, inr, refl, subst, sym, ◌∙◌}
use Rattle.std.proofs.lemmas.Bool.{cases_eq, cases_lt}
use Rattle.ltm_loading.specs.Setting.{Setting}
use Rattle.ltm_flows.specs.Origins.{produced_in_all}
use Rattle.ltm_flows.specs.Production.{produced_in, SameSizes, SetsAmount, RenewsNode, RenewsNodes}
use Rattle.ltm_flows.specs.declared.production.Production.{Production}

same_sizes : (a b c : Production) → SameSizes a b → SameSizes b c → SameSizes a c
same_sizes a b c one two = record { nodes = two.nodes ∙ one.nodes; room = two.room ∙ one.room }

-- ---- of a node
pub node_none : (s : Setting) (node from : ℕ) (p : Production) → RenewsNode s node from from p p
node_none s node from p = record {
  sizes = record { nodes = refl; room = refl };
  renewed = λ k l m. absurd (omega (arith, l, m));
  others = λ n k l m differs. refl;
}

pub node_next : (s : Setting) (node from k amount : ℕ) (old mid new : Production) → node < old.nodes → from ≤ k → k ≤ old.room → amount ≡ produced_in_all s node k → RenewsNode s node from k old mid →
    SetsAmount mid new node k amount → RenewsNode s node from (k + 1) old new
node_next s node from k amount old mid new l f b is done sets = record {
  sizes = same_sizes old mid new done.sizes sets.sizes;
  renewed = λ j x y.
      elim (cases_eq j k) [
        | inl here ↦ subst (λ (z : ℕ). produced_in new node z ≡ produced_in_all s node z) (sym here) (sets.here ∙ is)
        | inr other ↦ sets.others node j (omega (arith, l, done.sizes.nodes)) (omega (arith, y, b, done.sizes.room)) (inr other) ∙ done.renewed j x (omega (arith, y, other))
      ];
  others = λ n j x y differs.
      let set : (n ≢ node) ⊎ (j ≢ k) = elim differs [
        | inl node ↦ inl node
        | inr far ↦ inr (elim far [ inl before ↦ (λ e. absurd (omega (arith, e, before, f))) | inr behind ↦ (λ e. absurd (omega (arith, e, behind))) ])
      ] in
      let was : (n ≢ node) ⊎ ((j < from) ⊎ (k ≤ j)) = elim differs [
        | inl node ↦ inl node
        | inr far ↦ inr (elim far [ inl before ↦ inl before | inr behind ↦ inr (omega (arith, behind)) ])
      ] in
      sets.others n j (omega (arith, x, done.sizes.nodes)) (omega (arith, y, done.sizes.room)) set ∙ done.others n j x y was;
}

-- ---- of the nodes at a boundary
pub boundary_none : (s : Setting) (from end : ℕ) (p : Production) → RenewsNodes s 0 from end p p
boundary_none s from end p = record {
  sizes = record { nodes = refl; room = refl };
  renewed = λ n k x l m. absurd (omega (arith, x));
  others = λ n k l m far. refl;
}

pub boundary_next : (s : Setting) (node k amount : ℕ) (old mid new : Production) → node < old.nodes → k ≤ old.room → amount ≡ produced_in_all s node k → RenewsNodes s node k (k + 1) old mid →
    SetsAmount mid new node k amount → RenewsNodes s (node + 1) k (k + 1) old new
boundary_next s node k amount old mid new l b is done sets = record {
  sizes = same_sizes old mid new done.sizes sets.sizes;
  renewed = λ n j x y z.
      let at : j ≡ k = omega (arith, y, z) in
      elim (cases_eq n node) [
        | inl here ↦
            let set : produced_in new node k ≡ produced_in_all s node k = sets.here ∙ is in
            subst (λ (i : ℕ). produced_in new i j ≡ produced_in_all s i j) (sym here) (subst (λ (i : ℕ). produced_in new node i ≡ produced_in_all s node i) (sym at) set)
        | inr other ↦ sets.others n j (omega (arith, x, l, done.sizes.nodes)) (omega (arith, at, b, done.sizes.room)) (inl other) ∙ done.renewed n j (omega (arith, x, other)) y z
      ];
  others = λ n j x y far.
      let off : j ≢ k = elim far [ inl before ↦ (λ e. absurd (omega (arith, e, before))) | inr behind ↦ (λ e. absurd (omega (arith, e, behind))) ] in
      sets.others n j (omega (arith, x, done.sizes.nodes)) (omega (arith, y, done.sizes.room)) (inr off) ∙ done.others n j x y far;
}

-- ---- of all nodes, boundary by boundary
pub all_none : (s : Setting) (count from : ℕ) (p : Production) → RenewsNodes s count from from p p
all_none s count from p = record {
  sizes = record { nodes = refl; room = refl };
  renewed = λ n k x l m. absurd (omega (arith, l, m));
  others = λ n k l m far. refl;
}

pub all_next : (s : Setting) (from k : ℕ) (old mid new : Production) → from ≤ k → k ≤ old.room → RenewsNodes s old.nodes from k old mid → RenewsNodes s mid.nodes k (k + 1) mid new → RenewsNodes s old.nodes from (k + 1) old new
all_next s from k old mid new f b done next = record {
  sizes = same_sizes old mid new done.sizes next.sizes;
  renewed = λ n j x y z.
      let is_node : n < mid.nodes = omega (arith, x, done.sizes.nodes) in
      elim (cases_lt j k) [
        | inl low ↦ next.others n j is_node (omega (arith, low, b, done.sizes.room)) (inl low) ∙ done.renewed n j x y low
        | inr high ↦ next.renewed n j is_node high z
      ];
  others = λ n j x y far.
      let off : (j < k) ⊎ (k + 1 ≤ j) = elim far [ inl before ↦ inl (omega (arith, before, f)) | inr behind ↦ inr behind ] in
      let was : (j < from) ⊎ (k ≤ j) = elim far [ inl before ↦ inl before | inr behind ↦ inr (omega (arith, behind)) ] in
      next.others n j (omega (arith, x, done.sizes.nodes)) (omega (arith, y, done.sizes.room)) off ∙ done.others n j x y was;
}
