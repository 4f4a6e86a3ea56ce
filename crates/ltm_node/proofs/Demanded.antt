use Rattle.std.proofs.Common.{◌≡◌, ◌≢◌, ℕ, ◌+◌, ◌*◌, ◌/◌, ◌<◌, ◌≤◌, max, arith, inl, inr, refl, ap, subst, sym, ◌∙◌}
use Rattle.std.proofs.Math.Nat.{mul-le-mul_right, mul-le-mul_left, div-mul-le_self, div-le_self}
use Rattle.std.proofs.lemmas.Bool.{cases_eq}
use Rattle.std.proofs.lemmas.Nat.{le-div}
use Rattle.ltm_units.specs.Sums.{sum_below}
use Rattle.ltm_units.proofs.Sums.{sum_below-same, sum_below-most, sum_below-le, sum_below-mul}
use Rattle.ltm_shares.specs.Shares.{Demands, inflow, AreShares, HeldBackBy}
use Rattle.ltm_shares.specs.Demands.{IsSmall}
use Rattle.ltm_shares.specs.Sent.{sent_at}
use Rattle.ltm_shares.specs.declared.sent.Sent.{Sent}
use Rattle.ltm_node.specs.Inputs.{Inputs, capacity, supply}
use Rattle.ltm_node.specs.Demands.{sent, sent_into, priority, demands}
use Rattle.ltm_node.specs.Solvable.{IsSolvable}
use Rattle.ltm_node.specs.Moving.{HoldsSent, Agrees, Asks, AsksFirst, TakesAll, priority_or_more, filled_demands}
use Rattle.ltm_node.proofs.Ranges.{sent_into_le, sent_small}

-- the demands of inputs that can be solved are small
pub filled_small : (n : Inputs) → IsSolvable n → IsSmall (filled_demands n)
filled_small n h = record {
  few_arms = h.few_arms;
  few_outs = h.few_outs;
  supplies = h.supplies;
  some_priority = λ i l. le-div 1 (1024 * capacity n i) (max 1 (sent n i)) (omega arith) (omega (arith, h.some_capacity i l, h.within_capacity i l));
  priorities = λ i l. omega (arith, div-le_self (1024 * capacity n i) (max 1 (sent n i)), h.capacities i l);
  weights = λ j m.
      let each : (i : ℕ) → i < n.shape.arms → priority_or_more n i * sent_into n i j ≤ 32768000 = λ i l.
      let most : sent_into n i j ≤ max 1 (sent n i) = omega (arith, sent_into_le n i j) in
      omega (arith, mul-le-mul_left (priority_or_more n i) most, div-mul-le_self (1024 * capacity n i) (max 1 (sent n i)), h.capacities i l) in
      omega (arith, sum_below-most n.shape.arms (λ i. priority_or_more n i * sent_into n i j) 32768000 each, mul-le-mul_right 32768000 h.few_arms);
}

sum_below-count : (m n : ℕ) (f : ℕ → ℕ) → m ≡ n → sum_below m f ≡ sum_below n f
sum_below-count m n f e = ap (λ k. sum_below k f) e

inflow_agrees : (n m : Demands) (p q : ℕ → ℕ) (j : ℕ) → Agrees n m → j < n.outs → ((i : ℕ) → i < n.arms → q i ≡ p i) → inflow m q j ≡ inflow n p j
inflow_agrees n m p q j a l e =
    sum_below-count m.arms n.arms (λ i. q i * m.sending i j) a.arms
    ∙ sum_below-same n.arms (λ i. q i * m.sending i j) (λ i. p i * n.sending i j) (λ i b. ap (λ z. z * m.sending i j) (e i b) ∙ ap (λ z. p i * z) (a.sending i j b l))

-- shares of demands that agree
pub shares_agree : (n m : Demands) (d : ℕ) (p : ℕ → ℕ) → Agrees n m → AreShares m d p → AreShares n d p
shares_agree n m d p a s =
    let same : (j : ℕ) → j < n.outs → inflow m p j ≡ inflow n p j = λ j l. inflow_agrees n m p p j a l (λ i b. refl) in
    record {
      positive = s.positive;
      at_most_all = λ i l. s.at_most_all i (omega (arith, a.arms));
      within_supply = λ j l. omega (arith, same j l, s.within_supply j (omega (arith, a.outs)), ap (λ z. z * d) (a.supply j l));
      held_back = λ i l less.
          let by = s.held_back i (omega (arith, a.arms)) less in
          let b : HeldBackBy m d p i by.0 = by.1 in
          let is_out : by.0 < n.outs = omega (arith, b.is_out, a.outs) in (
            by.0,
            record {
              is_out = is_out;
              uses = omega (arith, b.uses, a.sending i by.0 l is_out);
              full = omega (arith, same by.0 is_out, b.full, ap (λ z. z * d) (a.supply by.0 is_out));
              greatest = λ k c u. omega (arith, b.greatest k (omega (arith, a.arms)) (omega (arith, u, a.sending k by.0 c is_out)), ap (λ z. p k * z) (a.priority i l), ap (λ z. p i * z) (a.priority k c));
            },
          );
    }

priority_same : (n : Inputs) (i j : ℕ) → 0 < sent_into n i j → priority_or_more n i ≡ priority n i
priority_same n i j uses =
    let e : max 1 (sent n i) ≡ sent n i = omega (arith, sent_into_le n i j) in ap (λ z. 1024 * capacity n i / z) e

-- the priority of an arm that sends nothing plays no part
pub shares_filled : (n : Inputs) (d : ℕ) (p : ℕ → ℕ) → AreShares (filled_demands n) d p → AreShares (demands n) d p
shares_filled n d p s = record {
  positive = s.positive;
  at_most_all = s.at_most_all;
  within_supply = s.within_supply;
  held_back = λ i l less.
      let by = s.held_back i l less in
      let b : HeldBackBy (filled_demands n) d p i by.0 = by.1 in (
        by.0,
        record {
          is_out = b.is_out;
          uses = b.uses;
          full = b.full;
          greatest = λ k c u. omega (arith, b.greatest k c u, ap (λ z. p k * z) (priority_same n i by.0 b.uses), ap (λ z. p i * z) (priority_same n k by.0 u));
        },
      );
}

-- ---- only the out-links that are short are asked

-- what the arms send into an out-link that is asked, at some numerators
inflow_asked : (n : Inputs) (m : Demands) (p q : ℕ → ℕ) (k j : ℕ) → m.arms ≡ n.shape.arms → Asks n m k j → ((i : ℕ) → i < n.shape.arms → q i ≡ p i) → inflow m q k ≡ inflow (filled_demands n) p j
inflow_asked n m p q k j arms a e =
    sum_below-count m.arms n.shape.arms (λ i. q i * m.sending i k) arms
    ∙ sum_below-same n.shape.arms (λ i. q i * m.sending i k) (λ i. p i * sent_into n i j) (λ i b. ap (λ z. z * m.sending i k) (e i b) ∙ ap (λ z. p i * z) (a.sending i b))

pub asks_small : (n : Inputs) (m : Demands) → IsSolvable n → AsksFirst n n.shape.outs m → IsSmall m
asks_small n m s h =
    let small : IsSmall (filled_demands n) = filled_small n s in
    record {
      few_arms = omega (arith, h.arms, s.few_arms);
      few_outs = omega (arith, h.few, s.few_outs);
      supplies = λ k l.
          let at = h.out_links k l in
          let a : Asks n m k at.0 = at.1 in
          omega (arith, a.supply, s.supplies at.0 a.is_out);
      some_priority = λ i l. omega (arith, h.arms, h.priority i (omega (arith, h.arms)), small.some_priority i (omega (arith, h.arms)));
      priorities = λ i l. omega (arith, h.arms, h.priority i (omega (arith, h.arms)), small.priorities i (omega (arith, h.arms)));
      weights = λ k l.
          let at = h.out_links k l in
          let a : Asks n m k at.0 = at.1 in
          omega (arith, inflow_asked n m (priority_or_more n) m.priority k at.0 h.arms a h.priority, small.weights at.0 a.is_out);
    }

-- the out-links that can take all that is sent to them hold no arm back
takes_shares : (n : Inputs) (d : ℕ) (p : ℕ → ℕ) (j : ℕ) → ((i : ℕ) → i < n.shape.arms → p i ≤ d) → TakesAll n j → inflow (filled_demands n) p j ≤ supply n j * d
takes_shares n d p j most takes =
    let each : inflow (filled_demands n) p j ≤ sum_below n.shape.arms (λ i. sent_into n i j * d) =
    sum_below-le n.shape.arms (λ i. p i * sent_into n i j) (λ i. sent_into n i j * d) (λ i l. omega (arith, mul-le-mul_right (sent_into n i j) (most i l))) in
    omega (arith, each, sum_below-mul n.shape.arms (λ i. sent_into n i j) d, mul-le-mul_right d takes)

shares_asked : (n : Inputs) (m : Demands) (d : ℕ) (p : ℕ → ℕ) → AsksFirst n n.shape.outs m → AreShares m d p → AreShares (filled_demands n) d p
shares_asked n m d p h s =
    let most : (i : ℕ) → i < n.shape.arms → p i ≤ d = λ i l. s.at_most_all i (omega (arith, h.arms)) in
    record {
      positive = s.positive;
      at_most_all = most;
      within_supply = λ j jl. elim (h.all j jl) [
        | inl takes ↦ takes_shares n d p j most takes
        | inr at ↦
            let a : Asks n m at.0 j = at.1 in
            omega (arith, inflow_asked n m p p at.0 j h.arms a (λ i b. refl), s.within_supply at.0 a.asked, ap (λ z. z * d) a.supply)
      ];
      held_back = λ i l less.
          let by = s.held_back i (omega (arith, h.arms)) less in
          let b : HeldBackBy m d p i by.0 = by.1 in
          let at = h.out_links by.0 b.is_out in
          let a : Asks n m by.0 at.0 = at.1 in (
            at.0,
            record {
              is_out = a.is_out;
              uses = omega (arith, b.uses, a.sending i l);
              full = omega (arith, inflow_asked n m p p by.0 at.0 h.arms a (λ i b. refl), b.full, ap (λ z. z * d) a.supply);
              greatest = λ k c u. omega (arith, b.greatest k (omega (arith, h.arms)) (omega (arith, u, a.sending k c)), ap (λ z. p k * z) (h.priority i l), ap (λ z. p i * z) (h.priority k c));
            },
          );
    }

pub shares_of : (n : Inputs) (m : Demands) (d : ℕ) (p : ℕ → ℕ) → AsksFirst n n.shape.outs m → AreShares m d p → AreShares (demands n) d p
shares_of n m d p h s = shares_filled n d p (shares_asked n m d p h s)

-- an out-link that can take all that is sent to it is not asked
pub asks_past : (n : Inputs) (m : Demands) (j : ℕ) → AsksFirst n j m → TakesAll n j → AsksFirst n (j + 1) m
asks_past n m j h takes = record {
  arms = h.arms;
  few = omega (arith, h.few);
  priority = h.priority;
  out_links = h.out_links;
  all = λ i l. elim (cases_eq i j) [
    | inl same ↦ inl (subst (λ (z : ℕ). TakesAll n z) (sym same) takes)
    | inr other ↦ h.all i (omega arith)
  ];
  clear = h.clear;
}

-- an out-link that is asked still is where another is asked too
asks_still : (n : Inputs) (m m' : Demands) (k j : ℕ) → m.outs < 4 → m'.outs ≡ m.outs + 1 → ((i k : ℕ) → k < 4 → k ≢ m.outs → m'.sending i k ≡ m.sending i k) → ((k : ℕ) → k ≢ m.outs → m'.supply k ≡ m.supply k) → Asks n m k j → Asks n m' k j
asks_still n m m' k j few outs sending supply a = record {
  asked = omega (arith, outs, a.asked);
  is_out = a.is_out;
  sending = λ i l. sending i k (omega (arith, a.asked)) (λ same. absurd (omega (arith, a.asked))) ∙ a.sending i l;
  supply = supply k (λ same. absurd (omega (arith, a.asked))) ∙ a.supply;
}

-- one more out-link is asked
pub asks_more : (n : Inputs) (m m' : Demands) (j : ℕ) → n.shape.outs ≤ 4 → j < n.shape.outs → AsksFirst n j m → m'.arms ≡ m.arms → m'.outs ≡ m.outs + 1 → ((i : ℕ) → m'.priority i ≡ m.priority i) →
    ((i : ℕ) → i < n.shape.arms → m'.sending i m.outs ≡ sent_into n i j) → ((i k : ℕ) → k < 4 → k ≢ m.outs → m'.sending i k ≡ m.sending i k) →
    m'.supply m.outs ≡ supply n j → ((k : ℕ) → k ≢ m.outs → m'.supply k ≡ m.supply k) → AsksFirst n (j + 1) m'
asks_more n m m' j few jl h arms outs priority column sending full supply =
    let room : m.outs < 4 = omega (arith, h.few) in
    let here : Asks n m' m.outs j = record { asked = omega (arith, outs); is_out = jl; sending = column; supply = full } in
    let still : (k i : ℕ) → Asks n m k i → Asks n m' k i = λ k i a. asks_still n m m' k i room outs sending supply a in
    record {
      arms = arms ∙ h.arms;
      few = omega (arith, outs, h.few);
      priority = λ i l. priority i ∙ h.priority i l;
      out_links = λ k l. elim (cases_eq k m.outs) [
        | inl same ↦ subst (λ (z : ℕ). (i : ℕ) × Asks n m' z i) (sym same) (j, here)
        | inr other ↦ let at = h.out_links k (omega (arith, outs)) in (at.0, still k at.0 at.1)
      ];
      all = λ i l. elim (cases_eq i j) [
        | inl same ↦ inr (subst (λ (z : ℕ). (k : ℕ) × Asks n m' k z) (sym same) (m.outs, here))
        | inr other ↦ elim (h.all i (omega arith)) [
          | inl takes ↦ inl takes
          | inr at ↦ inr (at.0, still at.0 i at.1)
        ]
      ];
      clear = λ i k l more. sending i k l (λ same. absurd (omega (arith, outs))) ∙ h.clear i k l (omega (arith, outs));
    }

-- what the arms send into an out-link is small
pub inflow_small : (n : Inputs) (s : Sent) (j k : ℕ) → IsSolvable n → HoldsSent n s → j < n.shape.outs → k ≤ n.shape.arms → sum_below k (λ i. sent_at s i j) ≤ k * 32000
inflow_small n s j k solvable h jl few =
    sum_below-most k (λ i. sent_at s i j) 32000 (λ i l. omega (arith, h i j (omega arith) jl, sent_into_le n i j, sent_small n i solvable (omega arith)))
