use Rattle.std.proofs.Common.{◌≡◌, ◌≢◌, ℕ, zero, suc, ◌*◌, ◌<◌, ◌≤◌, ◌⊎◌, arith, inl, inr, ap, subst, min, ◌∙◌}
use Rattle.std.proofs.Math.Nat.{le_of_mul-le-mul_right, mul-le-mul_right, mul-le-mul_left, mul_assoc, mul_comm, mul-lt-mul_of_pos_right, lt_of_mul-lt-mul_right}
use Rattle.std.proofs.lemmas.Bool.{cases_lt, cases_eq}
use Rattle.ltm_units.specs.Sums.{sum_below}
use Rattle.ltm_shares.specs.Shares.{Demands, inflow, HeldBackBy, AreShares, HasPriorities, OneSolution}
use Rattle.ltm_units.proofs.Sums.{sum_below-lt, sum_below-mul, sum_below-same}

-- fractions a/u, b/v, c/w
pub fraction_le_trans : (a u b v c w : ℕ) → 0 < v → a * v ≤ b * u → b * w ≤ c * v → a * w ≤ c * u
fraction_le_trans a u b v c w pos first second =
    le_of_mul-le-mul_right {k = v} (omega (arith, mul-le-mul_right w first, mul-le-mul_right u second)) pos

-- what holds below n, and of n, holds below the next
pub below_suc : (P : ℕ → Type 0) (n : ℕ) → ((k : ℕ) → k < n → P k) → P n → (k : ℕ) → k < suc n → P k
below_suc P n below here k l =
    elim (cases_lt k n) [ inl low ↦ below k low | inr high ↦ let at : n ≡ k = omega arith in subst P at here ]

-- the index below n with the least fraction m/r, among those of which D holds
pub record Least (D : ℕ → Type 0) (m r : ℕ → ℕ) (n : ℕ) : Type 0 where
  pub index : ℕ
  pub below : index < n
  pub chosen : D index
  pub least : (k : ℕ) → k < n → D k → m index * r k ≤ m k * r index

pub least_fraction : (D : ℕ → Type 0) → ((k : ℕ) → D k ⊎ (D k → ⊥)) → (m r : ℕ → ℕ) (n : ℕ) → ((k : ℕ) → k < n → D k → 0 < r k) → ((k : ℕ) → k < n → D k → ⊥) ⊎ Least D m r n
least_fraction D test m r zero h = inl (λ k l d. absurd (omega arith))
least_fraction D test m r (suc n) h =
    elim (least_fraction D test m r n (λ k l d. h k (omega arith) d)) [
      | inl none ↦ elim (test n) [
        | inl here ↦ inr (record {
          index = n;
          below = omega arith;
          chosen = here;
          least = below_suc (λ k. D k → m n * r k ≤ m k * r n) n (λ k l d. absurd (none k l d)) (λ d. omega arith);
        })
        | inr not_here ↦ inl (below_suc (λ k. D k → ⊥) n none not_here)
      ]
      | inr some ↦ elim (test n) [
        | inl here ↦ elim (cases_lt (m n * r some.index) (m some.index * r n)) [
          | inl smaller ↦ inr (record {
            index = n;
            below = omega arith;
            chosen = here;
            least = below_suc (λ k. D k → m n * r k ≤ m k * r n) n
                (λ k l d. fraction_le_trans (m n) (r n) (m some.index) (r some.index) (m k) (r k) (h some.index (let b : some.index < n = some.below in omega arith) some.chosen) (omega arith) (some.least k l d))
                (λ d. omega arith);
          })
          | inr not_smaller ↦ inr (record {
            index = some.index;
            below = omega arith;
            chosen = some.chosen;
            least = below_suc (λ k. D k → m some.index * r k ≤ m k * r some.index) n some.least (λ d. not_smaller);
          })
        ]
        | inr not_here ↦ inr (record {
          index = some.index;
          below = omega arith;
          chosen = some.chosen;
          least = below_suc (λ k. D k → m some.index * r k ≤ m k * r some.index) n some.least (λ d. absurd (not_here d));
        })
      ]
    ]

pub inflow-scaled : (n : Demands) (p : ℕ → ℕ) (c j : ℕ) → inflow n (λ i. p i * c) j ≡ inflow n p j * c
inflow-scaled n p c j =
    sum_below-same n.arms (λ i. p i * c * n.sending i j) (λ i. p i * n.sending i j * c) (λ k l. omega arith) ∙ sum_below-mul n.arms (λ i. p i * n.sending i j) c

-- the same shares over a denominator that is c times as large
pub scaled : (n : Demands) (d : ℕ) (p : ℕ → ℕ) (c : ℕ) → 0 < c → AreShares n d p → AreShares n (d * c) (λ i. p i * c)
scaled n d p c pos s = record {
  positive = omega (arith, mul-lt-mul_of_pos_right s.positive pos);
  at_most_all = λ i l. mul-le-mul_right c (s.at_most_all i l);
  within_supply = λ j l. omega (arith, inflow-scaled n p c j, mul-le-mul_right c (s.within_supply j l));
  held_back = λ i l less.
      let by = s.held_back i l (lt_of_mul-lt-mul_right c less) in (
        by.0,
        record {
          is_out = by.1.is_out;
          uses = by.1.uses;
          full = inflow-scaled n p c by.0 ∙ (ap (λ x. x * c) by.1.full ∙ mul_assoc (n.supply by.0) d c);
          greatest = λ k m u. omega (arith, mul-le-mul_right c (by.1.greatest k m u));
        },
      );
}

-- p is less than q at the arm of the least fraction of both: that cannot be
pub no_less : (n : Demands) (d : ℕ) (p q : ℕ → ℕ) → HasPriorities n → AreShares n d p → AreShares n d q →
    (i : ℕ) → i < n.arms → p i < q i →
    ((k : ℕ) → k < n.arms → q k < p k → p i * n.priority k ≤ q k * n.priority i) → ⊥
no_less n d p q pri sp sq i l less least =
    let by = sp.held_back i l (omega (arith, sq.at_most_all i l)) in
    let s : ℕ → ℕ = λ k. n.sending k by.0 in
    let b : HeldBackBy n d p i by.0 = by.1 in
    let each : (k : ℕ) → k < n.arms → p k * s k ≤ q k * s k = λ k m.
    elim (cases_lt (q k) (p k)) [
      | inl falls ↦ elim (cases_lt 0 (s k)) [
        | inl used ↦ absurd (omega (arith, b.greatest k m used, least k m falls, mul-lt-mul_of_pos_right falls (pri i by.0 l b.is_out b.uses)))
        | inr unused ↦ omega (arith, mul-le-mul_left (p k) unused)
      ]
      | inr rises ↦ mul-le-mul_right (s k) rises
    ] in
    let more : sum_below n.arms (λ k. p k * s k) < sum_below n.arms (λ k. q k * s k) =
    sum_below-lt n.arms (λ k. p k * s k) (λ k. q k * s k) i l each (mul-lt-mul_of_pos_right less b.uses) in
    omega (arith, b.full, sq.within_supply by.0 b.is_out)

least_at : (a b c d u v : ℕ) → a < b → d < c → min a b * v ≤ min c d * u → a * v ≤ d * u
least_at a b c d u v x y h =
    let first : min a b ≡ a = omega arith in
    let second : min c d ≡ d = omega arith in rw (first, second) at h

least_at_turned : (a b c d u v : ℕ) → b < a → c < d → min a b * v ≤ min c d * u → b * v ≤ c * u
least_at_turned a b c d u v x y h =
    let first : min a b ≡ b = omega arith in
    let second : min c d ≡ c = omega arith in rw (first, second) at h

-- an arm that does not send all has a priority
has_priority : (n : Demands) (d : ℕ) (p : ℕ → ℕ) → HasPriorities n → AreShares n d p → (i : ℕ) → i < n.arms → p i < d → 0 < n.priority i
has_priority n d p pri s i l less =
    let by = s.held_back i l less in pri i by.0 l by.1.is_out by.1.uses

-- two solutions over one denominator are equal
pub same_over : (n : Demands) (d : ℕ) (p q : ℕ → ℕ) → HasPriorities n → AreShares n d p → AreShares n d q → (i : ℕ) → i < n.arms → p i ≡ q i
same_over n d p q pri sp sq i l =
    let differs : ℕ → Type 0 = λ k. p k ≢ q k in
    let test : (k : ℕ) → differs k ⊎ (differs k → ⊥) = λ k.
    elim (cases_eq (p k) (q k)) [ inl same ↦ inr (λ ne. ne same) | inr ne ↦ inl ne ] in
    let positive : (k : ℕ) → k < n.arms → differs k → 0 < n.priority k = λ k m ne.
    elim (cases_lt (p k) (q k)) [
      | inl less ↦ has_priority n d p pri sp k m (omega (arith, sq.at_most_all k m))
      | inr more ↦ has_priority n d q pri sq k m (omega (arith, sp.at_most_all k m))
    ] in
    elim (least_fraction differs test (λ k. min (p k) (q k)) n.priority n.arms positive) [
      | inl none ↦ elim (cases_eq (p i) (q i)) [ inl same ↦ same | inr ne ↦ absurd (none i l ne) ]
      | inr some ↦ elim (cases_lt (p some.index) (q some.index)) [
        | inl less ↦ absurd (no_less n d p q pri sp sq some.index some.below less (λ k m falls.
            least_at (p some.index) (q some.index) (p k) (q k) (n.priority some.index) (n.priority k) less falls (some.least k m (omega arith))))
        | inr more ↦
            let ne : p some.index ≢ q some.index = some.chosen in
            let less : q some.index < p some.index = omega arith in
            absurd (no_less n d q p pri sq sp some.index some.below less (λ k m falls.
            least_at_turned (p some.index) (q some.index) (p k) (q k) (n.priority some.index) (n.priority k) less falls (some.least k m (omega arith))))
      ]
    ]

pub one_solution_holds : OneSolution
one_solution_holds n d e p q pri sp sq =
    let Over : ℕ → Type 0 = λ m. AreShares n m (λ i. q i * d) in
    same_over n (d * e) (λ i. p i * e) (λ i. q i * d) pri (scaled n d p e sq.positive sp)
    (subst Over (mul_comm e d) (scaled n e q d sp.positive sq))
