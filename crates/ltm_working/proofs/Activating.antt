-- Pairs are made active in steps.
use Rattle.std.proofs.Common.{◌≡◌, ℕ, ◌+◌, ◌<◌, ◌≤◌, ◌==◌, ◌&&◌, ◌||◌, not, nat_le, nat_lt, Bool, true, false, refl, ap, sym, ◌∙◌, arith, inl, inr}
use Rattle.std.proofs.lemmas.Bool.{cases_lt, cases_eq, lt-ltb, le-ltb, eq-eqb, ne_eqb}
use Rattle.ltm_frontier.specs.declared.frontier.Frontier.{Frontier}
use Rattle.ltm_frontier.specs.Frontier.{nodes_in, slots_in, is_active, is_claimed, in_slots, Activates}
use Rattle.ltm_pairs.specs.Changes.{some_below}
use Rattle.ltm_working.proofs.Bools.{or_false, and_on, twice, one_more}

pub act_none : (f : Frontier) → Activates f f (λ w v. false)
act_none f = record {
  size = record { nodes = refl; slots = refl; room = refl };
  claims = record { pairs = λ u t. refl; count = refl };
  active = λ w v x y. sym (or_false (is_active f w v));
}

pub act_both : (a b c : Frontier) (f g : ℕ → ℕ → Bool) → Activates a b f → Activates b c g → Activates a c (λ w v. f w v || g w v)
act_both a b c f g first next = record {
  size = record {
    nodes = next.size.nodes ∙ first.size.nodes;
    slots = next.size.slots ∙ first.size.slots;
    room = next.size.room ∙ first.size.room;
  };
  claims = record { pairs = λ w v. next.claims.pairs w v ∙ first.claims.pairs w v; count = next.claims.count ∙ first.claims.count };
  active = λ w v x y.
      next.active w v (omega (arith, x, first.size.nodes)) (omega (arith, y, first.size.slots))
      ∙ (ap (λ z. z || (g w v && not (is_claimed b w v))) (first.active w v x y)
      ∙ (ap (λ z. (is_active a w v || (f w v && not (is_claimed a w v))) || (g w v && not z)) (first.claims.pairs w v)
      ∙ twice (is_active a w v) (f w v) (g w v) (not (is_claimed a w v))));
}

-- the same test in other words
pub act_as : (a b : Frontier) (f g : ℕ → ℕ → Bool) → Activates a b f → ((w v : ℕ) → w < nodes_in a → v < slots_in a → f w v ≡ g w v) → Activates a b g
act_as a b f g acts same = record {
  size = acts.size;
  claims = acts.claims;
  active = λ w v x y. acts.active w v x y ∙ ap (λ z. is_active a w v || (z && not (is_claimed a w v))) (same w v x y);
}

-- none where the test passes for no pair
pub act_no : (f : Frontier) (g : ℕ → ℕ → Bool) → ((w v : ℕ) → w < nodes_in f → v < slots_in f → g w v ≡ false) → Activates f f g
act_no f g none = act_as f f (λ w v. false) g (act_none f) (λ w v x y. sym (none w v x y))

-- one place more
pub act_next : (a b c : Frontier) (n : ℕ) (f : ℕ → ℕ → ℕ → Bool) (g : ℕ → ℕ → Bool) → Activates a b (λ w v. some_below n (f w v)) → Activates b c g →
    ((w v : ℕ) → g w v ≡ f w v n) → Activates a c (λ w v. some_below (n + 1) (f w v))
act_next a b c n f g first next same =
    act_as a c (λ w v. some_below n (f w v) || g w v) (λ w v. some_below (n + 1) (f w v))
    (act_both a b c (λ w v. some_below n (f w v)) g first next)
    (λ w v x y. ap (λ z. some_below n (f w v) || z) (same w v) ∙ sym (one_more n (f w v)))

-- ---- all pairs from a slot on, node after node
node_more : (u t n from slots : ℕ) → t < slots → ((nat_lt u n && nat_le from t) || ((u == n) && (nat_le from t && nat_lt t slots))) ≡ (nat_lt u (n + 1) && nat_le from t)
node_more u t n from slots l =
    let inside : nat_lt t slots ≡ true = lt-ltb t slots l in
    elim (cases_lt u n) [
      | inl low ↦ rw (lt-ltb u n low, lt-ltb u (n + 1) (omega (arith, low)), ne_eqb u n (λ same. omega (arith, same, low))) (or_false (nat_le from t))
      | inr high ↦ elim (cases_eq u n) [
        | inl same ↦ rw (le-ltb u n high, lt-ltb u (n + 1) (omega (arith, same)), eq-eqb u n same, inside) (and_on (nat_le from t))
        | inr apart ↦ rw (le-ltb u n high, le-ltb u (n + 1) (omega (arith, high, apart)), ne_eqb u n apart) refl
      ]
    ]

pub slots_more : (a b c : Frontier) (n from slots : ℕ) → slots_in a ≡ slots → Activates a b (λ u t. nat_lt u n && nat_le from t) → Activates b c (in_slots n from slots) → Activates a c (λ u t. nat_lt u (n + 1) && nat_le from t)
slots_more a b c n from slots same first next =
    act_as a c (λ u t. (nat_lt u n && nat_le from t) || in_slots n from slots u t) (λ u t. nat_lt u (n + 1) && nat_le from t)
    (act_both a b c (λ u t. nat_lt u n && nat_le from t) (in_slots n from slots) first next)
    (λ u t x y. node_more u t n from slots (omega (arith, y, same)))

pub slots_all : (a b : Frontier) (n from : ℕ) → nodes_in a ≤ n → Activates a b (λ u t. nat_lt u n && nat_le from t) → Activates a b (λ u t. nat_le from t)
slots_all a b n from all acts = act_as a b (λ u t. nat_lt u n && nat_le from t) (λ u t. nat_le from t) acts (λ u t x y. ap (λ z. z && nat_le from t) (lt-ltb u n (omega (arith, x, all))))

pub slots_none : (f : Frontier) (from : ℕ) → Activates f f (λ u t. nat_lt u 0 && nat_le from t)
slots_none f from = act_no f (λ u t. nat_lt u 0 && nat_le from t) (λ u t x y. ap (λ z. z && nat_le from t) (le-ltb u 0 (omega arith)))
