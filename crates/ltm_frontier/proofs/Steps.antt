-- Pairs made active one after another, and claims.
use Rattle.std.proofs.Common.{◌≡◌, ℕ, ◌+◌, ◌≤◌, ◌==◌, ◌&&◌, ◌||◌, not, nat_le, nat_lt, Bool, true, false, refl, ap, sym, ◌∙◌, arith, inl, inr, ◌⊎◌}
use Rattle.std.proofs.lemmas.Bool.{cases_eq, cases_lt, lt-ltb, le-ltb, le-leb, lt-leb, eq-eqb, ne_eqb}
use Rattle.ltm_frontier.specs.declared.frontier.Frontier.{Frontier}
use Rattle.ltm_frontier.specs.Frontier.{is_active, is_claimed, is_pair, in_slots, SameClaims, Activates}

or_false : (b : Bool) → b ≡ (b || false)
or_false true = refl
or_false false = refl

twice : (x p q n : Bool) → ((x || (p && n)) || (q && n)) ≡ (x || ((p || q) && n))
twice true p q n = refl
twice false true true true = refl
twice false true true false = refl
twice false true false true = refl
twice false true false false = refl
twice false false q n = refl

and_none : (a : Bool) → (a && false) ≡ false
and_none true = refl
and_none false = refl

both_none : (a b : Bool) → (a && (b && false)) ≡ false
both_none true true = refl
both_none true false = refl
both_none false b = refl

slots_next : (from k v : ℕ) → from ≤ k → ((nat_le from v && nat_lt v k) || (v == k)) ≡ (nat_le from v && nat_lt v (k + 1))
slots_next from k v l = elim (cases_lt v k) [
  | inl low ↦ rw (lt-ltb v k low, lt-ltb v (k + 1) (omega (arith, low)), ne_eqb v k (λ e. omega (arith, low, e))) (sym (or_false (nat_le from v && true)))
  | inr high ↦ elim (cases_eq v k) [
    | inl same ↦ rw (eq-eqb v k same, le-leb from v (omega (arith, l, same)), lt-ltb v (k + 1) (omega (arith, same)), le-ltb v k high) refl
    | inr other ↦ rw (ne_eqb v k other, le-ltb v k high, le-ltb v (k + 1) (omega (arith, high, other))) (sym (or_false (nat_le from v && false)))
  ]
]

-- one slot more
next_slot : (u from k w v : ℕ) → from ≤ k → (in_slots u from k w v || is_pair u k w v) ≡ in_slots u from (k + 1) w v
next_slot u from k w v l =
    elim (cases_eq w u) [
      | inl here ↦ rw (eq-eqb w u here) (slots_next from k v l)
      | inr apart ↦ rw (ne_eqb w u apart) refl
    ]

none_yet : (u from w v : ℕ) → in_slots u from from w v ≡ false
none_yet u from w v = elim (cases_lt v from) [
  | inl low ↦ rw (lt-leb from v low) (and_none (w == u))
  | inr high ↦ rw (le-ltb v from high) (both_none (w == u) (nat_le from v))
]

-- past the end there are none more
ended : (u from k to w v : ℕ) → to ≤ k → (k ≡ to) ⊎ (k ≡ from) → in_slots u from k w v ≡ in_slots u from to w v
ended u from k to w v past (inl e) = ap (λ z. in_slots u from z w v) e
ended u from k to w v past (inr e) = ap (λ z. in_slots u from z w v) e ∙ (none_yet u from w v ∙ sym (elim (cases_lt v from) [
  | inl low ↦ rw (lt-leb from v low) (and_none (w == u))
  | inr high ↦ rw (le-ltb v to (omega (arith, high, past, e))) (both_none (w == u) (nat_le from v))
]))

same_claims : (f : Frontier) → SameClaims f f
same_claims f = record { pairs = λ u t. refl; count = refl }

pub starts : (f : Frontier) (u from : ℕ) → Activates f f (in_slots u from from)
starts f u from = record {
  size = record { nodes = refl; slots = refl; room = refl };
  claims = same_claims f;
  active = λ w v x y. or_false (is_active f w v) ∙ ap (λ b. is_active f w v || (b && not (is_claimed f w v))) (sym (none_yet u from w v));
}

pub goes_on : (old mid new : Frontier) (u from k : ℕ) → from ≤ k → Activates old mid (in_slots u from k) → Activates mid new (is_pair u k) → Activates old new (in_slots u from (k + 1))
goes_on old mid new u from k l first next = record {
  size = record {
    nodes = next.size.nodes ∙ first.size.nodes;
    slots = next.size.slots ∙ first.size.slots;
    room = next.size.room ∙ first.size.room;
  };
  claims = record { pairs = λ w v. next.claims.pairs w v ∙ first.claims.pairs w v; count = next.claims.count ∙ first.claims.count };
  active = λ w v x y.
      next.active w v (omega (arith, x, first.size.nodes)) (omega (arith, y, first.size.slots))
      ∙ (ap (λ b. b || (is_pair u k w v && not (is_claimed mid w v))) (first.active w v x y)
      ∙ (ap (λ b. (is_active old w v || (in_slots u from k w v && not (is_claimed old w v))) || (is_pair u k w v && not b)) (first.claims.pairs w v)
      ∙ (twice (is_active old w v) (in_slots u from k w v) (is_pair u k w v) (not (is_claimed old w v))
      ∙ ap (λ b. is_active old w v || (b && not (is_claimed old w v))) (next_slot u from k w v l))));
}

pub finishes : (old new : Frontier) (u from k to : ℕ) → to ≤ k → (k ≡ to) ⊎ (k ≡ from) → Activates old new (in_slots u from k) → Activates old new (in_slots u from to)
finishes old new u from k to past l all = record {
  size = all.size;
  claims = all.claims;
  active = λ w v x y. all.active w v x y ∙ ap (λ b. is_active old w v || (b && not (is_claimed old w v))) (ended u from k to w v past l);
}
