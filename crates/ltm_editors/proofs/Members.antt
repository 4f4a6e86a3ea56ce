-- Views of a list, numbers in a list, and how many seats live after a change of one view.
use Rattle.std.proofs.Common.{◌≡◌, ◌⊎◌, ℕ, zero, suc, ◌+◌, ◌<◌, ◌≤◌, Bool, true, false, List, [], ◌∷◌, ◌++◌, set, length, refl, sym, ap, ◌∙◌, inl, inr, ⊎_elim, arith}
use Rattle.std.specs.List.{Contains}
use mathlib.Core.Option.{some, some-injective, some-ne-none}
use lib.ListN.{get_elem?}
use Rattle.atomic_table.proofs.Lists.{set_here}
use Rattle.ltm_editors.specs.declared.view.View.{View}
use Rattle.ltm_editors.specs.Rule.{one_if, living}

pub clash : {P : Type 0} → true ≡ false → P
clash e = absurd (cc)

pub not_true : (b : Bool) → ¬ (b ≡ true) → b ≡ false
not_true true n = absurd (n refl)
not_true false n = refl

pub not_false : (b : Bool) → ¬ (b ≡ false) → b ≡ true
not_false true n = refl
not_false false n = absurd (n refl)

pub only_one : (m n : ℕ) → Contains (m ∷ []) n → m ≡ n
only_one m n (zero, lt, e) = e
only_one m n (suc k, lt, e) = absurd (omega arith)

pub in_one : (m : ℕ) → Contains (m ∷ []) m
in_one m = (0, (omega arith), refl)

module _ {O E : Type 0} where
  inside : (xs : List (View O E)) (i : ℕ) (v : View O E) → get_elem? xs i ≡ some v → i < length xs
  inside [] i v e = absurd (some-ne-none v (sym e))
  inside (x ∷ xs) zero v e = omega arith
  inside (x ∷ xs) (suc i) v e = let h = inside xs i v e in omega arith

  pub at_new : (xs : List (View O E)) (i : ℕ) (v w : View O E) → get_elem? xs i ≡ some v → get_elem? (set xs i w) i ≡ some w
  at_new xs i v w e = set_here xs i w (inside xs i v e)

  pub one_view : (xs : List (View O E)) (i j : ℕ) (u v : View O E) → get_elem? xs i ≡ some u → get_elem? xs j ≡ some v → i ≡ j → u ≡ v
  one_view xs i j u v at at' e = some-injective u v (sym at ∙ (ap (λ (k : ℕ). get_elem? xs k) e ∙ at'))

  pub at_end : (xs : List (View O E)) (a : View O E) (j : ℕ) (b : View O E) → get_elem? (xs ++ a ∷ []) j ≡ some b → (get_elem? xs j ≡ some b) ⊎ ((j ≡ length xs) × (a ≡ b))
  at_end [] a zero b e = inr (refl, some-injective a b e)
  at_end [] a (suc j) b e = absurd (some-ne-none b (sym e))
  at_end (x ∷ xs) a zero b e = inl e
  at_end (x ∷ xs) a (suc j) b e = ⊎_elim (λ p. inl p) (λ p. inr (ap suc p.0, p.1)) (at_end xs a j b e)

  pub living_set : (vs : List (View O E)) (i : ℕ) (v w : View O E) → get_elem? vs i ≡ some v → living (set vs i w) + one_if v.live ≡ living vs + one_if w.live
  living_set [] i v w at = absurd (some-ne-none v (sym at))
  living_set (x ∷ xs) zero v w at = let e : one_if x.live ≡ one_if v.live = ap (λ (z : View O E). one_if z.live) (some-injective x v at) in omega arith
  living_set (x ∷ xs) (suc i) v w at = let e = living_set xs i v w at in omega arith

  pub living_snoc : (vs : List (View O E)) (w : View O E) → living (vs ++ w ∷ []) ≡ living vs + one_if w.live
  living_snoc [] w = omega arith
  living_snoc (x ∷ xs) w = let e = living_snoc xs w in omega arith

  living_at : (vs : List (View O E)) (i : ℕ) (v : View O E) → get_elem? vs i ≡ some v → v.live ≡ true → 1 ≤ living vs
  living_at [] i v at live = absurd (some-ne-none v (sym at))
  living_at (x ∷ xs) zero v at live = let e : one_if x.live ≡ 1 = ap (λ (z : View O E). one_if z.live) (some-injective x v at) ∙ ap one_if live in omega arith
  living_at (x ∷ xs) (suc i) v at live = let e = living_at xs i v at live in omega arith

  pub two_live : (vs : List (View O E)) (i j : ℕ) (v w : View O E) → get_elem? vs i ≡ some v → get_elem? vs j ≡ some w → ¬ (j ≡ i) → v.live ≡ true → w.live ≡ true → 2 ≤ living vs
  two_live [] i j v w at at' ne l l' = absurd (some-ne-none v (sym at))
  two_live (x ∷ xs) zero zero v w at at' ne l l' = absurd (ne refl)
  two_live (x ∷ xs) zero (suc j) v w at at' ne l l' = let e : one_if x.live ≡ 1 = ap (λ (z : View O E). one_if z.live) (some-injective x v at) ∙ ap one_if l in let h = living_at xs j w at' l' in omega arith
  two_live (x ∷ xs) (suc i) zero v w at at' ne l l' = let e : one_if x.live ≡ 1 = ap (λ (z : View O E). one_if z.live) (some-injective x w at') ∙ ap one_if l' in let h = living_at xs i v at l in omega arith
  two_live (x ∷ xs) (suc i) (suc j) v w at at' ne l l' = let h = two_live xs i j v w at at' (λ e. ne (ap suc e)) l l' in omega arith
