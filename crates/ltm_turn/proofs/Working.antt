-- How many views work, after a change of one view.
use Rattle.std.proofs.Common.{◌≡◌, ℕ, zero, suc, ◌+◌, ◌≤◌, List, [], ◌∷◌, ◌++◌, set, sym, ap, arith}
use mathlib.Core.Option.{some, some-injective, some-ne-none}
use lib.ListN.{get_elem?}
use Rattle.ltm_turn.specs.declared.view.View.{View}
use Rattle.ltm_turn.specs.Rule.{one_if, working}

module _ {E : Type 0} where
  pub working_set : (vs : List (View E)) (i : ℕ) (v w : View E) → get_elem? vs i ≡ some v → working (set vs i w) + one_if v.works ≡ working vs + one_if w.works
  working_set [] i v w at = absurd (some-ne-none v (sym at))
  working_set (x ∷ xs) zero v w at = let e : one_if x.works ≡ one_if v.works = ap (λ (z : View E). one_if z.works) (some-injective x v at) in omega arith
  working_set (x ∷ xs) (suc i) v w at = let e = working_set xs i v w at in omega arith

  pub working_snoc : (vs : List (View E)) (w : View E) → working (vs ++ w ∷ []) ≡ working vs + one_if w.works
  working_snoc [] w = omega arith
  working_snoc (x ∷ xs) w = let e = working_snoc xs w in omega arith

  pub working_at : (vs : List (View E)) (i : ℕ) (v : View E) → get_elem? vs i ≡ some v → one_if v.works ≤ working vs
  working_at [] i v at = absurd (some-ne-none v (sym at))
  working_at (x ∷ xs) zero v at = let e : one_if x.works ≡ one_if v.works = ap (λ (z : View E). one_if z.works) (some-injective x v at) in omega arith
  working_at (x ∷ xs) (suc i) v at = let e = working_at xs i v at in omega arith
