-- The reaches of all that depends on a pair.
use Rattle.std.proofs.Common.{◌≡◌, ℕ, ◌+◌, ◌<◌, ◌≤◌, ◌==◌, ◌&&◌, ◌||◌, nat_le, min, Bool, true, false, All, List, [], ◌∷◌, ◌++◌, arith, inl, inr, refl, ◌∙◌}
use Rattle.std.proofs.lemmas.Bool.{cases_lt}
use Rattle.std.proofs.lemmas.Bool.Decides.{nat_tests}
use Rattle.std.proofs.lemmas.List.Folds.{list_any_none}
use Rattle.ltm_units.specs.declared.places.Reach.{Reach}
use Rattle.ltm_loading.specs.Setting.{Setting}
use Rattle.ltm_pairs.specs.declared.arm_set.ArmSet.{ArmSet}
use Rattle.ltm_pairs.specs.Reaches.{SpreadData, no_spread, reach, lies_in, lies_in_one}
use Rattle.ltm_pairs.specs.Adding.{IsFrom, Adds}
use Rattle.ltm_pairs.specs.Dependents.{depends_on_left, depends_on_entered, depends}
use Rattle.ltm_pairs.proofs.Adding.{adds_one, adds_both}

-- no pair before the boundary lies in reaches from it on
too_early : (s : Setting) (k w v : ℕ) (r : Reach) → IsFrom s k r → v < k → lies_in w v r ≡ false
too_early s k w v r from low = let l : v < r.from = omega (from.later, low, arith) in grind (l, arith, nat_tests)

not_before : (s : Setting) (k w v : ℕ) (rs : List Reach) → All (IsFrom s k) rs → v < k → lies_in_one rs w v ≡ false
not_before s k w v rs all low = list_any_none (lies_in w v) rs (λ i d l. too_early s k w v _ (all i d l) low)

own_slot : (u k slots w v : ℕ) → v < slots → lies_in w v (reach u k (min (k + 1) slots)) ≡ (w == u) && (v == k)
own_slot u k slots w v l = grind (arith, nat_tests)

in_turn : (k v : ℕ) (a b c : Bool) → k ≤ v → (a || b) || (nat_le k v && c) ≡ nat_le k v && (a || (b || c))
in_turn k v true b c l = grind (arith, nat_tests)
in_turn k v false true c l = grind (arith, nat_tests)
in_turn k v false false c l = refl

none_early : (k v : ℕ) (b : Bool) → v < k → false ≡ nat_le k v && b
none_early k v b l = grind (arith, nat_tests)

-- the own slot, then the tails, then the heads: together what depends on the pair
pub all_together : (s : Setting) (u k : ℕ) (changed : ArmSet) (a b c : SpreadData) (w v : ℕ) → u < s.nodes → a ≡ record no_spread { reaches = [] ++ reach u k (min (k + 1) s.slots) ∷ [] } →
    Adds s k 4 a b (depends_on_left s u k changed.arms (s.ins u)) → Adds s k 4 b c (λ w v. nat_le k v && depends_on_entered s u changed.outs (s.outs u) w) → v < s.slots →
    lies_in_one c.reaches w v ≡ depends s u k changed w v
all_together s u k changed a b c w v node is tails heads l =
    let own : Adds s k 1 no_spread a (λ w v. (w == u) && (v == k)) =
    adds_one s k no_spread a (reach u k (min (k + 1) s.slots)) (λ w v. (w == u) && (v == k)) is (record { node = node; later = omega arith; within = omega arith }) (λ w v x. own_slot u k s.slots w v x) in
    let first : Adds s k 5 no_spread b _ = adds_both s k 1 4 no_spread a b (λ w v. (w == u) && (v == k)) (depends_on_left s u k changed.arms (s.ins u)) own tails in
    let all : Adds s k 9 no_spread c _ = adds_both s k 5 4 no_spread b c _ (λ w v. nat_le k v && depends_on_entered s u changed.outs (s.outs u) w) first heads in
    elim (cases_lt v k) [
      | inl low ↦ not_before s k w v c.reaches (all.from (λ i d x. absurd (omega arith))) low ∙ none_early k v _ low
      | inr high ↦
          all.each w v l
          ∙ in_turn k v ((w == u) && (v == k)) (depends_on_left s u k changed.arms (s.ins u) w v) (depends_on_entered s u changed.outs (s.outs u) w) high
    ]
