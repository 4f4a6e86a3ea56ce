-- The arms of a node are its in-links and, where it has an out-link, its origin.
use Rattle.std.proofs.Common.{◌≡◌, ℕ, ◌<◌, ◌≤◌, inl, inr, arith, sym, subst}
use Rattle.std.proofs.lemmas.Bool.{cases_lt}
use Rattle.std.proofs.lemmas.Bool.Decides.{nat_tests}
use Rattle.std.proofs.lemmas.Grind.{common_steps}
use Rattle.ltm_loading.specs.Setting.{Setting}
use Rattle.ltm_loading.specs.Groups.{dep_of}
use Rattle.ltm_loading.specs.Pairs.{arms_of, arm_group}

origin_arm : (s : Setting) (u i : ℕ) → s.ins u ≤ i → i < arms_of s u → i ≡ s.ins u
origin_arm s u i l m = grind (arith, common_steps)

some_out : (s : Setting) (u i : ℕ) → s.ins u ≤ i → i < arms_of s u → 0 < s.outs u
some_out s u i l m = grind (arith, common_steps)

origin_group : (s : Setting) (u i : ℕ) → s.ins u ≤ i → arm_group s u i ≡ dep_of s u
origin_group s u i l = grind (arith, nat_tests)

-- what holds of each in-link and of the origin holds of each arm
pub all_arms : (s : Setting) (u : ℕ) (P : ℕ → ℕ → Type 0) → ((i : ℕ) → i < s.ins u → P i (arm_group s u i)) → (0 < s.outs u → P (s.ins u) (dep_of s u)) → (i : ℕ) → i < arms_of s u → P i (arm_group s u i)
all_arms s u P links origin i l = elim (cases_lt i (s.ins u)) [
  | inl less ↦ links i less
  | inr ge ↦
      subst (λ (g : ℕ). P i g) (sym (origin_group s u i ge))
      (subst (λ (a : ℕ). P a (dep_of s u)) (sym (origin_arm s u i ge l)) (origin (some_out s u i ge l)))
]
