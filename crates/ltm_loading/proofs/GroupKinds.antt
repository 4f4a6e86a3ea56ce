-- The kinds of groups.
use Rattle.std.proofs.Common.{◌≡◌, ℕ, ◌+◌, ◌-◌, ◌*◌, ◌/◌, ◌%◌, ◌<◌, arith, inl, inr}
use Rattle.std.proofs.lemmas.Bool.{cases_lt, cases_eq}
use Rattle.ltm_loading.specs.Setting.{Setting}
use Rattle.ltm_loading.specs.Groups.{up_of, down_of, dep_of, arr_of, groups}

-- what kind a group is
pub data Kind (s : Setting) (g : ℕ) : Type 0 where
  is_up : (l : ℕ) → l < s.links → up_of l ≡ g → Kind s g
  is_down : (l : ℕ) → l < s.links → down_of l ≡ g → Kind s g
  is_dep : (u : ℕ) → u < s.nodes → dep_of s u ≡ g → Kind s g
  is_arr : arr_of s ≡ g → Kind s g

pub kind_of : (s : Setting) (g : ℕ) → g < groups s → Kind s g
kind_of s g h =
    elim (cases_lt g (2 * s.links)) [
      | inl link ↦
          let half : 2 * (g / 2) + g % 2 ≡ g = omega arith in
          elim (cases_eq (g % 2) 0) [ inl even ↦ is_up (g / 2) (omega arith) (omega arith) | inr odd ↦ is_down (g / 2) (omega arith) (omega arith) ]
      | inr later ↦ elim (cases_lt g (2 * s.links + s.nodes)) [
        | inl node ↦ is_dep (g - 2 * s.links) (omega arith) (omega arith)
        | inr last ↦ is_arr (omega arith)
      ]
    ]
