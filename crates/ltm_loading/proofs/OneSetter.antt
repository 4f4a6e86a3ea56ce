-- Each count is set by the pairs of one node, or by none.
use Rattle.std.proofs.Common.{◌≡◌, ℕ, ◌<◌, arith, inl, inr, ap, sym, ◌∙◌}
use Rattle.std.specs.Prelude.{◌⊎◌}
use Rattle.std.proofs.lemmas.Bool.{cases_lt}
use Rattle.ltm_loading.specs.Setting.{Setting, IsSetting}
use Rattle.ltm_loading.specs.Groups.{up_of, dep_of}
use Rattle.ltm_loading.specs.NextPair.{IsOf}
use Rattle.ltm_loading.specs.Reads.{SetByOnePair}
use Rattle.ltm_loading.proofs.GroupKinds.{Kind, is_up, is_down, is_dep, is_arr, kind_of}
use Rattle.ltm_loading.proofs.Pairs.{link_group, origin_group}
use Rattle.ltm_loading.proofs.Setters.{set_by, of_group}

one_setter : (s : Setting) (u v g d : ℕ) → IsSetting s → u < s.nodes → v < s.nodes → IsOf s u g d → IsOf s v g d → u ≡ v
one_setter s u v g d is x y first second = sym (set_by s u g d is x first) ∙ set_by s v g d is y second

setter_of : (s : Setting) (g d : ℕ) → IsSetting s → d < s.destinations → Kind s g →
    ((u : ℕ) × (u < s.nodes) × IsOf s u g d) ⊎ ((u : ℕ) × (u < s.nodes) × (s.outs u ≡ 0) × (dep_of s u ≡ g))
setter_of s g d v m (is_up l x e) =
    inl (s.tail l, v.network.tail_is_node l x, inr (inl (s.out_place l, v.network.out_place_below l x, ap up_of (v.network.out_link_at l x) ∙ e)))
setter_of s g d v m (is_down l x e) =
    inl (s.head l, v.network.head_is_node l x, inl (s.in_place l, omega (arith, v.network.in_place_below l x), link_group s l v.network x ∙ e))
setter_of s g d v m (is_dep u x e) =
    elim (cases_lt 0 (s.outs u)) [
      | inl some ↦ inl (u, x, inl (s.ins u, omega arith, origin_group s u ∙ e))
      | inr none ↦ inr (u, x, omega arith, e)
    ]
setter_of s g d v m (is_arr e) = inl (s.place d, v.network.place_is_node d m, inr (inr (e, v.network.own_at d m)))

pub set_by_one_pair_holds : SetByOnePair
set_by_one_pair_holds = record { within = of_group; one = one_setter; some = λ s g d v x m. setter_of s g d v m (kind_of s g x) }
