-- What wakes, arm after arm.
use Rattle.std.proofs.Common.{◌≡◌, ℕ, ◌+◌, ◌<◌, ◌==◌, ◌&&◌, ◌||◌, not, Bool, false, refl, ap, sym, ◌∙◌, arith, inl, inr}
use Rattle.std.proofs.lemmas.Bool.{cases_lt, lt-ltb, le-ltb}
use Rattle.ltm_curve.specs.Counts.{Counts}
use Rattle.ltm_curve.specs.declared.changed.Changed.{Changed}
use Rattle.ltm_node.specs.Outputs.{Outputs, arrived_after}
use Rattle.ltm_loading.specs.Setting.{Setting}
use Rattle.ltm_loading.specs.Groups.{down_of, dep_of, arr_of}
use Rattle.ltm_loading.specs.Pairs.{arms_of, arm_group}
use Rattle.ltm_frontier.specs.declared.frontier.Frontier.{Frontier}
use Rattle.ltm_frontier.specs.Frontier.{Activates, is_pair}
use Rattle.ltm_pairs.specs.Changes.{some_below}
use Rattle.ltm_working.specs.Waking.{row_differs, arm_differs, out_differs, sink_differs, any_differs, PutsCells, changes_arms, changes_outs, changes}
use Rattle.ltm_working.proofs.Bools.{same_below, one_more, or_false, or_three}
use Rattle.ltm_working.proofs.Noting.{puts_next, puts_as, puts_both}
use Rattle.ltm_working.proofs.Activating.{act_next}

pub row_same : (m : ℕ) (c : Counts) (g h k : ℕ) (f r : ℕ → ℕ) → g ≡ h → ((d : ℕ) → d < m → f d ≡ r d) → row_differs m c g k f ≡ row_differs m c h k r
row_same m c g h k f r e same =
    ap (λ (z : ℕ). row_differs m c z k f) e
    ∙ same_below m (λ d. not (c h d k == f d)) (λ d. not (c h d k == r d)) (λ d l. ap (λ (z : ℕ). not (c h d k == z)) (same d l))

pub arm_in : (s : Setting) (u n : ℕ) → n < s.ins u → arm_group s u n ≡ down_of (s.in_link u n)
arm_in s u n l = rw (lt-ltb n (s.ins u) l) refl

pub arm_origin : (s : Setting) (u : ℕ) → arm_group s u (s.ins u) ≡ dep_of s u
arm_origin s u = rw (le-ltb (s.ins u) (s.ins u) (omega arith)) refl

-- ---- a place more
pub value_more : (n : ℕ) (f : ℕ → Bool) (any last : Bool) → last ≡ f n → any ≡ some_below n f → (any || last) ≡ some_below (n + 1) f
value_more n f any last is before = ap (λ z. z || last) before ∙ (ap (λ z. some_below n f || z) is ∙ sym (one_more n f))

pub cells_more : (n : ℕ) (f : ℕ → Bool) (group : ℕ → ℕ) (k g : ℕ) (last : Bool) (x y z : Changed) → last ≡ f n → g ≡ group n →
    PutsCells x y (λ h b. some_below n (λ i. f i && is_pair (group i) k h b)) → PutsCells y z (λ h b. last && is_pair g k h b) → PutsCells x z (λ h b. some_below (n + 1) (λ i. f i && is_pair (group i) k h b))
cells_more n f group k g last x y z is at first next =
    puts_next x y z n (λ h b i. f i && is_pair (group i) k h b) (λ h b. last && is_pair g k h b) first next
    (λ h b. ap (λ t. t && is_pair g k h b) is ∙ ap (λ (t : ℕ). f n && is_pair t k h b) at)

pub wakes_more : (n : ℕ) (f : ℕ → Bool) (wake : ℕ → ℕ → ℕ → Bool) (here : ℕ → ℕ → Bool) (last : Bool) (x y z : Frontier) → last ≡ f n → ((w v : ℕ) → here w v ≡ wake n w v) →
    Activates x y (λ w v. some_below n (λ i. f i && wake i w v)) → Activates y z (λ w v. last && here w v) → Activates x z (λ w v. some_below (n + 1) (λ i. f i && wake i w v))
wakes_more n f wake here last x y z is at first next =
    act_next x y z n (λ w v i. f i && wake i w v) (λ w v. last && here w v) first next (λ w v. ap (λ t. t && here w v) is ∙ ap (λ t. f n && t) (at w v))

-- ---- all of them
-- the origin is the last arm of a node with out-links
pub record IsOrigin (s : Setting) (c : Counts) (u k : ℕ) (o : Outputs) (is_new : Bool) : Type 0 where
  pub origin : 0 < s.outs u → is_new ≡ arm_differs s c u k o (s.ins u)
  pub none : s.outs u ≡ 0 → is_new ≡ false

pub origin_value : (s : Setting) (c : Counts) (u k : ℕ) (o : Outputs) (is_new : Bool) → IsOrigin s c u k o is_new →
    (some_below (s.ins u) (arm_differs s c u k o) || is_new) ≡ some_below (arms_of s u) (arm_differs s c u k o)
origin_value s c u k o is_new is = elim (cases_lt 0 (s.outs u)) [
  | inl some ↦
      let arms : s.ins u + 1 ≡ arms_of s u = omega arith in
      ap (λ z. some_below (s.ins u) (arm_differs s c u k o) || z) (is.origin some) ∙ (sym (one_more (s.ins u) (arm_differs s c u k o)) ∙ ap (λ (z : ℕ). some_below z (arm_differs s c u k o)) arms)
  | inr few ↦
      let arms : s.ins u ≡ arms_of s u = omega arith in
      ap (λ z. some_below (s.ins u) (arm_differs s c u k o) || z) (is.none (omega arith)) ∙ (or_false (some_below (s.ins u) (arm_differs s c u k o)) ∙ ap (λ (z : ℕ). some_below z (arm_differs s c u k o)) arms)
]

origin_test : (s : Setting) (c : Counts) (u k : ℕ) (o : Outputs) (is_new : Bool) (g b : ℕ) → IsOrigin s c u k o is_new →
    (changes_arms s c u k o (s.ins u) g b || (is_new && is_pair (dep_of s u) k g b)) ≡ changes_arms s c u k o (arms_of s u) g b
origin_test s c u k o is_new g b is =
    let F : ℕ → Bool = λ i. arm_differs s c u k o i && is_pair (arm_group s u i) k g b in
    elim (cases_lt 0 (s.outs u)) [
      | inl some ↦
          let arms : s.ins u + 1 ≡ arms_of s u = omega arith in
          let last : (is_new && is_pair (dep_of s u) k g b) ≡ F (s.ins u) =
          ap (λ z. z && is_pair (dep_of s u) k g b) (is.origin some) ∙ ap (λ (z : ℕ). arm_differs s c u k o (s.ins u) && is_pair z k g b) (sym (arm_origin s u)) in
          ap (λ z. some_below (s.ins u) F || z) last ∙ (sym (one_more (s.ins u) F) ∙ ap (λ (z : ℕ). some_below z F) arms)
      | inr few ↦
          let arms : s.ins u ≡ arms_of s u = omega arith in
          ap (λ z. some_below (s.ins u) F || (z && is_pair (dep_of s u) k g b)) (is.none (omega arith)) ∙ (or_false (some_below (s.ins u) F) ∙ ap (λ (z : ℕ). some_below z F) arms)
    ]

pub all_cells : (s : Setting) (c : Counts) (u k : ℕ) (o : Outputs) (origin sink : Bool) (x y z p q : Changed) → IsOrigin s c u k o origin → sink ≡ sink_differs s c (s.own u) k (arrived_after o) →
    PutsCells x y (changes_arms s c u k o (s.ins u)) → PutsCells y z (λ g b. origin && is_pair (dep_of s u) k g b) → PutsCells z p (changes_outs s c u k o (s.outs u)) →
    PutsCells p q (λ g b. sink && is_pair (arr_of s) k g b) → PutsCells x q (changes s c u k o)
all_cells s c u k o origin sink x y z p q is_origin is_sink tails first heads last =
    let arms : PutsCells x z (changes_arms s c u k o (arms_of s u)) =
    puts_as x z (λ g b. changes_arms s c u k o (s.ins u) g b || (origin && is_pair (dep_of s u) k g b)) (changes_arms s c u k o (arms_of s u))
    (puts_both x y z (changes_arms s c u k o (s.ins u)) (λ g b. origin && is_pair (dep_of s u) k g b) tails first) (λ g b. origin_test s c u k o origin g b is_origin) in
    let more : PutsCells x p (λ g b. changes_arms s c u k o (arms_of s u) g b || changes_outs s c u k o (s.outs u) g b) =
    puts_both x z p (changes_arms s c u k o (arms_of s u)) (changes_outs s c u k o (s.outs u)) arms heads in
    puts_as x q (λ g b. (changes_arms s c u k o (arms_of s u) g b || changes_outs s c u k o (s.outs u) g b) || (sink && is_pair (arr_of s) k g b)) (changes s c u k o)
    (puts_both x p q (λ g b. changes_arms s c u k o (arms_of s u) g b || changes_outs s c u k o (s.outs u) g b) (λ g b. sink && is_pair (arr_of s) k g b) more last)
    (λ g b. or_three (changes_arms s c u k o (arms_of s u) g b) (changes_outs s c u k o (s.outs u) g b) (sink && is_pair (arr_of s) k g b)
    ∙ ap (λ t. changes_arms s c u k o (arms_of s u) g b || (changes_outs s c u k o (s.outs u) g b || (t && is_pair (arr_of s) k g b))) is_sink)

pub all_value : (s : Setting) (c : Counts) (u k : ℕ) (o : Outputs) (tails origin heads sink : Bool) → tails ≡ some_below (s.ins u) (arm_differs s c u k o) → IsOrigin s c u k o origin →
    heads ≡ some_below (s.outs u) (out_differs s c u k o) → sink ≡ sink_differs s c (s.own u) k (arrived_after o) → ((tails || origin) || (heads || sink)) ≡ any_differs s c u k o
all_value s c u k o tails origin heads sink t is h e =
    ap (λ z. (z || origin) || (heads || sink)) t
    ∙ (ap (λ z. z || (heads || sink)) (origin_value s c u k o origin is)
    ∙ (ap (λ z. some_below (arms_of s u) (arm_differs s c u k o) || (z || sink)) h
    ∙ ap (λ z. some_below (arms_of s u) (arm_differs s c u k o) || (some_below (s.outs u) (out_differs s c u k o) || z)) e))
