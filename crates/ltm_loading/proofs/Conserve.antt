-- What left the origins has arrived or is on a link.
use Rattle.std.proofs.Common.{◌≡◌, ◌≢◌, ℕ, zero, suc, ◌+◌, ◌<◌, ◌≤◌, Option, Some, None, cond, nat_eq, arith, inl, inr, refl, ap, sym, ◌∙◌, subst}
use Rattle.std.proofs.lemmas.Bool.{cases_lt, cases_eq}
use Rattle.ltm_units.specs.Sums.{sum_below}
use Rattle.ltm_units.proofs.Sums.{sum_below-same, sum_below-change, sum_below-plus, sum_below-swap, sum_below-zero}
use Rattle.ltm_curve.specs.Counts.{Counts}
use Rattle.ltm_curve.proofs.Lists.{sum_below-minus}
use Rattle.ltm_curve.proofs.Firsts.{first_within_holds}
use Rattle.ltm_node.specs.Shape.{is_this}
use Rattle.ltm_node.specs.Inputs.{Inputs, left, entered}
use Rattle.ltm_node.specs.Outputs.{Outputs, left_after, entered_after}
use Rattle.ltm_node.specs.Laws.{arrived_for, arrived_for_after}
use Rattle.ltm_node.proofs.StepLaws.{nothing_lost_holds}
use Rattle.ltm_loading.specs.Setting.{Setting, IsNetwork, IsSetting}
use Rattle.ltm_loading.specs.Groups.{up_of, down_of, dep_of, arr_of}
use Rattle.ltm_loading.specs.Flows.{link_goal}
use Rattle.ltm_loading.specs.Pairs.{arms_of, arm_group, arrived_by, pair_inputs, pair_outputs, MeetsStep}
use Rattle.ltm_loading.specs.Loading.{IsFront}
use Rattle.ltm_loading.specs.LoadingLaws.{Conserved}
use Rattle.ltm_loading.proofs.Picks.{pick_same, pick_other, pick_first}
use Rattle.ltm_loading.proofs.Rows.{pair_parts, next_counts}
use Rattle.ltm_loading.proofs.Pairs.{origin_group}
use Rattle.ltm_loading.proofs.Front.{earlier_front, link_part, link_behind}
use Rattle.ltm_loading.proofs.Same.{arm_is_group}

-- a sum with one term above 0
pub sum_below-single : (n : ℕ) (f : ℕ → ℕ) (i : ℕ) → i < n → ((k : ℕ) → k < n → k ≢ i → f k ≡ 0) → sum_below n f ≡ f i
sum_below-single n f i l h = omega (arith, sum_below-change n f (λ k. 0) i l h, sum_below-zero n (λ k. 0) (λ k x. refl))

-- the ends of links: each link stands at one place of one node
pub record AreEnds (nodes links : ℕ) (count : ℕ → ℕ) (link_at : ℕ → ℕ → ℕ) (node place : ℕ → ℕ) : Type 0 where
  pub node_below : (l : ℕ) → l < links → node l < nodes
  pub place_below : (l : ℕ) → l < links → place l < count (node l)
  pub at_place : (l : ℕ) → l < links → link_at (node l) (place l) ≡ l
  pub is_link : (u i : ℕ) → u < nodes → i < count u → link_at u i < links
  pub node_of : (u i : ℕ) → u < nodes → i < count u → node (link_at u i) ≡ u
  pub place_of : (u i : ℕ) → u < nodes → i < count u → place (link_at u i) ≡ i

-- a link stands at no other place
gathers : (nodes links : ℕ) (count : ℕ → ℕ) (link_at : ℕ → ℕ → ℕ) (node place : ℕ → ℕ) (f : ℕ → ℕ) (l : ℕ) → AreEnds nodes links count link_at node place → l < links →
    sum_below nodes (λ u. sum_below (count u) (λ i. cond (nat_eq l (link_at u i)) (f l) 0)) ≡ f l
gathers nodes links count link_at node place f l h x =
    let row : (u : ℕ) → ℕ = λ u. sum_below (count u) (λ i. cond (nat_eq l (link_at u i)) (f l) 0) in
    let elsewhere : (u : ℕ) → u < nodes → u ≢ node l → sum_below (count u) (λ i. cond (nat_eq l (link_at u i)) (f l) 0) ≡ 0 =
    λ u y ne. sum_below-zero (count u) (λ i. cond (nat_eq l (link_at u i)) (f l) 0)
    (λ i z. pick_other l (link_at u i) (f l) (λ e. ne (sym (h.node_of u i y z) ∙ ap node (sym e)))) in
    let here : sum_below (count (node l)) (λ i. cond (nat_eq l (link_at (node l) i)) (f l) 0) ≡ cond (nat_eq l (link_at (node l) (place l))) (f l) 0 =
    sum_below-single (count (node l)) (λ i. cond (nat_eq l (link_at (node l) i)) (f l) 0) (place l) (h.place_below l x)
    (λ i z ne. pick_other l (link_at (node l) i) (f l) (λ e. ne (sym (h.place_of (node l) i (h.node_below l x) z) ∙ ap place (sym e)))) in
    sum_below-single nodes (λ u. sum_below (count u) (λ i. cond (nat_eq l (link_at u i)) (f l) 0)) (node l) (h.node_below l x) elsewhere
    ∙ (here ∙ pick_same l (link_at (node l) (place l)) (f l) (sym (h.at_place l x)))

-- the sum over all links, node by node
pub sum_by_ends : (nodes links : ℕ) (count : ℕ → ℕ) (link_at : ℕ → ℕ → ℕ) (node place : ℕ → ℕ) (f : ℕ → ℕ) → AreEnds nodes links count link_at node place →
    sum_below nodes (λ u. sum_below (count u) (λ i. f (link_at u i))) ≡ sum_below links f
sum_by_ends nodes links count link_at node place f h =
    let one : (u i l : ℕ) → ℕ = λ u i l. cond (nat_eq l (link_at u i)) (f l) 0 in
    let spread : (u i : ℕ) → u < nodes → i < count u → f (link_at u i) ≡ sum_below links (λ l. cond (nat_eq l (link_at u i)) (f l) 0) =
    λ u i x y. sym (sum_below-single links (λ l. cond (nat_eq l (link_at u i)) (f l) 0) (link_at u i) (h.is_link u i x y) (λ l z ne. pick_other l (link_at u i) (f l) ne) ∙ pick_same (link_at u i) (link_at u i) (f (link_at u i)) refl) in
    let inner : (u : ℕ) → u < nodes → sum_below (count u) (λ i. f (link_at u i)) ≡ sum_below links (λ l. sum_below (count u) (λ i. cond (nat_eq l (link_at u i)) (f l) 0)) =
    λ u x. sum_below-same (count u) (λ i. f (link_at u i)) (λ i. sum_below links (λ l. cond (nat_eq l (link_at u i)) (f l) 0)) (λ i y. spread u i x y)
    ∙ sum_below-swap (count u) links (λ i l. cond (nat_eq l (link_at u i)) (f l) 0) in
    let gathered : (l : ℕ) → l < links → sum_below nodes (λ u. sum_below (count u) (λ i. cond (nat_eq l (link_at u i)) (f l) 0)) ≡ f l = λ l x. gathers nodes links count link_at node place f l h x in
    sum_below-same nodes (λ u. sum_below (count u) (λ i. f (link_at u i))) (λ u. sum_below links (λ l. sum_below (count u) (λ i. cond (nat_eq l (link_at u i)) (f l) 0))) inner
    ∙ (sum_below-swap nodes links (λ u l. sum_below (count u) (λ i. cond (nat_eq l (link_at u i)) (f l) 0))
    ∙ sum_below-same links (λ l. sum_below nodes (λ u. sum_below (count u) (λ i. cond (nat_eq l (link_at u i)) (f l) 0))) f gathered)

-- of a destination, what arrived at a node that is the destination
abbrev pub come_to : Setting → Counts → Option ℕ → ℕ → ℕ → ℕ
come_to s c o d k = cond (is_this o d) (arrived_by s c o k) 0

-- what left by the arms of a node, and what entered its out-links
abbrev pub left_by : Setting → Counts → ℕ → ℕ → ℕ → ℕ
left_by s c d k u = sum_below (arms_of s u) (λ i. c (arm_group s u i) d k)

abbrev pub entered_by : Setting → Counts → ℕ → ℕ → ℕ → ℕ
entered_by s c d k u = sum_below (s.outs u) (λ j. c (up_of (s.out_link u j)) d k)

-- what a pair moves of a destination
pub pair_balance : (s : Setting) (c : Counts) (u t d : ℕ) → MeetsStep s c u t → d < s.destinations →
    left_by s c d (t + 1) u + (entered_by s c d t u + come_to s c (s.own u) d t) ≡ left_by s c d t u + (entered_by s c d (t + 1) u + come_to s c (s.own u) d (t + 1))
pair_balance s c u t d step m =
    let n : Inputs = pair_inputs s c u t in
    let o : Outputs = pair_outputs s c u (t + 1) in
    let lefts : sum_below (arms_of s u) (λ i. left (pair_inputs s c u t) i d) ≡ left_by s c d t u =
    sum_below-same (arms_of s u) (λ i. left (pair_inputs s c u t) i d) (λ i. c (arm_group s u i) d t) (λ i y. (pair_parts s c u t).left i d y m) in
    let lefts_after : sum_below (arms_of s u) (λ i. left_after (pair_outputs s c u (t + 1)) i d) ≡ left_by s c d (t + 1) u =
    sum_below-same (arms_of s u) (λ i. left_after (pair_outputs s c u (t + 1)) i d) (λ i. c (arm_group s u i) d (t + 1)) (λ i y. (next_counts s c u (t + 1)).left i d y m) in
    let entereds : sum_below (s.outs u) (λ j. entered (pair_inputs s c u t) j d) ≡ entered_by s c d t u =
    sum_below-same (s.outs u) (λ j. entered (pair_inputs s c u t) j d) (λ j. c (up_of (s.out_link u j)) d t) (λ j y. (pair_parts s c u t).entered j d y m) in
    let entereds_after : sum_below (s.outs u) (λ j. entered_after (pair_outputs s c u (t + 1)) j d) ≡ entered_by s c d (t + 1) u =
    sum_below-same (s.outs u) (λ j. entered_after (pair_outputs s c u (t + 1)) j d) (λ j. c (up_of (s.out_link u j)) d (t + 1)) (λ j y. (next_counts s c u (t + 1)).entered j d y m) in
    let come : arrived_for (pair_inputs s c u t) d ≡ come_to s c (s.own u) d t = ap (λ (z : ℕ). cond (is_this (s.own u) d) z 0) (pair_parts s c u t).arrived in
    let come_after : arrived_for_after (pair_inputs s c u t) (pair_outputs s c u (t + 1)) d ≡ come_to s c (s.own u) d (t + 1) = ap (λ (z : ℕ). cond (is_this (s.own u) d) z 0) (next_counts s c u (t + 1)).arrived in
    omega (arith, lefts, lefts_after, entereds, entereds_after, come, come_after, nothing_lost_holds (pair_inputs s c u t) (pair_outputs s c u (t + 1)) step d m)

come_none : (s : Setting) (c : Counts) (o : Option ℕ) (d : ℕ) → c (arr_of s) d 0 ≡ 0 → come_to s c o d 0 ≡ 0
come_none s c None d h = refl
come_none s c (Some o) d h =
    elim (cases_eq o d) [ inl same ↦ pick_same o d (c (arr_of s) o 0) same ∙ (ap (λ (z : ℕ). c (arr_of s) z 0) same ∙ h) | inr other ↦ pick_other o d (c (arr_of s) o 0) other ]

come_other : (s : Setting) (c : Counts) (o : Option ℕ) (d k : ℕ) → (o ≡ Some d → ⊥) → come_to s c o d k ≡ 0
come_other s c None d k h = refl
come_other s c (Some o) d k h = elim (cases_eq o d) [ inl same ↦ absurd (h (ap (λ (z : ℕ). Some z) same)) | inr other ↦ pick_other o d (c (arr_of s) o k) other ]

-- what left by all arms has entered a link or arrived
pub all_balance : (s : Setting) (c : Counts) (d k : ℕ) → IsSetting s → IsFront s c k → d < s.destinations →
    sum_below s.nodes (left_by s c d k) ≡ sum_below s.nodes (entered_by s c d k) + sum_below s.nodes (λ u. come_to s c (s.own u) d k)
all_balance s c d zero v f m =
    let a : sum_below s.nodes (left_by s c d 0) ≡ 0 = sum_below-zero s.nodes (left_by s c d 0) (λ u x. sum_below-zero (arms_of s u) (λ i. c (arm_group s u i) d 0) (λ i y. f.empty (arm_group s u i) d (arm_is_group s u i v x) m)) in
    let b : sum_below s.nodes (entered_by s c d 0) ≡ 0 =
    sum_below-zero s.nodes (entered_by s c d 0) (λ u x. sum_below-zero (s.outs u) (λ j. c (up_of (s.out_link u j)) d 0) (λ j y. f.empty (up_of (s.out_link u j)) d (omega (arith, v.network.out_link_is_link u j x y)) m)) in
    let e : sum_below s.nodes (λ u. come_to s c (s.own u) d 0) ≡ 0 = sum_below-zero s.nodes (λ u. come_to s c (s.own u) d 0) (λ u x. come_none s c (s.own u) d (f.empty (arr_of s) d (omega arith) m)) in omega arith
all_balance s c d (suc t) v f m =
    let e : t + 1 ≡ suc t = omega arith in
    let before : sum_below s.nodes (left_by s c d t) ≡ sum_below s.nodes (entered_by s c d t) + sum_below s.nodes (λ u. come_to s c (s.own u) d t) = all_balance s c d t v (earlier_front s c (suc t) t f (omega arith)) m in
    let each : (u : ℕ) → u < s.nodes → left_by s c d (t + 1) u + (entered_by s c d t u + come_to s c (s.own u) d t) ≡ left_by s c d t u + (entered_by s c d (t + 1) u + come_to s c (s.own u) d (t + 1)) = λ u x. pair_balance s c u t d (f.steps u t x (omega arith)) m in
    let all : sum_below s.nodes (λ u. left_by s c d (t + 1) u + (entered_by s c d t u + come_to s c (s.own u) d t)) ≡ sum_below s.nodes (λ u. left_by s c d t u + (entered_by s c d (t + 1) u + come_to s c (s.own u) d (t + 1))) =
    sum_below-same s.nodes (λ u. left_by s c d (t + 1) u + (entered_by s c d t u + come_to s c (s.own u) d t)) (λ u. left_by s c d t u + (entered_by s c d (t + 1) u + come_to s c (s.own u) d (t + 1))) each in
    subst (λ (k : ℕ). sum_below s.nodes (left_by s c d k) ≡ sum_below s.nodes (entered_by s c d k) + sum_below s.nodes (λ u. come_to s c (s.own u) d k)) e
    (omega (
      arith,
      sum_below-plus s.nodes (left_by s c d (t + 1)) (λ u. entered_by s c d t u + come_to s c (s.own u) d t),
      sum_below-plus s.nodes (entered_by s c d t) (λ u. come_to s c (s.own u) d t),
      sum_below-plus s.nodes (left_by s c d t) (λ u. entered_by s c d (t + 1) u + come_to s c (s.own u) d (t + 1)),
      sum_below-plus s.nodes (entered_by s c d (t + 1)) (λ u. come_to s c (s.own u) d (t + 1)),
    ))

-- the arms of a node are its in-links and its origin
left_by_arms : (s : Setting) (c : Counts) (d k u : ℕ) → (s.outs u ≡ 0 → c (dep_of s u) d k ≡ 0) → left_by s c d k u ≡ sum_below (s.ins u) (λ i. c (down_of (s.in_link u i)) d k) + c (dep_of s u) d k
left_by_arms s c d k u none =
    let links : sum_below (s.ins u) (λ i. c (arm_group s u i) d k) ≡ sum_below (s.ins u) (λ i. c (down_of (s.in_link u i)) d k) =
    sum_below-same (s.ins u) (λ i. c (arm_group s u i) d k) (λ i. c (down_of (s.in_link u i)) d k) (λ i l. ap (λ (z : ℕ). c z d k) (pick_first i (s.ins u) (down_of (s.in_link u i)) (dep_of s u) l)) in
    let origin : c (arm_group s u (s.ins u)) d k ≡ c (dep_of s u) d k = ap (λ (z : ℕ). c z d k) (origin_group s u) in
    elim (cases_lt 0 (s.outs u)) [
      | inl some ↦
          let e : arms_of s u ≡ suc (s.ins u) = omega arith in
          let count : left_by s c d k u ≡ sum_below (suc (s.ins u)) (λ i. c (arm_group s u i) d k) = ap (λ (z : ℕ). sum_below z (λ i. c (arm_group s u i) d k)) e in omega arith
      | inr no_out ↦
          let e : arms_of s u ≡ s.ins u = omega arith in
          let count : left_by s c d k u ≡ sum_below (s.ins u) (λ i. c (arm_group s u i) d k) = ap (λ (z : ℕ). sum_below z (λ i. c (arm_group s u i) d k)) e in omega (arith, none (omega arith))
    ]

pub in_ends : (s : Setting) → IsNetwork s → AreEnds s.nodes s.links s.ins s.in_link s.head s.in_place
in_ends s n = record { node_below = n.head_is_node; place_below = n.in_place_below; at_place = n.in_link_at; is_link = n.in_link_is_link; node_of = n.in_link_ends; place_of = n.in_place_of }

pub out_ends : (s : Setting) → IsNetwork s → AreEnds s.nodes s.links s.outs s.out_link s.tail s.out_place
out_ends s n = record { node_below = n.tail_is_node; place_below = n.out_place_below; at_place = n.out_link_at; is_link = n.out_link_is_link; node_of = n.out_link_starts; place_of = n.out_place_of }

-- a destination is one node
come_all : (s : Setting) (c : Counts) (d k : ℕ) → IsNetwork s → d < s.destinations → sum_below s.nodes (λ u. come_to s c (s.own u) d k) ≡ c (arr_of s) d k
come_all s c d k n m =
    let other : (u : ℕ) → u < s.nodes → u ≢ s.place d → come_to s c (s.own u) d k ≡ 0 = λ u x ne. come_other s c (s.own u) d k (λ e. ne (sym (n.own_place u d x e))) in
    sum_below-single s.nodes (λ u. come_to s c (s.own u) d k) (s.place d) (n.place_is_node d m) other
    ∙ (ap (λ (o : Option ℕ). come_to s c o d k) (n.own_at d m) ∙ pick_same d d (c (arr_of s) d k) refl)

pub conserved_holds : Conserved
conserved_holds s c v f d k m y =
    let now : IsFront s c k = earlier_front s c s.slots k f.front y in
    let n : IsNetwork s = v.network in
    let arms : sum_below s.nodes (left_by s c d k) ≡ sum_below s.nodes (λ u. sum_below (s.ins u) (λ i. c (down_of (s.in_link u i)) d k) + c (dep_of s u) d k) =
    sum_below-same s.nodes (left_by s c d k) (λ u. sum_below (s.ins u) (λ i. c (down_of (s.in_link u i)) d k) + c (dep_of s u) d k) (λ u x. left_by_arms s c d k u (λ none. f.no_origin u d k x none m y)) in
    let apart : sum_below s.nodes (λ u. sum_below (s.ins u) (λ i. c (down_of (s.in_link u i)) d k) + c (dep_of s u) d k) ≡ sum_below s.nodes (λ u. sum_below (s.ins u) (λ i. c (down_of (s.in_link u i)) d k)) + sum_below s.nodes (λ u. c (dep_of s u) d k) =
    sum_below-plus s.nodes (λ u. sum_below (s.ins u) (λ i. c (down_of (s.in_link u i)) d k)) (λ u. c (dep_of s u) d k) in
    let downs : sum_below s.nodes (λ u. sum_below (s.ins u) (λ i. c (down_of (s.in_link u i)) d k)) ≡ sum_below s.links (λ l. c (down_of l) d k) =
    sum_by_ends s.nodes s.links s.ins s.in_link s.head s.in_place (λ l. c (down_of l) d k) (in_ends s n) in
    let ups : sum_below s.nodes (entered_by s c d k) ≡ sum_below s.links (λ l. c (up_of l) d k) = sum_by_ends s.nodes s.links s.outs s.out_link s.tail s.out_place (λ l. c (up_of l) d k) (out_ends s n) in
    let lower : (l : ℕ) → l < s.links → c (down_of l) d k ≤ c (up_of l) d k = λ l x. omega (arith, link_behind s c k l d v now x m, first_within_holds s.destinations (c (up_of l)) (link_goal s c l k) k (link_part s c k l v now x) d m) in
    omega (arith, all_balance s c d k v now m, come_all s c d k n m, sum_below-minus s.links (λ l. c (down_of l) d k) (λ l. c (up_of l) d k) lower)
