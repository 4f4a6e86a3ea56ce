-- What has come to the node of a destination has gone on or has arrived.
use Rattle.std.proofs.Common.{◌≡◌, ℕ, zero, suc, ◌+◌, ◌-◌, ◌*◌, ◌<◌, ◌≤◌, Option, Some, None, inl, inr, refl, ap, sym, subst, ◌∙◌, arith}
use Rattle.std.proofs.lemmas.Bool.{cases_lt, cases_eq}
use Rattle.ltm_units.specs.Sums.{sum_below}
use Rattle.ltm_units.proofs.Sums.{sum_below-same, sum_below-plus, sum_below-swap, sum_below-zero}
use Rattle.ltm_curve.specs.Counts.{Counts, total}
use Rattle.ltm_curve.specs.TotalCurves.{total_at}
use Rattle.ltm_loading.specs.Setting.{Setting, IsSetting}
use Rattle.ltm_loading.specs.Groups.{up_of, down_of, dep_of, arr_of}
use Rattle.ltm_loading.specs.Pairs.{arms_of, arm_group}
use Rattle.ltm_loading.specs.Loading.{IsFront, IsLoading}
use Rattle.ltm_loading.specs.Totals.{entered_link, left_link}
use Rattle.ltm_loading.proofs.Conserve.{come_to, left_by, entered_by, pair_balance, sum_below-single}
use Rattle.ltm_loading.proofs.Front.{earlier_front}
use Rattle.ltm_loading.proofs.Pairs.{origin_group}
use Rattle.ltm_loading.proofs.Picks.{pick_first, pick_same, pick_other}
use Rattle.ltm_loading.proofs.Same.{arm_is_group}
use Rattle.ltm_flows.specs.Origins.{departed_from}
use Rattle.ltm_flows.specs.declared.loading.Loading.{Loading}
use Rattle.ltm_flows.specs.Shown.{curves_of, ShowsCounts}
use Rattle.ltm_flows.specs.Counted.{departed_by, entered_by as read_entered, left_by as read_left}
use Rattle.ltm_gap.specs.Arrived.{came_to, went_on, read_came, read_went, CameAndStayed}

none_came : (s : Setting) (c : Counts) (own : Option ℕ) (d : ℕ) → c (arr_of s) d 0 ≡ 0 → come_to s c own d 0 ≡ 0
none_came s c None d none = refl
none_came s c (Some o) d none =
    elim (cases_eq o d) [
      | inl same ↦ pick_same o d (c (arr_of s) o 0) same ∙ (ap (λ (z : ℕ). c (arr_of s) z 0) same ∙ none)
      | inr other ↦ pick_other o d (c (arr_of s) o 0) other
    ]

-- of a destination, at each node: slot by slot what leaves the arms enters the out-links or arrives
node_balance : (s : Setting) (c : Counts) (u d k : ℕ) → IsSetting s → IsFront s c k → u < s.nodes → d < s.destinations → left_by s c d k u ≡ entered_by s c d k u + come_to s c (s.own u) d k
node_balance s c u d zero v f there m =
    let left : left_by s c d 0 u ≡ 0 = sum_below-zero (arms_of s u) (λ i. c (arm_group s u i) d 0) (λ i y. f.empty (arm_group s u i) d (arm_is_group s u i v there) m) in
    let entered : entered_by s c d 0 u ≡ 0 = sum_below-zero (s.outs u) (λ j. c (up_of (s.out_link u j)) d 0) (λ j y. f.empty (up_of (s.out_link u j)) d (omega (arith, v.network.out_link_is_link u j there y)) m) in
    omega (arith, left, entered, none_came s c (s.own u) d (f.empty (arr_of s) d (omega arith) m))
node_balance s c u d (suc t) v f there m =
    let e : t + 1 ≡ suc t = omega arith in
    let before : left_by s c d t u ≡ entered_by s c d t u + come_to s c (s.own u) d t = node_balance s c u d t v (earlier_front s c (suc t) t f (omega arith)) there m in
    subst (λ (k : ℕ). left_by s c d k u ≡ entered_by s c d k u + come_to s c (s.own u) d k) e (omega (arith, before, pair_balance s c u t d (f.steps u t there (omega arith)) m))

-- the arms of a node are its in-links and, where it has an out-link, its origin
over_arms : (s : Setting) (u : ℕ) (f : ℕ → ℕ) → (s.outs u ≡ 0 → f (dep_of s u) ≡ 0) → sum_below (arms_of s u) (λ i. f (arm_group s u i)) ≡ sum_below (s.ins u) (λ i. f (down_of (s.in_link u i))) + f (dep_of s u)
over_arms s u f none =
    let links : sum_below (s.ins u) (λ i. f (arm_group s u i)) ≡ sum_below (s.ins u) (λ i. f (down_of (s.in_link u i))) =
    sum_below-same (s.ins u) (λ i. f (arm_group s u i)) (λ i. f (down_of (s.in_link u i))) (λ i l. ap f (pick_first i (s.ins u) (down_of (s.in_link u i)) (dep_of s u) l)) in
    let origin : f (arm_group s u (s.ins u)) ≡ f (dep_of s u) = ap f (origin_group s u) in
    elim (cases_lt 0 (s.outs u)) [
      | inl some ↦
          let e : arms_of s u ≡ suc (s.ins u) = omega arith in
          let count : sum_below (arms_of s u) (λ i. f (arm_group s u i)) ≡ sum_below (suc (s.ins u)) (λ i. f (arm_group s u i)) = ap (λ (z : ℕ). sum_below z (λ i. f (arm_group s u i))) e in omega arith
      | inr no_out ↦
          let e : arms_of s u ≡ s.ins u = omega arith in
          let count : sum_below (arms_of s u) (λ i. f (arm_group s u i)) ≡ sum_below (s.ins u) (λ i. f (arm_group s u i)) = ap (λ (z : ℕ). sum_below z (λ i. f (arm_group s u i))) e in omega (arith, none (omega arith))
    ]

-- of all destinations
all_came : (s : Setting) (c : Counts) (u k : ℕ) → IsLoading s c → u < s.nodes → k ≤ s.slots → sum_below s.destinations (λ d. left_by s c d k u) ≡ came_to s c u k
all_came s c u k loading there within =
    sum_below-swap s.destinations (arms_of s u) (λ d i. c (arm_group s u i) d k)
    ∙ over_arms s u (λ g. total s.destinations (c g) k) (λ no_out. sum_below-zero s.destinations (λ d. c (dep_of s u) d k) (λ d m. loading.no_origin u d k there no_out m within))

all_went : (s : Setting) (c : Counts) (u k : ℕ) → sum_below s.destinations (λ d. entered_by s c d k u) ≡ went_on s c u k
all_went s c u k = sum_below-swap s.destinations (s.outs u) (λ d j. c (up_of (s.out_link u j)) d k)

-- at the node of a destination that destination alone arrives
own_alone : (s : Setting) (c : Counts) (d k : ℕ) → IsSetting s → d < s.destinations → sum_below s.destinations (λ e. come_to s c (s.own (s.place d)) e k) ≡ c (arr_of s) d k
own_alone s c d k v m =
    ap (λ (o : Option ℕ). sum_below s.destinations (λ e. come_to s c o e k)) (v.network.own_at d m)
    ∙ (sum_below-single s.destinations (λ e. come_to s c (Some d) e k) d m (λ e y ne. pick_other d e (c (arr_of s) d k) (λ same. ne (sym same)))
    ∙ pick_same d d (c (arr_of s) d k) refl)

pub came_and_stayed : CameAndStayed
came_and_stayed s c v loading d k m within =
    let there : s.place d < s.nodes = v.network.place_is_node d m in
    let front : IsFront s c k = earlier_front s c s.slots k loading.front within in
    sym (all_came s c (s.place d) k loading there within)
    ∙ (sum_below-same s.destinations (λ e. left_by s c e k (s.place d)) (λ e. entered_by s c e k (s.place d) + come_to s c (s.own (s.place d)) e k) (λ e y. node_balance s c (s.place d) e k v front there y)
    ∙ (sum_below-plus s.destinations (λ e. entered_by s c e k (s.place d)) (λ e. come_to s c (s.own (s.place d)) e k)
    ∙ (ap (λ (n : ℕ). n + sum_below s.destinations (λ e. come_to s c (s.own (s.place d)) e k)) (all_went s c (s.place d) k)
    ∙ ap (λ (n : ℕ). went_on s c (s.place d) k + n) (own_alone s c d k v m))))

-- what is read from a loading is that of the counts that it shows
came_shown : (s : Setting) (v : ℕ) (c : Counts) (l : Loading) (u k : ℕ) → IsSetting s → ShowsCounts s v c l → u < s.nodes → k ≤ s.slots → read_came s l u k ≡ came_to s c u k
came_shown s v c l u k is shows there within =
    let links : sum_below (s.ins u) (λ i. read_left l (s.in_link u i) k) ≡ sum_below (s.ins u) (λ i. left_link s c (s.in_link u i) k) =
    sum_below-same (s.ins u) (λ i. read_left l (s.in_link u i) k) (λ i. left_link s c (s.in_link u i) k) (λ i y. shows.totals (down_of (s.in_link u i)) k (omega (arith, is.network.in_link_is_link u i there y)) within) in
    let origin : departed_by l u k ≡ departed_from s c u k = ap (λ (n : ℕ). total_at (curves_of l) (2 * n + u) k) shows.links ∙ shows.totals (dep_of s u) k (omega (arith, there)) within in
    omega (arith, links, origin)

went_shown : (s : Setting) (v : ℕ) (c : Counts) (l : Loading) (u k : ℕ) → IsSetting s → ShowsCounts s v c l → u < s.nodes → k ≤ s.slots → read_went s l u k ≡ went_on s c u k
went_shown s v c l u k is shows there within =
    sum_below-same (s.outs u) (λ j. read_entered l (s.out_link u j) k) (λ j. entered_link s c (s.out_link u j) k) (λ j y. shows.totals (up_of (s.out_link u j)) k (omega (arith, is.network.out_link_is_link u j there y)) within)

-- so the difference is what has arrived
pub stayed_shown : (s : Setting) (v : ℕ) (c : Counts) (l : Loading) (d u k came went : ℕ) → CameAndStayed → IsSetting s → ShowsCounts s v c l → d < s.destinations → k ≤ s.slots → u ≡ s.place d
    → came ≡ read_came s l u k → went ≡ read_went s l u k → came - went ≡ c (arr_of s) d k
stayed_shown s v c l d u k came went law is shows m within at read_in read_out =
    let there : s.place d < s.nodes = is.network.place_is_node d m in
    let in_all : came ≡ came_to s c (s.place d) k = read_in ∙ (ap (λ (n : ℕ). read_came s l n k) at ∙ came_shown s v c l (s.place d) k is shows there within) in
    let out_all : went ≡ went_on s c (s.place d) k = read_out ∙ (ap (λ (n : ℕ). read_went s l n k) at ∙ went_shown s v c l (s.place d) k is shows there within) in
    omega (arith, in_all, out_all, law s c is shows.loading d k m within)
