-- What one node step does to the counts of a link, an origin and a destination.
use Rattle.std.proofs.Common.{◌≡◌, ℕ, ◌+◌, ◌<◌, ◌≤◌, Option, arith, ap, ◌∙◌}
use Rattle.std.proofs.Math.Logic.{∥∥₁_elim}
use Rattle.std.proofs.Math.Bridge.{le_prop}
use Rattle.ltm_units.proofs.Sums.{sum_below-same}
use Rattle.ltm_curve.specs.Counts.{Counts, total}
use Rattle.ltm_node.specs.Inputs.{Inputs, sending as node_sending, left, entered, arrived, supply}
use Rattle.ltm_node.specs.Outputs.{Outputs, left_after, entered_after, arrived_after}
use Rattle.ltm_node.specs.Step.{StepShares, IsNodeStep}
use Rattle.ltm_node.proofs.StepLaws.{supply_kept_holds, sending_kept_holds}
use Rattle.ltm_loading.specs.Setting.{Setting, IsNetwork, IsSetting}
use Rattle.ltm_loading.specs.Groups.{up_of, down_of, dep_of, arr_of}
use Rattle.ltm_loading.specs.Flows.{link_sending, origin_sending, receiving}
use Rattle.ltm_loading.specs.Pairs.{arms_of, sending, arm_group, arrived_by, pair_inputs, pair_outputs, MeetsStep}
use Rattle.ltm_loading.proofs.Picks.{pick_first, pick_second}
use Rattle.ltm_loading.proofs.Rows.{pair_parts, next_counts}

-- no count falls in a node step
pub left_grows : (n : Inputs) (o : Outputs) (i d : ℕ) → IsNodeStep n o → i < n.shape.arms → d < n.shape.destinations → left n i d ≤ left_after o i d
left_grows n o i d step il dl = ∥∥₁_elim step le_prop (λ (x : StepShares n o). omega (arith, x.moves.left i d il dl))

pub entered_grows : (n : Inputs) (o : Outputs) (j d : ℕ) → IsNodeStep n o → j < n.shape.outs → d < n.shape.destinations → entered n j d ≤ entered_after o j d
entered_grows n o j d step jl dl = ∥∥₁_elim step le_prop (λ (x : StepShares n o). omega (arith, x.moves.entered j d jl dl))

pub arrived_grows : (n : Inputs) (o : Outputs) → IsNodeStep n o → arrived n ≤ arrived_after o
arrived_grows n o step = ∥∥₁_elim step le_prop (λ (x : StepShares n o). omega (arith, x.moves.arrived))

-- an arm that is a link
pub link_group : (s : Setting) (l : ℕ) → IsNetwork s → l < s.links → arm_group s (s.head l) (s.in_place l) ≡ down_of l
link_group s l n h = pick_first (s.in_place l) (s.ins (s.head l)) (down_of (s.in_link (s.head l) (s.in_place l))) (dep_of s (s.head l)) (n.in_place_below l h) ∙ ap down_of (n.in_link_at l h)

pub link_arm_sending : (s : Setting) (c : Counts) (t l d : ℕ) → IsNetwork s → l < s.links → sending s c (s.head l) t (s.in_place l) d ≡ link_sending s c l t d
link_arm_sending s c t l d n h =
    pick_first (s.in_place l) (s.ins (s.head l)) (link_sending s c (s.in_link (s.head l) (s.in_place l)) t d) (origin_sending s c (s.head l) t d) (n.in_place_below l h)
    ∙ ap (λ (z : ℕ). link_sending s c z t d) (n.in_link_at l h)

-- an arm that is an origin
pub origin_group : (s : Setting) (u : ℕ) → arm_group s u (s.ins u) ≡ dep_of s u
origin_group s u = pick_second (s.ins u) (s.ins u) (down_of (s.in_link u (s.ins u))) (dep_of s u) (omega arith)

pub origin_arm_sending : (s : Setting) (c : Counts) (u t d : ℕ) → sending s c u t (s.ins u) d ≡ origin_sending s c u t d
origin_arm_sending s c u t d = pick_second (s.ins u) (s.ins u) (link_sending s c (s.in_link u (s.ins u)) t d) (origin_sending s c u t d) (omega arith)

-- what one step does to an arm's counts
pub record Leaves (s : Setting) (c : Counts) (g t : ℕ) (send : ℕ → ℕ) : Type 0 where
  pub rises : (d : ℕ) → d < s.destinations → c g d t ≤ c g d (t + 1)
  pub within : (d : ℕ) → d < s.destinations → c g d (t + 1) ≤ c g d t + send d

arm_leaves : (s : Setting) (c : Counts) (u t i g : ℕ) (send : ℕ → ℕ) → MeetsStep s c u t → i < arms_of s u → arm_group s u i ≡ g → ((d : ℕ) → sending s c u t i d ≡ send d) → Leaves s c g t send
arm_leaves s c u t i g send step x group sends =
    let new : (d : ℕ) → d < s.destinations → left_after (pair_outputs s c u (t + 1)) i d ≡ c g d (t + 1) = λ d m. (next_counts s c u (t + 1)).left i d x m ∙ ap (λ (z : ℕ). c z d (t + 1)) group in
    let old : (d : ℕ) → d < s.destinations → left (pair_inputs s c u t) i d ≡ c g d t = λ d m. (pair_parts s c u t).left i d x m ∙ ap (λ (z : ℕ). c z d t) group in
    record {
      rises = λ d m. omega (arith, new d m, old d m, left_grows (pair_inputs s c u t) (pair_outputs s c u (t + 1)) i d step x m);
      within = λ d m.
          let sent : node_sending (pair_inputs s c u t) i d ≡ sending s c u t i d = (pair_parts s c u t).sending i d x m in
          omega (arith, new d m, old d m, sends d, sending_kept_holds (pair_inputs s c u t) (pair_outputs s c u (t + 1)) step i d x m);
    }

pub link_leaves : (s : Setting) (c : Counts) (l t : ℕ) → IsSetting s → l < s.links → MeetsStep s c (s.head l) t → Leaves s c (down_of l) t (link_sending s c l t)
link_leaves s c l t v x step =
    arm_leaves s c (s.head l) t (s.in_place l) (down_of l) (link_sending s c l t) step
    (omega (arith, v.network.in_place_below l x)) (link_group s l v.network x) (λ d. link_arm_sending s c t l d v.network x)

pub origin_leaves : (s : Setting) (c : Counts) (u t : ℕ) → IsSetting s → u < s.nodes → 0 < s.outs u → MeetsStep s c u t → Leaves s c (dep_of s u) t (origin_sending s c u t)
origin_leaves s c u t v x some step =
    arm_leaves s c u t (s.ins u) (dep_of s u) (origin_sending s c u t) step (omega arith) (origin_group s u) (λ d. origin_arm_sending s c u t d)

-- what one step does to the counts of what enters a link
pub record Enters (s : Setting) (c : Counts) (l t : ℕ) : Type 0 where
  pub rises : (d : ℕ) → d < s.destinations → c (up_of l) d t ≤ c (up_of l) d (t + 1)
  pub within : total s.destinations (c (up_of l)) (t + 1) ≤ total s.destinations (c (up_of l)) t + receiving s c l t

pub link_enters : (s : Setting) (c : Counts) (l t : ℕ) → IsSetting s → l < s.links → MeetsStep s c (s.tail l) t → Enters s c l t
link_enters s c l t v x step =
    let n : Inputs = pair_inputs s c (s.tail l) t in
    let o : Outputs = pair_outputs s c (s.tail l) (t + 1) in
    let y : s.out_place l < s.outs (s.tail l) = v.network.out_place_below l x in
    let at : s.out_link (s.tail l) (s.out_place l) ≡ l = v.network.out_link_at l x in
    let new : (d : ℕ) → d < s.destinations → entered_after (pair_outputs s c (s.tail l) (t + 1)) (s.out_place l) d ≡ c (up_of l) d (t + 1) =
    λ d m. (next_counts s c (s.tail l) (t + 1)).entered (s.out_place l) d y m ∙ ap (λ (z : ℕ). c (up_of z) d (t + 1)) at in
    let old : (d : ℕ) → d < s.destinations → entered (pair_inputs s c (s.tail l) t) (s.out_place l) d ≡ c (up_of l) d t =
    λ d m. (pair_parts s c (s.tail l) t).entered (s.out_place l) d y m ∙ ap (λ (z : ℕ). c (up_of z) d t) at in
    let room : supply (pair_inputs s c (s.tail l) t) (s.out_place l) ≡ receiving s c l t = (pair_parts s c (s.tail l) t).supply (s.out_place l) y ∙ ap (λ (z : ℕ). receiving s c z t) at in
    record {
      rises = λ d m. omega (arith, new d m, old d m, entered_grows (pair_inputs s c (s.tail l) t) (pair_outputs s c (s.tail l) (t + 1)) (s.out_place l) d step y m);
      within =
          omega (
            arith,
            sum_below-same s.destinations (λ d. entered_after (pair_outputs s c (s.tail l) (t + 1)) (s.out_place l) d) (λ d. c (up_of l) d (t + 1)) new,
            sum_below-same s.destinations (λ d. entered (pair_inputs s c (s.tail l) t) (s.out_place l) d) (λ d. c (up_of l) d t) old,
            supply_kept_holds (pair_inputs s c (s.tail l) t) (pair_outputs s c (s.tail l) (t + 1)) step (s.out_place l) y,
            room,
          );
    }

pub arrived_before : (s : Setting) (c : Counts) (d t : ℕ) → IsSetting s → d < s.destinations → arrived (pair_inputs s c (s.place d) t) ≡ c (arr_of s) d t
arrived_before s c d t v x = (pair_parts s c (s.place d) t).arrived ∙ ap (λ (o : Option ℕ). arrived_by s c o t) (v.network.own_at d x)

pub arrived_later : (s : Setting) (c : Counts) (d k : ℕ) → IsSetting s → d < s.destinations → arrived_after (pair_outputs s c (s.place d) k) ≡ c (arr_of s) d k
arrived_later s c d k v x = (next_counts s c (s.place d) k).arrived ∙ ap (λ (o : Option ℕ). arrived_by s c o k) (v.network.own_at d x)

pub arrives : (s : Setting) (c : Counts) (d t : ℕ) → IsSetting s → d < s.destinations → MeetsStep s c (s.place d) t → c (arr_of s) d t ≤ c (arr_of s) d (t + 1)
arrives s c d t v x step =
    omega (arith, arrived_later s c d (t + 1) v x, arrived_before s c d t v x, arrived_grows (pair_inputs s c (s.place d) t) (pair_outputs s c (s.place d) (t + 1)) step)
