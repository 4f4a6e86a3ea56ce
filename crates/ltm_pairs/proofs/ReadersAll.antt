-- A pair that is no reader of a commit reads the same as before, and its positions stay.
use Rattle.std.proofs.Common.{◌≡◌, ℕ, ◌+◌, ◌-◌, ◌<◌, ◌≤◌, Option, Some, None, arith, inl, inr, refl, ap, ◌∙◌}
use Rattle.std.proofs.lemmas.Bool.{cases_lt}
use Rattle.ltm_units.specs.Sums.{sum_below}
use Rattle.ltm_units.proofs.Sums.{sum_below-same}
use Rattle.ltm_curve.specs.Counts.{Counts, total}
use Rattle.ltm_curve.specs.First.{last_within, first_units}
use Rattle.ltm_loading.specs.Setting.{Setting, IsSetting}
use Rattle.ltm_loading.specs.Groups.{up_of, down_of, dep_of, arr_of}
use Rattle.ltm_loading.specs.Flows.{position, earlier, limited, link_goal, link_first, link_sending, origin_goal, origin_sending}
use Rattle.ltm_loading.specs.Pairs.{arrived_by}
use Rattle.ltm_loading.specs.Reads.{InputsByParts, SetByOnePair}
use Rattle.ltm_loading.proofs.Pairs.{origin_group}
use Rattle.ltm_loading.proofs.Same.{total-same, last_within-same, first_units-same, pair_row_same}
use Rattle.ltm_repair.proofs.Networks.{network_refl}
use Rattle.ltm_pairs.specs.Changes.{ChangesNode}
use Rattle.ltm_pairs.specs.Readers.{ReadersAreAll, PositionsStay}
use Rattle.ltm_pairs.proofs.Positions.{first_apart, last_apart}
use Rattle.ltm_pairs.proofs.Bystanders.{IsBystander, no_reader}
use Rattle.ltm_pairs.proofs.OwnCounts.{own_same, ago_all, down_now, up_now}
use Rattle.ltm_pairs.proofs.Links.{goal_from, link_cases, supply_same}

-- ---- sending
first_from : (s : Setting) (old new : Counts) (l v d : ℕ) → link_goal s new l v ≡ link_goal s old l v →
    first_units s.destinations (new (up_of l)) (link_goal s old l v) v d ≡ first_units s.destinations (old (up_of l)) (link_goal s old l v) v d →
    new (down_of l) d v ≡ old (down_of l) d v → link_first s new l v d ≡ link_first s old l v d
first_from s old new l v d goal first down =
    ap (λ (z : ℕ). first_units s.destinations (new (up_of l)) z v d - new (down_of l) d v) goal
    ∙ (ap (λ (z : ℕ). z - new (down_of l) d v) first ∙ ap (λ (z : ℕ). first_units s.destinations (old (up_of l)) (link_goal s old l v) v d - z) down)

first_same : (s : Setting) (old new : Counts) (u k w v i d : ℕ) → IsBystander s old new u k w v → i < s.ins w → d < s.destinations → link_first s new (s.in_link w i) v d ≡ link_first s old (s.in_link w i) v d
first_same s old new u k w v i d b x m =
    let link : ℕ = s.in_link w i in
    let down : new (down_of link) d v ≡ old (down_of link) d v = down_now s old new u k w v i d b x m in
    elim (link_cases s old new u k w v i b x) [
      | inl h ↦ first_from s old new link v d h.goal (first_units-same s.destinations (new (up_of link)) (old (up_of link)) (link_goal s old link v) v h.same d m) down
      | inr h ↦
          first_from s old new link v d h.goal
          (first_apart s.destinations (old (up_of link)) (new (up_of link)) (link_goal s old link v) v k h.before d b.late h.same h.empty b.change.some h.early h.least h.apart m) down
    ]

sending_same : (s : Setting) (old new : Counts) (u k w v i d : ℕ) → IsBystander s old new u k w v → i < s.ins w → d < s.destinations → link_sending s new (s.in_link w i) v d ≡ link_sending s old (s.in_link w i) v d
sending_same s old new u k w v i d b x m =
    let link : ℕ = s.in_link w i in
    ap (λ (z : ℕ). limited (s.exit_limit link v) z (link_first s new link v d))
    (sum_below-same s.destinations (link_first s new link v) (link_first s old link v) (λ e n. first_same s old new u k w v i e b x n))
    ∙ ap (λ (z : ℕ). limited (s.exit_limit link v) (sum_below s.destinations (link_first s old link v)) z) (first_same s old new u k w v i d b x m)

dep_now : (s : Setting) (old new : Counts) (u k w v d : ℕ) → IsBystander s old new u k w v → 0 < s.outs w → d < s.destinations → new (dep_of s w) d v ≡ old (dep_of s w) d v
dep_now s old new u k w v d b some m = own_same s old new u k w v (dep_of s w) d b (inl (s.ins w, omega (arith, some), origin_group s w)) m

origin_same : (s : Setting) (old new : Counts) (u k w v d : ℕ) → IsBystander s old new u k w v → 0 < s.outs w → d < s.destinations → origin_sending s new w v d ≡ origin_sending s old w v d
origin_same s old new u k w v d b some m =
    let gone : total s.destinations (new (dep_of s w)) v ≡ total s.destinations (old (dep_of s w)) v =
    total-same s.destinations (new (dep_of s w)) (old (dep_of s w)) v (λ e n. dep_now s old new u k w v e b some n) in
    let goal : origin_goal s new w v ≡ origin_goal s old w v = omega (gone, arith) in
    ap (λ (z : ℕ). first_units s.destinations (s.produced w) z (v + 1) d - new (dep_of s w) d v) goal
    ∙ ap (λ (z : ℕ). first_units s.destinations (s.produced w) (origin_goal s old w v) (v + 1) d - z) (dep_now s old new u k w v d b some m)

arrived_now : (s : Setting) (old new : Counts) (u k w v : ℕ) (o : Option ℕ) → s.own w ≡ o → IsBystander s old new u k w v → arrived_by s new o v ≡ arrived_by s old o v
arrived_now s old new u k w v None e b = refl
arrived_now s old new u k w v (Some d) e b = own_same s old new u k w v (arr_of s) d b (inr (inr (refl, e))) (b.setting.network.own_is_destination w d b.is_node e)

pub readers_are_all : InputsByParts → SetByOnePair → ReadersAreAll
readers_are_all parts setters s old new u k w v is change y l h =
    elim (cases_lt v k) [
      | inl early ↦ pair_row_same s new old w v is (record { same = λ g d j x m low. change.later g d j x m (omega arith) (omega arith) }) y
      | inr late ↦
          let b : IsBystander s old new u k w v =
          record { setting = is; change = change; is_node = y; is_slot = l; late = late; none = no_reader s old new u k w v late h; setters = setters } in
          parts s s new old w v (record {
            network = network_refl s;
            link = λ i d x m. sending_same s old new u k w v i d b x m;
            origin = λ d some m. origin_same s old new u k w v d b some m;
            link_left = λ i d x m. down_now s old new u k w v i d b x m;
            origin_left = λ d some m. dep_now s old new u k w v d b some m;
            entered = λ j d x m. up_now s old new u k w v j d b x m;
            arrived = arrived_now s old new u k w v (s.own w) refl b;
            supply = λ j x. supply_same s old new u k w v j b x;
            link_capacity = λ i x. refl;
            origin_capacity = refl;
            weight = λ d j x m. refl;
          })
    ]

-- ---- positions
position_late : (s : Setting) (old new : Counts) (u k w v i : ℕ) → IsBystander s old new u k w v → i < s.ins w → position s new (s.in_link w i) v ≡ position s old (s.in_link w i) v
position_late s old new u k w v i b x =
    let link : ℕ = s.in_link w i in
    let up_new : ℕ → ℕ = total s.destinations (new (up_of link)) in
    let up_old : ℕ → ℕ = total s.destinations (old (up_of link)) in
    elim (link_cases s old new u k w v i b x) [
      | inl h ↦
          ap (λ (n : ℕ). last_within up_new n v) h.goal
          ∙ last_within-same up_new up_old (link_goal s old link v) v (λ j low. total-same s.destinations (new (up_of link)) (old (up_of link)) j (λ e n. h.same e j n low))
      | inr h ↦
          ap (λ (n : ℕ). last_within up_new n v) h.goal
          ∙ last_apart s.destinations (old (up_of link)) (new (up_of link)) (link_goal s old link v) v k h.before b.late h.same h.empty b.change.some h.early h.least h.apart
    ]

-- of a slot before the boundary nothing has changed
position_early : (s : Setting) (old new : Counts) (u k v l : ℕ) → IsSetting s → ChangesNode s u k old new → v < s.slots → v < k → l < s.links → position s new l v ≡ position s old l v
position_early s old new u k v l is change low early there =
    let up : (e j : ℕ) → e < s.destinations → j ≤ v → new (up_of l) e j ≡ old (up_of l) e j = λ e j n x. change.later (up_of l) e j (omega (there, arith)) n (omega arith) (omega arith) in
    let ago : earlier (total s.destinations (new (up_of l))) s.step v (s.free_time l) ≡ earlier (total s.destinations (old (up_of l))) s.step v (s.free_time l) =
    ago_all s old new (up_of l) v (s.free_time l) is (is.free_time l there) up in
    let down : total s.destinations (new (down_of l)) v ≡ total s.destinations (old (down_of l)) v =
    total-same s.destinations (new (down_of l)) (old (down_of l)) v (λ e n. change.later (down_of l) e v (omega (there, arith)) n (omega arith) (omega arith)) in
    ap (λ (n : ℕ). last_within (total s.destinations (new (up_of l))) n v) (goal_from s old new l v ago down)
    ∙ last_within-same (total s.destinations (new (up_of l))) (total s.destinations (old (up_of l))) (link_goal s old l v) v
    (λ j x. total-same s.destinations (new (up_of l)) (old (up_of l)) j (λ e n. up e j n x))

pub positions_stay : SetByOnePair → PositionsStay
positions_stay setters s old new u k w v i is change y l x h =
    elim (cases_lt v k) [
      | inl early ↦ position_early s old new u k v (s.in_link w i) is change l early (is.network.in_link_is_link w i y x)
      | inr late ↦
          position_late s old new u k w v i (record { setting = is; change = change; is_node = y; is_slot = l; late = late; none = no_reader s old new u k w v late h; setters = setters }) x
    ]
