-- No more has left a link than was ready, and no more was ready than has entered.
use Rattle.std.proofs.Common.{◌≡◌, ℕ, zero, suc, ◌+◌, ◌-◌, ◌*◌, ◌<◌, ◌≤◌, cond, nat_lt, arith, inl, inr, refl, subst, sym, ◌∙◌}
use Rattle.std.proofs.Math.Nat.{mul-le-mul_right}
use Rattle.std.proofs.lemmas.Bool.{cases_lt}
use Rattle.std.proofs.lemmas.Bool.Decides.{nat_tests}
use Rattle.ltm_units.specs.Sums.{sum_below}
use Rattle.ltm_units.proofs.Sums.{sum_below-le}
use Rattle.ltm_curve.specs.Counts.{Counts, interpolated, Rises}
use Rattle.ltm_curve.specs.First.{first_units}
use Rattle.ltm_curve.specs.FirstLaws.{FirstSums}
use Rattle.ltm_curve.proofs.Interpolation.{interpolated_same, interpolated_rises, interpolated_at}
use Rattle.ltm_curve.proofs.Lasts.{total_rises}
use Rattle.ltm_loading.specs.Setting.{Setting, IsSetting}
use Rattle.ltm_loading.specs.Groups.{up_of, down_of, dep_of}
use Rattle.ltm_loading.specs.Flows.{earlier, link_goal}
use Rattle.ltm_loading.specs.Loading.{IsLoading}
use Rattle.ltm_loading.specs.LoadingLaws.{FirstInFirstOut, NeverFall, WithinProduced, WithinStorage}
use Rattle.ltm_loading.specs.Ready.{LinksAreReady}
use Rattle.ltm_loading.specs.Totals.{entered_link, left_link}
use Rattle.ltm_loading.proofs.Times.{earlier_within}
use Rattle.ltm_loading.proofs.Front.{earlier_front, empty_total, up_is_group, down_is_group}
use Rattle.ltm_times.specs.Queues.{delayed, ready}
use Rattle.ltm_times.specs.DelayLaws.{LeftWasReady, LeftWasProduced, QueuesStandOnLinks}

-- ---- a curve so long before a boundary
pick_none : (a b x : ℕ) → a < b → cond (nat_lt a b) 0 x ≡ 0
pick_none a b x h = grind (arith, nat_tests)

pick_some : (a b x : ℕ) → b ≤ a → cond (nat_lt a b) 0 x ≡ x
pick_some a b x h = grind (arith, nat_tests)

pub delayed_early : (c : ℕ → ℕ) (h delay k : ℕ) → k * h < delay → delayed c h delay k ≡ 0
unfolding delayed
delayed_early c h delay k l = pick_none (k * h) delay (interpolated c h (k * h - delay)) l

pub delayed_late : (c : ℕ → ℕ) (h delay k : ℕ) → delay ≤ k * h → delayed c h delay k ≡ interpolated c h (k * h - delay)
unfolding delayed
delayed_late c h delay k l = pick_some (k * h) delay (interpolated c h (k * h - delay)) l

-- it reads no boundary after its own
pub delayed_same : (a b : ℕ → ℕ) (h delay k : ℕ) → 0 < h → ((j : ℕ) → j ≤ k → a j ≡ b j) → delayed a h delay k ≡ delayed b h delay k
delayed_same a b h delay k pos same =
    elim (cases_lt (k * h) delay) [
      | inl early ↦ delayed_early a h delay k early ∙ sym (delayed_early b h delay k early)
      | inr late ↦
          let e : interpolated a h (k * h - delay) ≡ interpolated b h (k * h - delay) = interpolated_same a b h k (k * h - delay) pos (omega arith) same in
          delayed_late a h delay k late ∙ (e ∙ sym (delayed_late b h delay k late))
    ]

-- where no count falls it is at most the count of its own boundary
pub delayed_within : (c : ℕ → ℕ) (last h delay k : ℕ) → 0 < h → Rises c last → k ≤ last → delayed c h delay k ≤ c k
delayed_within c last h delay k pos rise within =
    elim (cases_lt (k * h) delay) [
      | inl early ↦ omega (arith, delayed_early c h delay k early)
      | inr late ↦
          let before : interpolated c h (k * h - delay) ≤ interpolated c h (k * h) = interpolated_rises c last h (k * h - delay) (k * h) pos rise (omega arith) (mul-le-mul_right h within) in
          omega (arith, delayed_late c h delay k late, before, interpolated_at c h k pos)
    ]

-- at the end of a slot it is what the sending side reads
delayed_next : (c : ℕ → ℕ) (h delay t : ℕ) → delayed c h delay (t + 1) ≡ earlier c h t delay
unfolding delayed
delayed_next c h delay t = refl

-- ---- what was ready
left_ready_next : FirstInFirstOut → LinksAreReady → FirstSums → (s : Setting) (c : Counts) → IsSetting s → IsLoading s c → (link t : ℕ) → link < s.links → t < s.slots →
    left_link s c link (t + 1) ≤ ready s c link (t + 1)
left_ready_next fifo are_ready sums s c is l link t there within =
    let first : ℕ → ℕ = first_units s.destinations (c (up_of link)) (link_goal s c link t) t in
    let each : left_link s c link (t + 1) ≤ sum_below s.destinations first =
    sum_below-le s.destinations (λ d. c (down_of link) d (t + 1)) first (λ d m. let (on_links, at_origins) = fifo s c is l t d within m in on_links link there) in
    let part = (are_ready s c link t is (earlier_front s c s.slots t l.front (omega arith)) there).part in
    let all : sum_below s.destinations first ≡ link_goal s c link t = sums s.destinations (c (up_of link)) (link_goal s c link t) t part in
    omega (arith, delayed_next (entered_link s c link) s.step (s.free_time link) t)

pub left_was_ready_holds : FirstInFirstOut → LinksAreReady → FirstSums → LeftWasReady
left_was_ready_holds fifo are_ready sums s c is l link zero there within =
    let none : left_link s c link 0 ≡ 0 = empty_total s c (down_of link) s.slots l.front (down_is_group s link there) in omega arith
left_was_ready_holds fifo are_ready sums s c is l link (suc t) there within =
    let e : t + 1 ≡ suc t = omega arith in
    subst (λ (k : ℕ). left_link s c link k ≤ ready s c link k) e (left_ready_next fifo are_ready sums s c is l link t there (omega arith))

-- what has entered a link never falls
entered_rises : NeverFall → (s : Setting) (c : Counts) → IsSetting s → IsLoading s c → (link : ℕ) → link < s.links → Rises (entered_link s c link) s.slots
entered_rises never s c is l link there =
    total_rises s.destinations (c (up_of link)) s.slots (λ d k m x. never s c is l (up_of link) d k (up_is_group s link there) m x)

ready_next : NeverFall → (s : Setting) (c : Counts) → IsSetting s → IsLoading s c → (link t : ℕ) → link < s.links → t < s.slots →
    ready s c link (t + 1) ≤ entered_link s c link (t + 1)
ready_next never s c is l link t there within =
    let rise : Rises (entered_link s c link) s.slots = entered_rises never s c is l link there in
    omega (
      arith,
      delayed_next (entered_link s c link) s.step (s.free_time link) t,
      earlier_within (entered_link s c link) s.step t (s.free_time link) is.some_step (is.free_time link there) (λ k x. rise k (omega arith)),
      rise t within,
    )

pub ready_has_entered : NeverFall → (s : Setting) (c : Counts) → IsSetting s → IsLoading s c → (link k : ℕ) → link < s.links → k ≤ s.slots → ready s c link k ≤ entered_link s c link k
ready_has_entered never s c is l link zero there within =
    let none : ready s c link 0 ≡ 0 = delayed_early (entered_link s c link) s.step (s.free_time link) 0 (omega (arith, is.some_step, is.free_time link there)) in omega arith
ready_has_entered never s c is l link (suc t) there within =
    let e : t + 1 ≡ suc t = omega arith in
    subst (λ (k : ℕ). ready s c link k ≤ entered_link s c link k) e (ready_next never s c is l link t there (omega arith))

pub queues_stand_on_links_holds : NeverFall → WithinStorage → QueuesStandOnLinks
queues_stand_on_links_holds never stored s c is l link k there within =
    let had : ready s c link k ≤ entered_link s c link k = ready_has_entered never s c is l link k there within in
    record { on_link = omega arith; stored = omega (arith, stored s c is l link k there within) }

pub left_was_produced_holds : WithinProduced → LeftWasProduced
left_was_produced_holds within s c is l node k there last =
    sum_below-le s.destinations (λ d. c (dep_of s node) d k) (λ d. s.produced node d k) (λ d m. within s c is l node d k there m last)
