-- What moves at an end of a link in a slot, by place in its list.
use Rattle.std.proofs.Common.{◌≡◌, ℕ, ◌+◌, ◌<◌, ◌≤◌, List, length, slice_index, arith, sym, ap, ◌∙◌, inl, inr}
use Rattle.std.proofs.lemmas.Bool.{cases_lt}
use Rattle.std.proofs.lemmas.List.{get_or_past}
use Rattle.ltm_units.specs.Sums.{sum_below}
use Rattle.ltm_units.proofs.Sums.{sum_below-same, sum_below-plus, le-sum_below}
use Rattle.ltm_curve.specs.Counts.{Counts, total}
use Rattle.ltm_loading.specs.Setting.{Setting}
use Rattle.ltm_loading.specs.Groups.{up_of, down_of}
use Rattle.ltm_loading.proofs.Crossing.{within_capacity_holds}
use Rattle.ltm_loading.proofs.Front.{earlier_front}
use Rattle.ltm_standing.proofs.Thin.{ascends_before}
use Rattle.ltm_standing.proofs.Links.{AreThin, picked, thin_total, up_thin, down_thin}
use Rattle.ltm_lean_node.specs.Places.{ArePlaces}
use Rattle.ltm_lean_link.specs.Moved.{IsMoved, IsMovedAt, moved_at}

-- what is counted of each destination of a list, and in all
pub record IsGathered (s : Setting) (c : Counts) (group t : ℕ) (ds places moved : List ℕ) : Type 0 where
  pub each : (i : ℕ) → i < length ds → c group (slice_index ds i) (t + 1) ≡ c group (slice_index ds i) t + moved_at moved places i
  pub all : total s.destinations (c group) (t + 1) ≡ total s.destinations (c group) t + sum_below (length ds) (moved_at moved places)

-- the number at the place of a destination is what is counted of it
at_place : (s : Setting) (c : Counts) (group t : ℕ) (ds us places moved : List ℕ) → AreThin s.destinations (c group) ds s.slots → ArePlaces ds us places → length moved ≡ length us → IsMoved s c group t us moved
    → (i : ℕ) → i < length ds → c group (slice_index ds i) (t + 1) ≡ c group (slice_index ds i) t + slice_index moved (slice_index places i)
at_place s c group t ds us places moved thin p long m i l =
    elim (cases_lt (slice_index places i) (length us)) [
      | inl inside ↦
          let same : slice_index ds i ≡ slice_index us (slice_index places i) = sym (p.there i l inside) in
          ap (λ (z : ℕ). c group z (t + 1)) same ∙ (m.each (slice_index places i) inside ∙ ap (λ (z : ℕ). c group z t + slice_index moved (slice_index places i)) (sym same))
      | inr past ↦
          let none : slice_index moved (slice_index places i) ≡ 0 = get_or_past moved (slice_index places i) 0 (omega (arith, past, long)) in
          omega (arith, none, m.others (slice_index ds i) (ascends_before 0 s.destinations ds thin.order i l) (p.none i l past))
    ]

pub gathered : (s : Setting) (c : Counts) (group t : ℕ) (ds us places moved : List ℕ) → AreThin s.destinations (c group) ds s.slots → t < s.slots → total s.destinations (c group) (t + 1) ≤ total s.destinations (c group) t + 65535
    → ArePlaces ds us places → length moved ≡ length us → IsMoved s c group t us moved → IsGathered s c group t ds places moved
gathered s c group t ds us places moved thin y few p long m =
    let f : ℕ → ℕ = λ i. slice_index moved (slice_index places i) in
    let each = at_place s c group t ds us places moved thin p long m in
    let next : total (length ds) (picked (c group) ds) (t + 1) ≡ total (length ds) (picked (c group) ds) t + sum_below (length ds) f =
    sum_below-same (length ds) (λ i. picked (c group) ds i (t + 1)) (λ i. picked (c group) ds i t + f i) each ∙ sum_below-plus (length ds) (λ i. picked (c group) ds i t) f in
    let before : total s.destinations (c group) t ≡ total (length ds) (picked (c group) ds) t = thin_total s.destinations (c group) ds s.slots t thin (omega (arith, y)) in
    let after : total s.destinations (c group) (t + 1) ≡ total (length ds) (picked (c group) ds) (t + 1) = thin_total s.destinations (c group) ds s.slots (t + 1) thin (omega (arith, y)) in
    let all : total s.destinations (c group) (t + 1) ≡ total s.destinations (c group) t + sum_below (length ds) f = omega (arith, next, before, after) in
    let small : (i : ℕ) → i < length ds → f i ≡ moved_at moved places i = λ i l. let within : f i ≤ sum_below (length ds) f = le-sum_below (length ds) f i l in omega (arith, within, all, few) in
    record {
      each = λ i l. each i l ∙ ap (λ (z : ℕ). c group (slice_index ds i) t + z) (small i l);
      all = all ∙ ap (λ (z : ℕ). total s.destinations (c group) t + z) (sum_below-same (length ds) f (moved_at moved places) small);
    }

-- what leaves a link, and what enters it
pub gathered_down : (s : Setting) (c : Counts) (l t : ℕ) (ds us places moved : List ℕ) → IsMovedAt s c l (down_of l) t ds us places moved → IsGathered s c (down_of l) t ds places moved
gathered_down s c l t ds us places moved h =
    let few : total s.destinations (c (down_of l)) (t + 1) ≤ total s.destinations (c (down_of l)) t + s.capacity l t =
    ((within_capacity_holds s c t h.listed.setting (earlier_front s c s.slots (t + 1) h.listed.loading.front (omega (arith, h.slot))) h.slot).0 l h.listed.link).1 in
    gathered s c (down_of l) t ds us places moved (down_thin s c l ds h.listed) h.slot (omega (arith, few, h.listed.setting.small.capacities l t h.listed.link)) h.placed h.long h.counted

pub gathered_up : (s : Setting) (c : Counts) (l t : ℕ) (ds us places moved : List ℕ) → IsMovedAt s c l (up_of l) t ds us places moved → IsGathered s c (up_of l) t ds places moved
gathered_up s c l t ds us places moved h =
    let few : total s.destinations (c (up_of l)) (t + 1) ≤ total s.destinations (c (up_of l)) t + s.capacity l t =
    ((within_capacity_holds s c t h.listed.setting (earlier_front s c s.slots (t + 1) h.listed.loading.front (omega (arith, h.slot))) h.slot).0 l h.listed.link).0 in
    gathered s c (up_of l) t ds us places moved (up_thin s c l ds h.listed) h.slot (omega (arith, few, h.listed.setting.small.capacities l t h.listed.link)) h.placed h.long h.counted
