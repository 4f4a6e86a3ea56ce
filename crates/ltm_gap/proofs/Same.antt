-- Loadings of one setting have the same earliest arrivals, and the same gap.
use Rattle.std.proofs.Common.{◌≡◌, ℕ, zero, suc, ◌+◌, ◌-◌, ◌*◌, ◌/◌, ◌<◌, ◌==◌, Option, Some, None, if◌then◌else◌, refl, ap, arith, ◌∙◌}
use Rattle.std.specs.Prelude.{option_and_then}
use Rattle.ltm_units.specs.Sums.{sum_below}
use Rattle.ltm_units.proofs.Sums.{sum_below-same}
use Rattle.ltm_curve.specs.Counts.{Counts}
use Rattle.ltm_loading.specs.Setting.{Setting}
use Rattle.ltm_loading.specs.Totals.{entered_link, left_link}
use Rattle.ltm_loading.proofs.Same.{AgreeTo}
use Rattle.ltm_flows.specs.Origins.{produced_in_all, departed_from}
use Rattle.ltm_times.proofs.Alike.{entered_same, left_same}
use Rattle.ltm_times.proofs.DelaysAlike.{departed_from_same}
use Rattle.ltm_search.specs.Ways.{Ways}
use Rattle.ltm_gap.specs.Leaving.{leaves, starts}
use Rattle.ltm_gap.specs.Within.{earlier, earliest_below, over, earliest_within}
use Rattle.ltm_gap.specs.Earliest.{ways, earliest}
use Rattle.ltm_gap.specs.Gaps.{produced_in, units_in, is_none, number_or, next_arrival, arriving, share_of, late_in, twice_time, twice_left, twice_of, twice_in, over_all, least_to, late_to, least, late}
use Rattle.ltm_gap.proofs.Firsts.{same_first}
use Rattle.ltm_gap.proofs.Alike.{LeftAlike, with_leaves, leaves_same, first_from_same}

below_same : (n : ℕ) (f g : ℕ → Option ℕ) → ((k : ℕ) → k < n → f k ≡ g k) → earliest_below n f ≡ earliest_below n g
below_same zero f g same = refl
below_same (suc n) f g same = ap (λ o. earlier o (f n)) (below_same n f g (λ k low. same k (omega arith))) ∙ ap (earlier (earliest_below n g)) (same n (omega arith))

then_alike : (f g : ℕ → Option ℕ) (o : Option ℕ) → ((x : ℕ) → f x ≡ g x) → option_and_then f o ≡ option_and_then g o
then_alike f g None same = refl
then_alike f g (Some x) same = same x

over_same : (w : Ways) (left : ℕ → ℕ → Option ℕ) → LeftAlike w left → (f g : ℕ → Option ℕ) → ((n : ℕ) → f n ≡ g n) → (node link : ℕ) → link < w.links → over w f node link ≡ over (with_leaves w left) g node link
over_same w left alike f g same node link low =
    ap (λ o. if w.head link == node then o else None)
    (ap (option_and_then (w.leaves link)) (same (w.tail link)) ∙ then_alike (w.leaves link) (left link) (g (w.tail link)) (λ x. alike link x low))

within_same : (w : Ways) (left : ℕ → ℕ → Option ℕ) → LeftAlike w left → (from : ℕ) (start : Option ℕ) (n node : ℕ) → earliest_within w from start n node ≡ earliest_within (with_leaves w left) from start n node
within_same w left alike from start zero node = refl
within_same w left alike from start (suc n) node =
    let before : (k : ℕ) → earliest_within w from start n k ≡ earliest_within (with_leaves w left) from start n k = λ k. within_same w left alike from start n k in
    ap (λ o. earlier o (earliest_below w.links (over w (earliest_within w from start n) node))) (before node)
    ∙ ap (earlier (earliest_within (with_leaves w left) from start n node))
    (below_same w.links (over w (earliest_within w from start n) node) (over (with_leaves w left) (earliest_within (with_leaves w left) from start n) node)
    (λ link low. over_same w left alike (earliest_within w from start n) (earliest_within (with_leaves w left) from start n) before node link low))

left_alike : (s : Setting) (a b : Counts) → 0 < s.step → AgreeTo s a b s.slots → LeftAlike (ways s a) (leaves s b)
left_alike s a b some same = λ link moment low.
    leaves_same s link (entered_link s a link) (entered_link s b link) (left_link s a link) (left_link s b link) moment some (λ k within. entered_same s a b link k same low within) (λ k within. left_same s a b link k same low within)

starts_same : (s : Setting) (a b : Counts) (origin slot number : ℕ) → 0 < s.step → AgreeTo s a b s.slots → origin < s.nodes → starts s a origin slot number ≡ starts s b origin slot number
starts_same s a b origin slot number some same there =
    first_from_same (departed_from s a origin) (departed_from s b origin) s.step s.slots number (slot * s.step) some (λ k within. departed_from_same s a b origin k same there within)

earliest_agrees : (s : Setting) (a b : Counts) (origin slot number node : ℕ) → 0 < s.step → AgreeTo s a b s.slots → origin < s.nodes → earliest s a origin slot number node ≡ earliest s b origin slot number node
earliest_agrees s a b origin slot number node some same there =
    ap (λ o. earliest_within (ways s a) origin o s.slots node) (starts_same s a b origin slot number some same there)
    ∙ within_same (ways s a) (leaves s b) (left_alike s a b some same) origin (starts s b origin slot number) s.slots node

arriving_agrees : (s : Setting) (a b : Counts) (node origin slot : ℕ) → 0 < s.step → AgreeTo s a b s.slots → origin < s.nodes → arriving s a node origin slot ≡ arriving s b node origin slot
unfolding arriving
arriving_agrees s a b node origin slot some same there =
    ap (number_or (units_in s origin slot))
    (same_first (λ k. is_none (next_arrival s a node origin slot k)) (λ k. is_none (next_arrival s b node origin slot k)) (units_in s origin slot)
    (λ k low. ap is_none (earliest_agrees s a b origin slot (produced_in_all s origin slot + (k + 1)) node some same there)))

over_all_same : (s : Setting) (f g : ℕ → ℕ → ℕ) → ((origin slot : ℕ) → origin < s.nodes → f origin slot ≡ g origin slot) → over_all s f ≡ over_all s g
over_all_same s f g same =
    sum_below-same s.nodes (λ origin. sum_below s.slots (f origin)) (λ origin. sum_below s.slots (g origin))
    (λ origin there. sum_below-same s.slots (f origin) (g origin) (λ slot low. same origin slot there))

late_in_same : (s : Setting) (a b : Counts) (d origin slot : ℕ) → 0 < s.step → AgreeTo s a b s.slots → origin < s.nodes → late_in s a d origin slot ≡ late_in s b d origin slot
late_in_same s a b d origin slot some same there =
    ap (λ n. share_of (produced_in s origin d slot) (units_in s origin slot - n) (units_in s origin slot)) (arriving_agrees s a b (s.place d) origin slot some same there)

-- twice the time of those who arrive
abbrev time_of : Setting → Counts → ℕ → ℕ → ℕ → ℕ → ℕ
time_of s c node origin slot n = twice_time s.step slot (earliest s c origin slot (produced_in_all s origin slot) node) (earliest s c origin slot (produced_in_all s origin slot + n) node)

time_same : (s : Setting) (a b : Counts) (node origin slot n : ℕ) → 0 < s.step → AgreeTo s a b s.slots → origin < s.nodes → time_of s a node origin slot n ≡ time_of s b node origin slot n
time_same s a b node origin slot n some same there =
    ap (λ o. twice_time s.step slot o (earliest s a origin slot (produced_in_all s origin slot + n) node)) (earliest_agrees s a b origin slot (produced_in_all s origin slot) node some same there)
    ∙ ap (λ o. twice_time s.step slot (earliest s b origin slot (produced_in_all s origin slot) node) o) (earliest_agrees s a b origin slot (produced_in_all s origin slot + n) node some same there)

twice_same : (s : Setting) (a b : Counts) (d origin slot : ℕ) → 0 < s.step → AgreeTo s a b s.slots → origin < s.nodes → twice_in s a d origin slot ≡ twice_in s b d origin slot
twice_same s a b d origin slot some same there =
    let units : ℕ = produced_in s origin d slot in
    let left : ℕ = twice_left s.step s.slots slot in
    ap (λ n. twice_of units n (time_of s a (s.place d) origin slot (arriving s a (s.place d) origin slot)) left) (late_in_same s a b d origin slot some same there)
    ∙ ap (λ n. twice_of units (late_in s b d origin slot) (time_of s a (s.place d) origin slot n) left) (arriving_agrees s a b (s.place d) origin slot some same there)
    ∙ ap (λ n. twice_of units (late_in s b d origin slot) n left) (time_same s a b (s.place d) origin slot (arriving s b (s.place d) origin slot) some same there)

pub least_same : (s : Setting) (a b : Counts) → 0 < s.step → AgreeTo s a b s.slots → least s a ≡ least s b
least_same s a b some same =
    sum_below-same s.destinations (least_to s a) (least_to s b) (λ d low. ap (λ n. n / 2) (over_all_same s (twice_in s a d) (twice_in s b d) (λ origin slot there. twice_same s a b d origin slot some same there)))

pub late_same : (s : Setting) (a b : Counts) → 0 < s.step → AgreeTo s a b s.slots → late s a ≡ late s b
late_same s a b some same =
    sum_below-same s.destinations (late_to s a) (late_to s b) (λ d low. over_all_same s (late_in s a d) (late_in s b d) (λ origin slot there. late_in_same s a b d origin slot some same there))
