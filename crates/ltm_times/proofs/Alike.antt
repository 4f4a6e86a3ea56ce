-- Loadings of one setting come to the same: in totals, in times, and in how many pairs differ from those of another.
use Rattle.std.proofs.Common.{ℕ, zero, suc, ◌≡◌, ◌+◌, ◌-◌, ◌*◌, ◌<◌, ◌≤◌, Bool, List, inl, inr, refl, ap, sym, ◌∙◌, arith}
use Rattle.std.proofs.lemmas.Bool.{cases_lt}
use Rattle.std.specs.Prelude.{Some, None, option_map, max, nat_le, if◌then◌else◌}
use Rattle.ltm_units.specs.Numbers.{first_below, or_else}
use Rattle.ltm_units.proofs.Sums.{sum_below-same}
use Rattle.ltm_curve.specs.Counts.{Counts, total, interpolated}
use Rattle.ltm_curve.proofs.Interpolation.{interpolated_same}
use Rattle.ltm_loading.specs.Setting.{Setting, IsSetting}
use Rattle.ltm_loading.specs.Groups.{up_of, down_of, dep_of, arr_of, groups}
use Rattle.ltm_loading.specs.Pairs.{pair_row}
use Rattle.ltm_loading.specs.Loading.{IsLoading}
use Rattle.ltm_loading.specs.LoadingLaws.{OneLoading}
use Rattle.ltm_loading.specs.Totals.{generated, departed, arrived, on_links, waiting, entered_link, left_link}
use Rattle.ltm_loading.specs.Differing.{unlike, row_of, differing}
use Rattle.ltm_loading.proofs.PairSums.{sum_pairs-same}
use Rattle.ltm_loading.proofs.Same.{AgreeTo, pair_row_same}
use Rattle.ltm_loading.proofs.Unlike.{row_of_old, row_of_new}
use Rattle.ltm_times.specs.Moments.{first_moment}
use Rattle.ltm_times.specs.Times.{exit_time, travel_time, time_spent}

pub agree : (s : Setting) (a b : Counts) → OneLoading → IsSetting s → IsLoading s a → IsLoading s b → AgreeTo s a b s.slots
agree s a b one is la lb = record { same = one s a b is la lb }

-- ---- totals
pub total_same : (s : Setting) (a b : Counts) (g k : ℕ) → AgreeTo s a b s.slots → g < groups s → k ≤ s.slots → total s.destinations (a g) k ≡ total s.destinations (b g) k
total_same s a b g k same there within =
    sum_below-same s.destinations (λ d. a g d k) (λ d. b g d k) (λ d l. same.same g d k there l within)

pub entered_same : (s : Setting) (a b : Counts) (l k : ℕ) → AgreeTo s a b s.slots → l < s.links → k ≤ s.slots → entered_link s a l k ≡ entered_link s b l k
entered_same s a b l k same there within = total_same s a b (up_of l) k same (omega arith) within

pub left_same : (s : Setting) (a b : Counts) (l k : ℕ) → AgreeTo s a b s.slots → l < s.links → k ≤ s.slots → left_link s a l k ≡ left_link s b l k
left_same s a b l k same there within = total_same s a b (down_of l) k same (omega arith) within

pub arrived_same : (s : Setting) (a b : Counts) (k : ℕ) → AgreeTo s a b s.slots → k ≤ s.slots → arrived s a k ≡ arrived s b k
arrived_same s a b k same within = total_same s a b (arr_of s) k same (omega arith) within

pub on_links_same : (s : Setting) (a b : Counts) → AgreeTo s a b s.slots → on_links s a s.slots ≡ on_links s b s.slots
on_links_same s a b same =
    sum_below-same s.links (λ l. entered_link s a l s.slots - left_link s a l s.slots) (λ l. entered_link s b l s.slots - left_link s b l s.slots)
    (λ l there. let e = entered_same s a b l s.slots same there (omega arith) in let f = left_same s a b l s.slots same there (omega arith) in
    ap (λ x. x - left_link s a l s.slots) e ∙ ap (λ x. entered_link s b l s.slots - x) f)

departed_same : (s : Setting) (a b : Counts) → AgreeTo s a b s.slots → departed s a s.slots ≡ departed s b s.slots
departed_same s a b same =
    sum_below-same s.nodes (λ u. total s.destinations (a (dep_of s u)) s.slots) (λ u. total s.destinations (b (dep_of s u)) s.slots)
    (λ u there. total_same s a b (dep_of s u) s.slots same (omega arith) (omega arith))

pub waiting_same : (s : Setting) (a b : Counts) → AgreeTo s a b s.slots → waiting s a s.slots ≡ waiting s b s.slots
waiting_same s a b same = ap (λ x. generated s s.slots - x) (departed_same s a b same)

-- ---- times
first_same : (f g : ℕ → Bool) (n : ℕ) → ((k : ℕ) → k < n → f k ≡ g k) → first_below f n ≡ first_below g n
first_same f g zero h = refl
first_same f g (suc n) h =
    ap (λ x. or_else x (if f n then Some n else None)) (first_same f g n (λ k l. h k (omega arith)))
    ∙ ap (λ (b : Bool). or_else (first_below g n) (if b then Some n else None)) (h n (omega arith))

pub moment_same : (c d : ℕ → ℕ) (step last count : ℕ) → 0 < step → ((k : ℕ) → k ≤ last → c k ≡ d k) → first_moment c step last count ≡ first_moment d step last count
unfolding first_moment
moment_same c d step last count some same =
    first_same (λ time. nat_le count (interpolated c step time)) (λ time. nat_le count (interpolated d step time)) (last * step + 1)
    (λ time l. ap (nat_le count) (interpolated_same c d step last time some (omega arith) same))

pub travel_same : (s : Setting) (a b : Counts) (link slot : ℕ) → 0 < s.step → AgreeTo s a b s.slots → link < s.links → slot ≤ s.slots → travel_time s a link slot ≡ travel_time s b link slot
travel_same s a b link slot some same there within =
    ap (λ n. option_map (λ exit. max (s.free_time link) (exit - slot * s.step)) (exit_time s a link n)) (entered_same s a b link slot same there within)
    ∙ ap (option_map (λ exit. max (s.free_time link) (exit - slot * s.step)))
    (moment_same (left_link s a link) (left_link s b link) s.step s.slots (entered_link s b link slot) some (λ k l. left_same s a b link k same there l))

pub spent_same : (s : Setting) (a b : Counts) → AgreeTo s a b s.slots → time_spent s a ≡ time_spent s b
spent_same s a b same =
    ap (λ x. x * s.step)
    (sum_below-same s.slots (λ t. generated s (t + 1) - arrived s a (t + 1)) (λ t. generated s (t + 1) - arrived s b (t + 1))
    (λ t l. ap (λ x. generated s (t + 1) - x) (arrived_same s a b (t + 1) same (omega arith))))

-- ---- differing pairs
row_same : (s : Setting) (a b : Counts) (u t : ℕ) → IsSetting s → AgreeTo s a b s.slots → u < s.nodes → t < s.slots → pair_row s a u t ≡ pair_row s b u t
row_same s a b u t is same there within =
    pair_row_same s a b u t is (record { same = λ g d k l m w. same.same g d k l m (omega arith) }) there

row_of_same : (s : Setting) (a b : Counts) (u t : ℕ) → IsSetting s → AgreeTo s a b s.slots → u < s.nodes → row_of s a u t ≡ row_of s b u t
row_of_same s a b u t is same there =
    elim (cases_lt t s.slots) [
      | inl within ↦ row_of_old s a u t within ∙ ap (λ (x : List ℕ). Some x) (row_same s a b u t is same there within) ∙ sym (row_of_old s b u t within)
      | inr past ↦ row_of_new s a u t past ∙ sym (row_of_new s b u t past)
    ]

pub differing_same : (s r : Setting) (a b c d : Counts) → r.nodes ≡ s.nodes → IsSetting s → IsSetting r → AgreeTo s a b s.slots → AgreeTo r c d r.slots → differing s r a c ≡ differing s r b d
unfolding differing
differing_same s r a b c d nodes is_s is_r same_s same_r =
    sum_pairs-same r.nodes r.slots (λ u t. unlike (row_of s a u t) (Some (pair_row r c u t))) (λ u t. unlike (row_of s b u t) (Some (pair_row r d u t)))
    (λ u t x y. ap (λ z. unlike z (Some (pair_row r c u t))) (row_of_same s a b u t is_s same_s (omega arith))
    ∙ ap (λ z. unlike (row_of s b u t) (Some z)) (row_same r c d u t is_r same_r x y))
