-- What all spend is what those to each destination spend.
use Rattle.std.proofs.Common.{◌≡◌, ℕ, ◌+◌, ◌-◌, ◌*◌, ◌<◌, ◌≤◌, ap, sym, arith, ◌∙◌}
use Rattle.ltm_units.specs.Sums.{sum_below}
use Rattle.ltm_units.proofs.Sums.{sum_below-le, sum_below-same, sum_below-mul, sum_below-plus, sum_below-swap, sum_below_more}
use Rattle.ltm_curve.specs.Counts.{Counts}
use Rattle.ltm_loading.specs.Setting.{Setting, IsSetting}
use Rattle.ltm_loading.specs.Groups.{dep_of, arr_of}
use Rattle.ltm_loading.specs.Loading.{IsLoading}
use Rattle.ltm_loading.specs.LoadingLaws.{WithinProduced, Conserved}
use Rattle.ltm_loading.specs.Totals.{generated, arrived}
use Rattle.ltm_gap.specs.Gaps.{spent_to}
use Rattle.ltm_gap.specs.Laws.{SpentAddsUp}

-- the difference of two sums, of which the one is nowhere less
sum_less : (n : ℕ) (f g : ℕ → ℕ) → ((k : ℕ) → k < n → g k ≤ f k) → sum_below n (λ k. f k - g k) ≡ sum_below n f - sum_below n g
sum_less n f g less =
    let whole : sum_below n (λ k. f k - g k + g k) ≡ sum_below n f = sum_below-same n (λ k. f k - g k + g k) f (λ k low. let l = less k low in omega arith) in
    let parts : sum_below n (λ k. f k - g k + g k) ≡ sum_below n (λ k. f k - g k) + sum_below n g = sum_below-plus n (λ k. f k - g k) g in
    omega arith

-- what all origins have produced for a destination
abbrev made_for : Setting → ℕ → ℕ → ℕ
made_for s k d = sum_below s.nodes (λ origin. s.produced origin d k)

few_arrived : WithinProduced → Conserved → (s : Setting) (c : Counts) → IsSetting s → IsLoading s c → (d k : ℕ) → d < s.destinations → k ≤ s.slots → c (arr_of s) d k ≤ made_for s k d
few_arrived few kept s c is loading d k low within =
    let left = kept s c is loading d k low within in
    let made : sum_below s.nodes (λ u. c (dep_of s u) d k) ≤ made_for s k d = sum_below-le s.nodes (λ u. c (dep_of s u) d k) (λ u. s.produced u d k) (λ u there. few s c is loading u d k there low within) in
    omega arith

-- at a boundary
at_boundary : WithinProduced → Conserved → (s : Setting) (c : Counts) → IsSetting s → IsLoading s c → (k : ℕ) → k ≤ s.slots → generated s k - arrived s c k ≡ sum_below s.destinations (λ d. made_for s k d - c (arr_of s) d k)
at_boundary few kept s c is loading k within =
    ap (λ n. n - arrived s c k) (sum_below-swap s.nodes s.destinations (λ u d. s.produced u d k))
    ∙ sym (sum_less s.destinations (made_for s k) (λ d. c (arr_of s) d k) (λ d low. few_arrived few kept s c is loading d k low within))

pub spent_adds : WithinProduced → Conserved → SpentAddsUp
spent_adds few kept = λ s c is loading.
    let left : ℕ → ℕ → ℕ = λ d t. made_for s (t + 1) d - c (arr_of s) d (t + 1) in
    ap (λ n. n * s.step)
    (sum_below-same s.slots (λ t. generated s (t + 1) - arrived s c (t + 1)) (λ t. sum_below s.destinations (λ d. left d t)) (λ t low. at_boundary few kept s c is loading (t + 1) (omega arith))
    ∙ sym (sum_below-swap s.destinations s.slots left))
    ∙ sym (sum_below-mul s.destinations (λ d. sum_below s.slots (left d)) s.step)

-- what is spent to a destination, slot by slot
abbrev pub spent_in : Setting → Counts → ℕ → ℕ → ℕ
spent_in s c d t = sum_below s.nodes (λ origin. s.produced origin d (t + 1)) - c (arr_of s) d (t + 1)

pub spent_next : (s : Setting) (c : Counts) (d t sum made came : ℕ) → sum ≡ sum_below t (spent_in s c d) → made ≡ sum_below s.nodes (λ origin. s.produced origin d (t + 1)) → came ≡ c (arr_of s) d (t + 1)
    → sum + (made - came) ≡ sum_below (t + 1) (spent_in s c d)
spent_next s c d t sum made came before made_is came_is =
    let more : sum_below (t + 1) (spent_in s c d) ≡ sum_below t (spent_in s c d) + spent_in s c d t = sum_below_more (spent_in s c d) t in
    omega (arith, before, made_is, came_is, more)

pub spent_all : (s : Setting) (c : Counts) (d t sum step : ℕ) → sum ≡ sum_below t (spent_in s c d) → t ≡ s.slots → step ≡ s.step → sum * step ≡ spent_to s c d
spent_all s c d t sum step is all same = ap (λ n. n * step) (is ∙ ap (λ n. sum_below n (spent_in s c d)) all) ∙ ap (λ n. sum_below s.slots (spent_in s c d) * n) same
