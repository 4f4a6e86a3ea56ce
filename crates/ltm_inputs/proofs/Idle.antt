-- A pair is idle where all that its arms send is 0.
use Rattle.std.proofs.Common.{◌≡◌, ℕ, ◌+◌, ◌*◌, ◌/◌, ◌%◌, ◌<◌, ◌≤◌, List, length, slice_index, take, arith, inl, inr, ap, sym, ◌∙◌}
use Rattle.std.proofs.Math.Nat.{mul-le-mul_left}
use Rattle.std.proofs.lemmas.Bool.{cases_lt}
use Rattle.std.proofs.lemmas.List.{get_or-take, length-take-le}
use Rattle.std.proofs.lemmas.Nat.{div_below, mod_below, mul-add-lt}
use Rattle.ltm_curve.specs.Counts.{Counts}
use Rattle.ltm_curve.proofs.Lists.{index-list_below}
use Rattle.ltm_node.specs.Inputs.{Inputs}
use Rattle.ltm_node.specs.Laws.{NothingIsSent}
use Rattle.ltm_loading.specs.Setting.{Setting}
use Rattle.ltm_loading.specs.Pairs.{arms_of, sending}
use Rattle.ltm_loading.proofs.Rows.{length-grid, index-grid}
use Rattle.ltm_inputs.specs.Idle.{IsIdle}
use Rattle.ltm_inputs.specs.Parts.{sending_part}

pub idle_of_zeros : (s : Setting) (c : Counts) (u t : ℕ) (xs : List ℕ) → xs ≡ sending_part s c u t → ((k : ℕ) → k < length xs → slice_index xs k ≡ 0) → IsIdle s c u t
idle_of_zeros s c u t xs is zeros arm destination al dl =
    let place : ℕ = arm * s.destinations + destination in
    let long : length xs ≡ arms_of s u * s.destinations = ap length is ∙ length-grid (arms_of s u) s.destinations (sending s c u t) in
    sym (index-grid (arms_of s u) s.destinations (sending s c u t) arm destination al dl)
    ∙ (sym (ap (λ (z : List ℕ). slice_index z place) is) ∙ zeros place (omega (arith, mul-add-lt arm s.destinations destination (arms_of s u) al dl)))

pub zeros_of_idle : (s : Setting) (c : Counts) (u t : ℕ) (xs : List ℕ) → xs ≡ sending_part s c u t → IsIdle s c u t → (k : ℕ) → k < length xs → slice_index xs k ≡ 0
zeros_of_idle s c u t xs is idle k l =
    let w : ℕ = s.destinations in
    let within : k < arms_of s u * w = omega (arith, ap length is, length-grid (arms_of s u) w (sending s c u t)) in
    let some : 0 < w = elim (cases_lt 0 w) [ inl some ↦ some | inr none ↦ absurd (omega (arith, mul-le-mul_left (arms_of s u) none)) ] in
    ap (λ (z : List ℕ). slice_index z k) is
    ∙ (index-list_below (arms_of s u * w) (λ j. sending s c u t (j / w) (j % w)) k within ∙ idle (k / w) (k % w) (div_below k w (arms_of s u) some within) (mod_below k w some))

-- the front of a row is what the arms send
pub sent_none : (n : Inputs) (xs : List ℕ) → xs ≡ n.row → n.shape.arms * n.shape.destinations ≤ length xs →
    ((k : ℕ) → k < length (take (n.shape.arms * n.shape.destinations) xs) → slice_index (take (n.shape.arms * n.shape.destinations) xs) k ≡ 0) → NothingIsSent n
sent_none n xs is long zeros arm destination al dl =
    let sends : ℕ = n.shape.arms * n.shape.destinations in
    let place : ℕ = arm * n.shape.destinations + destination in
    let low : place < sends = omega (arith, mul-add-lt arm n.shape.destinations destination n.shape.arms al dl) in
    ap (λ (z : List ℕ). slice_index z place) (sym is) ∙ (sym (get_or-take sends xs place 0 low) ∙ zeros place (omega (arith, length-take-le sends xs long, low)))

pub none_sent : (n : Inputs) (xs : List ℕ) → xs ≡ n.row → n.shape.arms * n.shape.destinations ≤ length xs → NothingIsSent n →
    (k : ℕ) → k < length (take (n.shape.arms * n.shape.destinations) xs) → slice_index (take (n.shape.arms * n.shape.destinations) xs) k ≡ 0
none_sent n xs is long none k l =
    let w : ℕ = n.shape.destinations in
    let sends : ℕ = n.shape.arms * n.shape.destinations in
    let within : k < n.shape.arms * w = omega (arith, l, length-take-le sends xs long) in
    let some : 0 < w = elim (cases_lt 0 w) [ inl some ↦ some | inr none ↦ absurd (omega (arith, mul-le-mul_left n.shape.arms none)) ] in
    let at : k / w * w + k % w ≡ k = omega arith in
    get_or-take sends xs k 0 within
    ∙ (ap (λ (z : List ℕ). slice_index z k) is
    ∙ (ap (slice_index n.row) (sym at) ∙ none (k / w) (k % w) (div_below k w n.shape.arms some within) (mod_below k w some)))
