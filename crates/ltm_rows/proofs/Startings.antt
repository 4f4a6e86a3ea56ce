-- Where the rows of each node begin.
use Rattle.std.proofs.Common.{◌≡◌, ℕ, zero, suc, ◌+◌, ◌-◌, ◌<◌, ◌≤◌, List, length, slice_index, arith, subst}
use Rattle.ltm_inputs.specs.Setting.{Setting}
use Rattle.ltm_rows.specs.declared.layout.Part.{Part}
use Rattle.ltm_rows.specs.Starts.{row_width, AreStarts}

rises_by : (s : Setting) (part : Part) (n : ℕ) (xs : List ℕ) → AreStarts s part n xs → (u k : ℕ) → u + k ≤ n → slice_index xs u ≤ slice_index xs (u + k)
rises_by s part n xs h u zero l = let e : u + zero ≡ u = omega arith in rw e (omega arith)
rises_by s part n xs h u (suc k) l =
    let before : slice_index xs u ≤ slice_index xs (u + k) = rises_by s part n xs h u k (omega arith) in
    let step : slice_index xs (u + k + 1) ≡ slice_index xs (u + k) + row_width s part (u + k) = h.steps (u + k) (omega arith) in
    let e : u + suc k ≡ u + k + 1 = omega arith in
    rw e (omega (before, step, arith))

pub starts_rise : (s : Setting) (part : Part) (n : ℕ) (xs : List ℕ) → AreStarts s part n xs → (u w : ℕ) → u ≤ w → w < length xs → slice_index xs u ≤ slice_index xs w
starts_rise s part n xs h u w l m = let e : u + (w - u) ≡ w = omega arith in subst (λ (z : ℕ). slice_index xs u ≤ slice_index xs z) e (rises_by s part n xs h u (w - u) (omega (h.long, arith)))
