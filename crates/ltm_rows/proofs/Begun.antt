-- Where no row of a node begins, the weights of the slot before stay in force.
use Rattle.std.proofs.Common.{◌≡◌, ℕ, ◌+◌, ◌*◌, ◌/◌, ◌%◌, Bool, true, false, cond, ◌&&◌, ◌||◌, nat_le, List, [], ◌∷◌, None, arith, refl, ap, ◌∙◌}
use Rattle.std.specs.Prelude.{filter}
use Rattle.std.specs.List.{last_or}
use Rattle.std.specs.Option.{option_map}
use Rattle.std.proofs.lemmas.Bool.Decides.{nat_tests}
use Rattle.ltm_splits.specs.Rows.{SplitRow, is_of, row_in_force}
use Rattle.ltm_inputs.specs.Parts.{weights_part}
use Rattle.ltm_curve.specs.First.{list_below}
use Rattle.ltm_curve.proofs.Lists.{length-list_below, index-list_below, list_from}
use Rattle.ltm_scenario.specs.Data.{ScenarioData}
use Rattle.ltm_setting.specs.Setting.{setting_of, weight_in_force}
use Rattle.ltm_rows.specs.Begins.{key_begins, row_begins}

-- a row is passed
pub either_way : (a b c : Bool) → (a || (b || c)) ≡ ((b || a) || c)
either_way true true c = refl
either_way true false c = refl
either_way false true c = refl
either_way false false c = refl

-- whether a row of the pair of node and destination has begun
abbrev has_begun : ℕ → ℕ → ℕ → SplitRow → Bool
has_begun n d t row = is_of n d row && nat_le row.0.from t

pub none_of : (a b : Bool) → (a || b) ≡ false → (a ≡ false) × (b ≡ false)
none_of true b h = grind arith
none_of false b h = (refl, h)

begun_before : (n d t : ℕ) (row : SplitRow) → key_begins row.0 n (t + 1) ≡ false → has_begun n d (t + 1) row ≡ has_begun n d t row
begun_before n d t row h = grind (arith, nat_tests)

same_begun : (rows : List SplitRow) (n d t : ℕ) → row_begins rows n (t + 1) ≡ false → filter (has_begun n d (t + 1)) rows ≡ filter (has_begun n d t) rows
same_begun [] n d t h = refl
same_begun (x ∷ xs) n d t h =
    let each = none_of (key_begins x.0 n (t + 1)) (row_begins xs n (t + 1)) h in
    ap (λ b. cond b (x ∷ filter (has_begun n d (t + 1)) xs) (filter (has_begun n d (t + 1)) xs)) (begun_before n d t x each.0)
    ∙ ap (λ l. cond (has_begun n d t x) (x ∷ l) l) (same_begun xs n d t each.1)

pub same_in_force : (rows : List SplitRow) (n d t : ℕ) → row_begins rows n (t + 1) ≡ false → row_in_force rows n d (t + 1) ≡ row_in_force rows n d t
same_in_force rows n d t h = ap (λ l. option_map (λ row. row.1) (last_or None l)) (same_begun rows n d t h)

same_weight : (rows : List SplitRow) (n d t j : ℕ) → row_begins rows n (t + 1) ≡ false → weight_in_force rows n d (t + 1) j ≡ weight_in_force rows n d t j
same_weight rows n d t j h = rw (same_in_force rows n d t h) refl

pub same_weights : (s : ScenarioData) (u t : ℕ) → row_begins s.splits u (t + 1) ≡ false → weights_part (setting_of s) u (t + 1) ≡ weights_part (setting_of s) u t
unfolding setting_of
same_weights s u t h =
    let w : ℕ = (setting_of s).outs u in
    let n : ℕ = (setting_of s).destinations * w in
    let of : ℕ → ℕ → ℕ = λ v z. (setting_of s).weight u (z / w) v (z % w) in
    list_from n (of t) (list_below n (of (t + 1))) (length-list_below n (of (t + 1)))
    (λ z l. index-list_below n (of (t + 1)) z l ∙ same_weight s.splits u (z / w) t (z % w) h)
