-- What the table of split rows tells of a node and a destination.
use Rattle.std.proofs.Common.{◌≡◌, ℕ, List, [], ◌∷◌, ◌==◌, ◌&&◌, ◌||◌, true, false, cond, Some, is_some, slice_get, refl, ap, ◌∙◌, arith}
use Rattle.std.proofs.lemmas.Bool.Decides.{nat_tests}
use Rattle.std.specs.Ordering.{is_eq}
use Rattle.std.specs.Option.{option_map}
use Rattle.std.specs.List.{filter}
use Rattle.std.specs.Map.{lookup}
use Rattle.std.specs.BTreeMap.{is_at}
use Rattle.ltm_splits.specs.declared.keys.SplitKey.{SplitKey}
use Rattle.ltm_splits.specs.Rows.{SplitRow, split_cmp, is_of, key_of, row_of, begins}
use Rattle.ltm_scenario.specs.Reads.{has_split}
use Rattle.ltm_scenario.specs.Valid.{has_start}

-- they begin somewhere exactly where they have a row
pub begins_tells : (rows : List SplitRow) (node destination : ℕ) → is_some (begins rows node destination) ≡ has_split rows node destination
begins_tells [] node destination = refl
begins_tells (x ∷ xs) node destination =
    elim (is_of node destination x) as (λ b. is_some (option_map (λ (row : SplitRow). row.0.from) (slice_get (cond b (x ∷ filter (is_of node destination) xs) (filter (is_of node destination) xs)) 0)) ≡ (b || has_split xs node destination)) [
      | true ↦ refl
      | false ↦ begins_tells xs node destination
    ]

same_start : (n d : ℕ) (k : SplitKey) → is_eq (split_cmp (key_of n d 0) k) ≡ (((k.node.0 == n) && (k.destination == d)) && (k.from == 0))
same_start n d k = grind (arith, nat_tests)

-- they have a row from slot 0 on exactly where that key stands
pub start_tells : (rows : List SplitRow) (node destination : ℕ) → is_some (row_of rows (key_of node destination 0)) ≡ has_start rows node destination
start_tells [] n d = refl
start_tells (x ∷ xs) n d =
    ap (λ b. is_some (cond b (Some x.1) (lookup (is_at (split_cmp (key_of n d 0))) xs))) (same_start n d x.0)
    ∙ elim (is_of n d x && (x.0.from == 0)) as (λ b. is_some (cond b (Some x.1) (lookup (is_at (split_cmp (key_of n d 0))) xs)) ≡ (b || has_start xs n d)) [
      | true ↦ refl
      | false ↦ start_tells xs n d
    ]
