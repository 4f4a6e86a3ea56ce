-- No rule is broken exactly where all four hold.
use Rattle.std.proofs.Common.{◌≡◌, List, [], ◌∷◌, ◌&&◌, ◌↔◌, IsOk, Bool, true, false, Ok, Err, refl, sym, ap, ◌∙◌}
use Rattle.std.specs.List.{list_all, zip}
use Rattle.ltm_splits.specs.Rows.{SplitRow}
use Rattle.ltm_network.specs.Network.{out_links}
use Rattle.ltm_scenario.specs.declared.faults.ScenarioFault.{ScenarioFault}
use Rattle.ltm_scenario.specs.Data.{ScenarioData}
use Rattle.ltm_scenario.specs.Valid.{IsValid, leads_on, is_demand_split, is_split_begun, is_split_led, is_small}
use Rattle.ltm_units.specs.Results.{◌>>>◌}
use Rattle.ltm_scenario.specs.Check.{Checked, need, first_over, no_split, demand_row_checked, weight_checked, weights_checked, split_row_checked, cells_checked, checked}

needed : (b : Bool) (fault : ScenarioFault) → need b fault ≡ Ok tt → b ≡ true
needed true fault is = refl
needed false fault is = cc

given : (b : Bool) (fault : ScenarioFault) → b ≡ true → need b fault ≡ Ok tt
given b fault is = ap (λ t. need t fault) is

first_passed : (a b : Checked) → (a >>> b) ≡ Ok tt → (a ≡ Ok tt) × (b ≡ Ok tt)
first_passed (Ok x) b is = (refl, is)
first_passed (Err fault) b is = cc

both_pass : (a b : Checked) → a ≡ Ok tt → b ≡ Ok tt → (a >>> b) ≡ Ok tt
both_pass a b ha hb = ap (λ r. r >>> b) ha ∙ hb

and_join : (a b : Bool) → a ≡ true → b ≡ true → (a && b) ≡ true
and_join a b e f = ap (λ x. x && b) e ∙ f

and_parts : (a b : Bool) → (a && b) ≡ true → (a ≡ true) × (b ≡ true)
and_parts true b e = (refl, e)
and_parts false b e = cc

over_tells : {A : Type 0} (check : A → Checked) (test : A → Bool) → ((x : A) → check x ≡ Ok tt → test x ≡ true) → (xs : List A) → first_over check xs ≡ Ok tt → list_all test xs ≡ true
over_tells check test tells [] is = refl
over_tells check test tells (x ∷ xs) is =
    let parts = first_passed (check x) (first_over check xs) is in
    and_join (test x) (list_all test xs) (tells x parts.0) (over_tells check test tells xs parts.1)

over_told : {A : Type 0} (check : A → Checked) (test : A → Bool) → ((x : A) → test x ≡ true → check x ≡ Ok tt) → (xs : List A) → list_all test xs ≡ true → first_over check xs ≡ Ok tt
over_told check test told [] is = refl
over_told check test told (x ∷ xs) is =
    let parts = and_parts (test x) (list_all test xs) is in
    both_pass (check x) (first_over check xs) (told x parts.0) (over_told check test told xs parts.1)

-- a split row passes where it begins at slot 0 and leads on
split_passed : (s : ScenarioData) (row : SplitRow) → split_row_checked s row ≡ Ok tt → (is_split_begun s row ≡ true) × (is_split_led s row ≡ true)
split_passed s row is =
    let parts = first_passed (need (is_split_begun s row) (no_split s row.0.node.0 row.0.destination)) (weights_checked s row.0.node.0 row.0.destination row.1) is in (
      needed (is_split_begun s row) _ parts.0,
      over_tells (weight_checked s row.0.destination) (λ p. leads_on s row.0.destination p.0 p.1) (λ p. needed (leads_on s row.0.destination p.0 p.1) _) (zip (out_links s.network row.0.node.0) row.1) parts.1,
    )

split_passes : (s : ScenarioData) (row : SplitRow) → is_split_begun s row ≡ true → is_split_led s row ≡ true → split_row_checked s row ≡ Ok tt
split_passes s row begun led =
    both_pass (need (is_split_begun s row) (no_split s row.0.node.0 row.0.destination)) (weights_checked s row.0.node.0 row.0.destination row.1) (given (is_split_begun s row) _ begun)
    (over_told (weight_checked s row.0.destination) (λ p. leads_on s row.0.destination p.0 p.1) (λ p. given (leads_on s row.0.destination p.0 p.1) _) (zip (out_links s.network row.0.node.0) row.1) led)

and_all : {A : Type 0} (p q : A → Bool) (xs : List A) → list_all p xs ≡ true → list_all q xs ≡ true → list_all (λ x. p x && q x) xs ≡ true
and_all p q [] ha hb = refl
and_all p q (x ∷ xs) ha hb =
    let a = and_parts (p x) (list_all p xs) ha in
    let b = and_parts (q x) (list_all q xs) hb in
    and_join (p x && q x) (list_all (λ y. p y && q y) xs) (and_join (p x) (q x) a.0 b.0) (and_all p q xs a.1 b.1)

pub valid_from_checked : (s : ScenarioData) → checked s ≡ Ok tt → IsValid s
valid_from_checked s is =
    let one = first_passed (first_over (demand_row_checked s) s.demand) (first_over (split_row_checked s) s.splits >>> cells_checked s) is in
    let two = first_passed (first_over (split_row_checked s) s.splits) (cells_checked s) one.1 in
    record {
      demand_is_split = over_tells (demand_row_checked s) (is_demand_split s) (λ row. needed (is_demand_split s row) _) s.demand one.0;
      splits_are_begun = over_tells (split_row_checked s) (is_split_begun s) (λ row passed. (split_passed s row passed).0) s.splits two.0;
      splits_are_led = over_tells (split_row_checked s) (is_split_led s) (λ row passed. (split_passed s row passed).1) s.splits two.0;
      small = needed (is_small s) _ two.1;
    }

pub checked_from_valid : (s : ScenarioData) → IsValid s → checked s ≡ Ok tt
checked_from_valid s is =
    both_pass (first_over (demand_row_checked s) s.demand) (first_over (split_row_checked s) s.splits >>> cells_checked s)
    (over_told (demand_row_checked s) (is_demand_split s) (λ row. given (is_demand_split s row) _) s.demand is.demand_is_split)
    (both_pass (first_over (split_row_checked s) s.splits) (cells_checked s)
    (over_told (split_row_checked s) (λ row. is_split_begun s row && is_split_led s row) (λ row both. let parts = and_parts (is_split_begun s row) (is_split_led s row) both in split_passes s row parts.0 parts.1) s.splits
    (and_all (is_split_begun s) (is_split_led s) s.splits is.splits_are_begun is.splits_are_led))
    (given (is_small s) _ is.small))

-- an answer that is Ok is the one Ok
only_ok : (r : Checked) → IsOk r → r ≡ Ok tt
only_ok (Ok x) h = refl
only_ok (Err fault) h = cc

ok_is : (r : Checked) → r ≡ Ok tt → IsOk r
ok_is (Ok x) h = refl
ok_is (Err fault) h = cc

pub valid_is_checked : (s : ScenarioData) (r : Checked) → r ≡ checked s → IsOk r ↔ IsValid s
valid_is_checked s r is = (λ ok. valid_from_checked s (sym is ∙ only_ok r ok), λ valid. ok_is r (is ∙ checked_from_valid s valid))
