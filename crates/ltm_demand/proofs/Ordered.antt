-- Rows in the order of their keys: the order, and what a row set in its place leaves.
use Rattle.std.proofs.Common.{◌≡◌, true, List, [], ◌∷◌, ◌++◌, refl, ap, ◌∙◌}
use Rattle.std.specs.List.{AllByRecursion}
use Rattle.std.specs.List.Sorted.{IsStrictlySortedBy}
use Rattle.std.specs.Cmp.{IsTotalOrder, nat_cmp_total, on_total}
use Rattle.std.specs.declared.cmp.Ordering.{Ordering}
use Rattle.std.specs.declared.cmp.Ordering.TheVariants.{Less, Equal, Greater}
use Rattle.std.specs.Ordering.{ordering_then, ordering_reverse, is_lt, is_gt}
use Rattle.std.proofs.lemmas.Cmp.{then_total}
use Rattle.std.proofs.lemmas.Map.Lookups.{exact_unsigned}
use Rattle.ltm_demand.specs.declared.row.DemandRow.{DemandRow}
use Rattle.ltm_demand.specs.Rows.{row_cmp, with_amount}

pub row_total : IsTotalOrder row_cmp
row_total = then_total (on_total (λ (r : DemandRow). r.origin.0) nat_cmp_total) (then_total (on_total (λ (r : DemandRow). r.destination) nat_cmp_total) (then_total (on_total (λ (r : DemandRow). r.from) nat_cmp_total) (on_total (λ (r : DemandRow). r.to) nat_cmp_total)))

both_equal : (a b : Ordering) → ordering_then a b ≡ Equal → (a ≡ Equal) × (b ≡ Equal)
both_equal Less b e = cc
both_equal Equal b e = (refl, e)
both_equal Greater b e = cc

-- rows with one key differ in their amounts alone
pub same_key_is : (x y : DemandRow) → row_cmp x y ≡ Equal → x ≡ with_amount y x.amount.0
same_key_is x y e =
    let a = both_equal _ _ e in
    let b = both_equal _ _ a.1 in
    let d = both_equal _ _ b.1 in
    let o = exact_unsigned _ _ a.0 in
    let p = exact_unsigned _ _ b.0 in
    let q = exact_unsigned _ _ d.0 in
    let r = exact_unsigned _ _ d.1 in
    λ i. record { origin = record { 0 = o i }; destination = p i; from = q i; to = r i; amount = x.amount }

pub lt_less : (r : Ordering) → is_lt r ≡ true → r ≡ Less
lt_less Less e = refl
lt_less Equal e = cc
lt_less Greater e = cc

pub gt_greater : (r : Ordering) → is_gt r ≡ true → r ≡ Greater
gt_greater Less e = cc
gt_greater Equal e = cc
gt_greater Greater e = refl

-- a row behind another has that other before it
pub less_back : (x y : DemandRow) → row_cmp x y ≡ Greater → row_cmp y x ≡ Less
less_back x y e = row_total.antisymm y x ∙ ap ordering_reverse e

pub greater_back : (x y : DemandRow) → row_cmp x y ≡ Less → row_cmp y x ≡ Greater
greater_back x y e = row_total.antisymm y x ∙ ap ordering_reverse e

pub sorted_cons : (x : DemandRow) (xs : List DemandRow) → AllByRecursion (λ y. row_cmp x y ≡ Less) xs → IsStrictlySortedBy row_cmp xs → IsStrictlySortedBy row_cmp (x ∷ xs)
unfolding IsStrictlySortedBy
sorted_cons x xs all sorted = (all, sorted)

all_append : {X : Type 0} (P : X → Type 0) (xs ys : List X) → AllByRecursion P xs → AllByRecursion P ys → AllByRecursion P (xs ++ ys)
all_append P [] ys a b = b
all_append P (x ∷ xs) ys a b = (a.0, all_append P xs ys a.1 b)

pub sorted_append : (xs ys : List DemandRow) → IsStrictlySortedBy row_cmp xs → IsStrictlySortedBy row_cmp ys → AllByRecursion (λ x. AllByRecursion (λ y. row_cmp x y ≡ Less) ys) xs → IsStrictlySortedBy row_cmp (xs ++ ys)
unfolding IsStrictlySortedBy
sorted_append [] ys a b across = b
sorted_append (x ∷ xs) ys a b across = (all_append (λ y. row_cmp x y ≡ Less) xs ys a.0 across.0, sorted_append xs ys a.1 b across.1)
