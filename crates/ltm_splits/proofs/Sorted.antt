-- Rows in the order of their keys stay so, and what an edit did is undone by putting back what stood there.
use Rattle.std.proofs.Common.{◌≡◌, ◌+◌, ℕ, Bool, true, false, List, [], ◌∷◌, length, Some, None, cond, refl, sym, ap, ◌∙◌, arith}
use Rattle.std.specs.declared.cmp.Ordering.{Ordering}
use Rattle.std.specs.declared.cmp.Ordering.TheVariants.{Less, Equal, Greater}
use Rattle.std.specs.Ordering.{match_ordering, is_eq}
use Rattle.std.specs.Cmp.{IsTotalOrder, on_total, nat_cmp_total}
use Rattle.std.proofs.lemmas.Cmp.{then_total}
use Rattle.std.proofs.lemmas.Bool.Decides.{nat_tests}
use Rattle.std.specs.Map.{lookup, remove_entry, keys_of}
use Rattle.std.specs.List.{AllByRecursion}
use Rattle.std.specs.List.Sorted.{IsStrictlySortedBy}
use Rattle.std.proofs.lemmas.Map.Entries.{none_below_head}
use Rattle.std.proofs.lemmas.Map.{lookup-none}
use Rattle.std.proofs.lemmas.Map.Keys.{sorted_tail}
use Rattle.std.specs.BTreeMap.{insert_entry, is_at}
use Rattle.ltm_splits.specs.declared.keys.SplitKey.{SplitKey}
use Rattle.ltm_splits.specs.Rows.{SplitRow, split_cmp, row_of, put_in, taken_out, put_back, IsOrdered, HaveWeights}
use Rattle.ltm_splits.specs.Weights.{AreWeights}
use Rattle.std.proofs.lemmas.List.Elements.{All-from_recursion, recursion_from_All}

same_Some : {A : Type 0} (x y : A) → Some x ≡ Some y → x ≡ y
same_Some x y e = cc

module _ {K X : Type 0} (R : K → K → Ordering) where
  all_put : (P : K → Type 0) (k : K) (v : X) (es : List (K × X)) → AllByRecursion P (keys_of es) → P k → AllByRecursion P (keys_of (insert_entry R es k v))
  all_put P k v [] all one = (one, tt)
  all_put P k v (e ∷ es) all one =
      elim (R k e.0) as (λ r. AllByRecursion P (keys_of (match_ordering r ((k, v) ∷ e ∷ es) ((e.0, v) ∷ es) (e ∷ insert_entry R es k v)))) [
        | Less ↦ (one, all)
        | Equal ↦ all
        | Greater ↦ (all.0, all_put P k v es all.1 one)
      ]

  all_take : (P : K → Type 0) (test : K → Bool) (es : List (K × X)) → AllByRecursion P (keys_of es) → AllByRecursion P (keys_of (remove_entry test es))
  all_take P test [] all = tt
  all_take P test (e ∷ es) all =
      elim (test e.0) as (λ b. AllByRecursion P (keys_of (cond b es (e ∷ remove_entry test es)))) [
        | true ↦ all.1
        | false ↦ (all.0, all_take P test es all.1)
      ]

  pub sorted_take : (test : K → Bool) (es : List (K × X)) → IsStrictlySortedBy R (keys_of es) → IsStrictlySortedBy R (keys_of (remove_entry test es))
  unfolding IsStrictlySortedBy
  sorted_take test [] s = tt
  sorted_take test (e ∷ es) s =
      elim (test e.0) as (λ b. IsStrictlySortedBy R (keys_of (cond b es (e ∷ remove_entry test es)))) [
        | true ↦ s.1
        | false ↦ (all_take (λ y. R e.0 y ≡ Less) test es s.0, sorted_take test es s.1)
      ]

  pub sorted_put : ((x y : K) → R x y ≡ Greater → R y x ≡ Less) → ((x y z : K) → R x y ≡ Less → R y z ≡ Less → R x z ≡ Less) →
      (k : K) (v : X) (es : List (K × X)) → IsStrictlySortedBy R (keys_of es) → IsStrictlySortedBy R (keys_of (insert_entry R es k v))
  unfolding IsStrictlySortedBy
  sorted_put flip trans k v [] s = (tt, tt)
  sorted_put flip trans k v (e ∷ es) s =
      elim (R k e.0) as (λ r. R k e.0 ≡ r → IsStrictlySortedBy R (keys_of (match_ordering r ((k, v) ∷ e ∷ es) ((e.0, v) ∷ es) (e ∷ insert_entry R es k v)))) [
        | Less ↦ λ is. ((is, all_weaker (keys_of es) (λ y. trans k e.0 y is) s.0), s)
        | Equal ↦ λ is. s
        | Greater ↦ λ is. (all_put (λ y. R e.0 y ≡ Less) k v es s.0 (flip k e.0 is), sorted_put flip trans k v es s.1)
      ] refl
    where
      all_weaker : (ks : List K) → ((y : K) → R e.0 y ≡ Less → R k y ≡ Less) → AllByRecursion (λ y. R e.0 y ≡ Less) ks → AllByRecursion (λ y. R k y ≡ Less) ks
      all_weaker [] h a = tt
      all_weaker (y ∷ ys) h a = (h y a.0, all_weaker ys h a.1)

  -- a row that was not there makes one more
  pub length_put_new : (k : K) (v : X) (es : List (K × X)) → lookup (is_at (R k)) es ≡ None → length (insert_entry R es k v) ≡ length es + 1
  length_put_new k v [] none = refl
  length_put_new k v (e ∷ es) none =
      elim (R k e.0) as (λ r. R k e.0 ≡ r → cond (is_eq r) (Some e.1) (lookup (is_at (R k)) es) ≡ None → length (match_ordering r ((k, v) ∷ e ∷ es) ((e.0, v) ∷ es) (e ∷ insert_entry R es k v)) ≡ length (e ∷ es) + 1) [
        | Less ↦ λ is gone. omega arith
        | Equal ↦ λ is gone. cc
        | Greater ↦ λ is gone. let rest = length_put_new k v es gone in omega arith
      ] refl none

  -- a row in place of another makes no more
  pub length_put_old : IsTotalOrder R → (k : K) (v w : X) (es : List (K × X)) → IsStrictlySortedBy R (keys_of es) → lookup (is_at (R k)) es ≡ Some w → length (insert_entry R es k v) ≡ length es
  length_put_old total k v w [] sorted found = cc
  length_put_old total k v w (e ∷ es) sorted found =
      elim (R k e.0) as (λ r. R k e.0 ≡ r → cond (is_eq r) (Some e.1) (lookup (is_at (R k)) es) ≡ Some w → length (match_ordering r ((k, v) ∷ e ∷ es) ((e.0, v) ∷ es) (e ∷ insert_entry R es k v)) ≡ length (e ∷ es)) [
        | Less ↦ λ is here.
            let none : lookup (is_at (R k)) (e ∷ es) ≡ None = lookup-none (is_at (R k)) (e ∷ es) (none_below_head total k e es sorted is) in
            absurd (let no : None ≡ Some w = sym none ∙ found in cc)
        | Equal ↦ λ is here. refl
        | Greater ↦ λ is here. let rest = length_put_old total k v w es (sorted_tail R e.0 (keys_of es) sorted) here in omega arith
      ] refl found

  pub length_take : (test : K → Bool) (w : X) (es : List (K × X)) → lookup test es ≡ Some w → length (remove_entry test es) + 1 ≡ length es
  length_take test w [] found = cc
  length_take test w (e ∷ es) found =
      elim (test e.0) as (λ b. cond b (Some e.1) (lookup test es) ≡ Some w → length (cond b es (e ∷ remove_entry test es)) + 1 ≡ length (e ∷ es)) [
        | true ↦ λ here. omega arith
        | false ↦ λ here. let rest = length_take test w es here in omega arith
      ] found

  pub take_absent : (test : K → Bool) (es : List (K × X)) → lookup test es ≡ None → remove_entry test es ≡ es
  take_absent test [] none = refl
  take_absent test (e ∷ es) none =
      elim (test e.0) as (λ b. cond b (Some e.1) (lookup test es) ≡ None → cond b es (e ∷ remove_entry test es) ≡ e ∷ es) [
        | true ↦ λ gone. cc
        | false ↦ λ gone. ap (λ l. e ∷ l) (take_absent test es gone)
      ] none

  -- a row that was put in is found
  pub lookup_put : ((x : K) → R x x ≡ Equal) → (k : K) (v : X) (es : List (K × X)) → lookup (is_at (R k)) (insert_entry R es k v) ≡ Some v
  lookup_put itself k v [] = ap (λ r. cond (is_eq r) (Some v) None) (itself k)
  lookup_put itself k v (e ∷ es) =
      elim (R k e.0) as (λ r. R k e.0 ≡ r → lookup (is_at (R k)) (match_ordering r ((k, v) ∷ e ∷ es) ((e.0, v) ∷ es) (e ∷ insert_entry R es k v)) ≡ Some v) [
        | Less ↦ λ is. ap (λ r. cond (is_eq r) (Some v) (lookup (is_at (R k)) (e ∷ es))) (itself k)
        | Equal ↦ λ is. ap (λ r. cond (is_eq r) (Some v) (lookup (is_at (R k)) es)) is
        | Greater ↦ λ is. ap (λ r. cond (is_eq r) (Some e.1) (lookup (is_at (R k)) (insert_entry R es k v))) is ∙ lookup_put itself k v es
      ] refl

  -- a row that was not there is taken out again
  pub remove_entry-insert_entry : ((x : K) → R x x ≡ Equal) → (k : K) (v : X) (es : List (K × X)) → lookup (is_at (R k)) es ≡ None → remove_entry (is_at (R k)) (insert_entry R es k v) ≡ es
  remove_entry-insert_entry itself k v [] none = ap (λ r. cond (is_eq r) [] ((k, v) ∷ [])) (itself k)
  remove_entry-insert_entry itself k v (e ∷ es) none =
      elim (R k e.0) as (λ r. R k e.0 ≡ r → cond (is_eq r) (Some e.1) (lookup (is_at (R k)) es) ≡ None → remove_entry (is_at (R k)) (match_ordering r ((k, v) ∷ e ∷ es) ((e.0, v) ∷ es) (e ∷ insert_entry R es k v)) ≡ e ∷ es) [
        | Less ↦ λ is gone. ap (λ r. cond (is_eq r) (e ∷ es) ((k, v) ∷ remove_entry (is_at (R k)) (e ∷ es))) (itself k)
        | Equal ↦ λ is gone. cc
        | Greater ↦ λ is gone. ap (λ r. cond (is_eq r) (insert_entry R es k v) (e ∷ remove_entry (is_at (R k)) (insert_entry R es k v))) is ∙ ap (λ t. e ∷ t) (remove_entry-insert_entry itself k v es gone)
      ] refl none

  -- a row that was replaced is put back
  pub insert_entry-back : (es : List (K × X)) (k : K) (v w : X) → IsStrictlySortedBy R (keys_of es) → IsTotalOrder R → lookup (is_at (R k)) es ≡ Some w → insert_entry R (insert_entry R es k v) k w ≡ es
  insert_entry-back [] k v w sorted total found = cc
  insert_entry-back (e ∷ es) k v w sorted total found =
      elim (R k e.0) as (λ r. R k e.0 ≡ r → cond (is_eq r) (Some e.1) (lookup (is_at (R k)) es) ≡ Some w → insert_entry R (match_ordering r ((k, v) ∷ e ∷ es) ((e.0, v) ∷ es) (e ∷ insert_entry R es k v)) k w ≡ e ∷ es) [
        | Less ↦ λ is here.
            let none : lookup (is_at (R k)) (e ∷ es) ≡ None = lookup-none (is_at (R k)) (e ∷ es) (none_below_head total k e es sorted is) in
            let both : None ≡ Some w = sym none ∙ found in
            absurd (let no : Some w ≡ None = sym both in cc)
        | Equal ↦ λ is here.
            let value : e.1 ≡ w = same_Some e.1 w here in
            ap (λ r. match_ordering r ((k, w) ∷ (e.0, v) ∷ es) ((e.0, w) ∷ es) ((e.0, v) ∷ insert_entry R es k w)) is ∙ ap (λ x. (e.0, x) ∷ es) (sym value)
        | Greater ↦ λ is here.
            ap (λ r. match_ordering r ((k, w) ∷ e ∷ insert_entry R es k v) ((e.0, w) ∷ insert_entry R es k v) (e ∷ insert_entry R (insert_entry R es k v) k w)) is
            ∙ ap (λ t. e ∷ t) (insert_entry-back es k v w (sorted_tail R e.0 (keys_of es) sorted) total here)
      ] refl found

pub split_total : IsTotalOrder split_cmp
split_total = then_total (on_total (λ (k : SplitKey). k.node.0) nat_cmp_total) (then_total (on_total (λ (k : SplitKey). k.destination) nat_cmp_total) (on_total (λ (k : SplitKey). k.from) nat_cmp_total))

split_itself : (k : SplitKey) → split_cmp k k ≡ Equal
split_itself k = grind (arith, nat_tests)

split_flip : (x y : SplitKey) → split_cmp x y ≡ Greater → split_cmp y x ≡ Less
split_flip x y h = grind (arith, nat_tests)

split_trans : (x y z : SplitKey) → split_cmp x y ≡ Less → split_cmp y z ≡ Less → split_cmp x z ≡ Less
split_trans x y z h k = grind (arith, nat_tests)

pub ordered_put : (key : SplitKey) (w : List ℕ) (rows : List SplitRow) → IsOrdered rows → IsOrdered (put_in rows key w)
ordered_put key w rows s = sorted_put split_cmp split_flip split_trans key w rows s

pub ordered_take : (key : SplitKey) (rows : List SplitRow) → IsOrdered rows → IsOrdered (taken_out rows key)
ordered_take key rows s = sorted_take split_cmp _ rows s

pub back_new : (key : SplitKey) (w : List ℕ) (rows : List SplitRow) → row_of rows key ≡ None → put_back (put_in rows key w) key (row_of rows key) ≡ rows
back_new key w rows none = ap (put_back (put_in rows key w) key) none ∙ remove_entry-insert_entry split_cmp split_itself key w rows none

pub back_old : (key : SplitKey) (w v : List ℕ) (rows : List SplitRow) → IsOrdered rows → row_of rows key ≡ Some v → put_back (put_in rows key w) key (row_of rows key) ≡ rows
back_old key w v rows s found = ap (put_back (put_in rows key w) key) found ∙ insert_entry-back split_cmp rows key w v s split_total found

pub there : (key : SplitKey) (w : List ℕ) (rows : List SplitRow) → row_of (put_in rows key w) key ≡ Some w
there key w rows = lookup_put split_cmp split_itself key w rows

put_weights : (key : SplitKey) (w : List ℕ) (rows : List SplitRow) → AreWeights w → AllByRecursion (λ row. AreWeights row.1) rows → AllByRecursion (λ row. AreWeights row.1) (put_in rows key w)
put_weights key w [] one all = (one, tt)
put_weights key w (e ∷ es) one all =
    elim (split_cmp key e.0) as (λ r. AllByRecursion (λ row. AreWeights row.1) (match_ordering r ((key, w) ∷ e ∷ es) ((e.0, w) ∷ es) (e ∷ put_in es key w))) [
      | Less ↦ (one, all)
      | Equal ↦ (one, all.1)
      | Greater ↦ (all.0, put_weights key w es one all.1)
    ]

take_weights : (key : SplitKey) (rows : List SplitRow) → AllByRecursion (λ row. AreWeights row.1) rows → AllByRecursion (λ row. AreWeights row.1) (taken_out rows key)
take_weights key [] all = tt
take_weights key (e ∷ es) all =
    elim (is_eq (split_cmp key e.0)) as (λ b. AllByRecursion (λ row. AreWeights row.1) (cond b es (e ∷ taken_out es key))) [
      | true ↦ all.1
      | false ↦ (all.0, take_weights key es all.1)
    ]

pub weights_put : (key : SplitKey) (w : List ℕ) (rows : List SplitRow) → AreWeights w → HaveWeights rows → HaveWeights (put_in rows key w)
weights_put key w rows one all = All-from_recursion (λ row. AreWeights row.1) (put_in rows key w) (put_weights key w rows one (recursion_from_All (λ row. AreWeights row.1) rows all))

pub weights_take : (key : SplitKey) (rows : List SplitRow) → HaveWeights rows → HaveWeights (taken_out rows key)
weights_take key rows all = All-from_recursion (λ row. AreWeights row.1) (taken_out rows key) (take_weights key rows (recursion_from_All (λ row. AreWeights row.1) rows all))
