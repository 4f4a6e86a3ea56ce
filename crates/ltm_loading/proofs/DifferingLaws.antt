-- How many pairs differ.
use Rattle.std.proofs.Common.{◌≡◌, ℕ, ◌+◌, ◌<◌, ◌≤◌, arith, ap, sym, ◌∙◌}
use Rattle.std.specs.Prelude.{Some}
use Rattle.ltm_curve.specs.Counts.{Counts}
use Rattle.ltm_loading.specs.Setting.{Setting, IsSetting}
use Rattle.ltm_loading.specs.Pairs.{pair_row}
use Rattle.ltm_loading.specs.Loading.{IsLoading}
use Rattle.ltm_loading.specs.Differing.{sum_pairs, unlike, row_of, differing, NoneDiffer, DifferingIsWithinPairs, DifferencesAddUp, DifferingEitherWay}
use Rattle.ltm_loading.proofs.Same.{pair_row_same}
use Rattle.ltm_loading.proofs.One.{fronts_agree}
use Rattle.ltm_loading.proofs.Unlike.{unlike_same, unlike_le, unlike_sym, unlike_triangle, row_of_old, row_of_new}
use Rattle.ltm_loading.proofs.PairSums.{sum_pairs-none, sum_pairs-most, sum_pairs-grows, sum_pairs-same}

-- a pair reads the same of two loadings of one setting
loadings_read : (s : Setting) (a b : Counts) (u t : ℕ) → IsSetting s → IsLoading s a → IsLoading s b → u < s.nodes → t < s.slots → pair_row s a u t ≡ pair_row s b u t
loadings_read s a b u t v la lb x y =
    pair_row_same s a b u t v (record {
      same = λ g d k z m l. (fronts_agree s a b s.slots v (omega arith) la.front la.no_origin lb.front lb.no_origin).same g d k z m (omega arith);
    }) x

pub none_differ_holds : NoneDiffer
unfolding differing
none_differ_holds s a b v la lb =
    sum_pairs-none s.nodes s.slots (λ u t. unlike (row_of s a u t) (Some (pair_row s b u t)))
    (λ u t x y. unlike_same (row_of s a u t) (Some (pair_row s b u t)) (row_of_old s a u t y ∙ ap (λ z. Some z) (loadings_read s a b u t v la lb x y)))

pub differing_is_within_pairs_holds : DifferingIsWithinPairs
unfolding differing
differing_is_within_pairs_holds s r a b =
    sum_pairs-most r.nodes r.slots (λ u t. unlike (row_of s a u t) (Some (pair_row r b u t))) (λ u t. unlike_le (row_of s a u t) (Some (pair_row r b u t)))

pub differences_add_up_holds : DifferencesAddUp
unfolding differing
differences_add_up_holds q r s a b c same first second =
    let F : ℕ → ℕ → ℕ = λ u t. unlike (row_of q a u t) (Some (pair_row s c u t)) in
    let G : ℕ → ℕ → ℕ = λ u t. unlike (row_of q a u t) (Some (pair_row r b u t)) in
    let H : ℕ → ℕ → ℕ = λ u t. unlike (row_of r b u t) (Some (pair_row s c u t)) in
    let over : sum_pairs r.nodes r.slots G ≡ sum_pairs s.nodes r.slots G = ap (λ n. sum_pairs n r.slots G) same in
    let grown : sum_pairs s.nodes s.slots F ≤ sum_pairs s.nodes r.slots G + sum_pairs s.nodes s.slots H =
    sum_pairs-grows s.nodes r.slots s.slots F G H second
    (λ u t x old. rw (row_of_old r b u t old) (unlike_triangle (row_of q a u t) (Some (pair_row r b u t)) (Some (pair_row s c u t))))
    (λ u t x new l. rw (row_of_new r b u t new, row_of_new q a u t (omega arith)) (omega arith)) in
    omega (grown, over, arith)

pub differing_either_way_holds : DifferingEitherWay
unfolding differing
differing_either_way_holds s r a b nodes slots =
    let F : ℕ → ℕ → ℕ = λ u t. unlike (row_of s a u t) (Some (pair_row r b u t)) in
    let G : ℕ → ℕ → ℕ = λ u t. unlike (row_of r b u t) (Some (pair_row s a u t)) in
    let over : sum_pairs r.nodes r.slots F ≡ sum_pairs s.nodes s.slots F = ap (λ n. sum_pairs n r.slots F) (sym nodes) ∙ ap (λ n. sum_pairs s.nodes n F) (sym slots) in
    let same : sum_pairs s.nodes s.slots F ≡ sum_pairs s.nodes s.slots G =
    sum_pairs-same s.nodes s.slots F G
    (λ u t x l. rw (row_of_old s a u t l, row_of_old r b u t (omega arith)) (unlike_sym (Some (pair_row s a u t)) (Some (pair_row r b u t)))) in
    over ∙ same
