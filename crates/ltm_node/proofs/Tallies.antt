-- What is kept of each turn while the arms move.
use Rattle.std.proofs.Common.{◌≡◌, ℕ, ◌+◌, ◌-◌, ◌*◌, ◌/◌, ◌<◌, true, List, get_or, slice_index, arith, refl, ap, sym, subst, ◌∙◌}
use Rattle.ltm_units.specs.Nested.{nested_split}
use Rattle.ltm_shares.specs.Sent.{sent_at}
use Rattle.ltm_node.specs.declared.portion.Portion.{Portion}
use Rattle.ltm_node.specs.declared.turns.Turns.{Turns}
use Rattle.ltm_node.specs.Inputs.{Inputs}
use Rattle.ltm_node.specs.Demands.{part, sent_into}
use Rattle.ltm_node.specs.Portion.{denominator, numerator}
use Rattle.ltm_node.specs.Splitting.{IsSplitUpTo}
use Rattle.ltm_node.specs.Step.{parts_into, turned}
use Rattle.ltm_node.specs.Moving.{Passes}
use Rattle.ltm_node.specs.Tally.{IsLeftOf}
use Rattle.ltm_node.proofs.Ranges.{nothing_of}
use Rattle.ltm_node.proofs.Moved.{parts_long, parts_at, parts_sum}
use Rattle.ltm_node.proofs.Splitting.{split_next}

-- a turn at a tally of which both numbers are the same
pub left_of_same : (t u : Turns) (n : Inputs) (q : Portion) (i j d : ℕ) → sent_at t.left i j ≡ sent_at u.left i j → sent_at t.rest i j ≡ sent_at u.rest i j → IsLeftOf t n q i j d → IsLeftOf u n q i j d
left_of_same t u n q i j d left rest h =
    let amount : ℕ = turned n (denominator q) (numerator q) i j in
    let xs : List ℕ = parts_into n i j in
    record {
      by_turn = h.by_turn;
      split = subst (λ (z : ℕ). IsSplitUpTo amount xs d z (sent_at u.rest i j)) left (subst (λ (z : ℕ). IsSplitUpTo amount xs d (sent_at t.left i j) z) rest h.split);
    }

-- a turn before all destinations
pub left_begun : (t : Turns) (n : Inputs) (q : Portion) (i j : ℕ) → n.shape.by_turn ≡ true → sent_at t.left i j ≡ turned n (denominator q) (numerator q) i j → sent_at t.rest i j ≡ sent_into n i j → IsLeftOf t n q i j 0
left_begun t n q i j by_turn left rest =
    let xs : List ℕ = parts_into n i j in
    record {
      by_turn = by_turn;
      split = record {
        within = omega arith;
        fewer = omega (arith, parts_sum n i j);
        whole = rest ∙ sym (parts_sum n i j);
        parts = λ k.
            let first : 0 + k ≡ k = omega arith in
            ap (slice_index (nested_split (turned n (denominator q) (numerator q) i j) xs)) first ∙ ap (λ (z : ℕ). slice_index (nested_split z xs) k) (sym left);
      };
    }

-- a turn behind one destination more, to which so much of it moves
pub left_on : (t u : Turns) (n : Inputs) (q : Portion) (i j d v x : ℕ) → d < n.shape.destinations → x ≡ part n i d j → IsLeftOf t n q i j d → v ≡ sent_at t.left i j * x / sent_at t.rest i j →
    sent_at t.left i j ≡ sent_at u.left i j + v → sent_at t.rest i j ≡ sent_at u.rest i j + x → IsLeftOf u n q i j (d + 1)
left_on t u n q i j d v x l is h share left rest =
    let amount : ℕ = turned n (denominator q) (numerator q) i j in
    let xs : List ℕ = parts_into n i j in
    let at : get_or xs d 0 ≡ x = parts_at n i d j l ∙ sym is in
    let next : IsSplitUpTo amount xs (d + 1) (sent_at t.left i j - v) (sent_at t.rest i j - get_or xs d 0) =
    split_next amount xs d (sent_at t.left i j) (sent_at t.rest i j) v h.split (omega (arith, parts_long n i j)) (share ∙ ap (λ (z : ℕ). sent_at t.left i j * z / sent_at t.rest i j) (sym at)) in
    let less : sent_at t.left i j - v ≡ sent_at u.left i j = omega arith in
    let fewer : sent_at t.rest i j - get_or xs d 0 ≡ sent_at u.rest i j = omega arith in
    record {
      by_turn = h.by_turn;
      split = subst (λ (z : ℕ). IsSplitUpTo amount xs (d + 1) z (sent_at u.rest i j)) less (subst (λ (z : ℕ). IsSplitUpTo amount xs (d + 1) (sent_at t.left i j - v) z) fewer next);
    }

pub turns_pass : (t : Turns) (n : Inputs) (q : Portion) → Passes n (IsLeftOf t n q)
turns_pass t n q = λ i j d l none h.
    left_on t t n q i j d 0 0 l (sym none) h (sym (nothing_of (sent_at t.left i j) (sent_at t.rest i j) 0 refl)) (omega arith) (omega arith)
