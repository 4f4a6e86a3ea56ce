use Rattle.std.proofs.Common.{rules, arith, ap, sym, ◌≡◌, ℕ, ◌+◌, ◌-◌, ◌*◌, ◌^◌, ◌<◌, ◌≤◌, ◌∙◌, List, slice_index, slice_range, sum}
use Rattle.ltm_units.specs.Nested.{nested_split}
use Rattle.ltm_curve.proofs.Lists.{nothing_splits}
use Rattle.ltm_standing.specs.Standing.{width_of, end_of, row_of}
use Rattle.ltm_standing.proofs.Sends.{row_sum, no_row}
use Rattle.ltm_standing.proofs.Modulo.{nothing_more}
use Rattle.ltm_standing.proofs.standing.Standing.write_first.Goals as goal
use Rattle.ltm_standing.proofs.standing.Standing.write_first.Goals.{then-goal-self-via-then-goal-self, then-goal-self-via-else-goal-self+then-self-len}

pub returns-then-goal-self : goal.returns-then-goal-self
returns-then-goal-self c i m =
    let s = c.args.self.now in
    let copied : slice_index c.copy_from_slice.new.self i ≡ slice_index s.rest.items i = search rules in
    let small : slice_index s.rest.items i < 2 ^ 32 = search rules in
    let none : slice_index (nested_split (c.args.goal - s.base) (row_of s s.next)) i ≡ 0 =
    elim c.then-goal-self.branch [
      | then-goal-self-via-then-goal-self w ↦
          let low = w.if-goal-self.true in
          let nothing : c.args.goal - s.base ≡ 0 = omega (arith, low) in
          ap (λ (z : ℕ). slice_index (nested_split z (row_of s s.next)) i) nothing ∙ nothing_splits (row_of s s.next) i
      | then-goal-self-via-else-goal-self+then-self-len w ↦
          let at : end_of s ≤ s.next = search rules in
          ap (λ (xs : List ℕ). slice_index (nested_split (c.args.goal - s.base) xs) i) (no_row s s.next at)
    ] in
    copied ∙ nothing_more (slice_index s.rest.items i) _ none small

pub add_split-requires-clause-total : goal.add_split-requires-clause-total
add_split-requires-clause-total c =
    let s = c.args.self.now in
    let within : s.next ≤ end_of s = s.within in
    let there : s.next < end_of s = search rules in
    let wide : c.len-width.result ≡ width_of s = search rules in
    let items : c.deref-2.result.now ≡ s.entries.items = search rules in
    c.total_of-total.ensures.value
    ∙ (row_sum s s.next there
    ∙ (ap (λ (w : ℕ). sum (slice_range s.entries.items (s.next * w) (s.next * w + w))) (sym wide)
    ∙ ap (λ (xs : List ℕ). sum (slice_range xs (s.next * c.len-width.result) (s.next * c.len-width.result + c.len-width.result))) (sym items)))
