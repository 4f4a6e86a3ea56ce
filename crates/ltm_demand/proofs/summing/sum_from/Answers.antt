use Rattle.std.proofs.Common.{◌≡◌, ℕ, ◌+◌, ◌<◌, List, length, drop, get_or, arith}
use Rattle.std.proofs.lemmas.List.Sums.{sum_by-drop_more}
use Rattle.ltm_demand.specs.declared.row.DemandRow.{DemandRow}
use Rattle.ltm_demand.specs.Produced.{produced, part_to, by_end_to}
use Rattle.ltm_demand.proofs.Begins.{no_row, to_own, by_end_to_le, from_begin, none_behind}
use Rattle.ltm_demand.proofs.summing.sum_from.Goals as goal

-- a row to the destination adds what it has produced
one_more : (rows : List DemandRow) (place d t made : ℕ) → place < length rows → (get_or rows place no_row).destination ≡ d → made ≡ produced (get_or rows place no_row).from (get_or rows place no_row).to (get_or rows place no_row).amount.0 t →
    by_end_to (drop place rows) d t ≡ made + by_end_to (drop (place + 1) rows) d t
one_more rows place d t made inside own is = omega (arith, sum_by-drop_more (part_to d t) rows place no_row inside, to_own d t (get_or rows place no_row) own, is)

pub rows-init : goal.rows-init
rows-init c = record {
  so_far = omega (arith, from_begin c.args.rows.now c.args.destination c.args.slot c.args.begin c.requires.begin);
  from = omega arith;
  within = c.requires.begin.within;
}

pub returns-then-rows-place : goal.returns-then-rows-place
returns-then-rows-place c = omega (arith, c.rows.invariant.so_far, none_behind c.args.rows.now c.args.destination c.args.slot c.args.begin c.requires.begin c.rows.place c.requires.order c.rows.invariant.from (λ _. c.if-rows-place.true))

pub returns : goal.returns
returns c = omega (arith, c.rows.invariant.so_far, none_behind c.args.rows.now c.args.destination c.args.slot c.args.begin c.requires.begin c.rows.place c.requires.order c.rows.invariant.from (λ inside _. omega (arith, inside, c.rows-test.false)))

pub overflow_add-sum : goal.overflow_add-sum
overflow_add-sum c =
    let rows = c.args.rows.now in
    omega (arith, c.rows.invariant.so_far, one_more rows c.rows.place c.args.destination c.args.slot c.produced_by-sum.result c.rows-test.true c.if-rows-place.false c.produced_by-sum.ensures, by_end_to_le rows c.args.destination c.args.slot, c.requires.small)

pub rows-preserved : goal.rows-preserved
rows-preserved c =
    let rows = c.args.rows.now in
    record {
      so_far = omega (arith, c.rows.invariant.so_far, one_more rows c.rows.place c.args.destination c.args.slot c.produced_by-sum.result c.rows-test.true c.if-rows-place.false c.produced_by-sum.ensures);
      from = omega (arith, c.rows.invariant.from);
      within = omega (arith, c.rows-test.true);
    }
