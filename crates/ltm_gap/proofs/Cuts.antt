-- Where a slot is cut: which of its units arrive.
use Rattle.std.proofs.Common.{◌≡◌, ℕ, ◌+◌, ◌-◌, ◌<◌, ◌≤◌, inl, inr, true, false, Option, Some, None, refl, ap, sym, subst, arith, ◌∙◌}
use Rattle.std.specs.Option.{is_some}
use Rattle.std.proofs.lemmas.Bool.{cases_lt}
use Rattle.ltm_units.specs.Numbers.{first_below}
use Rattle.ltm_units.specs.declared.quantities.Millis.{Millis}
use Rattle.ltm_units.proofs.BadBytes.{first_is, is_first, none_below}
use Rattle.ltm_times.proofs.Least.{none_passes}
use Rattle.ltm_curve.specs.Counts.{Counts}
use Rattle.ltm_loading.specs.Setting.{Setting, IsSetting}
use Rattle.ltm_loading.specs.Loading.{IsLoading}
use Rattle.ltm_flows.specs.declared.loading.Loading.{Loading}
use Rattle.ltm_flows.specs.Origins.{produced_in_all}
use Rattle.ltm_flows.specs.Shown.{ShowsCounts}
use Rattle.ltm_search.specs.Arrivals.{millis_of}
use Rattle.ltm_gap.specs.Earliest.{earliest}
use Rattle.ltm_gap.specs.Gaps.{units_in, is_none, number_or, before_none, next_arrival, arriving}
use Rattle.ltm_gap.specs.Laws.{ArriveInOrder, LateIsExact, SlotsMeet}
use Rattle.ltm_gap.specs.Steps.{IsArrival, IsCut, IsBetween}

-- ---- the first that has none
pub cut_where : (f : ℕ → Option ℕ) (n k : ℕ) → k ≤ n → ((j : ℕ) → j < k → is_none (f j) ≡ false) → (k < n → is_none (f k) ≡ true) → before_none f n ≡ k
cut_where f n k within some none = elim (cases_lt k n) [
  | inl low ↦ ap (number_or n) (first_is (λ j. is_none (f j)) n k (record { below = low; holds = none low; before = some }))
  | inr all ↦ let e : n ≡ k = omega arith in ap (number_or n) (none_passes (λ j. is_none (f j)) n (λ j l. some j (omega arith))) ∙ e
]

some_of : (o : Option ℕ) → is_none o ≡ false → (x : ℕ) × (o ≡ Some x)
some_of None e = cc
some_of (Some x) e = (x, refl)

is_nothing : (o : Option ℕ) → is_none o ≡ true → o ≡ None
is_nothing None e = refl
is_nothing (Some x) e = cc

never : {x : ℕ} → None ≡ Some x → ⊥
never e = cc

nothing_if : (o : Option ℕ) → ((x : ℕ) → o ≡ Some x → ⊥) → o ≡ None
nothing_if None un = refl
nothing_if (Some x) un = absurd (un x refl)

exact_at : (f : ℕ → Option ℕ) (n count : ℕ) → count < n → ((j k time : ℕ) → j ≤ k → f k ≡ Some time → (sooner : ℕ) × (f j ≡ Some sooner))
    → (count < before_none f n → (time : ℕ) × (f count ≡ Some time)) × (before_none f n ≤ count → f count ≡ None)
exact_at f n count low order = go (first_below (λ k. is_none (f k)) n) refl
  where
    go : (o : Option ℕ) → first_below (λ k. is_none (f k)) n ≡ o → (count < number_or n o → (time : ℕ) × (f count ≡ Some time)) × (number_or n o ≤ count → f count ≡ None)
    go None e = (λ l. some_of (f count) (none_below (λ k. is_none (f k)) n e count low), λ l. absurd (omega arith))
    go (Some k) e =
        let here = is_first (λ k. is_none (f k)) n k e in (
          λ l. some_of (f count) (here.before count l),
          λ l. nothing_if (f count) (λ time at. never (sym (is_nothing (f k) here.holds) ∙ (order k count time l at).1)),
        )

pub late_exact : ArriveInOrder → LateIsExact
unfolding arriving
late_exact order = λ s c is loading origin slot node count low.
    exact_at (next_arrival s c node origin slot) (units_in s origin slot) count low (λ j k time l at.
    let sooner = order s c is loading origin slot (produced_in_all s origin slot + (j + 1)) (produced_in_all s origin slot + (k + 1)) node time (omega arith) at in (sooner.0, sooner.1))

-- ---- so many arrive
pub arriving_is : (s : Setting) (c : Counts) (node origin slot low time : ℕ) → ArriveInOrder → IsSetting s → IsLoading s c → produced_in_all s origin slot ≤ low → low ≤ produced_in_all s origin (slot + 1)
    → earliest s c origin slot low node ≡ Some time → (low + 1 ≤ produced_in_all s origin (slot + 1) → earliest s c origin slot (low + 1) node ≡ None) → low - produced_in_all s origin slot ≡ arriving s c node origin slot
unfolding arriving
arriving_is s c node origin slot low time order is loading from to at none =
    let before : ℕ = produced_in_all s origin slot in
    sym (cut_where (next_arrival s c node origin slot) (units_in s origin slot) (low - before) (omega arith)
    (λ j l. ap is_none (order s c is loading origin slot (before + (j + 1)) low node time (omega arith) at).1)
    (λ l. let same : low + 1 ≡ before + (low - before + 1) = omega arith in ap is_none (subst (λ n. earliest s c origin slot n node ≡ None) same (none (omega arith)))))

pub arriving_none : (s : Setting) (c : Counts) (node origin slot : ℕ) → ArriveInOrder → IsSetting s → IsLoading s c → earliest s c origin slot (produced_in_all s origin slot) node ≡ None → 0 ≡ arriving s c node origin slot
unfolding arriving
arriving_none s c node origin slot order is loading none =
    let before : ℕ = produced_in_all s origin slot in
    sym (cut_where (next_arrival s c node origin slot) (units_in s origin slot) 0 (omega arith) (λ j l. absurd (omega arith))
    (λ l. ap is_none (nothing_if (next_arrival s c node origin slot 0) (λ time at. never (sym none ∙ (order s c is loading origin slot before (before + 1) node time (omega arith) at).1)))))

-- ---- the cut in the words of a loading
same_number : (s : Setting) (l : Loading) (origin slot a b node : ℕ) (time : Option Millis) → a ≡ b → IsArrival s l origin slot a node time → IsArrival s l origin slot b node time
same_number s l origin slot a b node time same is = subst (λ n. IsArrival s l origin slot n node time) same is

all_of_them : (s : Setting) (l : Loading) (origin slot node before after : ℕ) (last : Option Millis) (time : Millis) → ArriveInOrder → SlotsMeet → IsSetting s → origin < s.nodes → slot < s.slots
    → before ≡ produced_in_all s origin slot → after ≡ produced_in_all s origin (slot + 1) → before < after → last ≡ Some time → IsArrival s l origin (slot + 1) after node last
    → IsCut s l origin slot node (record { arriving = after - before; last = last })
all_of_them s l origin slot node before after last time order meet is there within from to some at arrives =
    let first : ℕ = produced_in_all s origin slot in
    let end : ℕ = produced_in_all s origin (slot + 1) in
    let met : (v : ℕ) (c : Counts) → ShowsCounts s v c l → millis_of last ≡ earliest s c origin slot end node =
    λ v c shows. arrives.is v c shows ∙ ap (λ n. earliest s c origin (slot + 1) n node) to ∙ sym (meet s c is shows.loading origin slot node there within (omega arith)) in
    let whole : first + (after - before) ≡ end = omega arith in
    record {
      few = omega arith;
      arriving = λ v c shows.
          let same : after - before ≡ end - first = omega arith in
          same ∙ arriving_is s c node origin slot end time.0 order is shows.loading (omega arith) (omega arith) (sym (met v c shows) ∙ ap millis_of at) (λ l. absurd (omega arith));
      last = record {
        is = λ v c shows. met v c shows ∙ ap (λ n. earliest s c origin slot n node) (sym whole);
        small = arrives.small;
      };
    }

pub all_arrive : (s : Setting) (l : Loading) (origin slot node before after : ℕ) (last : Option Millis) → ArriveInOrder → SlotsMeet → IsSetting s → origin < s.nodes → slot < s.slots → before ≡ produced_in_all s origin slot
    → after ≡ produced_in_all s origin (slot + 1) → before < after → true ≡ is_some last → IsArrival s l origin (slot + 1) after node last → IsCut s l origin slot node (record { arriving = after - before; last = last })
all_arrive s l origin slot node before after None order meet is there within from to some has arrives = absurd (none_there has)
  where
    none_there : true ≡ false → ⊥
    none_there e = cc
all_arrive s l origin slot node before after (Some time) order meet is there within from to some has arrives =
    all_of_them s l origin slot node before after (Some time) time order meet is there within from to some refl arrives

pub none_arrive : (s : Setting) (l : Loading) (origin slot node before : ℕ) (first : Option Millis) → ArriveInOrder → IsSetting s → before ≡ produced_in_all s origin slot → first ≡ None
    → IsArrival s l origin slot before node first → IsCut s l origin slot node (record { arriving = 0; last = None })
none_arrive s l origin slot node before first order is from at arrives =
    let none : IsArrival s l origin slot before node None = subst (λ (o : Option Millis). IsArrival s l origin slot before node o) at arrives in
    record {
      few = omega arith;
      arriving = λ v c shows. arriving_none s c node origin slot order is shows.loading (ap (λ n. earliest s c origin slot n node) (sym from) ∙ sym (none.is v c shows));
      last = same_number s l origin slot before (produced_in_all s origin slot + 0) node None (omega arith) none;
    }

pub some_arrive : (s : Setting) (l : Loading) (origin slot node before : ℕ) (last : Millis) (low high : ℕ) → ArriveInOrder → IsSetting s → before ≡ produced_in_all s origin slot → high ≤ low + 1
    → IsBetween s l origin slot node last low high → IsCut s l origin slot node (record { arriving = low - before; last = Some last })
some_arrive s l origin slot node before last low high order is from near between =
    let first : ℕ = produced_in_all s origin slot in
    let top = between.to in
    let start = between.from in
    let below = between.below in
    let next : high ≡ low + 1 = omega arith in
    let same : low - before ≡ low - first = ap (λ n. low - n) from in
    record {
      few = omega arith;
      arriving = λ v c shows.
          same ∙ arriving_is s c node origin slot low last.0 order is shows.loading start (omega arith) (sym (between.arrives.is v c shows))
          (λ more. subst (λ n. earliest s c origin slot n node ≡ None) next (between.late v c shows (omega arith)));
      last = same_number s l origin slot low (first + (low - before)) node (Some last) (omega arith) between.arrives;
    }

-- ---- halving
pub begins : (s : Setting) (l : Loading) (origin slot node before after : ℕ) (first : Millis) → before ≡ produced_in_all s origin slot → after ≡ produced_in_all s origin (slot + 1) → before < after
    → IsArrival s l origin slot before node (Some first) → IsBetween s l origin slot node first before (after + 1)
begins s l origin slot node before after first from to some arrives = record {
  from = omega arith;
  below = omega arith;
  to = omega arith;
  arrives = arrives;
  late = λ v c shows within. absurd (omega arith);
}

pub goes_up : (s : Setting) (l : Loading) (origin slot node : ℕ) (last time : Millis) (low middle high : ℕ) (found : Option Millis) → low < middle → middle < high → found ≡ Some time → IsArrival s l origin slot middle node found
    → IsBetween s l origin slot node last low high → IsBetween s l origin slot node time middle high
goes_up s l origin slot node last time low middle high found more less at arrives between =
    let start = between.from in
    record {
      from = omega arith;
      below = less;
      to = between.to;
      arrives = subst (λ (o : Option Millis). IsArrival s l origin slot middle node o) at arrives;
      late = between.late;
    }

pub goes_down : (s : Setting) (l : Loading) (origin slot node : ℕ) (last : Millis) (low middle high : ℕ) (found : Option Millis) → low < middle → middle < high → found ≡ None → IsArrival s l origin slot middle node found
    → IsBetween s l origin slot node last low high → IsBetween s l origin slot node last low middle
goes_down s l origin slot node last low middle high found more less at arrives between =
    let top = between.to in
    record {
      from = between.from;
      below = more;
      to = omega arith;
      arrives = between.arrives;
      late = λ v c shows within. sym (arrives.is v c shows) ∙ ap millis_of at;
    }
