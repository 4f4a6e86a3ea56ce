-- The cells that a commit changes.
use Rattle.std.proofs.Common.{◌≡◌, ◌≢◌, ℕ, ◌<◌, ◌≤◌, ◌==◌, ◌&&◌, ◌||◌, not, nat_lt, Bool, true, false, refl, ap, sym, ◌∙◌, subst, inl, inr, ◌⊎◌}
use Rattle.std.proofs.lemmas.Bool.{cases_lt, cases_eq, cases_Bool, eqb-true, eq-eqb, ne_eqb, lt-ltb, le-ltb, le-leb, lt-leb}
use Rattle.ltm_curve.specs.Counts.{Counts}
use Rattle.ltm_node.specs.Outputs.{Outputs, arrived_after}
use Rattle.ltm_loading.specs.Setting.{Setting}
use Rattle.ltm_loading.specs.Groups.{up_of, arr_of, groups}
use Rattle.ltm_loading.specs.Pairs.{arms_of, arm_group}
use Rattle.ltm_loading.specs.NextPair.{IsOf}
use Rattle.ltm_frontier.specs.Frontier.{is_pair}
use Rattle.ltm_pairs.specs.Changes.{differs_at}
use Rattle.ltm_working.specs.Pairs.{of_cells}
use Rattle.ltm_working.specs.Waking.{arm_differs, out_differs, sink_differs, changes_arms, changes_outs, changes_sink, changes}
use Rattle.ltm_working.proofs.Bools.{or_right, or_left, or_one, and_false, and_both, and_true, none_below, one_below, some_one, same_tests, do_not_differ, differ_is}
use Rattle.ltm_working.proofs.Reading.{SetsOutputs, arm_is, out_is, sink_is}

-- ---- cells
pub cell_of : (s : Setting) (f : ℕ → ℕ → Bool) (g k : ℕ) → g < groups s → k ≤ s.slots → of_cells s f g k ≡ f g k
cell_of s f g k x l = rw (lt-ltb g (groups s) x, le-leb k s.slots l) refl

pub no_cell : (s : Setting) (f : ℕ → ℕ → Bool) (g k : ℕ) → (groups s ≤ g) ⊎ (s.slots < k) → of_cells s f g k ≡ false
no_cell s f g k (inl past) = rw (le-ltb g (groups s) past) refl
no_cell s f g k (inr late) = ap (λ z. (nat_lt g (groups s) && z) && f g k) (lt-leb k s.slots late) ∙ ap (λ z. z && f g k) (and_false (nat_lt g (groups s)))

pub cases_cells : (s : Setting) (g k : ℕ) → ((g < groups s) × (k ≤ s.slots)) ⊎ ((groups s ≤ g) ⊎ (s.slots < k))
cases_cells s g k = elim (cases_lt g (groups s)) [
  | inr past ↦ inr (inl past)
  | inl x ↦ elim (cases_lt s.slots k) [ inl late ↦ inr (inr late) | inr l ↦ inl (x, l) ]
]

-- ---- which cells change
change_early : (s : Setting) (old : Counts) (u k : ℕ) (o : Outputs) (g b : ℕ) → b ≢ k → changes s old u k o g b ≡ false
change_early s old u k o g b apart =
    let off : (group : ℕ) (t : Bool) → (t && is_pair group k g b) ≡ false = λ group t.
    ap (λ z. t && ((g == group) && z)) (ne_eqb b k apart) ∙ (ap (λ z. t && z) (and_false (g == group)) ∙ and_false t) in
    let arms : changes_arms s old u k o (arms_of s u) g b ≡ false = none_below (arms_of s u) (λ i. arm_differs s old u k o i && is_pair (arm_group s u i) k g b) (λ i l. off (arm_group s u i) (arm_differs s old u k o i)) in
    let outs : changes_outs s old u k o (s.outs u) g b ≡ false = none_below (s.outs u) (λ j. out_differs s old u k o j && is_pair (up_of (s.out_link u j)) k g b) (λ j l. off (up_of (s.out_link u j)) (out_differs s old u k o j)) in
    let sink : changes_sink s old u k o g b ≡ false = off (arr_of s) (sink_differs s old (s.own u) k (arrived_after o)) in
    rw (arms, outs, sink) refl

-- what changes a cell differs there
changes_differ : (s : Setting) (old new : Counts) (u k : ℕ) (o : Outputs) (g : ℕ) → SetsOutputs s old new u k o → changes s old u k o g k ≡ true → differs_at s old new g k ≡ true
changes_differ s old new u k o g sets is = elim (or_one (changes_arms s old u k o (arms_of s u) g k) (changes_outs s old u k o (s.outs u) g k || changes_sink s old u k o g k) is) [
  | inl arms ↦
      let at = some_one (arms_of s u) (λ i. arm_differs s old u k o i && is_pair (arm_group s u i) k g k) arms in
      let both = and_both (arm_differs s old u k o at.0) (is_pair (arm_group s u at.0) k g k) at.2 in
      let group : g ≡ arm_group s u at.0 = eqb-true g (arm_group s u at.0) (and_both (g == arm_group s u at.0) (k == k) both.1).0 in
      subst (λ (z : ℕ). differs_at s old new z k ≡ true) (sym group) (sym (arm_is s old new u k o at.0 sets at.1) ∙ both.0)
  | inr rest ↦ elim (or_one (changes_outs s old u k o (s.outs u) g k) (changes_sink s old u k o g k) rest) [
    | inl outs ↦
        let at = some_one (s.outs u) (λ j. out_differs s old u k o j && is_pair (up_of (s.out_link u j)) k g k) outs in
        let both = and_both (out_differs s old u k o at.0) (is_pair (up_of (s.out_link u at.0)) k g k) at.2 in
        let group : g ≡ up_of (s.out_link u at.0) = eqb-true g (up_of (s.out_link u at.0)) (and_both (g == up_of (s.out_link u at.0)) (k == k) both.1).0 in
        subst (λ (z : ℕ). differs_at s old new z k ≡ true) (sym group) (sym (out_is s old new u k o at.0 sets at.1) ∙ both.0)
    | inr sink ↦
        let both = and_both (sink_differs s old (s.own u) k (arrived_after o)) (is_pair (arr_of s) k g k) sink in
        let group : g ≡ arr_of s = eqb-true g (arr_of s) (and_both (g == arr_of s) (k == k) both.1).0 in
        subst (λ (z : ℕ). differs_at s old new z k ≡ true) (sym group) (sym (sink_is s old new u k o sets) ∙ both.0)
  ]
]

cell_test : (g h k : ℕ) → h ≡ g → is_pair h k g k ≡ true
cell_test g h k same = rw (eq-eqb g h (sym same), eq-eqb k k refl) refl

-- and of no other cell the counts of the node stand in it
not_of_node : (s : Setting) (old new : Counts) (u k : ℕ) (o : Outputs) (g d : ℕ) → SetsOutputs s old new u k o → differs_at s old new g k ≡ true → changes s old u k o g k ≡ false → IsOf s u g d → ⊥
not_of_node s old new u k o g d sets differs off (inl arm) =
    let here : arm_differs s old u k o arm.0 ≡ true = arm_is s old new u k o arm.0 sets arm.1 ∙ subst (λ (z : ℕ). differs_at s old new z k ≡ true) (sym arm.2) differs in
    let test : (arm_differs s old u k o arm.0 && is_pair (arm_group s u arm.0) k g k) ≡ true = and_true (arm_differs s old u k o arm.0) (is_pair (arm_group s u arm.0) k g k) here (cell_test g (arm_group s u arm.0) k arm.2) in
    let arms : changes_arms s old u k o (arms_of s u) g k ≡ true = one_below (arms_of s u) (λ i. arm_differs s old u k o i && is_pair (arm_group s u i) k g k) arm.0 arm.1 test in
    let on : changes s old u k o g k ≡ true = or_left (changes_arms s old u k o (arms_of s u) g k) (changes_outs s old u k o (s.outs u) g k || changes_sink s old u k o g k) arms in
    absurd (cc)
not_of_node s old new u k o g d sets differs off (inr (inl out)) =
    let here : out_differs s old u k o out.0 ≡ true = out_is s old new u k o out.0 sets out.1 ∙ subst (λ (z : ℕ). differs_at s old new z k ≡ true) (sym out.2) differs in
    let test : (out_differs s old u k o out.0 && is_pair (up_of (s.out_link u out.0)) k g k) ≡ true = and_true (out_differs s old u k o out.0) (is_pair (up_of (s.out_link u out.0)) k g k) here (cell_test g (up_of (s.out_link u out.0)) k out.2) in
    let outs : changes_outs s old u k o (s.outs u) g k ≡ true = one_below (s.outs u) (λ j. out_differs s old u k o j && is_pair (up_of (s.out_link u j)) k g k) out.0 out.1 test in
    let on : changes s old u k o g k ≡ true = or_right (changes_arms s old u k o (arms_of s u) g k) (changes_outs s old u k o (s.outs u) g k || changes_sink s old u k o g k)
    (or_left (changes_outs s old u k o (s.outs u) g k) (changes_sink s old u k o g k) outs) in
    absurd (cc)
not_of_node s old new u k o g d sets differs off (inr (inr arrived)) =
    let here : sink_differs s old (s.own u) k (arrived_after o) ≡ true = sink_is s old new u k o sets ∙ subst (λ (z : ℕ). differs_at s old new z k ≡ true) (sym arrived.0) differs in
    let sink : changes_sink s old u k o g k ≡ true = and_true (sink_differs s old (s.own u) k (arrived_after o)) (is_pair (arr_of s) k g k) here (cell_test g (arr_of s) k arrived.0) in
    let on : changes s old u k o g k ≡ true = or_right (changes_arms s old u k o (arms_of s u) g k) (changes_outs s old u k o (s.outs u) g k || changes_sink s old u k o g k)
    (or_right (changes_outs s old u k o (s.outs u) g k) (changes_sink s old u k o g k) sink) in
    absurd (cc)

differs_changes : (s : Setting) (old new : Counts) (u k : ℕ) (o : Outputs) (g : ℕ) → SetsOutputs s old new u k o → g < groups s → differs_at s old new g k ≡ true → changes s old u k o g k ≡ true
differs_changes s old new u k o g sets x is = elim (cases_Bool (changes s old u k o g k)) [
  | inl on ↦ on
  | inr off ↦
      let at = some_one s.destinations (λ d. not (old g d k == new g d k)) is in
      absurd (differ_is (old g at.0 k) (new g at.0 k) at.2 (sym (sets.others g at.0 x at.1 (not_of_node s old new u k o g at.0 sets is off))))
]

pub cells_differ : (s : Setting) (old new : Counts) (u k : ℕ) (o : Outputs) (g b : ℕ) → SetsOutputs s old new u k o → g < groups s → b ≤ s.slots → changes s old u k o g b ≡ differs_at s old new g b
cells_differ s old new u k o g b sets x l = elim (cases_eq b k) [
  | inr apart ↦ change_early s old u k o g b apart
      ∙ sym (none_below s.destinations (λ d. not (old g d b == new g d b)) (λ d m. do_not_differ (old g d b) (new g d b) (sym (sets.later g d b x m l apart))))
  | inl at ↦ subst (λ (z : ℕ). changes s old u k o g z ≡ differs_at s old new g z) (sym at)
      (same_tests (changes s old u k o g k) (differs_at s old new g k) (changes_differ s old new u k o g sets) (differs_changes s old new u k o g sets x))
]
