-- A cold loading comes from pair to pair and from slot to slot.
use Rattle.std.proofs.Common.{◌≡◌, ℕ, ◌+◌, ◌<◌, ◌≤◌, List, arith, inl, inr, ap, sym, ◌∙◌, subst}
use Rattle.std.proofs.lemmas.Bool.{cases_lt, cases_eq}
use Rattle.ltm_curve.specs.declared.curves.Curves.{Curves}
use Rattle.ltm_curve.specs.Counts.{Counts}
use Rattle.ltm_curve.specs.Table.{counts_of, IsEmpty, IsIn, Carries}
use Rattle.ltm_node.specs.Inputs.{Inputs}
use Rattle.ltm_node.specs.Outputs.{Outputs}
use Rattle.ltm_node.specs.Step.{IsNodeStep}
use Rattle.ltm_loading.specs.Setting.{Setting, IsSetting}
use Rattle.ltm_loading.specs.Groups.{down_of, dep_of, groups}
use Rattle.ltm_loading.specs.Pairs.{arm_group, shape_at, pair_row, count_row, MeetsStep}
use Rattle.ltm_loading.specs.Loading.{IsFront, IsLoading}
use Rattle.ltm_loading.specs.Reads.{Reads, in_link_entered, in_link_left, out_link_entered, out_link_left, origin_left, here_arrived, InputsReadOnly, CountsSetOnly, SetByOnePair}
use Rattle.ltm_loading.specs.NextPair.{IsOf, IsFrontTo, IsPairInputs, Applies, NextPair, NextSlot}
use Rattle.ltm_loading.specs.Shaped.{IsShaped}
use Rattle.ltm_flows.specs.Working.{IsWorking, IsWorkingAt}
use Rattle.ltm_flows.proofs.Writing.{pick_first, pick_second}

-- no pair sets what left a node without out-links
not_of : (s : Setting) (w u d : ℕ) → IsSetting s → w < s.nodes → u < s.nodes → s.outs u ≡ 0 → IsOf s w (dep_of s u) d → ⊥
not_of s w u d v x y none of =
    elim of [
      | inl arm ↦ elim (cases_lt arm.0 (s.ins w)) [
        | inl link ↦ omega (arith, arm.2, pick_first arm.0 (s.ins w) (down_of (s.in_link w arm.0)) (dep_of s w) link, v.network.in_link_is_link w arm.0 x link)
        | inr origin ↦
            let e : arm_group s w arm.0 ≡ dep_of s w = pick_second arm.0 (s.ins w) (down_of (s.in_link w arm.0)) (dep_of s w) origin in
            let same : w ≡ u = omega (arith, arm.2) in
            let none_here : s.outs w ≡ 0 = ap s.outs same ∙ none in omega (arith, arm.1)
      ]
      | inr other ↦ elim other [
        | inl out ↦ omega (arith, out.2, v.network.out_link_is_link w out.0 x out.1)
        | inr come ↦ omega (arith, come.0)
      ]
    ]

pub working_start : (s : Setting) (c : Curves) → IsShaped s c → IsEmpty c → IsWorking s c 0
working_start s c shape empty = record {
  shape = shape;
  front = record {
    empty = λ g d x m. empty g d 0 (record { is_group = omega (arith, shape.same_groups); is_destination = omega (arith, shape.same_destinations); is_boundary = omega arith });
    steps = λ u t x l. absurd (omega arith);
  };
  no_origins = λ u d k x none m y.
      empty (dep_of s u) d k (record { is_group = omega (arith, shape.same_groups); is_destination = omega (arith, shape.same_destinations); is_boundary = omega (arith, shape.same_slots) });
}

-- what a pair reads are groups of counts
reads_there : (s : Setting) (u g d : ℕ) → IsSetting s → u < s.nodes → Reads s u g d → g < groups s
reads_there s u g d v x (in_link_entered i l e) = omega (arith, e, v.network.in_link_is_link u i x l)
reads_there s u g d v x (in_link_left i l e) = omega (arith, e, v.network.in_link_is_link u i x l)
reads_there s u g d v x (out_link_entered j l e) = omega (arith, e, v.network.out_link_is_link u j x l)
reads_there s u g d v x (out_link_left j l e) = omega (arith, e, v.network.out_link_is_link u j x l)
reads_there s u g d v x (origin_left l e) = omega (arith, e)
reads_there s u g d v x (here_arrived own e) = omega (arith, e)

-- a front stays one where no count up to its slot changes
front_kept : (s : Setting) (a b : Counts) (t : ℕ) → InputsReadOnly → CountsSetOnly → SetByOnePair → IsSetting s → ((g d k : ℕ) → g < groups s → d < s.destinations → k ≤ t → b g d k ≡ a g d k) → IsFront s a t → IsFront s b t
front_kept s a b t reads sets one v same h = record {
  empty = λ g d x m. same g d 0 x m (omega arith) ∙ h.empty g d x m;
  steps = λ u k x l.
      let given : pair_row s a u k ≡ pair_row s b u k = reads s a b u k v x (λ g d j r m le. sym (same g d j (reads_there s u g d v x r) m (omega arith))) in
      let taken : count_row s a u (k + 1) ≡ count_row s b u (k + 1) = sets s a b u (k + 1) v x (λ g d of m. sym (same g d (k + 1) (one.within s u g d v x of) m (omega arith))) in
      let In : List ℕ → Inputs = λ row. record { shape = shape_at s u; row = row; room = 0 } in
      let Out : List ℕ → Outputs = λ row. record { shape = shape_at s u; row = row; room = 0 } in
      subst (λ (row : List ℕ). IsNodeStep (In row) (Out (count_row s b u (k + 1)))) given (subst (λ (row : List ℕ). IsNodeStep (In (pair_row s a u k)) (Out row)) taken (h.steps u k x l));
}

-- a slot begins with the counts of its beginning carried on to its end
pub working_begin : (s : Setting) (old new : Curves) (slot : ℕ) → InputsReadOnly → CountsSetOnly → SetByOnePair → IsSetting s → slot < s.slots → IsWorking s old slot → Carries old new slot → IsWorkingAt s new slot 0
working_begin s old new slot reads sets one v y w carries =
    let inside : (g d k : ℕ) → g < groups s → d < s.destinations → k ≤ s.slots → IsIn old g d k = λ g d k x m l.
    record { is_group = omega (arith, w.shape.same_groups); is_destination = omega (arith, w.shape.same_destinations); is_boundary = omega (arith, w.shape.same_slots) } in
    let next : (g d : ℕ) → g < groups s → d < s.destinations → counts_of new g d (slot + 1) ≡ counts_of old g d slot = λ g d x m.
    carries.next g d (omega (arith, w.shape.same_groups)) (omega (arith, w.shape.same_destinations)) in
    let same : (g d k : ℕ) → g < groups s → d < s.destinations → k ≤ slot → counts_of new g d k ≡ counts_of old g d k = λ g d k x m l.
    carries.others g d k (inside g d k x m (omega arith)) (λ e. absurd (omega arith)) in
    record {
      shape = record { same_groups = carries.shape.groups ∙ w.shape.same_groups; same_destinations = carries.shape.destinations ∙ w.shape.same_destinations; same_slots = carries.shape.slots ∙ w.shape.same_slots };
      front = record { front = front_kept s (counts_of old) (counts_of new) slot reads sets one v same w.front; done = λ u l. absurd (omega arith) };
      no_origins = λ u d k x none m l. elim (cases_eq k (slot + 1)) [
        | inl now ↦ ap (counts_of new (dep_of s u) d) now ∙ (next (dep_of s u) d (omega arith) m ∙ w.no_origins u d slot x none m (omega arith))
        | inr other ↦ carries.others (dep_of s u) d k (inside (dep_of s u) d k (omega arith) m l) other ∙ w.no_origins u d k x none m l
      ];
      carried = λ u g d from x of m.
          let there : g < groups s = one.within s u g d v x of in next g d there m ∙ sym (same g d slot there m (omega arith));
    }

-- a node whose counts stay as they were is done
pub working_idle : (s : Setting) (c : Curves) (slot node : ℕ) → IsWorkingAt s c slot node → MeetsStep s (counts_of c) node slot → IsWorkingAt s c slot (node + 1)
working_idle s c slot node w meets = record {
  shape = w.shape;
  front = record {
    front = w.front.front;
    done = λ u l. elim (cases_eq u node) [
      | inl same ↦ subst (λ (z : ℕ). MeetsStep s (counts_of c) z slot) (sym same) meets
      | inr other ↦ w.front.done u (omega arith)
    ];
  };
  no_origins = w.no_origins;
  carried = λ u g d from x of m. w.carried u g d (omega arith) x of m;
}

pub working_leave : (s : Setting) (c : Curves) (slot nodes : ℕ) → NextSlot → nodes ≡ s.nodes → IsWorkingAt s c slot nodes → IsWorking s c (slot + 1)
working_leave s c slot nodes law e w = record {
  shape = w.shape;
  front = law s (counts_of c) slot (subst (λ (n : ℕ). IsFrontTo s (counts_of c) slot n) e w.front);
  no_origins = w.no_origins;
}

pub working_next : (s : Setting) (old new : Curves) (slot node : ℕ) (n : Inputs) (o : Outputs) → NextPair → SetByOnePair → IsSetting s → slot < s.slots → node < s.nodes → IsWorkingAt s old slot node →
    IsPairInputs s (counts_of old) node slot n → IsNodeStep n o → IsShaped s new → Applies s node (slot + 1) o.row (counts_of old) (counts_of new) → IsWorkingAt s new slot (node + 1)
working_next s old new slot node n o law one v y x w reads step shape applies = record {
  shape = shape;
  front = law s (counts_of old) (counts_of new) slot node n o v y x w.front reads step applies;
  no_origins = λ u d k z none m l.
      let kept : counts_of new (dep_of s u) d k ≡ counts_of old (dep_of s u) d k = elim (cases_eq k (slot + 1)) [
        | inl now ↦
            let P : ℕ → Type 0 = λ j. counts_of new (dep_of s u) d j ≡ counts_of old (dep_of s u) d j in
            subst P (sym now) (applies.others (dep_of s u) d (omega arith) m (not_of s node u d v x z none))
        | inr other ↦ applies.later (dep_of s u) d k (omega arith) m l other
      ] in kept ∙ w.no_origins u d k z none m l;
  carried = λ u g d from z of m.
      let there : g < groups s = one.within s u g d v z of in
      let other : IsOf s node g d → ⊥ = λ mine. absurd (omega (arith, one.one s node u g d v x z mine of)) in
      applies.others g d there m other ∙ (w.carried u g d (omega arith) z of m ∙ sym (applies.later g d slot there m (omega arith) (λ e. absurd (omega arith))));
}

pub working_end : (s : Setting) (c : Curves) (slots : ℕ) → slots ≡ s.slots → IsWorking s c slots → IsLoading s (counts_of c)
working_end s c slots e w = record { front = subst (λ (n : ℕ). IsFront s (counts_of c) n) e w.front; no_origin = w.no_origins }
