-- The counts of a node are written group after group.
use Rattle.std.proofs.Common.{◌≡◌, ◌≢◌, ℕ, ◌+◌, ◌*◌, ◌<◌, ◌≤◌, List, length, slice_index, cond, nat_lt, arith, refl, inl, inr, ap, sym, ◌∙◌, subst}
use Rattle.std.proofs.Math.Nat.{add-mul}
use Rattle.std.proofs.lemmas.Bool.{cases_lt, cases_eq}
use Rattle.std.proofs.lemmas.Bool.Decides.{nat_tests}
use Rattle.ltm_curve.specs.Counts.{Counts}
use Rattle.ltm_curve.specs.declared.curves.Curves.{Curves}
use Rattle.ltm_curve.specs.Table.{counts_of, SetsRow}
use Rattle.ltm_node.specs.Shape.{counts_width}
use Rattle.ltm_node.specs.declared.shape.NodeShape.{NodeShape}
use Rattle.ltm_node.specs.Outputs.{Outputs, left_after, entered_after, arrived_after, arrived_after_place}
use Rattle.ltm_loading.specs.Setting.{Setting, IsSetting}
use Rattle.ltm_loading.specs.Groups.{down_of, dep_of, arr_of, groups}
use Rattle.ltm_loading.specs.Pairs.{arms_of, arm_group, shape_at}
use Rattle.ltm_loading.specs.NextPair.{IsOf, Applies}
use Rattle.ltm_loading.specs.NodeGroups.{group_count, node_group, GroupsByRow, GroupsAreSet}
use Rattle.ltm_loading.specs.ByPlace.{CountsByPlace}
use Rattle.ltm_flows.specs.Applying.{out_group, in_row, SetsGroups, SetsSink}
use Rattle.ltm_loading.specs.Shaped.{IsShaped}

pub sets_none : (s : Setting) (k : ℕ) (group : ℕ → ℕ) (value : ℕ → ℕ → ℕ) (old : Counts) → SetsGroups s k 0 group value old old
sets_none s k group value old = record { here = λ i d l m. absurd (omega arith); later = λ g d j x y z ne. refl; others = λ g d x y ne. refl }

-- one group more
pub sets_next : (s : Setting) (k n : ℕ) (group : ℕ → ℕ) (value : ℕ → ℕ → ℕ) (old : Counts) (now new : Curves) (g : ℕ) (row : List ℕ) → k ≤ s.slots → g < groups s → g ≡ group n → ((i : ℕ) → i < n → group i < groups s) → ((i : ℕ) → i < n → group i ≢ group n) →
    ((d : ℕ) → d < s.destinations → slice_index row d ≡ value n d) → IsShaped s now → SetsGroups s k n group value old (counts_of now) → SetsRow now new g k row → SetsGroups s k (n + 1) group value old (counts_of new)
sets_next s k n group value old now new g row k_in g_in at there apart given shape done set = record {
  here = λ i d l m. elim (cases_eq i n) [
    | inl last ↦
        let e : group i ≡ g = ap group last ∙ sym at in
        ap (λ (z : ℕ). counts_of new z d k) e ∙ (set.here d (omega (arith, shape.same_destinations)) ∙ (given d m ∙ ap (λ (z : ℕ). value z d) (sym last)))
    | inr before ↦
        let l2 : i < n = omega arith in
        set.others (group i) d k (record { is_group = omega (arith, there i l2, shape.same_groups); is_destination = omega (arith, shape.same_destinations); is_boundary = omega (arith, shape.same_slots) })
        (inl (λ e. apart i l2 (e ∙ at)))
        ∙ done.here i d l2 m
  ];
  later = λ h d j x y z ne.
      set.others h d j (record { is_group = omega (arith, shape.same_groups); is_destination = omega (arith, shape.same_destinations); is_boundary = omega (arith, shape.same_slots) }) (inr ne)
      ∙ done.later h d j x y z ne;
  others = λ h d x y ne.
      set.others h d k (record { is_group = omega (arith, shape.same_groups); is_destination = omega (arith, shape.same_destinations); is_boundary = omega (arith, shape.same_slots) })
      (inl (λ e. ne n (omega arith) (sym (e ∙ at))))
      ∙ done.others h d x y (λ i l. ne i (omega arith));
}

pub still_shaped : (s : Setting) (now new : Curves) (g k : ℕ) (row : List ℕ) → IsShaped s now → SetsRow now new g k row → IsShaped s new
still_shaped s now new g k row shape set = record {
  same_groups = set.shape.groups ∙ shape.same_groups;
  same_destinations = set.shape.destinations ∙ shape.same_destinations;
  same_slots = set.shape.slots ∙ shape.same_slots;
}

pub pick_first : (i n x y : ℕ) → i < n → cond (nat_lt i n) x y ≡ x
pick_first i n x y l = grind (arith, nat_tests)

pub pick_second : (i n x y : ℕ) → n ≤ i → cond (nat_lt i n) x y ≡ y
pick_second i n x y l = grind (arith, nat_tests)

-- the groups of a node's arms
pub arm_there : (s : Setting) (u i : ℕ) → IsSetting s → u < s.nodes → i < arms_of s u → arm_group s u i < groups s
arm_there s u i v x l =
    elim (cases_lt i (s.ins u)) [
      | inl link ↦ omega (arith, pick_first i (s.ins u) (down_of (s.in_link u i)) (dep_of s u) link, v.network.in_link_is_link u i x link)
      | inr origin ↦ omega (arith, pick_second i (s.ins u) (down_of (s.in_link u i)) (dep_of s u) origin)
    ]

pub arm_apart : (s : Setting) (u i j : ℕ) → IsSetting s → u < s.nodes → i < j → j < arms_of s u → arm_group s u i ≢ arm_group s u j
arm_apart s u i j v x l m e =
    elim (cases_lt j (s.ins u)) [
      | inl link ↦
          let i_in : i < s.ins u = omega arith in
          let same : s.in_link u i ≡ s.in_link u j =
          omega (arith, e, pick_first i (s.ins u) (down_of (s.in_link u i)) (dep_of s u) i_in, pick_first j (s.ins u) (down_of (s.in_link u j)) (dep_of s u) link) in
          omega (arith, v.network.in_place_of u i x i_in, v.network.in_place_of u j x link, ap s.in_place same)
      | inr origin ↦
          let i_in : i < s.ins u = omega arith in
          omega (
            arith,
            e,
            pick_first i (s.ins u) (down_of (s.in_link u i)) (dep_of s u) i_in,
            pick_second j (s.ins u) (down_of (s.in_link u j)) (dep_of s u) origin,
            v.network.in_link_is_link u i x i_in,
          )
    ]

-- the groups of its out-links
pub out_there : (s : Setting) (u j : ℕ) → IsSetting s → u < s.nodes → j < s.outs u → out_group s u j < groups s
out_there s u j v x l = omega (arith, v.network.out_link_is_link u j x l)

pub out_apart : (s : Setting) (u i j : ℕ) → IsSetting s → u < s.nodes → i < j → j < s.outs u → out_group s u i ≢ out_group s u j
out_apart s u i j v x l m e =
    let same : s.out_link u i ≡ s.out_link u j = omega (arith, e) in
    omega (arith, v.network.out_place_of u i x (omega arith), v.network.out_place_of u j x m, ap s.out_place same)

-- they are different groups, and not those of what has arrived
pub arm_not_out : (s : Setting) (u i j : ℕ) → IsSetting s → u < s.nodes → j < s.outs u → out_group s u j ≢ arm_group s u i
arm_not_out s u i j v x m e =
    elim (cases_lt i (s.ins u)) [
      | inl link ↦ omega (arith, e, pick_first i (s.ins u) (down_of (s.in_link u i)) (dep_of s u) link)
      | inr origin ↦ omega (arith, e, pick_second i (s.ins u) (down_of (s.in_link u i)) (dep_of s u) origin, v.network.out_link_is_link u j x m)
    ]

pub arm_not_come : (s : Setting) (u i : ℕ) → IsSetting s → u < s.nodes → i < arms_of s u → arr_of s ≢ arm_group s u i
arm_not_come s u i v x l e =
    elim (cases_lt i (s.ins u)) [
      | inl link ↦ omega (arith, e, pick_first i (s.ins u) (down_of (s.in_link u i)) (dep_of s u) link, v.network.in_link_is_link u i x link)
      | inr origin ↦ omega (arith, e, pick_second i (s.ins u) (down_of (s.in_link u i)) (dep_of s u) origin)
    ]

-- arms, out-links and sink are all that a node sets
pub applies_holds : (s : Setting) (u k : ℕ) (o : Outputs) (old left entered new : Counts) → CountsByPlace → IsSetting s → u < s.nodes → o.shape ≡ shape_at s u → length o.row ≡ counts_width o.shape →
    SetsGroups s k (arms_of s u) (arm_group s u) (left_after o) old left → SetsGroups s k (s.outs u) (out_group s u) (entered_after o) left entered → SetsSink s u k (arrived_after o) entered new →
    Applies s u k o.row old new
applies_holds s u k o old left entered new law v x shape width arms outs sink = record {
  given = (law s new u k).1 o shape width (record {
    left = λ i d l m.
        let there : arm_group s u i < groups s = arm_there s u i v x l in
        sym (sink.others (arm_group s u i) d there m (λ e. arm_not_come s u i v x l e.0) ∙ (outs.others (arm_group s u i) d there m (λ j y e. arm_not_out s u i j v x y e) ∙ arms.here i d l m));
    entered = λ j d l m. sym (sink.others (out_group s u j) d (out_there s u j v x l) m (λ e. omega (arith, e.0, v.network.out_link_is_link u j x l)) ∙ outs.here j d l m);
    arrived = sym sink.here;
  });
  later = λ g d j y z w ne. sink.later g d j y z w ne ∙ (outs.later g d j y z w ne ∙ arms.later g d j y z w ne);
  others = λ g d y z none.
      sink.others g d y z (λ e. none (inr (inr e)))
      ∙ (outs.others g d y z (λ j l e. none (inr (inl (j, l, e)))) ∙ arms.others g d y z (λ i l e. none (inl (i, l, e))));
}

-- and so are the groups of a node in the order of its row, with the sink
pub groups_apply : (s : Setting) (u k : ℕ) (o : Outputs) (old written new : Counts) → GroupsByRow → GroupsAreSet → IsSetting s → u < s.nodes → o.shape ≡ shape_at s u → length o.row ≡ counts_width o.shape →
    SetsGroups s k (group_count s u) (node_group s u) (in_row s o.row) old written → SetsSink s u k (arrived_after o) written new → Applies s u k o.row old new
groups_apply s u k o old written new by_row set v x shape width groups sink =
    let last : arrived_after o ≡ slice_index o.row (group_count s u * s.destinations) =
    ap (λ (z : NodeShape). slice_index o.row (arrived_after_place z)) shape ∙ ap (λ (z : ℕ). slice_index o.row z) (sym (add-mul (arms_of s u) (s.outs u) s.destinations)) in
    record {
      given = (by_row s new u k).1 o.row (width ∙ ap counts_width shape) (record {
        groups = λ i d l m.
            let there : node_group s u i < arr_of s = set.there s u i v x l in
            sym (sink.others (node_group s u i) d (omega (arith, there)) m (λ e. omega (arith, e.0, there)) ∙ groups.here i d l m);
        arrived = sym (sink.here ∙ last);
      });
      later = λ g d j y z w ne. sink.later g d j y z w ne ∙ groups.later g d j y z w ne;
      others = λ g d y z none.
          sink.others g d y z (λ e. none (inr (inr e)))
          ∙ groups.others g d y z (λ i l e. none (subst (λ (h : ℕ). IsOf s u h d) e (set.set s u i d l)));
    }
