-- The counts of a node are set part after part.
use Rattle.std.proofs.Common.{◌≡◌, ℕ, ◌+◌, ◌<◌, ◌&&◌, ◌||◌, Bool, length, ap, sym, ◌∙◌, subst, arith}
use Rattle.ltm_curve.specs.Table.{counts_of}
use Rattle.ltm_node.specs.Shape.{counts_width}
use Rattle.ltm_node.specs.Outputs.{Outputs, left_after, arrived_after}
use Rattle.ltm_loading.specs.Setting.{Setting, IsSetting}
use Rattle.ltm_loading.specs.Groups.{arr_of}
use Rattle.ltm_loading.specs.Pairs.{arms_of, arm_group, arrived_by, shape_at}
use Rattle.ltm_loading.specs.ByPlace.{CountsByPlace}
use Rattle.ltm_loading.specs.Shaped.{IsShaped}
use Rattle.ltm_flows.specs.Applying.{SetsGroups, SetsSink}
use Rattle.ltm_flows.proofs.Writing.{arm_there, arm_apart, applies_holds}
use Rattle.ltm_frontier.specs.declared.frontier.Frontier.{Frontier}
use Rattle.ltm_frontier.specs.Frontier.{is_pair, Activates}
use Rattle.ltm_index.specs.declared.read_index.ReadIndex.{ReadIndex}
use Rattle.ltm_working.specs.declared.step_form.StepForm.{StepForm}
use Rattle.ltm_working.specs.declared.table.Table.{Table}
use Rattle.ltm_working.specs.Counted.{counted_number, counts_by_form}
use Rattle.ltm_working.specs.Desks.{place_of}
use Rattle.ltm_working.specs.Ready.{FitsTable}
use Rattle.ltm_working.specs.Waking.{arm_differs, sink_differs, PutsCells, wakes_tails, wakes_heads, wakes_others}
use Rattle.ltm_working.specs.Renewed.{RenewsTails, RenewsHeads, RenewsOrigin, RenewsNode}
use Rattle.ltm_working.proofs.Activating.{act_as, act_both}
use Rattle.ltm_working.proofs.Noting.{cells_stay}
use Rattle.ltm_working.proofs.Wakings.{IsOrigin, all_value, all_cells}
use Rattle.ltm_working.proofs.Renewals.{row_unset, outs_value_unset, outs_cells_unset, outs_wake_unset, sink_unset, fits_with}
use Rattle.ltm_working.proofs.Counted.{Stays, counted_shape, counted_long, sink_counted, begins_still, still_both, counted_still, arms_counted}

-- the counts that are set, of a table as it stands
abbrev pub at_end : StepForm → Setting → Table → ℕ → ℕ → Outputs → Outputs
at_end given s x u t o = counts_by_form given s (counts_of x.curves) u t o

-- the in-links, and then the origin
pub record SetsArms (given : StepForm) (s : Setting) (u t : ℕ) (o : Outputs) (old tails arms : Table) (a b : Bool) : Type 0 where
  pub setting : IsSetting s
  pub is_node : u < s.nodes
  pub is_slot : t < s.slots
  pub first : RenewsTails s u (t + 1) (at_end given s old u t o) (s.ins u) old a tails
  pub next : RenewsOrigin s u (t + 1) (at_end given s tails u t o) tails b arms

pub arms_are_set : (given : StepForm) (s : Setting) (u t : ℕ) (o : Outputs) (old tails arms : Table) (a b : Bool) → SetsArms given s u t o old tails arms a b →
    SetsGroups s (t + 1) (arms_of s u) (arm_group s u) (left_after (at_end given s old u t o)) (counts_of old.curves) (counts_of arms.curves)
arms_are_set given s u t o old tails arms a b is =
    arms_counted given s u t o (counts_of old.curves) (counts_of tails.curves) (counts_of arms.curves) is.setting is.is_node is.is_slot is.first.sets is.next.sets is.next.stays

-- no count at the slot's beginning changes, so the same counts are set
pub arms_still : (given : StepForm) (s : Setting) (u t : ℕ) (o : Outputs) (old tails arms : Table) (a b : Bool) → SetsArms given s u t o old tails arms a b → Stays s t (counts_of old.curves) (counts_of arms.curves)
arms_still given s u t o old tails arms a b is = begins_still s t (arms_of s u) _ _ _ _ is.is_slot (arms_are_set given s u t o old tails arms a b is)

after_arms : (given : StepForm) (s : Setting) (u t : ℕ) (o : Outputs) (old tails arms : Table) (a b : Bool) → SetsArms given s u t o old tails arms a b → at_end given s arms u t o ≡ at_end given s old u t o
after_arms given s u t o old tails arms a b is =
    counted_still given s (counts_of old.curves) (counts_of arms.curves) u t o is.setting is.is_node (arms_still given s u t o old tails arms a b is)

-- the origin's counts differ as before the in-links were set
origin_is : (given : StepForm) (s : Setting) (u t : ℕ) (o : Outputs) (old tails arms : Table) (a b : Bool) → SetsArms given s u t o old tails arms a b →
    IsOrigin s (counts_of old.curves) u (t + 1) (at_end given s old u t o) b
origin_is given s u t o old tails arms a b is =
    let first : Outputs = at_end given s old u t o in
    record {
      origin = λ some.
          let inside : s.ins u < arms_of s u = omega arith in
          is.next.origin some
          ∙ (ap (λ (z : Outputs). arm_differs s (counts_of tails.curves) u (t + 1) z (s.ins u))
          (counted_still given s (counts_of old.curves) (counts_of tails.curves) u t o is.setting is.is_node (begins_still s t (s.ins u) _ _ _ _ is.is_slot is.first.sets))
          ∙ row_unset s (t + 1) (s.ins u) (arm_group s u) (left_after first) (counts_of old.curves) (counts_of tails.curves) (arm_group s u (s.ins u)) (left_after first (s.ins u))
          is.first.sets (arm_there s u (s.ins u) is.setting is.is_node inside) (λ i l. arm_apart s u i (s.ins u) is.setting is.is_node l inside));
      none = is.next.none;
    }

-- then the out-links
pub record SetsEnds (given : StepForm) (s : Setting) (u t : ℕ) (o : Outputs) (old tails arms heads : Table) (a b c : Bool) : Type 0 where
  pub before : SetsArms given s u t o old tails arms a b
  pub last : RenewsHeads s u (t + 1) (at_end given s arms u t o) (s.outs u) arms c heads

heads_are_set : (given : StepForm) (s : Setting) (u t : ℕ) (o : Outputs) (old tails arms heads : Table) (a b c : Bool) → SetsEnds given s u t o old tails arms heads a b c →
    RenewsHeads s u (t + 1) (at_end given s old u t o) (s.outs u) arms c heads
heads_are_set given s u t o old tails arms heads a b c is =
    subst (λ (z : Outputs). RenewsHeads s u (t + 1) z (s.outs u) arms c heads) (after_arms given s u t o old tails arms a b is.before) is.last

pub arrived_is : (given : StepForm) (s : Setting) (u t : ℕ) (o : Outputs) (old tails arms heads : Table) (a b c : Bool) (n : ℕ) → SetsEnds given s u t o old tails arms heads a b c → o.shape ≡ shape_at s u → n ≡ arrived_after o →
    counted_number given (arrived_by s (counts_of heads.curves) (s.own u) t) n ≡ arrived_after (at_end given s old u t o)
arrived_is given s u t o old tails arms heads a b c n is shape same =
    ap (counted_number given (arrived_by s (counts_of heads.curves) (s.own u) t)) same
    ∙ (sink_counted given s (counts_of heads.curves) u t o shape
    ∙ ap (λ (z : Outputs). arrived_after z)
    (counted_still given s (counts_of old.curves) (counts_of heads.curves) u t o is.before.setting is.before.is_node
    (still_both s t (counts_of old.curves) (counts_of arms.curves) (counts_of heads.curves) (arms_still given s u t o old tails arms a b is.before) (begins_still s t (s.outs u) _ _ _ _ is.before.is_slot is.last.sets))))

-- and then what has arrived
pub record SetsAll (given : StepForm) (s : Setting) (u t : ℕ) (o : Outputs) (old tails arms heads new : Table) (a b c d : Bool) : Type 0 where
  pub ends : SetsEnds given s u t o old tails arms heads a b c
  pub shape : o.shape ≡ shape_at s u
  pub long : length o.row ≡ counts_width o.shape
  pub by_place : CountsByPlace
  pub same : new ≡ record heads { curves = new.curves; changed = new.changed }
  pub shaped : IsShaped s new.curves
  pub value : d ≡ sink_differs s (counts_of heads.curves) (s.own u) (t + 1) (arrived_after (at_end given s old u t o))
  pub sets : SetsSink s u (t + 1) (arrived_after (at_end given s old u t o)) (counts_of heads.curves) (counts_of new.curves)
  pub cells : PutsCells heads.changed new.changed (λ g k. d && is_pair (arr_of s) (t + 1) g k)

all_wake : (given : StepForm) (s : Setting) (u t : ℕ) (o : Outputs) (old tails arms heads : Table) (a b c : Bool) → SetsEnds given s u t o old tails arms heads a b c →
    Activates old.frontier heads.frontier (λ w v. wakes_tails s (counts_of old.curves) u (t + 1) (at_end given s old u t o) (s.ins u) w v || wakes_heads s (counts_of old.curves) (place_of old.index) u (t + 1) (at_end given s old u t o) (s.outs u) w v)
all_wake given s u t o old tails arms heads a b c is =
    let first : Outputs = at_end given s old u t o in
    let pairs : arms.frontier ≡ tails.frontier = ap (λ (z : Table). z.frontier) is.before.next.same in
    let lists : arms.index ≡ old.index = ap (λ (z : Table). z.index) is.before.next.same ∙ ap (λ (z : Table). z.index) is.before.first.same in
    let woken = subst (λ (x : ReadIndex). Activates tails.frontier heads.frontier (wakes_heads s (counts_of arms.curves) (place_of x) u (t + 1) first (s.outs u))) lists
    (subst (λ (f : Frontier). Activates f heads.frontier (wakes_heads s (counts_of arms.curves) (place_of arms.index) u (t + 1) first (s.outs u))) pairs
    (heads_are_set given s u t o old tails arms heads a b c is).wakes) in
    act_both old.frontier tails.frontier heads.frontier (wakes_tails s (counts_of old.curves) u (t + 1) first (s.ins u)) (wakes_heads s (counts_of old.curves) (place_of old.index) u (t + 1) first (s.outs u)) is.before.first.wakes
    (act_as tails.frontier heads.frontier (wakes_heads s (counts_of arms.curves) (place_of old.index) u (t + 1) first (s.outs u)) (wakes_heads s (counts_of old.curves) (place_of old.index) u (t + 1) first (s.outs u)) woken
    (λ w v x y. outs_wake_unset s u (t + 1) first (counts_of old.curves) (counts_of arms.curves) (place_of old.index) w v is.before.setting is.before.is_node (omega arith) (omega (arith, is.before.is_slot)) (arms_are_set given s u t o old tails arms a b is.before)))

pub renews_node : (given : StepForm) (s : Setting) (u t : ℕ) (o : Outputs) (old tails arms heads new : Table) (a b c d : Bool) → SetsAll given s u t o old tails arms heads new a b c d →
    RenewsNode s u (t + 1) (at_end given s old u t o) old ((a || b) || (c || d)) new
renews_node given s u t o old tails arms heads new a b c d is =
    let first : Outputs = at_end given s old u t o in
    let x : IsSetting s = is.ends.before.setting in
    let l : u < s.nodes = is.ends.before.is_node in
    let set = arms_are_set given s u t o old tails arms a b is.ends.before in
    let outs = heads_are_set given s u t o old tails arms heads a b c is.ends in
    let origin = origin_is given s u t o old tails arms a b is.ends.before in
    let sink : d ≡ sink_differs s (counts_of old.curves) (s.own u) (t + 1) (arrived_after first) =
    is.value ∙ sink_unset s u (t + 1) first (counts_of old.curves) (counts_of arms.curves) (counts_of heads.curves) (arrived_after first) x l set outs.sets in
    record {
      fits = subst (λ (z : Table). FitsTable s z) (sym is.same) (fits_with s heads new.curves new.changed heads.frontier heads.kept outs.fits is.shaped (cells_stay heads.changed new.changed _ _ _ outs.fits.changed is.cells) outs.fits.frontier outs.fits.kept);
      same = is.same ∙ (ap (λ (z : Table). record z { curves = new.curves; changed = new.changed }) outs.same
          ∙ (ap (λ (z : Table). record z { curves = new.curves; changed = new.changed; frontier = heads.frontier }) is.ends.before.next.same
          ∙ (ap (λ (z : Table). record z { curves = new.curves; changed = new.changed; frontier = heads.frontier }) is.ends.before.first.same
          ∙ ap (λ (f : Frontier). record old { curves = new.curves; changed = new.changed; frontier = f }) (sym (ap (λ (z : Table). z.frontier) is.same)))));
      value = all_value s (counts_of old.curves) u (t + 1) first a b c d is.ends.before.first.value origin
          (outs.value ∙ outs_value_unset s u (t + 1) first (counts_of old.curves) (counts_of arms.curves) x l set) sink;
      applies = applies_holds s u (t + 1) first _ _ _ _ is.by_place x l (counted_shape given s (counts_of old.curves) u t o is.shape) (counted_long given s (counts_of old.curves) u t o is.long) set outs.sets is.sets;
      cells = all_cells s (counts_of old.curves) u (t + 1) first b d old.changed tails.changed arms.changed heads.changed new.changed origin sink is.ends.before.first.cells is.ends.before.next.cells
          (outs_cells_unset s u (t + 1) first (counts_of old.curves) (counts_of arms.curves) arms.changed heads.changed x l set outs.cells) is.cells;
      wakes = subst (λ (f : Frontier). Activates old.frontier f (wakes_others s (counts_of old.curves) (place_of old.index) u (t + 1) first)) (sym (ap (λ (z : Table). z.frontier) is.same)) (all_wake given s u t o old tails arms heads a b c is.ends);
    }
