-- The counts of a pair are set group after group, and what is compared later is told of the counts before.
use Rattle.std.proofs.Common.{◌≡◌, ◌≢◌, ℕ, ◌+◌, ◌-◌, ◌<◌, ◌≤◌, ◌==◌, ◌&&◌, ◌||◌, not, Bool, true, false, List, slice_index, refl, ap, sym, ◌∙◌, subst, arith, inl, inr}
use Rattle.std.specs.Prelude.{Option, Some, None}
use Rattle.std.proofs.lemmas.Bool.{cases_lt, cases_eq}
use Rattle.ltm_units.specs.Sums.{sum_below}
use Rattle.ltm_units.proofs.Sums.{sum_below-same}
use Rattle.ltm_curve.specs.Counts.{Counts, total}
use Rattle.ltm_curve.specs.declared.curves.Curves.{Curves}
use Rattle.ltm_curve.specs.declared.changed.Changed.{Changed}
use Rattle.ltm_curve.specs.Cells.{is_changed, HasCells}
use Rattle.ltm_curve.specs.Table.{counts_of, destinations_of, SetsRow}
use Rattle.ltm_node.specs.Outputs.{Outputs, left_after, entered_after}
use Rattle.ltm_loading.specs.Setting.{Setting, IsSetting}
use Rattle.ltm_loading.specs.Groups.{up_of, dep_of, arr_of, groups}
use Rattle.ltm_loading.specs.Pairs.{arms_of, arm_group}
use Rattle.ltm_loading.proofs.Same.{last_within-same}
use Rattle.ltm_flows.specs.Applying.{out_group, SetsGroups}
use Rattle.ltm_loading.specs.Shaped.{IsShaped}
use Rattle.ltm_flows.proofs.Writing.{arm_there, arm_apart, out_there, arm_not_out, arm_not_come}
use Rattle.ltm_frontier.specs.declared.frontier.Frontier.{Frontier}
use Rattle.ltm_frontier.specs.Frontier.{is_pair, Activates}
use Rattle.ltm_pairs.specs.Changes.{some_below}
use Rattle.ltm_working.specs.declared.table.Table.{Table}
use Rattle.ltm_working.specs.Ready.{HasPairs, FitsTable}
use Rattle.ltm_working.specs.Desks.{place_of}
use Rattle.ltm_rows.specs.declared.rows.KeptRows.{KeptRows}
use Rattle.ltm_rows.specs.Rows.{ForgetsRow, HasRows}
use Rattle.ltm_working.specs.Renewed.{SameButCounts, RenewsTails, RenewsNode, RenewsPair}
use Rattle.ltm_working.specs.Waking.{row_differs, out_differs, sink_differs, PutsCells, changes_outs, wakes_later, wakes_listed, wakes_head, wakes_heads, wakes_others, wakes, any_differs, ForgetsIf}
use Rattle.ltm_working.proofs.Bools.{same_below, or_false}
use Rattle.ltm_working.proofs.Activating.{act_none, act_as, act_both}
use Rattle.ltm_working.proofs.Keeping.{rows_left, forgets_on, forgets_off}
use Rattle.ltm_working.proofs.Noting.{puts_as}
use Rattle.ltm_working.proofs.Wakings.{arm_origin}

-- nothing is set of no in-links
pub tails_none : (s : Setting) (u k : ℕ) (o : Outputs) (t : Table) → FitsTable s t → RenewsTails s u k o 0 t false t
tails_none s u k o t fits = record {
  fits = fits;
  same = refl;
  value = refl;
  sets = record { here = λ i d l m. absurd (omega arith); later = λ g d j x y z ne. refl; others = λ g d x y apart. refl };
  cells = record { shape = record { same_groups = refl; same_slots = refl }; each = λ g b cell. sym (or_false (is_changed t.changed g b)) };
  wakes = act_none t.frontier;
}

-- a row whose counts stand there is set
pub row_stands : (c : Curves) (g k : ℕ) (row counts : List ℕ) → ((d : ℕ) → d < destinations_of c → slice_index row d ≡ counts_of c g d k) → row ≡ counts → SetsRow c c g k counts
row_stands c g k row counts stands same = record {
  shape = record { groups = refl; destinations = refl; slots = refl };
  here = λ d l. sym (stands d l) ∙ ap (λ (z : List ℕ). slice_index z d) same;
  others = λ h d j inside apart. refl;
}

-- a group that is not among those that are set differs from a row as before
pub row_unset : (s : Setting) (k n : ℕ) (group : ℕ → ℕ) (value : ℕ → ℕ → ℕ) (old now : Counts) (g : ℕ) (row : ℕ → ℕ) → SetsGroups s k n group value old now → g < groups s →
    ((i : ℕ) → i < n → group i ≢ g) → row_differs s.destinations now g k row ≡ row_differs s.destinations old g k row
row_unset s k n group value old now g row sets there apart =
    same_below s.destinations (λ d. not (now g d k == row d)) (λ d. not (old g d k == row d)) (λ d l. ap (λ (z : ℕ). not (z == row d)) (sets.others g d there l apart))

-- the boundaries before are the same
head_early : (s : Setting) (old now : Counts) (places : ℕ → ℕ → ℕ) (l k x w v : ℕ) → ((d j : ℕ) → d < s.destinations → j ≤ k - 1 → now (up_of l) d j ≡ old (up_of l) d j) →
    wakes_head s now places l k x w v ≡ wakes_head s old places l k x w v
head_early s old now places l k x w v same =
    ap (λ (z : ℕ). wakes_later s l k w v || wakes_listed s places l z k w v)
    (last_within-same (total s.destinations (now (up_of l))) (total s.destinations (old (up_of l))) x (k - 1)
    (λ j m. sum_below-same s.destinations (λ d. now (up_of l) d j) (λ d. old (up_of l) d j) (λ d y. same d j y m)))

-- so the head of a link wakes in the same slots where some groups are set
pub head_unset : (s : Setting) (k n : ℕ) (group : ℕ → ℕ) (value : ℕ → ℕ → ℕ) (old now : Counts) (places : ℕ → ℕ → ℕ) (l x w v : ℕ) → SetsGroups s k n group value old now → up_of l < groups s → 0 < k → k ≤ s.slots →
    wakes_head s now places l k x w v ≡ wakes_head s old places l k x w v
head_unset s k n group value old now places l x w v sets there some within =
    head_early s old now places l k x w v (λ d j y m. sets.later (up_of l) d j there y (omega (arith, m, within, some)) (omega (arith, m, some)))

-- and where its own row is set
pub head_set : (s : Setting) (k : ℕ) (old now : Curves) (row : List ℕ) (places : ℕ → ℕ → ℕ) (l x w v : ℕ) → IsShaped s old → SetsRow old now (up_of l) k row → up_of l < groups s → 0 < k → k ≤ s.slots →
    wakes_head s (counts_of now) places l k x w v ≡ wakes_head s (counts_of old) places l k x w v
head_set s k old now row places l x w v shape set there some within =
    head_early s (counts_of old) (counts_of now) places l k x w v
    (λ d j y m. set.others (up_of l) d j
    (record { is_group = omega (arith, there, shape.same_groups); is_destination = omega (arith, y, shape.same_destinations); is_boundary = omega (arith, m, within, some, shape.same_slots) })
    (inr (omega (arith, m, some))))

-- ---- the origin after the in-links
pub arms_set : (s : Setting) (u k : ℕ) (o : Outputs) (old tails arms : Counts) → IsSetting s → u < s.nodes → SetsGroups s k (s.ins u) (arm_group s u) (left_after o) old tails →
    (0 < s.outs u → SetsGroups s k 1 (λ i. dep_of s u) (λ i. left_after o (s.ins u)) tails arms) → (s.outs u ≡ 0 → arms ≡ tails) → SetsGroups s k (arms_of s u) (arm_group s u) (left_after o) old arms
arms_set s u k o old tails arms is x first origin none = elim (cases_lt 0 (s.outs u)) [
  | inl some ↦
      let last : SetsGroups s k 1 (λ i. dep_of s u) (λ i. left_after o (s.ins u)) tails arms = origin some in
      let all : s.ins u + 1 ≡ arms_of s u = omega arith in
      subst (λ (z : ℕ). SetsGroups s k z (arm_group s u) (left_after o) old arms) all (record {
        here = λ i d l m. elim (cases_eq i (s.ins u)) [
          | inl at ↦
              ap (λ (z : ℕ). arms (arm_group s u z) d k) at ∙ (ap (λ (z : ℕ). arms z d k) (arm_origin s u) ∙ (last.here 0 d (omega arith) m ∙ ap (λ (z : ℕ). left_after o z d) (sym at)))
          | inr before ↦
              let low : i < s.ins u = omega arith in
              last.others (arm_group s u i) d (arm_there s u i is x (omega (arith, low, all))) m
              (λ j y e. arm_apart s u i (s.ins u) is x low (omega (arith, all)) (sym e ∙ sym (arm_origin s u)))
              ∙ first.here i d low m
        ];
        later = λ g d j y z w ne. last.later g d j y z w ne ∙ first.later g d j y z w ne;
        others = λ g d y z ne. last.others g d y z (λ j l e. ne (s.ins u) (omega arith) (arm_origin s u ∙ e)) ∙ first.others g d y z (λ i l. ne i (omega arith));
      })
  | inr few ↦
      let all : s.ins u ≡ arms_of s u = omega arith in
      let stays : arms ≡ tails = none (omega (arith, few)) in
      subst (λ (z : ℕ). SetsGroups s k z (arm_group s u) (left_after o) old arms) all
      (subst (λ (z : Counts). SetsGroups s k (s.ins u) (arm_group s u) (left_after o) old z) (sym stays) first)
]

-- ---- the out-links after the arms
out_unset : (s : Setting) (u k : ℕ) (o : Outputs) (old arms : Counts) (j : ℕ) → IsSetting s → u < s.nodes → SetsGroups s k (arms_of s u) (arm_group s u) (left_after o) old arms → j < s.outs u →
    out_differs s arms u k o j ≡ out_differs s old u k o j
out_unset s u k o old arms j is x sets l =
    row_unset s k (arms_of s u) (arm_group s u) (left_after o) old arms (up_of (s.out_link u j)) (entered_after o j) sets (out_there s u j is x l)
    (λ i m e. arm_not_out s u i j is x l (sym e))

pub outs_value_unset : (s : Setting) (u k : ℕ) (o : Outputs) (old arms : Counts) → IsSetting s → u < s.nodes → SetsGroups s k (arms_of s u) (arm_group s u) (left_after o) old arms →
    some_below (s.outs u) (out_differs s arms u k o) ≡ some_below (s.outs u) (out_differs s old u k o)
outs_value_unset s u k o old arms is x sets =
    same_below (s.outs u) (out_differs s arms u k o) (out_differs s old u k o) (λ j l. out_unset s u k o old arms j is x sets l)

pub outs_cells_unset : (s : Setting) (u k : ℕ) (o : Outputs) (old arms : Counts) (a b : Changed) → IsSetting s → u < s.nodes → SetsGroups s k (arms_of s u) (arm_group s u) (left_after o) old arms →
    PutsCells a b (changes_outs s arms u k o (s.outs u)) → PutsCells a b (changes_outs s old u k o (s.outs u))
outs_cells_unset s u k o old arms a b is x sets puts =
    puts_as a b (changes_outs s arms u k o (s.outs u)) (changes_outs s old u k o (s.outs u)) puts
    (λ g y. same_below (s.outs u) (λ j. out_differs s arms u k o j && is_pair (up_of (s.out_link u j)) k g y) (λ j. out_differs s old u k o j && is_pair (up_of (s.out_link u j)) k g y)
    (λ j l. ap (λ z. z && is_pair (up_of (s.out_link u j)) k g y) (out_unset s u k o old arms j is x sets l)))

pub outs_wake_unset : (s : Setting) (u k : ℕ) (o : Outputs) (old arms : Counts) (places : ℕ → ℕ → ℕ) (w v : ℕ) → IsSetting s → u < s.nodes → 0 < k → k ≤ s.slots →
    SetsGroups s k (arms_of s u) (arm_group s u) (left_after o) old arms → wakes_heads s arms places u k o (s.outs u) w v ≡ wakes_heads s old places u k o (s.outs u) w v
outs_wake_unset s u k o old arms places w v is x some within sets =
    same_below (s.outs u) (λ j. out_differs s arms u k o j && wakes_head s arms places (s.out_link u j) k (sum_below s.destinations (entered_after o j)) w v)
    (λ j. out_differs s old u k o j && wakes_head s old places (s.out_link u j) k (sum_below s.destinations (entered_after o j)) w v)
    (λ j l. ap (λ z. z && wakes_head s arms places (s.out_link u j) k (sum_below s.destinations (entered_after o j)) w v) (out_unset s u k o old arms j is x sets l)
    ∙ ap (λ z. out_differs s old u k o j && z)
    (head_unset s k (arms_of s u) (arm_group s u) (left_after o) old arms places (s.out_link u j) (sum_below s.destinations (entered_after o j)) w v sets (out_there s u j is x l) some within))

-- ---- what has arrived after these
sink_like : (s : Setting) (a b : Counts) (own : Option ℕ) (k x : ℕ) → ((d : ℕ) → own ≡ Some d → a (arr_of s) d k ≡ b (arr_of s) d k) → sink_differs s a own k x ≡ sink_differs s b own k x
sink_like s a b None k x same = refl
sink_like s a b (Some d) k x same = ap (λ (z : ℕ). not (z == x)) (same d refl)

pub sink_unset : (s : Setting) (u k : ℕ) (o : Outputs) (old arms outs : Counts) (x : ℕ) → IsSetting s → u < s.nodes → SetsGroups s k (arms_of s u) (arm_group s u) (left_after o) old arms →
    SetsGroups s k (s.outs u) (out_group s u) (entered_after o) arms outs → sink_differs s outs (s.own u) k x ≡ sink_differs s old (s.own u) k x
sink_unset s u k o old arms outs x is node first next = sink_like s outs old (s.own u) k x
    (λ d own.
    let there : arr_of s < groups s = omega arith in
    let inside : d < s.destinations = is.network.own_is_destination u d node own in
    next.others (arr_of s) d there inside (λ j l e. omega (arith, e, is.network.out_link_is_link u j node l))
    ∙ first.others (arr_of s) d there inside (λ i l e. arm_not_come s u i is node l (sym e)))

-- ---- the table in which they are set
pub pairs_stay : (s : Setting) (old new : Frontier) (woken : ℕ → ℕ → Bool) → HasPairs s old → Activates old new woken → HasPairs s new
pairs_stay s old new woken pairs wakes = record { nodes = wakes.size.nodes ∙ pairs.nodes; slots = wakes.size.slots ∙ pairs.slots }

pub fits_with : (s : Setting) (t : Table) (c : Curves) (x : Changed) (f : Frontier) (k : KeptRows) → FitsTable s t → IsShaped s c → HasCells x (groups s) s.slots → HasPairs s f → HasRows s s.slots k →
    FitsTable s (record t { curves = c; changed = x; frontier = f; kept = k })
fits_with s t c x f k fits shaped cells pairs rows = record { curves = shaped; kept = rows; claims = fits.claims; frontier = pairs; index = fits.index; changed = cells }

pub same_but_counts : (a b c : Table) → SameButCounts a b → SameButCounts b c → SameButCounts a c
same_but_counts a b c first next = next ∙ ap (λ (z : Table). record z { curves = c.curves; changed = c.changed; frontier = c.frontier }) first

-- no count of the node was another one, so its next slot does not wake
pub pair_quiet : (s : Setting) (u k : ℕ) (o : Outputs) (old new : Table) (any : Bool) → RenewsNode s u k o old any new → any ≡ false → RenewsPair s u k o old new
pair_quiet s u k o old new any node none =
    let off : any_differs s (counts_of old.curves) u k o ≡ false = sym node.value ∙ none in
    let others : ℕ → ℕ → Bool = wakes_others s (counts_of old.curves) (place_of old.index) u k o in
    record {
      fits = node.fits;
      same = node.same ∙ ap (λ (z : KeptRows). record old { curves = new.curves; changed = new.changed; frontier = new.frontier; kept = z }) (sym (ap (λ (z : Table). z.kept) node.same));
      applies = node.applies;
      cells = node.cells;
      wakes = act_as old.frontier new.frontier others (wakes s (counts_of old.curves) (place_of old.index) u k o) node.wakes
          (λ w v x y. sym (ap (λ z. others w v || (z && is_pair u k w v)) off ∙ or_false (others w v)));
      kept = subst (λ (z : KeptRows). ForgetsIf (any_differs s (counts_of old.curves) u k o) old.kept z u k) (sym (ap (λ (z : Table). z.kept) node.same)) (forgets_off _ old.kept u k off);
    }

-- some was, and it wakes
pub pair_woken : (s : Setting) (u k : ℕ) (o : Outputs) (old mid : Table) (any : Bool) (f : Frontier) (r : KeptRows) → RenewsNode s u k o old any mid → any ≡ true → Activates mid.frontier f (is_pair u k) → ForgetsRow mid.kept r u k →
    RenewsPair s u k o old (record mid { frontier = f; kept = r })
pair_woken s u k o old mid any f r node some wakes_next forgets =
    let on : any_differs s (counts_of old.curves) u k o ≡ true = sym node.value ∙ some in
    let others : ℕ → ℕ → Bool = wakes_others s (counts_of old.curves) (place_of old.index) u k o in
    record {
      fits = fits_with s mid mid.curves mid.changed f r node.fits node.fits.curves node.fits.changed (pairs_stay s mid.frontier f _ node.fits.frontier wakes_next) (rows_left s s.slots true mid.kept r u k node.fits.kept forgets);
      same = ap (λ (z : Table). record z { frontier = f; kept = r }) node.same;
      applies = node.applies;
      cells = node.cells;
      wakes = act_as old.frontier f (λ w v. others w v || is_pair u k w v) (wakes s (counts_of old.curves) (place_of old.index) u k o)
          (act_both old.frontier mid.frontier f others (is_pair u k) node.wakes wakes_next)
          (λ w v x y. sym (ap (λ z. others w v || (z && is_pair u k w v)) on));
      kept = subst (λ (z : KeptRows). ForgetsIf (any_differs s (counts_of old.curves) u k o) z r u k) (ap (λ (z : Table). z.kept) node.same) (forgets_on _ mid.kept r u k on forgets);
    }
