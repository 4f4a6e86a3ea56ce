-- Outputs as the counts at a slot's end.
use Rattle.std.proofs.Common.{◌≡◌, ℕ, zero, suc, ◌+◌, ◌^◌, ◌<◌, ◌==◌, not, true, false, List, [], ◌∷◌, length, slice_index, Bool, Fits, w64, refl, ap, sym, ◌∙◌, subst, arith, inl, inr}
use Rattle.std.proofs.lemmas.Bool.{cases_Bool, cases_eq}
use Rattle.std.proofs.lemmas.List.{ext_get_or}
use Rattle.ltm_curve.specs.Counts.{Counts}
use Rattle.ltm_curve.specs.declared.curves.Curves.{Curves}
use Rattle.ltm_curve.specs.declared.changed.Changed.{Changed}
use Rattle.ltm_curve.specs.Table.{destinations_of, counts_of, SetsRow}
use Rattle.ltm_curve.specs.First.{list_below}
use Rattle.ltm_curve.proofs.Lists.{length-list_below, index-list_below}
use Rattle.ltm_node.specs.declared.shape.NodeShape.{NodeShape}
use Rattle.ltm_node.specs.Shape.{counts_width}
use Rattle.ltm_node.specs.Outputs.{Outputs, left_after, entered_after, arrived_after}
use Rattle.ltm_loading.specs.Setting.{Setting, IsSetting}
use Rattle.ltm_loading.specs.Groups.{dep_of, groups}
use Rattle.ltm_loading.specs.Pairs.{arms_of, arm_group, arrived_by, shape_at, count_row}
use Rattle.ltm_loading.specs.Uncounted.{outputs_at}
use Rattle.ltm_loading.proofs.Setters.{counts_set_only_holds, of_group}
use Rattle.ltm_flows.specs.Applying.{out_group, SetsGroups}
use Rattle.ltm_flows.proofs.Writing.{arm_there, out_there}
use Rattle.ltm_flows.proofs.Adding.{arm_number, out_number, sink_number}
use Rattle.ltm_working.specs.declared.step_form.StepForm.{StepForm}
use Rattle.ltm_working.specs.declared.step_form.StepForm.TheVariants.{Counted, Moved}
use Rattle.ltm_setting.specs.Setting.{setting_of}
use Rattle.ltm_working.specs.declared.renewal.Renewal.{Renewal}
use Rattle.ltm_working.specs.declared.table.Table.{Table}
use Rattle.ltm_working.specs.Ready.{FitsTable}
use Rattle.ltm_working.specs.Renewed.{FitsRenewal}
use Rattle.ltm_working.specs.Counted.{counted_number, counted_row, counts_by_form}
use Rattle.ltm_working.specs.Waking.{row_differs}
use Rattle.ltm_working.specs.Rewriting.{row_at_end, FitsRow, RenewsRow}
use Rattle.ltm_working.proofs.Bools.{one_below, none_below, differ, do_not_differ}
use Rattle.ltm_working.proofs.Renewals.{arms_set}

-- ---- the row of a group
pub sums_are : (c : Counts) (g t : ℕ) (xs moves : List ℕ) → length xs ≡ length moves → ((d : ℕ) → d < length moves → slice_index xs d ≡ c g d t + slice_index moves d) → xs ≡ counted_row Moved c g t moves
sums_are c g t xs moves long each =
    let sum : ℕ → ℕ = λ d. c g d t + slice_index moves d in
    ext_get_or 0 xs (list_below (length moves) sum) (long ∙ sym (length-list_below (length moves) sum))
    (λ d l. each d (omega (arith, l, long)) ∙ sym (index-list_below (length moves) sum d (omega (arith, l, long))))

pub sum_at : (c : Counts) (g t d : ℕ) (moves : List ℕ) → d < length moves → slice_index (counted_row Moved c g t moves) d ≡ c g d t + slice_index moves d
sum_at c g t d moves l = index-list_below (length moves) (λ e. c g e t + slice_index moves e) d l

pub number_at : (given : StepForm) (c : Counts) (g t d : ℕ) (xs : List ℕ) → d < length xs → slice_index (counted_row given c g t xs) d ≡ counted_number given (c g d t) (slice_index xs d)
number_at Counted c g t d xs l = refl
number_at Moved c g t d xs l = sum_at c g t d xs l

-- a row that fits a table
pub fits_row : (given : StepForm) (s : Setting) (x : Table) (g t : ℕ) (xs : List ℕ) → FitsTable s x → g < groups s → t < s.slots → length xs ≡ s.destinations →
    ((d : ℕ) → d < length xs → slice_index (row_at_end given x.curves g t xs) d < 2 ^ 31) → FitsRow given x.curves x.changed g t xs
fits_row given s x g t xs fits there l long small = record {
  group = omega (arith, there, fits.curves.same_groups);
  slot = omega (arith, l, fits.curves.same_slots);
  count = long ∙ sym fits.curves.same_destinations;
  small = λ d m. omega (arith, number_at given (counts_of x.curves) g t d xs m, small d m);
  cells = record { same_groups = fits.changed.same_groups ∙ sym fits.curves.same_groups; same_slots = fits.changed.same_slots ∙ sym fits.curves.same_slots };
}

-- a count that was read and what moves fit
pub sum_fits : (c : Curves) (x : Changed) (g t a d : ℕ) (before moves : List ℕ) → FitsRow Moved c x g t moves → d < length moves → ((e : ℕ) → e < destinations_of c → slice_index before e ≡ counts_of c g e t) →
    a ≡ slice_index before d → Fits w64 (a + slice_index moves d)
sum_fits c x g t a d before moves fits l stands at = omega (arith, at, stands d (omega (arith, l, fits.count)), fits.small d l)

-- counts that are those that stand there already, and others
pub moved_like : (c : Curves) (x : Changed) (g t : ℕ) (moves : List ℕ) → FitsRow Moved c x g t moves → ((d : ℕ) → d < length moves → counts_of c g d (t + 1) ≡ counts_of c g d t + slice_index moves d) →
    row_differs (destinations_of c) (counts_of c) g (t + 1) (slice_index (row_at_end Moved c g t moves)) ≡ false
moved_like c x g t moves fits same =
    none_below (destinations_of c) (λ d. not (counts_of c g d (t + 1) == slice_index (row_at_end Moved c g t moves) d))
    (λ d l. let within : d < length moves = omega (arith, l, fits.count) in do_not_differ (counts_of c g d (t + 1)) (slice_index (row_at_end Moved c g t moves) d) (same d within ∙ sym (sum_at (counts_of c) g t d moves within)))

pub moved_unlike : (c : Curves) (x : Changed) (g t : ℕ) (moves : List ℕ) → FitsRow Moved c x g t moves → (((d : ℕ) → d < length moves → counts_of c g d (t + 1) ≡ counts_of c g d t + slice_index moves d) → ⊥) →
    row_differs (destinations_of c) (counts_of c) g (t + 1) (slice_index (row_at_end Moved c g t moves)) ≡ true
moved_unlike c x g t moves fits apart =
    let row : ℕ → ℕ = slice_index (row_at_end Moved c g t moves) in
    elim (cases_Bool (row_differs (destinations_of c) (counts_of c) g (t + 1) row)) [
      | inl some ↦ some
      | inr none ↦ absurd (apart (λ d l. elim (cases_eq (counts_of c g d (t + 1)) (row d)) [
        | inl same ↦ same ∙ sum_at (counts_of c) g t d moves l
        | inr other ↦
            let on : row_differs (destinations_of c) (counts_of c) g (t + 1) row ≡ true = one_below (destinations_of c) (λ e. not (counts_of c g e (t + 1) == row e)) d (omega (arith, l, fits.count)) (differ (counts_of c g d (t + 1)) (row d) other) in
            absurd (cc)
      ]))
    ]

-- what moves may be set where the counts may that it makes
pub fits_sums : (c : Curves) (x : Changed) (g t : ℕ) (xs moves : List ℕ) → xs ≡ row_at_end Moved c g t moves → FitsRow Moved c x g t moves → FitsRow Counted c x g t xs
fits_sums c x g t xs moves is fits =
    let long : length xs ≡ length moves = ap (λ (z : List ℕ). length z) is ∙ length-list_below (length moves) (λ d. counts_of c g d t + slice_index moves d) in
    record {
      group = fits.group;
      slot = fits.slot;
      count = long ∙ fits.count;
      small = λ d l.
          let within : d < length moves = omega (arith, l, long) in
          omega (arith, ap (λ (z : List ℕ). slice_index z d) is, sum_at (counts_of c) g t d moves within, fits.small d within);
      cells = fits.cells;
    }

-- and is set by them
pub renews_sums : (c d : Curves) (x y : Changed) (g t : ℕ) (xs moves : List ℕ) (any : Bool) → xs ≡ row_at_end Moved c g t moves → RenewsRow Counted c x g t xs any d y → RenewsRow Moved c x g t moves any d y
renews_sums c d x y g t xs moves any is renews = record {
  value = renews.value ∙ ap (λ (z : List ℕ). row_differs (destinations_of c) (counts_of c) g (t + 1) (slice_index z)) is;
  sets = subst (λ (z : List ℕ). SetsRow c d g (t + 1) z) is renews.sets;
  cells = renews.cells;
}

-- a row is told number by number
each_of : (f : ℕ → ℕ) (a : ℕ) (xs : List ℕ) → a ≡ f 0 → ((d : ℕ) → d < length xs → slice_index xs d ≡ f (suc d)) → (d : ℕ) → d < length xs + 1 → slice_index (a ∷ xs) d ≡ f d
each_of f a xs first rest zero l = first
each_of f a xs first rest (suc d) l = rest d (omega (arith, l))

-- a count that was read and what moves
read_sum : (c : Counts) (g t n a d : ℕ) (before moves : List ℕ) → d < n → ((e : ℕ) → e < n → slice_index before e ≡ c g e t) → a ≡ slice_index before d → a + slice_index moves d ≡ c g d t + slice_index moves d
read_sum c g t n a d before moves l stands at = omega (arith, at, stands d l)

pub one_sum : (c : Counts) (g t n a : ℕ) (before moves : List ℕ) → length moves ≡ 1 → length moves ≡ n → ((e : ℕ) → e < n → slice_index before e ≡ c g e t) → a ≡ slice_index before 0 →
    (a + slice_index moves 0) ∷ [] ≡ counted_row Moved c g t moves
one_sum c g t n a before moves long wide stands first =
    sums_are c g t ((a + slice_index moves 0) ∷ []) moves (sym long)
    (λ d l. each_of (λ e. c g e t + slice_index moves e) _ [] (read_sum c g t n a 0 before moves (omega (arith, long, wide)) stands first) (λ e m. absurd (omega (arith, m))) d (omega (arith, l, long)))

pub two_sums : (c : Counts) (g t n a b : ℕ) (before moves : List ℕ) → length moves ≡ 2 → length moves ≡ n → ((e : ℕ) → e < n → slice_index before e ≡ c g e t) → a ≡ slice_index before 0 → b ≡ slice_index before 1 →
    (a + slice_index moves 0) ∷ (b + slice_index moves 1) ∷ [] ≡ counted_row Moved c g t moves
two_sums c g t n a b before moves long wide stands first second =
    sums_are c g t ((a + slice_index moves 0) ∷ (b + slice_index moves 1) ∷ []) moves (sym long)
    (λ d l. each_of (λ e. c g e t + slice_index moves e) _ ((b + slice_index moves 1) ∷ []) (read_sum c g t n a 0 before moves (omega (arith, long, wide)) stands first)
    (each_of (λ e. c g (suc e) t + slice_index moves (suc e)) _ [] (read_sum c g t n b 1 before moves (omega (arith, long, wide)) stands second) (λ e m. absurd (omega (arith, m)))) d (omega (arith, l, long)))

arm_counted : (given : StepForm) (s : Setting) (old now : Counts) (u t n g d : ℕ) (o : Outputs) (xs : List ℕ) → o.shape ≡ shape_at s u → n < arms_of s u → d < s.destinations → g ≡ arm_group s u n → d < length xs →
    now g d t ≡ old g d t → slice_index xs d ≡ left_after o n d → slice_index (counted_row given now g t xs) d ≡ left_after (counts_by_form given s old u t o) n d
arm_counted Counted s old now u t n g d o xs shape l m at x still is = is
arm_counted Moved s old now u t n g d o xs shape l m at x still is =
    sum_at now g t d xs x ∙ (omega (arith, still, is, ap (λ (z : ℕ). old z d t) at) ∙ arm_number s old u t o n d shape l m)

out_counted : (given : StepForm) (s : Setting) (old now : Counts) (u t n g d : ℕ) (o : Outputs) (xs : List ℕ) → o.shape ≡ shape_at s u → n < s.outs u → d < s.destinations → g ≡ out_group s u n → d < length xs →
    now g d t ≡ old g d t → slice_index xs d ≡ entered_after o n d → slice_index (counted_row given now g t xs) d ≡ entered_after (counts_by_form given s old u t o) n d
out_counted Counted s old now u t n g d o xs shape l m at x still is = is
out_counted Moved s old now u t n g d o xs shape l m at x still is =
    sum_at now g t d xs x ∙ (omega (arith, still, is, ap (λ (z : ℕ). old z d t) at) ∙ out_number s old u t o n d shape l m)

-- no count at the slot's beginning changes
abbrev pub Stays : Setting → ℕ → Counts → Counts → Type 0
Stays s t old now = (g d : ℕ) → g < groups s → d < s.destinations → now g d t ≡ old g d t

-- the group of an arm
pub arm_row : (given : StepForm) (s : Setting) (old now : Counts) (u t n g : ℕ) (o : Outputs) (xs : List ℕ) → IsSetting s → u < s.nodes → n < arms_of s u → g ≡ arm_group s u n → o.shape ≡ shape_at s u → length xs ≡ o.shape.destinations →
    ((d : ℕ) → d < o.shape.destinations → slice_index xs d ≡ left_after o n d) → Stays s t old now → (d : ℕ) → d < s.destinations → slice_index (counted_row given now g t xs) d ≡ left_after (counts_by_form given s old u t o) n d
arm_row given s old now u t n g o xs is x inside at shape long each still d l =
    let wide : o.shape.destinations ≡ s.destinations = ap (λ (z : NodeShape). z.destinations) shape in
    arm_counted given s old now u t n g d o xs shape inside l at (omega (arith, l, long, wide)) (still g d (omega (arith, at, arm_there s u n is x inside)) l) (each d (omega (arith, l, wide)))

-- and that of an out-link
pub out_row : (given : StepForm) (s : Setting) (old now : Counts) (u t n g : ℕ) (o : Outputs) (xs : List ℕ) → IsSetting s → u < s.nodes → n < s.outs u → g ≡ out_group s u n → o.shape ≡ shape_at s u → length xs ≡ o.shape.destinations →
    ((d : ℕ) → d < o.shape.destinations → slice_index xs d ≡ entered_after o n d) → Stays s t old now → (d : ℕ) → d < s.destinations → slice_index (counted_row given now g t xs) d ≡ entered_after (counts_by_form given s old u t o) n d
out_row given s old now u t n g o xs is x inside at shape long each still d l =
    let wide : o.shape.destinations ≡ s.destinations = ap (λ (z : NodeShape). z.destinations) shape in
    out_counted given s old now u t n g d o xs shape inside l at (omega (arith, l, long, wide)) (still g d (omega (arith, at, out_there s u n is x inside)) l) (each d (omega (arith, l, wide)))

-- counts that are set at the slot's end change none at its beginning
pub begins_still : (s : Setting) (t n : ℕ) (group : ℕ → ℕ) (value : ℕ → ℕ → ℕ) (old now : Counts) → t < s.slots → SetsGroups s (t + 1) n group value old now → Stays s t old now
begins_still s t n group value old now l sets g d there m = sets.later g d t there m (omega arith) (λ e. absurd (omega (arith, e)))

pub still_both : (s : Setting) (t : ℕ) (a b c : Counts) → Stays s t a b → Stays s t b c → Stays s t a c
still_both s t a b c first next g d there m = next g d there m ∙ first g d there m

-- what has arrived
pub sink_counted : (given : StepForm) (s : Setting) (c : Counts) (u t : ℕ) (o : Outputs) → o.shape ≡ shape_at s u → counted_number given (arrived_by s c (s.own u) t) (arrived_after o) ≡ arrived_after (counts_by_form given s c u t o)
sink_counted Counted s c u t o shape = refl
sink_counted Moved s c u t o shape = sink_number s c u t o shape

-- ---- the row of a node
pub counted_shape : (given : StepForm) (s : Setting) (c : Counts) (u t : ℕ) (o : Outputs) → o.shape ≡ shape_at s u → (counts_by_form given s c u t o).shape ≡ shape_at s u
counted_shape Counted s c u t o shape = shape
counted_shape Moved s c u t o shape = refl

pub counted_long : (given : StepForm) (s : Setting) (c : Counts) (u t : ℕ) (o : Outputs) → length o.row ≡ counts_width o.shape → length (counts_by_form given s c u t o).row ≡ counts_width (counts_by_form given s c u t o).shape
counted_long Counted s c u t o long = long
counted_long Moved s c u t o long = length-list_below (counts_width (shape_at s u)) (λ i. slice_index (count_row s c u t) i + slice_index o.row i)

-- where no count at the slot's beginning changes
pub counted_still : (given : StepForm) (s : Setting) (old now : Counts) (u t : ℕ) (o : Outputs) → IsSetting s → u < s.nodes → Stays s t old now → counts_by_form given s now u t o ≡ counts_by_form given s old u t o
counted_still Counted s old now u t o is x still = refl
counted_still Moved s old now u t o is x still =
    ap (λ (z : List ℕ). outputs_at s u (list_below (counts_width (shape_at s u)) (λ i. slice_index z i + slice_index o.row i)))
    (counts_set_only_holds s now old u t is x (λ g d of m. still g d (of_group s u g d is x of) m))

pub small_still : (given : StepForm) (s : Setting) (old now : Counts) (u t : ℕ) (o : Outputs) → IsSetting s → u < s.nodes → Stays s t old now → ((i : ℕ) → slice_index (counts_by_form given s old u t o).row i < 2 ^ 31) →
    (i : ℕ) → slice_index (counts_by_form given s now u t o).row i < 2 ^ 31
small_still given s old now u t o is x still small i = subst (λ (z : Outputs). slice_index z.row i < 2 ^ 31) (sym (counted_still given s old now u t o is x still)) (small i)

-- a renewal fits on where no count at the slot's beginning changes
pub fits_still : (r : Renewal) (old new : Table) → IsSetting (setting_of r.scenario.now) → FitsRenewal r old → FitsTable (setting_of r.scenario.now) new → Stays (setting_of r.scenario.now) r.pair.slot (counts_of old.curves) (counts_of new.curves) →
    FitsRenewal r new
fits_still r old new is fits table still = record {
  fits = table;
  node = fits.node;
  slot = fits.slot;
  outputs = fits.outputs;
  small = small_still r.given (setting_of r.scenario.now) (counts_of old.curves) (counts_of new.curves) r.pair.node.0 r.pair.slot r.outputs.now is fits.node still fits.small;
  no_sink = fits.no_sink;
}

-- ---- the origin after the in-links
pub arms_counted : (given : StepForm) (s : Setting) (u t : ℕ) (o : Outputs) (old tails arms : Counts) → IsSetting s → u < s.nodes → t < s.slots →
    SetsGroups s (t + 1) (s.ins u) (arm_group s u) (left_after (counts_by_form given s old u t o)) old tails →
    (0 < s.outs u → SetsGroups s (t + 1) 1 (λ i. dep_of s u) (λ i. left_after (counts_by_form given s tails u t o) (s.ins u)) tails arms) → (s.outs u ≡ 0 → arms ≡ tails) →
    SetsGroups s (t + 1) (arms_of s u) (arm_group s u) (left_after (counts_by_form given s old u t o)) old arms
arms_counted given s u t o old tails arms is x l first origin none =
    arms_set s u (t + 1) (counts_by_form given s old u t o) old tails arms is x first
    (λ some. subst (λ (z : Outputs). SetsGroups s (t + 1) 1 (λ i. dep_of s u) (λ i. left_after z (s.ins u)) tails arms)
    (counted_still given s old tails u t o is x (begins_still s t (s.ins u) (arm_group s u) (left_after (counts_by_form given s old u t o)) old tails l first)) (origin some)) none
