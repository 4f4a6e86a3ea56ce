-- The records of a curve file at their places.
use Rattle.std.proofs.Common.{◌≡◌, ◌≢◌, ℕ, ◌+◌, ◌*◌, ◌/◌, ◌%◌, ◌<◌, ◌≤◌, ◌⊎◌, List, [], ◌∷◌, length, drop, slice_index, slice_index_or, Some, None, inl, inr, refl, sym, ap, subst, ◌∙◌, arith}
use Rattle.std.specs.Prelude.{slice_get}
use Rattle.std.proofs.lemmas.Bool.{cases_lt, cases_eq}
use Rattle.std.proofs.lemmas.Bool.Decides.{nat_tests}
use Rattle.std.proofs.lemmas.Grind.{common_steps}
use Rattle.std.proofs.lemmas.List.{drop_more, drop_all}
use Rattle.std.proofs.lemmas.Nat.{mul-add-lt, div-mul-add, mod-mul-add, div-add-mod'}
use Rattle.std.proofs.lemmas.Option.{slice_get_past, slice_get-get_or, get_or_from_slice_get}
use Rattle.ltm_curve.specs.Table.{counts_of, SameShape}
use Rattle.ltm_curve.specs.declared.curves.Curves.{Curves}
use Rattle.ltm_scenario.specs.Data.{ScenarioData}
use Rattle.ltm_records.specs.Fields.{Fields}
use Rattle.ltm_loading.specs.Groups.{groups}
use Rattle.ltm_setting.specs.Setting.{setting_of}
use Rattle.ltm_loading.specs.Shaped.{IsShaped}
use Rattle.ltm_check.specs.declared.faults.CurvesCause.{CurvesCause}
use Rattle.ltm_check.specs.declared.faults.CurvesCause.TheVariants.{Rows}
use Rattle.ltm_check.specs.declared.faults.CurvesFault.{CurvesFault}
use Rattle.ltm_check.specs.declared.faults.CurvesFault.TheVariants.{Bad}
use Rattle.ltm_check.specs.Due.{record_count, record_place, group_at, destination_at}
use Rattle.ltm_check.specs.File.{counts_in, fault_of, fault_at, AreRightBelow, or_no_counts, counts_at, told_by}
use Rattle.ltm_check.specs.Faults.{IsFaultBelow}
use Rattle.ltm_check.specs.Kept.{clipped_count, Keeps, PutsCounts}

-- the counts of the first records are kept
abbrev pub KeepsBelow : ScenarioData → List Fields → Curves → ℕ → Type 0
KeepsBelow s rows c places =
    (g d k : ℕ) → g < groups (setting_of s) → d < (setting_of s).destinations → k ≤ (setting_of s).slots → record_place s g d < places → counts_of c g d k ≡ clipped_count (told_by s rows g d k)

-- ---- the records that are left
tail_same : (a b : Fields) (xs ys : List Fields) → a ∷ xs ≡ b ∷ ys → (a ≡ b) × (xs ≡ ys)
tail_same a b xs ys e = (grind (arith, common_steps), grind (arith, common_steps))

no_head : (a : Fields) (xs : List Fields) → a ∷ xs ≡ [] → ⊥
no_head a xs e = cc e

pub here_drop : (rows : List Fields) (place : ℕ) (fields : Fields) (more : List Fields) → drop place rows ≡ fields ∷ more → (slice_get rows place ≡ Some fields) × (drop (place + 1) rows ≡ more)
here_drop rows place fields more e = elim (cases_lt place (length rows)) [
  | inl inside ↦
      let both = tail_same (slice_index_or rows place []) fields (drop (place + 1) rows) more (sym (drop_more rows place [] inside) ∙ e) in
      (slice_get-get_or rows place [] inside ∙ ap (λ (z : Fields). Some z) both.0, both.1)
  | inr past ↦ absurd (no_head fields more (sym e ∙ drop_all place rows past))
]

pub none_drop : (rows : List Fields) (place : ℕ) → drop place rows ≡ [] → slice_get rows place ≡ None
none_drop rows place e = elim (cases_lt place (length rows)) [
  | inl inside ↦ absurd (no_head (slice_index_or rows place []) (drop (place + 1) rows) (sym (drop_more rows place [] inside) ∙ e))
  | inr past ↦ slice_get_past rows place past
]

-- ---- what is wrong at a place
pub fault_here : (s : ScenarioData) (rows : List Fields) (place : ℕ) (fields : Fields) → place < record_count s → slice_get rows place ≡ Some fields → fault_at s rows place ≡ fault_of s (group_at s place) (destination_at s place) fields
fault_here s rows place fields l e = rw e (grind (arith, nat_tests))

pub fault_missing : (s : ScenarioData) (rows : List Fields) (place : ℕ) → place < record_count s → slice_get rows place ≡ None → fault_at s rows place ≡ Some Rows
fault_missing s rows place l e = rw e (grind (arith, nat_tests))

pub fault_too_much : (s : ScenarioData) (rows : List Fields) (place : ℕ) (fields : Fields) → record_count s ≤ place → slice_get rows place ≡ Some fields → fault_at s rows place ≡ Some Rows
fault_too_much s rows place fields l e = rw e (grind (arith, nat_tests))

pub no_fault : (s : ScenarioData) (rows : List Fields) (place : ℕ) → record_count s ≤ place → slice_get rows place ≡ None → fault_at s rows place ≡ None
no_fault s rows place l e = rw e (grind (arith, nat_tests))

pub right_next : (s : ScenarioData) (rows : List Fields) (place : ℕ) → AreRightBelow s rows place → fault_at s rows place ≡ None → AreRightBelow s rows (place + 1)
right_next s rows place before here p l = elim (cases_lt p place) [
  | inl less ↦ before p less
  | inr last ↦ let e : place ≡ p = omega arith in subst (λ (z : ℕ). fault_at s rows z ≡ None) e here
]

pub bad_is_fault : (s : ScenarioData) (rows : List Fields) (place : ℕ) (cause : CurvesCause) (fault : CurvesFault) → fault_at s rows place ≡ Some cause → AreRightBelow s rows place → fault ≡ Bad (place + 2) cause → IsFaultBelow s rows fault
bad_is_fault s rows place cause fault wrong before e = subst (IsFaultBelow s rows) (sym e) (place, refl, wrong, before)

-- ---- the counts of one record more
told_row : (s : ScenarioData) (rows : List Fields) (g d k : ℕ) → told_by s rows g d k ≡ slice_index (counts_at s rows (record_place s g d)) k
unfolding told_by
told_row s rows g d k = refl

-- a group and a destination whose record stands elsewhere are not those of the place
apart : (s : ScenarioData) (place g d : ℕ) → record_place s g d ≢ place → (g ≢ group_at s place) ⊎ (d ≢ destination_at s place)
apart s place g d ne = elim (cases_eq g (group_at s place)) [
  | inl same ↦ inr (λ e. ne (ap (λ (z : ℕ). z * (setting_of s).destinations + d) same ∙ (ap (λ (z : ℕ). group_at s place * (setting_of s).destinations + z) e ∙ div-add-mod' place (setting_of s).destinations)))
  | inr other ↦ inl other
]

pub keeps_next : (s : ScenarioData) (rows : List Fields) (old new : Curves) (place : ℕ) (fields : Fields) → IsShaped (setting_of s) old → slice_get rows place ≡ Some fields → KeepsBelow s rows old place
    → PutsCounts old new (group_at s place) (destination_at s place) (or_no_counts (counts_in s fields)) → KeepsBelow s rows new (place + 1)
keeps_next s rows old new place fields shape at done put g d k x y z l = elim (cases_eq (record_place s g d) place) [
  | inl here ↦
      let group : g ≡ group_at s place = sym (div-mul-add g (setting_of s).destinations d y) ∙ ap (λ (p : ℕ). p / (setting_of s).destinations) here in
      let destination : d ≡ destination_at s place = sym (mod-mul-add g (setting_of s).destinations d y) ∙ ap (λ (p : ℕ). p % (setting_of s).destinations) here in
      let record_is : slice_index_or rows place [] ≡ fields = get_or_from_slice_get rows place fields [] at in
      let told : told_by s rows g d k ≡ slice_index (or_no_counts (counts_in s fields)) k =
      told_row s rows g d k ∙ (ap (λ (p : ℕ). slice_index (counts_at s rows p) k) here ∙ ap (λ (f : Fields). slice_index (or_no_counts (counts_in s f)) k) record_is) in
      ap (λ (z : ℕ). counts_of new z d k) group
      ∙ (ap (λ (z : ℕ). counts_of new (group_at s place) z k) destination ∙ (put.here k (omega (arith, shape.same_slots)) ∙ ap clipped_count (sym told)))
  | inr other ↦
      put.others g d k (record { is_group = omega (arith, shape.same_groups); is_destination = omega (arith, shape.same_destinations); is_boundary = omega (arith, shape.same_slots) }) (apart s place g d other)
      ∙ done g d k x y z (omega arith)
]

pub keeps_all : (s : ScenarioData) (rows : List Fields) (c : Curves) → IsShaped (setting_of s) c → KeepsBelow s rows c (record_count s) → Keeps (setting_of s) (told_by s rows) c
keeps_all s rows c shape done = record {
  shape = shape;
  counts = λ g d k x y z. done g d k x y z (omega (arith, mul-add-lt g (setting_of s).destinations d (groups (setting_of s)) x y));
}

pub still_shaped : (s : ScenarioData) (old new : Curves) → IsShaped (setting_of s) old → SameShape new old → IsShaped (setting_of s) new
still_shaped s old new shape same = record {
  same_groups = same.groups ∙ shape.same_groups;
  same_destinations = same.destinations ∙ shape.same_destinations;
  same_slots = same.slots ∙ shape.same_slots;
}
