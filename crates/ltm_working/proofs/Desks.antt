-- The desk of a table, pair by pair.
use Rattle.std.proofs.Common.{◌≡◌, ◌≢◌, ℕ, ◌<◌, ◌≤◌, List, true, false, if◌then◌else◌, refl, ap, sym, ◌∙◌, inl, inr, ◌⊎◌}
use Rattle.std.proofs.Math.Path.{fun_ext}
use Rattle.std.specs.Prelude.{Some, None}
use Rattle.std.proofs.lemmas.Bool.{cases_lt, cases_Bool, lt-ltb, le-ltb}
use Rattle.ltm_curve.specs.declared.changed.Changed.{Changed}
use Rattle.ltm_curve.specs.Cells.{is_changed}
use Rattle.ltm_loading.specs.Setting.{Setting}
use Rattle.ltm_frontier.specs.Frontier.{is_active, is_claimed}
use Rattle.ltm_repair.specs.Desk.{IsIdle}
use Rattle.ltm_working.specs.declared.table.Table.{Table}
use Rattle.ltm_rows.specs.Claims.{claim_row}
use Rattle.ltm_working.specs.Pairs.{of_pairs, of_cells}
use Rattle.ltm_working.specs.Desks.{kept_of, claim_of, desk_at, changed_at}
use Rattle.ltm_working.specs.Dropping.{SameWorkAs}

pub of_pair : {A : Type 0} (s : Setting) (none : A) (f : ℕ → ℕ → A) (u t : ℕ) → u < s.nodes → t < s.slots → of_pairs s none f u t ≡ f u t
of_pair s none f u t x l = rw (lt-ltb u s.nodes x, lt-ltb t s.slots l) refl

pub past_pair : {A : Type 0} (s : Setting) (none : A) (f : ℕ → ℕ → A) (u t : ℕ) → (s.nodes ≤ u) ⊎ (s.slots ≤ t) → of_pairs s none f u t ≡ none
past_pair s none f u t (inl past) = rw (le-ltb u s.nodes past) refl
past_pair s none f u t (inr late) = elim (cases_lt u s.nodes) [
  | inr past ↦ rw (le-ltb u s.nodes past) refl
  | inl x ↦ rw (lt-ltb u s.nodes x, le-ltb t s.slots late) refl
]

pub cases_pairs : (s : Setting) (u t : ℕ) → ((u < s.nodes) × (t < s.slots)) ⊎ ((s.nodes ≤ u) ⊎ (s.slots ≤ t))
cases_pairs s u t = elim (cases_lt u s.nodes) [
  | inr past ↦ inr (inl past)
  | inl x ↦ elim (cases_lt t s.slots) [ inr late ↦ inr (inr late) | inl l ↦ inl (x, l) ]
]

-- two functions that say the same of pairs say the same
pub same_of_pairs : {A : Type 0} (s : Setting) (none : A) (f g : ℕ → ℕ → A) (u t : ℕ) → (u < s.nodes → t < s.slots → f u t ≡ g u t) → of_pairs s none f u t ≡ of_pairs s none g u t
same_of_pairs s none f g u t h = elim (cases_pairs s u t) [
  | inl in_range ↦ of_pair s none f u t in_range.0 in_range.1 ∙ (h in_range.0 in_range.1 ∙ sym (of_pair s none g u t in_range.0 in_range.1))
  | inr past ↦ past_pair s none f u t past ∙ sym (past_pair s none g u t past)
]

pub same_pairs : {A : Type 0} (s : Setting) (none : A) (f g : ℕ → ℕ → A) → ((u t : ℕ) → u < s.nodes → t < s.slots → f u t ≡ g u t) → of_pairs s none f ≡ of_pairs s none g
same_pairs s none f g h = fun_ext (λ u. fun_ext (λ t. same_of_pairs s none f g u t (h u t)))

-- ---- what the desk says of a pair
pub active_is : (s : Setting) (t : Table) (u v : ℕ) → u < s.nodes → v < s.slots → (desk_at s t).active u v ≡ is_active t.frontier u v
unfolding desk_at
active_is s t u v x l = of_pair s false (is_active t.frontier) u v x l

pub claimed_is : (s : Setting) (t : Table) (u v : ℕ) → u < s.nodes → v < s.slots → (desk_at s t).claimed u v ≡ claim_of t u v
unfolding desk_at
claimed_is s t u v x l = of_pair s None (claim_of t) u v x l

pub kept_is : (s : Setting) (t : Table) (u v : ℕ) → u < s.nodes → v < s.slots → (desk_at s t).kept u v ≡ kept_of s t u v
unfolding desk_at
kept_is s t u v x l = of_pair s None (kept_of s t) u v x l

pub active_past : (s : Setting) (t : Table) (u v : ℕ) → (s.nodes ≤ u) ⊎ (s.slots ≤ v) → (desk_at s t).active u v ≡ false
unfolding desk_at
active_past s t u v past = past_pair s false (is_active t.frontier) u v past

pub claimed_past : (s : Setting) (t : Table) (u v : ℕ) → (s.nodes ≤ u) ⊎ (s.slots ≤ v) → (desk_at s t).claimed u v ≡ None
unfolding desk_at
claimed_past s t u v past = past_pair s None (claim_of t) u v past

pub claimed_pair : (s : Setting) (t : Table) (u v : ℕ) → (desk_at s t).claimed u v ≢ None → (u < s.nodes) × (v < s.slots)
claimed_pair s t u v some = elim (cases_pairs s u v) [
  | inl in_range ↦ in_range
  | inr past ↦ absurd (some (claimed_past s t u v past))
]

pub claim_on : (t : Table) (u v : ℕ) → is_claimed t.frontier u v ≡ true → claim_of t u v ≡ Some (claim_row t.claims u)
claim_on t u v on = rw on refl

pub claim_off : (t : Table) (u v : ℕ) → is_claimed t.frontier u v ≡ false → claim_of t u v ≡ None
claim_off t u v off = rw off refl

pub claim_same : (a b : Table) (u v : ℕ) → is_claimed b.frontier u v ≡ is_claimed a.frontier u v → claim_row b.claims u ≡ claim_row a.claims u → claim_of b u v ≡ claim_of a u v
claim_same a b u v bits rows =
    ap (λ z. if z then Some (claim_row b.claims u) else None) bits ∙ ap (λ (z : List ℕ). if is_claimed a.frontier u v then Some z else None) rows

-- a claim has a bit, and no claim has none
pub claimed_on : (s : Setting) (t : Table) (u v : ℕ) → u < s.nodes → v < s.slots → (desk_at s t).claimed u v ≢ None → is_claimed t.frontier u v ≡ true
claimed_on s t u v x l some = elim (cases_Bool (is_claimed t.frontier u v)) [
  | inl on ↦ on
  | inr off ↦ absurd (some (claimed_is s t u v x l ∙ claim_off t u v off))
]

pub claimed_off : (s : Setting) (t : Table) (u v : ℕ) → u < s.nodes → v < s.slots → (desk_at s t).claimed u v ≡ None → is_claimed t.frontier u v ≡ false
claimed_off s t u v x l none = elim (cases_Bool (is_claimed t.frontier u v)) [
  | inr off ↦ off
  | inl on ↦ let some : (desk_at s t).claimed u v ≡ Some (claim_row t.claims u) = claimed_is s t u v x l ∙ claim_on t u v on in absurd (cc)
]

pub claimed_row : (s : Setting) (t : Table) (u v : ℕ) → u < s.nodes → v < s.slots → is_claimed t.frontier u v ≡ true → (desk_at s t).claimed u v ≡ Some (claim_row t.claims u)
claimed_row s t u v x l on = claimed_is s t u v x l ∙ claim_on t u v on

pub idle_here : (s : Setting) (t : Table) (u v : ℕ) → u < s.nodes → v < s.slots → is_active t.frontier u v ≡ false → is_claimed t.frontier u v ≡ false → IsIdle (desk_at s t) u v
idle_here s t u v x l active claimed = (active_is s t u v x l ∙ active, claimed_is s t u v x l ∙ claim_off t u v claimed)

-- ---- two tables
pub same_active : (s : Setting) (a b : Table) (u v : ℕ) → (u < s.nodes → v < s.slots → is_active b.frontier u v ≡ is_active a.frontier u v) → (desk_at s b).active u v ≡ (desk_at s a).active u v
unfolding desk_at
same_active s a b u v h = same_of_pairs s false (is_active b.frontier) (is_active a.frontier) u v h

pub same_claim : (s : Setting) (a b : Table) (u v : ℕ) → (u < s.nodes → v < s.slots → claim_of b u v ≡ claim_of a u v) → (desk_at s b).claimed u v ≡ (desk_at s a).claimed u v
unfolding desk_at
same_claim s a b u v h = same_of_pairs s None (claim_of b) (claim_of a) u v h

pub same_claims : (s : Setting) (a b : Table) → ((u v : ℕ) → u < s.nodes → v < s.slots → claim_of b u v ≡ claim_of a u v) → (desk_at s b).claimed ≡ (desk_at s a).claimed
unfolding desk_at
same_claims s a b h = same_pairs s None (claim_of b) (claim_of a) h

pub same_desk : (s : Setting) (a b : Table) → b.curves ≡ a.curves → b.kept ≡ a.kept → ((u v : ℕ) → u < s.nodes → v < s.slots → is_active b.frontier u v ≡ is_active a.frontier u v) →
    ((u v : ℕ) → u < s.nodes → v < s.slots → claim_of b u v ≡ claim_of a u v) → desk_at s b ≡ desk_at s a
unfolding desk_at
same_desk s a b curves kept active claims =
    let A : of_pairs s false (is_active b.frontier) ≡ of_pairs s false (is_active a.frontier) = same_pairs s false (is_active b.frontier) (is_active a.frontier) active in
    let C : of_pairs s None (claim_of b) ≡ of_pairs s None (claim_of a) = same_pairs s None (claim_of b) (claim_of a) claims in
    rw (curves, kept, A, C) refl

-- ---- cells
pub changed_same : (s : Setting) (a b : Table) → b.changed ≡ a.changed → changed_at s b ≡ changed_at s a
unfolding changed_at
changed_same s a b e = ap (λ (z : Changed). of_cells s (is_changed z)) e

-- what stays where only active pairs and the index change
pub changed_stays : (s : Setting) (a b : Table) → SameWorkAs a b → changed_at s b ≡ changed_at s a
changed_stays s a b same = changed_same s a b (ap (λ (z : Table). z.changed) same)
