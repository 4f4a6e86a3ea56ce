-- Where slots stand, and how far pointers reach.
use Rattle.std.proofs.Common.{◌≡◌, ◌≢◌, ◌⊎◌, ℕ, zero, suc, ◌+◌, ◌*◌, ◌/◌, ◌<◌, ◌≤◌, List, [], length, refl, ap, ◌∙◌, inl, inr, eq-eqb, arith}
use Rattle.std.proofs.lemmas.Bool.{cases_eq, cases_lt, ne_eqb}
use Rattle.std.proofs.lemmas.List.{get_or_past}
use Rattle.ltm_index.specs.declared.cells.Cells.{Cells}
use Rattle.ltm_index.specs.Chains.{times, walk, IsChain}
use Rattle.ltm_index.specs.Cells.{place_of, cell_at, first_at, next_at, previous_at, entry_at, after_at, list_at, empty_cell, AreLists}
use Rattle.ltm_index.proofs.Writes.{place_past}
use Rattle.ltm_index.proofs.Chaining.{Into, first_is, next_is, previous_is, walk_is, walk_short}

pub both_eq : (m l j k : ℕ) → ((m ≡ l) × (j ≡ k)) ⊎ (m ≡ l → j ≡ k → ⊥)
both_eq m l j k =
    elim (cases_eq m l) [
      | inl link ↦ elim (cases_eq j k) [ inl at ↦ inl (link, at) | inr other ↦ inr (λ _ e. other e) ]
      | inr other ↦ inr (λ e _. other e)
    ]

-- ---- a slot stands in a list where that is its entry
pub stands_once : (c : Cells) (l k v : ℕ) → AreLists c → l < c.links → entry_at c l v ≡ suc k → times v (list_at c l k) ≡ 1
stands_once c l k v lists link entry = lists.entered l k v link ∙ rw (eq-eqb (entry_at c l v) (suc k) entry) refl

pub stands_nowhere : (c : Cells) (l k v : ℕ) → AreLists c → l < c.links → entry_at c l v ≢ suc k → times v (list_at c l k) ≡ 0
stands_nowhere c l k v lists link other = lists.entered l k v link ∙ rw (ne_eqb (entry_at c l v) (suc k) other) refl

pub entry_of_one : (c : Cells) (l k v : ℕ) → AreLists c → l < c.links → 1 ≤ times v (list_at c l k) → entry_at c l v ≡ suc k
entry_of_one c l k v lists link some =
    elim (cases_eq (entry_at c l v) (suc k)) [
      | inl same ↦ same
      | inr other ↦ absurd (omega (arith, stands_nowhere c l k v lists link other))
    ]

pub at_most_once : (c : Cells) (l k v : ℕ) → AreLists c → l < c.links → times v (list_at c l k) ≤ 1
at_most_once c l k v lists link =
    elim (cases_eq (entry_at c l v) (suc k)) [
      | inl same ↦ omega (arith, stands_once c l k v lists link same)
      | inr other ↦ omega (arith, stands_nowhere c l k v lists link other)
    ]

pub one_is_below : (c : Cells) (l k v : ℕ) → AreLists c → l < c.links → 1 ≤ times v (list_at c l k) → v < c.room
one_is_below c l k v lists link some =
    elim (cases_lt v c.room) [
      | inl below ↦ below
      | inr past ↦ absurd (omega (arith, lists.unset l v link past, entry_of_one c l k v lists link some))
    ]

-- ---- how far pointers reach
into_low : (c : Cells) (l k p : ℕ) → AreLists c → l < c.links → Into p (list_at c l k) → p ≤ c.room
unfolding Into
into_low c l k p lists link found = omega (arith, found.1, one_is_below c l k found.0 lists link found.2)

pub first_low : (c : Cells) (l k : ℕ) → AreLists c → l < c.links → first_at c l k ≤ c.room
first_low c l k lists link =
    elim (first_is (after_at c l k) (previous_at c l) 0 (list_at c l k) (lists.chained l k link)) [
      | inl none ↦ omega arith
      | inr found ↦ into_low c l k (first_at c l k) lists link found
    ]

pub next_low : (c : Cells) (l k v : ℕ) → AreLists c → l < c.links → entry_at c l v ≡ suc k → next_at c l v ≤ c.room
next_low c l k v lists link entry =
    elim (next_is (after_at c l k) (previous_at c l) 0 v (list_at c l k) (lists.chained l k link) (omega (arith, stands_once c l k v lists link entry))) [
      | inl none ↦ omega arith
      | inr found ↦ into_low c l k (next_at c l v) lists link found
    ]

pub previous_low : (c : Cells) (l k v : ℕ) → AreLists c → l < c.links → entry_at c l v ≡ suc k → previous_at c l v ≤ c.room
previous_low c l k v lists link entry =
    elim (previous_is (after_at c l k) (previous_at c l) 0 v (list_at c l k) (lists.chained l k link) (omega (arith, stands_once c l k v lists link entry))) [
      | inl none ↦ omega arith
      | inr found ↦ into_low c l k (previous_at c l v) lists link found
    ]

-- past the table nothing is named
pub past_cells : (c : Cells) (l k : ℕ) → c.room < k → cell_at c l k ≡ empty_cell
unfolding cell_at
past_cells c l k past =
    let long : length c.cells.items ≡ (c.room + 1) / 16 * c.links * 16 = c.long in
    get_or_past c.cells.items (place_of c.links l k) empty_cell (omega (arith, long, place_past c.room c.links l k past c.whole))

pub nothing_met : (a : ℕ → ℕ) (most p : ℕ) → p ≡ 0 → walk a most p ≡ []
nothing_met a zero p none = refl
nothing_met a (suc most) p none = ap (walk a (suc most)) none

pub no_list_past : (c : Cells) (l k : ℕ) → c.room < k → list_at c l k ≡ []
unfolding list_at
no_list_past c l k past = nothing_met (after_at c l k) c.room (first_at c l k) (ap (λ x. x.first) (past_cells c l k past))

pub entry_low : (c : Cells) (l k v : ℕ) → AreLists c → l < c.links → entry_at c l v ≡ suc k → k ≤ c.room
entry_low c l k v lists link entry =
    elim (cases_lt c.room k) [
      | inl past ↦ absurd (omega (arith, stands_once c l k v lists link entry, ap (times v) (no_list_past c l k past)))
      | inr low ↦ low
    ]

-- ---- the list that a chain is
pub list_is : (c : Cells) (l k : ℕ) (xs : List ℕ) → IsChain (after_at c l k) (previous_at c l) 0 xs → length xs ≤ c.room → list_at c l k ≡ xs
unfolding list_at
list_is c l k xs chain fits = walk_is (after_at c l k) (previous_at c l) 0 c.room xs chain fits

pub list_short : (c : Cells) (l k : ℕ) → length (list_at c l k) ≤ c.room
unfolding list_at
list_short c l k = walk_short (after_at c l k) c.room (first_at c l k)
