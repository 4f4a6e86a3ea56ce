-- What the index tells of its cells.
use Rattle.std.proofs.Common.{◌≡◌, ℕ, zero, suc, ◌+◌, ◌<◌, ◌≤◌, ◌==◌, ◌↔◌, false, IsTrue, cond, List, [], ◌∷◌, Option, Some, None, refl, sym, ap, subst, ◌∙◌, inl, inr, arith, eq-eqb, IfSome, Contains}
use Rattle.std.proofs.lemmas.Bool.{cases_lt, cases_eq, ne_eqb}
use Rattle.ltm_index.specs.declared.cells.Cells.{Cells}
use Rattle.ltm_index.specs.declared.read_index.ReadIndex.{ReadIndex}
use Rattle.ltm_index.specs.Chains.{times, left_after, list_from, first_in, pointed_at, IsChain}
use Rattle.ltm_index.specs.Cells.{cell_at, empty_cell, first_at, next_at, previous_at, entry_at, after_at, list_at, SameCells, AreLists, IsChained, IsEntered, IsUpTo, TakesOut, PutsFirst}
use Rattle.ltm_index.specs.Lists.{links_listed, slots_listed, list_of, entry_of, Places, SameLists, IsEmpty, IsEmptyFrom, StandsByEntry, StandsOnce, StaysWithout, WithinHorizon}
use Rattle.ltm_index.proofs.Chaining.{chain_same, without_none}
use Rattle.ltm_index.proofs.Linked.{stands_once, stands_nowhere, entry_of_one, at_most_once, list_is, list_short, nothing_met}
use Rattle.ltm_index.proofs.Reading.{times_from_place, place_from_times, left_is, next_stands, named_at, named_first, named_next, none_is_empty}

pub lists_of_index : (x : ReadIndex) → AreLists x.cells
lists_of_index x =
    record {
      chained = x.chained;
      entered = x.entered;
      unset = λ l v lt past. let up_to : slots_listed x ≤ x.cells.room = x.within in (x.up_to l v lt).0 (omega arith);
    }

-- ---- taking out and putting first
pub places : (old new : ReadIndex) (between : Cells) (l v k : ℕ) → l < links_listed old → new.slots ≡ old.slots → TakesOut old.cells between l v → PutsFirst between new.cells l v k → Places old new l v k
unfolding list_of entry_of
places old new between l v k link slots takes puts =
    let inside : (m : ℕ) → m < links_listed old → m < between.links = λ m lt. omega (arith, takes.shape.links) in
    record {
      size = record { links = puts.shape.links ∙ takes.shape.links; slots = slots; room = puts.shape.room ∙ takes.shape.room };
      list = puts.list ∙ ap (λ xs. v ∷ xs) (takes.lists k);
      other_lists = λ j other. puts.other_lists l j (inside l link) (λ _ e. other e) ∙ takes.lists j;
      other_links = λ m j lt other. puts.other_lists m j (inside m lt) (λ e _. other e) ∙ takes.other_links m j lt other;
      entry = ap pointed_at puts.entry;
      other_entries = λ m w lt other. ap pointed_at (puts.entries m w (inside m lt) other ∙ takes.entries m w lt other);
    }

-- ---- a longer horizon
pub same_lists : (old new : ReadIndex) → new.cells ≡ old.cells → SameLists old new
unfolding list_of entry_of
same_lists old new cells =
    record {
      links = ap (λ c. c.links) cells;
      lists = λ l k lt. ap (λ c. list_at c l k) cells;
      entries = λ l v lt. ap (λ c. pointed_at (entry_at c l v)) cells;
    }

pub empty_from : (old new : ReadIndex) → new.cells ≡ old.cells → IsEmptyFrom new (slots_listed old)
unfolding list_of entry_of
empty_from old new cells =
    let inside : (l : ℕ) → l < links_listed new → l < links_listed old = λ l lt. omega (arith, ap (λ c. c.links) cells) in
    record {
      lists = λ l k lt past. ap (λ c. list_at c l k) cells ∙ none_is_empty (list_at old.cells l k) (λ v. stands_nowhere old.cells l k v (lists_of_index old) (inside l lt) (λ e. omega (arith, e, (old.up_to l v (inside l lt)).1)));
      entries = λ l v lt past. ap (λ c. pointed_at (entry_at c l v)) cells ∙ ap pointed_at ((old.up_to l v (inside l lt)).0 past);
    }

-- ---- more room
after_same : (a b : Cells) (l k : ℕ) → SameCells a b → (q : ℕ) → after_at b l k q ≡ after_at a l k q
after_same a b l k same zero = ap (λ c. c.first) (same.cells l k)
after_same a b l k same (suc w) = ap (λ c. c.next) (same.cells l w)

chain_kept : (a b : Cells) (l k : ℕ) → SameCells a b → AreLists a → l < a.links → IsChain (after_at b l k) (previous_at b l) 0 (list_at a l k)
chain_kept a b l k same lists link =
    chain_same (after_at a l k) (previous_at a l) (after_at b l k) (previous_at b l) 0 (list_at a l k) (after_same a b l k same 0) (λ x _. after_same a b l k same (suc x)) (λ x _. ap (λ c. c.previous) (same.cells l x)) (lists.chained l k link)

pub list_kept : (a b : Cells) (l k : ℕ) → SameCells a b → a.room ≤ b.room → AreLists a → l < a.links → list_at b l k ≡ list_at a l k
list_kept a b l k same no_less lists link = list_is b l k (list_at a l k) (chain_kept a b l k same lists link) (omega (arith, list_short a l k))

pub chained_kept : (a b : Cells) → SameCells a b → a.room ≤ b.room → AreLists a → IsChained b
chained_kept a b same no_less lists l k lt =
    let link : l < a.links = omega (arith, same.links) in
    subst (λ xs. IsChain (after_at b l k) (previous_at b l) 0 xs) (sym (list_kept a b l k same no_less lists link)) (chain_kept a b l k same lists link)

pub entered_kept : (a b : Cells) → SameCells a b → a.room ≤ b.room → AreLists a → IsEntered b
entered_kept a b same no_less lists l k v lt =
    let link : l < a.links = omega (arith, same.links) in
    ap (times v) (list_kept a b l k same no_less lists link) ∙ (lists.entered l k v link ∙ ap (λ c. cond (c.entry == suc k) 1 0) (sym (same.cells l v)))

pub up_to_kept : (a b : Cells) (slots : ℕ) → SameCells a b → IsUpTo a slots → IsUpTo b slots
up_to_kept a b slots same up_to l v lt =
    let link : l < a.links = omega (arith, same.links) in
    let entry : entry_at b l v ≡ entry_at a l v = ap (λ c. c.entry) (same.cells l v) in
    (λ past. entry ∙ (up_to l v link).0 past, omega (arith, entry, (up_to l v link).1))

pub same_by_cells : (old new : ReadIndex) → SameCells old.cells new.cells → old.cells.room ≤ new.cells.room → SameLists old new
unfolding list_of entry_of
same_by_cells old new same no_less =
    record {
      links = same.links;
      lists = λ l k lt. list_kept old.cells new.cells l k same no_less (lists_of_index old) lt;
      entries = λ l v lt. ap (λ c. pointed_at c.entry) (same.cells l v);
    }

-- ---- nothing is named
pub list_empty : (c : Cells) (l k : ℕ) → ((m j : ℕ) → cell_at c m j ≡ empty_cell) → list_at c l k ≡ []
unfolding list_at
list_empty c l k empty = nothing_met (after_at c l k) c.room (first_at c l k) (ap (λ x. x.first) (empty l k))

pub chained_empty : (c : Cells) → ((m j : ℕ) → cell_at c m j ≡ empty_cell) → IsChained c
chained_empty c empty l k lt = subst (λ xs. IsChain (after_at c l k) (previous_at c l) 0 xs) (sym (list_empty c l k empty)) (ap (λ x. x.first) (empty l k))

pub entered_empty : (c : Cells) → ((m j : ℕ) → cell_at c m j ≡ empty_cell) → IsEntered c
entered_empty c empty l k v lt =
    let none : entry_at c l v ≡ 0 = ap (λ x. x.entry) (empty l v) in
    ap (times v) (list_empty c l k empty) ∙ sym (rw (ne_eqb (entry_at c l v) (suc k) (λ e. omega (arith, e, none))) refl)

pub up_to_empty : (c : Cells) (slots : ℕ) → ((m j : ℕ) → cell_at c m j ≡ empty_cell) → IsUpTo c slots
up_to_empty c slots empty l v lt = (λ _. ap (λ x. x.entry) (empty l v), omega (arith, ap (λ x. x.entry) (empty l v)))

pub is_empty : (x : ReadIndex) → ((m j : ℕ) → cell_at x.cells m j ≡ empty_cell) → IsEmpty x
unfolding list_of entry_of
is_empty x empty = record { lists = λ l k lt. list_empty x.cells l k empty; entries = λ l v lt. ap (λ c. pointed_at c.entry) (empty l v) }

-- ---- what holds of every index
option_same : (n k : ℕ) → pointed_at n ≡ Some k → n ≡ suc k
option_same zero k is = cc
option_same (suc m) k is = let e : m ≡ k = cc in ap suc e

pub stands_by_entry : (x : ReadIndex) → StandsByEntry x
unfolding list_of entry_of
stands_by_entry x l k v link = (
  λ place. ap pointed_at (entry_of_one x.cells l k v (lists_of_index x) link (times_from_place (list_at x.cells l k) v place)),
  λ entry. place_from_times (list_at x.cells l k) v (omega (arith, stands_once x.cells l k v (lists_of_index x) link (option_same (entry_at x.cells l v) k entry))),
)

pub stands_once_in : (x : ReadIndex) → StandsOnce x
unfolding list_of
stands_once_in x l k v link = at_most_once x.cells l k v (lists_of_index x) link

pub stays_without : (x : ReadIndex) → StaysWithout x
unfolding list_of entry_of
stays_without x l k v link other = without_none v (list_at x.cells l k) (stands_nowhere x.cells l k v (lists_of_index x) link (λ e. other (ap pointed_at e)))

pub slot_within : (x : ReadIndex) (l k v : ℕ) → l < links_listed x → entry_at x.cells l v ≡ suc k → (v < slots_listed x) × (k ≤ slots_listed x)
slot_within x l k v link entry =
    (elim (cases_lt v (slots_listed x)) [ inl low ↦ low | inr past ↦ absurd (omega (arith, entry, (x.up_to l v link).0 past)) ], omega (arith, entry, (x.up_to l v link).1))

pub within_horizon : (x : ReadIndex) → WithinHorizon x
unfolding entry_of
within_horizon x l k v link entry = slot_within x l k v link (option_same (entry_at x.cells l v) k entry)

-- ---- reading
pub reader_within : (x : ReadIndex) (l k v : ℕ) → l < links_listed x → Contains (list_of x l k) v → v < slots_listed x
unfolding list_of
reader_within x l k v link place = (slot_within x l k v link (entry_of_one x.cells l k v (lists_of_index x) link (times_from_place (list_at x.cells l k) v place))).0

pub first_told : (x : ReadIndex) (l k pointer : ℕ) → l < links_listed x → pointer ≡ first_at x.cells l k → pointed_at pointer ≡ first_in (list_of x l k)
unfolding list_of
first_told x l k pointer link is = ap pointed_at is ∙ named_first (after_at x.cells l k) (previous_at x.cells l) 0 (list_at x.cells l k) (x.chained l k link)

pub next_told : (x : ReadIndex) (l k v pointer : ℕ) → l < links_listed x → Contains (list_of x l k) v → pointer ≡ next_at x.cells l v → pointed_at pointer ≡ first_in (left_after (list_of x l k) (Some v))
unfolding list_of
next_told x l k v pointer link place is = ap pointed_at is ∙ named_next (after_at x.cells l k) (previous_at x.cells l) 0 v (list_at x.cells l k) (x.chained l k link) (times_from_place (list_at x.cells l k) v place)

pub left_told : (x : ReadIndex) (l k : ℕ) (after result : Option ℕ) → l < links_listed x → result ≡ first_in (left_after (list_of x l k) after) → left_after (list_of x l k) after ≡ list_from (list_of x l k) result
left_told x l k after result link is =
    left_is (list_of x l k) after (λ v. stands_once_in x l k v link) ∙ ap (list_from (list_of x l k)) (sym is)

some_stands : (xs : List ℕ) (r : Option ℕ) → IfSome r (λ w. 1 ≤ times w xs) → IfSome r (λ w. Contains xs w)
some_stands xs None some = tt
some_stands xs (Some w) some = place_from_times xs w some

pub stands_told : (x : ReadIndex) (l k : ℕ) (after result : Option ℕ) → result ≡ first_in (left_after (list_of x l k) after) → IfSome result (λ w. Contains (list_of x l k) w)
stands_told x l k after result is =
    some_stands (list_of x l k) result (subst (λ r. IfSome r (λ w. 1 ≤ times w (list_of x l k))) (sym is) (next_stands (list_of x l k) after))

some_within : (x : ReadIndex) (l k : ℕ) (r : Option ℕ) → l < links_listed x → IfSome r (λ w. Contains (list_of x l k) w) → IfSome r (λ w. w < slots_listed x)
some_within x l k None link some = tt
some_within x l k (Some w) link some = reader_within x l k w link some

pub within_told : (x : ReadIndex) (l k : ℕ) (after result : Option ℕ) → l < links_listed x → result ≡ first_in (left_after (list_of x l k) after) → IfSome result (λ w. w < slots_listed x)
within_told x l k after result link is = some_within x l k result link (stands_told x l k after result is)

-- a slot stands in the list of a boundary where the number of its entry is one more
pub stands_there : (x : ReadIndex) (l v k number : ℕ) → number ≡ entry_at x.cells l v → IsTrue (number == k + 1) ↔ (entry_of x l v ≡ Some k)
unfolding entry_of
stands_there x l v k number is =
    elim (cases_eq number (k + 1)) [
      | inl same ↦ (λ yes. (named_at (entry_at x.cells l v) k).0 (omega (is, same, arith)), λ at. eq-eqb number (k + 1) same)
      | inr other ↦ (
        λ yes. let no : (number == k + 1) ≡ false = ne_eqb number (k + 1) other in absurd (cc),
        λ at. absurd (other (omega (is, (named_at (entry_at x.cells l v) k).1 at, arith))),
      )
    ]
