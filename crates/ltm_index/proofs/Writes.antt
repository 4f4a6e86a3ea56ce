-- What a write of one cell changes.
use Rattle.std.proofs.Common.{◌≡◌, ◌≢◌, ℕ, ◌+◌, ◌-◌, ◌*◌, ◌/◌, ◌%◌, ◌<◌, ◌≤◌, List, ◌++◌, length, take, replicate, slice_set, slice_index_or, refl, sym, ap, ◌∙◌, inl, inr, arith, get_or-set_same, get_or-set_other}
use Rattle.std.proofs.lemmas.Bool.{cases_eq, cases_lt}
use Rattle.std.proofs.lemmas.List.{take_all, get_or_past, get_or-replicate, length-replicate, get_or_append_left, get_or-append_right}
use Rattle.std.proofs.Math.Nat.{mul-le-mul_right, mul_comm}
use Rattle.std.proofs.lemmas.Nat.{same_from_place, mod_below, mul-add-lt}
use Rattle.ltm_units.specs.Bounds.{most_links}
use Rattle.ltm_index.specs.declared.cells.Cell.{Cell}
use Rattle.ltm_index.specs.declared.cells.Cells.{Cells}
use Rattle.ltm_index.specs.Cells.{place_of, cell_at, empty_cell, SameShape, SameCells, PutsCell}
use Rattle.ltm_index.specs.Sizes.{most_room}

same_place : (links m j l k : ℕ) → m < links → l < links → place_of links m j ≡ place_of links l k → (j ≡ k) × (m ≡ l)
same_place links m j l k in_m in_l same =
    let parts : (j / 16 * links + m ≡ k / 16 * links + l) × (j % 16 ≡ k % 16) = same_from_place (j / 16 * links + m) (j % 16) (k / 16 * links + l) (k % 16) 16 (mod_below j 16 (omega arith)) (mod_below k 16 (omega arith)) same in
    let block : (j / 16 ≡ k / 16) × (m ≡ l) = same_from_place (j / 16) m (k / 16) l links in_m in_l parts.0 in
    (omega (arith, parts.1, block.0), block.1)

pub puts_cell : (old new : Cells) (l k at : ℕ) (cell : Cell) → SameShape old new → l < old.links → at ≡ place_of old.links l k → at < length old.cells.items → new.cells.items ≡ slice_set old.cells.items at cell → PutsCell old new l k cell
unfolding cell_at
puts_cell old new l k at cell shape link place within items =
    record {
      shape = shape;
      here = rw (items, shape.links, ← place) (get_or-set_same old.cells.items at cell empty_cell within);
      others = λ m j lt apart.
          let other : place_of old.links m j ≢ at = λ e. let both : (j ≡ k) × (m ≡ l) = same_place old.links m j l k lt link (e ∙ place) in apart both.1 both.0 in
          rw (items, shape.links) (get_or-set_other old.cells.items at (place_of old.links m j) cell empty_cell other);
    }

-- a field of every cell stays, where it stays in the one that is written
pub field_same : (old new : Cells) (l k : ℕ) (cell : Cell) (f : Cell → ℕ) → PutsCell old new l k cell → f cell ≡ f (cell_at old l k) → (m j : ℕ) → m < old.links → f (cell_at new m j) ≡ f (cell_at old m j)
field_same old new l k cell f puts same m j lt =
    elim (cases_eq m l) [
      | inl link ↦ elim (cases_eq j k) [
        | inl at ↦
            let e : cell_at new m j ≡ cell = ap (λ x. cell_at new x j) link ∙ (ap (λ x. cell_at new l x) at ∙ puts.here) in
            let g : cell_at old l k ≡ cell_at old m j = sym (ap (λ x. cell_at old x j) link ∙ ap (λ x. cell_at old l x) at) in
            ap f e ∙ (same ∙ ap f g)
        | inr other ↦ ap f (puts.others m j lt (λ _ e. other e))
      ]
      | inr other ↦ ap f (puts.others m j lt (λ e _. other e))
    ]

-- ---- empty cells
pub size_fits : (blocks links : ℕ) → blocks ≤ (most_room + 1) / 16 → links ≤ most_links → blocks * links ≤ (most_room + 1) / 16 * most_links
size_fits blocks links few narrow = omega (arith, mul-le-mul_right links few)

pub place_within : (room links l k : ℕ) → k ≤ room → l < links → (room + 1) % 16 ≡ 0 → place_of links l k < (room + 1) / 16 * links * 16
place_within room links l k low link whole =
    let block : k / 16 < (room + 1) / 16 = omega arith in
    let row : k / 16 * links + l < links * ((room + 1) / 16) = mul-add-lt (k / 16) links l ((room + 1) / 16) block link in
    omega (arith, row, mul_comm links ((room + 1) / 16), mod_below k 16 (omega arith))

pub place_past : (room links l k : ℕ) → room < k → (room + 1) % 16 ≡ 0 → (room + 1) / 16 * links * 16 ≤ place_of links l k
place_past room links l k past whole =
    let block : (room + 1) / 16 ≤ k / 16 = omega arith in
    let row : (room + 1) / 16 * links ≤ k / 16 * links = mul-le-mul_right links block in
    omega (arith, row)

empty_at : (n i : ℕ) → slice_index_or (replicate n empty_cell) i empty_cell ≡ empty_cell
empty_at n i =
    elim (cases_lt i n) [
      | inl low ↦ get_or-replicate n i empty_cell empty_cell low
      | inr past ↦ get_or_past (replicate n empty_cell) i empty_cell (omega (arith, length-replicate {A = Cell} n empty_cell))
    ]

pub all_empty : (c : Cells) (n l k : ℕ) → c.cells.items ≡ replicate n empty_cell → cell_at c l k ≡ empty_cell
unfolding cell_at
all_empty c n l k items = rw items (empty_at n (place_of c.links l k))

more_at : (xs : List Cell) (n i : ℕ) → slice_index_or (xs ++ replicate n empty_cell) i empty_cell ≡ slice_index_or xs i empty_cell
more_at xs n i =
    elim (cases_lt i (length xs)) [
      | inl low ↦ get_or_append_left xs (replicate n empty_cell) empty_cell i low
      | inr past ↦ get_or-append_right xs (replicate n empty_cell) (length xs) i empty_cell refl past ∙ (empty_at n (i - length xs) ∙ sym (get_or_past xs i empty_cell past))
    ]

more_cells : (old new : Cells) (n : ℕ) → new.links ≡ old.links → new.cells.items ≡ old.cells.items ++ replicate n empty_cell → SameCells old new
unfolding cell_at
more_cells old new n links items = record { links = links; cells = λ l k. rw (items, links) (more_at old.cells.items n (place_of old.links l k)) }

pub resized : (old new : Cells) (room n len : ℕ) → new.links ≡ old.links → old.room ≤ room → n ≡ (room + 1) / 16 * old.links * 16 → len ≡ length old.cells.items → new.cells.items ≡ take n old.cells.items ++ replicate (n - len) empty_cell → SameCells old new
resized old new room n len links more size long items =
    let blocks : (old.room + 1) / 16 ≤ (room + 1) / 16 = omega arith in
    let was : length old.cells.items ≡ (old.room + 1) / 16 * old.links * 16 = old.long in
    let times_links : (old.room + 1) / 16 * old.links ≤ (room + 1) / 16 * old.links = mul-le-mul_right old.links blocks in
    let whole : take n old.cells.items ≡ old.cells.items = take_all n old.cells.items (omega (arith, was, times_links, size)) in
    more_cells old new (n - len) links (items ∙ ap (λ xs. xs ++ replicate (n - len) empty_cell) whole)

pub cells_stay : (old new : Cells) → new.links ≡ old.links → new.cells.items ≡ old.cells.items → SameCells old new
unfolding cell_at
cells_stay old new links items = record { links = links; cells = λ l k. rw (items, links) refl }
