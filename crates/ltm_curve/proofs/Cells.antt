-- How many places are marked, as marks change.
use Rattle.std.proofs.Common.{◌≡◌, ◌≢◌, ℕ, zero, suc, ◌+◌, ◌-◌, ◌*◌, ◌<◌, ◌≤◌, ◌⊎◌, ◌&&◌, nat_lt, Bool, true, false, cond, arith, refl, ap, sym, ◌∙◌, inl, inr}
use Rattle.std.proofs.lemmas.Bool.{cases_lt, lt-ltb, le-ltb}
use Rattle.ltm_units.specs.Sums.{sum_below}
use Rattle.ltm_units.proofs.Sums.{sum_below-same, sum_below-change, sum_below-zero, sum_below-most}
use Rattle.ltm_marks.specs.Marks.{width_of, rows_of, is_marked, SetsMark}
use Rattle.ltm_marks.specs.declared.marks.Marks.{Marks}
use Rattle.ltm_curve.specs.Cells.{is_changed, IsCell}
use Rattle.ltm_curve.specs.declared.changed.Changed.{Changed}
use Rattle.ltm_curve.specs.MarkedCount.{marked_in_row, marked_count}

one_or_none : (b : Bool) → cond b 1 0 ≤ 1
one_or_none true = omega arith
one_or_none false = omega arith

pub marked_small : (m : Marks) → marked_count m ≤ rows_of m * width_of m
marked_small m =
    sum_below-most (rows_of m) (marked_in_row m) (width_of m)
    (λ row l. omega (arith, sum_below-most (width_of m) (λ place. cond (is_marked m place row) 1 0) 1 (λ place x. one_or_none (is_marked m place row))))

none_in_row : (m : Marks) (row : ℕ) → ((place : ℕ) → place < width_of m → is_marked m place row ≡ false) → marked_in_row m row ≡ 0
none_in_row m row none = sum_below-zero (width_of m) (λ place. cond (is_marked m place row) 1 0) (λ place l. ap (λ (b : Bool). cond b 1 0) (none place l))

pub none_marked : (m : Marks) → ((place row : ℕ) → place < width_of m → row < rows_of m → is_marked m place row ≡ false) → marked_count m ≡ 0
none_marked m none = sum_below-zero (rows_of m) (marked_in_row m) (λ row l. none_in_row m row (λ place x. none place row x l))

-- a row of the same marks
same_in_row : (old new : Marks) (row : ℕ) → width_of new ≡ width_of old → ((place : ℕ) → place < width_of old → is_marked new place row ≡ is_marked old place row) → marked_in_row new row ≡ marked_in_row old row
same_in_row old new row wide same =
    ap (λ (n : ℕ). sum_below n (λ place. cond (is_marked new place row) 1 0)) wide
    ∙ sum_below-same (width_of old) (λ place. cond (is_marked new place row) 1 0) (λ place. cond (is_marked old place row) 1 0) (λ place l. ap (λ (b : Bool). cond b 1 0) (same place l))

one_from : (a b none one : ℕ) → a + none ≡ b + one → none ≡ 0 → one ≡ 1 → a ≡ b + 1
one_from a b none one e f g = omega arith

next_from : (a b old new : ℕ) → a + old ≡ b + new → new ≡ old + 1 → a ≡ b + 1
next_from a b old new e f = omega arith

-- a place that was not marked is marked
pub one_more : (old new : Marks) (place row : ℕ) → SetsMark old new place row true → place < width_of old → row < rows_of old → is_marked old place row ≡ false → marked_count new ≡ marked_count old + 1
one_more old new place row sets x y was =
    let f : ℕ → ℕ = λ p. cond (is_marked new p row) 1 0 in
    let g : ℕ → ℕ = λ p. cond (is_marked old p row) 1 0 in
    let before : cond (is_marked old place row) 1 0 ≡ 0 = ap (λ (b : Bool). cond b 1 0) was in
    let after : cond (is_marked new place row) 1 0 ≡ 1 = ap (λ (b : Bool). cond b 1 0) sets.here in
    let wide : marked_in_row new row ≡ sum_below (width_of old) (λ p. cond (is_marked new p row) 1 0) = ap (λ (n : ℕ). sum_below n (λ p. cond (is_marked new p row) 1 0)) sets.size.width in
    let here : sum_below (width_of old) (λ p. cond (is_marked new p row) 1 0) + cond (is_marked old place row) 1 0 ≡ marked_in_row old row + cond (is_marked new place row) 1 0 =
    sum_below-change (width_of old) (λ p. cond (is_marked new p row) 1 0) (λ p. cond (is_marked old p row) 1 0) place x
    (λ p l ne. ap (λ (b : Bool). cond b 1 0) (sets.others p row l y (λ same e. ne (sym same)))) in
    let in_row : marked_in_row new row ≡ marked_in_row old row + 1 = wide ∙ one_from (sum_below (width_of old) f) (sum_below (width_of old) g) (g place) (f place) here before after in
    let others : (r : ℕ) → r < rows_of old → r ≢ row → marked_in_row new r ≡ marked_in_row old r =
    λ r l ne. same_in_row old new r sets.size.width (λ p z. sets.others p r z l (λ e same. ne (sym same))) in
    let long : marked_count new ≡ sum_below (rows_of old) (marked_in_row new) = ap (λ (n : ℕ). sum_below n (marked_in_row new)) sets.size.rows in
    long ∙ next_from (sum_below (rows_of old) (marked_in_row new)) (marked_count old) (marked_in_row old row) (marked_in_row new row) (sum_below-change (rows_of old) (marked_in_row new) (marked_in_row old) row y others) in_row

-- rows without marks add none
more_rows : (n more : ℕ) (f : ℕ → ℕ) → ((k : ℕ) → n ≤ k → f k ≡ 0) → sum_below (n + more) f ≡ sum_below n f
more_rows n zero f none = let e : n + zero ≡ n = omega arith in ap (λ (z : ℕ). sum_below z f) e
more_rows n (suc more) f none =
    let e : n + suc more ≡ suc (n + more) = omega arith in
    ap (λ (z : ℕ). sum_below z f) e ∙ (let below : sum_below (n + more) f ≡ sum_below n f = more_rows n more f none in omega (arith, none (n + more) (omega arith)))

pub longer_count : (old new : Marks) → width_of new ≡ width_of old → rows_of old ≤ rows_of new → ((place row : ℕ) → is_marked new place row ≡ is_marked old place row) →
    ((place row : ℕ) → place < width_of old → rows_of old ≤ row → is_marked new place row ≡ false) → marked_count new ≡ marked_count old
longer_count old new wide long same none =
    let more : rows_of old + (rows_of new - rows_of old) ≡ rows_of new = omega arith in
    ap (λ (n : ℕ). sum_below n (marked_in_row new)) (sym more)
    ∙ (more_rows (rows_of old) (rows_of new - rows_of old) (marked_in_row new) (λ row l. none_in_row new row (λ place x. none place row (omega arith) l))
    ∙ sum_below-same (rows_of old) (marked_in_row new) (marked_in_row old) (λ row l. same_in_row old new row wide (λ place x. same place row)))

-- ---- cells
pub in_cells : (c : Changed) (g k : ℕ) → g < width_of c.marks → k < rows_of c.marks → is_changed c g k ≡ is_marked c.marks g k
unfolding is_changed
in_cells c g k x l = rw (lt-ltb g (width_of c.marks) x, lt-ltb k (rows_of c.marks) l) refl

pub of_cell : (c : Changed) (g k : ℕ) → IsCell c g k → is_changed c g k ≡ is_marked c.marks g k
of_cell c g k cell = in_cells c g k cell.is_group (omega (arith, cell.is_boundary, c.some_boundary))

-- a cell that is not there is not changed
no_group : (c : Changed) (g k : ℕ) → width_of c.marks ≤ g → is_changed c g k ≡ false
unfolding is_changed
no_group c g k x = rw (le-ltb g (width_of c.marks) x) refl

and_none : (a : Bool) → (a && false) ≡ false
and_none true = refl
and_none false = refl

no_boundary : (c : Changed) (g k : ℕ) → rows_of c.marks ≤ k → is_changed c g k ≡ false
unfolding is_changed
no_boundary c g k l = rw (le-ltb k (rows_of c.marks) l) (ap (λ b. b && is_marked c.marks g k) (and_none (nat_lt g (width_of c.marks))))

-- what is so of all cells that are there is so of all
pub not_changed : (c : Changed) (g k : ℕ) → (g < width_of c.marks → k < rows_of c.marks → is_marked c.marks g k ≡ false) → is_changed c g k ≡ false
not_changed c g k none = elim (cases_lt g (width_of c.marks)) [
  | inr past ↦ no_group c g k past
  | inl x ↦ elim (cases_lt k (rows_of c.marks)) [ inr past ↦ no_boundary c g k past | inl l ↦ in_cells c g k x l ∙ none x l ]
]

pub same_cells : (a b : Changed) (g k : ℕ) → width_of b.marks ≡ width_of a.marks → rows_of b.marks ≡ rows_of a.marks → is_marked b.marks g k ≡ is_marked a.marks g k → is_changed b g k ≡ is_changed a g k
unfolding is_changed
same_cells a b g k wide long same =
    ap (λ z. (nat_lt g z && nat_lt k (rows_of b.marks)) && is_marked b.marks g k) wide
    ∙ (ap (λ z. (nat_lt g (width_of a.marks) && nat_lt k z) && is_marked b.marks g k) long ∙ ap (λ z. (nat_lt g (width_of a.marks) && nat_lt k (rows_of a.marks)) && z) same)

-- boundaries that come behind change no cell
pub longer_cells : (a b : Changed) (g k : ℕ) → width_of b.marks ≡ width_of a.marks → rows_of a.marks ≤ rows_of b.marks → is_marked b.marks g k ≡ is_marked a.marks g k →
    (g < width_of a.marks → rows_of a.marks ≤ k → is_marked b.marks g k ≡ false) → is_changed b g k ≡ is_changed a g k
longer_cells a b g k wide long same none = elim (cases_lt g (width_of a.marks)) [
  | inr past ↦ no_group b g k (omega (arith, past, wide)) ∙ sym (no_group a g k past)
  | inl x ↦ elim (cases_lt k (rows_of a.marks)) [
    | inl l ↦ in_cells b g k (omega (arith, x, wide)) (omega (arith, l, long)) ∙ (same ∙ sym (in_cells a g k x l))
    | inr past ↦ not_changed b g k (λ y m. none x past) ∙ sym (no_boundary a g k past)
  ]
]

-- where none is changed outside, boundaries that come behind change none outside
pub longer_between : (old new : Marks) (from to : ℕ) → width_of new ≡ width_of old → rows_of old ≤ rows_of new → ((p r : ℕ) → is_marked new p r ≡ is_marked old p r) →
    ((p r : ℕ) → p < width_of old → rows_of old ≤ r → is_marked new p r ≡ false) → ((g k : ℕ) → g < width_of old → k < rows_of old → (k < from) ⊎ (to ≤ k) → is_marked old g k ≡ false) →
    (g k : ℕ) → g < width_of new → k < rows_of new → (k < from) ⊎ (to ≤ k) → is_marked new g k ≡ false
longer_between old new from to wide long same none outside g k x l either = elim (cases_lt k (rows_of old)) [
  | inl m ↦ same g k ∙ outside g k (omega (arith, x, wide)) m either
  | inr past ↦ none g k (omega (arith, x, wide)) past
]
