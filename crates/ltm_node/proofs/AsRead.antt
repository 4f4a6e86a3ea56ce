-- Inputs where nothing has been counted agree with those that they are made from in all but the counts.
use Rattle.std.proofs.Common.{◌≡◌, ℕ, ◌+◌, ◌-◌, ◌<◌, ◌≤◌, ◌++◌, Bool, true, false, cond, List, take, drop, length, replicate, slice_index, slice_range, refl, arith, ap, sym, ◌∙◌}
use Rattle.std.proofs.lemmas.List.{length-take-le, length-append, length-replicate, length-drop, drop-drop, get_or_append_left, get_or-take, get_or-drop, get_or-replicate}
use Rattle.std.proofs.Math.Seq.{drop-append_seam, take-append_seam}
use Rattle.ltm_node.specs.declared.shape.NodeShape.{NodeShape}
use Rattle.ltm_node.specs.Shape.{width, counts_width, counts_begin, supplies_begin, sending_place, left_place, entered_place, arrived_place, supply_place, capacity_place, weights_place}
use Rattle.ltm_node.specs.Inputs.{Inputs, sending, left, entered, arrived, supply, capacity, weight, weights}
use Rattle.ltm_node.specs.Uncounted.{with_no_counts}
use Rattle.ltm_node.specs.Reading.{row_as, read_as, count_as}
use Rattle.ltm_node.proofs.Amounts.{left_low, entered_low}

-- ---- a row with 0 in place of each count

front_long : (s : NodeShape) (row : List ℕ) → length row ≡ width s → length (take (counts_begin s) row) ≡ counts_begin s
front_long s row long = length-take-le (counts_begin s) row (omega (arith, long))

-- its numbers before the counts
front_none : (s : NodeShape) (row : List ℕ) (k : ℕ) → length row ≡ width s → k < counts_begin s → slice_index (with_no_counts s row) k ≡ slice_index row k
unfolding with_no_counts
front_none s row k long l =
    get_or_append_left (take (counts_begin s) row) (replicate (counts_width s) 0 ++ drop (supplies_begin s) row) 0 k (omega (arith, front_long s row long))
    ∙ get_or-take (counts_begin s) row k 0 l

-- all from its counts on
rest_none : (s : NodeShape) (row : List ℕ) → length row ≡ width s → drop (counts_begin s) (with_no_counts s row) ≡ replicate (counts_width s) 0 ++ drop (supplies_begin s) row
unfolding with_no_counts
rest_none s row long =
    ap (λ (z : ℕ). drop z (with_no_counts s row)) (sym (front_long s row long))
    ∙ drop-append_seam (take (counts_begin s) row) (replicate (counts_width s) 0 ++ drop (supplies_begin s) row)

counts_none : (s : NodeShape) (row : List ℕ) → length row ≡ width s → take (counts_width s) (drop (counts_begin s) (with_no_counts s row)) ≡ replicate (counts_width s) 0
counts_none s row long =
    let zeros : List ℕ = replicate (counts_width s) 0 in
    let many : length zeros ≡ counts_width s = length-replicate (counts_width s) 0 in
    ap (λ (z : List ℕ). take (counts_width s) z) (rest_none s row long)
    ∙ (ap (λ (z : ℕ). take z (zeros ++ drop (supplies_begin s) row)) (sym many) ∙ take-append_seam zeros (drop (supplies_begin s) row))

behind_none : (s : NodeShape) (row : List ℕ) → length row ≡ width s → drop (supplies_begin s) (with_no_counts s row) ≡ drop (supplies_begin s) row
behind_none s row long =
    let zeros : List ℕ = replicate (counts_width s) 0 in
    let many : length zeros ≡ counts_width s = length-replicate (counts_width s) 0 in
    let place : supplies_begin s ≡ counts_begin s + length zeros = omega (arith, many) in
    ap (λ (z : ℕ). drop z (with_no_counts s row)) place
    ∙ (sym (drop-drop (length zeros) (counts_begin s) (with_no_counts s row))
    ∙ (ap (λ (z : List ℕ). drop (length zeros) z) (rest_none s row long) ∙ drop-append_seam zeros (drop (supplies_begin s) row)))

width_none : (s : NodeShape) (row : List ℕ) → length row ≡ width s → length (with_no_counts s row) ≡ length row
unfolding with_no_counts
width_none s row long = omega (
  arith,
  long,
  length-append (take (counts_begin s) row) (replicate (counts_width s) 0 ++ drop (supplies_begin s) row),
  length-append (replicate (counts_width s) 0) (drop (supplies_begin s) row),
  front_long s row long,
  length-replicate {A = ℕ} (counts_width s) 0,
  length-drop (supplies_begin s) row,
)

-- ---- a row as it is read

-- numbers before the counts
pub front_as : (c : Bool) (s : NodeShape) (row : List ℕ) (k : ℕ) → length row ≡ width s → k < counts_begin s → slice_index (row_as c s row) k ≡ slice_index row k
front_as true s row k long l = refl
front_as false s row k long l = front_none s row k long l

-- all counts
pub counts_as : (c : Bool) (s : NodeShape) (row : List ℕ) → length row ≡ width s →
    take (counts_width s) (drop (counts_begin s) (row_as c s row)) ≡ cond c (take (counts_width s) (drop (counts_begin s) row)) (replicate (counts_width s) 0)
counts_as true s row long = refl
counts_as false s row long = counts_none s row long

-- one count
pub count_read : (c : Bool) (s : NodeShape) (row : List ℕ) (k : ℕ) → length row ≡ width s → counts_begin s ≤ k → k < supplies_begin s →
    slice_index (row_as c s row) k ≡ count_as c (slice_index row k)
count_read true s row k long more less = refl
count_read false s row k long more less =
    let at : ℕ = k - counts_begin s in
    let place : k ≡ counts_begin s + at = omega arith in
    let few : at < counts_width s = omega arith in
    ap (λ (z : ℕ). slice_index (with_no_counts s row) z) place
    ∙ (sym (get_or-drop (counts_begin s) (with_no_counts s row) at 0)
    ∙ (sym (get_or-take (counts_width s) (drop (counts_begin s) (with_no_counts s row)) at 0 few)
    ∙ (ap (λ (z : List ℕ). slice_index z at) (counts_none s row long) ∙ get_or-replicate (counts_width s) at 0 0 few)))

-- all behind the counts
pub behind_as : (c : Bool) (s : NodeShape) (row : List ℕ) → length row ≡ width s → drop (supplies_begin s) (row_as c s row) ≡ drop (supplies_begin s) row
behind_as true s row long = refl
behind_as false s row long = behind_none s row long

pub width_as : (c : Bool) (s : NodeShape) (row : List ℕ) → length row ≡ width s → length (row_as c s row) ≡ length row
width_as true s row long = refl
width_as false s row long = width_none s row long

-- all from a number behind the counts on
later_as : (c : Bool) (s : NodeShape) (row : List ℕ) (k : ℕ) → length row ≡ width s → supplies_begin s ≤ k → drop k (row_as c s row) ≡ drop k row
later_as c s row k long more =
    let at : ℕ = k - supplies_begin s in
    let place : k ≡ supplies_begin s + at = omega arith in
    ap (λ (z : ℕ). drop z (row_as c s row)) place
    ∙ (sym (drop-drop at (supplies_begin s) (row_as c s row))
    ∙ (ap (λ (z : List ℕ). drop at z) (behind_as c s row long)
    ∙ (drop-drop at (supplies_begin s) row ∙ ap (λ (z : ℕ). drop z row) (sym place))))

-- a number behind the counts
pub number_as : (c : Bool) (s : NodeShape) (row : List ℕ) (k : ℕ) → length row ≡ width s → supplies_begin s ≤ k → slice_index (row_as c s row) k ≡ slice_index row k
number_as c s row k long more =
    let whole : k ≡ k + 0 = omega arith in
    ap (λ (z : ℕ). slice_index (row_as c s row) z) whole
    ∙ (sym (get_or-drop k (row_as c s row) 0 0)
    ∙ (ap (λ (z : List ℕ). slice_index z 0) (later_as c s row k long more)
    ∙ (get_or-drop k row 0 0 ∙ ap (λ (z : ℕ). slice_index row z) (sym whole))))

-- numbers behind the counts
pub range_as : (c : Bool) (s : NodeShape) (row : List ℕ) (from to : ℕ) → length row ≡ width s → supplies_begin s ≤ from → slice_range (row_as c s row) from to ≡ slice_range row from to
range_as c s row from to long more = ap (λ (z : List ℕ). take (to - from) z) (later_as c s row from long more)

-- ---- inputs as they are read

pub sending_as : (c : Bool) (n : Inputs) (i d : ℕ) → length n.row ≡ width n.shape → i < n.shape.arms → d < n.shape.destinations → sending (read_as c n) i d ≡ sending n i d
sending_as c n i d long il dl = front_as c n.shape n.row (sending_place n.shape i d) long (left_low n i d il dl)

pub supply_as : (c : Bool) (n : Inputs) (j : ℕ) → length n.row ≡ width n.shape → supply (read_as c n) j ≡ supply n j
supply_as c n j long = number_as c n.shape n.row (supply_place n.shape j) long (omega arith)

pub capacity_as : (c : Bool) (n : Inputs) (i : ℕ) → length n.row ≡ width n.shape → capacity (read_as c n) i ≡ capacity n i
capacity_as c n i long = number_as c n.shape n.row (capacity_place n.shape i) long (omega arith)

pub weight_as : (c : Bool) (n : Inputs) (d j : ℕ) → length n.row ≡ width n.shape → weight (read_as c n) d j ≡ weight n d j
weight_as c n d j long = number_as c n.shape n.row (weights_place n.shape d + j) long (omega arith)

pub weights_as : (c : Bool) (n : Inputs) (d : ℕ) → length n.row ≡ width n.shape → weights (read_as c n) d ≡ weights n d
weights_as c n d long = range_as c n.shape n.row (weights_place n.shape d) (weights_place n.shape d + n.shape.outs) long (omega arith)

pub left_as : (c : Bool) (n : Inputs) (i d : ℕ) → length n.row ≡ width n.shape → i < n.shape.arms → d < n.shape.destinations → left (read_as c n) i d ≡ count_as c (left n i d)
left_as c n i d long il dl = count_read c n.shape n.row (left_place n.shape i d) long (omega arith) (omega (arith, left_low n i d il dl))

pub entered_as : (c : Bool) (n : Inputs) (j d : ℕ) → length n.row ≡ width n.shape → j < n.shape.outs → d < n.shape.destinations → entered (read_as c n) j d ≡ count_as c (entered n j d)
entered_as c n j d long jl dl = count_read c n.shape n.row (entered_place n.shape j d) long (omega arith) (omega (arith, entered_low n j d jl dl))

pub arrived_as : (c : Bool) (n : Inputs) → length n.row ≡ width n.shape → arrived (read_as c n) ≡ count_as c (arrived n)
arrived_as c n long = count_read c n.shape n.row (arrived_place n.shape) long (omega arith) (omega arith)

-- ---- inputs that are read from a row

-- inputs with this row
abbrev pub with_row : Inputs → NodeShape → List ℕ → Inputs
with_row n s row = record { shape = s; row = row; room = n.room }

-- the row is the one that the inputs have as they are read
pub record IsReadFrom (n : Inputs) (c : Bool) (s : NodeShape) (numbers : List ℕ) : Type 0 where
  pub shape : s ≡ n.shape
  pub row : n.row ≡ row_as c s numbers
  pub long : length numbers ≡ width s

read_from : (n : Inputs) (c : Bool) (s : NodeShape) (row : List ℕ) → IsReadFrom n c s row → read_as c (with_row n s row) ≡ n
read_from n c s row h =
    let one : Inputs = with_row n s (row_as c s row) in
    let two : Inputs = with_row n n.shape (row_as c s row) in
    let first : one ≡ two = ap (λ (z : NodeShape). with_row n z (row_as c s row)) h.shape in
    let second : two ≡ n = ap (λ (z : List ℕ). with_row n n.shape z) (sym h.row) in
    first ∙ second

arms_from : (n : Inputs) (c : Bool) (s : NodeShape) (row : List ℕ) → IsReadFrom n c s row → s.arms ≡ n.shape.arms
arms_from n c s row h = ap (λ (z : NodeShape). z.arms) h.shape

outs_from : (n : Inputs) (c : Bool) (s : NodeShape) (row : List ℕ) → IsReadFrom n c s row → s.outs ≡ n.shape.outs
outs_from n c s row h = ap (λ (z : NodeShape). z.outs) h.shape

destinations_from : (n : Inputs) (c : Bool) (s : NodeShape) (row : List ℕ) → IsReadFrom n c s row → s.destinations ≡ n.shape.destinations
destinations_from n c s row h = ap (λ (z : NodeShape). z.destinations) h.shape

pub sending_from : (n : Inputs) (c : Bool) (s : NodeShape) (row : List ℕ) (i d : ℕ) → IsReadFrom n c s row → i < n.shape.arms → d < n.shape.destinations → slice_index row (sending_place s i d) ≡ sending n i d
sending_from n c s row i d h il dl =
    sym (sending_as c (with_row n s row) i d h.long (omega (arith, arms_from n c s row h, il)) (omega (arith, destinations_from n c s row h, dl)))
    ∙ ap (λ (z : Inputs). sending z i d) (read_from n c s row h)

pub left_from : (n : Inputs) (c : Bool) (s : NodeShape) (row : List ℕ) (i d : ℕ) → IsReadFrom n c s row → i < n.shape.arms → d < n.shape.destinations → count_as c (slice_index row (left_place s i d)) ≡ left n i d
left_from n c s row i d h il dl =
    sym (left_as c (with_row n s row) i d h.long (omega (arith, arms_from n c s row h, il)) (omega (arith, destinations_from n c s row h, dl)))
    ∙ ap (λ (z : Inputs). left z i d) (read_from n c s row h)

pub entered_from : (n : Inputs) (c : Bool) (s : NodeShape) (row : List ℕ) (j d : ℕ) → IsReadFrom n c s row → j < n.shape.outs → d < n.shape.destinations → count_as c (slice_index row (entered_place s j d)) ≡ entered n j d
entered_from n c s row j d h jl dl =
    sym (entered_as c (with_row n s row) j d h.long (omega (arith, outs_from n c s row h, jl)) (omega (arith, destinations_from n c s row h, dl)))
    ∙ ap (λ (z : Inputs). entered z j d) (read_from n c s row h)

pub arrived_from : (n : Inputs) (c : Bool) (s : NodeShape) (row : List ℕ) → IsReadFrom n c s row → count_as c (slice_index row (arrived_place s)) ≡ arrived n
arrived_from n c s row h = sym (arrived_as c (with_row n s row) h.long) ∙ ap (λ (z : Inputs). arrived z) (read_from n c s row h)

pub supply_from : (n : Inputs) (c : Bool) (s : NodeShape) (row : List ℕ) (j : ℕ) → IsReadFrom n c s row → slice_index row (supply_place s j) ≡ supply n j
supply_from n c s row j h = sym (supply_as c (with_row n s row) j h.long) ∙ ap (λ (z : Inputs). supply z j) (read_from n c s row h)

pub weight_from : (n : Inputs) (c : Bool) (s : NodeShape) (row : List ℕ) (d j : ℕ) → IsReadFrom n c s row → slice_index row (weights_place s d + j) ≡ weight n d j
weight_from n c s row d j h = sym (weight_as c (with_row n s row) d j h.long) ∙ ap (λ (z : Inputs). weight z d j) (read_from n c s row h)

pub weights_from : (n : Inputs) (c : Bool) (s : NodeShape) (row : List ℕ) (d : ℕ) → IsReadFrom n c s row → weights (with_row n s row) d ≡ weights n d
weights_from n c s row d h = sym (weights_as c (with_row n s row) d h.long) ∙ ap (λ (z : Inputs). weights z d) (read_from n c s row h)
