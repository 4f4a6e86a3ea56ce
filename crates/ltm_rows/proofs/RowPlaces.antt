-- Where rows lie.
use Rattle.std.proofs.Common.{◌≡◌, ℕ, ◌+◌, ◌-◌, ◌*◌, ◌<◌, ◌≤◌, ◌⊎◌, List, ◌++◌, length, slice_index, get_or, take, drop, arith, inl, inr, refl, ap, sym, ◌∙◌}
use Rattle.std.specs.Prelude.{slice_range, replicate}
use Rattle.std.specs.List.{copy_within}
use Rattle.std.specs.Global.{Vec}
use Rattle.std.specs.Vec.{with_items}
use Rattle.std.proofs.Math.Nat.{mul-le-mul_right}
use Rattle.std.proofs.lemmas.Bool.{cases_lt}
use Rattle.std.proofs.lemmas.List.{ext_get_or, length-take, length-take-le, length-drop, length-append, append_assoc, drop-drop, get_or-take, get_or-drop, get_or_append_left, get_or-replicate, length-replicate, with_items_is}
use Rattle.ltm_curve.proofs.PutOver.{put_over, length_over, before_over, in_over, after_over}
use Rattle.ltm_rows.specs.declared.layout.Layout.{Layout}
use Rattle.ltm_rows.specs.Layouts.{slot_width, nodes_in, width_in, start_in, row_in}

-- a part of a list, number by number
pub length_part : (xs : List ℕ) (a w : ℕ) → a + w ≤ length xs → length (slice_range xs a (a + w)) ≡ w
length_part xs a w l = let e : a + w - a ≡ w = omega arith in omega (length-take-le (a + w - a) (drop a xs) (omega (length-drop a xs, e, l, arith)), e, arith)

part_at : (xs : List ℕ) (a w i : ℕ) → i < w → get_or (slice_range xs a (a + w)) i 0 ≡ slice_index xs (a + i)
part_at xs a w i l = get_or-take (a + w - a) (drop a xs) i 0 (omega arith) ∙ get_or-drop a xs i 0

-- parts with the same numbers are one
same_part : (xs ys : List ℕ) (a w : ℕ) → a + w ≤ length xs → a + w ≤ length ys → ((i : ℕ) → i < w → slice_index xs (a + i) ≡ slice_index ys (a + i)) → slice_range xs a (a + w) ≡ slice_range ys a (a + w)
same_part xs ys a w l m h =
    ext_get_or 0 (slice_range xs a (a + w)) (slice_range ys a (a + w)) (length_part xs a w l ∙ sym (length_part ys a w m))
    (λ i x. let below : i < w = omega (length_part xs a w l, x, arith) in part_at xs a w i below ∙ (h i below ∙ sym (part_at ys a w i below)))

part_is : (xs ys : List ℕ) (a w : ℕ) → a + w ≤ length xs → length ys ≡ w → ((i : ℕ) → i < w → slice_index xs (a + i) ≡ slice_index ys i) → slice_range xs a (a + w) ≡ ys
part_is xs ys a w l m h =
    ext_get_or 0 (slice_range xs a (a + w)) ys (length_part xs a w l ∙ sym m)
    (λ i x. let below : i < w = omega (length_part xs a w l, x, arith) in part_at xs a w i below ∙ h i below)

-- rows of different pairs lie apart
apart : (p : Layout) (u t w v : ℕ) → u < nodes_in p → w < nodes_in p → (u ≡ w → t ≡ v → ⊥) → (start_in p w v + width_in p w ≤ start_in p u t) ⊎ (start_in p u t + width_in p u ≤ start_in p w v)
apart p u t w v x y other =
    let W : ℕ = slot_width p in
    let S : ℕ → ℕ = λ a. slice_index p.starts.items a in
    let rising : (a b : ℕ) → a ≤ b → b < length p.starts.items → S a ≤ S b = p.rising in
    let u_in : S (u + 1) ≤ W = rising (u + 1) (length p.starts.items - 1) (omega arith) (omega arith) in
    let w_in : S (w + 1) ≤ W = rising (w + 1) (length p.starts.items - 1) (omega arith) (omega arith) in
    let u_up : S u ≤ S (u + 1) = rising u (u + 1) (omega arith) (omega arith) in
    let w_up : S w ≤ S (w + 1) = rising w (w + 1) (omega arith) (omega arith) in
    elim (cases_lt v t) [
      | inl less ↦
          let next : v + 1 ≤ t = omega arith in
          let times : (v + 1) * W ≤ t * W = mul-le-mul_right W next in
          inl (omega (times, w_in, w_up, arith))
      | inr high ↦ elim (cases_lt t v) [
        | inl more ↦
            let next : t + 1 ≤ v = omega arith in
            let times : (t + 1) * W ≤ v * W = mul-le-mul_right W next in
            inr (omega (times, u_in, u_up, arith))
        | inr low ↦
            let at : t ≡ v = omega arith in
            let times : t * W ≡ v * W = ap (λ z. z * W) at in
            elim (cases_lt w u) [
              | inl less ↦ let step : S (w + 1) ≤ S u = rising (w + 1) u (omega arith) (omega arith) in inl (omega (times, step, w_up, arith))
              | inr up ↦ elim (cases_lt u w) [
                | inl more ↦ let step : S (u + 1) ≤ S w = rising (u + 1) w (omega arith) (omega arith) in inr (omega (times, step, u_up, arith))
                | inr same ↦ absurd (other (omega arith) at)
              ]
            ]
      ]
    ]

-- a row ends within a table of so many slots
pub row_within : (p : Layout) (room most w v : ℕ) → w < nodes_in p → v < room → room * slot_width p ≤ most → start_in p w v + width_in p w ≤ most
row_within p room most w v y m long =
    let W : ℕ = slot_width p in
    let S : ℕ → ℕ = λ a. slice_index p.starts.items a in
    let rising : (a b : ℕ) → a ≤ b → b < length p.starts.items → S a ≤ S b = p.rising in
    let w_in : S (w + 1) ≤ W = rising (w + 1) (length p.starts.items - 1) (omega arith) (omega arith) in
    let w_up : S w ≤ S (w + 1) = rising w (w + 1) (omega arith) (omega arith) in
    let next : v + 1 ≤ room = omega (arith, m) in
    let times : (v + 1) * W ≤ room * W = mul-le-mul_right W next in
    omega (times, long, w_in, w_up, arith)

-- a row has the width of its node
pub length_in : (p : Layout) (xs : List ℕ) (room u t : ℕ) → u < nodes_in p → t < room → room * slot_width p ≤ length xs → length (row_in p xs u t) ≡ width_in p u
unfolding row_in
length_in p xs room u t x l long = length_part xs (start_in p u t) (width_in p u) (row_within p room (length xs) u t x l long)

-- the part of a table between the ends of a row has its width
pub length_cut : (p : Layout) (xs ys : List ℕ) (room u t from to : ℕ) → u < nodes_in p → t < room → room * slot_width p ≤ length xs → from ≡ start_in p u t → to ≡ start_in p u t + width_in p u → ys ≡ xs →
    length (slice_range ys from to) ≡ width_in p u
length_cut p xs ys room u t from to x l long start end same = rw (same, start, end) (length_part xs (start_in p u t) (width_in p u) (row_within p room (length xs) u t x l long))

-- the numbers after a row was written in the place of a pair's
abbrev pub written : Layout → List ℕ → ℕ → ℕ → List ℕ → List ℕ
written p xs u t row = put_over (start_in p u t) (start_in p u t + width_in p u) xs row

pub length_written : (p : Layout) (xs : List ℕ) (room u t : ℕ) (row : List ℕ) → u < nodes_in p → t < room → room * slot_width p ≤ length xs → length row ≡ width_in p u → length (written p xs u t row) ≡ length xs
length_written p xs room u t row x l long same =
    length_over (start_in p u t) (start_in p u t + width_in p u) xs row (omega arith) (row_within p room (length xs) u t x l long) (omega (same, arith))

pub written_here : (p : Layout) (xs : List ℕ) (room u t : ℕ) (row : List ℕ) → u < nodes_in p → t < room → room * slot_width p ≤ length xs → length row ≡ width_in p u → row_in p (written p xs u t row) u t ≡ row
unfolding row_in
written_here p xs room u t row x l long same =
    let a : ℕ = start_in p u t in
    let wide : ℕ = width_in p u in
    let within : a + wide ≤ length xs = row_within p room (length xs) u t x l long in
    part_is (written p xs u t row) row a wide (omega (length_written p xs room u t row x l long same, within, arith)) same (λ i below. in_over a (a + wide) xs row i (omega arith) within (omega (same, below, arith)))

pub written_other : (p : Layout) (xs : List ℕ) (room u t : ℕ) (row : List ℕ) (w v : ℕ) → u < nodes_in p → t < room → room * slot_width p ≤ length xs → length row ≡ width_in p u → w < nodes_in p → v < room → (u ≡ w → t ≡ v → ⊥) →
    row_in p (written p xs u t row) w v ≡ row_in p xs w v
unfolding row_in
written_other p xs room u t row w v x l long same y m other =
    let a : ℕ = start_in p u t in
    let e : ℕ = a + width_in p u in
    let b : ℕ = start_in p w v in
    let within : e ≤ length xs = row_within p room (length xs) u t x l long in
    let there : b + width_in p w ≤ length xs = row_within p room (length xs) w v y m long in
    let wide : length row ≡ e - a = omega (same, arith) in
    same_part (written p xs u t row) xs b (width_in p w) (omega (length_written p xs room u t row x l long same, there, arith)) there (λ i below.
    elim (apart p u t w v x y other) [
      | inl before ↦ before_over a e xs row (b + i) (omega arith) within (omega (before, below, arith))
      | inr behind ↦ after_over a e xs row (b + i) (omega arith) within wide (omega (behind, arith))
    ])

-- so it is where the part of a table between the ends of the row was written
pub items_written : (p : Layout) (v : Vec ℕ) (room u t from to : ℕ) (whole part row : List ℕ) → u < nodes_in p → t < room → room * slot_width p ≤ length v.items → length row ≡ width_in p u →
    from ≡ start_in p u t → to ≡ start_in p u t + width_in p u → whole ≡ v.items → part ≡ row → (with_items v (put_over from to whole part)).items ≡ written p v.items u t row
items_written p v room u t from to whole part row x l long wide start end all is =
    let same : put_over from to whole part ≡ written p v.items u t row = rw (start, end, all, is) refl in
    with_items_is v (put_over from to whole part) (ap length same ∙ (length_written p v.items room u t row x l long wide ∙ sym v.ok.0)) ∙ same

-- a table of which the first numbers are taken, and others put behind them, has the rows that it had
pub resized_rows : (p : Layout) (xs more : List ℕ) (n room w v : ℕ) → w < nodes_in p → v < room → room * slot_width p ≤ n → room * slot_width p ≤ length xs → row_in p (take n xs ++ more) w v ≡ row_in p xs w v
unfolding row_in
resized_rows p xs more n room w v y m enough long =
    let from : ℕ = start_in p w v in
    let wide : ℕ = width_in p w in
    let within : from + wide ≤ length xs = row_within p room (length xs) w v y m long in
    let taken : from + wide ≤ n = row_within p room n w v y m enough in
    let first : from + wide ≤ length (take n xs) = omega (length-take n xs, within, taken, arith) in
    same_part (take n xs ++ more) xs from wide (omega (arith, first, length-append (take n xs) more)) within
    (λ i below. get_or_append_left (take n xs) more 0 (from + i) (omega (arith, first, below)) ∙ get_or-take n xs (from + i) 0 (omega (arith, taken, below)))

-- a row among zeros
pub zeros_in : (p : Layout) (room u t : ℕ) → u < nodes_in p → t < room → row_in p (replicate (room * slot_width p) 0) u t ≡ replicate (width_in p u) 0
unfolding row_in
zeros_in p room u t x l =
    let all : ℕ = room * slot_width p in
    let from : ℕ = start_in p u t in
    let within : from + width_in p u ≤ all = row_within p room all u t x l (omega arith) in
    part_is (replicate all 0) (replicate (width_in p u) 0) from (width_in p u) (omega (arith, within, length-replicate {A = ℕ} all 0)) (length-replicate {A = ℕ} (width_in p u) 0)
    (λ i below. get_or-replicate {A = ℕ} all (from + i) 0 0 (omega (arith, within, below)) ∙ sym (get_or-replicate {A = ℕ} (width_in p u) i 0 0 below))

-- the row of another slot of the node, copied into the place of a pair's
copied_is_written : (p : Layout) (xs : List ℕ) (u t v from to at : ℕ) → from ≡ start_in p u t → to ≡ start_in p u t + width_in p u → at ≡ start_in p u v → copy_within xs from to at ≡ written p xs u v (row_in p xs u t)
unfolding row_in
copied_is_written p xs u t v from to at start end here =
    let a : ℕ = start_in p u v in
    let b : ℕ = start_in p u t in
    let w : ℕ = width_in p u in
    let place : a + (a + w - a) ≡ a + (b + w - b) = omega arith in
    let behind : drop (a + (b + w - b)) xs ≡ drop (a + w - a) (drop a xs) = sym (drop-drop (a + w - a) a xs ∙ ap (λ (z : ℕ). drop z xs) place) in
    rw (start, end, here) (append_assoc (take a xs) (slice_range xs b (b + w)) (drop (a + (b + w - b)) xs) ∙ ap (λ (zs : List ℕ). take a xs ++ (slice_range xs b (b + w) ++ zs)) behind)

-- so it is where the numbers of a table that is lent were copied
pub items_copied : (p : Layout) (v : Vec ℕ) (room u t w from to at : ℕ) (whole ys : List ℕ) → u < nodes_in p → t < room → w < room → room * slot_width p ≤ length v.items → from ≡ start_in p u t → to ≡ start_in p u t + width_in p u →
    at ≡ start_in p u w → whole ≡ v.items → ys ≡ copy_within whole from to at → (with_items v ys).items ≡ written p v.items u w (row_in p v.items u t)
items_copied p v room u t w from to at whole ys x l m long start end here all is =
    let xs : List ℕ = v.items in
    let row : List ℕ = row_in p xs u t in
    let same : ys ≡ written p xs u w row = is ∙ (ap (λ (zs : List ℕ). copy_within zs from to at) all ∙ copied_is_written p xs u t w from to at start end here) in
    with_items_is v ys (ap length same ∙ (length_written p xs room u w row x m long (length_in p xs room u t x l long) ∙ sym v.ok.0)) ∙ same
