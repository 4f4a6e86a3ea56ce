use Rattle.std.proofs.Common.{◌≡◌, ◌≢◌, ℕ, zero, suc, ◌+◌, ◌*◌, ◌<◌, ◌≤◌, ◌⊎◌, List, set, length, slice_index, arith, inl, inr, ap, ◌∙◌, sym, subst}
use Rattle.std.proofs.Math.ListN.{length-set}
use Rattle.std.proofs.lemmas.Bool.{cases_eq, cases_lt}
use Rattle.std.proofs.lemmas.List.{get_or-set_other, get_or-set_same}
use Rattle.std.proofs.lemmas.Nat.{same_from_place, mul-add-lt}
use Rattle.ltm_units.specs.Sums.{sum_below}
use Rattle.ltm_units.proofs.Sums.{sum_below_more, sum_below-zero}
use Rattle.ltm_node.specs.declared.shape.NodeShape.{NodeShape}
use Rattle.ltm_node.specs.Shape.{counts_width}
use Rattle.ltm_node.specs.Inputs.{Inputs, left, entered}
use Rattle.ltm_node.specs.Outputs.{left_after_place, entered_after_place, arrived_after_place}
use Rattle.ltm_node.specs.Demands.{part}
use Rattle.ltm_node.specs.Solvable.{IsSolvable}
use Rattle.ltm_node.specs.Step.{moved, sunk, gone, come}
use Rattle.ltm_node.specs.Moving.{IsMoving, Passes}
use Rattle.ltm_node.proofs.Moved.{moved_none}

-- ---- places

pub places_differ : (w i d a b : ℕ) → d < w → b < w → (i ≡ a → d ≡ b → ⊥) → i * w + d ≢ a * w + b
places_differ w i d a b dl bl ne = λ e. let s : (i ≡ a) × (d ≡ b) = same_from_place i d a b w dl bl e in ne s.0 s.1

pub left_low : (n : Inputs) (i d : ℕ) → i < n.shape.arms → d < n.shape.destinations → left_after_place n.shape i d < n.shape.arms * n.shape.destinations
left_low n i d l m = omega (arith, mul-add-lt i n.shape.destinations d n.shape.arms l m)

pub entered_low : (n : Inputs) (j d : ℕ) → j < n.shape.outs → d < n.shape.destinations → entered_after_place n.shape j d < arrived_after_place n.shape
entered_low n j d l m = omega (arith, mul-add-lt j n.shape.destinations d n.shape.outs l m)

-- the place of the next out-link
pub place_on : (s : NodeShape) (j d : ℕ) → entered_after_place s (j + 1) d ≡ entered_after_place s j d + s.destinations
place_on s j d = let next : (j + 1) * s.destinations ≡ j * s.destinations + s.destinations = omega arith in omega arith

-- a pair of destination and arm before the next one is before this one, or is this one
pub pair_cases : (b a d i : ℕ) → a < 8 → i < 8 → d * 8 + i < b * 8 + (a + 1) → (d * 8 + i < b * 8 + a) ⊎ ((i ≡ a) × (d ≡ b))
pair_cases b a d i al il less =
    elim (cases_lt (d * 8 + i) (b * 8 + a)) [ inl low ↦ inl low | inr high ↦ inr (omega arith, omega arith) ]

-- ---- an arm moves by one more out-link

pub entered_on : (n : Inputs) (e : ℕ) (p : ℕ → ℕ) (stands stands' : ℕ → ℕ → ℕ → Type 0) (b a k v : ℕ) (row row' : List ℕ) → IsSolvable n → IsMoving n e p stands b a k row → a < n.shape.arms → b < n.shape.destinations → k < n.shape.outs → v ≡ moved n e p a b k →
    row' ≡ set row (entered_after_place n.shape k b) (slice_index row (entered_after_place n.shape k b) + v) →
    stands' a k (b + 1) → ((i j d : ℕ) → j < 4 → (i ≡ a → j ≡ k → ⊥) → stands i j d → stands' i j d) → IsMoving n e p stands' b a (k + 1) row'
entered_on n e p stands stands' b a k v row row' s h al bl kl is er on stay =
    let at : ℕ = entered_after_place n.shape k b in
    let x : ℕ = slice_index row at + v in
    let other : (q : ℕ) → q ≢ at → slice_index row' q ≡ slice_index row q = λ q ne. ap (λ z. slice_index z q) er ∙ get_or-set_other row at q x 0 ne in
    let here : slice_index row' at ≡ x = ap (λ z. slice_index z at) er ∙ get_or-set_same row at x 0 (omega (arith, entered_low n k b kl bl, h.width)) in
    let differs : (j d : ℕ) → d < n.shape.destinations → (j ≡ k → d ≡ b → ⊥) → entered_after_place n.shape j d ≢ at = λ j d dl ne.
    let apart : j * n.shape.destinations + d ≢ k * n.shape.destinations + b = places_differ n.shape.destinations j d k b dl bl ne in omega arith in
    let few : n.shape.outs ≤ 4 = s.few_outs in
    record {
      width = ap length er ∙ (length-set row at x ∙ h.width);
      left_done = λ i d il dl less. other (left_after_place n.shape i d) (omega (arith, left_low n i d il dl)) ∙ h.left_done i d il dl less;
      left_rest = λ i d il dl more. other (left_after_place n.shape i d) (omega (arith, left_low n i d il dl)) ∙ h.left_rest i d il dl more;
      entered_done = λ j d jl dl less. other (entered_after_place n.shape j d) (differs j d dl (λ _ eq. absurd (omega arith))) ∙ h.entered_done j d jl dl less;
      entered_here = λ j jl _ less. elim (cases_eq j k) [
        | inl eq ↦
            let P : ℕ → Type 0 = λ z. slice_index row' (entered_after_place n.shape z b) ≡ entered n z b + (sum_below a (λ i. moved n e p i b z) + moved n e p a b z) in
            let was : slice_index row at ≡ entered n k b + sum_below a (λ i. moved n e p i b k) = h.entered_there k kl bl (omega arith) in
            subst P (sym eq) (omega arith)
        | inr ne ↦ other (entered_after_place n.shape j b) (differs j b bl (λ same _. ne same)) ∙ h.entered_here j jl bl (omega arith)
      ];
      entered_there = λ j jl _ more. other (entered_after_place n.shape j b) (differs j b bl (λ same _. absurd (omega arith))) ∙ h.entered_there j jl bl (omega arith);
      entered_rest = λ j d jl dl more. other (entered_after_place n.shape j d) (differs j d dl (λ _ eq. absurd (omega arith))) ∙ h.entered_rest j d jl dl more;
      arrived = other (arrived_after_place n.shape) (omega (arith, entered_low n k b kl bl)) ∙ h.arrived;
      turns_done = λ i j il jl less. elim (cases_eq (i * 4 + j) (a * 4 + k)) [
        | inl eq ↦
            let one : i ≡ a = omega arith in
            let two : j ≡ k = omega arith in
            subst (λ (z : ℕ). stands' z j (b + 1)) (sym one) (subst (λ (z : ℕ). stands' a z (b + 1)) (sym two) on)
        | inr ne ↦ stay i j (b + 1) (omega arith) (λ one two. ne (omega arith)) (h.turns_done i j il jl (omega arith))
      ];
      turns_rest = λ i j il jl more. stay i j b (omega arith) (λ one two. absurd (omega arith)) (h.turns_rest i j il jl (omega arith));
    }

-- a number of the row is read and written at one place
pub row_added : (row : List ℕ) (q at v : ℕ) → q ≡ at → set row q (slice_index row q + v) ≡ set row at (slice_index row at + v)
row_added row q at v e = ap (λ z. set row z (slice_index row z + v)) e

-- an arm sends nothing by some out-links
pub entered_past : (n : Inputs) (e : ℕ) (p : ℕ → ℕ) (stands : ℕ → ℕ → ℕ → Type 0) (b a k m : ℕ) (row : List ℕ) → IsSolvable n → Passes n stands → IsMoving n e p stands b a k row → b < n.shape.destinations → k ≤ m → m ≤ n.shape.outs →
    ((j : ℕ) → k ≤ j → j < m → part n a b j ≡ 0) → IsMoving n e p stands b a m row
entered_past n e p stands b a k m row s passes h bl km mo none =
    let few : n.shape.outs ≤ 4 = s.few_outs in
    record {
      width = h.width;
      left_done = h.left_done;
      left_rest = h.left_rest;
      entered_done = h.entered_done;
      entered_here = λ j jl _ less. elim (cases_lt j k) [
        | inl low ↦ h.entered_here j jl bl low
        | inr high ↦ omega (arith, h.entered_there j jl bl high, moved_none n e p a b j (none j high less))
      ];
      entered_there = λ j jl _ more. h.entered_there j jl bl (omega arith);
      entered_rest = h.entered_rest;
      arrived = h.arrived;
      turns_done = λ i j il jl less. elim (cases_lt (i * 4 + j) (a * 4 + k)) [
        | inl low ↦ h.turns_done i j il jl low
        | inr high ↦
            let one : a ≡ i = omega arith in
            let nothing : part n i b j ≡ 0 = subst (λ (z : ℕ). part n z b j ≡ 0) one (none j (omega arith) (omega arith)) in
            passes i j b bl nothing (h.turns_rest i j il jl high)
      ];
      turns_rest = λ i j il jl more. h.turns_rest i j il jl (omega arith);
    }

-- ---- what left an arm is added

pub left_on : (n : Inputs) (e : ℕ) (p : ℕ → ℕ) (stands : ℕ → ℕ → ℕ → Type 0) (b a v : ℕ) (row row' : List ℕ) → IsSolvable n → IsMoving n e p stands b a n.shape.outs row → a < n.shape.arms → b < n.shape.destinations →
    v ≡ sum_below n.shape.outs (λ j. moved n e p a b j) → sunk n e p a b ≡ 0 →
    row' ≡ set row (left_after_place n.shape a b) (slice_index row (left_after_place n.shape a b) + v) → IsMoving n e p stands b (a + 1) 0 row'
left_on n e p stands b a v row row' s h al bl is none er =
    let at : ℕ = left_after_place n.shape a b in
    let x : ℕ = slice_index row at + v in
    let low : at < n.shape.arms * n.shape.destinations = left_low n a b al bl in
    let other : (q : ℕ) → q ≢ at → slice_index row' q ≡ slice_index row q = λ q ne. ap (λ z. slice_index z q) er ∙ get_or-set_other row at q x 0 ne in
    let here : slice_index row' at ≡ x = ap (λ z. slice_index z at) er ∙ get_or-set_same row at x 0 (omega (arith, h.width)) in
    let was : slice_index row at ≡ left n a b = h.left_rest a b al bl (omega arith) in
    let arms : n.shape.arms ≤ 5 = s.few_arms in
    let outs : n.shape.outs ≤ 4 = s.few_outs in
    record {
      width = ap length er ∙ (length-set row at x ∙ h.width);
      left_done = λ i d il dl less. elim (pair_cases b a d i (omega arith) (omega arith) less) [
        | inl before ↦ other (left_after_place n.shape i d) (places_differ n.shape.destinations i d a b dl bl (λ one two. absurd (omega arith))) ∙ h.left_done i d il dl before
        | inr same ↦
            let P : ℕ → Type 0 = λ z. slice_index row' (left_after_place n.shape z d) ≡ left n z d + gone n e p z d in
            let Q : ℕ → Type 0 = λ z. slice_index row' (left_after_place n.shape a z) ≡ left n a z + gone n e p a z in
            subst P (sym same.0) (subst Q (sym same.1) (omega arith))
      ];
      left_rest = λ i d il dl more. other (left_after_place n.shape i d) (places_differ n.shape.destinations i d a b dl bl (λ one two. absurd (omega arith))) ∙ h.left_rest i d il dl (omega arith);
      entered_done = λ j d jl dl less. other (entered_after_place n.shape j d) (omega arith) ∙ h.entered_done j d jl dl less;
      entered_here = λ j jl _ less. absurd (omega arith);
      entered_there = λ j jl _ more. other (entered_after_place n.shape j b) (omega arith) ∙ omega (arith, h.entered_here j jl bl jl, sum_below_more (λ i. moved n e p i b j) a);
      entered_rest = λ j d jl dl more. other (entered_after_place n.shape j d) (omega arith) ∙ h.entered_rest j d jl dl more;
      arrived = other (arrived_after_place n.shape) (omega arith) ∙ omega (arith, h.arrived, sum_below_more (λ i. sunk n e p i b) a);
      turns_done = λ i j il jl less. h.turns_done i j il jl (omega arith);
      turns_rest = λ i j il jl more. h.turns_rest i j il jl (omega arith);
    }

-- ---- an arm moves to the sink

pub sunk_on : (n : Inputs) (e : ℕ) (p : ℕ → ℕ) (stands : ℕ → ℕ → ℕ → Type 0) (b a v : ℕ) (row row' row'' : List ℕ) → IsSolvable n → Passes n stands → IsMoving n e p stands b a 0 row → a < n.shape.arms → b < n.shape.destinations →
    v ≡ sunk n e p a b → ((j : ℕ) → part n a b j ≡ 0) →
    row' ≡ set row (left_after_place n.shape a b) (slice_index row (left_after_place n.shape a b) + v) →
    row'' ≡ set row' (arrived_after_place n.shape) (slice_index row' (arrived_after_place n.shape) + v) → IsMoving n e p stands b (a + 1) 0 row''
sunk_on n e p stands b a v row row' row'' s passes h al bl is none er er' =
    let at : ℕ = left_after_place n.shape a b in
    let end : ℕ = arrived_after_place n.shape in
    let x : ℕ = slice_index row at + v in
    let y : ℕ = slice_index row' end + v in
    let low : at < n.shape.arms * n.shape.destinations = left_low n a b al bl in
    let wide : length row' ≡ counts_width n.shape = ap length er ∙ (length-set row at x ∙ h.width) in
    let other : (q : ℕ) → q ≢ at → q ≢ end → slice_index row'' q ≡ slice_index row q = λ q ne ne'.
    ap (λ z. slice_index z q) er' ∙ (get_or-set_other row' end q y 0 ne' ∙ (ap (λ z. slice_index z q) er ∙ get_or-set_other row at q x 0 ne)) in
    let here : slice_index row'' at ≡ x =
    ap (λ z. slice_index z at) er' ∙ (get_or-set_other row' end at y 0 (omega arith) ∙ (ap (λ z. slice_index z at) er ∙ get_or-set_same row at x 0 (omega (arith, h.width)))) in
    let there : slice_index row'' end ≡ y = ap (λ z. slice_index z end) er' ∙ get_or-set_same row' end y 0 (omega (arith, wide)) in
    let was : slice_index row at ≡ left n a b = h.left_rest a b al bl (omega arith) in
    let had : slice_index row' end ≡ slice_index row end = ap (λ z. slice_index z end) er ∙ get_or-set_other row at end x 0 (omega arith) in
    let nothing : sum_below n.shape.outs (λ j. moved n e p a b j) ≡ 0 = sum_below-zero n.shape.outs (λ j. moved n e p a b j) (λ j jl. moved_none n e p a b j (none j)) in
    let past : IsMoving n e p stands b a n.shape.outs row = entered_past n e p stands b a 0 n.shape.outs row s passes h bl (omega arith) (omega arith) (λ j _ _. none j) in
    let arms : n.shape.arms ≤ 5 = s.few_arms in
    let outs : n.shape.outs ≤ 4 = s.few_outs in
    record {
      width = ap length er' ∙ (length-set row' end y ∙ wide);
      left_done = λ i d il dl less. elim (pair_cases b a d i (omega arith) (omega arith) less) [
        | inl before ↦ other (left_after_place n.shape i d) (places_differ n.shape.destinations i d a b dl bl (λ one two. absurd (omega arith))) (omega (arith, left_low n i d il dl)) ∙ h.left_done i d il dl before
        | inr same ↦
            let P : ℕ → Type 0 = λ z. slice_index row'' (left_after_place n.shape z d) ≡ left n z d + gone n e p z d in
            let Q : ℕ → Type 0 = λ z. slice_index row'' (left_after_place n.shape a z) ≡ left n a z + gone n e p a z in
            subst P (sym same.0) (subst Q (sym same.1) (omega arith))
      ];
      left_rest = λ i d il dl more. other (left_after_place n.shape i d) (places_differ n.shape.destinations i d a b dl bl (λ one two. absurd (omega arith))) (omega (arith, left_low n i d il dl)) ∙ h.left_rest i d il dl (omega arith);
      entered_done = λ j d jl dl less. other (entered_after_place n.shape j d) (omega arith) (omega (arith, entered_low n j d jl dl)) ∙ h.entered_done j d jl dl less;
      entered_here = λ j jl _ less. absurd (omega arith);
      entered_there = λ j jl _ more. other (entered_after_place n.shape j b) (omega arith) (omega (arith, entered_low n j b jl bl)) ∙ omega (arith, past.entered_here j jl bl jl, sum_below_more (λ i. moved n e p i b j) a);
      entered_rest = λ j d jl dl more. other (entered_after_place n.shape j d) (omega arith) (omega (arith, entered_low n j d jl dl)) ∙ h.entered_rest j d jl dl more;
      arrived = omega (arith, there, had, h.arrived, sum_below_more (λ i. sunk n e p i b) a);
      turns_done = λ i j il jl less. past.turns_done i j il jl (omega arith);
      turns_rest = λ i j il jl more. h.turns_rest i j il jl (omega arith);
    }

-- ---- an arm sends nothing

pub nothing_on : (n : Inputs) (e : ℕ) (p : ℕ → ℕ) (stands : ℕ → ℕ → ℕ → Type 0) (b a : ℕ) (row : List ℕ) → IsSolvable n → Passes n stands → IsMoving n e p stands b a 0 row → a < n.shape.arms → b < n.shape.destinations →
    sunk n e p a b ≡ 0 → ((j : ℕ) → part n a b j ≡ 0) → IsMoving n e p stands b (a + 1) 0 row
nothing_on n e p stands b a row s passes h al bl dry none =
    let nothing : sum_below n.shape.outs (λ j. moved n e p a b j) ≡ 0 = sum_below-zero n.shape.outs (λ j. moved n e p a b j) (λ j jl. moved_none n e p a b j (none j)) in
    let past : IsMoving n e p stands b a n.shape.outs row = entered_past n e p stands b a 0 n.shape.outs row s passes h bl (omega arith) (omega arith) (λ j _ _. none j) in
    let arms : n.shape.arms ≤ 5 = s.few_arms in
    let outs : n.shape.outs ≤ 4 = s.few_outs in
    record {
      width = h.width;
      left_done = λ i d il dl less. elim (pair_cases b a d i (omega arith) (omega arith) less) [
        | inl before ↦ h.left_done i d il dl before
        | inr same ↦
            let P : ℕ → Type 0 = λ z. slice_index row (left_after_place n.shape z d) ≡ left n z d + gone n e p z d in
            let Q : ℕ → Type 0 = λ z. slice_index row (left_after_place n.shape a z) ≡ left n a z + gone n e p a z in
            subst P (sym same.0) (subst Q (sym same.1) (omega (arith, h.left_rest a b al bl (omega arith))))
      ];
      left_rest = λ i d il dl more. h.left_rest i d il dl (omega arith);
      entered_done = h.entered_done;
      entered_here = λ j jl _ less. absurd (omega arith);
      entered_there = λ j jl _ more. omega (arith, past.entered_here j jl bl jl, sum_below_more (λ i. moved n e p i b j) a);
      entered_rest = h.entered_rest;
      arrived = omega (arith, h.arrived, sum_below_more (λ i. sunk n e p i b) a);
      turns_done = λ i j il jl less. past.turns_done i j il jl (omega arith);
      turns_rest = λ i j il jl more. h.turns_rest i j il jl (omega arith);
    }

-- ---- the next destination

pub next_destination : (n : Inputs) (e : ℕ) (p : ℕ → ℕ) (stands : ℕ → ℕ → ℕ → Type 0) (b : ℕ) (row : List ℕ) → IsSolvable n → IsMoving n e p stands b n.shape.arms 0 row → IsMoving n e p stands (b + 1) 0 0 row
next_destination n e p stands b row s h =
    let arms : n.shape.arms ≤ 5 = s.few_arms in
    let outs : n.shape.outs ≤ 4 = s.few_outs in
    record {
      width = h.width;
      left_done = λ i d il dl less. h.left_done i d il dl (omega arith);
      left_rest = λ i d il dl more. h.left_rest i d il dl (omega arith);
      entered_done = λ j d jl dl less. elim (cases_eq d b) [
        | inl eq ↦
            let P : ℕ → Type 0 = λ z. slice_index row (entered_after_place n.shape j z) ≡ entered n j z + come n e p j z in
            subst P (sym eq) (h.entered_there j jl (omega arith) (omega arith))
        | inr ne ↦ h.entered_done j d jl dl (omega arith)
      ];
      entered_here = λ j jl _ less. absurd (omega arith);
      entered_there = λ j jl bl more. omega (arith, h.entered_rest j (b + 1) jl bl (omega arith));
      entered_rest = λ j d jl dl more. h.entered_rest j d jl dl (omega arith);
      arrived = omega (arith, h.arrived, sum_below_more (λ d. sum_below n.shape.arms (λ i. sunk n e p i d)) b);
      turns_done = λ i j il jl less. absurd (omega arith);
      turns_rest = λ i j il jl more. h.turns_done i j il jl (omega arith);
    }

-- ---- a destination to which nothing moves

pub nothing_by : (n : Inputs) (e : ℕ) (p : ℕ → ℕ) (stands : ℕ → ℕ → ℕ → Type 0) (b a : ℕ) (row : List ℕ) → IsSolvable n → Passes n stands → IsMoving n e p stands b 0 0 row → a ≤ n.shape.arms → b < n.shape.destinations →
    ((i : ℕ) → sunk n e p i b ≡ 0) → ((i j : ℕ) → part n i b j ≡ 0) → IsMoving n e p stands b a 0 row
nothing_by n e p stands b zero row s passes h al bl dry none = h
nothing_by n e p stands b (suc a) row s passes h al bl dry none =
    let before : IsMoving n e p stands b a 0 row = nothing_by n e p stands b a row s passes h (omega arith) bl dry none in
    let next : a + 1 ≡ suc a = omega arith in
    subst (λ (z : ℕ). IsMoving n e p stands b z 0 row) next (nothing_on n e p stands b a row s passes before (omega arith) bl (dry a) (none a))
