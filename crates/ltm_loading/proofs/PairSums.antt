-- Sums over pairs.
use Rattle.std.proofs.Common.{◌≡◌, ℕ, zero, suc, ◌+◌, ◌*◌, ◌<◌, ◌≤◌, arith, inl, inr, ap, sym}
use Rattle.std.proofs.lemmas.Bool.{cases_lt}
use Rattle.ltm_units.specs.Sums.{sum_below}
use Rattle.ltm_units.proofs.Sums.{sum_below-le, sum_below-same, sum_below-change, sum_below-lt, le-sum_below, sum_below-plus, sum_below-zero, sum_below-most}
use Rattle.ltm_loading.specs.Differing.{sum_pairs}

-- a sum over more terms, of which the first are at most those of two sums
sum_below-grows : (n m : ℕ) (f g h : ℕ → ℕ) → n ≤ m → ((k : ℕ) → k < n → f k ≤ g k + h k) → ((k : ℕ) → n ≤ k → k < m → f k ≤ h k) →
    sum_below m f ≤ sum_below n g + sum_below m h
sum_below-grows n zero f g h l first second = let z : n ≡ 0 = omega arith in omega arith
sum_below-grows n (suc m) f g h l first second =
    elim (cases_lt m n) [
      | inl past ↦
          let at : n ≡ suc m = omega arith in
          let e : sum_below n g ≡ sum_below (suc m) g = ap (λ k. sum_below k g) at in
          let below : sum_below m f ≤ sum_below m g + sum_below m h =
          sum_below-grows m m f g h (omega arith) (λ k low. first k (omega arith)) (λ k low high. absurd (omega arith)) in
          let top : f m ≤ g m + h m = first m past in omega arith
      | inr low ↦
          let below : sum_below m f ≤ sum_below n g + sum_below m h = sum_below-grows n m f g h low first (λ k a b. second k a (omega arith)) in
          let top : f m ≤ h m = second m low (omega arith) in omega arith
    ]

pub sum_pairs-le : (nodes slots : ℕ) (f g : ℕ → ℕ → ℕ) → ((u t : ℕ) → u < nodes → t < slots → f u t ≤ g u t) → sum_pairs nodes slots f ≤ sum_pairs nodes slots g
sum_pairs-le nodes slots f g h =
    sum_below-le nodes (λ u. sum_below slots (f u)) (λ u. sum_below slots (g u)) (λ u node. sum_below-le slots (f u) (g u) (λ t slot. h u t node slot))

pub sum_pairs-same : (nodes slots : ℕ) (f g : ℕ → ℕ → ℕ) → ((u t : ℕ) → u < nodes → t < slots → f u t ≡ g u t) → sum_pairs nodes slots f ≡ sum_pairs nodes slots g
sum_pairs-same nodes slots f g h =
    sum_below-same nodes (λ u. sum_below slots (f u)) (λ u. sum_below slots (g u)) (λ u node. sum_below-same slots (f u) (g u) (λ t slot. h u t node slot))

pub sum_pairs-none : (nodes slots : ℕ) (f : ℕ → ℕ → ℕ) → ((u t : ℕ) → u < nodes → t < slots → f u t ≡ 0) → sum_pairs nodes slots f ≡ 0
sum_pairs-none nodes slots f h =
    sum_below-zero nodes (λ u. sum_below slots (f u)) (λ u node. sum_below-zero slots (f u) (λ t slot. h u t node slot))

-- two sums over pairs whose terms differ at one pair alone
pub sum_pairs-change : (nodes slots : ℕ) (f g : ℕ → ℕ → ℕ) (u t : ℕ) → u < nodes → t < slots →
    ((w v : ℕ) → w < nodes → v < slots → (u ≡ w → t ≡ v → ⊥) → f w v ≡ g w v) → sum_pairs nodes slots f + g u t ≡ sum_pairs nodes slots g + f u t
sum_pairs-change nodes slots f g u t node slot h =
    let F : ℕ → ℕ = λ w. sum_below slots (f w) in
    let G : ℕ → ℕ = λ w. sum_below slots (g w) in
    let outer : sum_below nodes F + G u ≡ sum_below nodes G + F u =
    sum_below-change nodes F G u node (λ w low ne. sum_below-same slots (f w) (g w) (λ v there. h w v low there (λ p q. ne (sym p)))) in
    let inner : F u + g u t ≡ G u + f u t =
    sum_below-change slots (f u) (g u) t slot (λ v low ne. h u v node low (λ p q. ne (sym q))) in
    omega arith

pub sum_pairs-grows : (nodes n m : ℕ) (f g h : ℕ → ℕ → ℕ) → n ≤ m → ((u t : ℕ) → u < nodes → t < n → f u t ≤ g u t + h u t) →
    ((u t : ℕ) → u < nodes → n ≤ t → t < m → f u t ≤ h u t) → sum_pairs nodes m f ≤ sum_pairs nodes n g + sum_pairs nodes m h
sum_pairs-grows nodes n m f g h l first second =
    let G : ℕ → ℕ = λ u. sum_below n (g u) in
    let H : ℕ → ℕ = λ u. sum_below m (h u) in
    let each : sum_pairs nodes m f ≤ sum_below nodes (λ u. G u + H u) =
    sum_below-le nodes (λ u. sum_below m (f u)) (λ u. G u + H u) (λ u node. sum_below-grows n m (f u) (g u) (h u) l (λ t low. first u t node low) (λ t low high. second u t node low high)) in
    let apart : sum_below nodes (λ u. G u + H u) ≡ sum_below nodes G + sum_below nodes H = sum_below-plus nodes G H in
    omega arith

pub sum_pairs-lt : (nodes slots : ℕ) (f g : ℕ → ℕ → ℕ) (u t : ℕ) → u < nodes → t < slots → ((w v : ℕ) → w < nodes → v < slots → f w v ≤ g w v) → f u t < g u t →
    sum_pairs nodes slots f < sum_pairs nodes slots g
sum_pairs-lt nodes slots f g u t node slot h less =
    sum_below-lt nodes (λ w. sum_below slots (f w)) (λ w. sum_below slots (g w)) u node
    (λ w low. sum_below-le slots (f w) (g w) (λ v there. h w v low there))
    (sum_below-lt slots (f u) (g u) t slot (λ v there. h u v node there) less)

pub le-sum_pairs : (nodes slots : ℕ) (f : ℕ → ℕ → ℕ) (u t : ℕ) → u < nodes → t < slots → f u t ≤ sum_pairs nodes slots f
le-sum_pairs nodes slots f u t node slot =
    let inner : f u t ≤ sum_below slots (f u) = le-sum_below slots (f u) t slot in
    let outer : sum_below slots (f u) ≤ sum_below nodes (λ w. sum_below slots (f w)) = le-sum_below nodes (λ w. sum_below slots (f w)) u node in
    omega arith

pub sum_pairs-most : (nodes slots : ℕ) (f : ℕ → ℕ → ℕ) → ((u t : ℕ) → f u t ≤ 1) → sum_pairs nodes slots f ≤ nodes * slots
sum_pairs-most nodes slots f h =
    sum_below-most nodes (λ u. sum_below slots (f u)) slots
    (λ u low. let s : sum_below slots (f u) ≤ slots * 1 = sum_below-most slots (f u) 1 (λ t there. h u t) in omega arith)
