-- The rows of a pair, read by place.
use Rattle.std.proofs.Common.{◌≡◌, ℕ, ◌+◌, ◌*◌, ◌/◌, ◌%◌, ◌<◌, List, ◌++◌, length, slice_index, arith, ap, ◌∙◌}
use Rattle.std.proofs.lemmas.Nat.{mul-add-lt, div-mul-add, mod-mul-add}
use Rattle.std.proofs.lemmas.List.{get_or_append_left, get_or-append-add}
use Rattle.ltm_curve.specs.Counts.{Counts}
use Rattle.ltm_curve.specs.First.{list_below}
use Rattle.ltm_curve.proofs.Lists.{length-list_below, index-list_below}
use Rattle.ltm_loading.specs.Setting.{Setting}
use Rattle.ltm_loading.specs.Groups.{up_of}
use Rattle.ltm_loading.specs.Flows.{receiving}
use Rattle.ltm_loading.specs.Pairs.{grid, pair_row, count_row, arms_of, sending, arm_group, arm_capacity, arrived_by}

pub length-grid : (h w : ℕ) (f : ℕ → ℕ → ℕ) → length (grid h w f) ≡ h * w
length-grid h w f = length-list_below (h * w) (λ k. f (k / w) (k % w))

pub index-grid : (h w : ℕ) (f : ℕ → ℕ → ℕ) (i k : ℕ) → i < h → k < w → slice_index (grid h w f) (i * w + k) ≡ f i k
index-grid h w f i k l m =
    let place : i * w + k < h * w = omega (arith, mul-add-lt i w k h l m) in
    let row : (i * w + k) / w ≡ i = div-mul-add i w k m in
    let column : (i * w + k) % w ≡ k = mod-mul-add i w k m in
    index-list_below (h * w) (λ z. f (z / w) (z % w)) (i * w + k) place
    ∙ (ap (λ (z : ℕ). f z ((i * w + k) % w)) row ∙ ap (λ (z : ℕ). f i z) column)

-- a place in the first list, and one behind it
pub at_first : (xs ys : List ℕ) (k : ℕ) → k < length xs → slice_index (xs ++ ys) k ≡ slice_index xs k
at_first xs ys k l = get_or_append_left xs ys 0 k l

pub behind : (xs ys : List ℕ) (k m : ℕ) → k ≡ length xs + m → slice_index (xs ++ ys) k ≡ slice_index ys m
behind xs ys k m e = ap (λ (z : ℕ). slice_index (xs ++ ys) z) e ∙ get_or-append-add xs ys m 0

-- the parts of a row of inputs, of a arms, o out-links and m destinations
pub record HasParts (row : List ℕ) (a o m : ℕ) (send gone enter : ℕ → ℕ → ℕ) (come : ℕ) (get cap : ℕ → ℕ) (weigh : ℕ → ℕ → ℕ) : Type 0 where
  pub sending : (i d : ℕ) → i < a → d < m → slice_index row (i * m + d) ≡ send i d
  pub left : (i d : ℕ) → i < a → d < m → slice_index row (a * m + (i * m + d)) ≡ gone i d
  pub entered : (j d : ℕ) → j < o → d < m → slice_index row (2 * (a * m) + (j * m + d)) ≡ enter j d
  pub arrived : slice_index row (2 * (a * m) + o * m) ≡ come
  pub supply : (j : ℕ) → j < o → slice_index row (2 * (a * m) + o * m + 1 + j) ≡ get j
  pub capacity : (i : ℕ) → i < a → slice_index row (2 * (a * m) + o * m + 1 + o + i) ≡ cap i
  pub weight : (d j : ℕ) → d < m → j < o → slice_index row (2 * (a * m) + o * m + 1 + o + a + d * o + j) ≡ weigh d j

abbrev pub joined : (a o m : ℕ) (send left enter : ℕ → ℕ → ℕ) (come : ℕ) (get cap : ℕ → ℕ) (weigh : ℕ → ℕ → ℕ) → List ℕ
joined a o m send left enter come get cap weigh =
    grid a m send ++ (grid a m left ++ (grid o m enter ++ (list_below 1 (λ k. come) ++ (list_below o get ++ (list_below a cap ++ grid m o weigh)))))

pub has_parts : (a o m : ℕ) (send left enter : ℕ → ℕ → ℕ) (come : ℕ) (get cap : ℕ → ℕ) (weigh : ℕ → ℕ → ℕ) → HasParts (joined a o m send left enter come get cap weigh) a o m send left enter come get cap weigh
has_parts a o m send left enter come get cap weigh =
    let p1 : List ℕ = grid a m send in
    let p2 : List ℕ = grid a m left in
    let p3 : List ℕ = grid o m enter in
    let p4 : List ℕ = list_below 1 (λ k. come) in
    let p5 : List ℕ = list_below o get in
    let p6 : List ℕ = list_below a cap in
    let p7 : List ℕ = grid m o weigh in
    let r6 : List ℕ = p6 ++ p7 in
    let r5 : List ℕ = p5 ++ r6 in
    let r4 : List ℕ = p4 ++ r5 in
    let r3 : List ℕ = p3 ++ r4 in
    let r2 : List ℕ = p2 ++ r3 in
    let n1 : length (grid a m send) ≡ a * m = length-grid a m send in
    let n2 : length (grid a m left) ≡ a * m = length-grid a m left in
    let n3 : length (grid o m enter) ≡ o * m = length-grid o m enter in
    let n4 : length (list_below 1 (λ k. come)) ≡ 1 = length-list_below 1 (λ k. come) in
    let n5 : length (list_below o get) ≡ o = length-list_below o get in
    let n6 : length (list_below a cap) ≡ a = length-list_below a cap in
    record {
      sending = λ i d l x.
          let at : i * m + d < a * m = omega (arith, mul-add-lt i m d a l x) in at_first p1 r2 (i * m + d) (omega arith) ∙ index-grid a m send i d l x;
      left = λ i d l x.
          let at : i * m + d < a * m = omega (arith, mul-add-lt i m d a l x) in
          behind p1 r2 (a * m + (i * m + d)) (i * m + d) (omega arith) ∙ (at_first p2 r3 (i * m + d) (omega arith) ∙ index-grid a m left i d l x);
      entered = λ j d l x.
          let at : j * m + d < o * m = omega (arith, mul-add-lt j m d o l x) in
          behind p1 r2 (2 * (a * m) + (j * m + d)) (a * m + j * m + d) (omega arith)
          ∙ (behind p2 r3 (a * m + j * m + d) (j * m + d) (omega arith) ∙ (at_first p3 r4 (j * m + d) (omega arith) ∙ index-grid o m enter j d l x));
      arrived =
          behind p1 r2 (2 * (a * m) + o * m) (a * m + o * m) (omega arith)
          ∙ (behind p2 r3 (a * m + o * m) (o * m) (omega arith) ∙ behind p3 r4 (o * m) 0 (omega arith));
      supply = λ j l.
          behind p1 r2 (2 * (a * m) + o * m + 1 + j) (a * m + o * m + 1 + j) (omega arith)
          ∙ (behind p2 r3 (a * m + o * m + 1 + j) (o * m + 1 + j) (omega arith)
          ∙ (behind p3 r4 (o * m + 1 + j) (1 + j) (omega arith)
          ∙ (behind p4 r5 (1 + j) j (omega arith) ∙ (at_first p5 r6 j (omega arith) ∙ index-list_below o get j l))));
      capacity = λ i l.
          behind p1 r2 (2 * (a * m) + o * m + 1 + o + i) (a * m + o * m + 1 + o + i) (omega arith)
          ∙ (behind p2 r3 (a * m + o * m + 1 + o + i) (o * m + 1 + o + i) (omega arith)
          ∙ (behind p3 r4 (o * m + 1 + o + i) (1 + o + i) (omega arith)
          ∙ (behind p4 r5 (1 + o + i) (o + i) (omega arith)
          ∙ (behind p5 r6 (o + i) i (omega arith) ∙ (at_first p6 p7 i (omega arith) ∙ index-list_below a cap i l)))));
      weight = λ d j l x.
          let at : d * o + j < m * o = omega (arith, mul-add-lt d o j m l x) in
          behind p1 r2 (2 * (a * m) + o * m + 1 + o + a + d * o + j) (a * m + o * m + 1 + o + a + d * o + j) (omega arith)
          ∙ (behind p2 r3 (a * m + o * m + 1 + o + a + d * o + j) (o * m + 1 + o + a + d * o + j) (omega arith)
          ∙ (behind p3 r4 (o * m + 1 + o + a + d * o + j) (1 + o + a + d * o + j) (omega arith)
          ∙ (behind p4 r5 (1 + o + a + d * o + j) (o + a + d * o + j) (omega arith)
          ∙ (behind p5 r6 (o + a + d * o + j) (a + d * o + j) (omega arith)
          ∙ (behind p6 p7 (a + d * o + j) (d * o + j) (omega arith) ∙ index-grid m o weigh d j l x)))));
    }

-- the inputs of a pair by place
pub pair_parts : (s : Setting) (c : Counts) (u t : ℕ) → HasParts (pair_row s c u t) (arms_of s u) (s.outs u) s.destinations (sending s c u t) (λ i d. c (arm_group s u i) d t) (λ j d. c (up_of (s.out_link u j)) d t) (arrived_by s c (s.own u) t) (λ j. receiving s c (s.out_link u j) t) (arm_capacity s u t) (λ d j. s.weight u d t j)
pair_parts s c u t = has_parts (arms_of s u) (s.outs u) s.destinations (sending s c u t) (λ i d. c (arm_group s u i) d t) (λ j d. c (up_of (s.out_link u j)) d t) (arrived_by s c (s.own u) t) (λ j. receiving s c (s.out_link u j) t) (arm_capacity s u t) (λ d j. s.weight u d t j)

-- the counts that a pair sets, by place
pub record HasCounts (row : List ℕ) (a o m : ℕ) (gone enter : ℕ → ℕ → ℕ) (come : ℕ) : Type 0 where
  pub left : (i d : ℕ) → i < a → d < m → slice_index row (i * m + d) ≡ gone i d
  pub entered : (j d : ℕ) → j < o → d < m → slice_index row (a * m + (j * m + d)) ≡ enter j d
  pub arrived : slice_index row (a * m + o * m) ≡ come

abbrev pub counted : (a o m : ℕ) (left enter : ℕ → ℕ → ℕ) (come : ℕ) → List ℕ
counted a o m left enter come = grid a m left ++ (grid o m enter ++ list_below 1 (λ k. come))

pub has_counts : (a o m : ℕ) (left enter : ℕ → ℕ → ℕ) (come : ℕ) → HasCounts (counted a o m left enter come) a o m left enter come
has_counts a o m left enter come =
    let p1 : List ℕ = grid a m left in
    let p2 : List ℕ = grid o m enter in
    let p3 : List ℕ = list_below 1 (λ k. come) in
    let r2 : List ℕ = p2 ++ p3 in
    let n1 : length (grid a m left) ≡ a * m = length-grid a m left in
    let n2 : length (grid o m enter) ≡ o * m = length-grid o m enter in
    record {
      left = λ i d l x.
          let at : i * m + d < a * m = omega (arith, mul-add-lt i m d a l x) in at_first p1 r2 (i * m + d) (omega arith) ∙ index-grid a m left i d l x;
      entered = λ j d l x.
          let at : j * m + d < o * m = omega (arith, mul-add-lt j m d o l x) in
          behind p1 r2 (a * m + (j * m + d)) (j * m + d) (omega arith) ∙ (at_first p2 p3 (j * m + d) (omega arith) ∙ index-grid o m enter j d l x);
      arrived = behind p1 r2 (a * m + o * m) (o * m) (omega arith) ∙ behind p2 p3 (o * m) 0 (omega arith);
    }

pub next_counts : (s : Setting) (c : Counts) (u k : ℕ) → HasCounts (count_row s c u k) (arms_of s u) (s.outs u) s.destinations (λ i d. c (arm_group s u i) d k) (λ j d. c (up_of (s.out_link u j)) d k) (arrived_by s c (s.own u) k)
next_counts s c u k = has_counts (arms_of s u) (s.outs u) s.destinations (λ i d. c (arm_group s u i) d k) (λ j d. c (up_of (s.out_link u j)) d k) (arrived_by s c (s.own u) k)
