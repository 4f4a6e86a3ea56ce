use Rattle.std.specs.Prelude.{◌≡◌, ◌≢◌, ℕ, ◌+◌, ◌*◌, ◌^◌, ◌<◌, ◌≤◌, ◌⊎◌, min, slice_index}
use Rattle.ltm_units.specs.Sums.{sum_below}
use Rattle.ltm_shares.specs.Shares.{Demands, inflow, Uses}
use Rattle.ltm_shares.specs.declared.rounds.Progress.{Progress}
use Rattle.ltm_shares.specs.Demands.{greatest_weight}

-- one arm is fixed at a share, and what it sends is taken from the out-links
pub record Fixes (n : Demands) (arm share : ℕ) (old new : Progress) : Type 0 where
  pub same_denominator : new.denominator ≡ old.denominator
  pub fixed : slice_index new.numerators arm ≡ share
  pub closed : slice_index new.pending arm ≡ 0
  pub other_numerators : (k : ℕ) → k ≢ arm → slice_index new.numerators k ≡ slice_index old.numerators k
  pub other_open : (k : ℕ) → k ≢ arm → slice_index new.pending k ≡ slice_index old.pending k
  pub taken : (j : ℕ) → j < n.outs → slice_index new.left j + share * n.sending arm j ≡ slice_index old.left j

-- all is over a denominator that is y times as large
pub record Scales (n : Demands) (y : ℕ) (old new : Progress) : Type 0 where
  pub denominator : new.denominator ≡ old.denominator * y
  pub numerators : (i : ℕ) → i < n.arms → slice_index new.numerators i ≡ slice_index old.numerators i * y
  pub pending : new.pending ≡ old.pending
  pub left : (j : ℕ) → j < n.outs → slice_index new.left j ≡ slice_index old.left j * y

-- the priorities of the arms that are not fixed, as they weigh on an out-link
abbrev pub weight : Demands → Progress → ℕ → ℕ
weight n s j = inflow n (slice_index s.pending) j

-- how many out-links have a user that is not fixed
abbrev pub open_outs : Demands → Progress → ℕ
open_outs n s = sum_below n.outs (λ j. min 1 (weight n s j))

-- how many arms are not fixed
abbrev pub open_arms : Demands → Progress → ℕ
open_arms n s = sum_below n.arms (λ i. min 1 (slice_index s.pending i))

pub record IsOpen (n : Demands) (s : Progress) (i : ℕ) : Type 0 where
  pub pending : slice_index s.pending i ≡ n.priority i
  pub nothing : slice_index s.numerators i ≡ 0

-- an arm is held back by an out-link that is full and has no user to fix
pub record IsHeld (n : Demands) (s : Progress) (i j : ℕ) : Type 0 where
  pub is_out : j < n.outs
  pub uses : Uses n i j
  pub full : slice_index s.left j ≡ 0
  pub closed : weight n s j ≡ 0
  pub greatest : (k : ℕ) → k < n.arms → Uses n k j → slice_index s.numerators k * n.priority i ≤ slice_index s.numerators i * n.priority k

pub record IsFixed (n : Demands) (s : Progress) (i : ℕ) : Type 0 where
  pub closed : slice_index s.pending i ≡ 0
  pub at_most_all : slice_index s.numerators i ≤ s.denominator
  pub held : slice_index s.numerators i < s.denominator → (j : ℕ) × IsHeld n s i j

-- the greatest fraction x/y of its priority that an arm has, and the least that an out-link can
-- still give
pub record IsLevel (n : Demands) (x y : ℕ) (s : Progress) : Type 0 where
  pub balance : (j : ℕ) → j < n.outs → inflow n (slice_index s.numerators) j + slice_index s.left j ≡ n.supply j * s.denominator
  pub under : (i : ℕ) → i < n.arms → slice_index s.numerators i * y ≤ x * n.priority i
  pub over : (j : ℕ) → j < n.outs → x * weight n s j ≤ slice_index s.left j * y

pub record IsSound (n : Demands) (s : Progress) : Type 0 where
  pub positive : 0 < s.denominator
  pub within : s.denominator * greatest_weight ^ open_outs n s ≤ greatest_weight ^ 4
  pub balance : (j : ℕ) → j < n.outs → inflow n (slice_index s.numerators) j + slice_index s.left j ≡ n.supply j * s.denominator
  pub ordered : (i j : ℕ) → i < n.arms → j < n.outs → slice_index s.numerators i * weight n s j ≤ slice_index s.left j * n.priority i
  pub arms : (i : ℕ) → i < n.arms → IsOpen n s i ⊎ IsFixed n s i

-- of the first out-links, the one with the least share for a priority
pub record IsTightest (n : Demands) (s : Progress) (first j y : ℕ) : Type 0 where
  pub is_out : j < first
  pub some_user : 0 < y
  pub is_weight : y ≡ weight n s j
  pub least : (k : ℕ) → k < first → slice_index s.left j * weight n s k ≤ slice_index s.left k * y

-- an arm of the out-link that has been fixed at the level x
pub record IsAtLevel (n : Demands) (x j : ℕ) (s : Progress) (i : ℕ) : Type 0 where
  pub closed : slice_index s.pending i ≡ 0
  pub level : slice_index s.numerators i ≡ x * n.priority i
  pub at_most_all : slice_index s.numerators i ≤ s.denominator
  pub uses : Uses n i j

-- while the users of an out-link j are fixed at the level x
pub record IsScaling (n : Demands) (x j : ℕ) (s : Progress) : Type 0 where
  pub positive : 0 < s.denominator
  pub level : IsLevel n x 1 s
  pub exact : x * weight n s j ≡ slice_index s.left j
  pub arms : (i : ℕ) → i < n.arms → IsOpen n s i ⊎ (IsFixed n s i ⊎ IsAtLevel n x j s i)

-- each arm that is not fixed gets all that it sends
pub record Finishes (n : Demands) (old new : Progress) : Type 0 where
  pub same_denominator : new.denominator ≡ old.denominator
  pub rest : (i : ℕ) → i < n.arms → 0 < slice_index old.pending i → slice_index new.numerators i ≡ old.denominator
  pub fixed : (i : ℕ) → i < n.arms → slice_index old.pending i ≡ 0 → slice_index new.numerators i ≡ slice_index old.numerators i
