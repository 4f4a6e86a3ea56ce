-- A case with split rows keeps its links and ends.
use Rattle.std.proofs.Common.{◌≡◌, ℕ, zero, suc, ◌+◌, ◌*◌, ◌≤◌, ◌==◌, Bool, true, false, cond, List, [], ◌∷◌, length, Option, ap, arith}
use Rattle.std.specs.declared.cmp.Ordering.TheVariants.{Less, Equal, Greater}
use Rattle.std.specs.Ordering.{match_ordering}
use Rattle.std.specs.BTreeMap.{insert_entry}
use Rattle.ltm_splits.specs.declared.keys.SplitKey.{SplitKey}
use Rattle.ltm_splits.specs.Rows.{SplitRow, split_cmp, key_of, put_in}
use Rattle.ltm_make.specs.declared.branches.Branch.{Branch}
use Rattle.ltm_make.specs.declared.making.Making.{Making}
use Rattle.ltm_make.specs.Branches.{number, home_first, home_second, away_first, away_second}
use Rattle.ltm_make.specs.Splits.{weights, with_split_row, with_home, with_away, with_splits, IsLaid}

pub length_put_in : (rows : List SplitRow) (k : SplitKey) (v : List ℕ) → length (put_in rows k v) ≤ length rows + 1
length_put_in [] k v = omega arith
length_put_in (e ∷ es) k v =
    elim (split_cmp k e.0) as (λ r. length (match_ordering r ((k, v) ∷ e ∷ es) ((e.0, v) ∷ es) (e ∷ insert_entry split_cmp es k v)) ≤ length {A = SplitRow} (e ∷ es) + 1) [
      | Less ↦ omega arith
      | Equal ↦ omega arith
      | Greater ↦ let less : length (insert_entry split_cmp es k v) ≤ length es + 1 = length_put_in es k v in omega arith
    ]

row_stays_laid : (nodes width k destination : ℕ) (first : Branch) (second : Option Branch) (m : Making) → IsLaid nodes width m.scenario → IsLaid nodes width (with_split_row k destination first second m).scenario
row_stays_laid nodes width k destination first second m h = record { grid = h.grid; setup = h.setup; along = h.along; ends = h.ends }

if_laid : (nodes width : ℕ) (b : Bool) (m next : Making) → IsLaid nodes width m.scenario → IsLaid nodes width next.scenario → IsLaid nodes width (cond b m next).scenario
if_laid nodes width true m next h g = h
if_laid nodes width false m next h g = g

pub home_laid : (nodes width k : ℕ) (m : Making) → IsLaid nodes width m.scenario → IsLaid nodes width (with_home width k m).scenario
home_laid nodes width k m h =
    if_laid nodes width (k == 0) m (with_split_row k 0 (home_first width k) (home_second width k) m) h (row_stays_laid nodes width k 0 (home_first width k) (home_second width k) m h)

away_laid : (nodes width k : ℕ) (m : Making) → IsLaid nodes width m.scenario → IsLaid nodes width (with_away nodes width k m).scenario
away_laid nodes width k m h =
    if_laid nodes width (k + 1 == width) m (with_split_row k 1 (away_first width k) (away_second nodes width k) m) h (row_stays_laid nodes width k 1 (away_first width k) (away_second nodes width k) m h)

pub splits_laid : (nodes width k : ℕ) (m : Making) → IsLaid nodes width m.scenario → IsLaid nodes width (with_splits nodes width k m).scenario
splits_laid nodes width zero m h = h
splits_laid nodes width (suc k) m h =
    away_laid nodes width k (with_home width k (with_splits nodes width k m)) (home_laid nodes width k (with_splits nodes width k m) (splits_laid nodes width k m h))

if_few : (b : Bool) (m next : Making) (n : ℕ) → length m.scenario.splits ≤ n → length next.scenario.splits ≤ n → length (cond b m next).scenario.splits ≤ n
if_few true m next n h g = h
if_few false m next n h g = g

pub few_home : (width k n : ℕ) (m : Making) → length m.scenario.splits ≤ n → length (with_home width k m).scenario.splits ≤ n + 1
few_home width k n m h =
    if_few (k == 0) m (with_split_row k 0 (home_first width k) (home_second width k) m) (n + 1) (omega arith)
    (omega (arith, length_put_in m.scenario.splits (key_of (number m.scenario.network k) 0 0) (weights m.scenario.network k (home_first width k) (home_second width k) m.words)))

few_away : (nodes width k n : ℕ) (m : Making) → length m.scenario.splits ≤ n → length (with_away nodes width k m).scenario.splits ≤ n + 1
few_away nodes width k n m h =
    if_few (k + 1 == width) m (with_split_row k 1 (away_first width k) (away_second nodes width k) m) (n + 1) (omega arith)
    (omega (arith, length_put_in m.scenario.splits (key_of (number m.scenario.network k) 1 0) (weights m.scenario.network k (away_first width k) (away_second nodes width k) m.words)))

pub few_splits : (nodes width k : ℕ) (m : Making) → m.scenario.splits ≡ [] → length (with_splits nodes width k m).scenario.splits ≤ 2 * k
few_splits nodes width zero m e = omega (arith, ap length e)
few_splits nodes width (suc k) m e =
    let a = few_splits nodes width k m e in
    let b = few_home width k (2 * k) (with_splits nodes width k m) a in
    let c = few_away nodes width k (2 * k + 1) (with_home width k (with_splits nodes width k m)) b in
    omega (arith, c)
