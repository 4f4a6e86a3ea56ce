-- Which counts a pair reads, and who sets each count.
use Rattle.std.specs.Prelude.{◌≡◌, ℕ, ◌<◌, ◌≤◌, ◌⊎◌, Some}
use Rattle.ltm_curve.specs.Counts.{Counts}
use Rattle.ltm_loading.specs.Setting.{Setting, IsSetting}
use Rattle.ltm_loading.specs.Groups.{up_of, down_of, dep_of, arr_of, groups}
use Rattle.ltm_loading.specs.Flows.{position, link_sending, origin_sending, receiving}
use Rattle.ltm_loading.specs.Pairs.{arrived_by, pair_row, count_row}
use Rattle.ltm_loading.specs.Networks.{SameNetwork, SameFor}
use Rattle.ltm_loading.specs.NextPair.{IsOf}

-- the counts that the pairs of a node read: what has entered and what has left each link at the node, what has left its
-- origin where it has one, and what has arrived at it where it is the destination
pub data Reads (s : Setting) (u g d : ℕ) : Type 0 where
  in_link_entered : (i : ℕ) → i < s.ins u → up_of (s.in_link u i) ≡ g → Reads s u g d
  in_link_left : (i : ℕ) → i < s.ins u → down_of (s.in_link u i) ≡ g → Reads s u g d
  out_link_entered : (j : ℕ) → j < s.outs u → up_of (s.out_link u j) ≡ g → Reads s u g d
  out_link_left : (j : ℕ) → j < s.outs u → down_of (s.out_link u j) ≡ g → Reads s u g d
  origin_left : 0 < s.outs u → dep_of s u ≡ g → Reads s u g d
  here_arrived : s.own u ≡ Some d → arr_of s ≡ g → Reads s u g d

-- two counts that agree at all that a pair reads, up to the pair's slot, give it the same inputs
abbrev pub InputsReadOnly : Type 0
InputsReadOnly =
    (s : Setting) (a b : Counts) (u t : ℕ) → IsSetting s → u < s.nodes →
    ((g d k : ℕ) → Reads s u g d → d < s.destinations → k ≤ t → a g d k ≡ b g d k) → pair_row s a u t ≡ pair_row s b u t

-- two settings of one network that give a pair the same numbers give it the same inputs
abbrev pub SettingReadOnly : Type 0
SettingReadOnly = (r s : Setting) (c : Counts) (u t : ℕ) → SameFor r s u t → pair_row r c u t ≡ pair_row s c u t

-- and its in-links the same positions
abbrev pub PositionReadOnly : Type 0
PositionReadOnly =
    (r s : Setting) (c : Counts) (u t i : ℕ) → SameFor r s u t → i < s.ins u → position r c (s.in_link u i) t ≡ position s c (s.in_link u i) t

-- each part of what a pair reads is the same of two settings of one network and two counts
pub record ReadsSame (r s : Setting) (a b : Counts) (u t : ℕ) : Type 0 where
  pub network : SameNetwork r s
  pub link : (i d : ℕ) → i < s.ins u → d < s.destinations → link_sending r a (s.in_link u i) t d ≡ link_sending s b (s.in_link u i) t d
  pub origin : (d : ℕ) → 0 < s.outs u → d < s.destinations → origin_sending r a u t d ≡ origin_sending s b u t d
  pub link_left : (i d : ℕ) → i < s.ins u → d < s.destinations → a (down_of (s.in_link u i)) d t ≡ b (down_of (s.in_link u i)) d t
  pub origin_left : (d : ℕ) → 0 < s.outs u → d < s.destinations → a (dep_of s u) d t ≡ b (dep_of s u) d t
  pub entered : (j d : ℕ) → j < s.outs u → d < s.destinations → a (up_of (s.out_link u j)) d t ≡ b (up_of (s.out_link u j)) d t
  pub arrived : arrived_by s a (s.own u) t ≡ arrived_by s b (s.own u) t
  pub supply : (j : ℕ) → j < s.outs u → receiving r a (s.out_link u j) t ≡ receiving s b (s.out_link u j) t
  pub link_capacity : (i : ℕ) → i < s.ins u → r.capacity (s.in_link u i) t ≡ s.capacity (s.in_link u i) t
  pub origin_capacity : r.origin_capacity ≡ s.origin_capacity
  pub weight : (d j : ℕ) → d < s.destinations → j < s.outs u → r.weight u d t j ≡ s.weight u d t j

-- inputs of which each part is the same are the same
abbrev pub InputsByParts : Type 0
InputsByParts = (r s : Setting) (a b : Counts) (u t : ℕ) → ReadsSame r s a b u t → pair_row r a u t ≡ pair_row s b u t

-- two counts that agree at a boundary in all that the pairs of a node set have the same counts of that node there
abbrev pub CountsSetOnly : Type 0
CountsSetOnly =
    (s : Setting) (a b : Counts) (u k : ℕ) → IsSetting s → u < s.nodes →
    ((g d : ℕ) → IsOf s u g d → d < s.destinations → a g d k ≡ b g d k) → count_row s a u k ≡ count_row s b u k

-- the pairs of one node set a count, and no other node's do; the origin of a node without out-links is set by none
pub record SetByOnePair : Type 0 where
  pub within : (s : Setting) (u g d : ℕ) → IsSetting s → u < s.nodes → IsOf s u g d → g < groups s
  pub one : (s : Setting) (u v g d : ℕ) → IsSetting s → u < s.nodes → v < s.nodes → IsOf s u g d → IsOf s v g d → u ≡ v
  pub some : (s : Setting) (g d : ℕ) → IsSetting s → g < groups s → d < s.destinations →
      ((u : ℕ) × (u < s.nodes) × IsOf s u g d) ⊎ ((u : ℕ) × (u < s.nodes) × (s.outs u ≡ 0) × (dep_of s u ≡ g))
