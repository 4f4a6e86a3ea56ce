-- Which cells change and which pairs wake where the outputs of a pair are set, told from the counts as they stand before
-- and from the index.
use Rattle.std.specs.Prelude.{◌≡◌, ℕ, ◌-◌, ◌==◌, ◌&&◌, ◌||◌, not, nat_le, Bool, true, false, Option, Some, None}
use Rattle.ltm_units.specs.Sums.{sum_below}
use Rattle.ltm_curve.specs.Counts.{Counts, total}
use Rattle.ltm_curve.specs.First.{last_within}
use Rattle.ltm_curve.specs.Cells.{cell_groups, cell_slots, is_changed, IsCell, HasCells}
use Rattle.ltm_curve.specs.declared.changed.Changed.{Changed}
use Rattle.ltm_node.specs.Outputs.{Outputs, left_after, entered_after, arrived_after}
use Rattle.ltm_loading.specs.Setting.{Setting}
use Rattle.ltm_loading.specs.Groups.{up_of, arr_of}
use Rattle.ltm_loading.specs.Pairs.{arms_of, arm_group}
use Rattle.ltm_frontier.specs.Frontier.{is_pair}
use Rattle.ltm_rows.specs.declared.rows.KeptRows.{KeptRows}
use Rattle.ltm_rows.specs.Rows.{ForgetsRow}
use Rattle.ltm_pairs.specs.Windows.{reads_ago}
use Rattle.ltm_pairs.specs.Changes.{some_below}

-- ---- what differs
-- some count of a row is another one than the group has at the boundary
abbrev pub row_differs : ℕ → Counts → ℕ → ℕ → (ℕ → ℕ) → Bool
row_differs destinations c g k row = some_below destinations (λ d. not (c g d k == row d))

abbrev pub arm_differs : Setting → Counts → ℕ → ℕ → Outputs → ℕ → Bool
arm_differs s c u k o i = row_differs s.destinations c (arm_group s u i) k (left_after o i)

abbrev pub out_differs : Setting → Counts → ℕ → ℕ → Outputs → ℕ → Bool
out_differs s c u k o j = row_differs s.destinations c (up_of (s.out_link u j)) k (entered_after o j)

-- what has arrived at a node that is a destination
abbrev pub sink_differs : Setting → Counts → Option ℕ → ℕ → ℕ → Bool
sink_differs s c None k arrived = false
sink_differs s c (Some d) k arrived = not (c (arr_of s) d k == arrived)

-- ---- which cells change: a cell is a pair of a group and a boundary
abbrev pub changes_arms : Setting → Counts → ℕ → ℕ → Outputs → ℕ → ℕ → ℕ → Bool
changes_arms s c u k o arms g b = some_below arms (λ i. arm_differs s c u k o i && is_pair (arm_group s u i) k g b)

abbrev pub changes_outs : Setting → Counts → ℕ → ℕ → Outputs → ℕ → ℕ → ℕ → Bool
changes_outs s c u k o outs g b = some_below outs (λ j. out_differs s c u k o j && is_pair (up_of (s.out_link u j)) k g b)

abbrev pub changes_sink : Setting → Counts → ℕ → ℕ → Outputs → ℕ → ℕ → Bool
changes_sink s c u k o g b = sink_differs s c (s.own u) k (arrived_after o) && is_pair (arr_of s) k g b

abbrev pub changes : Setting → Counts → ℕ → ℕ → Outputs → ℕ → ℕ → Bool
changes s c u k o g b = changes_arms s c u k o (arms_of s u) g b || (changes_outs s c u k o (s.outs u) g b || changes_sink s c u k o g b)

-- these cells are changed besides those that were, and no others
pub record PutsCells (old new : Changed) (which : ℕ → ℕ → Bool) : Type 0 where
  pub shape : HasCells new (cell_groups old) (cell_slots old)
  pub each : (g k : ℕ) → IsCell old g k → is_changed new g k ≡ (is_changed old g k || which g k)

-- ---- which pairs wake
abbrev pub is_between : ℕ → ℕ → ℕ → Bool
is_between low high n = nat_le low n && nat_le n high

-- the last boundary before k by which no more than x units had entered the link
abbrev pub last_before : Setting → Counts → ℕ → ℕ → ℕ → ℕ
last_before s c l k x = last_within (total s.destinations (c (up_of l))) x (k - 1)

-- the tail of a link, from boundary k on, where it reads k a wave time later
abbrev pub wakes_tail : Setting → ℕ → ℕ → ℕ → ℕ → Bool
wakes_tail s l k w v = nat_le k v && ((w == s.tail l) && reads_ago s.step (s.wave_time l) v k)

-- the head of a link, from boundary k on, where it reads k a free-flow time later
abbrev pub wakes_later : Setting → ℕ → ℕ → ℕ → ℕ → Bool
wakes_later s l k w v = nat_le k v && ((w == s.head l) && reads_ago s.step (s.free_time l) v k)

-- the head of a link, from boundary k on, where its place in the index lies from one boundary up to k
abbrev pub wakes_listed : Setting → (ℕ → ℕ → ℕ) → ℕ → ℕ → ℕ → ℕ → ℕ → Bool
wakes_listed s places l low k w v = nat_le k v && ((w == s.head l) && is_between low k (places l v))

-- both, where x units have now entered the link by k
abbrev pub wakes_head : Setting → Counts → (ℕ → ℕ → ℕ) → ℕ → ℕ → ℕ → ℕ → ℕ → Bool
wakes_head s c places l k x w v = wakes_later s l k w v || wakes_listed s places l (last_before s c l k x) k w v

abbrev pub wakes_tails : Setting → Counts → ℕ → ℕ → Outputs → ℕ → ℕ → ℕ → Bool
wakes_tails s c u k o ins w v = some_below ins (λ i. arm_differs s c u k o i && wakes_tail s (s.in_link u i) k w v)

abbrev pub wakes_heads : Setting → Counts → (ℕ → ℕ → ℕ) → ℕ → ℕ → Outputs → ℕ → ℕ → ℕ → Bool
wakes_heads s c places u k o outs w v =
    some_below outs (λ j. out_differs s c u k o j && wakes_head s c places (s.out_link u j) k (sum_below s.destinations (entered_after o j)) w v)

-- some count of the node differs
abbrev pub any_differs : Setting → Counts → ℕ → ℕ → Outputs → Bool
any_differs s c u k o =
    some_below (arms_of s u) (arm_differs s c u k o) || (some_below (s.outs u) (out_differs s c u k o) || sink_differs s c (s.own u) k (arrived_after o))

-- the tails and the heads
abbrev pub wakes_others : Setting → Counts → (ℕ → ℕ → ℕ) → ℕ → ℕ → Outputs → ℕ → ℕ → Bool
wakes_others s c places u k o w v = wakes_tails s c u k o (s.ins u) w v || wakes_heads s c places u k o (s.outs u) w v

-- and the node's own next slot
abbrev pub wakes : Setting → Counts → (ℕ → ℕ → ℕ) → ℕ → ℕ → Outputs → ℕ → ℕ → Bool
wakes s c places u k o w v = wakes_others s c places u k o w v || (any_differs s c u k o && is_pair u k w v)

-- ---- what is forgotten
-- what is kept of a pair is forgotten, or nothing changes
abbrev pub ForgetsIf : Bool → KeptRows → KeptRows → ℕ → ℕ → Type 0
ForgetsIf true old new u t = ForgetsRow old new u t
ForgetsIf false old new u t = new ≡ old
