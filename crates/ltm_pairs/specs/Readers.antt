-- Which pairs read what a commit changed, exactly.
use Rattle.std.specs.Prelude.{◌≡◌, ℕ, ◌-◌, ◌<◌, ◌==◌, ◌&&◌, ◌||◌, Bool, false, nat_le}
use Rattle.ltm_curve.specs.Counts.{Counts, total}
use Rattle.ltm_curve.specs.First.{last_within}
use Rattle.ltm_loading.specs.Setting.{Setting, IsSetting}
use Rattle.ltm_loading.specs.Groups.{up_of, down_of}
use Rattle.ltm_loading.specs.Flows.{position}
use Rattle.ltm_loading.specs.Pairs.{pair_row}
use Rattle.ltm_pairs.specs.Windows.{reads_ago}
use Rattle.ltm_pairs.specs.Changes.{some_below, differs_at, node_differs, ChangesNode}

-- the last boundary before k by which no more has entered the link than by k
abbrev pub position_before : Setting → Counts → ℕ → ℕ → ℕ
position_before s c l k = last_within (total s.destinations (c (up_of l))) (total s.destinations (c (up_of l)) k) (k - 1)

-- the position of the slot before the commit lies from that boundary up to k: there the new count of k may be read, or
-- may move the position. (Of which destinations the first units are is read at the position and at the boundary behind it.)
abbrev pub reads_first : Setting → Counts → Counts → ℕ → ℕ → ℕ → Bool
reads_first s old new l slot k = nat_le (position_before s new l k) (position s old l slot) && nat_le (position s old l slot) k

-- the next pair of the node reads the node's own counts at k, of which some differs
abbrev pub reads_own : Setting → Counts → Counts → ℕ → ℕ → ℕ → ℕ → Bool
reads_own s old new u k w v = (w == u) && ((v == k) && node_differs s old new u k)

-- the tail of an in-link reads what had left the link a wave time ago, which differs at k
abbrev pub reads_left : Setting → Counts → Counts → ℕ → ℕ → ℕ → ℕ → Bool
reads_left s old new u k w v =
    some_below (s.ins u) (λ i. differs_at s old new (down_of (s.in_link u i)) k
    && ((w == s.tail (s.in_link u i)) && reads_ago s.step (s.wave_time (s.in_link u i)) v k))

-- the head of an out-link reads what had entered the link a free-flow time ago, or of which destinations the first units
-- are, and what entered differs at k
abbrev pub reads_entered : Setting → Counts → Counts → ℕ → ℕ → ℕ → ℕ → Bool
reads_entered s old new u k w v =
    some_below (s.outs u) (λ j. differs_at s old new (up_of (s.out_link u j)) k
    && ((w == s.head (s.out_link u j)) && (reads_ago s.step (s.free_time (s.out_link u j)) v k || reads_first s old new (s.out_link u j) v k)))

-- the pair (w, v) is of boundary k or later, and reads a count of k that the commit of a pair of node u changed
abbrev pub reads_commit : Setting → Counts → Counts → ℕ → ℕ → ℕ → ℕ → Bool
reads_commit s old new u k w v =
    nat_le k v && (reads_own s old new u k w v || (reads_left s old new u k w v || reads_entered s old new u k w v))

-- a pair that is no reader of the commit reads the same as before
abbrev pub ReadersAreAll : Type 0
ReadersAreAll =
    (s : Setting) (old new : Counts) (u k w v : ℕ) → IsSetting s → ChangesNode s u k old new → w < s.nodes → v < s.slots →
    reads_commit s old new u k w v ≡ false → pair_row s new w v ≡ pair_row s old w v

-- and the positions of its slot for its in-links stay
abbrev pub PositionsStay : Type 0
PositionsStay =
    (s : Setting) (old new : Counts) (u k w v i : ℕ) → IsSetting s → ChangesNode s u k old new → w < s.nodes → v < s.slots → i < s.ins w →
    reads_commit s old new u k w v ≡ false → position s new (s.in_link w i) v ≡ position s old (s.in_link w i) v
