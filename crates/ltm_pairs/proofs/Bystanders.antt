-- Pairs that do not read a change: what it means for each thing that they might have read.
use Rattle.std.proofs.Common.{◌≡◌, ℕ, ◌<◌, ◌≤◌, ◌==◌, ◌||◌, ◌&&◌, nat_le, Bool, true, false}
use Rattle.std.proofs.lemmas.Bool.{eq-eqb, le-leb}
use Rattle.ltm_curve.specs.Counts.{Counts}
use Rattle.ltm_loading.specs.Setting.{Setting, IsSetting}
use Rattle.ltm_loading.specs.Groups.{up_of, down_of}
use Rattle.ltm_loading.specs.Reads.{SetByOnePair}
use Rattle.ltm_pairs.specs.Windows.{reads_ago}
use Rattle.ltm_pairs.specs.Changes.{some_below, differs_at, node_differs, ChangesNode}
use Rattle.ltm_pairs.specs.Readers.{reads_first, reads_commit}
use Rattle.ltm_pairs.proofs.Bools.{or_no, and_no, none_below}

-- what it is not to be a reader, at the boundary or later
pub record IsNoReader (s : Setting) (old new : Counts) (u k w v : ℕ) : Type 0 where
  pub own : w ≡ u → v ≡ k → node_differs s old new u k ≡ false
  pub tail : (i : ℕ) → i < s.ins u → differs_at s old new (down_of (s.in_link u i)) k ≡ true → w ≡ s.tail (s.in_link u i) → reads_ago s.step (s.wave_time (s.in_link u i)) v k ≡ false
  pub ago : (j : ℕ) → j < s.outs u → differs_at s old new (up_of (s.out_link u j)) k ≡ true → w ≡ s.head (s.out_link u j) → reads_ago s.step (s.free_time (s.out_link u j)) v k ≡ false
  pub first : (j : ℕ) → j < s.outs u → differs_at s old new (up_of (s.out_link u j)) k ≡ true → w ≡ s.head (s.out_link u j) → reads_first s old new (s.out_link u j) v k ≡ false

pub no_reader : (s : Setting) (old new : Counts) (u k w v : ℕ) → k ≤ v → reads_commit s old new u k w v ≡ false → IsNoReader s old new u k w v
no_reader s old new u k w v l h =
    let A : Bool = (w == u) && ((v == k) && node_differs s old new u k) in
    let B : ℕ → Bool = λ i. differs_at s old new (down_of (s.in_link u i)) k && ((w == s.tail (s.in_link u i)) && reads_ago s.step (s.wave_time (s.in_link u i)) v k) in
    let C : ℕ → Bool = λ j. differs_at s old new (up_of (s.out_link u j)) k
    && ((w == s.head (s.out_link u j)) && (reads_ago s.step (s.free_time (s.out_link u j)) v k || reads_first s old new (s.out_link u j) v k)) in
    let three : A || (some_below (s.ins u) B || some_below (s.outs u) C) ≡ false = and_no (nat_le k v) (A || (some_below (s.ins u) B || some_below (s.outs u) C)) h (le-leb k v l) in
    let one = or_no A (some_below (s.ins u) B || some_below (s.outs u) C) three in
    let two = or_no (some_below (s.ins u) B) (some_below (s.outs u) C) one.1 in
    let either : (j : ℕ) → j < s.outs u → differs_at s old new (up_of (s.out_link u j)) k ≡ true → w ≡ s.head (s.out_link u j) →
    (reads_ago s.step (s.free_time (s.out_link u j)) v k ≡ false) × (reads_first s old new (s.out_link u j) v k ≡ false) = λ j x d e.
    let c : C j ≡ false = none_below (s.outs u) C two.1 j x in
    or_no (reads_ago s.step (s.free_time (s.out_link u j)) v k) (reads_first s old new (s.out_link u j) v k)
    (and_no (w == s.head (s.out_link u j)) (reads_ago s.step (s.free_time (s.out_link u j)) v k || reads_first s old new (s.out_link u j) v k)
    (and_no (differs_at s old new (up_of (s.out_link u j)) k) ((w == s.head (s.out_link u j)) && (reads_ago s.step (s.free_time (s.out_link u j)) v k || reads_first s old new (s.out_link u j) v k)) c d)
    (eq-eqb w (s.head (s.out_link u j)) e)) in
    record {
      own = λ e f. and_no (v == k) (node_differs s old new u k) (and_no (w == u) ((v == k) && node_differs s old new u k) one.0 (eq-eqb w u e)) (eq-eqb v k f);
      tail = λ i x d e.
          let b : B i ≡ false = none_below (s.ins u) B two.0 i x in
          and_no (w == s.tail (s.in_link u i)) (reads_ago s.step (s.wave_time (s.in_link u i)) v k)
          (and_no (differs_at s old new (down_of (s.in_link u i)) k) ((w == s.tail (s.in_link u i)) && reads_ago s.step (s.wave_time (s.in_link u i)) v k) b d)
          (eq-eqb w (s.tail (s.in_link u i)) e);
      ago = λ j x d e. (either j x d e).0;
      first = λ j x d e. (either j x d e).1;
    }

-- a pair of the setting, at the boundary or later, that does not read the change of a node; and who sets which counts
pub record IsBystander (s : Setting) (old new : Counts) (u k w v : ℕ) : Type 0 where
  pub setting : IsSetting s
  pub change : ChangesNode s u k old new
  pub is_node : w < s.nodes
  pub is_slot : v < s.slots
  pub late : k ≤ v
  pub none : IsNoReader s old new u k w v
  pub setters : SetByOnePair
