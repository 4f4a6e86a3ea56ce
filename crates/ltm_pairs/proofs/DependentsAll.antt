-- A pair that does not depend on what a commit changed reads the same as before.
use Rattle.std.proofs.Common.{◌≡◌, ℕ, zero, suc, ◌<◌, ◌==◌, ◌||◌, ◌&&◌, nat_le, Bool, true, false, arith, refl, subst}
use Rattle.ltm_curve.specs.Counts.{Counts}
use Rattle.ltm_loading.specs.Setting.{Setting}
use Rattle.ltm_loading.specs.Groups.{up_of, down_of, dep_of}
use Rattle.ltm_loading.specs.Pairs.{arm_group}
use Rattle.ltm_loading.proofs.Picks.{pick_first}
use Rattle.ltm_pairs.specs.Windows.{reads_ago}
use Rattle.ltm_pairs.specs.Changes.{some_below, differs_at, node_differs}
use Rattle.ltm_pairs.specs.Readers.{reads_first, reads_commit, ReadersAreAll}
use Rattle.ltm_pairs.specs.declared.arm_set.ArmSet.{ArmSet}
use Rattle.ltm_pairs.specs.Dependents.{has_place, AreChanged, depends, DependentsAreAll}
use Rattle.ltm_pairs.proofs.Bools.{or_no}

-- where each number that passes the second test passes the first, and none passes the first, none passes the second
none_too : (n : ℕ) (f g : ℕ → Bool) → ((k : ℕ) → k < n → f k ≡ false → g k ≡ false) → some_below n f ≡ false → some_below n g ≡ false
none_too zero f g h none = refl
none_too (suc n) f g h none =
    let both = or_no (some_below n f) (f n) none in
    rw (none_too n f g (λ k l. h k (omega arith)) both.0, h n (omega arith) both.1) refl

and_less : (a b c d : Bool) → (a ≡ false → b ≡ false) → (c ≡ false → d ≡ false) → a && c ≡ false → b && d ≡ false
and_less true true c d f g h = g h
and_less true false c d f g h = refl
and_less false b c d f g h = rw (f refl) refl

or_less : (a b c d : Bool) → (a ≡ false → b ≡ false) → (c ≡ false → d ≡ false) → a || c ≡ false → b || d ≡ false
or_less a b c d f g h = let both = or_no a c h in rw (f both.0, g both.1) refl

no_and : (a b : Bool) → a ≡ false → a && b ≡ false
no_and false b h = refl
no_and true b h = cc

fewer : (s : Setting) (old new : Counts) (u k w v : ℕ) (changed : ArmSet) → AreChanged s u k changed old new → depends s u k changed w v ≡ false → reads_commit s old new u k w v ≡ false
fewer s old new u k w v changed are h =
    let A : Bool = (w == u) && (v == k) in
    let A' : Bool = (w == u) && ((v == k) && node_differs s old new u k) in
    let B : ℕ → Bool = λ i. has_place changed.arms i && ((w == s.tail (s.in_link u i)) && reads_ago s.step (s.wave_time (s.in_link u i)) v k) in
    let B' : ℕ → Bool = λ i. differs_at s old new (down_of (s.in_link u i)) k && ((w == s.tail (s.in_link u i)) && reads_ago s.step (s.wave_time (s.in_link u i)) v k) in
    let C : ℕ → Bool = λ j. has_place changed.outs j && (w == s.head (s.out_link u j)) in
    let C' : ℕ → Bool = λ j. differs_at s old new (up_of (s.out_link u j)) k
    && ((w == s.head (s.out_link u j)) && (reads_ago s.step (s.free_time (s.out_link u j)) v k || reads_first s old new (s.out_link u j) v k)) in
    let b_less : some_below (s.ins u) B ≡ false → some_below (s.ins u) B' ≡ false = none_too (s.ins u) B B' (λ i x.
    let at : arm_group s u i ≡ down_of (s.in_link u i) = pick_first i (s.ins u) (down_of (s.in_link u i)) (dep_of s u) x in
    and_less (has_place changed.arms i) (differs_at s old new (down_of (s.in_link u i)) k)
    ((w == s.tail (s.in_link u i)) && reads_ago s.step (s.wave_time (s.in_link u i)) v k) ((w == s.tail (s.in_link u i)) && reads_ago s.step (s.wave_time (s.in_link u i)) v k)
    (λ e. subst (λ (g : ℕ). differs_at s old new g k ≡ false) at (are.arms i (omega (x, arith)) e)) (λ e. e)) in
    let c_less : some_below (s.outs u) C ≡ false → some_below (s.outs u) C' ≡ false = none_too (s.outs u) C C' (λ j x.
    and_less (has_place changed.outs j) (differs_at s old new (up_of (s.out_link u j)) k) (w == s.head (s.out_link u j))
    ((w == s.head (s.out_link u j)) && (reads_ago s.step (s.free_time (s.out_link u j)) v k || reads_first s old new (s.out_link u j) v k))
    (are.outs j x) (λ e. no_and (w == s.head (s.out_link u j)) (reads_ago s.step (s.free_time (s.out_link u j)) v k || reads_first s old new (s.out_link u j) v k) e)) in
    let a_less : A ≡ false → A' ≡ false = and_less (w == u) (w == u) (v == k) ((v == k) && node_differs s old new u k) (λ e. e) (no_and (v == k) (node_differs s old new u k)) in
    and_less (nat_le k v) (nat_le k v) (A || (some_below (s.ins u) B || some_below (s.outs u) C)) (A' || (some_below (s.ins u) B' || some_below (s.outs u) C')) (λ e. e)
    (or_less A A' (some_below (s.ins u) B || some_below (s.outs u) C) (some_below (s.ins u) B' || some_below (s.outs u) C') a_less
    (or_less (some_below (s.ins u) B) (some_below (s.ins u) B') (some_below (s.outs u) C) (some_below (s.outs u) C') b_less c_less)) h

pub dependents_are_all : ReadersAreAll → DependentsAreAll
dependents_are_all readers s old new u k w v changed is change are y l h = readers s old new u k w v is change y l (fewer s old new u k w v changed are h)
