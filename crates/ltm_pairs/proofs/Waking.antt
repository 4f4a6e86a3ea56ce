-- What a commit wakes.
use Rattle.std.proofs.Common.{◌≡◌, ℕ, ◌+◌, ◌≤◌, ◌&&◌, nat_le, Bool, true, false, arith, refl, List}
use Rattle.std.specs.Prelude.{Some}
use Rattle.std.proofs.lemmas.Bool.{leb-true}
use Rattle.ltm_loading.specs.Setting.{Setting}
use Rattle.ltm_repair.specs.Desk.{Desk}
use Rattle.ltm_repair.specs.Facts.{IsSound, IsClaim}
use Rattle.ltm_repair.specs.Moves.{Sets}
use Rattle.ltm_pairs.specs.Changes.{ChangesNode}
use Rattle.ltm_pairs.specs.Readers.{ReadersAreAll, PositionsStay}
use Rattle.ltm_pairs.specs.Waking.{ReadersWake, ReadersKeepPositions}

both_true : (a b : Bool) → a && b ≡ true → a ≡ true
both_true true b h = refl
both_true false b h = cc

pub sets_change : (s : Setting) (d e : Desk) (u t : ℕ) (row : List ℕ) → IsSound s d → d.claimed u t ≡ Some row → Sets s d u t row e → ChangesNode s u (t + 1) d.counts e.counts
sets_change s d e u t row sound claimed step =
    let mine : IsClaim s d u t row = sound.claims u t row claimed in
    record { is_node = mine.is_node; some = omega arith; empty = sound.counts.empty; later = step.later; others = step.others }

pub readers_wake : ReadersAreAll → ReadersWake
readers_wake readers s d e u t row is sound claimed step = record {
  later = λ w v h. let l : t + 1 ≤ v = leb-true (t + 1) v (both_true (nat_le (t + 1) v) _ h) in omega arith;
  quiet = λ w v x l h. readers s d.counts e.counts u (t + 1) w v is (sets_change s d e u t row sound claimed step) x l h;
}

pub readers_keep_positions : PositionsStay → ReadersKeepPositions
readers_keep_positions stay s d e u t row is sound claimed step w v i x l y h =
    stay s d.counts e.counts u (t + 1) w v i is (sets_change s d e u t row sound claimed step) x l y h
