-- The steps of a round, as they change how far the shares are known.
use Rattle.std.proofs.Common.{◌≡◌, ◌≢◌, ℕ, zero, suc, ◌-◌, ◌*◌, ◌<◌, ◌≤◌, List, [], ◌∷◌, slice_index, arith, refl, ap}
use Rattle.ltm_curve.specs.First.{list_below}
use Rattle.ltm_curve.proofs.Lists.{index-list_below}
use Rattle.ltm_shares.specs.Shares.{Demands}
use Rattle.ltm_shares.specs.Rounds.{Fixes, Scales}
use Rattle.ltm_shares.specs.declared.rounds.Progress.{Progress}

-- a list with one number written, and with 0 up to it where the list is shorter
abbrev pub put : List ℕ → ℕ → ℕ → List ℕ
put [] zero v = v ∷ []
put [] (suc i) v = 0 ∷ put [] i v
put (x ∷ xs) zero v = v ∷ xs
put (x ∷ xs) (suc i) v = x ∷ put xs i v

put_same : (xs : List ℕ) (i v : ℕ) → slice_index (put xs i v) i ≡ v
put_same [] zero v = refl
put_same [] (suc i) v = put_same [] i v
put_same (x ∷ xs) zero v = refl
put_same (x ∷ xs) (suc i) v = put_same xs i v

put_other : (xs : List ℕ) (i k v : ℕ) → k ≢ i → slice_index (put xs i v) k ≡ slice_index xs k
put_other [] zero zero v ne = absurd (ne refl)
put_other [] zero (suc k) v ne = refl
put_other [] (suc i) zero v ne = refl
put_other [] (suc i) (suc k) v ne = put_other [] i k v (λ e. ne (ap suc e))
put_other (x ∷ xs) zero zero v ne = absurd (ne refl)
put_other (x ∷ xs) zero (suc k) v ne = refl
put_other (x ∷ xs) (suc i) zero v ne = refl
put_other (x ∷ xs) (suc i) (suc k) v ne = put_other xs i k v (λ e. ne (ap suc e))

-- one arm is fixed at a share
abbrev pub fix_at : Demands → ℕ → ℕ → Progress → Progress
fix_at n arm share s = record {
  denominator = s.denominator;
  numerators = put s.numerators arm share;
  pending = put s.pending arm 0;
  left = list_below n.outs (λ j. slice_index s.left j - share * n.sending arm j);
}

pub fixes : (n : Demands) (arm share : ℕ) (s : Progress) → ((j : ℕ) → j < n.outs → share * n.sending arm j ≤ slice_index s.left j) → Fixes n arm share s (fix_at n arm share s)
fixes n arm share s room = record {
  same_denominator = refl;
  fixed = put_same s.numerators arm share;
  closed = put_same s.pending arm 0;
  other_numerators = λ k ne. put_other s.numerators arm k share ne;
  other_open = λ k ne. put_other s.pending arm k 0 ne;
  taken = λ j m. omega (arith, room j m, index-list_below n.outs (λ j. slice_index s.left j - share * n.sending arm j) j m);
}

-- all is brought over a denominator that is so many times as large
abbrev pub scale_by : Demands → ℕ → Progress → Progress
scale_by n y s = record {
  denominator = s.denominator * y;
  numerators = list_below n.arms (λ i. slice_index s.numerators i * y);
  pending = s.pending;
  left = list_below n.outs (λ j. slice_index s.left j * y);
}

pub scales : (n : Demands) (y : ℕ) (s : Progress) → Scales n y s (scale_by n y s)
scales n y s = record {
  denominator = refl;
  numerators = λ i l. index-list_below n.arms (λ i. slice_index s.numerators i * y) i l;
  pending = refl;
  left = λ j m. index-list_below n.outs (λ j. slice_index s.left j * y) j m;
}
