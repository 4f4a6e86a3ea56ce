-- Shares, found round by round.
use Rattle.std.proofs.Common.{◌≡◌, ℕ, zero, suc, ◌+◌, ◌*◌, ◌<◌, ◌≤◌, Bool, true, false, [], slice_index, arith, min, inl, inr, refl, ap, subst, ◌∙◌, cond, nat_lt}
use Rattle.std.proofs.Math.Nat.{pow-le-pow_right}
use Rattle.std.proofs.lemmas.Bool.{cases_lt}
use Rattle.ltm_units.proofs.Sums.{sum_below-zero, sum_below-most}
use Rattle.ltm_curve.specs.First.{list_below}
use Rattle.ltm_curve.proofs.Lists.{index-list_below}
use Rattle.ltm_shares.specs.Shares.{Demands, Uses}
use Rattle.ltm_shares.specs.Demands.{IsSmall}
use Rattle.ltm_shares.specs.Rounds.{weight, open_outs, open_arms, IsOpen, IsLevel, IsSound, IsTightest, Finishes}
use Rattle.ltm_shares.specs.declared.rounds.Progress.{Progress}
use Rattle.ltm_shares.proofs.Levels.{room, is_open, is_open_scaling, scaling_starts, finished}
use Rattle.ltm_shares.proofs.Steps.{IsSettlingWhole, whole_fixed, whole_skipped, IsSettlingScaled, scaled_fixed, scaled_skipped, scaled_sound, scaled_fewer, tightest_kept, tightest_taken, tightest_first, none_more}
use Rattle.ltm_loading.proofs.Picks.{pick_first, pick_second}
use Rattle.ltm_existence.specs.Existence.{HasShares, ThereAreShares}
use Rattle.ltm_existence.proofs.Fixing.{fix_at, fixes, scale_by, scales}

-- ---- the tightest out-link

-- of the first out-links, the one with the least share for a priority, unless each arm that uses one is fixed
data Best (n : Demands) (s : Progress) (m : ℕ) : Type 0 where
  nothing : ((j : ℕ) → j < m → weight n s j ≡ 0) → Best n s m
  tightest : (j y : ℕ) → IsTightest n s m j y → Best n s m

best_next : (n : Demands) (s : Progress) (m : ℕ) → Best n s m → Best n s (m + 1)
best_next n s m (nothing none) = elim (cases_lt 0 (weight n s m)) [
  | inl some ↦ tightest m (weight n s m) (tightest_first n s m (weight n s m) none some refl)
  | inr empty ↦ nothing (none_more n s m none (omega arith))
]
best_next n s m (tightest j y t) = elim (cases_lt (slice_index s.left m * y) (slice_index s.left j * weight n s m)) [
  | inl less ↦ elim (cases_lt 0 (weight n s m)) [
    | inl some ↦ tightest m (weight n s m) (tightest_taken n s m j y (weight n s m) t some refl (omega arith))
    | inr empty ↦
        let z : weight n s m ≡ 0 = omega arith in absurd (omega (arith, less, ap (λ v. slice_index s.left j * v) z))
  ]
  | inr more ↦ tightest j y (tightest_kept n s m j y t more)
]

best : (n : Demands) (s : Progress) (m : ℕ) → Best n s m
best n s zero = nothing (λ j l. absurd (omega arith))
best n s (suc m) =
    let e : m + 1 ≡ suc m = omega arith in subst (λ (k : ℕ). Best n s k) e (best_next n s m (best n s m))

-- ---- a round

-- what a round gives: fewer arms are open
record Round (n : Demands) (start : Progress) : Type 0 where
  progress : Progress
  sound : IsSound n progress
  fewer : open_arms n progress < open_arms n start

-- the first arms have been looked at, and those of the out-link that may send all are fixed at that
record Whole (n : Demands) (x y j : ℕ) (start : Progress) (arm : ℕ) : Type 0 where
  any : Bool
  progress : Progress
  settling : IsSettlingWhole n x y j start arm any progress

whole_next : (n : Demands) (x y j arm : ℕ) (start : Progress) → 0 < y → arm < n.arms → Whole n x y j start arm → Whole n x y j start (arm + 1)
whole_next n x y j arm start pos l h =
    let s : Progress = h.progress in
    let skip : (Uses n arm j → 0 < slice_index s.pending arm → x * slice_index s.pending arm ≤ s.denominator * y) → Whole n x y j start (arm + 1) =
    λ why. record { any = h.any; progress = s; settling = whole_skipped n x y j arm start s h.any h.settling why } in
    elim (cases_lt 0 (slice_index s.pending arm)) [
      | inl some ↦ elim (cases_lt (x * slice_index s.pending arm) (s.denominator * y)) [
        | inl short ↦ skip (λ used pends. omega (arith, short))
        | inr fits ↦
            let o : IsOpen n s arm = is_open n s arm h.settling.sound l some in
            record {
              any = true;
              progress = fix_at n arm s.denominator s;
              settling = whole_fixed n x y j arm start s (fix_at n arm s.denominator s) h.any h.settling pos l some fits
                  (fixes n arm s.denominator s (λ k m. room n x y s arm s.denominator k h.settling.level pos l o.pending (omega (arith, fits, ap (λ z. x * z) o.pending)) m));
            }
      ]
      | inr closed ↦ skip (λ used pends. absurd (omega arith))
    ]

level_at_start : (n : Demands) (s : Progress) (j y : ℕ) → IsSound n s → IsTightest n s n.outs j y → IsLevel n (slice_index s.left j) y s
level_at_start n s j y h tight = record {
  balance = h.balance;
  under = λ i l. omega (arith, h.ordered i j l tight.is_out, ap (λ z. slice_index s.numerators i * z) tight.is_weight);
  over = λ k m. tight.least k m;
}

whole : (n : Demands) (start : Progress) (j y arm : ℕ) → IsSound n start → IsTightest n start n.outs j y → arm ≤ n.arms → Whole n (slice_index start.left j) y j start arm
whole n start j y zero h tight l = record {
  any = false;
  progress = start;
  settling = record {
    denominator = refl;
    sound = h;
    level = level_at_start n start j y h tight;
    some = λ e. absurd (cc);
    same = λ e. refl;
    none = λ e i m. absurd (omega arith);
  };
}
whole n start j y (suc arm) h tight l =
    let e : arm + 1 ≡ suc arm = omega arith in
    subst (λ (k : ℕ). Whole n (slice_index start.left j) y j start k) e (whole_next n (slice_index start.left j) y j arm start tight.some_user (omega arith) (whole n start j y arm h tight (omega arith)))

-- no open user of the out-link may send all
abbrev NoneWhole : Demands → Progress → ℕ → ℕ → Type 0
NoneWhole n start j y = (i : ℕ) → i < n.arms → Uses n i j → 0 < slice_index start.pending i → slice_index start.left j * slice_index start.pending i ≤ start.denominator * y

-- the first arms have been looked at, and those of the out-link are fixed at what it can still give for their priority
record Scaled (n : Demands) (start : Progress) (j y arm : ℕ) : Type 0 where
  progress : Progress
  settling : IsSettlingScaled n (slice_index start.left j) y j start arm progress

scaled_next : (n : Demands) (start : Progress) (j y arm : ℕ) → IsTightest n start n.outs j y → NoneWhole n start j y → arm < n.arms → Scaled n start j y arm → Scaled n start j y (arm + 1)
scaled_next n start j y arm tight none l h =
    let s : Progress = h.progress in
    let x : ℕ = slice_index start.left j in
    let v : ℕ = x * slice_index s.pending arm in
    let skip : (Uses n arm j → slice_index s.pending arm ≡ 0) → Scaled n start j y (arm + 1) =
    λ why. record { progress = s; settling = scaled_skipped n x y j arm start s h.settling why } in
    elim (cases_lt 0 (slice_index s.pending arm)) [
      | inl some ↦ elim (cases_lt 0 (n.sending arm j)) [
        | inl used ↦
            let o : IsOpen n s arm = is_open_scaling n x j s arm h.settling.scaling l some in
            let same : slice_index s.pending arm ≡ slice_index start.pending arm = h.settling.rest arm (omega arith) in
            let most : v ≤ s.denominator = omega (arith, h.settling.denominator, none arm l used (omega arith), ap (λ z. x * z) same) in
            record {
              progress = fix_at n arm v s;
              settling = scaled_fixed n x y j arm start s (fix_at n arm v s) h.settling tight.is_out l used some most
                  (fixes n arm v s (λ k m. room n x 1 s arm v k h.settling.scaling.level (omega arith) l o.pending (omega (arith, ap (λ z. x * z) o.pending)) m));
            }
        | inr unused ↦ skip (λ used. absurd (omega arith))
      ]
      | inr closed ↦ skip (λ used. omega arith)
    ]

scaled : (n : Demands) (start : Progress) (j y arm : ℕ) → IsSound n start → IsTightest n start n.outs j y → NoneWhole n start j y → arm ≤ n.arms → Scaled n start j y arm
scaled n start j y zero h tight none l = record {
  progress = scale_by n y start;
  settling = record {
    denominator = refl;
    scaling = scaling_starts n start (scale_by n y start) j y h tight (scales n y start);
    closed = λ i m. absurd (omega arith);
    fewer = λ i. omega arith;
    rest = λ i m. refl;
  };
}
scaled n start j y (suc arm) h tight none l =
    let e : arm + 1 ≡ suc arm = omega arith in
    subst (λ (k : ℕ). Scaled n start j y k) e (scaled_next n start j y arm tight none (omega arith) (scaled n start j y arm h tight none (omega arith)))

scaled_round : (n : Demands) (start : Progress) (j y : ℕ) → IsSmall n → IsSound n start → IsTightest n start n.outs j y → NoneWhole n start j y → Round n start
scaled_round n start j y small h tight none =
    let x : ℕ = slice_index start.left j in
    let end : Scaled n start j y n.arms = scaled n start j y n.arms h tight none (omega arith) in
    record {
      progress = end.progress;
      sound = scaled_sound n x y j n.arms start end.progress small h tight end.settling (omega arith);
      fewer = scaled_fewer n x y j n.arms start end.progress tight end.settling (omega arith);
    }

-- a round fixes the users that may send all, and where there are none all users
round_by : (n : Demands) (start s : Progress) (j y : ℕ) (any : Bool) → IsSmall n → IsSound n start → IsTightest n start n.outs j y → IsSettlingWhole n (slice_index start.left j) y j start n.arms any s → Round n start
round_by n start s j y true small h tight w = record { progress = s; sound = w.sound; fewer = w.some refl }
round_by n start s j y false small h tight w = scaled_round n start j y small h tight (w.none refl)

round : (n : Demands) (start : Progress) (j y : ℕ) → IsSmall n → IsSound n start → IsTightest n start n.outs j y → Round n start
round n start j y small h tight =
    let end : Whole n (slice_index start.left j) y j start n.arms = whole n start j y n.arms h tight (omega arith) in
    round_by n start end.progress j y end.any small h tight end.settling

-- ---- the rounds

-- each arm that is still open sends all
abbrev finish : Demands → Progress → Progress
finish n s = record {
  denominator = s.denominator;
  numerators = list_below n.arms (λ i. cond (nat_lt 0 (slice_index s.pending i)) s.denominator (slice_index s.numerators i));
  pending = s.pending;
  left = s.left;
}

finishes : (n : Demands) (s : Progress) → Finishes n s (finish n s)
finishes n s =
    let f : ℕ → ℕ = λ i. cond (nat_lt 0 (slice_index s.pending i)) s.denominator (slice_index s.numerators i) in
    record {
      same_denominator = refl;
      rest = λ i l some. index-list_below n.arms f i l ∙ pick_first 0 (slice_index s.pending i) s.denominator (slice_index s.numerators i) some;
      fixed = λ i l closed. index-list_below n.arms f i l ∙ pick_second 0 (slice_index s.pending i) s.denominator (slice_index s.numerators i) (omega (arith, closed));
    }

-- the shares, in fewer rounds than this
shares_from : (rounds : ℕ) (n : Demands) (s : Progress) → IsSmall n → IsSound n s → open_arms n s < rounds → HasShares n
shares_from zero n s small h few = absurd (omega arith)
shares_from (suc rounds) n s small h few =
    elim (best n s n.outs) [
      | nothing none ↦ record {
        denominator = s.denominator;
        numerators = slice_index (finish n s).numerators;
        shares = finished n s (finish n s) small h none (finishes n s);
      }
      | tightest j y tight ↦
          let next : Round n s = round n s j y small h tight in
          shares_from rounds n next.progress small next.sound (omega (arith, next.fewer))
    ]

-- no arm is fixed
abbrev begin : Demands → Progress
begin n = record { denominator = 1; numerators = []; pending = list_below n.arms n.priority; left = list_below n.outs n.supply }

begin_sound : (n : Demands) → IsSmall n → IsSound n (begin n)
begin_sound n small =
    let s : Progress = begin n in
    let few : open_outs n s ≤ 4 = omega (arith, sum_below-most n.outs (λ j. min 1 (weight n s j)) 1 (λ k l. omega arith), small.few_outs) in
    record {
      positive = omega arith;
      within = omega (arith, pow-le-pow_right {n = 163840000} (omega arith) few);
      balance = λ j m. omega (
        arith,
        index-list_below n.outs n.supply j m,
        sum_below-zero n.arms (λ i. slice_index s.numerators i * n.sending i j) (λ i l. omega arith),
      );
      ordered = λ i j l m. omega arith;
      arms = λ i l. inl (record { pending = index-list_below n.arms n.priority i l; nothing = refl });
    }

pub there_are_shares_holds : ThereAreShares
there_are_shares_holds n small = shares_from (open_arms n (begin n) + 1) n (begin n) small (begin_sound n small) (omega arith)
