use Rattle.std.proofs.Common.{◌≡◌, ℕ, zero, suc, ◌+◌, ◌*◌, ◌^◌, ◌<◌, ◌≤◌, Bool, true, false, arith, inl, inr, refl, ap, subst, min, ◌∙◌, slice_index, Option, Some, None, MatchOption, [], ◌∷◌}
use Rattle.std.proofs.Math.Nat.{mul-le-mul_right, mul-le-mul_left, pow-le-pow_right, pow-suc}
use Rattle.std.proofs.lemmas.Bool.{cases_lt, cases_eq}
use Rattle.ltm_shares.specs.Shares.{Demands, Uses}
use Rattle.ltm_shares.specs.Demands.{IsSmall}
use Rattle.ltm_shares.specs.Rounds.{Fixes, weight, open_outs, open_arms, IsLevel, IsSound, IsTightest, IsScaling}
use Rattle.ltm_shares.specs.declared.rounds.Progress.{Progress}
use Rattle.ltm_units.proofs.Sums.{sum_below-le, sum_below-lt, sum_below-zero, SomeTerm, sum_below-positive, sum_below-most}
use Rattle.ltm_shares.proofs.Unique.{fraction_le_trans, below_suc}
use Rattle.ltm_shares.proofs.Levels.{fix_whole, open_arms_fall, one_more, left_small, denominator_small, weight_small, scaling_goes_on, scaling_ends}

below_next : (P : ℕ → Type 0) (n : ℕ) → ((k : ℕ) → k < n → P k) → P n → (k : ℕ) → k < n + 1 → P k
below_next P n below here k l = below_suc P n below here k (omega arith)

-- ---- the loop over the arms that may send all: what holds once `arm` arms have been looked at
pub record IsSettlingWhole (n : Demands) (x y j : ℕ) (start : Progress) (arm : ℕ) (any : Bool) (s : Progress) : Type 0 where
  pub denominator : s.denominator ≡ start.denominator
  pub sound : IsSound n s
  pub level : IsLevel n x y s
  pub some : any ≡ true → open_arms n s < open_arms n start
  pub same : any ≡ false → s ≡ start
  pub none : any ≡ false → (i : ℕ) → i < arm → Uses n i j → 0 < slice_index start.pending i → x * slice_index start.pending i ≤ start.denominator * y

-- fewer arms are open, whether or not one was fixed
at_most_start : (n : Demands) (x y j arm : ℕ) (start s : Progress) (any : Bool) → IsSettlingWhole n x y j start arm any s → open_arms n s ≤ open_arms n start
at_most_start n x y j arm start s true h = omega (arith, h.some refl)
at_most_start n x y j arm start s false h = omega (arith, ap (open_arms n) (h.same refl))

pub whole_fixed : (n : Demands) (x y j arm : ℕ) (start s t : Progress) (any : Bool) → IsSettlingWhole n x y j start arm any s → 0 < y → arm < n.arms → 0 < slice_index s.pending arm → s.denominator * y ≤ x * slice_index s.pending arm → Fixes n arm s.denominator s t →
    IsSettlingWhole n x y j start (arm + 1) true t
whole_fixed n x y j arm start s t any h pos l some fits f =
    let both : IsSound n t × IsLevel n x y t = fix_whole n x y s t arm h.sound h.level pos l some fits f in
    let fall : open_arms n t < open_arms n s = open_arms_fall n s t arm s.denominator f l some in
    let first : open_arms n s ≤ open_arms n start = at_most_start n x y j arm start s any h in
    record {
      denominator = f.same_denominator ∙ h.denominator;
      sound = both.0;
      level = both.1;
      some = λ e. omega arith;
      same = λ e. absurd (cc);
      none = λ e. absurd (cc);
    }

pub whole_skipped : (n : Demands) (x y j arm : ℕ) (start s : Progress) (any : Bool) → IsSettlingWhole n x y j start arm any s →
    (Uses n arm j → 0 < slice_index s.pending arm → x * slice_index s.pending arm ≤ s.denominator * y) →
    IsSettlingWhole n x y j start (arm + 1) any s
whole_skipped n x y j arm start s any h skip = record {
  denominator = h.denominator;
  sound = h.sound;
  level = h.level;
  some = h.some;
  same = h.same;
  none = λ e.
      let P : ℕ → Type 0 = λ i. Uses n i j → 0 < slice_index start.pending i → x * slice_index start.pending i ≤ start.denominator * y in
      let Q : Progress → Type 0 = λ z. Uses n arm j → 0 < slice_index z.pending arm → x * slice_index z.pending arm ≤ z.denominator * y in
      below_next P arm (h.none e) (subst Q (h.same e) skip);
}

-- ---- the loop over the users that are fixed at the level x
pub record IsSettlingScaled (n : Demands) (x y j : ℕ) (start : Progress) (arm : ℕ) (s : Progress) : Type 0 where
  pub denominator : s.denominator ≡ start.denominator * y
  pub scaling : IsScaling n x j s
  pub closed : (i : ℕ) → i < arm → Uses n i j → slice_index s.pending i ≡ 0
  pub fewer : (i : ℕ) → slice_index s.pending i ≤ slice_index start.pending i
  pub rest : (i : ℕ) → arm ≤ i → slice_index s.pending i ≡ slice_index start.pending i

pub scaled_fixed : (n : Demands) (x y j arm : ℕ) (start s t : Progress) → IsSettlingScaled n x y j start arm s → j < n.outs → arm < n.arms → Uses n arm j → 0 < slice_index s.pending arm →
    x * slice_index s.pending arm ≤ s.denominator → Fixes n arm (x * slice_index s.pending arm) s t →
    IsSettlingScaled n x y j start (arm + 1) t
scaled_fixed n x y j arm start s t h is_out l used some most f = record {
  denominator = f.same_denominator ∙ h.denominator;
  scaling = scaling_goes_on n x j s t arm h.scaling is_out l some used most f;
  closed = below_next (λ i. Uses n i j → slice_index t.pending i ≡ 0) arm
      (λ k m u. f.other_open k (omega arith) ∙ h.closed k m u) (λ u. f.closed);
  fewer = λ i. elim (cases_eq i arm) [
    | inl e ↦ let z : slice_index t.pending i ≡ 0 = ap (slice_index t.pending) e ∙ f.closed in omega arith
    | inr ne ↦ omega (arith, f.other_open i ne, h.fewer i)
  ];
  rest = λ i m. f.other_open i (omega arith) ∙ h.rest i (omega arith);
}

pub scaled_skipped : (n : Demands) (x y j arm : ℕ) (start s : Progress) → IsSettlingScaled n x y j start arm s → (Uses n arm j → slice_index s.pending arm ≡ 0) → IsSettlingScaled n x y j start (arm + 1) s
scaled_skipped n x y j arm start s h skip = record {
  denominator = h.denominator;
  scaling = h.scaling;
  closed = below_next (λ i. Uses n i j → slice_index s.pending i ≡ 0) arm h.closed skip;
  fewer = h.fewer;
  rest = λ i m. h.rest i (omega arith);
}

factors_positive : (a b : ℕ) → 0 < a * b → (0 < a) × (0 < b)
factors_positive a b h = (
  elim (cases_lt 0 a) [ inl some ↦ some | inr none ↦ absurd (omega (arith, mul-le-mul_right b none)) ],
  elim (cases_lt 0 b) [ inl some ↦ some | inr none ↦ absurd (omega (arith, mul-le-mul_left a none)) ],
)

-- no user of the out-link is left
pub weight_none : (n : Demands) (s : Progress) (j : ℕ) → ((i : ℕ) → i < n.arms → Uses n i j → slice_index s.pending i ≡ 0) → weight n s j ≡ 0
weight_none n s j h =
    sum_below-zero n.arms (λ i. slice_index s.pending i * n.sending i j) (λ i l. elim (cases_lt 0 (n.sending i j)) [
      | inl used ↦ omega (arith, ap (λ z. z * n.sending i j) (h i l used))
      | inr unused ↦ omega (arith, mul-le-mul_left (slice_index s.pending i) unused)
    ])

pub weight_less : (n : Demands) (s t : Progress) (k : ℕ) → ((i : ℕ) → slice_index t.pending i ≤ slice_index s.pending i) → weight n t k ≤ weight n s k
weight_less n s t k h =
    sum_below-le n.arms (λ i. slice_index t.pending i * n.sending i k) (λ i. slice_index s.pending i * n.sending i k) (λ i l. mul-le-mul_right (n.sending i k) (h i))

-- one out-link fewer pays for one more factor in the denominator
pub within_scaled : (n : Demands) (y : ℕ) (s t : Progress) (j : ℕ) → s.denominator * 163840000 ^ open_outs n s ≤ 163840000 ^ 4 → t.denominator ≡ s.denominator * y → y ≤ 163840000 → j < n.outs →
    0 < weight n s j → weight n t j ≡ 0 → ((k : ℕ) → k < n.outs → weight n t k ≤ weight n s k) → t.denominator * 163840000 ^ open_outs n t ≤ 163840000 ^ 4
within_scaled n y s t j h e small l some none less =
    let fall : open_outs n t < open_outs n s =
    sum_below-lt n.outs (λ k. min 1 (weight n t k)) (λ k. min 1 (weight n s k)) j l (λ k m. omega (arith, less k m)) (omega arith) in
    let a : ℕ = 163840000 ^ open_outs n t in
    let grows : a * 163840000 ≤ 163840000 ^ open_outs n s = omega (arith, pow-suc 163840000 (open_outs n t), pow-le-pow_right {n = 163840000} (omega arith) fall) in
    omega (arith, h, ap (λ z. z * a) e, mul-le-mul_left (s.denominator * a) small, mul-le-mul_left s.denominator grows)

pub scaled_sound : (n : Demands) (x y j arm : ℕ) (start s : Progress) → IsSmall n → IsSound n start → IsTightest n start n.outs j y → IsSettlingScaled n x y j start arm s → n.arms ≤ arm → IsSound n s
scaled_sound n x y j arm start s small sound tight h all =
    let none : weight n s j ≡ 0 = weight_none n s j (λ i l u. h.closed i (omega arith) u) in
    scaling_ends n x j s h.scaling tight.is_out none
    (within_scaled n y start s j sound.within h.denominator (omega (arith, tight.is_weight, weight_small n start j small sound tight.is_out)) tight.is_out
    (omega (arith, tight.is_weight, tight.some_user)) none (λ k m. weight_less n start s k h.fewer))

pub scaled_fewer : (n : Demands) (x y j arm : ℕ) (start s : Progress) → IsTightest n start n.outs j y → IsSettlingScaled n x y j start arm s → n.arms ≤ arm → open_arms n s < open_arms n start
scaled_fewer n x y j arm start s tight h all =
    let one : SomeTerm n.arms (λ i. slice_index start.pending i * n.sending i j) =
    sum_below-positive n.arms (λ i. slice_index start.pending i * n.sending i j) (omega (arith, tight.is_weight, tight.some_user)) in
    let both : (0 < slice_index start.pending one.index) × (0 < n.sending one.index j) = factors_positive (slice_index start.pending one.index) (n.sending one.index j) one.positive in
    sum_below-lt n.arms (λ i. min 1 (slice_index s.pending i)) (λ i. min 1 (slice_index start.pending i)) one.index one.below
    (λ k m. omega (arith, h.fewer k)) (omega (arith, h.closed one.index (omega (arith, one.below)) both.1, both.0))

-- ---- sizes in a round

pub pending_small : (n : Demands) (s : Progress) (i : ℕ) → IsSmall n → IsSound n s → i < n.arms → slice_index s.pending i ≤ 163840000
pending_small n s i small h l = elim (h.arms i l) [
  | inl o ↦ omega (arith, o.pending, small.priorities i l)
  | inr fixed ↦ omega (arith, fixed.closed)
]

pub one_more_tightest : (n : Demands) (s : Progress) (j y : ℕ) → IsSound n s → IsTightest n s n.outs j y → s.denominator * 163840000 ≤ 163840000 ^ 4
one_more_tightest n s j y h tight = one_more n s j h tight.is_out (omega (arith, tight.is_weight, tight.some_user))

pub denominator_times : (n : Demands) (s : Progress) (j y : ℕ) → IsSmall n → IsSound n s → IsTightest n s n.outs j y → s.denominator * y < 2 ^ 127
denominator_times n s j y small h tight =
    let y_small : y ≤ 163840000 = omega (arith, tight.is_weight, weight_small n s j small h tight.is_out) in
    omega (arith, one_more_tightest n s j y h tight, mul-le-mul_left s.denominator y_small)

pub left_times : (n : Demands) (s : Progress) (j y k v : ℕ) → IsSmall n → IsSound n s → IsTightest n s n.outs j y → k < n.outs → v ≤ 163840000 → slice_index s.left k * v < 2 ^ 127
left_times n s j y k v small h tight m most =
    omega (arith, one_more_tightest n s j y h tight, left_small n s k small h m, mul-le-mul_left (slice_index s.left k) most)

pub numerator_times : (n : Demands) (s : Progress) (j y i : ℕ) → IsSmall n → IsSound n s → IsTightest n s n.outs j y → i < n.arms → slice_index s.numerators i * y < 2 ^ 127
numerator_times n s j y i small h tight l =
    let most : slice_index s.numerators i ≤ s.denominator = elim (h.arms i l) [ inl o ↦ omega (arith, o.nothing) | inr fixed ↦ fixed.at_most_all ] in
    omega (arith, denominator_times n s j y small h tight, mul-le-mul_right y most)

pub tightest_small : (n : Demands) (s : Progress) (j y : ℕ) → IsSmall n → IsSound n s → IsTightest n s n.outs j y → y ≤ 163840000
tightest_small n s j y small h tight = omega (arith, tight.is_weight, weight_small n s j small h tight.is_out)

-- what is left of an out-link fits
pub left_fits : (n : Demands) (s : Progress) (j : ℕ) → IsSmall n → IsSound n s → j < n.outs → slice_index s.left j < 2 ^ 127
left_fits n s j small h m = omega (arith, left_small n s j small h m, denominator_small n s h)

pub left_fits_scaling : (n : Demands) (x y j arm : ℕ) (start s : Progress) (k : ℕ) → IsSmall n → IsSound n start → IsTightest n start n.outs j y → IsSettlingScaled n x y j start arm s → k < n.outs → slice_index s.left k < 2 ^ 127
left_fits_scaling n x y j arm start s k small sound tight h m =
    omega (
      arith,
      h.scaling.level.balance k m,
      h.denominator,
      mul-le-mul_right s.denominator (small.supplies k m),
      one_more_tightest n start j y sound tight,
      mul-le-mul_left start.denominator (tightest_small n start j y small sound tight),
    )

-- ---- the search for the tightest out-link

pub tightest_kept : (n : Demands) (s : Progress) (m j y : ℕ) → IsTightest n s m j y → slice_index s.left j * weight n s m ≤ slice_index s.left m * y → IsTightest n s (m + 1) j y
tightest_kept n s m j y h least = record {
  is_out = omega (arith, h.is_out);
  some_user = h.some_user;
  is_weight = h.is_weight;
  least = below_next (λ k. slice_index s.left j * weight n s k ≤ slice_index s.left k * y) m h.least least;
}

pub tightest_taken : (n : Demands) (s : Progress) (m j y z : ℕ) → IsTightest n s m j y → 0 < z → z ≡ weight n s m → slice_index s.left m * y ≤ slice_index s.left j * z → IsTightest n s (m + 1) m z
tightest_taken n s m j y z h pos e less = record {
  is_out = omega arith;
  some_user = pos;
  is_weight = e;
  least = below_next (λ k. slice_index s.left m * weight n s k ≤ slice_index s.left k * z) m
      (λ k l. fraction_le_trans (slice_index s.left m) z (slice_index s.left j) y (slice_index s.left k) (weight n s k) h.some_user less (h.least k l))
      (omega (arith, ap (λ v. slice_index s.left m * v) e));
}

pub tightest_first : (n : Demands) (s : Progress) (m z : ℕ) → ((j : ℕ) → j < m → weight n s j ≡ 0) → 0 < z → z ≡ weight n s m → IsTightest n s (m + 1) m z
tightest_first n s m z none pos e = record {
  is_out = omega arith;
  some_user = pos;
  is_weight = e;
  least = below_next (λ k. slice_index s.left m * weight n s k ≤ slice_index s.left k * z) m
      (λ k l. omega (arith, ap (λ v. slice_index s.left m * v) (none k l)))
      (omega (arith, ap (λ v. slice_index s.left m * v) e));
}

pub none_more : (n : Demands) (s : Progress) (m : ℕ) → ((j : ℕ) → j < m → weight n s j ≡ 0) → weight n s m ≡ 0 → (j : ℕ) → j < m + 1 → weight n s j ≡ 0
none_more n s m none here = below_next (λ j. weight n s j ≡ 0) m none here

-- the best of the first out-links
abbrev pub IsBest : Demands → Progress → ℕ → Option (ℕ × ℕ) → Type 0
IsBest n s m best = MatchOption best ((j : ℕ) → j < m → weight n s j ≡ 0) (λ b. IsTightest n s m b.0 b.1)

pub best_skipped : (n : Demands) (s : Progress) (m : ℕ) (best : Option (ℕ × ℕ)) → IsBest n s m best → weight n s m ≡ 0 → IsBest n s (m + 1) best
best_skipped n s m None h none = none_more n s m h none
best_skipped n s m (Some b) h none = tightest_kept n s m b.0 b.1 h (omega (arith, ap (λ v. slice_index s.left b.0 * v) none))

-- ---- the start

pub zeros : (i : ℕ) → slice_index (0 ∷ 0 ∷ 0 ∷ 0 ∷ 0 ∷ []) i ≡ 0
zeros zero = refl
zeros (suc zero) = refl
zeros (suc (suc zero)) = refl
zeros (suc (suc (suc zero))) = refl
zeros (suc (suc (suc (suc zero)))) = refl
zeros (suc (suc (suc (suc (suc i))))) = refl

pub sound_at_start : (n : Demands) (s : Progress) → IsSmall n → s.denominator ≡ 1 → ((i : ℕ) → slice_index s.numerators i ≡ 0) → ((i : ℕ) → slice_index s.pending i ≡ n.priority i) → ((j : ℕ) → j < n.outs → slice_index s.left j ≡ n.supply j) → IsSound n s
sound_at_start n s small one none pending left =
    let few : open_outs n s ≤ 4 = omega (arith, sum_below-most n.outs (λ j. min 1 (weight n s j)) 1 (λ k l. omega arith), small.few_outs) in
    record {
      positive = omega arith;
      within = omega (arith, ap (λ z. z * 163840000 ^ open_outs n s) one, pow-le-pow_right {n = 163840000} (omega arith) few);
      balance = λ j m. omega (
        arith,
        left j m,
        ap (λ z. n.supply j * z) one,
        sum_below-zero n.arms (λ i. slice_index s.numerators i * n.sending i j) (λ i l. omega (arith, ap (λ z. z * n.sending i j) (none i))),
      );
      ordered = λ i j l m. omega (arith, ap (λ z. z * weight n s j) (none i));
      arms = λ i l. inl (record { pending = pending i; nothing = none i });
    }
