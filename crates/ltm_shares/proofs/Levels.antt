use Rattle.std.proofs.Common.{◌≡◌, ◌≢◌, ℕ, ◌+◌, ◌*◌, ◌^◌, ◌<◌, ◌≤◌, ◌⊎◌, arith, inl, inr, ap, sym, subst, min, ◌∙◌, slice_index, List}
use Rattle.std.proofs.Math.Nat.{le_of_mul-le-mul_right, mul-le-mul_right, mul-le-mul_left, mul-lt-mul_of_pos_right, lt_of_mul-lt-mul_right, pow-le-pow_right, one-le-pow}
use Rattle.std.proofs.lemmas.Bool.{cases_lt, cases_eq}
use Rattle.ltm_shares.specs.Shares.{Demands, inflow, Uses, AreShares}
use Rattle.ltm_shares.specs.Demands.{IsSmall}
use Rattle.ltm_shares.specs.Rounds.{Fixes, Scales, weight, open_outs, open_arms, IsOpen, IsHeld, IsFixed, IsLevel, IsSound, IsTightest, IsAtLevel, IsScaling, Finishes}
use Rattle.ltm_shares.specs.declared.rounds.Progress.{Progress}
use Rattle.ltm_units.proofs.Sums.{sum_below-le, sum_below-lt, sum_below-mul, sum_below-same, sum_below-change, le-sum_below}
use Rattle.ltm_shares.proofs.Unique.{fraction_le_trans}

pub inflow-fixed : (n : Demands) (i v : ℕ) (p q : ℕ → ℕ) (j : ℕ) → i < n.arms → q i ≡ v → ((k : ℕ) → k ≢ i → q k ≡ p k) →
    inflow n q j + p i * n.sending i j ≡ inflow n p j + v * n.sending i j
inflow-fixed n i v p q j l e h =
    omega (
      arith,
      sum_below-change n.arms (λ k. q k * n.sending k j) (λ k. p k * n.sending k j) i l (λ k m ne. ap (λ x. x * n.sending k j) (h k ne)),
      ap (λ x. x * n.sending i j) e,
    )

-- what is left of an out-link suffices for an arm at the level
pub room : (n : Demands) (x y : ℕ) (s : Progress) (i v j : ℕ) → IsLevel n x y s → 0 < y → i < n.arms → slice_index s.pending i ≡ n.priority i → v * y ≤ x * n.priority i → j < n.outs →
    v * n.sending i j ≤ slice_index s.left j
room n x y s i v j level pos l e h m =
    let part : slice_index s.pending i * n.sending i j ≤ weight n s j = le-sum_below n.arms (λ k. slice_index s.pending k * n.sending k j) i l in
    let same : slice_index s.pending i * n.sending i j ≡ n.priority i * n.sending i j = ap (λ z. z * n.sending i j) e in
    let low : n.priority i * n.sending i j ≤ weight n s j = omega arith in
    le_of_mul-le-mul_right {k = y} (omega (arith, level.over j m, mul-le-mul_left x low, mul-le-mul_right (n.sending i j) h)) pos

pub weight-fixed : (n : Demands) (s t : Progress) (i v j : ℕ) → Fixes n i v s t → i < n.arms → weight n t j + slice_index s.pending i * n.sending i j ≡ weight n s j
weight-fixed n s t i v j f l = omega (arith, inflow-fixed n i 0 (slice_index s.pending) (slice_index t.pending) j l f.closed f.other_open)

-- the level is kept where an arm is fixed at no more than the level
pub level_kept : (n : Demands) (x y : ℕ) (s t : Progress) (i v : ℕ) → IsLevel n x y s → Fixes n i v s t → i < n.arms → IsOpen n s i → v * y ≤ x * n.priority i → IsLevel n x y t
level_kept n x y s t i v level f l o h = record {
  balance = λ j m. omega (
    arith,
    level.balance j m,
    f.taken j m,
    ap (λ z. n.supply j * z) f.same_denominator,
    inflow-fixed n i v (slice_index s.numerators) (slice_index t.numerators) j l f.fixed f.other_numerators,
    ap (λ z. z * n.sending i j) o.nothing,
  );
  under = λ k m. elim (cases_eq k i) [
    | inl e ↦
        let P : ℕ → Type 0 = λ z. slice_index t.numerators z * y ≤ x * n.priority z in
        subst P (sym e) (omega (arith, ap (λ z. z * y) f.fixed))
    | inr ne ↦ omega (arith, level.under k m, ap (λ z. z * y) (f.other_numerators k ne))
  ];
  over = λ j m. omega (
    arith,
    level.over j m,
    ap (λ z. x * z) (weight-fixed n s t i v j f l),
    ap (λ z. x * (z * n.sending i j)) o.pending,
    ap (λ z. z * y) (f.taken j m),
    mul-le-mul_right (n.sending i j) h,
  );
}

pub open_stays : (n : Demands) (s t : Progress) (i v k : ℕ) → Fixes n i v s t → k ≢ i → IsOpen n s k → IsOpen n t k
open_stays n s t i v k f ne o = record { pending = f.other_open k ne ∙ o.pending; nothing = f.other_numerators k ne ∙ o.nothing }

-- an arm that is held stays so
pub held_stays : (n : Demands) (s t : Progress) (i v k j : ℕ) → Fixes n i v s t → i < n.arms → 0 < slice_index s.pending i → k ≢ i → IsHeld n s k j → IsHeld n t k j
held_stays n s t i v k j f l o ne h = record {
  is_out = h.is_out;
  uses = h.uses;
  full = omega (arith, f.taken j h.is_out, h.full);
  closed = omega (arith, weight-fixed n s t i v j f l, h.closed);
  greatest = λ m b u. elim (cases_eq m i) [
    | inl e ↦
        let used : Uses n i j = subst (λ (z : ℕ). Uses n z j) e u in
        let part : slice_index s.pending i * n.sending i j ≤ weight n s j = le-sum_below n.arms (λ z. slice_index s.pending z * n.sending z j) i l in
        absurd (omega (arith, mul-lt-mul_of_pos_right o used, h.closed))
    | inr other ↦ omega (arith, h.greatest m b u, ap (λ z. z * n.priority k) (f.other_numerators m other), ap (λ z. z * n.priority m) (f.other_numerators k ne))
  ];
}

pub fixed_stays : (n : Demands) (s t : Progress) (i v k : ℕ) → Fixes n i v s t → i < n.arms → 0 < slice_index s.pending i → k ≢ i → IsFixed n s k → IsFixed n t k
fixed_stays n s t i v k f l o ne h = record {
  closed = f.other_open k ne ∙ h.closed;
  at_most_all = omega (arith, h.at_most_all, f.other_numerators k ne, f.same_denominator);
  held = λ less.
      let by = h.held (omega (arith, f.other_numerators k ne, f.same_denominator)) in
      (by.0, held_stays n s t i v k by.0 f l o ne by.1);
}

pub fixed_whole : (n : Demands) (s t : Progress) (i : ℕ) → Fixes n i s.denominator s t → IsFixed n t i
fixed_whole n s t i f = record {
  closed = f.closed;
  at_most_all = omega (arith, f.fixed, f.same_denominator);
  held = λ less. absurd (omega (arith, f.fixed, f.same_denominator));
}

pub open_arms_fall : (n : Demands) (s t : Progress) (i v : ℕ) → Fixes n i v s t → i < n.arms → 0 < slice_index s.pending i → open_arms n t < open_arms n s
open_arms_fall n s t i v f l o =
    sum_below-lt n.arms (λ k. min 1 (slice_index t.pending k)) (λ k. min 1 (slice_index s.pending k)) i l
    (λ k m. elim (cases_eq k i) [
      | inl e ↦ let z : slice_index t.pending k ≡ 0 = ap (slice_index t.pending) e ∙ f.closed in omega arith
      | inr ne ↦ omega (arith, f.other_open k ne)
    ])
    (omega (arith, f.closed))

pub open_outs_fall : (n : Demands) (s t : Progress) → ((j : ℕ) → j < n.outs → weight n t j ≤ weight n s j) → open_outs n t ≤ open_outs n s
open_outs_fall n s t h = sum_below-le n.outs (λ j. min 1 (weight n t j)) (λ j. min 1 (weight n s j)) (λ j m. omega (arith, h j m))

pub sound_at_level : (n : Demands) (x y : ℕ) (s : Progress) → 0 < y → IsLevel n x y s → 0 < s.denominator → s.denominator * 163840000 ^ open_outs n s ≤ 163840000 ^ 4 →
    ((i : ℕ) → i < n.arms → IsOpen n s i ⊎ IsFixed n s i) → IsSound n s
sound_at_level n x y s pos level positive within arms = record {
  positive = positive;
  within = within;
  balance = level.balance;
  ordered = λ i j l m. fraction_le_trans (slice_index s.numerators i) (n.priority i) x y (slice_index s.left j) (weight n s j) pos (level.under i l) (level.over j m);
  arms = arms;
}

pub within_kept : (n : Demands) (s t : Progress) (i v : ℕ) → Fixes n i v s t → i < n.arms → s.denominator * 163840000 ^ open_outs n s ≤ 163840000 ^ 4 → t.denominator * 163840000 ^ open_outs n t ≤ 163840000 ^ 4
within_kept n s t i v f l h =
    let fall : open_outs n t ≤ open_outs n s = open_outs_fall n s t (λ j m. omega (arith, weight-fixed n s t i v j f l)) in
    omega (arith, h, ap (λ z. z * 163840000 ^ open_outs n t) f.same_denominator, mul-le-mul_left s.denominator (pow-le-pow_right {n = 163840000} (omega arith) fall))

pub is_open : (n : Demands) (s : Progress) (i : ℕ) → IsSound n s → i < n.arms → 0 < slice_index s.pending i → IsOpen n s i
is_open n s i h l some = elim (h.arms i l) [ inl o ↦ o | inr fixed ↦ absurd (omega (arith, fixed.closed)) ]

-- one arm is fixed at all that it sends
pub fix_whole : (n : Demands) (x y : ℕ) (s t : Progress) (i : ℕ) → IsSound n s → IsLevel n x y s → 0 < y → i < n.arms → 0 < slice_index s.pending i → s.denominator * y ≤ x * slice_index s.pending i → Fixes n i s.denominator s t →
    IsSound n t × IsLevel n x y t
fix_whole n x y s t i h level pos l some fits f =
    let o : IsOpen n s i = is_open n s i h l some in
    let next : IsLevel n x y t = level_kept n x y s t i s.denominator level f l o (omega (arith, fits, ap (λ z. x * z) o.pending)) in
    let arms : (k : ℕ) → k < n.arms → IsOpen n t k ⊎ IsFixed n t k = λ k m. elim (cases_eq k i) [
      | inl e ↦ inr (subst (λ (z : ℕ). IsFixed n t z) (sym e) (fixed_whole n s t i f))
      | inr ne ↦ elim (h.arms k m) [
        | inl other ↦ inl (open_stays n s t i s.denominator k f ne other)
        | inr fixed ↦ inr (fixed_stays n s t i s.denominator k f l some ne fixed)
      ]
    ] in
    (sound_at_level n x y t pos next (omega (arith, h.positive, f.same_denominator)) (within_kept n s t i s.denominator f l h.within) arms, next)

-- ---- sizes

pub weight_small : (n : Demands) (s : Progress) (j : ℕ) → IsSmall n → IsSound n s → j < n.outs → weight n s j ≤ 163840000
weight_small n s j small h m =
    let each : (k : ℕ) → k < n.arms → slice_index s.pending k * n.sending k j ≤ n.priority k * n.sending k j = λ k l. elim (h.arms k l) [
      | inl o ↦ omega (arith, ap (λ z. z * n.sending k j) o.pending)
      | inr fixed ↦ omega (arith, ap (λ z. z * n.sending k j) fixed.closed)
    ] in
    omega (arith, sum_below-le n.arms (λ k. slice_index s.pending k * n.sending k j) (λ k. n.priority k * n.sending k j) each, small.weights j m)

pub left_small : (n : Demands) (s : Progress) (j : ℕ) → IsSmall n → IsSound n s → j < n.outs → slice_index s.left j ≤ 32000 * s.denominator
left_small n s j small h m = omega (arith, h.balance j m, mul-le-mul_right s.denominator (small.supplies j m))

pub denominator_small : (n : Demands) (s : Progress) → IsSound n s → s.denominator ≤ 163840000 ^ 4
denominator_small n s h = omega (arith, h.within, mul-le-mul_left s.denominator (one-le-pow (open_outs n s) 163840000 (omega arith)))

-- while an out-link has a user to fix, one more product fits
pub one_more : (n : Demands) (s : Progress) (j : ℕ) → IsSound n s → j < n.outs → 0 < weight n s j → s.denominator * 163840000 ≤ 163840000 ^ 4
one_more n s j h m some =
    let counted : min 1 (weight n s j) ≤ open_outs n s = le-sum_below n.outs (λ k. min 1 (weight n s k)) j m in
    let at_least : 1 ≤ open_outs n s = omega arith in
    let grows : 163840000 ^ 1 ≤ 163840000 ^ open_outs n s = pow-le-pow_right {n = 163840000} (omega arith) at_least in
    omega (arith, h.within, mul-le-mul_left s.denominator grows)

pub left_times_weight : (n : Demands) (s : Progress) (j k : ℕ) → IsSmall n → IsSound n s → j < n.outs → k < n.outs → slice_index s.left j * weight n s k < 2 ^ 127
left_times_weight n s j k small h l m =
    elim (cases_lt 0 (weight n s k)) [
      | inl some ↦ omega (arith, one_more n s k h m some, left_small n s j small h l, mul-le-mul_left (slice_index s.left j) (weight_small n s k small h m))
      | inr none ↦ omega (arith, mul-le-mul_left (slice_index s.left j) none)
    ]

-- ---- a round that fixes at a factor

pub weight-scaled : (n : Demands) (y : ℕ) (s t : Progress) (j : ℕ) → Scales n y s t → weight n t j ≡ weight n s j
weight-scaled n y s t j c = ap (λ (q : List ℕ). inflow n (slice_index q) j) c.pending

pub numerators-scaled : (n : Demands) (y : ℕ) (s t : Progress) (j : ℕ) → Scales n y s t → inflow n (slice_index t.numerators) j ≡ inflow n (slice_index s.numerators) j * y
numerators-scaled n y s t j c =
    sum_below-same n.arms (λ k. slice_index t.numerators k * n.sending k j) (λ k. slice_index s.numerators k * n.sending k j * y) (λ k l. omega (arith, ap (λ z. z * n.sending k j) (c.numerators k l)))
    ∙ sum_below-mul n.arms (λ k. slice_index s.numerators k * n.sending k j) y

pub held_scaled : (n : Demands) (y : ℕ) (s t : Progress) (i j : ℕ) → i < n.arms → Scales n y s t → IsHeld n s i j → IsHeld n t i j
held_scaled n y s t i j l c h = record {
  is_out = h.is_out;
  uses = h.uses;
  full = omega (arith, c.left j h.is_out, ap (λ z. z * y) h.full);
  closed = weight-scaled n y s t j c ∙ h.closed;
  greatest = λ k m u. omega (arith, mul-le-mul_right y (h.greatest k m u), ap (λ z. z * n.priority i) (c.numerators k m), ap (λ z. z * n.priority k) (c.numerators i l));
}

pub fixed_scaled : (n : Demands) (y : ℕ) (s t : Progress) (i : ℕ) → i < n.arms → Scales n y s t → IsFixed n s i → IsFixed n t i
fixed_scaled n y s t i l c h = record {
  closed = ap (λ (q : List ℕ). slice_index q i) c.pending ∙ h.closed;
  at_most_all = omega (arith, c.denominator, c.numerators i l, mul-le-mul_right y h.at_most_all);
  held = λ less.
      let by = h.held (lt_of_mul-lt-mul_right y (omega (arith, c.denominator, c.numerators i l))) in
      (by.0, held_scaled n y s t i by.0 l c by.1);
}

pub scaling_starts : (n : Demands) (s t : Progress) (j y : ℕ) → IsSound n s → IsTightest n s n.outs j y → Scales n y s t → IsScaling n (slice_index s.left j) j t
scaling_starts n s t j y h tight c =
    let x : ℕ = slice_index s.left j in
    record {
      positive = omega (arith, c.denominator, mul-lt-mul_of_pos_right h.positive tight.some_user);
      level = record {
        balance = λ k m. omega (arith, numerators-scaled n y s t k c, c.left k m, ap (λ z. n.supply k * z) c.denominator, ap (λ z. z * y) (h.balance k m));
        under = λ i l. omega (arith, c.numerators i l, h.ordered i j l tight.is_out, ap (λ z. slice_index s.numerators i * z) tight.is_weight);
        over = λ k m. omega (arith, c.left k m, tight.least k m, ap (λ z. x * z) (weight-scaled n y s t k c));
      };
      exact = omega (arith, c.left j tight.is_out, ap (λ z. x * z) (weight-scaled n y s t j c), ap (λ z. x * z) tight.is_weight);
      arms = λ i l. elim (h.arms i l) [
        | inl o ↦ inl (record {
          pending = ap (λ (q : List ℕ). slice_index q i) c.pending ∙ o.pending;
          nothing = omega (arith, c.numerators i l, ap (λ z. z * y) o.nothing);
        })
        | inr fixed ↦ inr (inl (fixed_scaled n y s t i l c fixed))
      ];
    }

pub at_level_stays : (n : Demands) (x j : ℕ) (s t : Progress) (i v k : ℕ) → Fixes n i v s t → k ≢ i → IsAtLevel n x j s k → IsAtLevel n x j t k
at_level_stays n x j s t i v k f ne h = record {
  closed = f.other_open k ne ∙ h.closed;
  level = f.other_numerators k ne ∙ h.level;
  at_most_all = omega (arith, h.at_most_all, f.other_numerators k ne, f.same_denominator);
  uses = h.uses;
}

pub is_open_scaling : (n : Demands) (x j : ℕ) (s : Progress) (i : ℕ) → IsScaling n x j s → i < n.arms → 0 < slice_index s.pending i → IsOpen n s i
is_open_scaling n x j s i h l some = elim (h.arms i l) [
  | inl o ↦ o
  | inr closed ↦ elim closed [ inl fixed ↦ absurd (omega (arith, fixed.closed)) | inr level ↦ absurd (omega (arith, level.closed)) ]
]

pub scaling_goes_on : (n : Demands) (x j : ℕ) (s t : Progress) (i : ℕ) → IsScaling n x j s → j < n.outs → i < n.arms → 0 < slice_index s.pending i → Uses n i j → x * slice_index s.pending i ≤ s.denominator → Fixes n i (x * slice_index s.pending i) s t →
    IsScaling n x j t
scaling_goes_on n x j s t i h is_out l some used most f =
    let v : ℕ = x * slice_index s.pending i in
    let o : IsOpen n s i = is_open_scaling n x j s i h l some in
    record {
      positive = omega (arith, h.positive, f.same_denominator);
      level = level_kept n x 1 s t i v h.level f l o (omega (arith, ap (λ z. x * z) o.pending));
      exact = omega (arith, h.exact, f.taken j is_out, ap (λ z. x * z) (weight-fixed n s t i v j f l));
      arms = λ k m. elim (cases_eq k i) [
        | inl e ↦ inr (inr (subst (λ (z : ℕ). IsAtLevel n x j t z) (sym e) (record {
          closed = f.closed;
          level = f.fixed ∙ ap (λ z. x * z) o.pending;
          at_most_all = omega (arith, f.fixed, f.same_denominator);
          uses = used;
        })))
        | inr ne ↦ elim (h.arms k m) [
          | inl other ↦ inl (open_stays n s t i v k f ne other)
          | inr closed ↦ elim closed [
            | inl fixed ↦ inr (inl (fixed_stays n s t i v k f l some ne fixed))
            | inr level ↦ inr (inr (at_level_stays n x j s t i v k f ne level))
          ]
        ]
      ];
    }

pub scaling_ends : (n : Demands) (x j : ℕ) (s : Progress) → IsScaling n x j s → j < n.outs → weight n s j ≡ 0 → s.denominator * 163840000 ^ open_outs n s ≤ 163840000 ^ 4 → IsSound n s
scaling_ends n x j s h is_out none within =
    sound_at_level n x 1 s (omega arith) h.level h.positive within (λ i l. elim (h.arms i l) [
      | inl o ↦ inl o
      | inr closed ↦ elim closed [
        | inl fixed ↦ inr fixed
        | inr level ↦ inr (record {
          closed = level.closed;
          at_most_all = level.at_most_all;
          held = λ less. (
            j,
            record {
              is_out = is_out;
              uses = level.uses;
              full = omega (arith, h.exact, ap (λ z. x * z) none);
              closed = none;
              greatest = λ k m u. omega (arith, mul-le-mul_right (n.priority i) (h.level.under k m), ap (λ z. z * n.priority k) level.level);
            },
          );
        })
      ]
    ])

-- ---- the end

pub no_user : (n : Demands) (s : Progress) (i j : ℕ) → i < n.arms → weight n s j ≡ 0 → 0 < slice_index s.pending i → n.sending i j ≡ 0
no_user n s i j l none some =
    elim (cases_lt 0 (n.sending i j)) [
      | inl used ↦ absurd (omega (arith, le-sum_below n.arms (λ k. slice_index s.pending k * n.sending k j) i l, mul-lt-mul_of_pos_right some used, none))
      | inr unused ↦ omega arith
    ]

pub finished : (n : Demands) (s t : Progress) → IsSmall n → IsSound n s → ((j : ℕ) → j < n.outs → weight n s j ≡ 0) → Finishes n s t → AreShares n t.denominator (slice_index t.numerators)
finished n s t small h none f =
    let same : (j : ℕ) → j < n.outs → inflow n (slice_index t.numerators) j ≡ inflow n (slice_index s.numerators) j = λ j m.
    sum_below-same n.arms (λ k. slice_index t.numerators k * n.sending k j) (λ k. slice_index s.numerators k * n.sending k j) (λ k l.
    elim (cases_lt 0 (slice_index s.pending k)) [
      | inl some ↦ let z = no_user n s k j l (none j m) some in omega (arith, ap (λ v. slice_index t.numerators k * v) z, ap (λ v. slice_index s.numerators k * v) z)
      | inr closed ↦ omega (arith, ap (λ v. v * n.sending k j) (f.fixed k l (omega arith)))
    ]) in
    record {
      positive = omega (arith, h.positive, f.same_denominator);
      at_most_all = λ i l. elim (h.arms i l) [
        | inl o ↦ omega (arith, f.rest i l (omega (arith, o.pending, small.some_priority i l)), f.same_denominator)
        | inr fixed ↦ omega (arith, f.fixed i l fixed.closed, fixed.at_most_all, f.same_denominator)
      ];
      within_supply = λ j m. omega (arith, same j m, h.balance j m, ap (λ z. n.supply j * z) f.same_denominator);
      held_back = λ i l less. elim (h.arms i l) [
        | inl o ↦ absurd (omega (arith, f.rest i l (omega (arith, o.pending, small.some_priority i l)), f.same_denominator))
        | inr fixed ↦
            let by = fixed.held (omega (arith, f.fixed i l fixed.closed, f.same_denominator)) in
            let b : IsHeld n s i by.0 = by.1 in (
              by.0,
              record {
                is_out = b.is_out;
                uses = b.uses;
                full = omega (arith, same by.0 b.is_out, h.balance by.0 b.is_out, b.full, ap (λ z. n.supply by.0 * z) f.same_denominator);
                greatest = λ k m u. elim (cases_lt 0 (slice_index s.pending k)) [
                  | inl some ↦ absurd (omega (arith, no_user n s k by.0 m b.closed some))
                  | inr closed ↦ omega (arith, b.greatest k m u, ap (λ z. z * n.priority i) (f.fixed k m (omega arith)), ap (λ z. z * n.priority k) (f.fixed i l fixed.closed))
                ];
              },
            )
      ];
    }
