-- Chains of pointers, and the lists that they hold.
use Rattle.std.proofs.Common.{◌≡◌, ◌≢◌, ◌⊎◌, ℕ, zero, suc, ◌+◌, ◌≤◌, ◌==◌, cond, List, [], ◌∷◌, length, refl, sym, ap, subst, ◌∙◌, inl, inr, eq-eqb, arith}
use Rattle.std.proofs.lemmas.Bool.{cases_eq, ne_eqb}
use Rattle.ltm_index.specs.Chains.{times, without, walk, IsChain}

-- ---- how often a slot stands in a list
pub times_here : (v x : ℕ) (xs : List ℕ) → x ≡ v → times v (x ∷ xs) ≡ 1 + times v xs
times_here v x xs same = rw (eq-eqb x v same) refl

pub times_past : (v x : ℕ) (xs : List ℕ) → x ≢ v → times v (x ∷ xs) ≡ times v xs
times_past v x xs other = rw (ne_eqb x v other) (omega arith)

pub in_head : (x : ℕ) (xs : List ℕ) → 1 ≤ times x (x ∷ xs)
in_head x xs = omega (arith, times_here x x xs refl)

pub in_tail : (v x : ℕ) (xs : List ℕ) → 1 ≤ times v xs → 1 ≤ times v (x ∷ xs)
in_tail v x xs some = omega arith

pub fewer_left : (v x : ℕ) (xs : List ℕ) → times v xs ≤ times v (x ∷ xs)
fewer_left v x xs = omega arith

-- ---- a list without a slot
pub without_here : (v x : ℕ) (xs : List ℕ) → x ≡ v → without v (x ∷ xs) ≡ without v xs
without_here v x xs same = rw (eq-eqb x v same) refl

pub without_past : (v x : ℕ) (xs : List ℕ) → x ≢ v → without v (x ∷ xs) ≡ x ∷ without v xs
without_past v x xs other = rw (ne_eqb x v other) refl

pub without_none : (v : ℕ) (xs : List ℕ) → times v xs ≡ 0 → without v xs ≡ xs
without_none v [] none = refl
without_none v (x ∷ xs) none =
    elim (cases_eq x v) [
      | inl same ↦ absurd (omega (arith, times_here v x xs same))
      | inr other ↦ without_past v x xs other ∙ ap (λ r. x ∷ r) (without_none v xs (omega (arith, times_past v x xs other)))
    ]

pub times-without_same : (v : ℕ) (xs : List ℕ) → times v (without v xs) ≡ 0
times-without_same v [] = refl
times-without_same v (x ∷ xs) =
    elim (cases_eq x v) [
      | inl same ↦ ap (times v) (without_here v x xs same) ∙ times-without_same v xs
      | inr other ↦ ap (times v) (without_past v x xs other) ∙ (times_past v x (without v xs) other ∙ times-without_same v xs)
    ]

pub times-without_other : (v w : ℕ) (xs : List ℕ) → w ≢ v → times w (without v xs) ≡ times w xs
times-without_other v w [] apart = refl
times-without_other v w (x ∷ xs) apart =
    elim (cases_eq x v) [
      | inl same ↦
          let past : x ≢ w = λ e. apart (sym e ∙ same) in
          ap (times w) (without_here v x xs same) ∙ (times-without_other v w xs apart ∙ sym (times_past w x xs past))
      | inr other ↦ ap (times w) (without_past v x xs other) ∙ ap (λ n. cond (x == w) 1 0 + n) (times-without_other v w xs apart)
    ]

pub length-without : (v : ℕ) (xs : List ℕ) → length (without v xs) + times v xs ≡ length xs
length-without v [] = refl
length-without v (x ∷ xs) =
    elim (cases_eq x v) [
      | inl same ↦ omega (arith, ap (λ r. length r) (without_here v x xs same), times_here v x xs same, length-without v xs)
      | inr other ↦ omega (arith, ap (λ r. length r) (without_past v x xs other), times_past v x xs other, length-without v xs)
    ]

pub times-without_le : (v w : ℕ) (xs : List ℕ) → times w (without v xs) ≤ times w xs
times-without_le v w xs =
    elim (cases_eq w v) [
      | inl same ↦ let e : times w (without v xs) ≡ 0 = ap (λ u. times u (without v xs)) same ∙ times-without_same v xs in omega arith
      | inr other ↦ omega (arith, times-without_other v w xs other)
    ]

-- a list of different numbers below n has at most n of them
pub few_below : (n : ℕ) (xs : List ℕ) → ((x : ℕ) → times x xs ≤ 1) → ((x : ℕ) → n ≤ x → times x xs ≡ 0) → length xs ≤ n
few_below zero [] once below = omega arith
few_below zero (x ∷ xs) once below = absurd (omega (arith, in_head x xs, below x (omega arith)))
few_below (suc n) xs once below =
    let rest : length (without n xs) ≤ n =
    few_below n (without n xs) (λ x. omega (arith, times-without_le n x xs, once x)) (λ x high. elim (cases_eq x n) [
      | inl same ↦ ap (λ u. times u (without n xs)) same ∙ times-without_same n xs
      | inr other ↦ times-without_other n x xs other ∙ below x (omega arith)
    ]) in
    omega (arith, length-without n xs, once n)

-- ---- a chain that no write touched
pub chain_same : (a b a' b' : ℕ → ℕ) (p : ℕ) (xs : List ℕ) → a' p ≡ a p → ((x : ℕ) → 1 ≤ times x xs → a' (suc x) ≡ a (suc x)) → ((x : ℕ) → 1 ≤ times x xs → b' x ≡ b x) → IsChain a b p xs → IsChain a' b' p xs
chain_same a b a' b' p [] here nexts befores c = here ∙ c
chain_same a b a' b' p (x ∷ xs) here nexts befores c =
    (here ∙ c.0, (befores x (in_head x xs) ∙ c.1.0, chain_same a b a' b' (suc x) xs (nexts x (in_head x xs)) (λ y m. nexts y (in_tail y x xs m)) (λ y m. befores y (in_tail y x xs m)) c.1.1))

-- ---- what stands beside a slot
-- a pointer to a slot of a list
unfoldable pub Into : ℕ → List ℕ → Type 0
Into p xs = (y : ℕ) × (p ≡ suc y) × (1 ≤ times y xs)

pub first_is : (a b : ℕ → ℕ) (p : ℕ) (xs : List ℕ) → IsChain a b p xs → (a p ≡ 0) ⊎ Into (a p) xs
unfolding Into
first_is a b p [] c = inl c
first_is a b p (y ∷ ys) c = inr (y, c.0, in_head y ys)

pub next_is : (a b : ℕ → ℕ) (p v : ℕ) (xs : List ℕ) → IsChain a b p xs → 1 ≤ times v xs → (a (suc v) ≡ 0) ⊎ Into (a (suc v)) xs
unfolding Into
next_is a b p v [] c some = absurd (omega arith)
next_is a b p v (x ∷ xs) c some =
    elim (cases_eq x v) [
      | inl same ↦
          let rest : IsChain a b (suc v) xs = subst (λ u. IsChain a b (suc u) xs) same c.1.1 in
          elim (first_is a b (suc v) xs rest) [ inl none ↦ inl none | inr found ↦ inr (found.0, found.1, in_tail found.0 x xs found.2) ]
      | inr other ↦
          elim (next_is a b (suc x) v xs c.1.1 (omega (arith, times_past v x xs other))) [ inl none ↦ inl none | inr found ↦ inr (found.0, found.1, in_tail found.0 x xs found.2) ]
    ]

pub previous_is : (a b : ℕ → ℕ) (p v : ℕ) (xs : List ℕ) → IsChain a b p xs → 1 ≤ times v xs → (b v ≡ p) ⊎ Into (b v) xs
unfolding Into
previous_is a b p v [] c some = absurd (omega arith)
previous_is a b p v (x ∷ xs) c some =
    elim (cases_eq x v) [
      | inl same ↦ inl (ap b (sym same) ∙ c.1.0)
      | inr other ↦
          elim (previous_is a b (suc x) v xs c.1.1 (omega (arith, times_past v x xs other))) [
            | inl head ↦ inr (x, head, in_head x xs)
            | inr found ↦ inr (found.0, found.1, in_tail found.0 x xs found.2)
          ]
    ]

-- ---- a slot is cut out
pub record Cuts (a b a' b' : ℕ → ℕ) (v : ℕ) : Type 0 where
  pub here : a' (b v) ≡ a (suc v)
  pub afters : (q : ℕ) → q ≢ b v → a' q ≡ a q
  pub back : (x : ℕ) → suc x ≡ a (suc v) → b' x ≡ b v
  pub befores : (x : ℕ) → suc x ≢ a (suc v) → b' x ≡ b x

rejoin : (a b a' b' : ℕ → ℕ) (p v : ℕ) (xs : List ℕ) → Cuts a b a' b' v → b v ≡ p → ((x : ℕ) → times x xs ≤ 1) → ((x : ℕ) → 1 ≤ times x xs → p ≢ suc x) → IsChain a b (suc v) xs → IsChain a' b' p xs
rejoin a b a' b' p v [] cuts before once apart c = ap a' (sym before) ∙ (cuts.here ∙ c)
rejoin a b a' b' p v (y ∷ ys) cuts before once apart c =
    let free : (x : ℕ) → 1 ≤ times x (y ∷ ys) → a' (suc x) ≡ a (suc x) = λ x m. cuts.afters (suc x) (λ e. apart x m (sym before ∙ sym e)) in
    (ap a' (sym before) ∙ (cuts.here ∙ c.0), (cuts.back y (sym c.0) ∙ before, chain_same a b a' b' (suc y) ys (free y (in_head y ys)) (λ x m. free x (in_tail x y ys m)) (λ x m. cuts.befores x (λ e. let same : suc x ≡ suc y = e ∙ c.0 in let times_same : times x ys ≡ times y ys = ap (λ u. times u ys) (omega arith) in omega (arith, times_here y y ys refl, once y))) c.1.1))

pub chain_cut : (a b a' b' : ℕ → ℕ) (p v : ℕ) (xs : List ℕ) → Cuts a b a' b' v → ((x : ℕ) → times x xs ≤ 1) → ((x : ℕ) → 1 ≤ times x xs → p ≢ suc x) → 1 ≤ times v xs → IsChain a b p xs → IsChain a' b' p (without v xs)
unfolding Into
chain_cut a b a' b' p v [] cuts once apart some c = absurd (omega arith)
chain_cut a b a' b' p v (x ∷ xs) cuts once apart some c =
    let once_left : (y : ℕ) → times y xs ≤ 1 = λ y. omega (arith, fewer_left y x xs, once y) in
    elim (cases_eq x v) [
      | inl same ↦
          let none : times v xs ≡ 0 = omega (arith, times_here v x xs same, once v) in
          let e : without v (x ∷ xs) ≡ xs = without_here v x xs same ∙ without_none v xs none in
          let rest : IsChain a b (suc v) xs = subst (λ u. IsChain a b (suc u) xs) same c.1.1 in
          subst (λ zs. IsChain a' b' p zs) (sym e) (rejoin a b a' b' p v xs cuts (ap b (sym same) ∙ c.1.0) once_left (λ y m. apart y (in_tail y x xs m)) rest)
      | inr other ↦
          let left : 1 ≤ times v xs = omega (arith, times_past v x xs other) in
          let gone : times x xs ≡ 0 = omega (arith, times_here x x xs refl, once x) in
          let not_before : p ≢ b v = λ e. elim (previous_is a b (suc x) v xs c.1.1 left) [
            | inl head ↦ apart x (in_head x xs) (e ∙ head)
            | inr found ↦ apart found.0 (in_tail found.0 x xs found.2) (e ∙ found.1)
          ] in
          let not_next : suc x ≢ a (suc v) = λ e. elim (next_is a b (suc x) v xs c.1.1 left) [
            | inl none ↦ omega (arith, e, none)
            | inr found ↦ let same : times x xs ≡ times found.0 xs = ap (λ u. times u xs) (let s : suc x ≡ suc found.0 = e ∙ found.1 in omega arith) in omega (arith, found.2)
          ] in
          let apart_left : (y : ℕ) → 1 ≤ times y xs → suc x ≢ suc y = λ y m e. let same : times x xs ≡ times y xs = ap (λ u. times u xs) (omega arith) in omega arith in
          subst (λ zs. IsChain a' b' p zs) (sym (without_past v x xs other)) (cuts.afters p not_before ∙ c.0, (cuts.befores x not_next ∙ c.1.0, chain_cut a b a' b' (suc x) v xs cuts once_left apart_left left c.1.1))
    ]

-- ---- a slot is put first
pub record Heads (a b a' b' : ℕ → ℕ) (v : ℕ) : Type 0 where
  pub first : a' 0 ≡ suc v
  pub next : a' (suc v) ≡ a 0
  pub before : b' v ≡ 0
  pub afters : (x : ℕ) → x ≢ v → a' (suc x) ≡ a (suc x)
  pub back : (x : ℕ) → x ≢ v → suc x ≡ a 0 → b' x ≡ suc v
  pub befores : (x : ℕ) → x ≢ v → suc x ≢ a 0 → b' x ≡ b x

behind_head : (a b a' b' : ℕ → ℕ) (v : ℕ) (xs : List ℕ) → Heads a b a' b' v → ((x : ℕ) → times x xs ≤ 1) → times v xs ≡ 0 → IsChain a b 0 xs → IsChain a' b' (suc v) xs
behind_head a b a' b' v [] heads once none c = heads.next ∙ c
behind_head a b a' b' v (y ∷ ys) heads once none c =
    let apart : (x : ℕ) → 1 ≤ times x (y ∷ ys) → x ≢ v = λ x m e. let same : times x (y ∷ ys) ≡ times v (y ∷ ys) = ap (λ u. times u (y ∷ ys)) e in omega arith in
    (heads.next ∙ c.0, (heads.back y (apart y (in_head y ys)) (sym c.0), chain_same a b a' b' (suc y) ys (heads.afters y (apart y (in_head y ys))) (λ x m. heads.afters x (apart x (in_tail x y ys m))) (λ x m. heads.befores x (apart x (in_tail x y ys m)) (λ e. let same : suc x ≡ suc y = e ∙ c.0 in let times_same : times x ys ≡ times y ys = ap (λ u. times u ys) (omega arith) in omega (arith, times_here y y ys refl, once y))) c.1.1))

pub chain_head : (a b a' b' : ℕ → ℕ) (v : ℕ) (xs : List ℕ) → Heads a b a' b' v → ((x : ℕ) → times x xs ≤ 1) → times v xs ≡ 0 → IsChain a b 0 xs → IsChain a' b' 0 (v ∷ xs)
chain_head a b a' b' v xs heads once none c = (heads.first, (heads.before, behind_head a b a' b' v xs heads once none c))

-- ---- the walk along a chain
pub walk_is : (a b : ℕ → ℕ) (p most : ℕ) (xs : List ℕ) → IsChain a b p xs → length xs ≤ most → walk a most (a p) ≡ xs
walk_is a b p zero [] c fits = refl
walk_is a b p (suc most) [] c fits = ap (walk a (suc most)) c
walk_is a b p zero (x ∷ xs) c fits = absurd (omega arith)
walk_is a b p (suc most) (x ∷ xs) c fits =
    ap (walk a (suc most)) c.0 ∙ ap (λ r. x ∷ r) (walk_is a b (suc x) most xs c.1.1 (omega arith))

pub walk_short : (a : ℕ → ℕ) (most p : ℕ) → length (walk a most p) ≤ most
walk_short a zero p = omega arith
walk_short a (suc most) zero = omega arith
walk_short a (suc most) (suc v) = omega (arith, walk_short a most (a (suc v)))
