-- Reading a list slot after slot.
use Rattle.std.proofs.Common.{◌≡◌, ◌≢◌, ℕ, zero, suc, ◌+◌, ◌-◌, ◌<◌, ◌≤◌, List, [], ◌∷◌, length, get_or, Option, Some, None, refl, sym, ap, subst, ◌∙◌, inl, inr, eq-eqb, arith, IfSome, Contains}
use Rattle.std.proofs.lemmas.Bool.{cases_eq, ne_eqb}
use Rattle.ltm_index.specs.Chains.{times, behind, left_after, list_from, first_in, pointed_at, IsChain}
use Rattle.ltm_index.proofs.Chaining.{times_here, times_past, in_head, in_tail, fewer_left}

-- ---- a slot stands in a list where it stands there at some place
met_at : (k : ℕ) (xs : List ℕ) (v : ℕ) → k < length xs → get_or xs k v ≡ v → 1 ≤ times v xs
met_at k [] v within is = absurd (omega arith)
met_at zero (x ∷ xs) v within is = omega (arith, times_here v x xs is)
met_at (suc k) (x ∷ xs) v within is = in_tail v x xs (met_at k xs v (omega arith) is)

pub times_from_place : (xs : List ℕ) (v : ℕ) → Contains xs v → 1 ≤ times v xs
times_from_place xs v place = met_at place.0 xs v place.1 place.2

pub place_from_times : (xs : List ℕ) (v : ℕ) → 1 ≤ times v xs → Contains xs v
place_from_times [] v some = absurd (omega arith)
place_from_times (x ∷ xs) v some =
    elim (cases_eq x v) [
      | inl same ↦ (zero, omega arith, same)
      | inr other ↦
          let place : Contains xs v = place_from_times xs v (omega (arith, times_past v x xs other)) in
          (suc place.0, omega (arith, place.1), place.2)
    ]

-- ---- what follows a slot
behind_here : (v x : ℕ) (xs : List ℕ) → x ≡ v → behind v (x ∷ xs) ≡ xs
behind_here v x xs same = rw (eq-eqb x v same) refl

behind_past : (v x : ℕ) (xs : List ℕ) → x ≢ v → behind v (x ∷ xs) ≡ behind v xs
behind_past v x xs other = rw (ne_eqb x v other) refl

fewer_behind : (v w : ℕ) (xs : List ℕ) → times w (behind v xs) ≤ times w xs
fewer_behind v w [] = omega arith
fewer_behind v w (x ∷ xs) =
    elim (cases_eq x v) [
      | inl same ↦ omega (arith, ap (times w) (behind_here v x xs same), fewer_left w x xs)
      | inr other ↦ omega (arith, ap (times w) (behind_past v x xs other), fewer_left w x xs, fewer_behind v w xs)
    ]

fewer_after : (xs : List ℕ) (after : Option ℕ) (w : ℕ) → times w (left_after xs after) ≤ times w xs
fewer_after xs None w = omega arith
fewer_after xs (Some v) w = fewer_behind v w xs

apart_from_once : (x w : ℕ) (xs : List ℕ) → ((u : ℕ) → times u (x ∷ xs) ≤ 1) → 1 ≤ times w xs → x ≢ w
apart_from_once x w xs once some same = omega (arith, times_here w x xs same, once w)

behind_next : (v w : ℕ) (xs ys : List ℕ) → ((u : ℕ) → times u xs ≤ 1) → behind v xs ≡ w ∷ ys → behind w xs ≡ ys
behind_next v w [] ys once is = cc
behind_next v w (x ∷ xs) ys once is =
    let once_left : (u : ℕ) → times u xs ≤ 1 = λ u. omega (arith, fewer_left u x xs, once u) in
    elim (cases_eq x v) [
      | inl same ↦
          let rest : xs ≡ w ∷ ys = sym (behind_here v x xs same) ∙ is in
          let some : 1 ≤ times w xs = omega (arith, ap (times w) rest, in_head w ys) in
          behind_past w x xs (apart_from_once x w xs once some) ∙ (ap (behind w) rest ∙ behind_here w w ys refl)
      | inr other ↦
          let rest : behind v xs ≡ w ∷ ys = sym (behind_past v x xs other) ∙ is in
          let some : 1 ≤ times w xs = omega (arith, ap (times w) rest, in_head w ys, fewer_behind v w xs) in
          behind_past w x xs (apart_from_once x w xs once some) ∙ behind_next v w xs ys once_left rest
    ]

left_next : (xs : List ℕ) (after : Option ℕ) (w : ℕ) (ys : List ℕ) → ((u : ℕ) → times u xs ≤ 1) → left_after xs after ≡ w ∷ ys → behind w xs ≡ ys
left_next xs None w ys once is = ap (behind w) is ∙ behind_here w w ys refl
left_next xs (Some v) w ys once is = behind_next v w xs ys once is

told : (xs : List ℕ) (after : Option ℕ) (zs : List ℕ) → ((u : ℕ) → times u xs ≤ 1) → left_after xs after ≡ zs → zs ≡ list_from xs (first_in zs)
told xs after [] once is = refl
told xs after (w ∷ ys) once is = ap (λ r. w ∷ r) (sym (left_next xs after w ys once is))

pub left_is : (xs : List ℕ) (after : Option ℕ) → ((u : ℕ) → times u xs ≤ 1) → left_after xs after ≡ list_from xs (first_in (left_after xs after))
left_is xs after once = told xs after (left_after xs after) once refl

met : (xs zs : List ℕ) → ((w : ℕ) → times w zs ≤ times w xs) → IfSome (first_in zs) (λ w. 1 ≤ times w xs)
met xs [] fewer = tt
met xs (w ∷ ys) fewer = omega (arith, in_head w ys, fewer w)

pub next_stands : (xs : List ℕ) (after : Option ℕ) → IfSome (first_in (left_after xs after)) (λ w. 1 ≤ times w xs)
next_stands xs after = met xs (left_after xs after) (fewer_after xs after)

-- ---- where pointers lead
pub named_some : (n : ℕ) → n ≢ 0 → pointed_at n ≡ Some (n - 1)
named_some zero some = absurd (some refl)
named_some (suc n) some = let e : suc n - 1 ≡ n = omega arith in ap Some (sym e)

-- a pointer that is one more than a number names it, and no other does
pub named_at : (n k : ℕ) → (n ≡ k + 1 → pointed_at n ≡ Some k) × (pointed_at n ≡ Some k → n ≡ k + 1)
named_at zero k = (λ is. absurd (omega arith), λ is. cc)
named_at (suc n) k = (λ is. let e : n ≡ k = omega arith in ap Some e, λ is. let e : n ≡ k = cc in omega arith)

pub named_first : (a b : ℕ → ℕ) (p : ℕ) (xs : List ℕ) → IsChain a b p xs → pointed_at (a p) ≡ first_in xs
named_first a b p [] c = ap pointed_at c
named_first a b p (x ∷ xs) c = ap pointed_at c.0

chain_behind : (a b : ℕ → ℕ) (p v : ℕ) (xs : List ℕ) → IsChain a b p xs → 1 ≤ times v xs → IsChain a b (suc v) (behind v xs)
chain_behind a b p v [] c some = absurd (omega arith)
chain_behind a b p v (x ∷ xs) c some =
    elim (cases_eq x v) [
      | inl same ↦
          let rest : IsChain a b (suc v) xs = subst (λ u. IsChain a b (suc u) xs) same c.1.1 in
          subst (λ zs. IsChain a b (suc v) zs) (sym (behind_here v x xs same)) rest
      | inr other ↦ subst (λ zs. IsChain a b (suc v) zs) (sym (behind_past v x xs other)) (chain_behind a b (suc x) v xs c.1.1 (omega (arith, times_past v x xs other)))
    ]

pub named_next : (a b : ℕ → ℕ) (p v : ℕ) (xs : List ℕ) → IsChain a b p xs → 1 ≤ times v xs → pointed_at (a (suc v)) ≡ first_in (behind v xs)
named_next a b p v xs c some = named_first a b (suc v) (behind v xs) (chain_behind a b p v xs c some)

pub none_is_empty : (xs : List ℕ) → ((v : ℕ) → times v xs ≡ 0) → xs ≡ []
none_is_empty [] none = refl
none_is_empty (x ∷ xs) none = absurd (omega (arith, in_head x xs, none x))
