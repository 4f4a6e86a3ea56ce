-- What a link sends, by place in the list of a node.
use Rattle.std.proofs.Common.{◌≡◌, ◌≢◌, ℕ, zero, suc, ◌<◌, ◌⊎◌, List, [], ◌∷◌, length, slice_index, arith, sym, ap, ◌∙◌, inl, inr}
use Rattle.std.proofs.lemmas.Bool.{cases_lt, cases_eq}
use Rattle.ltm_curve.specs.Counts.{Counts}
use Rattle.ltm_loading.specs.Setting.{Setting}
use Rattle.ltm_loading.specs.Flows.{link_sending}
use Rattle.ltm_loading.proofs.Front.{earlier_front}
use Rattle.ltm_standing.specs.Listed.{Ascends, NotIn, IsListed}
use Rattle.ltm_standing.proofs.Thin.{ascends_before}
use Rattle.ltm_thin.proofs.Sending.{sends_entered}
use Rattle.ltm_lean_node.specs.Places.{Rises, ArePlaces, AreApart}
use Rattle.ltm_lean_node.proofs.Placing.{ascends_rise}

-- a place at which a list has a number
pub record HasPlace (xs : List ℕ) (x : ℕ) : Type 0 where
  pub place : ℕ
  pub within : place < length xs
  pub there : slice_index xs place ≡ x

nowhere_more : (y x : ℕ) (ys : List ℕ) → y ≢ x → NotIn ys x → NotIn (y ∷ ys) x
nowhere_more y x ys other none zero l = other
nowhere_more y x ys other none (suc i) l = none i (omega (arith, l))

-- there is one, or the number is nowhere
pub place_or_none : (xs : List ℕ) (x : ℕ) → HasPlace xs x ⊎ NotIn xs x
place_or_none [] x = inr (λ i l. absurd (omega (arith, l)))
place_or_none (y ∷ ys) x =
    elim (cases_eq y x) [
      | inl same ↦ inl (record { place = 0; within = omega arith; there = same })
      | inr other ↦ elim (place_or_none ys x) [
        | inl h ↦ inl (record { place = suc h.place; within = omega (arith, h.within); there = h.there })
        | inr none ↦ inr (nowhere_more y x ys other none)
      ]
    ]

-- numbers that rise stand once each
pub stands_once : (us : List ℕ) (i j : ℕ) → Rises us → i < length us → j < length us → slice_index us i ≡ slice_index us j → i ≡ j
stands_once us i j rise a b e =
    elim (cases_lt i j) [
      | inl low ↦ absurd (omega (arith, rise i j low b, e))
      | inr high ↦ elim (cases_lt j i) [
        | inl more ↦ absurd (omega (arith, rise j i more a, e))
        | inr least ↦ omega (arith, high, least)
      ]
    ]

-- so their places in another list are apart
pub places_apart : (ds us places : List ℕ) → Rises ds → ArePlaces ds us places → AreApart places (length us)
places_apart ds us places rise p i j l m inside e =
    let there : slice_index us (slice_index places j) ≡ slice_index ds j = p.there j (omega (arith, m, p.long)) inside in
    let here : slice_index us (slice_index places i) ≡ slice_index ds i = p.there i (omega (arith, l, m, p.long)) (omega (arith, inside, e)) in
    omega (arith, rise i j l (omega (arith, m, p.long)), sym here ∙ (ap (slice_index us) e ∙ there))

-- a number at no place is not in the list
pub not_placed : (ds us places : List ℕ) (k : ℕ) → Rises us → ArePlaces ds us places → k < length us → NotIn places k → NotIn ds (slice_index us k)
not_placed ds us places k rise p x none i l e =
    elim (cases_lt (slice_index places i) (length us)) [
      | inl inside ↦ none i (omega (arith, l, p.long)) (stands_once us (slice_index places i) k rise inside x (p.there i l inside ∙ e))
      | inr past ↦ p.none i l past k x (sym e)
    ]

-- numbers of a link at their places, and 0 at the others, are what the link sends of the node's list
pub sent_at : (s : Setting) (c : Counts) (l t wide : ℕ) (ds us places numbers row : List ℕ) → IsListed s c l ds → t < s.slots → Ascends 0 s.destinations us → ArePlaces ds us places → length us ≡ wide → length numbers ≡ length ds
    → ((i : ℕ) → i < length ds → slice_index numbers i ≡ link_sending s c l t (slice_index ds i))
    → ((i : ℕ) → i < length numbers → slice_index places i < wide → slice_index row (slice_index places i) ≡ slice_index numbers i)
    → ((x : ℕ) → x < wide → ((i : ℕ) → i < length numbers → slice_index places i ≢ x) → slice_index row x ≡ 0)
    → (k : ℕ) → k < length us → slice_index row k ≡ link_sending s c l t (slice_index us k)
sent_at s c l t wide ds us places numbers row h m order p long same sent here others k x =
    elim (place_or_none places k) [
      | inl at ↦
          let inside : at.place < length ds = omega (arith, at.within, p.long) in
          let value : slice_index row k ≡ slice_index numbers at.place = sym (ap (slice_index row) at.there) ∙ here at.place (omega (arith, inside, same)) (omega (arith, at.there, x, long)) in
          let number : slice_index us k ≡ slice_index ds at.place = sym (ap (slice_index us) at.there) ∙ p.there at.place inside (omega (arith, at.there, x)) in
          value ∙ (sent at.place inside ∙ ap (link_sending s c l t) (sym number))
      | inr none ↦
          let below : slice_index us k < s.destinations = ascends_before 0 s.destinations us order k x in
          let zero : link_sending s c l t (slice_index us k) ≡ 0 =
          sends_entered s c l t (slice_index us k) h.setting (earlier_front s c s.slots t h.loading.front (omega (arith, m))) h.link below
          (h.others (slice_index us k) t below (omega (arith, m)) (not_placed ds us places k (ascends_rise 0 s.destinations us order) p x none)) in
          others k (omega (arith, x, long)) (λ i a. none i (omega (arith, a, same, p.long))) ∙ sym zero
    ]
