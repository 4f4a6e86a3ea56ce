-- Every move of a desk keeps the index current.
use Rattle.std.proofs.Common.{◌≡◌, ℕ, ◌+◌, ◌*◌, ◌<◌, arith, inl, inr, ap, subst, sym, ◌∙◌, Bool, true, false, ◌||◌, List}
use Rattle.std.specs.Prelude.{Some, None, is_some}
use Rattle.std.proofs.lemmas.Bool.{cases_lt, cases_Bool}
use Rattle.ltm_loading.specs.Setting.{Setting, IsSetting}
use Rattle.ltm_loading.specs.Flows.{position}
use Rattle.ltm_loading.specs.Networks.{SameNetwork}
use Rattle.ltm_loading.proofs.Same.{position_same}
use Rattle.ltm_repair.specs.Desk.{Desk, IsIdle}
use Rattle.ltm_repair.specs.Moves.{DropsSettled, TakesClaim, GivesBack, Commits, Accepts}
use Rattle.ltm_repair.specs.Index.{IsPlaced, IndexIsCurrent, PlaceStays, PlacesDropped, PlacesCommitted, PlacesAccepted, IndexStaysCurrent}
use Rattle.ltm_repair.proofs.Cases.{cases_pair, or_none, is_some_none}

-- where no count changes no position does
same_place : (s : Setting) (old new : Desk) (p : ℕ → ℕ → ℕ) (u t : ℕ) → new.counts ≡ old.counts → IsPlaced s old p u t → IsPlaced s new p u t
same_place s old new p u t counts h = rw counts h

moved_place : (s : Setting) (d : Desk) (p q : ℕ → ℕ → ℕ) (u t : ℕ) → PlaceStays s p q u t → IsPlaced s d p u t → IsPlaced s d q u t
moved_place s d p q u t stays h = λ i l. stays i l ∙ h i l

drop : (s : Setting) (old new : Desk) (p q : ℕ → ℕ → ℕ) → DropsSettled s old new → PlacesDropped s old new p q → IndexIsCurrent s old p → IndexIsCurrent s new q
drop s old new p q step places current u t x l idle =
    elim (cases_Bool (old.active u t)) [
      | inl was ↦ places.placed u t x l was idle.0
      | inr not ↦
          let before : IsIdle old u t = (not, rw step.claimed at idle.1) in
          same_place s old new q u t step.work.counts (moved_place s old p q u t (places.others u t x l (idle.0 ∙ sym not)) (current u t x l before))
    ]

take : (s : Setting) (old new : Desk) (u t : ℕ) (row : List ℕ) (p : ℕ → ℕ → ℕ) → TakesClaim s old u t row new → IndexIsCurrent s old p → IndexIsCurrent s new p
take s old new u t row p step current w v x l idle =
    elim (cases_pair u t w v) [
      | inl at ↦ let holds : new.claimed w v ≡ Some row = rw (← at.0, ← at.1) step.holds in let none : new.claimed w v ≡ None = idle.1 in absurd (cc)
      | inr other ↦
          let before : IsIdle old w v = (sym (step.others.active w v other) ∙ idle.0, sym (step.others.claimed w v other) ∙ idle.1) in
          same_place s old new p w v step.work.counts (current w v x l before)
    ]

give_back : (s : Setting) (old new : Desk) (u t : ℕ) (p : ℕ → ℕ → ℕ) → GivesBack old u t new → IndexIsCurrent s old p → IndexIsCurrent s new p
give_back s old new u t p step current w v x l idle =
    elim (cases_pair u t w v) [
      | inl at ↦ let on : new.active w v ≡ true = rw (← at.0, ← at.1) step.again in let off : new.active w v ≡ false = idle.0 in absurd (cc)
      | inr other ↦
          let before : IsIdle old w v = (sym (step.others.active w v other) ∙ idle.0, sym (step.others.claimed w v other) ∙ idle.1) in
          same_place s old new p w v step.work.counts (current w v x l before)
    ]

commit : (s : Setting) (old new : Desk) (u t : ℕ) (row : List ℕ) (wakes : ℕ → ℕ → Bool) (p q : ℕ → ℕ → ℕ) →
    Commits s old u t row wakes new → PlacesCommitted s old new u t wakes p q → IndexIsCurrent s old p → IndexIsCurrent s new q
commit s old new u t row wakes p q step places current w v x l idle =
    elim (cases_pair u t w v) [
      | inl at ↦ rw (← at.0, ← at.1) places.placed
      | inr other ↦
          let both : (old.active w v ≡ false) × (wakes w v ≡ false) = or_none (old.active w v) (wakes w v) (sym (step.active w v) ∙ idle.0) in
          let before : IsIdle old w v = (both.0, sym (step.claimed w v other) ∙ idle.1) in
          λ i m. places.others w v x l other i m ∙ current w v x l before i m ∙ sym (places.quiet w v i x l m both.1)
    ]

-- a position at an old slot is that of the old counts
old_position : (r s : Setting) (old new : Desk) (touched : ℕ → ℕ → Bool) (l t : ℕ) → IsSetting s → Accepts r s old touched new → l < s.links → t < r.slots →
    position s new.counts l t ≡ position s old.counts l t
old_position r s old new touched l t v step x y =
    position_same s new.counts old.counts l t v
    (record { same = λ d k m low. step.grows.old_counts (2 * l) d k (omega arith) m (omega arith) })
    (record { same = λ d k m low. step.grows.old_counts (2 * l + 1) d k (omega arith) m (omega arith) }) x

accept : (r s : Setting) (old new : Desk) (touched : ℕ → ℕ → Bool) (p q : ℕ → ℕ → ℕ) → IsSetting s → SameNetwork r s →
    Accepts r s old touched new → PlacesAccepted r s old touched p q → IndexIsCurrent r old p → IndexIsCurrent s new q
accept r s old new touched p q v same step places current u t x l idle =
    elim (cases_lt t r.slots) [
      | inr late ↦ let on : new.active u t ≡ true = step.new_active u t x late l in let off : new.active u t ≡ false = idle.0 in absurd (cc)
      | inl early ↦
          let first : ((old.active u t || is_some (old.claimed u t)) ≡ false) × (touched u t ≡ false) =
          or_none (old.active u t || is_some (old.claimed u t)) (touched u t) (sym (step.old_active u t early) ∙ idle.0) in
          let second : (old.active u t ≡ false) × (is_some (old.claimed u t) ≡ false) = or_none (old.active u t) (is_some (old.claimed u t)) first.0 in
          let before : IsIdle old u t = (second.0, is_some_none (old.claimed u t) second.1) in
          let node : u < r.nodes = omega (arith, same.nodes) in
          let ins : r.ins u ≡ s.ins u = ap (λ (f : ℕ → ℕ). f u) same.ins in
          λ i m.
          let link : r.in_link u i ≡ s.in_link u i = ap (λ (f : ℕ → ℕ → ℕ). f u i) same.in_link in
          let P : ℕ → Type 0 = λ z. p z t ≡ position r old.counts z t in
          let there : P (s.in_link u i) = subst P link (current u t node early before i (omega (arith, ins))) in
          places.stays u t x early i m ∙ there ∙ sym (places.quiet u t i x early m first.1) ∙ sym (old_position r s old new touched (s.in_link u i) t v step (v.network.in_link_is_link u i x m) early)
    ]

pub index_stays_current : IndexStaysCurrent
index_stays_current = record { drop = drop; take = take; give_back = give_back; commit = commit; accept = accept }
