-- What the parts of a search make of the answer of a claim.
use Rattle.std.proofs.Common.{◌≡◌, ℕ, ◌<◌, ◌+◌, List, true, false, inl, inr, refl, sym, subst, ◌∙◌, arith}
use Rattle.std.specs.Prelude.{Some, None}
use Rattle.std.proofs.lemmas.Bool.{cases_lt}
use Rattle.ltm_node.specs.Inputs.{Inputs}
use Rattle.ltm_loading.specs.Setting.{Setting}
use Rattle.ltm_loading.specs.Pairs.{pair_row}
use Rattle.ltm_repair.specs.Desk.{Desk, IsSettled, IsAtRest, IsIdleBefore}
use Rattle.ltm_repair.specs.Moves.{DropsSettled, TakesClaim}
use Rattle.ltm_repair.specs.Answers.{Got, NotYet, Rest, HasClaimAt, IsSettledAt, IsNoneClaimed, DropsAtFront}
use Rattle.ltm_working.specs.declared.table.Table.{Table}
use Rattle.ltm_working.specs.Desks.{desk_at}
use Rattle.ltm_working.specs.Searching.{AnswersSearch, IsFound}
use Rattle.ltm_working.specs.Dropping.{DropsAt, NoneActive}

-- a pair that is taken was active before the settled ones were dropped, and is not settled
not_settled : (s : Setting) (d m : Desk) (u t : ℕ) (row : List ℕ) (e : Desk) → DropsSettled s d m → TakesClaim s m u t row e → u < s.nodes → IsSettledAt s d t → ⊥
not_settled s d m u t row e drops takes x settled =
    let on : m.active u t ≡ true = takes.was_active in
    let was : d.active u t ≡ true = elim (drops.each u t) [
      | inl same ↦ sym same ∙ on
      | inr gone ↦ let off : m.active u t ≡ false = gone.0 in absurd (cc)
    ] in
    let is : d.kept u t ≡ Some (pair_row s d.counts u t) = settled u x was in
    let now : row ≡ pair_row s m.counts u t = takes.claim.now in
    takes.claim.changed (rw (now, drops.work.kept, drops.work.counts) is)

-- what is idle after settled pairs were dropped was settled if it was active
dropped_settled : (s : Setting) (d m : Desk) (u t : ℕ) → DropsSettled s d m → m.active u t ≡ false → d.active u t ≡ true → IsSettled s d u t
dropped_settled s d m u t drops off was = elim (drops.each u t) [
  | inl same ↦ absurd (cc)
  | inr gone ↦ gone.1
]

pub drops_free : (s : Setting) (d m : Desk) → DropsSettled s d m → IsNoneClaimed s d → DropsAtFront s d m
drops_free s d m drops none = record { drops = drops; front = λ t u v has on off. absurd (has.3 (none has.0 t has.1 has.2)) }

pub drops_one : (s : Setting) (d m : Desk) (t : ℕ) → DropsAt s d t m → ((v : ℕ) → HasClaimAt s d v → v ≡ t) → DropsAtFront s d m
drops_one s d m t drops one = record { drops = drops.drops; front = λ t' u v has on off. drops.only u v on off ∙ sym (one t' has) }

-- a claim stands where it stood before settled pairs were dropped, and nowhere else
claims_still : (s : Setting) (d m : Desk) (v : ℕ) → DropsSettled s d m → HasClaimAt s d v → HasClaimAt s m v
claims_still s d m v drops has = (has.0, has.1, has.2, λ none. has.3 (rw (← drops.claimed) none))

pub claims_then : (s : Setting) (d m : Desk) (v : ℕ) → DropsSettled s d m → HasClaimAt s m v → HasClaimAt s d v
claims_then s d m v drops has = (has.0, has.1, has.2, λ none. has.3 (rw drops.claimed none))

-- a pair that is found and taken is the answer
pub found_answers : (s : Setting) (d : Desk) (m : Table) (u t ticket : ℕ) (n : Inputs) (row : List ℕ) (e : Desk) → DropsAtFront s d (desk_at s m) → IsFound s m u t n → TakesClaim s (desk_at s m) u t row e →
    AnswersSearch s d (Got u t ticket row) e
found_answers s d m u t ticket n row e drops found takes =
    let none : IsSettledAt s d t → ⊥ = not_settled s d (desk_at s m) u t row e drops.drops takes takes.claim.is_node in
    record {
      desk = (desk_at s m, drops, takes);
      not_yet = (
        λ is. absurd (cc),
        λ has. absurd (none (let P : ℕ → Type 0 = λ z. IsSettledAt s d z in subst P (found.one_slot has.0 (claims_still s d (desk_at s m) has.0 drops.drops has.1)) has.2)),
      );
      rest = (λ is. absurd (cc), λ all. absurd (none (all.1 t takes.claim.is_slot)));
    }

pub first_none : (s : Setting) (d m : Desk) → DropsSettled s d m → IsAtRest s m → IsNoneClaimed s d → AnswersSearch s d Rest m
first_none s d m drops rest none = record {
  desk = (drops_free s d m drops none, rest);
  not_yet = (λ is. absurd (cc), λ has. absurd (has.1.3 (none has.1.0 has.0 has.1.1 has.1.2)));
  rest = (λ is. (none, λ t l u x on. dropped_settled s d m u t drops (rest u t x l).0 on), λ all. refl);
}

pub beside_none : (s : Setting) (d m : Desk) (t : ℕ) → DropsAt s d t m → HasClaimAt s d t → ((v : ℕ) → HasClaimAt s d v → v ≡ t) → NoneActive m t s.nodes → AnswersSearch s d NotYet m
beside_none s d m t drops has one off = record {
  desk = drops_one s d m t drops one;
  not_yet = (λ is. (t, has, λ u x on. dropped_settled s d m u t drops.drops (off u x) on), λ all. refl);
  rest = (λ is. absurd (cc), λ all. absurd (has.3 (all.0 has.0 t has.1 has.2)));
}

-- ---- from slot to slot
-- where none is claimed and no node of a slot is active, all pairs up to the slot's end are idle
pub idle_more : (s : Setting) (d m : Desk) (slot : ℕ) → DropsAt s d slot m → slot < s.slots → IsNoneClaimed s d → IsIdleBefore s m slot → NoneActive m slot s.nodes → IsIdleBefore s m (slot + 1)
idle_more s d m slot drops l none before off = λ u t x below. elim (cases_lt t slot) [
  | inl low ↦ before u t x low
  | inr high ↦
      let at : slot ≡ t = omega arith in
      (subst (λ (z : ℕ). m.active u z ≡ false) at (off u x), subst (λ (z : ℕ). m.claimed u z ≡ None) at (rw drops.drops.claimed (none u slot x l)))
]

pub none_then : (s : Setting) (d m : Desk) → DropsSettled s d m → IsNoneClaimed s d → IsNoneClaimed s m
none_then s d m drops none = λ u t x l. rw drops.claimed (none u t x l)
