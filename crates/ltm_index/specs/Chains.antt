-- Lists of slots, and the pointers that hold them. A pointer is 0 where it names nothing, and else one more than the slot
-- that it names.
use Rattle.std.specs.Prelude.{◌≡◌, ℕ, ◌+◌, ◌==◌, cond, not, List, [], ◌∷◌, filter, Option, Some, None}
use Rattle.std.proofs.Common.{zero, suc}
use Rattle.std.specs.Coded.{×_prop}
use Rattle.std.proofs.Math.Nat.{ℕ_set}

-- how often a slot stands in a list
abbrev pub times : ℕ → List ℕ → ℕ
times v [] = 0
times v (x ∷ xs) = cond (x == v) 1 0 + times v xs

-- the list without a slot
abbrev pub without : ℕ → List ℕ → List ℕ
without v xs = filter (λ x. not (x == v)) xs

-- what follows a slot in a list
abbrev pub behind : ℕ → List ℕ → List ℕ
behind v [] = []
behind v (x ∷ xs) = cond (x == v) xs (behind v xs)

-- the whole list, or what follows a slot in it
abbrev pub left_after : List ℕ → Option ℕ → List ℕ
left_after xs None = xs
left_after xs (Some v) = behind v xs

-- the list from a slot on, with it, or nothing
abbrev pub list_from : List ℕ → Option ℕ → List ℕ
list_from xs None = []
list_from xs (Some v) = v ∷ behind v xs

-- the first slot of a list
abbrev pub first_in : List ℕ → Option ℕ
first_in [] = None
first_in (x ∷ xs) = Some x

-- what a pointer names
abbrev pub pointed_at : ℕ → Option ℕ
pointed_at zero = None
pointed_at (suc v) = Some v

-- the slots that are met from a pointer on, where each slot leads on to another pointer; at most so many
abbrev pub walk : (ℕ → ℕ) → ℕ → ℕ → List ℕ
walk after zero pointer = []
walk after (suc most) zero = []
walk after (suc most) (suc v) = v ∷ walk after most (after (suc v))

-- the slots of a list lead on from one to the next, the last to nothing, and each back to the one before
abbrev pub IsChain : (ℕ → ℕ) → (ℕ → ℕ) → ℕ → List ℕ → Type 0
IsChain after before pointer [] = after pointer ≡ 0
IsChain after before pointer (x ∷ xs) = (after pointer ≡ suc x) × ((before x ≡ pointer) × IsChain after before (suc x) xs)

pub IsChain-prop : (after before : ℕ → ℕ) (pointer : ℕ) (xs : List ℕ) → IsProp (IsChain after before pointer xs)
IsChain-prop after before pointer [] = ℕ_set _ _
IsChain-prop after before pointer (x ∷ xs) = ×_prop (ℕ_set _ _) (×_prop (ℕ_set _ _) (IsChain-prop after before (suc x) xs))
