-- An index of positions beside a desk: for each link and slot, where among the entries the units lie that may leave.
--
-- A commit that changes what has entered a link finds by it which later slots read the change. Of a pair that is active or
-- claimed it need not know: such a pair is looked at anyway.
use Rattle.std.specs.Prelude.{◌≡◌, ℕ, ◌<◌, List, Bool, true, false}
use Rattle.ltm_loading.specs.Setting.{Setting, IsSetting}
use Rattle.ltm_loading.specs.Flows.{position}
use Rattle.ltm_loading.specs.Networks.{SameNetwork}
use Rattle.ltm_repair.specs.Desk.{Desk, IsIdle, IsOther}
use Rattle.ltm_repair.specs.Moves.{DropsSettled, TakesClaim, GivesBack, Commits, Accepts}

-- the place of an in-link of a node at a slot is its position now
abbrev pub IsPlaced : Setting → Desk → (ℕ → ℕ → ℕ) → ℕ → ℕ → Type 0
IsPlaced s d places u t = (i : ℕ) → i < s.ins u → places (s.in_link u i) t ≡ position s d.counts (s.in_link u i) t

-- of each pair that is neither active nor claimed the index has the positions which the pair has now
abbrev pub IndexIsCurrent : Setting → Desk → (ℕ → ℕ → ℕ) → Type 0
IndexIsCurrent s d places = (u t : ℕ) → u < s.nodes → t < s.slots → IsIdle d u t → IsPlaced s d places u t

-- the places of a node's in-links at a slot stay
abbrev pub PlaceStays : Setting → (ℕ → ℕ → ℕ) → (ℕ → ℕ → ℕ) → ℕ → ℕ → Type 0
PlaceStays s p q u t = (i : ℕ) → i < s.ins u → q (s.in_link u i) t ≡ p (s.in_link u i) t

-- a pair that is dropped is placed, and of no other pair does the index change
pub record PlacesDropped (s : Setting) (old new : Desk) (p q : ℕ → ℕ → ℕ) : Type 0 where
  pub placed : (u t : ℕ) → u < s.nodes → t < s.slots → old.active u t ≡ true → new.active u t ≡ false → IsPlaced s new q u t
  pub others : (u t : ℕ) → u < s.nodes → t < s.slots → new.active u t ≡ old.active u t → PlaceStays s p q u t

-- a pair that is committed is placed, of no other pair does the index change, and one that does not wake keeps its positions
pub record PlacesCommitted (s : Setting) (old new : Desk) (u t : ℕ) (wakes : ℕ → ℕ → Bool) (p q : ℕ → ℕ → ℕ) : Type 0 where
  pub placed : IsPlaced s new q u t
  pub others : (w v : ℕ) → w < s.nodes → v < s.slots → IsOther u t w v → PlaceStays s p q w v
  pub quiet : (w v i : ℕ) → w < s.nodes → v < s.slots → i < s.ins w → wakes w v ≡ false →
      position s new.counts (s.in_link w i) v ≡ position s old.counts (s.in_link w i) v

-- with a batch the index stays for old slots, and an old pair that is not touched keeps its positions
pub record PlacesAccepted (r s : Setting) (old : Desk) (touched : ℕ → ℕ → Bool) (p q : ℕ → ℕ → ℕ) : Type 0 where
  pub stays : (u t : ℕ) → u < s.nodes → t < r.slots → PlaceStays s p q u t
  pub quiet : (u t i : ℕ) → u < s.nodes → t < r.slots → i < s.ins u → touched u t ≡ false →
      position s old.counts (s.in_link u i) t ≡ position r old.counts (s.in_link u i) t

-- every move of a desk keeps the index current
pub record IndexStaysCurrent : Type 0 where
  pub drop : (s : Setting) (old new : Desk) (p q : ℕ → ℕ → ℕ) → DropsSettled s old new → PlacesDropped s old new p q →
      IndexIsCurrent s old p → IndexIsCurrent s new q
  pub take : (s : Setting) (old new : Desk) (u t : ℕ) (row : List ℕ) (p : ℕ → ℕ → ℕ) → TakesClaim s old u t row new →
      IndexIsCurrent s old p → IndexIsCurrent s new p
  pub give_back : (s : Setting) (old new : Desk) (u t : ℕ) (p : ℕ → ℕ → ℕ) → GivesBack old u t new →
      IndexIsCurrent s old p → IndexIsCurrent s new p
  pub commit : (s : Setting) (old new : Desk) (u t : ℕ) (row : List ℕ) (wakes : ℕ → ℕ → Bool) (p q : ℕ → ℕ → ℕ) →
      Commits s old u t row wakes new → PlacesCommitted s old new u t wakes p q → IndexIsCurrent s old p → IndexIsCurrent s new q
  pub accept : (r s : Setting) (old new : Desk) (touched : ℕ → ℕ → Bool) (p q : ℕ → ℕ → ℕ) → IsSetting s → SameNetwork r s →
      Accepts r s old touched new → PlacesAccepted r s old touched p q → IndexIsCurrent r old p → IndexIsCurrent s new q
