-- The records from a place of a text on are the next one and those behind it.
use Rattle.std.proofs.Common.{ℕ, zero, suc, ◌≡◌, ◌+◌, ◌≤◌, List, [], ◌∷◌, ◌++◌, length, Option, Some, None, true, false, Bool, cond, inl, inr, refl, ap, sym, ◌∙◌, ◌⊎◌, arith}
use Rattle.csv.specs.Machine.{Read, next_record, step, is_end, fields_after, field_after, ends_at_end}
use Rattle.csv.specs.Reading.{records_from, records_next}
use Rattle.csv.specs.declared.parser.Config.{Config}
use Rattle.csv.specs.declared.parser.State.{State}
use Rattle.csv.specs.declared.parser.State.TheVariants as st

chosen : {A : Type 0} (b : Bool) (x y z : A) → cond b x y ≡ z → ((b ≡ true) × (x ≡ z)) ⊎ ((b ≡ false) × (y ≡ z))
chosen true x y z h = inl (refl, h)
chosen false x y z h = inr (refl, h)

-- what is left is no longer than what there was
shrinks : (cfg : Config) (s : State) (fields : List (List ℕ)) (field xs : List ℕ) (q : Read) → next_record cfg s fields field xs ≡ Some q → length q.2 ≤ length xs
unfolding next_record
shrinks cfg s fields field [] q h = elim (chosen (ends_at_end s) (Some (fields ++ (field ∷ []), st.StartRecord, [])) None (Some q) h) [
  | inl e ↦ let same : [] ≡ q.2 = cc in omega (arith, ap length same)
  | inr e ↦ cc
]
shrinks cfg s fields field (c ∷ rest) q h = elim (chosen (is_end (step cfg s c).1) _ _ (Some q) h) [
  | inl e ↦ let same : rest ≡ q.2 = cc in omega (arith, ap length same)
  | inr e ↦ omega (arith, shrinks cfg (step cfg s c).0 (fields_after (step cfg s c).1 fields field) (field_after (step cfg s c).1 c field) rest q e.1)
]

-- and shorter, where there was a byte
pub shrinks_more : (cfg : Config) (s : State) (c : ℕ) (rest : List ℕ) (q : Read) → next_record cfg s [] [] (c ∷ rest) ≡ Some q → length q.2 ≤ length rest
unfolding next_record
shrinks_more cfg s c rest q h = elim (chosen (is_end (step cfg s c).1) _ _ (Some q) h) [
  | inl e ↦ let same : rest ≡ q.2 = cc in omega (arith, ap length same)
  | inr e ↦ shrinks cfg (step cfg s c).0 (fields_after (step cfg s c).1 [] []) (field_after (step cfg s c).1 c []) rest q e.1
]

-- at the end of a text stands at most one record, and none behind it
pub last : (cfg : Config) (s : State) (q : Read) → next_record cfg s [] [] [] ≡ Some q → (q.1 ≡ st.StartRecord) × (q.2 ≡ [])
unfolding next_record
last cfg s q h = elim (chosen (ends_at_end s) (Some ([] ++ ([] ∷ []), st.StartRecord, [])) None (Some q) h) [
  | inl e ↦ (cc, cc)
  | inr e ↦ cc
]

none_left : (cfg : Config) (n : ℕ) → records_from cfg n st.StartRecord [] ≡ []
unfolding records_from next_record
none_left cfg zero = refl
none_left cfg (suc n) = refl

none_behind : (cfg : Config) (n : ℕ) (s : State) (q : Read) → next_record cfg s [] [] [] ≡ Some q → records_from cfg n q.1 q.2 ≡ []
none_behind cfg n s q h =
    let e = last cfg s q h in
    rw (e.0, e.1) (none_left cfg n)

abbrev Behind : Config → ℕ → ℕ → Option Read → Type 0
Behind cfg n m None = Unit {0}
Behind cfg n m (Some q) = records_from cfg n q.1 q.2 ≡ records_from cfg m q.1 q.2

same_next : (cfg : Config) (n m : ℕ) (o : Option Read) → Behind cfg n m o → records_next (records_from cfg n) o ≡ records_next (records_from cfg m) o
same_next cfg n m None h = refl
same_next cfg n m (Some q) h = ap (λ rows. q.0 ∷ rows) h

-- two bounds that give the same records of each text under them
abbrev Agree : Config → ℕ → ℕ → Type 0
Agree cfg n m = (s : State) (xs : List ℕ) → length xs + 1 ≤ n → length xs + 1 ≤ m → records_from cfg n s xs ≡ records_from cfg m s xs

behind : (cfg : Config) (n m : ℕ) (s : State) (xs : List ℕ) (o : Option Read) → Agree cfg n m → next_record cfg s [] [] xs ≡ o → length xs + 1 ≤ suc n → length xs + 1 ≤ suc m → Behind cfg n m o
behind cfg n m s xs None agree e h k = tt
behind cfg n m s [] (Some q) agree e h k = none_behind cfg n s q e ∙ sym (none_behind cfg m s q e)
behind cfg n m s (c ∷ rest) (Some q) agree e h k =
    let short = shrinks_more cfg s c rest q e in
    agree q.1 q.2 (omega arith) (omega arith)

-- above the number of bytes a bound makes no difference
pub enough : (cfg : Config) (n m : ℕ) → Agree cfg n m
unfolding records_from
enough cfg zero m s xs h k = absurd (omega arith)
enough cfg (suc n) zero s xs h k = absurd (omega arith)
enough cfg (suc n) (suc m) s xs h k =
    same_next cfg n m (next_record cfg s [] [] xs) (behind cfg n m s xs (next_record cfg s [] [] xs) (enough cfg n m) refl h k)

-- the records behind the next one, under the bound of the text that is left
pub behind_next : (cfg : Config) (s : State) (xs : List ℕ) (q : Read) → next_record cfg s [] [] xs ≡ Some q → records_from cfg (length xs) q.1 q.2 ≡ records_from cfg (length q.2 + 1) q.1 q.2
behind_next cfg s [] q e = none_behind cfg 0 s q e ∙ sym (none_behind cfg (length q.2 + 1) s q e)
behind_next cfg s (c ∷ rest) q e =
    let short = shrinks_more cfg s c rest q e in
    enough cfg (length (c ∷ rest)) (length q.2 + 1) q.1 q.2 (omega arith) (omega arith)
