use Rattle.std.specs.Prelude.{◌≡◌, ℕ, ◌+◌, ◌-◌, ◌*◌, ◌/◌, ◌≤◌, List, [], ◌∷◌, sum, slice_index}

-- the nested split of an amount over parts: the first part takes its share of the amount, rounded
-- down, and the rest of the amount goes to the other parts in the same way
abbrev pub nested_split : ℕ → List ℕ → List ℕ
nested_split amount [] = []
nested_split amount (part ∷ parts) =
    let share = amount * part / (part + sum parts) in share ∷ nested_split (amount - share) parts

-- the shares sum to the amount, where the parts are not all 0 or the amount is 0
abbrev pub SharesMakeTheAmount : Type 0
SharesMakeTheAmount =
    (parts : List ℕ) (amount : ℕ) → (sum parts ≡ 0 → amount ≡ 0) → sum (nested_split amount parts) ≡ amount

-- no share falls as the amount rises
abbrev pub SharesRise : Type 0
SharesRise =
    (parts : List ℕ) (less more : ℕ) → less ≤ more →
    (k : ℕ) → slice_index (nested_split less parts) k ≤ slice_index (nested_split more parts) k

-- the split of the sum of the parts is the parts
abbrev pub WholeSplits : Type 0
WholeSplits = (parts : List ℕ) → nested_split (sum parts) parts ≡ parts
