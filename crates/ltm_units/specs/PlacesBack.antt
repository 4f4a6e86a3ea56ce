-- Four places are values and repetitions, so the values give them back.
use Rattle.std.specs.Prelude.{ℕ, ◌≡◌, ◌≤◌, ◌-◌, true, List, [], ◌∷◌, length, take, replicate}
use Rattle.std.proofs.Common.{arith, ap, ◌∙◌, length-append}
use Rattle.std.proofs.lemmas.List.{length-replicate, length-take}
use Rattle.std.proofs.lemmas.Grind.{common_steps}
use Rattle.ltm_units.specs.Places.{is_few, in_places}

-- the places are four
pub four_places : {T : Type 0} (xs : List T) → is_few xs ≡ true → length (in_places xs) ≡ 4
four_places [] few = cc
four_places (x ∷ xs) few =
    let short : length (x ∷ xs) ≤ 4 = grind (arith, common_steps) in
    omega (arith, length-append (x ∷ xs) (replicate (3 - length xs) x), length-replicate (3 - length xs) x)

-- so many of four places as there are values
pub count_back : {T : Type 0} (places : List T) (count : ℕ) → is_few (take count places) ≡ true → count ≤ 4
    → places ≡ in_places (take count places) → length (take count places) ≡ count
count_back places count few short is =
    let long : length places ≡ 4 = ap length is ∙ four_places (take count places) few in
    omega (arith, length-take count places)
