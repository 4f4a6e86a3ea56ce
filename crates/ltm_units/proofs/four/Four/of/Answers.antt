use Rattle.std.proofs.Common.{◌≡◌, ℕ, ◌≤◌, ◌-◌, ◌++◌, ◌∷◌, zero, suc, [], List, length, take, drop, true, refl, sym, ap, ◌∙◌, arith}
use Rattle.std.specs.Prelude.{replicate, get_or}
use Rattle.std.proofs.lemmas.List.{take_at}
use Rattle.std.proofs.lemmas.Grind.{common_steps}
use Rattle.ltm_units.specs.Places.{is_few, in_places}
use Rattle.ltm_units.proofs.four.Four.of.Goals as goal

rest : {T : Type 0} (x : T) (n : ℕ) → n ≤ 3 → drop {A = T} (suc n) (x ∷ x ∷ x ∷ x ∷ []) ≡ replicate (3 - n) x
rest x zero h = refl
rest x (suc zero) h = refl
rest x (suc (suc zero)) h = refl
rest x (suc (suc (suc zero))) h = refl
rest x (suc (suc (suc (suc n)))) h = absurd (omega arith)

filled : {T : Type 0} (xs : List T) (first : T) → is_few xs ≡ true → first ≡ get_or xs 0 first → xs ++ drop {A = T} (length xs) (first ∷ first ∷ first ∷ first ∷ []) ≡ in_places xs
filled [] first few is = cc
filled (x ∷ xs) first few is =
    let short : length (x ∷ xs) ≤ 4 = grind (arith, common_steps) in
    ap (λ f. (x ∷ xs) ++ drop (suc (length xs)) (f ∷ f ∷ f ∷ f ∷ [])) is ∙ ap (λ back. (x ∷ xs) ++ back) (rest x (length xs) (omega arith))

pub invariant_of-result : goal.invariant_of-result
invariant_of-result g c =
    let values = c.args.values.now in
    let first = c.index-values-0.result in
    let few : is_few values ≡ true = grind (arith, common_steps) in
    let copied : c.copy_from_slice.new.self ≡ values = c.copy_from_slice.ensures.after in
    let all = ap (λ front. front ++ drop (length values) (first ∷ first ∷ first ∷ first ∷ [])) copied ∙ filled values first few c.index-values-0.is in
    let front : take (length values) (c.copy_from_slice.new.self ++ drop (length values) (first ∷ first ∷ first ∷ first ∷ [])) ≡ values =
    take_at c.copy_from_slice.new.self (drop (length values) (first ∷ first ∷ first ∷ first ∷ [])) (length values) (ap length copied) ∙ copied in
    (ap is_few front ∙ few, c.if-values-gt4.false, all ∙ ap in_places (sym front))
