use Rattle.std.proofs.Common.{◌≡◌, ℕ, ◌<◌, ◌∙◌, List, length, take, arith, sym}
use Rattle.std.proofs.lemmas.List.{ext_get_or, get_or-take, length-take-le}
use Rattle.ltm_inputs.proofs.numbers.put_fours.Goals as goal

pub returns-clause-written : goal.returns-clause-written
returns-clause-written c =
    let p : ℕ = c.loop-place.place in
    let xs : List ℕ = c.loop-place.into in
    let ys : List ℕ = c.args.numbers.now in
    let x : length (take p xs) ≡ p = length-take-le p xs (omega (arith, c.loop-place.invariant.1.0, c.loop-place.auto.into, c.requires)) in
    let y : length (take p ys) ≡ p = length-take-le p ys c.loop-place.invariant.1.0 in
    ext_get_or 0 (take p xs) (take p ys) (x ∙ sym y) (λ k l.
    let less : k < p = omega (arith, l, x) in
    get_or-take p xs k 0 less ∙ (c.loop-place.invariant.1.1 k less ∙ sym (get_or-take p ys k 0 less)))
