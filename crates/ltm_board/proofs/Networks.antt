-- No batch changes the network.
use Rattle.std.proofs.Common.{◌≡◌, ℕ, ◌+◌, List, [], ◌∷◌, Ok, Err, Result, refl, sym, ap, ◌∙◌}
use Rattle.ltm_scenario.specs.declared.edit.Edit.{Edit}
use Rattle.ltm_scenario.specs.declared.edit.EditCause.{EditCause}
use Rattle.ltm_scenario.specs.Data.{ScenarioData}
use Rattle.ltm_scenario.specs.Build.{◌>>=◌}
use Rattle.ltm_scenario.specs.Edits.{edited, edited_from, at_place}
use Rattle.ltm_scenario.specs.Makes.{Makes, EditsMake, demand, entry, exit, split, splits, diagram, horizon}
use Rattle.ltm_core.specs.Log.{AreAccepted, after_batch, after_batches}

made : (s next : ScenarioData) (edit : Edit) → Makes s next edit → next.network ≡ s.network
made s next edit (demand origin destination from to amount row said) = refl
made s next edit (entry name from to amount link said) = refl
made s next edit (exit name from to amount link said) = refl
made s next edit (split node destination from weights key said) = refl
made s next edit (splits node destination rows n d said) = refl
made s next edit (diagram name new link named sets) = refl
made s next edit (horizon slots said) = refl

-- a chain that ends well went well at each step
bound : {A B F : Type 0} (r : Result A F) (next : A → Result B F) (y : B) → (r >>= next) ≡ Ok y → (x : A) × (r ≡ Ok x) × (next x ≡ Ok y)
bound (Ok x) next y is = (x, refl, is)
bound (Err fault) next y is = cc

placed : {A : Type 0} (place : ℕ) (r : Result A EditCause) (x : A) → at_place place r ≡ Ok x → r ≡ Ok x
placed place (Ok y) x is = cc
placed place (Err cause) x is = cc

by_edits : EditsMake → (place : ℕ) (s next : ScenarioData) (edits : List Edit) → edited_from place s edits ≡ Ok next → next.network ≡ s.network
by_edits make place s next [] is = let same : s ≡ next = cc in ap (λ (z : ScenarioData). z.network) (sym same)
by_edits make place s next (edit ∷ edits) is =
    let one = bound (at_place place (edited s edit)) (λ (mid : ScenarioData). edited_from (place + 1) mid edits) next is in
    let mid : ScenarioData = one.0 in
    by_edits make (place + 1) mid next edits one.2 ∙ made s mid edit (make s mid edit (placed place (edited s edit) mid one.1))

pub by_batches : EditsMake → (s : ScenarioData) (batches : List (List Edit)) → AreAccepted s batches → (after_batches s batches).network ≡ s.network
by_batches make s [] ok = refl
by_batches make s (batch ∷ batches) ok = by_batches make (after_batch s batch) batches ok.1 ∙ by_edits make 1 s (after_batch s batch) batch ok.0
