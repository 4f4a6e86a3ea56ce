-- The weights of a row are not all 0, where a link leads along its first branch.
use Rattle.std.proofs.Common.{◌≡◌, ℕ, ◌+◌, ◌%◌, ◌≤◌, ◌==◌, Bool, true, false, cond, List, get_or, map, sum, Option, refl, ap, ◌∙◌, arith}
use Rattle.std.proofs.lemmas.List.{get_or-map, length-map}
use Rattle.std.proofs.lemmas.List.Sums.{get_or-le-sum_by}
use Rattle.rand_pcg.specs.Lcg.{Lcg}
use Rattle.ltm_network.specs.Network.{NetworkData, head_of, out_links}
use Rattle.ltm_make.specs.declared.branches.Branch.{Branch}
use Rattle.ltm_make.specs.declared.branches.Way.{Way}
use Rattle.ltm_make.specs.Branches.{number, weight_of, weight_to, weight_if}
use Rattle.ltm_make.specs.Splits.{HasLink, way_of}
use Rattle.ltm_make.proofs.Counting.{is_same, is_other}

-- a branch with a least weight of 1 weighs something
weighs : (b : Branch) (g : Lcg) → b.least ≡ 1 → 1 ≤ weight_of b g
weighs b g one = elim (b.choices == 0) as (λ (t : Bool). 1 ≤ cond {A = ℕ} t b.least (b.least + Rattle.ltm_make.specs.Words.word g % b.choices)) [
  | true ↦ omega arith
  | false ↦ omega arith
]

pub some_weight : (d : NetworkData) (k : ℕ) (b : Branch) (g : Lcg) (second : Option Way) → HasLink d k b.to → b.least ≡ 1 →
    (sum (map (λ link. weight_to (way_of d b g) second (head_of d link)) (out_links d (number d k))) == 0) ≡ false
some_weight d k b g second h one =
    let weight : ℕ → ℕ = λ link. weight_to (way_of d b g) second (head_of d link) in
    let links : List ℕ = out_links d (number d k) in
    let leads : head_of d (get_or (out_links d (number d k)) h.place 0) ≡ number d b.to = h.leads in
    let here : weight_to (way_of d b g) second (head_of d (get_or (out_links d (number d k)) h.place 0)) ≡ weight_of b g =
    ap (λ (node : ℕ). weight_to (way_of d b g) second node) leads
    ∙ ap (λ (t : Bool). cond {A = ℕ} t (weight_of b g) (weight_if second (number d b.to))) (is_same (number d b.to) (number d b.to) refl) in
    let at : get_or (map weight (out_links d (number d k))) h.place 0 ≡ weight_of b g = get_or-map weight (out_links d (number d k)) h.place 0 0 h.inside ∙ here in
    let within = get_or-le-sum_by (λ (x : ℕ). x) (map weight (out_links d (number d k))) h.place 0 (omega (arith, h.inside, length-map (out_links d (number d k)) weight)) in
    is_other _ 0 (λ none. absurd (omega (arith, within, at, weighs b g one, none)))
