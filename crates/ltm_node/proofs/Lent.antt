-- The room of a row is written in place.
use Rattle.std.proofs.Common.{zero, suc, [], ◌∷◌, ◌++◌, drop, ◌≡◌, ℕ, ◌≤◌, List, take, length, refl, ap, sym, subst, ◌∙◌, arith}
use Rattle.std.proofs.lemmas.List.{take-take}
use Rattle.std.specs.List.{length_refill}
use Rattle.std.specs.Global.{Vec}
use Rattle.std.specs.Vec.{with_items}
use Rattle.ltm_node.specs.Lending.{with_numbers}
use Rattle.ltm_node.specs.Shape.{width}
use Rattle.ltm_node.specs.Inputs.{Inputs}
use Rattle.ltm_node.specs.declared.shape.NodeShape.{NodeShape}

-- the front of what is written over a list, and of what is written over its front
front_over : (a : ℕ) (ws items : List ℕ) → take a (ws ++ drop (length ws) items) ≡ take a (ws ++ drop (length ws) (take a items))
front_over a [] items = sym (take-take a a items (omega arith))
front_over zero (x ∷ ws) items = refl
front_over (suc a) (x ∷ ws) [] = refl
front_over (suc a) (x ∷ ws) (y ∷ items) = ap (λ (zs : List ℕ). x ∷ zs) (front_over a ws items)

-- what is written over the room is written over the row
pub inputs_lent : (shape : NodeShape) (v : Vec ℕ) (now : Inputs) (ws : List ℕ) →
    (let seen : Inputs = record { shape = shape; row = take (width shape) v.items; room = length v.items } in seen ≡ now) → width shape ≤ length v.items →
    (let left : Inputs = record { shape = shape; row = take (width shape) (with_items v ws).items; room = length (with_items v ws).items } in left ≡ with_numbers now ws)
inputs_lent shape v now ws seen fits =
    let Goal : Inputs → Type 0 = λ m.
    (let left : Inputs = record { shape = shape; row = take (width shape) (with_items v ws).items; room = length (with_items v ws).items } in left ≡ with_numbers m ws) in
    let long : v.len ≡ length v.items = v.ok.0 in
    let row : take (width shape) (with_items v ws).items ≡ take (width shape) (ws ++ drop (length ws) (take (width shape) v.items)) =
    take-take (width shape) v.len (ws ++ drop (length ws) v.items) (omega arith) ∙ front_over (width shape) ws v.items in
    let room : length (with_items v ws).items ≡ length v.items = sym (length_refill v.len v.items ws long) ∙ long in
    subst Goal seen (rw (row, room) refl)
