use Rattle.std.proofs.Common.{◌≡◌, ℕ, ◌<◌, ◌≤◌, List, take, set, length, get_or, replicate, refl, ap, sym, subst, ◌∙◌, arith}
use Rattle.std.proofs.Math.ListN.{length-set}
use Rattle.std.proofs.Math.Seq.{take-set-lt}
use Rattle.std.proofs.lemmas.List.{get_or-take, get_or-replicate, length-take-le, length-replicate}
use Rattle.std.proofs.lemmas.Grind.{same_number_lists}
use Rattle.ltm_node.specs.Shape.{width}
use Rattle.ltm_node.specs.Inputs.{Inputs, cleared_inputs}
use Rattle.ltm_node.specs.declared.shape.NodeShape.{NodeShape}

take_written : (w : ℕ) (items : List ℕ) (p q v : ℕ) → p < w → p ≡ q → take w (set items p v) ≡ set (take w items) q v
take_written w items p q v l e = take-set-lt w items p v l ∙ ap (λ k. set (take w items) k v) e

-- a write of one number of the room is a write of that number of the row
pub inputs_written : (shape : NodeShape) (items : List ℕ) (now : Inputs) (p q v : ℕ) →
    (let seen : Inputs = record { shape = shape; row = take (width shape) items; room = length items } in seen ≡ now) → p < width shape → p ≡ q →
    (let left : Inputs = record { shape = shape; row = take (width shape) (set items p v); room = length (set items p v) } in
    let right : Inputs = record { shape = now.shape; row = set now.row q v; room = now.room } in left ≡ right)
inputs_written shape items now p q v seen l e =
    let Goal : Inputs → Type 0 = λ m.
    (let left : Inputs = record { shape = shape; row = take (width shape) (set items p v); room = length (set items p v) } in
    let right : Inputs = record { shape = m.shape; row = set m.row q v; room = m.room } in left ≡ right) in
    let row : take (width shape) (set items p v) ≡ set (take (width shape) items) q v = take_written (width shape) items p q v l e in
    let room : length (set items p v) ≡ length items = length-set items p v in
    subst Goal seen (rw (row, room) refl)

-- a list of w numbers that are all 0
pub take_zeros : (w : ℕ) (items : List ℕ) → w ≤ length items → ((k : ℕ) → k < w → get_or items k 0 ≡ 0) → take w items ≡ replicate w 0
take_zeros w items fits zero =
    let long : length (take w items) ≡ w = length-take-le w items fits in
    same_number_lists (take w items) (replicate w 0) (long ∙ sym (length-replicate w 0))
    (λ k l. let below : k < w = omega arith in get_or-take w items k 0 below ∙ (zero k below ∙ sym (get_or-replicate w k 0 0 below)))

-- two lists of at least w numbers that agree below w
pub take_same : (w : ℕ) (items others : List ℕ) → w ≤ length items → length others ≡ w → ((k : ℕ) → k < w → get_or items k 0 ≡ get_or others k 0) → take w items ≡ others
take_same w items others fits long same =
    let front : length (take w items) ≡ w = length-take-le w items fits in
    same_number_lists (take w items) others (front ∙ sym long)
    (λ k l. let below : k < w = omega arith in get_or-take w items k 0 below ∙ same k below)

pub inputs_cleared : (shape : NodeShape) (items : List ℕ) (room : ℕ) → width shape ≤ length items → length items ≡ room → ((k : ℕ) → k < width shape → get_or items k 0 ≡ 0) →
    (let left : Inputs = record { shape = shape; row = take (width shape) items; room = length items } in left ≡ cleared_inputs shape room)
inputs_cleared shape items room fits same zero =
    let row : take (width shape) items ≡ replicate (width shape) 0 = take_zeros (width shape) items fits zero in
    rw (row, same) refl

pub inputs_taken : (shape : NodeShape) (items row : List ℕ) (room : ℕ) → width shape ≤ length items → length items ≡ room → length row ≡ width shape → ((k : ℕ) → k < width shape → get_or items k 0 ≡ get_or row k 0) →
    (let left : Inputs = record { shape = shape; row = take (width shape) items; room = length items } in let right : Inputs = record { shape = shape; row = row; room = room } in left ≡ right)
inputs_taken shape items row room fits same long copied =
    let numbers : take (width shape) items ≡ row = take_same (width shape) items row fits long copied in
    rw (numbers, same) refl
