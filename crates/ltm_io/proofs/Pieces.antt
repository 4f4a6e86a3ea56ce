-- A piece of the bytes that are left.
use Rattle.std.proofs.Common.{ℕ, ◌≡◌, ◌+◌, ◌-◌, ◌≤◌, List, ◌++◌, length, take, drop, ap, sym, ◌∙◌, arith, length-drop}
use Rattle.std.proofs.lemmas.List.{take_all, take_at, take-append-drop, length-take-le, drop-drop}

pub whole_tail : (bytes : List ℕ) (at : ℕ) → take (length bytes - at) (drop at bytes) ≡ drop at bytes
whole_tail bytes at = take_all (length bytes - at) (drop at bytes) (omega (arith, length-drop at bytes))

-- the piece that was copied to the front, and what follows it in the source, are what was left
pub piece_moves : (bytes copied after : List ℕ) (at n : ℕ) → n ≤ length bytes - at → copied ≡ take n (take (length bytes - at) (drop at bytes)) → drop at bytes ≡ take n (copied ++ after) ++ drop (at + n) bytes
piece_moves bytes copied after at n fits is =
    let same : copied ≡ take n (drop at bytes) = is ∙ ap (take n) (whole_tail bytes at) in
    let long : length copied ≡ n = ap length same ∙ length-take-le n (drop at bytes) (omega (arith, length-drop at bytes, fits)) in
    let front : take n (copied ++ after) ≡ take n (drop at bytes) = take_at copied after n long ∙ same in
    sym (rw (front, ← drop-drop n at bytes) (take-append-drop n (drop at bytes)))
