-- The links of a node, gone over one by one.
use Rattle.std.proofs.Common.{◌≡◌, ◌==◌, ℕ, Bool, true, false, ◌<◌, List, length, get_or, map, slice_index, arith, sym}
use Rattle.std.proofs.lemmas.Bool.Decides.{nat_tests}
use Rattle.std.proofs.lemmas.List.{get_or-map}
use Rattle.ltm_units.specs.declared.places.LinkId.{LinkId}

-- a node with out-links, and one without
pub some_out : (empty : Bool) (n m : ℕ) → empty ≡ false → empty ≡ (n == 0) → n ≡ m → 0 < m
some_out empty n m is told count = grind (arith, nat_tests)

pub no_out : (empty : Bool) (n m : ℕ) → empty ≡ true → empty ≡ (n == 0) → n ≡ m → m ≡ 0
no_out empty n m is told count = grind (arith, nat_tests)

-- the link that a loop is at
pub link_item : (links : List LinkId) (i : ℕ) → i < length links → (get_or links i (record { 0 = 0 })).0 ≡ slice_index (map (λ link. link.0) links) i
link_item links i l = sym (get_or-map (λ (link : LinkId). link.0) links i (record { 0 = 0 }) 0 l)
