-- The links that leave a node, one after the other.
use Rattle.std.proofs.Common.{◌≡◌, ℕ, suc, ◌+◌, ◌<◌, List, ◌∷◌, drop, length, slice_index_or, ap, arith, ◌∙◌}
use Rattle.std.proofs.Math.Seq.{drop-cons}
use Rattle.ltm_units.specs.declared.places.LinkId.{LinkId}
use Rattle.ltm_search.specs.Links.{numbers}

abbrev pub no_link : LinkId
no_link = record { 0 = 0 }

pub numbers_drop : (links : List LinkId) (i : ℕ) → i < length links → numbers (drop i links) ≡ (slice_index_or links i no_link).0 ∷ numbers (drop (i + 1) links)
numbers_drop links i low = ap numbers (drop-cons links i no_link low) ∙ ap (λ n. (slice_index_or links i no_link).0 ∷ numbers (drop n links)) (suc_is i)
  where
    suc_is : (i : ℕ) → suc i ≡ i + 1
    suc_is i = omega arith
