-- A route with one more link.
use Rattle.std.proofs.Common.{◌≡◌, ℕ, ◌<◌, List, [], ◌∷◌, ◌++◌, Option, Some, None, refl, ap, sym, ◌∙◌}
use Rattle.std.specs.Prelude.{option_and_then}
use Rattle.ltm_search.specs.Ways.{Ways, IsRoute, arrival}

pub and_then_some : (f : ℕ → Option ℕ) (o : Option ℕ) (y : ℕ) → option_and_then f o ≡ Some y → (x : ℕ) × (o ≡ Some x) × (f x ≡ Some y)
and_then_some f None y h = cc
and_then_some f (Some x) y h = (x, refl, h)

pub and_then_at : (f : ℕ → Option ℕ) (o : Option ℕ) (x : ℕ) (r : Option ℕ) → o ≡ Some x → f x ≡ r → option_and_then f o ≡ r
and_then_at f o x r at is = ap (option_and_then f) at ∙ is

pub and_link : (w : Ways) (links : List ℕ) (from mid link : ℕ) → IsRoute w from mid links → link < w.links → w.tail link ≡ mid → IsRoute w from (w.head link) (links ++ link ∷ [])
and_link w [] from mid link route low at = (low, at ∙ sym route, refl)
and_link w (first ∷ links) from mid link route low at = (route.0, route.1, and_link w links (w.head first) mid link route.2 low at)

pub and_arrival : (w : Ways) (links : List ℕ) (link x y exit : ℕ) → arrival w links x ≡ Some y → w.leaves link y ≡ Some exit → arrival w (links ++ link ∷ []) x ≡ Some exit
and_arrival w [] link x y exit is leaves =
    let same : x ≡ y = told is in
    and_then_at (arrival w []) (w.leaves link x) exit (Some exit) (ap (w.leaves link) same ∙ leaves) refl
  where
    told : {x y : ℕ} → Some x ≡ Some y → x ≡ y
    told e = cc
and_arrival w (first ∷ links) link x y exit is leaves =
    let next = and_then_some (arrival w links) (w.leaves first x) y is in
    and_then_at (arrival w (links ++ link ∷ [])) (w.leaves first x) next.0 (Some exit) next.1 (and_arrival w links link next.0 y exit next.2 leaves)
