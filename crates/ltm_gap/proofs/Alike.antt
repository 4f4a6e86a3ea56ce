-- Ways that are read from a loading are those of the counts that it shows, and ways of loadings that agree are the same.
use Rattle.std.proofs.Common.{◌≡◌, ℕ, ◌+◌, ◌*◌, ◌<◌, ◌≤◌, ◌&&◌, nat_le, List, [], ◌∷◌, Option, Some, None, refl, ap, sym, arith, ◌∙◌}
use Rattle.std.specs.Prelude.{option_and_then}
use Rattle.ltm_curve.specs.Counts.{interpolated}
use Rattle.ltm_curve.proofs.Interpolation.{interpolated_same}
use Rattle.ltm_loading.specs.Setting.{Setting}
use Rattle.ltm_search.specs.Ways.{Ways, IsRoute, arrival, IsEarliest}
use Rattle.ltm_gap.specs.Leaving.{end_of, lets_out, enters, may_leave, leaves_from, leaves_by, first_from}
use Rattle.ltm_gap.specs.Within.{IsEarliestFrom}
use Rattle.ltm_gap.proofs.Firsts.{same_first}
use Rattle.ltm_gap.proofs.Passing.{is_entry}

-- curves that agree up to the end
abbrev pub Agree : (ℕ → ℕ) → (ℕ → ℕ) → ℕ → Type 0
Agree f g last = (k : ℕ) → k ≤ last → f k ≡ g k

leaves_from_same : (s : Setting) (link : ℕ) (up up' down down' : ℕ → ℕ) (entry : ℕ) → 0 < s.step → Agree up up' s.slots → Agree down down' s.slots → entry ≤ end_of s
    → leaves_from s link up down entry ≡ leaves_from s link up' down' entry
unfolding leaves_from
leaves_from_same s link up up' down down' entry some ups downs within =
    same_first (may_leave s link up down entry) (may_leave s link up' down' entry) (end_of s + 1) (λ m low.
    ap (λ n. nat_le (entry + s.free_time link) m && (nat_le n (interpolated down s.step m) && lets_out s link m)) (interpolated_same up up' s.step s.slots entry some within ups)
    ∙ ap (λ n. nat_le (entry + s.free_time link) m && (nat_le (interpolated up' s.step entry) n && lets_out s link m)) (interpolated_same down down' s.step s.slots m some (omega arith) downs))

pub leaves_same : (s : Setting) (link : ℕ) (up up' down down' : ℕ → ℕ) (moment : ℕ) → 0 < s.step → Agree up up' s.slots → Agree down down' s.slots → leaves_by s link up down moment ≡ leaves_by s link up' down' moment
leaves_same s link up up' down down' moment some ups downs = go (enters s link moment) refl
  where
    go : (o : Option ℕ) → enters s link moment ≡ o → option_and_then (leaves_from s link up down) o ≡ option_and_then (leaves_from s link up' down') o
    go None is = refl
    go (Some entry) is = let came = is_entry s link moment entry is in leaves_from_same s link up up' down down' entry some ups downs (omega (arith, came.before))

pub first_from_same : (f g : ℕ → ℕ) (step slots count from : ℕ) → 0 < step → Agree f g slots → first_from f step slots count from ≡ first_from g step slots count from
unfolding first_from
first_from_same f g step slots count from some same =
    same_first (λ m. nat_le from m && nat_le count (interpolated f step m)) (λ m. nat_le from m && nat_le count (interpolated g step m)) (slots * step + 1)
    (λ m low. ap (λ n. nat_le from m && nat_le count n) (interpolated_same f g step slots m some (omega arith) same))

-- ---- ways whose links are left alike
abbrev pub with_leaves : Ways → (ℕ → ℕ → Option ℕ) → Ways
with_leaves w leaves = record w { leaves = leaves }

abbrev pub LeftAlike : Ways → (ℕ → ℕ → Option ℕ) → Type 0
LeftAlike w leaves = (link moment : ℕ) → link < w.links → w.leaves link moment ≡ leaves link moment

route_same : (w : Ways) (leaves : ℕ → ℕ → Option ℕ) (links : List ℕ) (from to : ℕ) → IsRoute w from to links → IsRoute (with_leaves w leaves) from to links
route_same w leaves [] from to route = route
route_same w leaves (link ∷ links) from to route = (route.0, route.1, route_same w leaves links (w.head link) to route.2)

route_back : (w : Ways) (leaves : ℕ → ℕ → Option ℕ) (links : List ℕ) (from to : ℕ) → IsRoute (with_leaves w leaves) from to links → IsRoute w from to links
route_back w leaves [] from to route = route
route_back w leaves (link ∷ links) from to route = (route.0, route.1, route_back w leaves links (w.head link) to route.2)

then_same : (f g : ℕ → Option ℕ) (o : Option ℕ) → ((y : ℕ) → f y ≡ g y) → option_and_then f o ≡ option_and_then g o
then_same f g None same = refl
then_same f g (Some y) same = same y

arrival_same : (w : Ways) (leaves : ℕ → ℕ → Option ℕ) → LeftAlike w leaves → (links : List ℕ) (from to x : ℕ) → IsRoute w from to links → arrival w links x ≡ arrival (with_leaves w leaves) links x
arrival_same w leaves alike [] from to x route = refl
arrival_same w leaves alike (link ∷ links) from to x route =
    then_same (arrival w links) (arrival (with_leaves w leaves) links) (w.leaves link x) (λ y. arrival_same w leaves alike links (w.head link) to y route.2)
    ∙ ap (option_and_then (arrival (with_leaves w leaves) links)) (alike link x route.0)

earliest_same_at : (w : Ways) (leaves : ℕ → ℕ → Option ℕ) → LeftAlike w leaves → (from start to : ℕ) (time : Option ℕ) → IsEarliest w from start to time → IsEarliest (with_leaves w leaves) from start to time
earliest_same_at w leaves alike from start to None is = λ links route.
    let back = route_back w leaves links from to route in
    sym (arrival_same w leaves alike links from to start back) ∙ is links back
earliest_same_at w leaves alike from start to (Some time) is = record {
  taken = let t = is.taken in (t.0, route_same w leaves t.0 from to t.1, sym (arrival_same w leaves alike t.0 from to start t.1) ∙ t.2);
  first = λ links other route arrives. let back = route_back w leaves links from to route in is.first links other back (arrival_same w leaves alike links from to start back ∙ arrives);
}

pub earliest_same : (w : Ways) (leaves : ℕ → ℕ → Option ℕ) → LeftAlike w leaves → (from : ℕ) (start : Option ℕ) (to : ℕ) (time : Option ℕ) → IsEarliestFrom w from start to time
    → IsEarliestFrom (with_leaves w leaves) from start to time
earliest_same w leaves alike from None to time is = is
earliest_same w leaves alike from (Some start) to time is = earliest_same_at w leaves alike from start to time is
