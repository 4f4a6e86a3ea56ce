-- Tight links are those with which least routes begin; and lists with one more.
use Rattle.std.proofs.Common.{◌≡◌, ℕ, ◌+◌, ◌≤◌, true, false, Option, Some, None, arith}
use Rattle.std.proofs.lemmas.Bool.Decides.{nat_tests}
use Rattle.ltm_units.specs.declared.quantities.Millis.{Millis}
use Rattle.ltm_routes.specs.Roads.{Roads}
use Rattle.ltm_routes.specs.Routes.{time_of, IsLeast, IsLeastTime, Begins}
use Rattle.ltm_routes.specs.Potentials.{is_tight}

pub tight_begins : (r : Roads) (to link : ℕ) (tail head : Option Millis) → IsLeastTime r (r.tail link) to tail → IsLeastTime r (r.head link) to head → is_tight tail (r.free_time link) head ≡ true → Begins r to link
tight_begins r to link None head from_tail from_head tight = absurd (differ tight)
  where
    differ : false ≡ true → ⊥
    differ e = cc
tight_begins r to link (Some t) None from_tail from_head tight = absurd (differ tight)
  where
    differ : false ≡ true → ⊥
    differ e = cc
tight_begins r to link (Some t) (Some h) from_tail from_head tight =
    record { from_tail = t.0; from_head = h.0; least_from_tail = from_tail; least_from_head = from_head; sum = grind (arith, nat_tests) }

-- a least time is the only one
pub least_is : (r : Roads) (from to a b : ℕ) → IsLeast r from to a → IsLeast r from to b → a ≡ b
least_is r from to a b x y =
    let ta = x.taken in
    let tb = y.taken in
    let ab : a ≤ time_of r tb.0 = x.least tb.0 tb.1 in
    let ba : b ≤ time_of r ta.0 = y.least ta.0 ta.1 in
    let ea : time_of r ta.0 ≡ a = ta.2 in
    let eb : time_of r tb.0 ≡ b = tb.2 in
    omega arith

-- and a link with which a least route begins is tight
pub begins_tight : (r : Roads) (to link : ℕ) (tail head : Option Millis) → IsLeastTime r (r.tail link) to tail → IsLeastTime r (r.head link) to head → Begins r to link → is_tight tail (r.free_time link) head ≡ true
begins_tight r to link None head from_tail from_head begins = let route = (begins.least_from_tail).taken in absurd (from_tail route.0 route.1)
begins_tight r to link (Some t) None from_tail from_head begins = let route = (begins.least_from_head).taken in absurd (from_head route.0 route.1)
begins_tight r to link (Some t) (Some h) from_tail from_head begins =
    let tail : t.0 ≡ begins.from_tail = least_is r (r.tail link) to t.0 begins.from_tail from_tail begins.least_from_tail in
    let head : h.0 ≡ begins.from_head = least_is r (r.head link) to h.0 begins.from_head from_head begins.least_from_head in
    let sum : r.free_time link + begins.from_head ≡ begins.from_tail = begins.sum in
    let same : t.0 ≡ r.free_time link + h.0 = omega arith in
    grind (arith, nat_tests)
