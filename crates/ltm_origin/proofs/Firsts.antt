-- The first units that an origin produces, of listed destinations.
use Rattle.std.proofs.Common.{◌≡◌, ℕ, ◌+◌, ◌-◌, ◌<◌, ◌≤◌, min, List, length, slice_index, arith, sym, ap, ◌∙◌}
use Rattle.ltm_units.specs.Sums.{sum_below}
use Rattle.ltm_units.proofs.Sums.{sum_below-same, sum_below-zero, le-sum_below}
use Rattle.ltm_curve.specs.Counts.{Counts, total}
use Rattle.ltm_curve.specs.First.{first_units}
use Rattle.ltm_curve.specs.FirstLaws.{IsPart}
use Rattle.ltm_curve.proofs.Lasts.{row_le}
use Rattle.ltm_loading.specs.Setting.{Setting, IsSetting}
use Rattle.ltm_loading.specs.Flows.{origin_goal, origin_sending}
use Rattle.ltm_loading.specs.Groups.{dep_of}
use Rattle.ltm_loading.specs.Ready.{IsOriginReady}
use Rattle.ltm_loading.proofs.Same.{first_units-same}
use Rattle.ltm_standing.specs.Listed.{Ascends, NotIn}
use Rattle.ltm_standing.proofs.Thin.{ascends_before}
use Rattle.ltm_standing.proofs.Links.{AreThin, picked, thin_total, thin_part, thin_first}
use Rattle.ltm_origin.specs.Waiting.{HasLeft}

-- rows that stay as they are behind a boundary
abbrev still : (ℕ → ℕ → ℕ) → ℕ → ℕ → ℕ → ℕ
still rows last d k = rows d (min k last)

sum_same : (n : ℕ) (a b : ℕ → ℕ → ℕ) (k : ℕ) → ((d : ℕ) → a d k ≡ b d k) → total n a k ≡ total n b k
sum_same n a b k h = sum_below-same n (λ d. a d k) (λ d. b d k) (λ d l. h d)

-- the first units are known by the rows up to their last boundary, so the list has all of them
pub first_listed : (n : ℕ) (rows : ℕ → ℕ → ℕ) (us : List ℕ) (goal last : ℕ) → AreThin n rows us last → IsPart n rows goal last → (i : ℕ) → i < length us →
    first_units n rows goal last (slice_index us i) ≡ first_units (length us) (picked rows us) goal last i
first_listed n rows us goal last h p i l =
    let within : (d k : ℕ) → k ≤ last → still rows last d k ≡ rows d k = λ d k m. let at : min k last ≡ k = omega (arith, m) in ap (rows d) at in
    let thin : AreThin n (still rows last) us (last + 1) = record { order = h.order; others = λ d k a b out. h.others d (min k last) a (omega arith) out } in
    let part : IsPart n (still rows last) goal last = record {
      rise = λ d k a b. let first : still rows last d k ≡ rows d k = within d k (omega (arith, b)) in let next : still rows last d (k + 1) ≡ rows d (k + 1) = within d (k + 1) (omega (arith, b)) in omega (arith, first, next, p.rise d k a b);
      empty = sum_same n (still rows last) rows 0 (λ d. within d 0 (omega arith)) ∙ p.empty;
      within = let all : total n (still rows last) last ≡ total n rows last = sum_same n (still rows last) rows last (λ d. within d last (omega arith)) in omega (arith, all, p.within);
    } in
    sym (first_units-same n (still rows last) rows goal last (λ d k a b. within d k b) (slice_index us i) (ascends_before 0 n us h.order i l))
    ∙ (thin_first n (still rows last) us goal last thin part i l
    ∙ first_units-same (length us) (picked (still rows last) us) (picked rows us) goal last (λ k m a b. within (slice_index us k) m b) i l)

-- what a node has produced of destinations that are not listed is nothing by any boundary
pub none_produced : (s : Setting) (u d k : ℕ) → IsSetting s → u < s.nodes → d < s.destinations → k ≤ s.slots → s.produced u d s.slots ≡ 0 → s.produced u d k ≡ 0
none_produced s u d k v x m y none = let rise : s.produced u d k ≤ s.produced u d s.slots = row_le s.destinations (s.produced u) s.slots (v.produced_rises u x) d k s.slots m y (omega arith) in omega (arith, rise, none)

pub produced_thin : (s : Setting) (u t : ℕ) (ds : List ℕ) → IsSetting s → u < s.nodes → t < s.slots → Ascends 0 s.destinations ds → ((d : ℕ) → d < s.destinations → NotIn ds d → s.produced u d s.slots ≡ 0)
    → AreThin s.destinations (s.produced u) ds (t + 1)
produced_thin s u t ds v x y order none = record { order = order; others = λ d k a b out. none_produced s u d k v x a (omega (arith, b, y)) (none d a out) }

-- what may leave an origin is a part of what was produced
pub produced_part : (s : Setting) (u t goal : ℕ) → IsSetting s → u < s.nodes → t < s.slots → goal ≤ total s.destinations (s.produced u) (t + 1) → IsPart s.destinations (s.produced u) goal (t + 1)
produced_part s u t goal v x y few = record {
  rise = λ d k a b. v.produced_rises u x d k a (omega (arith, b, y));
  empty = sum_below-zero s.destinations (λ d. s.produced u d 0) (λ d a. v.produced_none u d x a);
  within = few;
}

pub part_listed : (s : Setting) (u t goal : ℕ) (ds : List ℕ) → IsSetting s → u < s.nodes → t < s.slots → Ascends 0 s.destinations ds → ((d : ℕ) → d < s.destinations → NotIn ds d → s.produced u d s.slots ≡ 0)
    → goal ≤ total s.destinations (s.produced u) (t + 1) → IsPart (length ds) (picked (s.produced u) ds) goal (t + 1)
part_listed s u t goal ds v x y order none few = thin_part s.destinations (s.produced u) ds goal (t + 1) (produced_thin s u t ds v x y order none) (produced_part s u t goal v x y few)

-- an origin from which all has left that may leave sends nothing
pub nothing_waits : (s : Setting) (c : Counts) (u t d : ℕ) → IsOriginReady s c u t → origin_goal s c u t ≤ total s.destinations (c (dep_of s u)) t → d < s.destinations → origin_sending s c u t d ≡ 0
nothing_waits s c u t d ready all l = let least : origin_sending s c u t d ≤ sum_below s.destinations (origin_sending s c u t) = le-sum_below s.destinations (origin_sending s c u t) d l in omega (arith, least, ready.sum, all)

-- what is sent of a listed destination
pub sends_listed : (s : Setting) (c : Counts) (u t goal : ℕ) (ds : List ℕ) (left : ℕ) (gone : List ℕ) (i first : ℕ) → IsSetting s → u < s.nodes → t < s.slots → Ascends 0 s.destinations ds → ((d : ℕ) → d < s.destinations → NotIn ds d → s.produced u d s.slots ≡ 0)
    → goal ≤ total s.destinations (s.produced u) (t + 1) → HasLeft s c u t ds left gone → goal ≡ origin_goal s c u t → i < length ds → first ≡ first_units (length ds) (picked (s.produced u) ds) goal (t + 1) i
    → first - slice_index gone i ≡ origin_sending s c u t (slice_index ds i)
sends_listed s c u t goal ds left gone i first v x y order none few h is l e =
    let all : first_units s.destinations (s.produced u) goal (t + 1) (slice_index ds i) ≡ first_units (length ds) (picked (s.produced u) ds) goal (t + 1) i =
    first_listed s.destinations (s.produced u) ds goal (t + 1) (produced_thin s u t ds v x y order none) (produced_part s u t goal v x y few) i l in
    ap (λ (z : ℕ). first - z) (h.each i l)
    ∙ (ap (λ (z : ℕ). z - c (dep_of s u) (slice_index ds i) t) (e ∙ sym all)
    ∙ ap (λ (z : ℕ). first_units s.destinations (s.produced u) z (t + 1) (slice_index ds i) - c (dep_of s u) (slice_index ds i) t) is)

-- in all they are what was produced of all destinations
pub whole_listed : (s : Setting) (u : ℕ) (ds : List ℕ) → IsSetting s → u < s.nodes → Ascends 0 s.destinations ds → ((d : ℕ) → d < s.destinations → NotIn ds d → s.produced u d s.slots ≡ 0)
    → (k : ℕ) → k ≤ s.slots → total (length ds) (picked (s.produced u) ds) k ≡ total s.destinations (s.produced u) k
whole_listed s u ds v x order none k m =
    sym (thin_total s.destinations (s.produced u) ds k k (record { order = order; others = λ d b a y out. none_produced s u d b v x a (omega (arith, y, m)) (none d a out) }) (omega arith))
