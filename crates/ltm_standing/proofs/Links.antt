-- What stands on a link of a loading.
use Rattle.std.proofs.Common.{◌≡◌, ℕ, zero, suc, ◌+◌, ◌-◌, ◌<◌, ◌≤◌, List, [], ◌∷◌, map, sum, length, slice_index, arith, refl, sym, ap, subst, ◌∙◌, inl, inr}
use Rattle.std.proofs.lemmas.Bool.{cases_lt}
use Rattle.ltm_units.specs.Sums.{sum_below}
use Rattle.ltm_units.specs.Nested.{nested_split}
use Rattle.ltm_units.proofs.Sums.{le-sum_below}
use Rattle.ltm_curve.specs.Counts.{Counts, total}
use Rattle.ltm_curve.specs.First.{last_within, first_units, mixed, entries, list_below, RowsRise}
use Rattle.ltm_curve.specs.FirstLaws.{IsPart}
use Rattle.ltm_curve.proofs.Lists.{sum-list_below}
use Rattle.ltm_curve.proofs.Lasts.{last_taken, last_passed}
use Rattle.ltm_curve.proofs.Firsts.{first_is_mixed, end_is_last}
use Rattle.ltm_loading.specs.Setting.{Setting}
use Rattle.ltm_loading.specs.Groups.{up_of, down_of}
use Rattle.ltm_loading.specs.Flows.{link_goal, link_first, link_sending, limited}
use Rattle.ltm_loading.specs.Loading.{IsFront}
use Rattle.ltm_loading.proofs.Front.{earlier_front, link_part, link_behind, limited_le, up_is_group, down_is_group, up_rises}
use Rattle.ltm_loading.proofs.Reading.{links_are_ready_holds}
use Rattle.ltm_loading.proofs.AddsUp.{left_has_entered_holds}
use Rattle.ltm_standing.specs.Standing.{CameAt}
use Rattle.ltm_standing.specs.Listed.{Ascends, NotIn, IsListed, listed, HasEntered, IsAsked}
use Rattle.ltm_standing.proofs.Thin.{IsThin, thin, ascends_before}

map_is : (f : ℕ → ℕ) (us : List ℕ) → map f us ≡ list_below (length us) (λ i. f (slice_index us i))
map_is f [] = refl
map_is f (u ∷ us) = ap (λ (xs : List ℕ). f u ∷ xs) (map_is f us)

-- a sum over the numbers of a list
sum_map : (f : ℕ → ℕ) (us : List ℕ) → sum (map f us) ≡ sum_below (length us) (λ i. f (slice_index us i))
sum_map f us = ap sum (map_is f us) ∙ sum-list_below (length us) (λ i. f (slice_index us i))

-- rows of which those outside a list have nothing
pub record AreThin (n : ℕ) (rows : ℕ → ℕ → ℕ) (us : List ℕ) (last : ℕ) : Type 0 where
  pub order : Ascends 0 n us
  pub others : (d k : ℕ) → d < n → k ≤ last → NotIn us d → rows d k ≡ 0

abbrev pub picked : (ℕ → ℕ → ℕ) → List ℕ → ℕ → ℕ → ℕ
picked rows us i k = rows (slice_index us i) k

pub thin_total : (n : ℕ) (rows : ℕ → ℕ → ℕ) (us : List ℕ) (last k : ℕ) → AreThin n rows us last → k ≤ last → total n rows k ≡ total (length us) (picked rows us) k
thin_total n rows us last k h l =
    let z : 0 + n ≡ n = omega arith in
    let t : IsThin n 0 (λ d. rows d k) (λ d. rows d k) us = thin n 0 n (λ d. rows d k) (λ d. rows d k) us z h.order (λ d x. let at : d ≡ 0 + d = omega arith in ap (λ (e : ℕ). rows e k) at) (λ d a b out. h.others d k b l out) in
    sym (sum-list_below n (λ d. rows d k)) ∙ (t.sums ∙ sum_map (λ d. rows d k) us)

-- totals that are the same have the same last boundary
last_same : (c e : ℕ → ℕ) (m last : ℕ) → ((k : ℕ) → k ≤ last → c k ≡ e k) → last_within c m last ≡ last_within e m last
last_same c e m zero h = refl
last_same c e m (suc last) h =
    elim (cases_lt m (c (suc last))) [
      | inl passed ↦ last_passed c m last passed ∙ (last_same c e m last (λ k l. h k (omega arith)) ∙ sym (last_passed e m last (omega (arith, h (suc last) (omega arith)))))
      | inr taken ↦ last_taken c m last taken ∙ sym (last_taken e m last (omega (arith, h (suc last) (omega arith))))
    ]

pub thin_part : (n : ℕ) (rows : ℕ → ℕ → ℕ) (us : List ℕ) (goal last : ℕ) → AreThin n rows us last → IsPart n rows goal last → IsPart (length us) (picked rows us) goal last
thin_part n rows us goal last h p = record {
  rise = λ i k l m. p.rise (slice_index us i) k (ascends_before 0 n us h.order i l) m;
  empty = sym (thin_total n rows us last 0 h (omega arith)) ∙ p.empty;
  within = omega (arith, p.within, thin_total n rows us last last h (omega arith));
}

-- of the first units too, the list has all
pub thin_first : (n : ℕ) (rows : ℕ → ℕ → ℕ) (us : List ℕ) (goal last : ℕ) → AreThin n rows us (last + 1) → IsPart n rows goal last → (i : ℕ) → i < length us →
    first_units n rows goal last (slice_index us i) ≡ first_units (length us) (picked rows us) goal last i
thin_first n rows us goal last h p i l =
    let thin_last : AreThin n rows us last = record { order = h.order; others = λ d k a b out. h.others d k a (omega arith) out } in
    let q : IsPart (length us) (picked rows us) goal last = thin_part n rows us goal last thin_last p in
    let totals : (k : ℕ) → k ≤ last → total n rows k ≡ total (length us) (picked rows us) k = λ k m. thin_total n rows us last k thin_last m in
    let e : ℕ = last_within (total n rows) goal last in
    let same : last_within (total n rows) goal last ≡ last_within (total (length us) (picked rows us)) goal last = last_same (total n rows) (total (length us) (picked rows us)) goal last totals in
    let below : last_within (total n rows) goal last ≤ last = (end_is_last n rows goal last p).below in
    let part : ℕ = goal - total n rows e in
    let parts : goal - total n rows e ≡ goal - total (length us) (picked rows us) e = ap (λ (z : ℕ). goal - z) (totals e below) in
    let f : ℕ → ℕ = λ d. rows d (e + 1) - rows d e in
    let start : 0 + n ≡ n = omega arith in
    let t : IsThin n 0 f f us = thin n 0 n f f us start h.order (λ d x. let at : d ≡ 0 + d = omega arith in ap f at) (λ d a b out. let z : rows d (e + 1) ≡ 0 = h.others d (e + 1) b (omega (arith, below)) out in omega (arith, z)) in
    let rows_of : map f us ≡ entries (length us) (picked rows us) e = map_is f us in
    let at : slice_index us i ≡ slice_index us i - 0 = omega arith in
    let split : slice_index (nested_split part (entries n rows e)) (slice_index us i) ≡ slice_index (nested_split part (entries (length us) (picked rows us) e)) i =
    ap (slice_index (nested_split part (entries n rows e))) at ∙ (t.splits part i l ∙ ap (λ (xs : List ℕ). slice_index (nested_split part xs) i) rows_of) in
    let mixed_same : mixed n rows e part (slice_index us i) ≡ mixed (length us) (picked rows us) e part i = ap (λ (z : ℕ). rows (slice_index us i) e + z) split in
    first_is_mixed n rows goal last p (slice_index us i)
    ∙ (mixed_same
    ∙ (ap (λ (z : ℕ). mixed (length us) (picked rows us) e z i) parts
    ∙ (ap (λ (z : ℕ). mixed (length us) (picked rows us) z (goal - total (length us) (picked rows us) z) i) same ∙ sym (first_is_mixed (length us) (picked rows us) goal last q i))))

-- ---- of a link of a loading
pub front_of : (s : Setting) (c : Counts) (l : ℕ) (ds : List ℕ) (t : ℕ) → IsListed s c l ds → t ≤ s.slots → IsFront s c t
front_of s c l ds t h m = earlier_front s c s.slots t h.loading.front m

pub up_thin : (s : Setting) (c : Counts) (l : ℕ) (ds : List ℕ) → IsListed s c l ds → AreThin s.destinations (c (up_of l)) ds s.slots
up_thin s c l ds h = record { order = h.order; others = λ d k a b out. h.others d k a b out }

pub down_thin : (s : Setting) (c : Counts) (l : ℕ) (ds : List ℕ) → IsListed s c l ds → AreThin s.destinations (c (down_of l)) ds s.slots
down_thin s c l ds h = record {
  order = h.order;
  others = λ d k a b out. omega (arith, h.others d k a b out, left_has_entered_holds s c h.setting h.loading l d k h.link a b);
}

pub link_empty : (s : Setting) (c : Counts) (l : ℕ) (ds : List ℕ) → IsListed s c l ds → (i : ℕ) → i < length ds → (listed c (up_of l) ds i 0 ≡ 0) × (listed c (down_of l) ds i 0 ≡ 0)
link_empty s c l ds h i m =
    let d : slice_index ds i < s.destinations = ascends_before 0 s.destinations ds h.order i m in (
      h.loading.front.empty (up_of l) (slice_index ds i) (up_is_group s l h.link) d,
      h.loading.front.empty (down_of l) (slice_index ds i) (down_is_group s l h.link) d,
    )

pub came_at : (s : Setting) (c : Counts) (l : ℕ) (ds : List ℕ) (k came : ℕ) (mail : List ℕ) → IsListed s c l ds → k < s.slots → HasEntered s c l ds k came mail → CameAt (length ds) (listed c (up_of l) ds) k came (slice_index mail)
came_at s c l ds k came mail h m e =
    let rises : RowsRise s.destinations (c (up_of l)) s.slots = up_rises s c s.slots l h.setting h.loading.front h.link in
    record {
      rises = λ i x. rises (slice_index ds i) k (ascends_before 0 s.destinations ds h.order i x) m;
      all = omega (arith, e.all, thin_total s.destinations (c (up_of l)) ds s.slots k (up_thin s c l ds h) (omega arith), thin_total s.destinations (c (up_of l)) ds s.slots (k + 1) (up_thin s c l ds h) (omega arith));
      each = e.each;
    }

-- what a link of a loading sends
pub record SendsFrom (s : Setting) (c : Counts) (l t : ℕ) (ds : List ℕ) (goal gone : ℕ) : Type 0 where
  pub part : IsPart (length ds) (listed c (up_of l) ds) goal t
  pub left : total (length ds) (listed c (down_of l) ds) t ≡ gone
  pub over : gone ≤ goal
  pub whole : sum_below s.destinations (link_first s c l t) ≡ goal - gone
  pub first : (i : ℕ) → i < length ds → first_units (length ds) (listed c (up_of l) ds) goal t i - listed c (down_of l) ds i t ≡ link_first s c l t (slice_index ds i)
  pub behind : (i : ℕ) → i < length ds → listed c (down_of l) ds i t ≤ first_units (length ds) (listed c (up_of l) ds) goal t i

pub sends_from : (s : Setting) (c : Counts) (l t : ℕ) (ds : List ℕ) (goal gone limit : ℕ) → IsListed s c l ds → t < s.slots → IsAsked s c l t goal gone limit → SendsFrom s c l t ds goal gone
sends_from s c l t ds goal gone limit h m a =
    let front : IsFront s c t = front_of s c l ds t h (omega arith) in
    let all : IsPart s.destinations (c (up_of l)) (link_goal s c l t) t = link_part s c t l h.setting front h.link in
    let part : IsPart s.destinations (c (up_of l)) goal t = subst (λ (z : ℕ). IsPart s.destinations (c (up_of l)) z t) (sym a.may_leave) all in
    let ups : AreThin s.destinations (c (up_of l)) ds (t + 1) = record { order = h.order; others = λ d k x y out. h.others d k x (omega arith) out } in
    let ups_t : AreThin s.destinations (c (up_of l)) ds t = record { order = h.order; others = λ d k x y out. h.others d k x (omega arith) out } in
    let behind : (d : ℕ) → d < s.destinations → c (down_of l) d t ≤ first_units s.destinations (c (up_of l)) (link_goal s c l t) t d = λ d x. link_behind s c t l d h.setting front h.link x in
    let at : (d : ℕ) → first_units s.destinations (c (up_of l)) (link_goal s c l t) t d ≡ first_units s.destinations (c (up_of l)) goal t d = λ d. ap (λ (z : ℕ). first_units s.destinations (c (up_of l)) z t d) (sym a.may_leave) in
    let first : (i : ℕ) → i < length ds → first_units s.destinations (c (up_of l)) (link_goal s c l t) t (slice_index ds i) ≡ first_units (length ds) (listed c (up_of l) ds) goal t i =
    λ i x. at (slice_index ds i) ∙ thin_first s.destinations (c (up_of l)) ds goal t ups part i x in
    let sums : sum_below s.destinations (link_first s c l t) + total s.destinations (c (down_of l)) t ≡ link_goal s c l t = (links_are_ready_holds s c l t h.setting front h.link).sum in
    record {
      part = thin_part s.destinations (c (up_of l)) ds goal t ups_t part;
      left = sym (thin_total s.destinations (c (down_of l)) ds s.slots t (down_thin s c l ds h) (omega arith)) ∙ sym a.have_left;
      over = omega (arith, sums, a.may_leave, a.have_left);
      whole = omega (arith, sums, a.may_leave, a.have_left);
      first = λ i x. ap (λ (z : ℕ). z - c (down_of l) (slice_index ds i) t) (sym (first i x));
      behind = λ i x. omega (arith, first i x, behind (slice_index ds i) (ascends_before 0 s.destinations ds h.order i x));
    }

-- a limit of the whole
pub limit_is : (s : Setting) (c : Counts) (l t : ℕ) (ds : List ℕ) (goal gone limit part i : ℕ) → IsAsked s c l t goal gone limit → SendsFrom s c l t ds goal gone → part ≡ link_first s c l t (slice_index ds i)
    → limited limit (goal - gone) part ≡ link_sending s c l t (slice_index ds i)
limit_is s c l t ds goal gone limit part i a f e =
    ap (λ (z : ℕ). limited limit (goal - gone) z) e
    ∙ (ap (λ (z : ℕ). limited z (goal - gone) (link_first s c l t (slice_index ds i))) a.at_most
    ∙ ap (λ (z : ℕ). limited (s.exit_limit l t) z (link_first s c l t (slice_index ds i))) (sym f.whole))

pub first_small : (s : Setting) (c : Counts) (l t : ℕ) (ds : List ℕ) (goal gone i : ℕ) → IsListed s c l ds → SendsFrom s c l t ds goal gone → i < length ds → link_first s c l t (slice_index ds i) ≤ goal - gone
first_small s c l t ds goal gone i h f m = omega (arith, f.whole, le-sum_below s.destinations (link_first s c l t) (slice_index ds i) (ascends_before 0 s.destinations ds h.order i m))

-- where no unit may leave, none is sent
pub none_sent : (s : Setting) (c : Counts) (l t : ℕ) (ds : List ℕ) (goal gone i : ℕ) → IsListed s c l ds → SendsFrom s c l t ds goal gone → goal ≤ gone → i < length ds → 0 ≡ link_sending s c l t (slice_index ds i)
none_sent s c l t ds goal gone i h f none m =
    omega (arith, first_small s c l t ds goal gone i h f m, limited_le (s.exit_limit l t) (sum_below s.destinations (link_first s c l t)) (link_first s c l t (slice_index ds i)))
