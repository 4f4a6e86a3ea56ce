-- What had passed links by the end of a slot, link by link and node by node.
use Rattle.std.proofs.Common.{◌≡◌, ◌≢◌, ℕ, ◌+◌, ◌-◌, ◌^◌, ◌<◌, ◌≤◌, List, length, min, slice_index, arith, refl, sym, ap, subst, ◌∙◌, inl, inr}
use Rattle.std.proofs.lemmas.Bool.{cases_eq}
use Rattle.ltm_loading.specs.Setting.{Setting, IsNetwork}
use Rattle.ltm_totals.specs.declared.totals.Totals.{Totals}
use Rattle.ltm_totals.specs.Totals.{total_links, total_slots, total_at, SetsTotal}
use Rattle.ltm_lean_load.specs.Adding.{AreDistinct, AddsTo, AddsAll}

pub adds_none : (links more : List ℕ) (t : ℕ) (totals : Totals) → AddsTo links more t 0 totals totals
adds_none links more t totals = record {
  links = refl;
  slots = refl;
  here = λ i l. absurd (omega (arith, l));
  others = λ l k m side. refl;
}

-- one link more, none of those before
pub adds_more : (links more : List ℕ) (t n link number : ℕ) (old now new : Totals) → AddsTo links more t n old now → AreDistinct links → ((i : ℕ) → i < length links → slice_index links i < total_links old) → n < length links
    → link ≡ slice_index links n → number ≡ slice_index more n → SetsTotal now new link (t + 1) (min (2 ^ 32 - 1) (total_at now link t + number)) → AddsTo links more t (n + 1) old new
adds_more links more t n link number old now new h apart there l is much set =
    let within : link < total_links old = omega (arith, there n l, is) in
    let same : total_at now link t ≡ total_at old link t = h.others link t within (inr (λ e. omega (arith, e))) in
    record {
      links = set.links ∙ h.links;
      slots = set.slots ∙ h.slots;
      here = λ i m. elim (cases_eq i n) [
        | inl e ↦
            let at : slice_index links i ≡ link = ap (slice_index links) e ∙ sym is in
            let more_at : slice_index more i ≡ number = ap (slice_index more) e ∙ sym much in
            ap (λ (z : ℕ). total_at new z (t + 1)) at
            ∙ (set.here
            ∙ (ap (λ (z : ℕ). min (2 ^ 32 - 1) (z + number)) same
            ∙ (ap (λ (z : ℕ). min (2 ^ 32 - 1) (total_at old link t + z)) (sym more_at) ∙ ap (λ (z : ℕ). min (2 ^ 32 - 1) (total_at old z t + slice_index more i)) (sym at))))
        | inr other ↦
            let low : i < n = omega (arith, m, other) in
            let inside : slice_index links i < total_links now = omega (arith, there i (omega (arith, low, l)), h.links) in
            set.others (slice_index links i) (t + 1) inside (inl (λ e. apart i n low l (e ∙ is))) ∙ h.here i low
      ];
      others = λ x k m side.
          let inside : x < total_links now = omega (arith, m, h.links) in
          elim side [
            | inl none ↦ set.others x k inside (inl (λ e. none n (omega arith) (sym is ∙ sym e))) ∙ h.others x k m (inl (λ i z. none i (omega (arith, z))))
            | inr later ↦ set.others x k inside (inr later) ∙ h.others x k m (inr later)
          ];
    }

-- the links at one end: at which node each is, and its place there
pub record IsSide (s : Setting) (at place : ℕ → ℕ) (count : ℕ → ℕ) (link : ℕ → ℕ → ℕ) : Type 0 where
  pub place_below : (l : ℕ) → l < s.links → place l < count (at l)
  pub link_at : (l : ℕ) → l < s.links → link (at l) (place l) ≡ l
  pub link_is : (u i : ℕ) → u < s.nodes → i < count u → link u i < s.links
  pub at_of : (u i : ℕ) → u < s.nodes → i < count u → at (link u i) ≡ u
  pub place_of : (u i : ℕ) → u < s.nodes → i < count u → place (link u i) ≡ i

pub heads : (s : Setting) → IsNetwork s → IsSide s s.head s.in_place s.ins s.in_link
heads s n = record { place_below = n.in_place_below; link_at = n.in_link_at; link_is = n.in_link_is_link; at_of = n.in_link_ends; place_of = n.in_place_of }

pub tails : (s : Setting) → IsNetwork s → IsSide s s.tail s.out_place s.outs s.out_link
tails s n = record { place_below = n.out_place_below; link_at = n.out_link_at; link_is = n.out_link_is_link; at_of = n.out_link_starts; place_of = n.out_place_of }

-- links at a node stand there once each
pub at_once : (s : Setting) (at place count : ℕ → ℕ) (link : ℕ → ℕ → ℕ) (u : ℕ) (links : List ℕ) → IsSide s at place count link → u < s.nodes → length links ≡ count u → ((i : ℕ) → i < count u → slice_index links i ≡ link u i) → AreDistinct links
at_once s at place count link u links side there long is i j low l e =
    let first : i < count u = omega (arith, low, l, long) in
    let last : j < count u = omega (arith, l, long) in
    let same : link u i ≡ link u j = sym (is i first) ∙ (e ∙ is j last) in
    let places : i ≡ j = sym (side.place_of u i there first) ∙ (ap place same ∙ side.place_of u j there last) in omega (arith, places, low)

-- the links at the first n nodes
pub record AddsFor (at more : ℕ → ℕ) (many t n : ℕ) (old new : Totals) : Type 0 where
  pub links : total_links new ≡ total_links old
  pub slots : total_slots new ≡ total_slots old
  pub before : (l k : ℕ) → l < many → k ≤ t → total_at new l k ≡ total_at old l k
  pub next : (l : ℕ) → l < many → at l < n → total_at new l (t + 1) ≡ min (2 ^ 32 - 1) (total_at old l t + more l)

pub for_none : (at more : ℕ → ℕ) (many t : ℕ) (totals : Totals) → AddsFor at more many t 0 totals totals
for_none at more many t totals = record { links = refl; slots = refl; before = λ l k m x. refl; next = λ l m x. absurd (omega (arith, x)) }

-- one node more
pub for_more : (s : Setting) (at place count : ℕ → ℕ) (link : ℕ → ℕ → ℕ) (more : ℕ → ℕ) (t n : ℕ) (links numbers : List ℕ) (old now new : Totals) → IsSide s at place count link → n < s.nodes → total_links old ≡ s.links → length links ≡ count n
    → ((i : ℕ) → i < count n → slice_index links i ≡ link n i) → ((l : ℕ) → l < s.links → at l ≡ n → slice_index numbers (place l) ≡ more l)
    → AddsFor at more s.links t n old now → AddsTo links numbers t (length links) now new → AddsFor at more s.links t (n + 1) old new
for_more s at place count link more t n links numbers old now new side there many long is much h adds =
    let inside : (l : ℕ) → l < s.links → l < total_links now = λ l m. omega (arith, m, many, h.links) in
    record {
      links = adds.links ∙ h.links;
      slots = adds.slots ∙ h.slots;
      before = λ l k m x. adds.others l k (inside l m) (inr (λ e. omega (arith, x, e))) ∙ h.before l k m x;
      next = λ l m x. elim (cases_eq (at l) n) [
        | inl e ↦
            let i : ℕ = place l in
            let low : place l < count n = subst (λ (z : ℕ). place l < count z) e (side.place_below l m) in
            let here : slice_index links (place l) ≡ l = is i low ∙ (ap (λ (z : ℕ). link z (place l)) (sym e) ∙ side.link_at l m) in
            ap (λ (z : ℕ). total_at new z (t + 1)) (sym here)
            ∙ (adds.here i (omega (arith, low, long))
            ∙ (ap (λ (z : ℕ). min (2 ^ 32 - 1) (total_at now z t + slice_index numbers (place l))) here
            ∙ (ap (λ (z : ℕ). min (2 ^ 32 - 1) (z + slice_index numbers (place l))) (h.before l t m (omega arith)) ∙ ap (λ (z : ℕ). min (2 ^ 32 - 1) (total_at old l t + z)) (much l m e))))
        | inr other ↦
            let apart : (i : ℕ) → i < length links → slice_index links i ≢ l =
            λ i z e.
            let low : i < count n = omega (arith, z, long) in other (ap at (sym e ∙ is i low) ∙ side.at_of n i there low) in
            adds.others l (t + 1) (inside l m) (inl apart) ∙ h.next l m (omega (arith, x, other))
      ];
    }

-- all nodes
pub for_all : (s : Setting) (at more : ℕ → ℕ) (t n : ℕ) (old new : Totals) → ((l : ℕ) → l < s.links → at l < n) → AddsFor at more s.links t n old new → AddsAll s more t old new
for_all s at more t n old new below h = record { links = h.links; slots = h.slots; before = h.before; next = λ l m. h.next l m (below l m) }
