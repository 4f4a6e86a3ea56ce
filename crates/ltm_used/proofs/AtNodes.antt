-- The destinations that can be at a node.
use Rattle.std.proofs.Common.{◌≡◌, ℕ, ◌+◌, ◌<◌, List, length, nat_lt, slice_index, arith, sym, ap, subst, ◌∙◌, inl, inr}
use Rattle.std.proofs.lemmas.Bool.{cases_lt, cases_eq, lt-ltb}
use Rattle.ltm_curve.specs.Counts.{Counts}
use Rattle.ltm_loading.specs.Setting.{Setting, IsSetting}
use Rattle.ltm_loading.specs.Loading.{IsLoading}
use Rattle.ltm_standing.specs.Listed.{Ascends, IsListed}
use Rattle.ltm_thin.specs.NodeLists.{IsNodeList}
use Rattle.ltm_used.specs.declared.found.Found.{Found}
use Rattle.ltm_used.specs.declared.used.Used.{Used}
use Rattle.ltm_used.specs.Closed.{IsIn, HasDemand}
use Rattle.ltm_used.specs.Found.{is_found, Grows}
use Rattle.ltm_used.specs.Lists.{found_from, list_of}
use Rattle.ltm_used.proofs.Finding.{grows_none, grows_more}
use Rattle.ltm_used.proofs.Listing.{filter_ascends, in_filter}

-- a list has all that can be on a link into a node and all of which the node produces something
pub record HasAll (s : Setting) (used : Used) (u : ℕ) (ds : List ℕ) : Type 0 where
  pub order : Ascends 0 s.destinations ds
  pub links : (i d : ℕ) → i < s.ins u → d < s.destinations → IsIn (list_of used (s.in_link u i)) d → IsIn ds d
  pub origin : (d : ℕ) → d < s.destinations → HasDemand s u d → IsIn ds d

found_in : (f : Found) (many d : ℕ) → d < many → is_found f d → IsIn (found_from f 0 many) d
found_in f many d l found =
    let at : 0 + d ≡ d = omega arith in
    let there : 0 < slice_index f.marks.items (0 + d) = subst (λ (z : ℕ). 0 < slice_index f.marks.items z) (sym at) found in
    in_filter (λ k. nat_lt 0 (slice_index f.marks.items (0 + k))) 0 many d (omega arith) (omega (arith, l)) (lt-ltb 0 _ there)

pub has_all : (s : Setting) (used : Used) (u : ℕ) (f : Found) (many : ℕ) → many ≡ s.destinations → ((i d : ℕ) → i < s.ins u → IsIn (list_of used (s.in_link u i)) d → is_found f d) → ((d : ℕ) → d < s.destinations → HasDemand s u d → is_found f d)
    → HasAll s used u (found_from f 0 many)
has_all s used u f many e links origin =
    record {
      order = filter_ascends (λ k. nat_lt 0 (slice_index f.marks.items (0 + k))) 0 many s.destinations (omega (arith, e));
      links = λ i d a l listed. found_in f many d (omega (arith, l, e)) (links i d a listed);
      origin = λ d l demand. found_in f many d (omega (arith, l, e)) (origin d l demand);
    }

-- such a list is one of the node in every loading
pub is_node_list : (s : Setting) (used : Used) (c : Counts) (u : ℕ) (ds : List ℕ) → IsSetting s → IsLoading s c → u < s.nodes → ((l : ℕ) → l < s.links → IsListed s c l (list_of used l)) → HasAll s used u ds → IsNodeList s c u ds
is_node_list s used c u ds v load x listed h = record {
  setting = v;
  loading = load;
  node = x;
  order = h.order;
  links = λ i d k a m y out.
      (listed (s.in_link u i) (v.network.in_link_is_link u i x a)).others d k m y (λ q b e. let there : IsIn ds d = h.links i d a m (q, (b, e)) in out there.0 there.1.0 there.1.1);
  origin = λ d m out. elim (cases_lt 0 (s.produced u d s.slots)) [
    | inl some ↦ absurd (let there : IsIn ds d = h.origin d m some in out there.0 there.1.0 there.1.1)
    | inr none ↦ omega (arith, none)
  ];
}

-- the first numbers of a list are found
pub record FindsFirst (old new : Found) (list : List ℕ) (n : ℕ) : Type 0 where
  pub grows : Grows old new
  pub found : (j : ℕ) → j < n → is_found new (slice_index list j)

pub first_none : (f : Found) (list : List ℕ) → FindsFirst f f list 0
first_none f list = record { grows = grows_none f; found = λ j l. absurd (omega arith) }

pub first_more : (old new next : Found) (list : List ℕ) (n : ℕ) → FindsFirst old new list n → Grows new next → is_found next (slice_index list n) → FindsFirst old next list (n + 1)
first_more old new next list n h g here = record {
  grows = grows_more old new next h.grows g;
  found = λ j l. elim (cases_eq j n) [
    | inl same ↦ subst (λ (z : ℕ). is_found next (slice_index list z)) (sym same) here
    | inr other ↦ g.keeps (slice_index list j) (h.found j (omega (arith, l, other)))
  ];
}

-- the lists of the first in-links are found
pub record FindsLinks (s : Setting) (used : Used) (u : ℕ) (old new : Found) (n : ℕ) : Type 0 where
  pub grows : Grows old new
  pub found : (i d : ℕ) → i < n → IsIn (list_of used (s.in_link u i)) d → is_found new d

pub links_none : (s : Setting) (used : Used) (u : ℕ) (f : Found) → FindsLinks s used u f f 0
links_none s used u f = record { grows = grows_none f; found = λ i d l. absurd (omega arith) }

pub links_more : (s : Setting) (used : Used) (u : ℕ) (old new next : Found) (n : ℕ) (list : List ℕ) → FindsLinks s used u old new n → Grows new next → list ≡ list_of used (s.in_link u n)
    → ((j : ℕ) → j < length list → is_found next (slice_index list j)) → FindsLinks s used u old next (n + 1)
links_more s used u old new next n list h g e here = record {
  grows = grows_more old new next h.grows g;
  found = λ i d l listed. elim (cases_eq i n) [
    | inl same ↦
        let there : IsIn list d = subst (λ (xs : List ℕ). IsIn xs d) (sym e) (subst (λ (z : ℕ). IsIn (list_of used (s.in_link u z)) d) same listed) in
        subst (is_found next) there.1.1 (here there.0 there.1.0)
    | inr other ↦ g.keeps d (h.found i d (omega (arith, l, other)) listed)
  ];
}

-- of the first destinations those are found of which a node produces something
pub record FindsDemand (s : Setting) (u : ℕ) (old new : Found) (n : ℕ) : Type 0 where
  pub grows : Grows old new
  pub found : (d : ℕ) → d < n → HasDemand s u d → is_found new d

pub demand_none : (s : Setting) (u : ℕ) (f : Found) → FindsDemand s u f f 0
demand_none s u f = record { grows = grows_none f; found = λ d l. absurd (omega arith) }

pub demand_over : (s : Setting) (u : ℕ) (old new : Found) (n : ℕ) → FindsDemand s u old new n → s.produced u n s.slots ≡ 0 → FindsDemand s u old new (n + 1)
demand_over s u old new n h none = record {
  grows = h.grows;
  found = λ d l demand. elim (cases_eq d n) [
    | inl same ↦ absurd (let nothing : s.produced u d s.slots ≡ 0 = ap (λ (z : ℕ). s.produced u z s.slots) same ∙ none in omega (arith, demand, nothing))
    | inr other ↦ h.found d (omega (arith, l, other)) demand
  ];
}

pub demand_more : (s : Setting) (u : ℕ) (old new next : Found) (n : ℕ) → FindsDemand s u old new n → Grows new next → is_found next n → FindsDemand s u old next (n + 1)
demand_more s u old new next n h g here = record {
  grows = grows_more old new next h.grows g;
  found = λ d l demand. elim (cases_eq d n) [
    | inl same ↦ subst (is_found next) (sym same) here
    | inr other ↦ g.keeps d (h.found d (omega (arith, l, other)) demand)
  ];
}
