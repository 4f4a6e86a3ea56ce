-- A link into a node that is put in its place.
use Rattle.std.proofs.Common.{◌≡◌, ℕ, ◌<◌, List, length, slice_index_or, slice_set, arith, sym, ap, subst, ◌∙◌, inl, inr, get_or-set_same, get_or-set_other}
use Rattle.std.proofs.lemmas.Bool.{cases_eq}
use Rattle.std.proofs.lemmas.List.{length-set}
use Rattle.ltm_loading.specs.Setting.{Setting}
use Rattle.ltm_used.specs.Lists.{list_of}
use Rattle.ltm_lean_node.specs.Places.{ArePlaces}
use Rattle.ltm_lean.specs.declared.incoming.Incoming.{Incoming}
use Rattle.ltm_lean.specs.declared.tables.Tables.{Tables}
use Rattle.ltm_lean.specs.Ends.{IsIncoming, SameIncoming}
use Rattle.ltm_lean.specs.Nodes.{AreIncoming}

-- a link at a place of a list of links is the one that is read there
pub read_at : (P : Incoming → Type 0) (xs : List Incoming) (i : ℕ) (y : Incoming) → ((d : Incoming) → P (slice_index_or xs i d)) → y ≡ slice_index_or xs i y → P y
read_at P xs i y h is = subst P (sym is) (h y)

-- the same link at the same places
pub same_incoming : (l : ℕ) (ds us : List ℕ) (y z : Incoming) → IsIncoming l ds us y → SameIncoming y z → IsIncoming l ds us z
same_incoming l ds us y z at same = record {
  link = same.link ∙ at.link;
  wide = same.wide ∙ at.wide;
  placed = subst (ArePlaces ds us) (sym same.places) at.placed;
}

-- a link that is put in the place of one that is the same
pub put_incoming : (s : Setting) (x : Tables) (u i : ℕ) (now : List Incoming) (y z : Incoming) → AreIncoming s x u now → i < length now → y ≡ slice_index_or now i y → SameIncoming y z → AreIncoming s x u (slice_set now i z)
put_incoming s x u i now y z h l is same =
    let there : i < s.ins u = omega (arith, l, h.count) in
    let at : IsIncoming (s.in_link u i) (list_of x.links (s.in_link u i)) (list_of x.nodes u) y =
    read_at (IsIncoming (s.in_link u i) (list_of x.links (s.in_link u i)) (list_of x.nodes u)) now i y (λ d. h.each i d there) is in
    record {
      count = length-set now i z ∙ h.count;
      each = λ j d m. elim (cases_eq j i) [
        | inl e ↦
            let here : slice_index_or (slice_set now i z) j d ≡ z = ap (λ (q : ℕ). slice_index_or (slice_set now i z) q d) e ∙ get_or-set_same now i z d l in
            subst (IsIncoming (s.in_link u j) (list_of x.links (s.in_link u j)) (list_of x.nodes u)) (sym here)
            (subst (λ (q : ℕ). IsIncoming (s.in_link u q) (list_of x.links (s.in_link u q)) (list_of x.nodes u) z) (sym e)
            (same_incoming (s.in_link u i) (list_of x.links (s.in_link u i)) (list_of x.nodes u) y z at same))
        | inr other ↦ subst (IsIncoming (s.in_link u j) (list_of x.links (s.in_link u j)) (list_of x.nodes u)) (sym (get_or-set_other now i j z d other)) (h.each j d m)
      ];
    }
