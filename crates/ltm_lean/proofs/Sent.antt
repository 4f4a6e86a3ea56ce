-- What the links into a node send, link by link.
use Rattle.std.proofs.Common.{◌≡◌, ℕ, ◌+◌, ◌-◌, ◌*◌, ◌<◌, ◌≤◌, ◌⊎◌, List, length, slice_index, slice_index_or, slice_set, arith, refl, sym, ap, subst, ◌∙◌, inl, inr, get_or-set_same, get_or-set_other}
use Rattle.std.proofs.Math.Nat.{mul-le-mul_right}
use Rattle.std.proofs.lemmas.Bool.{cases_eq}
use Rattle.ltm_curve.specs.Counts.{Counts}
use Rattle.ltm_loading.specs.Setting.{Setting}
use Rattle.ltm_loading.specs.Flows.{link_sending}
use Rattle.ltm_loading.specs.Loading.{IsLoading}
use Rattle.ltm_standing.specs.Listed.{Ascends, Stands}
use Rattle.ltm_used.specs.Lists.{list_of}
use Rattle.ltm_lean_node.specs.Places.{ArePlaces}
use Rattle.ltm_lean.specs.declared.incoming.Incoming.{Incoming}
use Rattle.ltm_lean.specs.declared.tables.Tables.{Tables}
use Rattle.ltm_lean.specs.Ends.{IsIncoming, SameIncoming}
use Rattle.ltm_lean.specs.Nodes.{AreTables, IsFrozen, AreIncoming, StandAt}
use Rattle.ltm_lean.proofs.Putting.{read_at, put_incoming}

-- the first links have sent, and the others are as they were
pub record SentTo (s : Setting) (x : Tables) (u t wide : ℕ) (old now : List Incoming) (row : List ℕ) (n : ℕ) : Type 0 where
  pub links : AreIncoming s x u now
  pub later : (i : ℕ) (d : Incoming) → n ≤ i → slice_index_or now i d ≡ slice_index_or old i d
  pub sends : (c : Counts) → IsLoading s c → IsFrozen s c t x → StandAt s c x u (t - 1) t old → (i k : ℕ) → i < n → k < wide → slice_index row (i * wide + k) ≡ link_sending s c (s.in_link u i) t (slice_index (list_of x.nodes u) k)
  pub stands : (c : Counts) → IsLoading s c → IsFrozen s c t x → StandAt s c x u (t - 1) t old → (i : ℕ) (d : Incoming) → i < n → Stands c (s.in_link u i) (list_of x.links (s.in_link u i)) t t (slice_index_or now i d).standing

pub sent_none : (s : Setting) (x : Tables) (u t wide : ℕ) (ins : List Incoming) (row : List ℕ) → AreIncoming s x u ins → SentTo s x u t wide ins ins row 0
sent_none s x u t wide ins row h = record {
  links = h;
  later = λ i d l. refl;
  sends = λ c load frozen stand i k l. absurd (omega (arith, l));
  stands = λ c load frozen stand i d l. absurd (omega (arith, l));
}

-- what a call of a link says
abbrev pub Sends : Setting → Tables → ℕ → ℕ → ℕ → Incoming → List ℕ → Type 0
Sends s x t from wide y next = (c : Counts) (us : List ℕ) → IsLoading s c → IsFrozen s c t x → Stands c y.link.0 (list_of x.links y.link.0) (t - 1) t y.standing → Ascends 0 s.destinations us → ArePlaces (list_of x.links y.link.0) us y.places.items
    → length us ≡ wide → (k : ℕ) → k < wide → slice_index next (from + k) ≡ link_sending s c y.link.0 t (slice_index us k)

abbrev pub TakesIn : Setting → Tables → ℕ → Incoming → Incoming → Type 0
TakesIn s x t y z = (c : Counts) → IsLoading s c → IsFrozen s c t x → Stands c y.link.0 (list_of x.links y.link.0) (t - 1) t y.standing → Stands c y.link.0 (list_of x.links y.link.0) t t z.standing

pub sent_more : (s : Setting) (x : Tables) (u t wide : ℕ) (old now : List Incoming) (y z : Incoming) (row next : List ℕ) (i from : ℕ) → AreTables s x → u < s.nodes → wide ≡ length (list_of x.nodes u) → from ≡ i * wide → i < length now
    → SentTo s x u t wide old now row i → y ≡ slice_index_or now i y → SameIncoming y z → ((p : ℕ) → (p < from) ⊎ (from + wide ≤ p) → slice_index next p ≡ slice_index row p) → Sends s x t from wide y next → TakesIn s x t y z
    → SentTo s x u t wide old (slice_set now i z) next (i + 1)
sent_more s x u t wide old now y z row next i from tables node same_wide place l h is same others sends takes =
    let there : i < s.ins u = omega (arith, l, h.links.count) in
    let at : IsIncoming (s.in_link u i) (list_of x.links (s.in_link u i)) (list_of x.nodes u) y =
    read_at (IsIncoming (s.in_link u i) (list_of x.links (s.in_link u i)) (list_of x.nodes u)) now i y (λ d. h.links.each i d there) is in
    let was : y ≡ slice_index_or old i y = is ∙ h.later i y (omega arith) in
    let stood : (c : Counts) → StandAt s c x u (t - 1) t old → Stands c y.link.0 (list_of x.links y.link.0) (t - 1) t y.standing =
    λ c stand. subst (λ (q : ℕ). Stands c q (list_of x.links q) (t - 1) t y.standing) (sym at.link) (subst (λ (q : Incoming). Stands c (s.in_link u i) (list_of x.links (s.in_link u i)) (t - 1) t q.standing) (sym was) (stand i y there)) in
    record {
      links = put_incoming s x u i now y z h.links l is same;
      later = λ j d m. get_or-set_other now i j z d (λ e. omega (arith, e, m)) ∙ h.later j d (omega (arith, m));
      sends = λ c load frozen stand j k m n. elim (cases_eq j i) [
        | inl e ↦
            let spot : j * wide + k ≡ from + k = ap (λ (q : ℕ). q * wide + k) e ∙ omega (arith, place) in
            let placed : ArePlaces (list_of x.links y.link.0) (list_of x.nodes u) y.places.items = subst (λ (q : ℕ). ArePlaces (list_of x.links q) (list_of x.nodes u) y.places.items) (sym at.link) at.placed in
            ap (slice_index next) spot
            ∙ (sends c (list_of x.nodes u) load frozen (stood c stand) (tables.node_order u node) placed (sym same_wide) k n
            ∙ (ap (λ (q : ℕ). link_sending s c q t (slice_index (list_of x.nodes u) k)) at.link ∙ ap (λ (q : ℕ). link_sending s c (s.in_link u q) t (slice_index (list_of x.nodes u) k)) (sym e)))
        | inr other ↦
            let low : j < i = omega (arith, m, other) in
            let end : (j + 1) * wide ≤ i * wide = mul-le-mul_right wide (omega (arith, low)) in
            let below : j * wide + k < from = omega (arith, end, place, n) in others (j * wide + k) (inl below) ∙ h.sends c load frozen stand j k low n
      ];
      stands = λ c load frozen stand j d m. elim (cases_eq j i) [
        | inl e ↦
            let here : slice_index_or (slice_set now i z) j d ≡ z = ap (λ (q : ℕ). slice_index_or (slice_set now i z) q d) e ∙ get_or-set_same now i z d l in
            let taken : Stands c (s.in_link u i) (list_of x.links (s.in_link u i)) t t z.standing = subst (λ (q : ℕ). Stands c q (list_of x.links q) t t z.standing) at.link (takes c load frozen (stood c stand)) in
            subst (λ (q : Incoming). Stands c (s.in_link u j) (list_of x.links (s.in_link u j)) t t q.standing) (sym here) (subst (λ (q : ℕ). Stands c (s.in_link u q) (list_of x.links (s.in_link u q)) t t z.standing) (sym e) taken)
        | inr other ↦
            subst (λ (q : Incoming). Stands c (s.in_link u j) (list_of x.links (s.in_link u j)) t t q.standing) (sym (get_or-set_other now i j z d other)) (h.stands c load frozen stand j d (omega (arith, m, other)))
      ];
    }
