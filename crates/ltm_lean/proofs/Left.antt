-- What leaves the links into a node, and what enters those out of it, link by link.
use Rattle.std.proofs.Common.{◌≡◌, ℕ, ◌+◌, ◌<◌, ◌≤◌, List, length, slice_index, slice_index_or, slice_set, arith, refl, sym, ap, subst, ◌∙◌, inl, inr, get_or-set_same, get_or-set_other}
use Rattle.std.proofs.lemmas.Bool.{cases_eq}
use Rattle.std.proofs.lemmas.List.{length-set}
use Rattle.ltm_curve.specs.Counts.{Counts, total}
use Rattle.ltm_node.specs.Outputs.{Outputs, left_after, entered_after}
use Rattle.ltm_loading.specs.Setting.{Setting}
use Rattle.ltm_loading.specs.Groups.{up_of, down_of}
use Rattle.ltm_standing.specs.Listed.{Stands, HasEntered}
use Rattle.ltm_used.specs.Lists.{list_of}
use Rattle.ltm_lean_node.specs.Places.{ArePlaces}
use Rattle.ltm_lean_link.specs.Moved.{IsMovedAt}
use Rattle.ltm_lean.specs.declared.incoming.Incoming.{Incoming}
use Rattle.ltm_lean.specs.declared.outgoing.Outgoing.{Outgoing}
use Rattle.ltm_lean.specs.declared.tables.Tables.{Tables}
use Rattle.ltm_lean.specs.Ends.{IsIncoming, IsOutgoing, SameIncoming, SameOutgoing}
use Rattle.ltm_lean.specs.Nodes.{AreIncoming, AreOutgoing, IsMoving, StandAt}
use Rattle.ltm_lean.proofs.Arms.{moved_in, moved_out}
use Rattle.ltm_lean.proofs.Putting.{read_at, put_incoming}

-- what moves at a node by a link into it, and by one out of it
pub leaves_at : (s : Setting) (c : Counts) (x : Tables) (u t i : ℕ) (places row : List ℕ) (o : Outputs) → IsMoving s c x u t o → i < s.ins u → ArePlaces (list_of x.links (s.in_link u i)) (list_of x.nodes u) places → length row ≡ o.shape.destinations
    → ((k : ℕ) → k < o.shape.destinations → slice_index row k ≡ left_after o i k) → IsMovedAt s c (s.in_link u i) (down_of (s.in_link u i)) t (list_of x.links (s.in_link u i)) (list_of x.nodes u) places row
leaves_at s c x u t i places row o m l placed long at = record {
  listed = m.tables.link_listed c (s.in_link u i) m.loading ((m.tables.node_listed c u m.loading m.there).setting.network.in_link_is_link u i m.there l);
  slot = m.in_time;
  placed = placed;
  long = long ∙ m.wide;
  counted = moved_in s c u t i (list_of x.nodes u) row o m.moves l (λ k a. at k (omega (arith, a, m.wide)));
}

pub enters_at : (s : Setting) (c : Counts) (x : Tables) (u t j : ℕ) (places row : List ℕ) (o : Outputs) → IsMoving s c x u t o → j < s.outs u → ArePlaces (list_of x.links (s.out_link u j)) (list_of x.nodes u) places → length row ≡ o.shape.destinations
    → ((k : ℕ) → k < o.shape.destinations → slice_index row k ≡ entered_after o j k) → IsMovedAt s c (s.out_link u j) (up_of (s.out_link u j)) t (list_of x.links (s.out_link u j)) (list_of x.nodes u) places row
enters_at s c x u t j places row o m l placed long at = record {
  listed = m.tables.link_listed c (s.out_link u j) m.loading ((m.tables.node_listed c u m.loading m.there).setting.network.out_link_is_link u j m.there l);
  slot = m.in_time;
  placed = placed;
  long = long ∙ m.wide;
  counted = moved_out s c u t j (list_of x.nodes u) row o m.moves l (λ k a. at k (omega (arith, a, m.wide)));
}

-- from the first links what left is taken away, and the others are as they were
pub record LeftTo (old now : List Incoming) (o : Outputs) (n : ℕ) : Type 0 where
  pub long : length now ≡ length old
  pub links : (s : Setting) (x : Tables) (u : ℕ) → AreIncoming s x u old → AreIncoming s x u now
  pub later : (i : ℕ) (d : Incoming) → n ≤ i → slice_index_or now i d ≡ slice_index_or old i d
  pub stands : (s : Setting) (x : Tables) (c : Counts) (u k t : ℕ) → AreIncoming s x u old → IsMoving s c x u t o → StandAt s c x u k t old → (i : ℕ) (d : Incoming) → i < n → i < s.ins u →
      Stands c (s.in_link u i) (list_of x.links (s.in_link u i)) k (t + 1) (slice_index_or now i d).standing
  pub gone : (s : Setting) (x : Tables) (c : Counts) (u t : ℕ) → AreIncoming s x u old → IsMoving s c x u t o → (i : ℕ) (d : Incoming) → i < n → i < s.ins u →
      total s.destinations (c (down_of (s.in_link u i))) (t + 1) ≡ total s.destinations (c (down_of (s.in_link u i))) t + (slice_index_or now i d).gone

pub left_none : (ins : List Incoming) (o : Outputs) → LeftTo ins ins o 0
left_none ins o = record {
  long = refl;
  links = λ s x u h. h;
  later = λ i d l. refl;
  stands = λ s x c u k t h m stand i d l. absurd (omega (arith, l));
  gone = λ s x c u t h m i d l. absurd (omega (arith, l));
}

pub left_more : (old now : List Incoming) (y z : Incoming) (row : List ℕ) (o : Outputs) (i : ℕ) → i < length now → LeftTo old now o i → y ≡ slice_index_or now i y → SameIncoming y z → length row ≡ o.shape.destinations
    → ((k : ℕ) → k < o.shape.destinations → slice_index row k ≡ left_after o i k)
    → ((s : Setting) (c : Counts) (l t : ℕ) (ds us : List ℕ) → IsMovedAt s c l (down_of l) t ds us y.places.items row → total s.destinations (c (down_of l)) (t + 1) ≡ total s.destinations (c (down_of l)) t + z.gone)
    → ((s : Setting) (c : Counts) (l k t : ℕ) (ds us : List ℕ) → IsMovedAt s c l (down_of l) t ds us y.places.items row → Stands c l ds k t y.standing → Stands c l ds k (t + 1) z.standing) → LeftTo old (slice_set now i z) o (i + 1)
left_more old now y z row o i l h is same long at gone stands =
    let was : y ≡ slice_index_or old i y = is ∙ h.later i y (omega arith) in
    let moved : (s : Setting) (x : Tables) (c : Counts) (u t : ℕ) → AreIncoming s x u old → IsMoving s c x u t o → i < s.ins u → IsMovedAt s c (s.in_link u i) (down_of (s.in_link u i)) t (list_of x.links (s.in_link u i)) (list_of x.nodes u) y.places.items row =
    λ s x c u t links m there.
    leaves_at s c x u t i y.places.items row o m there (read_at (IsIncoming (s.in_link u i) (list_of x.links (s.in_link u i)) (list_of x.nodes u)) old i y (λ d. links.each i d there) was).placed long at in
    let here : (j : ℕ) (d : Incoming) → j ≡ i → slice_index_or (slice_set now i z) j d ≡ z = λ j d e. ap (λ (q : ℕ). slice_index_or (slice_set now i z) q d) e ∙ get_or-set_same now i z d l in
    record {
      long = length-set now i z ∙ h.long;
      links = λ s x u links. put_incoming s x u i now y z (h.links s x u links) l is same;
      later = λ j d m. get_or-set_other now i j z d (λ e. omega (arith, e, m)) ∙ h.later j d (omega (arith, m));
      stands = λ s x c u k t links m stand j d a b. elim (cases_eq j i) [
        | inl e ↦
            let there : i < s.ins u = omega (arith, e, b) in
            let stood : Stands c (s.in_link u i) (list_of x.links (s.in_link u i)) k t y.standing = subst (λ (q : Incoming). Stands c (s.in_link u i) (list_of x.links (s.in_link u i)) k t q.standing) (sym was) (stand i y there) in
            subst (λ (q : Incoming). Stands c (s.in_link u j) (list_of x.links (s.in_link u j)) k (t + 1) q.standing) (sym (here j d e))
            (subst (λ (q : ℕ). Stands c (s.in_link u q) (list_of x.links (s.in_link u q)) k (t + 1) z.standing) (sym e)
            (stands s c (s.in_link u i) k t (list_of x.links (s.in_link u i)) (list_of x.nodes u) (moved s x c u t links m there) stood))
        | inr other ↦
            subst (λ (q : Incoming). Stands c (s.in_link u j) (list_of x.links (s.in_link u j)) k (t + 1) q.standing) (sym (get_or-set_other now i j z d other)) (h.stands s x c u k t links m stand j d (omega (arith, a, other)) b)
      ];
      gone = λ s x c u t links m j d a b. elim (cases_eq j i) [
        | inl e ↦
            let there : i < s.ins u = omega (arith, e, b) in
            let left : total s.destinations (c (down_of (s.in_link u i))) (t + 1) ≡ total s.destinations (c (down_of (s.in_link u i))) t + z.gone = gone s c (s.in_link u i) t (list_of x.links (s.in_link u i)) (list_of x.nodes u) (moved s x c u t links m there) in
            subst (λ (q : ℕ). total s.destinations (c (down_of (s.in_link u q))) (t + 1) ≡ total s.destinations (c (down_of (s.in_link u q))) t + (slice_index_or (slice_set now i z) q d).gone) (sym e)
            (left ∙ ap (λ (q : Incoming). total s.destinations (c (down_of (s.in_link u i))) t + q.gone) (sym (here i d refl)))
        | inr other ↦
            h.gone s x c u t links m j d (omega (arith, a, other)) b
            ∙ ap (λ (q : Incoming). total s.destinations (c (down_of (s.in_link u j))) t + q.gone) (sym (get_or-set_other now i j z d other))
      ];
    }

-- into the first links what entered is written, and the others are as they were
pub record EnteredTo (old now : List Outgoing) (o : Outputs) (n : ℕ) : Type 0 where
  pub long : length now ≡ length old
  pub links : (s : Setting) (x : Tables) (u : ℕ) → AreOutgoing s x u old → AreOutgoing s x u now
  pub later : (j : ℕ) (d : Outgoing) → n ≤ j → slice_index_or now j d ≡ slice_index_or old j d
  pub came : (s : Setting) (x : Tables) (c : Counts) (u t : ℕ) → AreOutgoing s x u old → IsMoving s c x u t o → (j : ℕ) (d : Outgoing) → j < n → j < s.outs u →
      HasEntered s c (s.out_link u j) (list_of x.links (s.out_link u j)) t (slice_index_or now j d).mail.came (slice_index_or now j d).mail.numbers.items

pub entered_none : (outs : List Outgoing) (o : Outputs) → EnteredTo outs outs o 0
entered_none outs o = record { long = refl; links = λ s x u h. h; later = λ j d l. refl; came = λ s x c u t h m j d l. absurd (omega (arith, l)) }

pub out_at : (P : Outgoing → Type 0) (xs : List Outgoing) (j : ℕ) (y : Outgoing) → ((d : Outgoing) → P (slice_index_or xs j d)) → y ≡ slice_index_or xs j y → P y
out_at P xs j y h is = subst P (sym is) (h y)

pub same_outgoing : (l : ℕ) (ds us : List ℕ) (y z : Outgoing) → IsOutgoing l ds us y → SameOutgoing y z → IsOutgoing l ds us z
same_outgoing l ds us y z at same = record {
  link = same.0 ∙ at.link;
  wide = same.1.0 ∙ at.wide;
  placed = subst (ArePlaces ds us) (sym same.1.1) at.placed;
}

pub put_outgoing : (s : Setting) (x : Tables) (u j : ℕ) (now : List Outgoing) (y z : Outgoing) → AreOutgoing s x u now → j < length now → y ≡ slice_index_or now j y → SameOutgoing y z → AreOutgoing s x u (slice_set now j z)
put_outgoing s x u j now y z h l is same =
    let there : j < s.outs u = omega (arith, l, h.count) in
    let at : IsOutgoing (s.out_link u j) (list_of x.links (s.out_link u j)) (list_of x.nodes u) y =
    out_at (IsOutgoing (s.out_link u j) (list_of x.links (s.out_link u j)) (list_of x.nodes u)) now j y (λ d. h.each j d there) is in
    record {
      count = length-set now j z ∙ h.count;
      each = λ i d m. elim (cases_eq i j) [
        | inl e ↦
            let here : slice_index_or (slice_set now j z) i d ≡ z = ap (λ (q : ℕ). slice_index_or (slice_set now j z) q d) e ∙ get_or-set_same now j z d l in
            subst (IsOutgoing (s.out_link u i) (list_of x.links (s.out_link u i)) (list_of x.nodes u)) (sym here)
            (subst (λ (q : ℕ). IsOutgoing (s.out_link u q) (list_of x.links (s.out_link u q)) (list_of x.nodes u) z) (sym e)
            (same_outgoing (s.out_link u j) (list_of x.links (s.out_link u j)) (list_of x.nodes u) y z at same))
        | inr other ↦ subst (IsOutgoing (s.out_link u i) (list_of x.links (s.out_link u i)) (list_of x.nodes u)) (sym (get_or-set_other now j i z d other)) (h.each i d m)
      ];
    }

pub entered_more : (old now : List Outgoing) (y z : Outgoing) (row : List ℕ) (o : Outputs) (j : ℕ) → j < length now → EnteredTo old now o j → y ≡ slice_index_or now j y → SameOutgoing y z → length row ≡ o.shape.destinations
    → ((k : ℕ) → k < o.shape.destinations → slice_index row k ≡ entered_after o j k)
    → ((s : Setting) (c : Counts) (l t : ℕ) (ds us : List ℕ) → IsMovedAt s c l (up_of l) t ds us y.places.items row → HasEntered s c l ds t z.mail.came z.mail.numbers.items) → EnteredTo old (slice_set now j z) o (j + 1)
entered_more old now y z row o j l h is same long at came =
    let was : y ≡ slice_index_or old j y = is ∙ h.later j y (omega arith) in
    let here : (i : ℕ) (d : Outgoing) → i ≡ j → slice_index_or (slice_set now j z) i d ≡ z = λ i d e. ap (λ (q : ℕ). slice_index_or (slice_set now j z) q d) e ∙ get_or-set_same now j z d l in
    record {
      long = length-set now j z ∙ h.long;
      links = λ s x u links. put_outgoing s x u j now y z (h.links s x u links) l is same;
      later = λ i d m. get_or-set_other now j i z d (λ e. omega (arith, e, m)) ∙ h.later i d (omega (arith, m));
      came = λ s x c u t links m i d a b. elim (cases_eq i j) [
        | inl e ↦
            let there : j < s.outs u = omega (arith, e, b) in
            let placed : ArePlaces (list_of x.links (s.out_link u j)) (list_of x.nodes u) y.places.items =
            (out_at (IsOutgoing (s.out_link u j) (list_of x.links (s.out_link u j)) (list_of x.nodes u)) old j y (λ q. links.each j q there) was).placed in
            subst (λ (q : Outgoing). HasEntered s c (s.out_link u i) (list_of x.links (s.out_link u i)) t q.mail.came q.mail.numbers.items) (sym (here i d e))
            (subst (λ (q : ℕ). HasEntered s c (s.out_link u q) (list_of x.links (s.out_link u q)) t z.mail.came z.mail.numbers.items) (sym e)
            (came s c (s.out_link u j) t (list_of x.links (s.out_link u j)) (list_of x.nodes u) (enters_at s c x u t j y.places.items row o m there placed long at)))
        | inr other ↦
            subst (λ (q : Outgoing). HasEntered s c (s.out_link u i) (list_of x.links (s.out_link u i)) t q.mail.came q.mail.numbers.items) (sym (get_or-set_other now j i z d other)) (h.came s x c u t links m i d (omega (arith, a, other)) b)
      ];
    }
