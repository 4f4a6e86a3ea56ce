-- What stands at a node where nothing moves.
use Rattle.std.proofs.Common.{◌≡◌, ℕ, ◌+◌, ◌<◌, List, length, slice_index, slice_index_or, slice_set, arith, refl, sym, ap, subst, ◌∙◌, inl, inr, get_or-set_same, get_or-set_other}
use Rattle.std.proofs.lemmas.Bool.{cases_eq}
use Rattle.std.proofs.lemmas.List.{length-set, get_or_default}
use Rattle.ltm_units.proofs.Sums.{sum_below-same}
use Rattle.ltm_curve.specs.Counts.{Counts, total}
use Rattle.ltm_loading.specs.Setting.{Setting}
use Rattle.ltm_loading.specs.Groups.{up_of, down_of, dep_of}
use Rattle.ltm_loading.specs.Pairs.{arm_group}
use Rattle.ltm_loading.proofs.Picks.{pick_first, pick_second}
use Rattle.ltm_standing.specs.declared.standing.Standing.{Standing}
use Rattle.ltm_standing.specs.Standing.{IsDifference, StandsAt}
use Rattle.ltm_standing.specs.Listed.{Stands, HasEntered}
use Rattle.ltm_standing.proofs.Thin.{ascends_before}
use Rattle.ltm_used.specs.Lists.{list_of}
use Rattle.ltm_origin.specs.Waiting.{HasLeft}
use Rattle.ltm_lean.specs.declared.incoming.Incoming.{Incoming}
use Rattle.ltm_lean.specs.declared.outgoing.Outgoing.{Outgoing}
use Rattle.ltm_lean.specs.declared.tables.Tables.{Tables}
use Rattle.ltm_lean.specs.Ends.{SameIncoming, SameOutgoing}
use Rattle.ltm_lean.specs.Nodes.{AreTables, AreIncoming, AreOutgoing, StandAt}
use Rattle.ltm_lean.specs.Still.{IsStill}
use Rattle.ltm_lean.proofs.Left.{put_outgoing}
use Rattle.ltm_lean.proofs.Putting.{put_incoming}

-- what leaves the arms in a slot, each of them
still_in : (s : Setting) (c : Counts) (u t i d : ℕ) → IsStill s c u t → i < s.ins u → d < s.destinations → c (down_of (s.in_link u i)) d (t + 1) ≡ c (down_of (s.in_link u i)) d t
still_in s c u t i d h l m =
    let group : arm_group s u i ≡ down_of (s.in_link u i) = pick_first i (s.ins u) (down_of (s.in_link u i)) (dep_of s u) l in
    subst (λ (g : ℕ). c g d (t + 1) ≡ c g d t) group (h.left i d (omega (arith, l)) m)

still_own : (s : Setting) (c : Counts) (u t d : ℕ) → IsStill s c u t → 0 < s.outs u → d < s.destinations → c (dep_of s u) d (t + 1) ≡ c (dep_of s u) d t
still_own s c u t d h l m =
    let group : arm_group s u (s.ins u) ≡ dep_of s u = pick_second (s.ins u) (s.ins u) (down_of (s.in_link u (s.ins u))) (dep_of s u) (omega arith) in
    subst (λ (g : ℕ). c g d (t + 1) ≡ c g d t) group (h.left (s.ins u) d (omega (arith, l)) m)

still_total : (s : Setting) (c : Counts) (g t : ℕ) → ((d : ℕ) → d < s.destinations → c g d (t + 1) ≡ c g d t) → total s.destinations (c g) (t + 1) ≡ total s.destinations (c g) t
still_total s c g t h = sum_below-same s.destinations (λ d. c g d (t + 1)) (λ d. c g d t) h

-- what stands where nothing leaves
stands_still : (w : ℕ) (up down : ℕ → ℕ → ℕ) (k t : ℕ) (s : Standing) → ((i : ℕ) → i < w → down i (t + 1) ≡ down i t) → StandsAt w up down k t s → StandsAt w up down k (t + 1) s
stands_still w up down k t s same h = record {
  begins = h.begins;
  wide = h.wide;
  end = h.end;
  base = h.base;
  rest = λ i l. subst (IsDifference (slice_index s.rest.items i) (up i (h.begins s.next))) (sym (same i l)) (h.rest i l);
  low = h.low;
  freed = omega (arith, h.freed, sum_below-same w (λ i. down i (t + 1)) (λ i. down i t) same);
  later = h.later;
  rows = h.rows;
  others = h.others;
}

pub links_still : (s : Setting) (c : Counts) (x : Tables) (u k t : ℕ) (old new : List Incoming) → AreTables s x → u < s.nodes → ((i : ℕ) → i < s.ins u → s.in_link u i < s.links) → IsStill s c u t
    → ((i : ℕ) (d : Incoming) → i < s.ins u → (slice_index_or new i d).standing ≡ (slice_index_or old i d).standing) → StandAt s c x u k t old → StandAt s c x u k (t + 1) new
links_still s c x u k t old new tables there links still same h i d l =
    let ds : List ℕ = list_of x.links (s.in_link u i) in
    subst (λ (q : Standing). Stands c (s.in_link u i) ds k (t + 1) q) (sym (same i d l))
    (stands_still (length ds) (λ j b. c (up_of (s.in_link u i)) (slice_index ds j) b) (λ j b. c (down_of (s.in_link u i)) (slice_index ds j) b) k t (slice_index_or old i d).standing
    (λ j m. still_in s c u t i (slice_index ds j) still l (ascends_before 0 s.destinations ds (tables.link_order (s.in_link u i) (links i l)) j m)) (h i d l))

pub origin_still : (s : Setting) (c : Counts) (x : Tables) (u t left : ℕ) (gone : List ℕ) → AreTables s x → u < s.nodes → IsStill s c u t → 0 < s.outs u → HasLeft s c u t (list_of x.nodes u) left gone → HasLeft s c u (t + 1) (list_of x.nodes u) left gone
origin_still s c x u t left gone tables there still some h = record {
  all = h.all ∙ sym (still_total s c (dep_of s u) t (λ d m. still_own s c u t d still some m));
  each = λ i l. h.each i l ∙ sym (still_own s c u t (slice_index (list_of x.nodes u) i) still some (ascends_before 0 s.destinations (list_of x.nodes u) (tables.node_order u there) i l));
}

pub gone_still : (s : Setting) (c : Counts) (u t : ℕ) (ins : List Incoming) → IsStill s c u t → ((i : ℕ) (d : Incoming) → i < s.ins u → (slice_index_or ins i d).gone ≡ 0)
    → (i : ℕ) (d : Incoming) → i < s.ins u → total s.destinations (c (down_of (s.in_link u i))) (t + 1) ≡ total s.destinations (c (down_of (s.in_link u i))) t + (slice_index_or ins i d).gone
gone_still s c u t ins still none i d l = omega (arith, still_total s c (down_of (s.in_link u i)) t (λ e m. still_in s c u t i e still l m), none i d l)

pub came_still : (s : Setting) (c : Counts) (x : Tables) (u t : ℕ) (outs : List Outgoing) → IsStill s c u t → ((j : ℕ) (d : Outgoing) → j < s.outs u → (slice_index_or outs j d).mail.came ≡ 0)
    → (j : ℕ) (d : Outgoing) → j < s.outs u → HasEntered s c (s.out_link u j) (list_of x.links (s.out_link u j)) t (slice_index_or outs j d).mail.came (slice_index_or outs j d).mail.numbers.items
came_still s c x u t outs still none j d l = record {
  all = omega (arith, still_total s c (up_of (s.out_link u j)) t (λ e m. still.entered j e l m), none j d l);
  each = λ some i m. absurd (omega (arith, some, none j d l));
}

-- of the first links into a node nothing left
pub record RestTo (old now : List Incoming) (n : ℕ) : Type 0 where
  pub long : length now ≡ length old
  pub links : (s : Setting) (x : Tables) (u : ℕ) → AreIncoming s x u old → AreIncoming s x u now
  pub gone : (i : ℕ) (d : Incoming) → i < n → (slice_index_or now i d).gone ≡ 0
  pub stands : (i : ℕ) (d : Incoming) → i < length old → (slice_index_or now i d).standing ≡ (slice_index_or old i d).standing

pub rest_none : (ins : List Incoming) → RestTo ins ins 0
rest_none ins = record { long = refl; links = λ s x u h. h; gone = λ i d l. absurd (omega (arith, l)); stands = λ i d l. refl }

pub rest_more : (old now : List Incoming) (y z : Incoming) (n : ℕ) → RestTo old now n → n < length now → y ≡ slice_index_or now n y → SameIncoming y z → z.gone ≡ 0 → z.standing ≡ y.standing → RestTo old (slice_set now n z) (n + 1)
rest_more old now y z n h l is same gone stands = record {
  long = length-set now n z ∙ h.long;
  links = λ s x u links. put_incoming s x u n now y z (h.links s x u links) l is same;
  gone = λ i d m. elim (cases_eq i n) [
    | inl e ↦ ap (λ (q : ℕ). (slice_index_or (slice_set now n z) q d).gone) e ∙ (ap (λ (q : Incoming). q.gone) (get_or-set_same now n z d l) ∙ gone)
    | inr other ↦ ap (λ (q : Incoming). q.gone) (get_or-set_other now n i z d other) ∙ h.gone i d (omega (arith, m, other))
  ];
  stands = λ i d m. elim (cases_eq i n) [
    | inl e ↦
        let read : slice_index_or now i d ≡ y = ap (λ (q : ℕ). slice_index_or now q d) e ∙ (get_or_default now n d y l ∙ sym is) in
        ap (λ (q : ℕ). (slice_index_or (slice_set now n z) q d).standing) e
        ∙ (ap (λ (q : Incoming). q.standing) (get_or-set_same now n z d l) ∙ (stands ∙ (ap (λ (q : Incoming). q.standing) (sym read) ∙ h.stands i d m)))
    | inr other ↦ ap (λ (q : Incoming). q.standing) (get_or-set_other now n i z d other) ∙ h.stands i d m
  ];
}

-- and nothing entered the first links out of it
pub record RestOuts (old now : List Outgoing) (n : ℕ) : Type 0 where
  pub long : length now ≡ length old
  pub links : (s : Setting) (x : Tables) (u : ℕ) → AreOutgoing s x u old → AreOutgoing s x u now
  pub came : (j : ℕ) (d : Outgoing) → j < n → (slice_index_or now j d).mail.came ≡ 0

pub outs_none : (outs : List Outgoing) → RestOuts outs outs 0
outs_none outs = record { long = refl; links = λ s x u h. h; came = λ j d l. absurd (omega (arith, l)) }

pub outs_more : (old now : List Outgoing) (y z : Outgoing) (n : ℕ) → RestOuts old now n → n < length now → y ≡ slice_index_or now n y → SameOutgoing y z → z.mail.came ≡ 0 → RestOuts old (slice_set now n z) (n + 1)
outs_more old now y z n h l is same came = record {
  long = length-set now n z ∙ h.long;
  links = λ s x u links. put_outgoing s x u n now y z (h.links s x u links) l is same;
  came = λ j d m. elim (cases_eq j n) [
    | inl e ↦ ap (λ (q : ℕ). (slice_index_or (slice_set now n z) q d).mail.came) e ∙ (ap (λ (q : Outgoing). q.mail.came) (get_or-set_same now n z d l) ∙ came)
    | inr other ↦ ap (λ (q : Outgoing). q.mail.came) (get_or-set_other now n j z d other) ∙ h.came j d (omega (arith, m, other))
  ];
}
