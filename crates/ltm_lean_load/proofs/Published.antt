-- What all nodes read after a slot is published.
use Rattle.std.proofs.Common.{◌≡◌, ℕ, ◌+◌, ◌-◌, ◌^◌, ◌<◌, ◌≤◌, List, [], Option, length, map, min, slice_index, slice_index_or, arith, sym, ap, subst, ◌∙◌, inl, inr}
use Rattle.std.proofs.lemmas.Bool.{cases_lt}
use Rattle.ltm_units.specs.declared.places.NodeId.{NodeId}
use Rattle.ltm_curve.specs.Counts.{Counts, total}
use Rattle.ltm_node.specs.Shape.{is_this}
use Rattle.ltm_loading.specs.Setting.{Setting, IsSetting, IsNetwork}
use Rattle.ltm_loading.specs.Groups.{up_of, down_of}
use Rattle.ltm_loading.specs.Loading.{IsLoading}
use Rattle.ltm_loading.proofs.Crossing.{totals_small_holds}
use Rattle.ltm_loading.proofs.Front.{earlier_front}
use Rattle.ltm_standing.specs.Listed.{Ascends, IsListed, Stands, HasEntered}
use Rattle.ltm_thin.specs.NodeLists.{IsNodeList}
use Rattle.ltm_origin.specs.Waiting.{HasLeft}
use Rattle.ltm_totals.specs.declared.totals.Totals.{Totals}
use Rattle.ltm_totals.specs.Totals.{total_at, AreTotals}
use Rattle.ltm_used.specs.declared.used.Used.{Used}
use Rattle.ltm_used.specs.Lists.{links_of, list_of}
use Rattle.ltm_lean_node.specs.Kept.{AreKept}
use Rattle.ltm_lean.specs.declared.incoming.Incoming.{Incoming}
use Rattle.ltm_lean.specs.declared.mail.Mail.{Mail}
use Rattle.ltm_lean.specs.declared.node.LeanNode.{LeanNode}
use Rattle.ltm_lean.specs.declared.outgoing.Outgoing.{Outgoing}
use Rattle.ltm_lean.specs.declared.tables.Tables.{Tables}
use Rattle.ltm_lean.specs.Ends.{mail_width, IsIncoming, IsOutgoing, SameOutgoing}
use Rattle.ltm_lean.specs.Nodes.{AreTables, IsFrozen, AreIncoming, AreOutgoing, StandAt, IsNodeAt, StandsAtNode}
use Rattle.ltm_lean.proofs.Left.{same_outgoing}
use Rattle.ltm_lean_load.specs.Adding.{AddsAll}
use Rattle.ltm_lean_kept.specs.Kept.{AreNodes, AllStand}
use Rattle.ltm_lean_load.specs.Nodes.{AreEnds, AllMoved, SameButMails, gone_at, came_at, mail_at}
use Rattle.ltm_lean_load.specs.Publishing.{TradesAll}
use Rattle.ltm_lean_load.proofs.Elements.{at_map}

-- the links into a node and out of it
pub incoming_at : (s : Setting) (x : Tables) (nodes : List LeanNode) (u : ℕ) (d : LeanNode) → AreNodes s x nodes → u < s.nodes → AreIncoming s x u (slice_index_or nodes u d).ins.items
incoming_at s x nodes u d h l = subst (λ (q : ℕ). AreIncoming s x q (slice_index_or nodes u d).ins.items) (h.number u d l) (h.each u d l).incoming

pub outgoing_at : (s : Setting) (x : Tables) (nodes : List LeanNode) (u : ℕ) (d : LeanNode) → AreNodes s x nodes → u < s.nodes → AreOutgoing s x u (slice_index_or nodes u d).outs.items
outgoing_at s x nodes u d h l = subst (λ (q : ℕ). AreOutgoing s x q (slice_index_or nodes u d).outs.items) (h.number u d l) (h.each u d l).outgoing

pub ends_of : (s : Setting) (x : Tables) (nodes : List LeanNode) → AreNodes s x nodes → AreEnds s nodes
ends_of s x nodes h = record {
  count = h.count;
  ins = λ u d l. (incoming_at s x nodes u d h l).count;
  outs = λ u d l. (outgoing_at s x nodes u d h l).count;
  in_links = λ u i d l m.
      let at = incoming_at s x nodes u d h l in at_map Incoming ℕ (λ (y : Incoming). y.link.0) (slice_index_or nodes u d).ins.items i 0 (λ (q : ℕ). q ≡ s.in_link u i) (omega (arith, m, at.count)) (λ e. (at.each i e m).link);
  out_links = λ u j d l m.
      let at = outgoing_at s x nodes u d h l in at_map Outgoing ℕ (λ (y : Outgoing). y.link.0) (slice_index_or nodes u d).outs.items j 0 (λ (q : ℕ). q ≡ s.out_link u j) (omega (arith, m, at.count)) (λ e. (at.each j e m).link);
}

-- what is told of a link at its head, and at its tail
at_head : (B : Type 0) (f : Incoming → B) (s : Setting) (nodes : List LeanNode) (l : ℕ) (b : B) (P : B → Type 0) → IsNetwork s → AreEnds s nodes → l < s.links
    → ((e : LeanNode) (g : Incoming) → P (f (slice_index_or (slice_index_or nodes (s.head l) e).ins.items (s.in_place l) g)))
    → P (slice_index_or (slice_index_or (map (λ (n : LeanNode). map f n.ins.items) nodes) (s.head l) []) (s.in_place l) b)
at_head B f s nodes l b P net ends m h =
    let there : s.head l < s.nodes = net.head_is_node l m in
    at_map LeanNode (List B) (λ (n : LeanNode). map f n.ins.items) nodes (s.head l) [] (λ (ys : List B). P (slice_index_or ys (s.in_place l) b)) (omega (arith, there, ends.count))
    (λ e. at_map Incoming B f (slice_index_or nodes (s.head l) e).ins.items (s.in_place l) b P (omega (arith, net.in_place_below l m, ends.ins (s.head l) e there)) (λ g. h e g))

at_tail : (B : Type 0) (f : Outgoing → B) (s : Setting) (nodes : List LeanNode) (l : ℕ) (b : B) (P : B → Type 0) → IsNetwork s → AreEnds s nodes → l < s.links
    → ((e : LeanNode) (g : Outgoing) → P (f (slice_index_or (slice_index_or nodes (s.tail l) e).outs.items (s.out_place l) g)))
    → P (slice_index_or (slice_index_or (map (λ (n : LeanNode). map f n.outs.items) nodes) (s.tail l) []) (s.out_place l) b)
at_tail B f s nodes l b P net ends m h =
    let there : s.tail l < s.nodes = net.tail_is_node l m in
    at_map LeanNode (List B) (λ (n : LeanNode). map f n.outs.items) nodes (s.tail l) [] (λ (ys : List B). P (slice_index_or ys (s.out_place l) b)) (omega (arith, there, ends.count))
    (λ e. at_map Outgoing B f (slice_index_or nodes (s.tail l) e).outs.items (s.out_place l) b P (omega (arith, net.out_place_below l m, ends.outs (s.tail l) e there)) (λ g. h e g))

-- the mail that a node has for a link is as wide as the link's list
pub mail_wide_at : (s : Setting) (x : Tables) (nodes : List LeanNode) (l : ℕ) (d : Mail) → IsNetwork s → AreNodes s x nodes → l < s.links → mail_width (mail_at s nodes l d) ≡ length (list_of x.links l)
mail_wide_at s x nodes l d net h m =
    let there : s.tail l < s.nodes = net.tail_is_node l m in
    at_tail Mail (λ (y : Outgoing). y.mail) s nodes l d (λ (q : Mail). mail_width q ≡ length (list_of x.links l)) net (ends_of s x nodes h) m
    (λ e g. ((outgoing_at s x nodes (s.tail l) e h there).each (s.out_place l) g (net.out_place_below l m)).wide ∙ ap (λ (q : ℕ). length (list_of x.links q)) (net.out_link_at l m))

-- what moved, link by link
gone_of : (s : Setting) (c : Counts) (x : Tables) (nodes : List LeanNode) (t l : ℕ) (e : LeanNode) (g : Incoming) → IsNetwork s → AreNodes s x nodes → AllMoved s c x t nodes → l < s.links
    → total s.destinations (c (down_of l)) (t + 1) ≡ total s.destinations (c (down_of l)) t + (slice_index_or (slice_index_or nodes (s.head l) e).ins.items (s.in_place l) g).gone
gone_of s c x nodes t l e g net h moved m =
    let there : s.head l < s.nodes = net.head_is_node l m in
    let n : LeanNode = slice_index_or nodes (s.head l) e in
    let number : (slice_index_or nodes (s.head l) e).node.0 ≡ s.head l = h.number (s.head l) e there in
    let place : s.in_place l < s.ins (slice_index_or nodes (s.head l) e).node.0 = subst (λ (q : ℕ). s.in_place l < s.ins q) (sym number) (net.in_place_below l m) in
    let link : s.in_link (slice_index_or nodes (s.head l) e).node.0 (s.in_place l) ≡ l = ap (λ (q : ℕ). s.in_link q (s.in_place l)) number ∙ net.in_link_at l m in
    subst (λ (q : ℕ). total s.destinations (c (down_of q)) (t + 1) ≡ total s.destinations (c (down_of q)) t + (slice_index_or n.ins.items (s.in_place l) g).gone) link ((moved (s.head l) e there).gone (s.in_place l) g place)

came_of : (s : Setting) (c : Counts) (x : Tables) (nodes : List LeanNode) (t l : ℕ) (e : LeanNode) (g : Outgoing) → IsNetwork s → AreNodes s x nodes → AllMoved s c x t nodes → l < s.links
    → HasEntered s c l (list_of x.links l) t (slice_index_or (slice_index_or nodes (s.tail l) e).outs.items (s.out_place l) g).mail.came (slice_index_or (slice_index_or nodes (s.tail l) e).outs.items (s.out_place l) g).mail.numbers.items
came_of s c x nodes t l e g net h moved m =
    let there : s.tail l < s.nodes = net.tail_is_node l m in
    let n : LeanNode = slice_index_or nodes (s.tail l) e in
    let number : (slice_index_or nodes (s.tail l) e).node.0 ≡ s.tail l = h.number (s.tail l) e there in
    let place : s.out_place l < s.outs (slice_index_or nodes (s.tail l) e).node.0 = subst (λ (q : ℕ). s.out_place l < s.outs q) (sym number) (net.out_place_below l m) in
    let link : s.out_link (slice_index_or nodes (s.tail l) e).node.0 (s.out_place l) ≡ l = ap (λ (q : ℕ). s.out_link q (s.out_place l)) number ∙ net.out_link_at l m in
    subst (λ (q : ℕ). HasEntered s c q (list_of x.links q) t (slice_index_or n.outs.items (s.out_place l) g).mail.came (slice_index_or n.outs.items (s.out_place l) g).mail.numbers.items) link ((moved (s.tail l) e there).came (s.out_place l) g place)

-- totals one boundary further
next_totals : (s : Setting) (c : Counts) (group : ℕ → ℕ) (more : ℕ → ℕ) (t : ℕ) (old new : Totals) → AddsAll s more t old new → AreTotals s c group t old
    → ((l : ℕ) → l < s.links → total s.destinations (c (group l)) (t + 1) ≡ total s.destinations (c (group l)) t + more l) → ((l : ℕ) → l < s.links → total s.destinations (c (group l)) (t + 1) < 2 ^ 32) → AreTotals s c group (t + 1) new
next_totals s c group more t old new adds totals moved small l k m y =
    elim (cases_lt k (t + 1)) [
      | inl low ↦ adds.before l k m (omega (arith, low)) ∙ totals l k m (omega (arith, low))
      | inr last ↦
          let e : k ≡ t + 1 = omega (arith, y, last) in
          let sum : min (2 ^ 32 - 1) (total_at old l t + more l) ≡ total s.destinations (c (group l)) (t + 1) = omega (arith, totals l t m (omega arith), moved l m, small l m) in
          ap (total_at new l) e ∙ (adds.next l m ∙ (sum ∙ ap (total s.destinations (c (group l))) (sym e)))
    ]

pub tables_published : (s : Setting) (x y : Tables) (up down : ℕ → ℕ) (t : ℕ) (nodes next : List LeanNode) → IsNetwork s → AreTables s x → AreNodes s x nodes → y.links ≡ x.links → y.nodes ≡ x.nodes
    → AddsAll s up t x.entered y.entered → AddsAll s down t x.left y.left → TradesAll s x.mails.items y.mails.items nodes next → AreTables s y
tables_published s x y up down t nodes next net h at links lists entered left trades = record {
  link_lists = ap links_of links ∙ h.link_lists;
  link_order = λ l m. subst (λ (q : Used). Ascends 0 s.destinations (list_of q l)) (sym links) (h.link_order l m);
  link_listed = λ c l load m. subst (λ (q : Used). IsListed s c l (list_of q l)) (sym links) (h.link_listed c l load m);
  node_lists = ap links_of lists ∙ h.node_lists;
  node_order = λ u m. subst (λ (q : Used). Ascends 0 s.destinations (list_of q u)) (sym lists) (h.node_order u m);
  node_listed = λ c u load m. subst (λ (q : Used). IsNodeList s c u (list_of q u)) (sym lists) (h.node_listed c u load m);
  entered_links = entered.links ∙ h.entered_links;
  entered_slots = entered.slots ∙ h.entered_slots;
  left_links = left.links ∙ h.left_links;
  left_slots = left.slots ∙ h.left_slots;
  mail_count = trades.count ∙ h.mail_count;
  mail_wide = λ l d m. ap mail_width (trades.mails l d m) ∙ (mail_wide_at s x nodes l d net at m ∙ ap (λ (q : Used). length (list_of q l)) (sym links));
}

pub frozen_published : (s : Setting) (c : Counts) (x y : Tables) (t : ℕ) (nodes next : List LeanNode) → IsSetting s → IsLoading s c → t < s.slots → AreNodes s x nodes → y.links ≡ x.links → AddsAll s (came_at s nodes) t x.entered y.entered
    → AddsAll s (gone_at s nodes) t x.left y.left → TradesAll s x.mails.items y.mails.items nodes next → IsFrozen s c t x → AllMoved s c x t nodes → IsFrozen s c (t + 1) y
frozen_published s c x y t nodes next v load slot at links entered left trades frozen moved =
    let net : IsNetwork s = v.network in
    let ends : AreEnds s nodes = ends_of s x nodes at in
    let small = (totals_small_holds s c v (t + 1) (earlier_front s c s.slots (t + 1) load.front (omega (arith, slot))) (omega (arith, slot))).0 in
    let short : s.slots ≤ 10000 = v.small.few_slots in
    record {
      up = next_totals s c up_of (came_at s nodes) t x.entered y.entered entered frozen.up
          (λ l m. at_tail ℕ (λ (o : Outgoing). o.mail.came) s nodes l 0 (λ (q : ℕ). total s.destinations (c (up_of l)) (t + 1) ≡ total s.destinations (c (up_of l)) t + q) net ends m (λ e g. (came_of s c x nodes t l e g net at moved m).all))
          (λ l m. omega (arith, (small l m).0, short, slot));
      down = next_totals s c down_of (gone_at s nodes) t x.left y.left left frozen.down
          (λ l m. at_head ℕ (λ (o : Incoming). o.gone) s nodes l 0 (λ (q : ℕ). total s.destinations (c (down_of l)) (t + 1) ≡ total s.destinations (c (down_of l)) t + q) net ends m (λ e g. gone_of s c x nodes t l e g net at moved m))
          (λ l m. omega (arith, (small l m).1, short, slot));
      came = λ l d m some.
          let before : t ≡ t + 1 - 1 = omega arith in
          subst (λ (k : ℕ). HasEntered s c l (list_of y.links l) k (slice_index_or y.mails.items l d).came (slice_index_or y.mails.items l d).numbers.items) before
          (subst (λ (q : Mail). HasEntered s c l (list_of y.links l) t q.came q.numbers.items) (sym (trades.mails l d m))
          (subst (λ (q : Used). HasEntered s c l (list_of q l) t (mail_at s nodes l d).came (mail_at s nodes l d).numbers.items) (sym links)
          (at_tail Mail (λ (o : Outgoing). o.mail) s nodes l d (λ (q : Mail). HasEntered s c l (list_of x.links l) t q.came q.numbers.items) net ends m (λ e g. came_of s c x nodes t l e g net at moved m))));
    }

-- a node with other mails, at tables with the same lists
abbrev IsOwnPlace : Setting → Used → NodeId → Option ℕ → Type 0
IsOwnPlace s lists n own = (k : ℕ) → k < length (list_of lists n.0) → is_this own k ≡ is_this (s.own n.0) (slice_index (list_of lists n.0) k)

incoming_same : (s : Setting) (x y : Tables) (n m : NodeId) (old new : List Incoming) → y.links ≡ x.links → y.nodes ≡ x.nodes → m ≡ n → new ≡ old → AreIncoming s x n.0 old → AreIncoming s y m.0 new
incoming_same s x y n m old new links lists node ins h =
    subst (λ (q : NodeId). AreIncoming s y q.0 new) (sym node)
    (subst (λ (q : List Incoming). AreIncoming s y n.0 q) (sym ins) (record {
      count = h.count;
      each = λ i d l.
          subst (λ (q : Used). IsIncoming (s.in_link n.0 i) (list_of q (s.in_link n.0 i)) (list_of y.nodes n.0) (slice_index_or old i d)) (sym links)
          (subst (λ (q : Used). IsIncoming (s.in_link n.0 i) (list_of x.links (s.in_link n.0 i)) (list_of q n.0) (slice_index_or old i d)) (sym lists) (h.each i d l));
    }))

outgoing_same : (s : Setting) (x y : Tables) (n m : NodeId) (old new : List Outgoing) → y.links ≡ x.links → y.nodes ≡ x.nodes → m ≡ n → length new ≡ length old
    → ((j : ℕ) (d : Outgoing) → j < length old → SameOutgoing (slice_index_or old j d) (slice_index_or new j d)) → AreOutgoing s x n.0 old → AreOutgoing s y m.0 new
outgoing_same s x y n m old new links lists node long same h =
    subst (λ (q : NodeId). AreOutgoing s y q.0 new) (sym node) (record {
      count = long ∙ h.count;
      each = λ j d l.
          subst (λ (q : Used). IsOutgoing (s.out_link n.0 j) (list_of q (s.out_link n.0 j)) (list_of y.nodes n.0) (slice_index_or new j d)) (sym links)
          (subst (λ (q : Used). IsOutgoing (s.out_link n.0 j) (list_of x.links (s.out_link n.0 j)) (list_of q n.0) (slice_index_or new j d)) (sym lists)
          (same_outgoing (s.out_link n.0 j) (list_of x.links (s.out_link n.0 j)) (list_of x.nodes n.0) (slice_index_or old j d) (slice_index_or new j d) (h.each j d l) (same j d (omega (arith, l, h.count)))));
    })

pub node_published : (s : Setting) (x y : Tables) (old new : LeanNode) → y.links ≡ x.links → y.nodes ≡ x.nodes → SameButMails old new → IsNodeAt s x old → IsNodeAt s y new
node_published s x y old new links lists same h =
    let own : IsOwnPlace s x.nodes old.node old.own = h.own_place in
    let placed : IsOwnPlace s y.nodes new.node new.own =
    subst (λ (q : Used). IsOwnPlace s q new.node new.own) (sym lists) (subst (λ (q : NodeId). IsOwnPlace s x.nodes q new.own) (sym same.node) (subst (IsOwnPlace s x.nodes old.node) (sym same.own) own)) in
    record {
      there = subst (λ (q : NodeId). q.0 < s.nodes) (sym same.node) h.there;
      own_place = placed;
      gone_wide = ap length same.gone ∙ (h.gone_wide ∙ (ap (λ (q : NodeId). length (list_of x.nodes q.0)) (sym same.node) ∙ ap (λ (q : Used). length (list_of q new.node.0)) (sym lists)));
      incoming = incoming_same s x y old.node new.node old.ins.items new.ins.items links lists same.node same.ins h.incoming;
      outgoing = outgoing_same s x y old.node new.node old.outs.items new.outs.items links lists same.node same.long same.outs h.outgoing;
      weights =
          subst (λ (q : Used). AreKept s new.node.0 (list_of q new.node.0) new.kept) (sym lists)
          (subst (λ (q : NodeId). AreKept s q.0 (list_of x.nodes q.0) new.kept) (sym same.node) (subst (AreKept s old.node.0 (list_of x.nodes old.node.0)) (sym same.kept) h.weights));
    }

pub stands_published : (s : Setting) (c : Counts) (x y : Tables) (k t : ℕ) (old new : LeanNode) → y.links ≡ x.links → y.nodes ≡ x.nodes → SameButMails old new → StandsAtNode s c x k t old → StandsAtNode s c y k t new
stands_published s c x y k t old new links lists same h = record {
  links =
      subst (λ (q : NodeId). StandAt s c y q.0 k t new.ins.items) (sym same.node)
      (subst (λ (q : List Incoming). StandAt s c y old.node.0 k t q) (sym same.ins)
      (λ i d l. subst (λ (q : Used). Stands c (s.in_link old.node.0 i) (list_of q (s.in_link old.node.0 i)) k t (slice_index_or old.ins.items i d).standing) (sym links) (h.links i d l)));
  origin =
      subst (λ (q : NodeId). 0 < s.outs q.0 → HasLeft s c q.0 t (list_of y.nodes q.0) new.left new.gone.items) (sym same.node)
      (λ some. subst (λ (q : ℕ). HasLeft s c old.node.0 t (list_of y.nodes old.node.0) q new.gone.items) (sym same.left)
      (subst (HasLeft s c old.node.0 t (list_of y.nodes old.node.0) old.left) (sym same.gone)
      (subst (λ (q : Used). HasLeft s c old.node.0 t (list_of q old.node.0) old.left old.gone.items) (sym lists) (h.origin some))));
}

pub nodes_published : (s : Setting) (x y : Tables) (old new : List Mail) (nodes next : List LeanNode) → y.links ≡ x.links → y.nodes ≡ x.nodes → TradesAll s old new nodes next → AreNodes s x nodes → AreNodes s y next
nodes_published s x y old new nodes next links lists trades h = record {
  count = trades.long ∙ h.count;
  each = λ u d l. node_published s x y (slice_index_or nodes u d) (slice_index_or next u d) links lists (trades.each u d (omega (arith, l, h.count))) (h.each u d l);
  number = λ u d l. ap (λ (q : NodeId). q.0) (trades.each u d (omega (arith, l, h.count))).node ∙ h.number u d l;
}

pub all_published : (s : Setting) (c : Counts) (x y : Tables) (k t : ℕ) (old new : List Mail) (nodes next : List LeanNode) → y.links ≡ x.links → y.nodes ≡ x.nodes → length nodes ≡ s.nodes → TradesAll s old new nodes next → AllStand s c x k t nodes → AllStand s c y k t next
all_published s c x y k t old new nodes next links lists count trades h u d l =
    stands_published s c x y k t (slice_index_or nodes u d) (slice_index_or next u d) links lists (trades.each u d (omega (arith, l, count))) (h u d l)
