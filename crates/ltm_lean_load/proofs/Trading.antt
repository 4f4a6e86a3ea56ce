-- Mails that are handed over, link by link and node by node.
use Rattle.std.proofs.Common.{◌≡◌, ℕ, ◌+◌, ◌<◌, ◌≤◌, List, [], length, map, slice_index, slice_index_or, slice_set, arith, refl, sym, ap, subst, ◌∙◌, inl, inr, get_or-set_same, get_or-set_other}
use Rattle.std.proofs.lemmas.Bool.{cases_eq}
use Rattle.std.proofs.lemmas.List.{length-set, get_or_default}
use Rattle.ltm_loading.specs.Setting.{Setting}
use Rattle.ltm_lean.specs.declared.mail.Mail.{Mail}
use Rattle.ltm_lean.specs.declared.node.LeanNode.{LeanNode}
use Rattle.ltm_lean.specs.declared.outgoing.Outgoing.{Outgoing}
use Rattle.ltm_lean.specs.Ends.{mail_width, SameOutgoing}
use Rattle.ltm_lean_load.specs.Adding.{AreDistinct}
use Rattle.ltm_lean_load.specs.Nodes.{AreEnds, links_out, mails_out, mail_at, SameButMails}
use Rattle.ltm_lean_load.specs.Publishing.{TradesTo, TradesAll}
use Rattle.ltm_lean_load.proofs.Adding.{IsSide}
use Rattle.ltm_lean_load.proofs.Elements.{read_map}

pub trades_none : (mails : List Mail) (outs : List Outgoing) → TradesTo 0 mails mails outs outs
trades_none mails outs = record {
  count = refl;
  long = refl;
  here = λ j d l. absurd (omega (arith, l));
  others = λ l d none. refl;
  same = λ j d l. absurd (omega (arith, l));
  later = λ j d l. refl;
}

-- one link more: its mail goes to the place of its number
pub trades_more : (n link : ℕ) (old now : List Mail) (outs next : List Outgoing) (y z : Outgoing) (mail : Mail) → TradesTo n old now outs next → AreDistinct (links_out outs) → n < length next → link < length now → link ≡ slice_index (links_out outs) n
    → y ≡ slice_index_or next n y → SameOutgoing y z → ((d : Mail) → mail ≡ slice_index_or (mails_out outs) n d) → length (links_out outs) ≡ length outs → TradesTo (n + 1) old (slice_set now link mail) outs (slice_set next n z)
trades_more n link old now outs next y z mail h apart l inside is at same given many = record {
  count = length-set now link mail ∙ h.count;
  long = length-set next n z ∙ h.long;
  here = λ j d m. elim (cases_eq j n) [
    | inl e ↦
        let place : slice_index (links_out outs) j ≡ link = ap (slice_index (links_out outs)) e ∙ sym is in
        ap (λ (q : ℕ). slice_index_or (slice_set now link mail) q d) place ∙ (get_or-set_same now link mail d inside ∙ (given d ∙ ap (λ (q : ℕ). slice_index_or (mails_out outs) q d) (sym e)))
    | inr other ↦
        let low : j < n = omega (arith, m, other) in
        get_or-set_other now link (slice_index (links_out outs) j) mail d (λ e. apart j n low (omega (arith, l, h.long, many)) (e ∙ is)) ∙ h.here j d low
  ];
  others = λ x d none. get_or-set_other now link x mail d (λ e. none n (omega arith) (sym is ∙ sym e)) ∙ h.others x d (λ j m. none j (omega (arith, m)));
  same = λ j d m. elim (cases_eq j n) [
    | inl e ↦
        let was : slice_index_or outs j d ≡ slice_index_or next j d = sym (h.later j d (omega (arith, e))) in
        let read : slice_index_or next j d ≡ y = ap (λ (q : ℕ). slice_index_or next q d) e ∙ (get_or_default next n d y l ∙ sym at) in
        let put : slice_index_or (slice_set next n z) j d ≡ z = ap (λ (q : ℕ). slice_index_or (slice_set next n z) q d) e ∙ get_or-set_same next n z d l in
        subst (λ (q : Outgoing). SameOutgoing (slice_index_or outs j d) q) (sym put) (subst (λ (q : Outgoing). SameOutgoing q z) (sym (was ∙ read)) same)
    | inr other ↦ subst (λ (q : Outgoing). SameOutgoing (slice_index_or outs j d) q) (sym (get_or-set_other next n j z d other)) (h.same j d (omega (arith, m, other)))
  ];
  later = λ j d m. get_or-set_other next n j z d (λ e. omega (arith, e, m)) ∙ h.later j d (omega (arith, m));
}

-- the mails of the links that begin at the first n nodes
pub record TradesFor (s : Setting) (n : ℕ) (old new : List Mail) (nodes next : List LeanNode) : Type 0 where
  pub count : length new ≡ length old
  pub long : length next ≡ length nodes
  pub mails : (l : ℕ) (d : Mail) → l < s.links → s.tail l < n → slice_index_or new l d ≡ mail_at s nodes l d
  pub others : (l : ℕ) (d : Mail) → l < s.links → n ≤ s.tail l → slice_index_or new l d ≡ slice_index_or old l d
  pub each : (u : ℕ) (d : LeanNode) → u < n → SameButMails (slice_index_or nodes u d) (slice_index_or next u d)
  pub later : (u : ℕ) (d : LeanNode) → n ≤ u → slice_index_or next u d ≡ slice_index_or nodes u d

pub trade_for_none : (s : Setting) (mails : List Mail) (nodes : List LeanNode) → TradesFor s 0 mails mails nodes nodes
trade_for_none s mails nodes = record {
  count = refl;
  long = refl;
  mails = λ l d m x. absurd (omega (arith, x));
  others = λ l d m x. refl;
  each = λ u d l. absurd (omega (arith, l));
  later = λ u d l. refl;
}

-- a node whose links out of it have traded
pub same_but_mails : (old new : LeanNode) (mails traded : List Mail) → new.node ≡ old.node → new.own ≡ old.own → new.left ≡ old.left → new.gone.items ≡ old.gone.items → new.kept ≡ old.kept → new.ins.items ≡ old.ins.items
    → TradesTo (length old.outs.items) mails traded old.outs.items new.outs.items → SameButMails old new
same_but_mails old new mails traded node own left gone kept ins trades = record {
  node = node;
  own = own;
  left = left;
  gone = gone;
  kept = kept;
  ins = ins;
  long = trades.long;
  outs = λ j d l. trades.same j d l;
}

pub trade_for_more : (s : Setting) (n : ℕ) (old now new : List Mail) (nodes next : List LeanNode) (y z : LeanNode) → IsSide s s.tail s.out_place s.outs s.out_link → n < s.nodes → length nodes ≡ s.nodes → length y.outs.items ≡ s.outs n
    → ((j : ℕ) → j < s.outs n → slice_index (links_out y.outs.items) j ≡ s.out_link n j)
    → ((l : ℕ) (d : Mail) → l < s.links → s.tail l ≡ n → slice_index_or (mails_out y.outs.items) (s.out_place l) d ≡ mail_at s nodes l d)
    → TradesFor s n old now nodes next → y ≡ slice_index_or next n y → TradesTo (length y.outs.items) now new y.outs.items z.outs.items → SameButMails y z → TradesFor s (n + 1) old new nodes (slice_set next n z)
trade_for_more s n old now new nodes next y z side there all long is sent h at trades same =
    let inside : n < length next = omega (arith, there, all, h.long) in
    record {
      count = trades.count ∙ h.count;
      long = length-set next n z ∙ h.long;
      mails = λ l d m x. elim (cases_eq (s.tail l) n) [
        | inl e ↦
            let j : ℕ = s.out_place l in
            let low : s.out_place l < s.outs n = subst (λ (q : ℕ). s.out_place l < s.outs q) e (side.place_below l m) in
            let here : slice_index (links_out y.outs.items) (s.out_place l) ≡ l = is j low ∙ (ap (λ (q : ℕ). s.out_link q (s.out_place l)) (sym e) ∙ side.link_at l m) in
            ap (λ (q : ℕ). slice_index_or new q d) (sym here) ∙ (trades.here j d (omega (arith, low, long)) ∙ sent l d m e)
        | inr other ↦
            trades.others l d (λ j b e.
            let low : j < s.outs n = omega (arith, b, long) in other (ap s.tail (sym e ∙ is j low) ∙ side.at_of n j there low)) ∙ h.mails l d m (omega (arith, x, other))
      ];
      others = λ l d m x.
          trades.others l d (λ j b e.
          let low : j < s.outs n = omega (arith, b, long) in
          let tail : s.tail l ≡ n = ap s.tail (sym e ∙ is j low) ∙ side.at_of n j there low in omega (arith, tail, x)) ∙ h.others l d m (omega (arith, x));
      each = λ u d l. elim (cases_eq u n) [
        | inl e ↦
            let was : slice_index_or nodes u d ≡ slice_index_or next u d = sym (h.later u d (omega (arith, e))) in
            let read : slice_index_or next u d ≡ y = ap (λ (q : ℕ). slice_index_or next q d) e ∙ (get_or_default next n d y inside ∙ sym at) in
            let put : slice_index_or (slice_set next n z) u d ≡ z = ap (λ (q : ℕ). slice_index_or (slice_set next n z) q d) e ∙ get_or-set_same next n z d inside in
            subst (λ (q : LeanNode). SameButMails (slice_index_or nodes u d) q) (sym put) (subst (λ (q : LeanNode). SameButMails q z) (sym (was ∙ read)) same)
        | inr other ↦ subst (λ (q : LeanNode). SameButMails (slice_index_or nodes u d) q) (sym (get_or-set_other next n u z d other)) (h.each u d (omega (arith, l, other)))
      ];
      later = λ u d l. get_or-set_other next n u z d (λ e. omega (arith, e, l)) ∙ h.later u d (omega (arith, l));
    }

pub trade_for_all : (s : Setting) (n : ℕ) (old new : List Mail) (nodes next : List LeanNode) → ((l : ℕ) → l < s.links → s.tail l < n) → length nodes ≤ n → TradesFor s n old new nodes next → TradesAll s old new nodes next
trade_for_all s n old new nodes next below many h = record {
  count = h.count;
  long = h.long;
  mails = λ l d m. h.mails l d m (below l m);
  each = λ u d l. h.each u d (omega (arith, l, many));
}

-- the mail that a node has for a link out of it
mail_here : (s : Setting) (nodes : List LeanNode) (u j : ℕ) (r : LeanNode) (d : Mail) → IsSide s s.tail s.out_place s.outs s.out_link → u < s.nodes → u < length nodes → j < s.outs u
    → mail_at s nodes (s.out_link u j) d ≡ slice_index_or (mails_out (slice_index_or nodes u r).outs.items) j d
mail_here s nodes u j r d side there inside l =
    let each : List (List Mail) = map (λ (n : LeanNode). mails_out n.outs.items) nodes in
    ap (λ (q : ℕ). slice_index_or (slice_index_or each q []) (s.out_place (s.out_link u j)) d) (side.at_of u j there l)
    ∙ (ap (λ (q : ℕ). slice_index_or (slice_index_or each u []) q d) (side.place_of u j there l)
    ∙ ap (λ (ys : List Mail). slice_index_or ys j d) (sym (read_map LeanNode (List Mail) (λ (n : LeanNode). mails_out n.outs.items) nodes u [] r inside)))

-- it is as wide as the one that it trades for
pub wide_here : (s : Setting) (u : ℕ) (old now : List Mail) (nodes next : List LeanNode) (r : LeanNode) → IsSide s s.tail s.out_place s.outs s.out_link → AreEnds s nodes → u < s.nodes
    → ((l : ℕ) (d : Mail) → l < s.links → mail_width (slice_index_or old l d) ≡ mail_width (mail_at s nodes l d)) → TradesFor s u old now nodes next
    → (j : ℕ) (d : Mail) → j < s.outs u
    → mail_width (slice_index_or now (slice_index (links_out (slice_index_or nodes u r).outs.items) j) d) ≡ mail_width (slice_index_or (mails_out (slice_index_or nodes u r).outs.items) j d)
wide_here s u old now nodes next r side ends there wide h j d l =
    let link : ℕ = s.out_link u j in
    let inside : s.out_link u j < s.links = side.link_is u j there l in
    ap (λ (q : ℕ). mail_width (slice_index_or now q d)) (ends.out_links u j r there l)
    ∙ (ap mail_width (h.others link d inside (omega (arith, side.at_of u j there l)))
    ∙ (wide link d inside ∙ ap mail_width (mail_here s nodes u j r d side there (omega (arith, there, ends.count)) l)))
