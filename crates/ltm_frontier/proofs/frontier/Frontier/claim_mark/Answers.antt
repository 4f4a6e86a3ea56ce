use Rattle.std.proofs.Common.{◌≡◌, ℕ, ◌<◌, true, false, sym, subst, ◌∙◌, arith, inl, inr}
use Rattle.std.proofs.lemmas.Bool.{cases_eq, true≢false, false_from_ne_true}
use Rattle.ltm_marks.specs.Marks.{is_marked, width_of, rows_of}
use Rattle.ltm_frontier.specs.Claims.{width, slot_in, has_node}
use Rattle.ltm_frontier.specs.declared.frontier.Frontier.{Frontier}
use Rattle.ltm_frontier.specs.Frontier.{nodes_in, is_active, ClaimsAreOf}
use Rattle.ltm_frontier.proofs.Claimed.{at_slot, stays_off, all_but, one_more}
use Rattle.ltm_frontier.proofs.frontier.Frontier.claim_mark.Goals as goal

one_slot : (f : Frontier) (t u : ℕ) → ClaimsAreOf f t → u < width f.claims → has_node f.claims u ≡ true → slot_in f.claims ≡ t
one_slot f t u all x is = all u (slot_in f.claims) (omega (arith, x, f.nodes)) (at_slot f.claims u is)

is_free : (f : Frontier) (u t : ℕ) → ClaimsAreOf f t → u < nodes_in f → is_active f u t ≡ true → has_node f.claims u ≡ false
is_free f u t all x active = false_from_ne_true (has_node f.claims u) (λ is.
    let at : slot_in f.claims ≡ t = one_slot f t u all (omega (arith, x, f.nodes)) is in
    true≢false (sym active ∙ subst (λ z. is_marked f.active u z ≡ false) at (f.apart u x is)))

pub put-requires-clause-free : goal.put-requires-clause-free
put-requires-clause-free c = is_free c.args.self.now c.args.pair.node.0 c.args.pair.slot c.requires.one_slot c.requires.node c.requires.active

pub put-requires-clause-one_slot : goal.put-requires-clause-one_slot
put-requires-clause-one_slot c = λ u x is. one_slot c.args.self.now c.args.pair.slot u c.requires.one_slot x is

pub invariant_of-self : goal.invariant_of-self
invariant_of-self c =
    let f : Frontier = c.args.self.now in
    let u : ℕ = c.args.pair.node.0 in
    let t : ℕ = c.args.pair.slot in
    record {
      nodes = c.put.ensures.nodes ∙ (f.nodes ∙ sym c.unmark.ensures.size.width);
      apart = λ w x is.
          let in_old : w < width_of f.active = omega (arith, x, c.unmark.ensures.size.width) in
          subst (λ z. is_marked c.unmark.new.self w z ≡ false) (sym c.put.ensures.slot) (elim (cases_eq w u) [
            | inl e ↦ subst (λ z. is_marked c.unmark.new.self z t ≡ false) (sym e) c.unmark.ensures.here
            | inr other ↦
                let was : has_node f.claims w ≡ true = sym (c.put.ensures.others w (omega (arith, in_old, f.nodes)) other) ∙ is in
                let at : slot_in f.claims ≡ t = one_slot f t w c.requires.one_slot (omega (arith, in_old, f.nodes)) was in
                stays_off f.active _ u t w t c.unmark.ensures in_old c.requires.slot (subst (λ z. is_marked f.active w z ≡ false) at (f.apart w in_old was))
          ]);
      there = λ w x is. omega (arith, c.put.ensures.slot, c.requires.slot, c.unmark.ensures.size.rows);
      within = omega (arith, f.within, c.unmark.ensures.size.rows);
      idle = λ w v x y.
          let in_old : w < width_of f.active = omega (arith, x, c.unmark.ensures.size.width) in
          stays_off f.active _ u t w v c.unmark.ensures in_old (omega (arith, y, f.within)) (f.idle w v in_old y);
      topped = omega (arith, f.topped, c.unmark.ensures.size.rows);
      above = λ w v x y z.
          let in_old : w < width_of f.active = omega (arith, x, c.unmark.ensures.size.width) in
          let row : v < rows_of f.active = omega (arith, y, c.unmark.ensures.size.rows) in
          stays_off f.active _ u t w v c.unmark.ensures in_old row (f.above w v in_old row z);
      passed = λ w x y z.
          let in_old : w < width_of f.active = omega (arith, x, c.unmark.ensures.size.width) in
          let row : f.low < rows_of f.active = omega (arith, z, c.unmark.ensures.size.rows) in
          stays_off f.active _ u t w f.low c.unmark.ensures in_old row (f.passed w in_old y row);
    }

pub returns : goal.returns
returns c =
    let free = is_free c.args.self.now c.args.pair.node.0 c.args.pair.slot c.requires.one_slot c.requires.node c.requires.active in
    record {
      size = record { nodes = c.unmark.ensures.size.width; slots = c.unmark.ensures.size.rows; room = c.unmark.ensures.size.room };
      count = c.put.ensures.count;
      claimed = λ w v x. one_more c.args.self.now.claims _ c.args.pair.node.0 c.args.pair.slot w v c.put.ensures free (omega (arith, x, c.args.self.now.nodes)) (λ u y is. one_slot c.args.self.now c.args.pair.slot u c.requires.one_slot y is);
      active = λ w v x y. all_but c.args.self.now.active _ c.args.pair.node.0 c.args.pair.slot w v c.unmark.ensures x y;
    }
