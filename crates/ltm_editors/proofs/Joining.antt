-- A join keeps the rule.
use Rattle.std.proofs.Common.{◌≡◌, ◌≢◌, ◌⊎◌, ℕ, true, false, List, set, refl, sym, ap, ◌∙◌, inl, inr, ⊎_elim, subst, arith, Option}
use Rattle.std.specs.List.{Contains}
use Rattle.std.proofs.lemmas.List.Elements.{Contains-append_left, Contains-append_right, Contains-append_cases}
use mathlib.Core.Logic.{dite}
use native.Mathlib.Decide.{ℕ_discrete}
use mathlib.Core.Option.{some}
use lib.ListN.{get_elem?}
use Rattle.atomic_table.specs.Table.{State, Joins}
use Rattle.atomic_table.proofs.Lists.{at_set, set_else}
use Rattle.ltm_editors.specs.declared.view.View.{View}
use Rattle.ltm_editors.specs.Lists.{SeesBoth}
use Rattle.ltm_editors.specs.Views.{longer, joined, spent_view}
use Rattle.ltm_editors.specs.Rule.{one_if, Fits, IsDesk}
use Rattle.ltm_editors.proofs.Prefixes.{squeezed, Longer, longer_begins}
use Rattle.ltm_editors.proofs.Members.{clash, at_new, one_view, living_set, two_live}

module _ {T O E : Type 0} (opening : T → O) (history : T → List E) (author : E → ℕ) where
  module _ (s : State (Option T) (View O E)) (k : IsDesk opening history author s) (id other : ℕ) (v w : View O E) (at : get_elem? s.views id ≡ some v) (at' : get_elem? s.views other ≡ some w)
      (live : v.live ≡ true) (live' : w.live ≡ true) where
    L : Longer v.seen w.seen k.log
    L = longer_begins v.seen w.seen k.log (k.fits id v at).begins (k.fits other w at').begins

    -- what the first seat sees then has of both seats' numbers what each had seen
    sees : SeesBoth author v.numbers v.seen w.numbers w.seen (longer v.seen w.seen)
    sees = record {
      longer = L.one;
      one_begins = L.left;
      other_begins = L.right;
      of_these = λ n has. let own = (k.fits id v at).own live n has in sym (squeezed author n v.seen (longer v.seen w.seen) k.log L.left L.whole own) ∙ own;
      of_those = λ n has. let own = (k.fits other w at').own live' n has in sym (squeezed author n w.seen (longer v.seen w.seen) k.log L.right L.whole own) ∙ own;
    }

    fits_joined : Fits opening history author k.log k.opens k.head.made (joined v w)
    fits_joined = let f = k.fits id v at in let g = k.fits other w at' in record {
      begins = L.whole;
      own = λ _ n has. ⊎_elim
          (λ h. squeezed author n v.seen (longer v.seen w.seen) k.log L.left L.whole (f.own live n h))
          (λ h. squeezed author n w.seen (longer v.seen w.seen) k.log L.right L.whole (g.own live' n h))
          (Contains-append_cases v.numbers w.numbers n has);
      below = λ _ n has. ⊎_elim (λ h. f.below live n h) (λ h. g.below live' n h) (Contains-append_cases v.numbers w.numbers n has);
      its_own = λ _. Contains-append_left v.numbers w.numbers v.number (f.its_own live);
      opens_is = f.opens_is;
      spent = f.spent;
      tells = λ _. sees;
    }

  fits_spent : (log : List E) (opens : Option O) (made : ℕ) → Fits opening history author log opens made spent_view
  fits_spent log opens made = record {
    begins = (log, refl);
    own = λ l. clash (sym l);
    below = λ l. clash (sym l);
    its_own = λ l. clash (sym l);
    opens_is = λ l. clash (sym l);
    spent = λ _. refl;
    tells = λ l. clash (sym l);
  }

  -- the first seat takes another in
  pub joins : (id : ℕ) (v : View O E) (other : ℕ) (w : View O E) → v.chair ≡ true → v.holds ≡ false → w.live ≡ true → w.holds ≡ false
      → Joins (IsDesk opening history author) id v other w (joined v w) spent_view
  joins id v other w is quiet live' quiet' s k at away at' =
      let here : id ≡ k.chair = k.one_chair id v at is in
      let one : k.head ≡ v = one_view s.views k.chair id k.head v k.at_chair at (sym here) in
      let live : v.live ≡ true = ap (λ (z : View O E). z.live) (sym one) ∙ k.is_chair.1 in
      let made : k.head.made ≡ v.made = ap (λ (z : View O E). z.made) one in
      let b : View O E = joined v w in
      let mid : List (View O E) = set s.views id b in
      let last : List (View O E) = set mid other spent_view in
      let at_other : get_elem? s.views other ≡ some w = sym (set_else s.views id other b away) ∙ at' in
      let at_b : get_elem? last id ≡ some b = set_else mid other id spent_view (λ e. away (sym e)) ∙ at_new s.views id v b at in
      let Old : ℕ → View O E → Type 0 = λ j z. ((j ≡ id) × (b ≡ z)) ⊎ ((j ≢ id) × (j ≢ other) × (get_elem? s.views j ≡ some z)) in
      let cases : (j : ℕ) (z : View O E) → get_elem? last j ≡ some z → Old j z ⊎ (spent_view ≡ z) = λ j z e.
      ⊎_elim (λ p. inr p.1) (λ p. ⊎_elim (λ q. inl (inl q)) (λ q. inl (inr (q.0, p.0, q.1))) (at_set s.views id j b z p.1)) (at_set mid other j spent_view z e) in
      -- the seat that had the number before
      let Home : ℕ → View O E → ℕ → Type 0 = λ j z n. (i : ℕ) × (y : View O E) × (get_elem? s.views i ≡ some y) × (y.live ≡ true) × Contains y.numbers n × (((i ≡ j) × (j ≢ other)) ⊎ ((i ≡ other) × (j ≡ id))) in
      let home : (j : ℕ) (z : View O E) → get_elem? last j ≡ some z → z.live ≡ true → (n : ℕ) → Contains z.numbers n → Home j z n = λ j z e l n has. ⊎_elim
      (λ o. ⊎_elim
      (λ p. ⊎_elim
      (λ h. (id, v, at, live, h, inl (sym p.0, λ q. away (sym q ∙ p.0))))
      (λ h. (other, w, at_other, live', h, inr (refl, p.0)))
      (Contains-append_cases v.numbers w.numbers n (subst (λ (y : View O E). Contains y.numbers n) (sym p.1) has)))
      (λ p. (j, z, p.2, l, has, inl (refl, p.1))) o)
      (λ p. clash (sym l ∙ sym (ap (λ (y : View O E). y.live) p))) (cases j z e) in
      let holds_not : (j : ℕ) (z : View O E) → Old j z → (y : View O E) × (get_elem? s.views j ≡ some y) × (z.holds ≡ y.holds) = λ j z c. ⊎_elim
      (λ p. (v, ap (λ (i : ℕ). get_elem? s.views i) p.0 ∙ at, ap (λ (y : View O E). y.holds) (sym p.1)))
      (λ p. (z, p.2, refl)) c in record {
        chair = id;
        head = b;
        log = k.log;
        opens = k.opens;
        at_chair = at_b;
        is_chair = (is, live);
        one_chair = λ j z e h. ⊎_elim (λ o. ⊎_elim (λ p. p.0) (λ p. k.one_chair j z p.2 h ∙ sym here) o) (λ p. clash (sym h ∙ sym (ap (λ (y : View O E). y.chair) p))) (cases j z e);
        fits = λ j z e. ⊎_elim
            (λ o. ⊎_elim
            (λ p. subst (λ (y : View O E). Fits opening history author k.log k.opens b.made y) p.1 (subst (λ (m : ℕ). Fits opening history author k.log k.opens m b) made (fits_joined s k id other v w at at_other live live')))
            (λ p. subst (λ (m : ℕ). Fits opening history author k.log k.opens m z) made (k.fits j z p.2))
            o)
            (λ p. subst (λ (y : View O E). Fits opening history author k.log k.opens b.made y) p (fits_spent k.log k.opens b.made))
            (cases j z e);
        apart = λ i j y z e e' l l' n has has'. let h = home i y e l n has in let h' = home j z e' l' n has' in
            let same : h.0 ≡ h'.0 = k.apart h.0 h'.0 h.1 h'.1 h.2 h'.2 h.3 h'.3 n h.4 h'.4 in ⊎_elim
            (λ p. ⊎_elim (λ p'. sym p.0 ∙ (same ∙ p'.0)) (λ p'. absurd (p.1 (sym p.0 ∙ (same ∙ p'.0)))) h'.5)
            (λ p. ⊎_elim (λ p'. absurd (p'.1 (sym p'.0 ∙ (sym same ∙ p.0)))) (λ p'. p.1 ∙ sym p'.1) h'.5)
            h.5;
        covered = λ n lt. let c = k.covered n (omega arith) in dite (ℕ_discrete c.0 id)
            (λ e. (id, b, at_b, live, Contains-append_left v.numbers w.numbers n (subst (λ (y : View O E). Contains y.numbers n) (one_view s.views c.0 id c.1 v c.2 at e) c.4)))
            (λ ne. dite (ℕ_discrete c.0 other)
            (λ e. (id, b, at_b, live, Contains-append_right v.numbers w.numbers n (subst (λ (y : View O E). Contains y.numbers n) (one_view s.views c.0 other c.1 w c.2 at_other e) c.4)))
            (λ no. (c.0, c.1, set_else mid other c.0 spent_view no ∙ (set_else s.views id c.0 b ne ∙ c.2), c.3, c.4)));
        not_made = λ n h. k.not_made n (omega arith);
        counted = (let a = living_set s.views id v b at in let a' = living_set mid other w spent_view at' in let c = k.counted in let d : k.head.others ≡ v.others = ap (λ (z : View O E). z.others) one in let m : one_if w.live ≡ 1 = ap one_if live' in let two = two_live s.views id other v w at at_other away live live' in omega arith);
        stands = ⊎_elim
            (λ f. inl (record {
              value = f.value;
              word = f.word;
              home = f.home;
              log_is = f.log_is;
              opens_is = f.opens_is;
              none_holds = λ j z e. ⊎_elim (λ p. let o = holds_not j z p in o.2 ∙ f.none_holds j o.0 o.1) (λ p. sym (ap (λ (y : View O E). y.holds) p)) (cases j z e);
            }))
            (λ h. let ne : h.place ≢ id = λ e. clash (sym h.holds ∙ (ap (λ (z : View O E). z.holds) (one_view s.views h.place id h.holder v h.at_place at e) ∙ quiet)) in
            let ne' : h.place ≢ other = λ e. clash (sym h.holds ∙ (ap (λ (z : View O E). z.holds) (one_view s.views h.place other h.holder w h.at_place at_other e) ∙ quiet')) in
            inr (record {
              place = h.place;
              holder = h.holder;
              word = h.word;
              home = h.home;
              at_place = set_else mid other h.place spent_view ne' ∙ (set_else s.views id h.place b ne ∙ h.at_place);
              holds = h.holds;
              log_is = h.log_is;
              one_holds = λ j z e l. ⊎_elim (λ p. let o = holds_not j z p in h.one_holds j o.0 o.1 (sym o.2 ∙ l)) (λ p. clash (sym l ∙ sym (ap (λ (y : View O E). y.holds) p))) (cases j z e);
            }))
            k.stands;
      }
