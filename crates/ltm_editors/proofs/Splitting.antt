-- A split keeps the rule.
use Rattle.std.proofs.Common.{◌≡◌, ◌≢◌, ◌⊎◌, ℕ, true, false, List, [], ◌∷◌, ◌++◌, set, length, refl, sym, ap, ◌∙◌, inl, inr, ⊎_elim, subst, arith}
use Rattle.std.specs.List.{Contains}
use mathlib.Core.Logic.{dite}
use native.Mathlib.Decide.{ℕ_discrete}
use mathlib.Core.Option.{some}
use lib.ListN.{get_elem?}
use Rattle.atomic_table.specs.Table.{Splits}
use Rattle.atomic_table.proofs.Lists.{at_set, at_longer, at_last, set_else}
use Rattle.ltm_editors.specs.declared.view.View.{View}
use Rattle.ltm_editors.specs.Lists.{entries_of}
use Rattle.ltm_editors.specs.Views.{after_split, new_view}
use Rattle.ltm_editors.specs.Rule.{Fits, IsDesk}
use Rattle.ltm_editors.proofs.Prefixes.{none_before}
use Rattle.ltm_editors.proofs.Members.{clash, only_one, in_one, at_new, one_view, at_end, living_set, living_snoc}

module _ {T O E : Type 0} (opening : T → O) (history : T → List E) (author : E → ℕ) where
  -- the first seat makes another, with the next number
  pub splits : (id : ℕ) (v : View O E) → v.chair ≡ true → v.holds ≡ false → v.joining ≡ false → Splits (IsDesk opening history author) id v (after_split v) (new_view v)
  splits id v is quiet settled s k at =
      let here : id ≡ k.chair = k.one_chair id v at is in
      let one : k.head ≡ v = one_view s.views k.chair id k.head v k.at_chair at (sym here) in
      let live : v.live ≡ true = ap (λ (z : View O E). z.live) (sym one) ∙ k.is_chair.1 in
      let made : k.head.made ≡ v.made = ap (λ (z : View O E). z.made) one in
      let w : View O E = after_split v in
      let u : View O E = new_view v in
      let both : List (View O E) = set s.views id w ++ u ∷ [] in
      let at_w : get_elem? both id ≡ some w = at_longer (set s.views id w) (u ∷ []) id w (at_new s.views id v w at) in
      let end : ℕ = length (set s.views id w) in
      let at_u : get_elem? both end ≡ some u = at_last (set s.views id w) u end refl in
      let fit = k.fits id v at in
      let none_yet : entries_of author v.made k.log ≡ [] = k.not_made v.made (omega arith) in
      let Old : ℕ → View O E → Type 0 = λ j z. (z' : View O E) × (get_elem? s.views j ≡ some z') × (z.live ≡ z'.live) × (z.numbers ≡ z'.numbers) × (z.chair ≡ z'.chair) × (z.holds ≡ z'.holds) × (((j ≡ id) × (w ≡ z)) ⊎ (z ≡ z')) in
      let cases : (j : ℕ) (z : View O E) → get_elem? both j ≡ some z → Old j z ⊎ ((j ≡ end) × (u ≡ z)) = λ j z e. ⊎_elim
      (λ p. inl (⊎_elim
      (λ q. (v, ap (λ (i : ℕ). get_elem? s.views i) q.0 ∙ at, ap (λ (y : View O E). y.live) (sym q.1), ap (λ (y : View O E). y.numbers) (sym q.1), ap (λ (y : View O E). y.chair) (sym q.1), ap (λ (y : View O E). y.holds) (sym q.1), inl q))
      (λ q. (z, q.1, refl, refl, refl, refl, inr refl))
      (at_set s.views id j w z p)))
      (λ p. inr p) (at_end (set s.views id w) u j z e) in record {
        chair = id;
        head = w;
        log = k.log;
        opens = k.opens;
        at_chair = at_w;
        is_chair = (is, live);
        one_chair = λ j z e h. ⊎_elim (λ b. k.one_chair j b.0 b.1 (sym b.4 ∙ h) ∙ sym here) (λ p. clash (sym h ∙ sym (ap (λ (y : View O E). y.chair) p.1))) (cases j z e);
        fits = λ j z e. ⊎_elim
            (λ b. let f = k.fits j b.0 b.1 in ⊎_elim
            (λ q. subst (λ (y : View O E). Fits opening history author k.log k.opens w.made y) q.1 (record {
              begins = fit.begins;
              own = fit.own;
              below = λ l n has. (let h = fit.below l n has in omega arith);
              its_own = fit.its_own;
              opens_is = fit.opens_is;
              spent = fit.spent;
              tells = fit.tells;
            }))
            (λ q. subst (λ (y : View O E). Fits opening history author k.log k.opens w.made y) (sym q) (record {
              begins = f.begins;
              own = f.own;
              below = λ l n has. (let h = f.below l n has in omega arith);
              its_own = f.its_own;
              opens_is = f.opens_is;
              spent = f.spent;
              tells = f.tells;
            }))
            b.6)
            (λ p. subst (λ (y : View O E). Fits opening history author k.log k.opens w.made y) p.1 (record {
              begins = fit.begins;
              own = λ _ n has. let m = only_one v.made n has in
                  subst (λ (i : ℕ). entries_of author i k.log ≡ entries_of author i v.seen) m (none_yet ∙ sym (none_before author v.made v.seen k.log fit.begins none_yet));
              below = λ _ n has. (let m = only_one v.made n has in omega arith);
              its_own = λ _. in_one v.made;
              opens_is = λ _. fit.opens_is live;
              spent = λ l. clash l;
              tells = λ l. clash (sym l);
            }))
            (cases j z e);
        apart = λ i j y z e e' l l' n has has'. ⊎_elim
            (λ b. ⊎_elim
            (λ b'. k.apart i j b.0 b'.0 b.1 b'.1 (sym b.2 ∙ l) (sym b'.2 ∙ l') n (subst (λ (ns : List ℕ). Contains ns n) b.3 has) (subst (λ (ns : List ℕ). Contains ns n) b'.3 has'))
            (λ p. let q = (k.fits i b.0 b.1).below (sym b.2 ∙ l) n (subst (λ (ns : List ℕ). Contains ns n) b.3 has) in
            let m = only_one v.made n (subst (λ (y : View O E). Contains y.numbers n) (sym p.1) has') in absurd (omega arith))
            (cases j z e'))
            (λ p. ⊎_elim
            (λ b'. let q = (k.fits j b'.0 b'.1).below (sym b'.2 ∙ l') n (subst (λ (ns : List ℕ). Contains ns n) b'.3 has') in
            let m = only_one v.made n (subst (λ (y : View O E). Contains y.numbers n) (sym p.1) has) in absurd (omega arith))
            (λ p'. p.0 ∙ sym p'.0)
            (cases j z e'))
            (cases i y e);
        covered = λ n lt. dite (ℕ_discrete n v.made)
            (λ e. (end, u, at_u, refl, subst (λ (m : ℕ). Contains u.numbers m) (sym e) (in_one v.made)))
            (λ ne. let c = k.covered n (omega arith) in dite (ℕ_discrete c.0 id)
            (λ e. (id, w, at_w, live, subst (λ (y : View O E). Contains y.numbers n) (one_view s.views c.0 id c.1 v c.2 at e) c.4))
            (λ no. (c.0, c.1, at_longer (set s.views id w) (u ∷ []) c.0 c.1 (set_else s.views id c.0 w no ∙ c.2), c.3, c.4)));
        not_made = λ n h. k.not_made n (omega arith);
        counted = (let a = living_set s.views id v w at in let b = living_snoc (set s.views id w) u in let c = k.counted in let d : k.head.others ≡ v.others = ap (λ (z : View O E). z.others) one in omega arith);
        stands = ⊎_elim
            (λ f. inl (record {
              value = f.value;
              word = f.word;
              home = f.home;
              log_is = f.log_is;
              opens_is = f.opens_is;
              none_holds = λ j z e. ⊎_elim (λ b. b.5 ∙ f.none_holds j b.0 b.1) (λ p. sym (ap (λ (y : View O E). y.holds) p.1)) (cases j z e);
            }))
            (λ h. let ne : h.place ≢ id = λ e. clash (sym h.holds ∙ (ap (λ (z : View O E). z.holds) (one_view s.views h.place id h.holder v h.at_place at e) ∙ quiet)) in
            inr (record {
              place = h.place;
              holder = h.holder;
              word = h.word;
              home = h.home;
              at_place = at_longer (set s.views id w) (u ∷ []) h.place h.holder (set_else s.views id h.place w ne ∙ h.at_place);
              holds = h.holds;
              log_is = h.log_is;
              one_holds = λ j z e l. ⊎_elim (λ b. h.one_holds j b.0 b.1 (sym b.5 ∙ l)) (λ p. clash (sym l ∙ sym (ap (λ (y : View O E). y.holds) p.1))) (cases j z e);
            }))
            k.stands;
      }
