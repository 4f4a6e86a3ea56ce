-- A split and a join keep the rule.
use Rattle.std.proofs.Common.{◌≡◌, ◌≢◌, ◌⊎◌, ℕ, ◌≤◌, true, false, List, [], ◌∷◌, ◌++◌, set, max, sym, ap, ◌∙◌, inl, inr, ⊎_elim, arith}
use mathlib.Core.Option.{some, some-injective}
use lib.ListN.{get_elem?}
use Rattle.atomic_table.specs.Table.{Splits, Joins}
use Rattle.atomic_table.proofs.Lists.{at_set, at_longer, at_snoc, set_else}
use Rattle.ltm_turn.specs.declared.view.View.{View}
use Rattle.ltm_turn.specs.Views.{after_split, worker_view, after_join, spent_view}
use Rattle.ltm_turn.specs.Rule.{one_if, IsFree, IsHeld, IsTurn}
use Rattle.ltm_turn.proofs.Working.{working_set, working_snoc}
use Rattle.ltm_turn.proofs.Changes.{clash, at_new', holder_else, Seated, At}

module _ {T E : Type 0} (entries : T → List E) (number : T → ℕ) where
  -- the editor's view makes a worker's
  pub splits : (id : ℕ) (v : View E) → (v.editor ≡ true) → (v.works ≡ false) → (v.holds ≡ false) → Splits (IsTurn entries number) id v (after_split v) (worker_view v)
  splits id v is idle quiet s k at =
      let here : id ≡ k.place = k.only_editor id v at is in
      let one : k.editor ≡ v = some-injective k.editor v (sym k.at_place ∙ (ap (λ (i : ℕ). get_elem? s.views i) (sym here) ∙ at)) in
      let w : View E = after_split v in
      let both : List (View E) = set s.views id w ++ worker_view v ∷ [] in
      let at_w : get_elem? both id ≡ some w = at_longer (set s.views id w) (worker_view v ∷ []) id w (at_new' s.views id v w at) in
      let cases : (j : ℕ) (u : View E) → get_elem? both j ≡ some u → ((j ≡ id) × (w ≡ u)) ⊎ ((get_elem? s.views j ≡ some u) ⊎ (worker_view v ≡ u)) = λ j u e.
      ⊎_elim (λ p. ⊎_elim (λ q. inl q) (λ q. inr (inl q.1)) (at_set s.views id j w u p)) (λ p. inr (inr p)) (at_snoc (set s.views id w) (worker_view v) u j e) in
      let free : IsFree entries number s k.editor.entries → IsFree entries number (At s.words s.homes both) v.entries = λ f. record {
        value = f.value;
        word = f.word;
        home = f.home;
        list_is = f.list_is ∙ ap (λ (z : View E). z.entries) one;
        above = λ j u e. ⊎_elim
            (λ p. let q = f.above id v at in (sym (ap (λ (z : View E). z.holds) p.1) ∙ q.0, (let n : v.number ≡ u.number = ap (λ (z : View E). z.number) p.1 in let m : v.number ≤ number f.value = q.1 in omega arith)))
            (⊎_elim (λ p. f.above j u p) (λ p. let q = f.above id v at in (sym (ap (λ (z : View E). z.holds) p), (let n : v.number ≡ u.number = ap (λ (z : View E). z.number) p in let m : v.number ≤ number f.value = q.1 in omega arith))))
            (cases j u e);
      } in
      let held : IsHeld entries number s k.editor.entries → IsHeld entries number (At s.words s.homes both) v.entries = λ h. let apart : h.place ≢ id = holder_else s.views h.place id h.holder v h.at_place h.holds at quiet in record {
        place = h.place;
        holder = h.holder;
        word = h.word;
        home = h.home;
        at_place = at_longer (set s.views id w) (worker_view v ∷ []) h.place h.holder (set_else s.views id h.place w apart ∙ h.at_place);
        holds = h.holds;
        list_is = h.list_is ∙ ap (λ (z : View E). z.entries) one;
        above = λ j u e. ⊎_elim
            (λ p. let q = h.above id v at in ((λ is'. clash (sym is' ∙ (sym (ap (λ (z : View E). z.holds) p.1) ∙ quiet))), (let n : v.number ≡ u.number = ap (λ (z : View E). z.number) p.1 in let m : v.number ≤ h.holder.number = q.1 in omega arith)))
            (⊎_elim (λ p. h.above j u p) (λ p. let q = h.above id v at in ((λ is'. clash (sym is' ∙ sym (ap (λ (z : View E). z.holds) p))), (let n : v.number ≡ u.number = ap (λ (z : View E). z.number) p in let m : v.number ≤ h.holder.number = q.1 in omega arith))))
            (cases j u e);
      } in
      let seated : Seated both id = λ j u e. ⊎_elim
      (λ p. ((λ _. p.0), (λ _ n. clash (sym is ∙ (ap (λ (z : View E). z.editor) p.1 ∙ n)))))
      (⊎_elim (λ p. ((λ h. k.only_editor j u p h ∙ sym here), k.holders_work j u p)) (λ p. ((λ h. clash (sym h ∙ sym (ap (λ (z : View E). z.editor) p))), (λ _ _. sym (ap (λ (z : View E). z.works) p)))))
      (cases j u e) in record {
        place = id;
        editor = w;
        at_place = at_w;
        is_editor = (is, idle);
        only_editor = λ j u e. (seated j u e).0;
        holders_work = λ j u e. (seated j u e).1;
        counted = (let a = working_set s.views id v w at in let b = working_snoc (set s.views id w) (worker_view v) in let c = k.counted in let d : k.editor.workers ≡ v.workers = ap (λ (z : View E). z.workers) one in omega arith);
        stands = ⊎_elim (λ f. inl (free f)) (λ h. inr (held h)) k.stands;
      }

  -- the editor takes a worker's view in
  pub joins : (id : ℕ) (v : View E) (other : ℕ) (w : View E) → (v.editor ≡ true) → (v.works ≡ false) → (v.holds ≡ false) → (w.editor ≡ false) → (w.works ≡ true) → (w.holds ≡ false)
      → Joins (IsTurn entries number) id v other w (after_join v w) spent_view
  joins id v other w is idle quiet not_editor works quiet' s k at apart at' =
      let here : id ≡ k.place = k.only_editor id v at is in
      let one : k.editor ≡ v = some-injective k.editor v (sym k.at_place ∙ (ap (λ (i : ℕ). get_elem? s.views i) (sym here) ∙ at)) in
      let b : View E = after_join v w in
      let mid : List (View E) = set s.views id b in
      let last : List (View E) = set mid other spent_view in
      let at_other : get_elem? s.views other ≡ some w = sym (set_else s.views id other b apart) ∙ at' in
      let cases : (j : ℕ) (u : View E) → get_elem? last j ≡ some u → ((j ≡ id) × (b ≡ u)) ⊎ ((get_elem? s.views j ≡ some u) ⊎ (spent_view ≡ u)) = λ j u e.
      ⊎_elim (λ p. inr (inr p.1)) (λ p. ⊎_elim (λ q. inl q) (λ q. inr (inl q.1)) (at_set s.views id j b u p.1)) (at_set mid other j spent_view u e) in
      let free : IsFree entries number s k.editor.entries → IsFree entries number (At s.words s.homes last) v.entries = λ f. record {
        value = f.value;
        word = f.word;
        home = f.home;
        list_is = f.list_is ∙ ap (λ (z : View E). z.entries) one;
        above = λ j u e. ⊎_elim
            (λ p. let q = f.above id v at in let r = f.above other w at_other in (sym (ap (λ (z : View E). z.holds) p.1) ∙ q.0, (let n : max v.number w.number ≡ u.number = ap (λ (z : View E). z.number) p.1 in let m : v.number ≤ number f.value = q.1 in let m' : w.number ≤ number f.value = r.1 in omega arith)))
            (⊎_elim (λ p. f.above j u p) (λ p. (sym (ap (λ (z : View E). z.holds) p), (let n : 0 ≡ u.number = ap (λ (z : View E). z.number) p in omega arith))))
            (cases j u e);
      } in
      let held : IsHeld entries number s k.editor.entries → IsHeld entries number (At s.words s.homes last) v.entries = λ h. let away : h.place ≢ id = holder_else s.views h.place id h.holder v h.at_place h.holds at quiet in let away' : h.place ≢ other = holder_else s.views h.place other h.holder w h.at_place h.holds at_other quiet' in record {
        place = h.place;
        holder = h.holder;
        word = h.word;
        home = h.home;
        at_place = set_else mid other h.place spent_view away' ∙ (set_else s.views id h.place b away ∙ h.at_place);
        holds = h.holds;
        list_is = h.list_is ∙ ap (λ (z : View E). z.entries) one;
        above = λ j u e. ⊎_elim
            (λ p. let q = h.above id v at in let r = h.above other w at_other in ((λ is'. clash (sym is' ∙ (sym (ap (λ (z : View E). z.holds) p.1) ∙ quiet))), (let n : max v.number w.number ≡ u.number = ap (λ (z : View E). z.number) p.1 in let m : v.number ≤ h.holder.number = q.1 in let m' : w.number ≤ h.holder.number = r.1 in omega arith)))
            (⊎_elim (λ p. h.above j u p) (λ p. ((λ is'. clash (sym is' ∙ sym (ap (λ (z : View E). z.holds) p))), (let n : 0 ≡ u.number = ap (λ (z : View E). z.number) p in omega arith))))
            (cases j u e);
      } in
      let seated : Seated last id = λ j u e. ⊎_elim
      (λ p. ((λ _. p.0), (λ _ n. clash (sym is ∙ (ap (λ (z : View E). z.editor) p.1 ∙ n)))))
      (⊎_elim (λ p. ((λ h. k.only_editor j u p h ∙ sym here), k.holders_work j u p)) (λ p. ((λ h. clash (sym h ∙ sym (ap (λ (z : View E). z.editor) p))), (λ h _. clash (sym h ∙ sym (ap (λ (z : View E). z.holds) p))))))
      (cases j u e) in record {
        place = id;
        editor = b;
        at_place = set_else mid other id spent_view (λ e. apart (sym e)) ∙ at_new' s.views id v b at;
        is_editor = (is, idle);
        only_editor = λ j u e. (seated j u e).0;
        holders_work = λ j u e. (seated j u e).1;
        counted = (let a = working_set s.views id v b at in let a' = working_set mid other w spent_view at' in let c = k.counted in let d : k.editor.workers ≡ v.workers = ap (λ (z : View E). z.workers) one in let o : one_if w.works ≡ 1 = ap one_if works in omega arith);
        stands = ⊎_elim (λ f. inl (free f)) (λ h. inr (held h)) k.stands;
      }
