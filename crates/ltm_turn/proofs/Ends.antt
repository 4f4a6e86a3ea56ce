-- The table at the start has the rule, and at the end it has the value.
use Rattle.std.proofs.Common.{◌≡◌, ℕ, zero, suc, ◌≤◌, true, false, List, [], ◌∷◌, refl, sym, ap, ◌∙◌, inl, ⊎_elim, arith, Option, Some}
use mathlib.Core.Option.{some, none, some-injective, some-ne-none}
use mathlib.Core.Option as maybe
use lib.ListN.{get_elem?}
use Rattle.atomic_table.specs.Table.{opening, Final, Seen}
use Rattle.ltm_turn.specs.declared.view.View.{View}
use Rattle.ltm_turn.specs.Views.{opening_view}
use Rattle.ltm_turn.specs.Rule.{one_if, IsTurn}
use Rattle.ltm_turn.proofs.Working.{working_at}
use Rattle.ltm_turn.proofs.Changes.{clash, not_held, holder_else}

module _ {T E : Type 0} (entries : T → List E) (number : T → ℕ) where
  -- the table at the start
  pub opens : (x : T) → IsTurn entries number (opening (0 ∷ []) (Some x ∷ []) (opening_view (entries x) (number x)))
  opens x = record {
    place = 0;
    editor = opening_view (entries x) (number x);
    at_place = refl;
    is_editor = (refl, refl);
    only_editor = λ j u e _. (alone j u e).0;
    holders_work = λ j u e h. clash (sym h ∙ sym (ap (λ (z : View E). z.holds) (alone j u e).1));
    counted = refl;
    stands = inl (record {
      value = x;
      word = refl;
      home = refl;
      list_is = refl;
      above = λ j u e. let p = alone j u e in (sym (ap (λ (z : View E). z.holds) p.1), (let n : number x ≡ u.number = ap (λ (z : View E). z.number) p.1 in omega arith));
    });
  }
    where
      alone : (j : ℕ) (u : View E) → get_elem? (opening_view (entries x) (number x) ∷ []) j ≡ some u → (j ≡ 0) × (opening_view (entries x) (number x) ≡ u)
      alone zero u e = (refl, some-injective (opening_view (entries x) (number x)) u e)
      alone (suc j) u e = absurd (some-ne-none u (sym e))

  -- the slot has the editor's list, and a number that it has not seen a greater than
  abbrev pub Closing : View E → List (Option T) → Type 0
  Closing v xs = (x : T) × (get_elem? xs 0 ≡ some (Some x)) × (entries x ≡ v.entries) × (v.number ≤ number x)

  -- what was taken out of the slot
  pub same_value : (v : View E) (xs : List (Option T)) (y : Option T) → Closing v xs → get_elem? xs 0 ≡ some y → (x : T) × (y ≡ Some x) × (entries x ≡ v.entries) × (v.number ≤ number x)
  same_value v xs y k at = (k.0, some-injective y (Some k.0) (sym at ∙ k.1), k.2, k.3)

  -- the editor's pass, with no worker, finds the slot at home
  pub closes : (id : ℕ) (v : View E) (ws : List ℕ) (xs : List (Option T)) → (v.editor ≡ true) → (v.holds ≡ false) → (v.workers ≡ 0) → Final (Seen (IsTurn entries number) id v) ws xs → Closing v xs
  closes id v ws xs is quiet none_work (s, seen, words, deep, slots) =
      let k = seen.0 in let at = seen.1 in
      let here : id ≡ k.place = k.only_editor id v at is in
      let one : k.editor ≡ v = some-injective k.editor v (sym k.at_place ∙ (ap (λ (i : ℕ). get_elem? s.views i) (sym here) ∙ at)) in
      ⊎_elim
      (λ f. (f.value, slots 0 (Some f.value) (ap (λ (hs : List (maybe.Option (Option T))). get_elem? hs 0) f.home), f.list_is ∙ ap (λ (z : View E). z.entries) one, (f.above id v at).1))
      (λ h. let e : h.holder.editor ≡ false = not_held h.holder.editor (λ m. holder_else s.views h.place id h.holder v h.at_place h.holds at quiet (k.only_editor h.place h.holder h.at_place m ∙ sym here)) in
      let works : one_if h.holder.works ≡ 1 = ap one_if (k.holders_work h.place h.holder h.at_place h.holds e) in
      let least = working_at s.views h.place h.holder h.at_place in let c = k.counted in let d : k.editor.workers ≡ v.workers = ap (λ (z : View E). z.workers) one in absurd (omega arith))
      k.stands
