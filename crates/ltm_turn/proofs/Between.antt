-- The rule says the five facts.
use Rattle.std.proofs.Common.{◌≡◌, ◌≤◌, ℕ, Bool, true, false, List, [], ◌∷◌, sym, ap, ◌∙◌, inl, inr, ⊎_elim, arith, Option, Some, None}
use mathlib.Core.Option.{some, none, some-injective}
use mathlib.Core.Option as maybe
use lib.ListN.{get_elem?}
use Rattle.atomic_table.specs.Table.{State}
use Rattle.ltm_turn.specs.declared.view.View.{View}
use Rattle.ltm_turn.specs.Rule.{IsTurn}
use Rattle.ltm_turn.specs.Facts.{OneHolder, HomeWhenFree, EditorsList, NumberNeverFalls, MayBePutBack}
use Rattle.ltm_turn.proofs.Changes.{clash}

apart : {P : Type 0} → ◌≡◌ {A = List ℕ} (0 ∷ []) (1 ∷ []) → P
apart e = absurd (cc)

abbrev inner : {T : Type 0} → T → Option T → T
inner d None = d
inner d (Some x) = x

abbrev at_home' : {T : Type 0} → T → maybe.Option (Option T) → T
at_home' d none = d
at_home' d (some o) = inner d o

abbrev at_home : {T : Type 0} → T → List (maybe.Option (Option T)) → T
at_home d [] = d
at_home d (h ∷ hs) = at_home' d h

abbrev is_home' : {T : Type 0} → maybe.Option (Option T) → Bool
is_home' none = false
is_home' (some o) = true

abbrev is_home : {T : Type 0} → List (maybe.Option (Option T)) → Bool
is_home [] = false
is_home (h ∷ hs) = is_home' h

module _ {T E : Type 0} (entries : T → List E) (number : T → ℕ) (s : State (Option T) (View E)) (k : IsTurn entries number s) where
  the_editor : (j : ℕ) (v : View E) → get_elem? s.views j ≡ some v → v.editor ≡ true → k.editor ≡ v
  the_editor j v at is = some-injective k.editor v (sym k.at_place ∙ (ap (λ (i : ℕ). get_elem? s.views i) (sym (k.only_editor j v at is)) ∙ at))

  pub one_holder : OneHolder s
  one_holder = record {
    an_editor = (k.place, k.editor, k.at_place, k.is_editor.0);
    one_editor = λ i j v u at at' is is'. k.only_editor i v at is ∙ sym (k.only_editor j u at' is');
    word = ⊎_elim (λ f. inl f.word) (λ h. inr h.word) k.stands;
    held = λ e. ⊎_elim (λ f. apart (sym f.word ∙ e)) (λ h. (h.place, h.holder, h.at_place, h.holds)) k.stands;
    holds = λ j v at holds. ⊎_elim (λ f. clash (sym holds ∙ (f.above j v at).0)) (λ h. h.word) k.stands;
    one_holder = λ i j v u at at' is is'. ⊎_elim (λ f. clash (sym is ∙ (f.above i v at).0)) (λ h. (h.above i v at).0 is ∙ sym ((h.above j u at').0 is')) k.stands;
  }

  pub home_when_free : HomeWhenFree s
  home_when_free = record {
    free = λ e. ⊎_elim (λ f. (f.value, f.home)) (λ h. apart (sym e ∙ h.word)) k.stands;
    held = λ e. ⊎_elim (λ f. apart (sym f.word ∙ e)) (λ h. h.home) k.stands;
  }

  same_home : (x y : T) → ◌≡◌ {A = List (maybe.Option (Option T))} (some (Some x) ∷ []) (some (Some y) ∷ []) → x ≡ y
  same_home x y e = ap (λ hs. at_home x hs) e

  not_home : {P : Type 0} (x : T) → ◌≡◌ {A = List (maybe.Option (Option T))} (none ∷ []) (some (Some x) ∷ []) → P
  not_home x e = clash (sym (ap (λ hs. is_home hs) e))

  pub editors_list : EditorsList entries s
  editors_list x home j v at is = ⊎_elim (λ f. ap entries (same_home x f.value (sym home ∙ f.home)) ∙ (f.list_is ∙ ap (λ (z : View E). z.entries) (the_editor j v at is)))
      (λ h. not_home x (sym h.home ∙ home)) k.stands

  pub number_never_falls : NumberNeverFalls number s
  number_never_falls x home j v at = ⊎_elim (λ f. let e = ap number (same_home x f.value (sym home ∙ f.home)) in let m : v.number ≤ number f.value = (f.above j v at).1 in omega arith)
      (λ h. not_home x (sym h.home ∙ home)) k.stands

  pub may_be_put_back : MayBePutBack entries number s
  may_be_put_back i h at holds x = ⊎_elim (λ f. clash (sym holds ∙ (f.above i h at).0))
      (λ g. let one : g.holder ≡ h = some-injective g.holder h (sym g.at_place ∙ (ap (λ (n : ℕ). get_elem? s.views n) (sym ((g.above i h at).0 holds)) ∙ at)) in (
        (λ more j v at'. let m : v.number ≤ g.holder.number = (g.above j v at').1 in let n : g.holder.number ≡ h.number = ap (λ (z : View E). z.number) one in omega arith),
        (λ e j v at' is. e ∙ (ap (λ (z : View E). z.entries) (sym one) ∙ (g.list_is ∙ ap (λ (z : View E). z.entries) (the_editor j v at' is)))),
      )) k.stands
