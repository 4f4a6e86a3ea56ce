-- One view changes, and with it what stands.
use Rattle.std.proofs.Common.{◌≡◌, ◌≢◌, ◌⊎◌, ℕ, zero, suc, ◌<◌, Bool, true, false, List, [], ◌∷◌, set, length, refl, sym, ap, ◌∙◌, inl, inr, subst, arith, Option}
use mathlib.Core.Option.{some, none, some-injective, some-ne-none}
use mathlib.Core.Option as maybe
use lib.ListN.{get_elem?}
use Rattle.atomic_table.specs.Table.{State}
use Rattle.atomic_table.proofs.Lists.{at_set, set_here, set_else}
use Rattle.ltm_turn.specs.declared.view.View.{View}
use Rattle.ltm_turn.specs.Rule.{one_if, working, IsFree, IsHeld, IsTurn}
use Rattle.ltm_turn.proofs.Working.{working_set}

pub clash : {P : Type 0} → true ≡ false → P
clash e = absurd (cc)

pub not_held : (b : Bool) → ¬ (b ≡ true) → b ≡ false
not_held true n = absurd (n refl)
not_held false n = refl

module _ {E : Type 0} where
  inside : (xs : List (View E)) (i : ℕ) (v : View E) → get_elem? xs i ≡ some v → i < length xs
  inside [] i v e = absurd (some-ne-none v (sym e))
  inside (x ∷ xs) zero v e = omega arith
  inside (x ∷ xs) (suc i) v e = let h = inside xs i v e in omega arith

  pub at_new' : (xs : List (View E)) (i : ℕ) (v w : View E) → get_elem? xs i ≡ some v → get_elem? (set xs i w) i ≡ some w
  at_new' xs i v w e = set_here xs i w (inside xs i v e)

  pub holder_else : (xs : List (View E)) (i j : ℕ) (u v : View E) → get_elem? xs i ≡ some u → u.holds ≡ true → get_elem? xs j ≡ some v → v.holds ≡ false → i ≢ j
  holder_else xs i j u v at holds at' quiet e = clash (sym holds ∙ (ap (λ (z : View E). z.holds) (some-injective u v (sym at ∙ (ap (λ (k : ℕ). get_elem? xs k) e ∙ at'))) ∙ quiet))

  -- the editor's view is at this place alone, and every other holder is a worker
  abbrev pub Seated : List (View E) → ℕ → Type 0
  Seated vs place = (j : ℕ) (u : View E) → get_elem? vs j ≡ some u → (u.editor ≡ true → j ≡ place) × (u.holds ≡ true → u.editor ≡ false → u.works ≡ true)

module _ {T E : Type 0} where
  abbrev pub At : List ℕ → List (maybe.Option (Option T)) → List (View E) → State (Option T) (View E)
  At ws hs vs = record { words = ws; homes = hs; views = vs }

module _ {T E : Type 0} (entries : T → List E) (number : T → ℕ) where
  -- one view changes, and with it what stands
  module _ (s : State (Option T) (View E)) (k : IsTurn entries number s) (id : ℕ) (v w : View E) (at : get_elem? s.views id ≡ some v) (same : (w.editor ≡ v.editor) × (w.works ≡ v.works) × (w.workers ≡ v.workers)) where
    pub same_one : (u : View E) → get_elem? s.views id ≡ some u → u ≡ v
    same_one u e = some-injective u v (sym e ∙ at)

    pub at_new : get_elem? (set s.views id w) id ≡ some w
    at_new = at_new' s.views id v w at

    counted_still : working (set s.views id w) ≡ working s.views
    counted_still = let e = working_set s.views id v w at in let f : one_if w.works ≡ one_if v.works = ap one_if same.1 in omega arith

    seated_still : (place : ℕ) → Seated s.views place → (v.editor ≡ false → v.works ≡ true) → Seated (set s.views id w) place
    seated_still place only live j u e = go (at_set s.views id j w u e)
      where
        go : ((j ≡ id) × (w ≡ u)) ⊎ ((j ≢ id) × (get_elem? s.views j ≡ some u)) → (u.editor ≡ true → j ≡ place) × (u.holds ≡ true → u.editor ≡ false → u.works ≡ true)
        go (inl p) = (
          (λ is. p.0 ∙ (only id v at).0 (sym same.0 ∙ (ap (λ (z : View E). z.editor) p.1 ∙ is))),
          (λ _ is. sym (ap (λ (z : View E). z.works) p.1) ∙ (same.1 ∙ live (sym same.0 ∙ (ap (λ (z : View E). z.editor) p.1 ∙ is)))),
        )
        go (inr p) = only j u p.1

    abbrev pub StandsAfter : List ℕ → List (maybe.Option (Option T)) → List E → Type 0
    StandsAfter ws hs list = IsFree entries number (At ws hs (set s.views id w)) list ⊎ IsHeld entries number (At ws hs (set s.views id w)) list

    pub changes : (ws : List ℕ) (hs : List (maybe.Option (Option T))) → (v.editor ≡ false → v.works ≡ true)
        → (v.editor ≡ true → StandsAfter ws hs w.entries) → (v.editor ≡ false → StandsAfter ws hs k.editor.entries) → IsTurn entries number (At ws hs (set s.views id w))
    changes ws hs live mine others = go v.editor refl
      where
        go : (b : Bool) → v.editor ≡ b → IsTurn entries number (At ws hs (set s.views id w))
        go true is = let here : id ≡ k.place = k.only_editor id v at is in let one : k.editor ≡ v = same_one k.editor (subst (λ (i : ℕ). get_elem? s.views i ≡ some k.editor) (sym here) k.at_place) in
            let seated : Seated (set s.views id w) id = seated_still id (λ j u e. ((λ h. k.only_editor j u e h ∙ sym here), k.holders_work j u e)) live in record {
              place = id;
              editor = w;
              at_place = at_new;
              is_editor = (same.0 ∙ is, same.1 ∙ (ap (λ (z : View E). z.works) (sym one) ∙ k.is_editor.1));
              only_editor = λ j u e. (seated j u e).0;
              holders_work = λ j u e. (seated j u e).1;
              counted = counted_still ∙ (k.counted ∙ (ap (λ (z : View E). z.workers) one ∙ sym same.2));
              stands = mine is;
            }
        go false is = let other : k.place ≢ id = λ e. let one : k.editor ≡ v = same_one k.editor (subst (λ (i : ℕ). get_elem? s.views i ≡ some k.editor) e k.at_place) in clash (sym k.is_editor.0 ∙ (ap (λ (z : View E). z.editor) one ∙ is)) in
            let seated : Seated (set s.views id w) k.place = seated_still k.place (λ j u e. (k.only_editor j u e, k.holders_work j u e)) live in record {
              place = k.place;
              editor = k.editor;
              at_place = set_else s.views id k.place w other ∙ k.at_place;
              is_editor = k.is_editor;
              only_editor = λ j u e. (seated j u e).0;
              holders_work = λ j u e. (seated j u e).1;
              counted = counted_still ∙ k.counted;
              stands = others is;
            }
