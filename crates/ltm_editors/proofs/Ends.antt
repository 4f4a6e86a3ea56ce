-- The table at the start has the rule, and at the end it has the value.
use Rattle.std.proofs.Common.{◌≡◌, ◌≢◌, ◌≤◌, ℕ, zero, suc, ◌==◌, Bool, true, false, cond, List, [], ◌∷◌, ◌++◌, refl, sym, ap, ◌∙◌, inl, ⊎_elim, subst, arith, Option, Some}
use Rattle.std.specs.List.{Contains, filter}
use Rattle.std.proofs.lemmas.Bool.{eq-eqb}
use Rattle.std.proofs.lemmas.List.{append-nil}
use mathlib.Core.List.{IsPrefix}
use mathlib.Core.Logic.{dite}
use native.Mathlib.Decide.{ℕ_discrete, dec_le}
use mathlib.Core.Option.{some, none, some-injective, some-ne-none}
use mathlib.Core.Option as maybe
use lib.ListN.{get_elem?}
use Rattle.atomic_table.specs.Table.{State, opening as opening_table, Final, Seen}
use Rattle.ltm_editors.specs.declared.view.View.{View}
use Rattle.ltm_editors.specs.Lists.{entries_of}
use Rattle.ltm_editors.specs.Views.{first_view}
use Rattle.ltm_editors.specs.Rule.{Fits, IsDesk}
use Rattle.ltm_editors.proofs.Prefixes.{none_before, none_behind}
use Rattle.ltm_editors.proofs.Members.{clash, not_false, only_one, in_one, one_view, two_live}

-- a list that keeps its first entry is not empty
not_none : {E P : Type 0} (b : Bool) (x : E) (xs : List E) → b ≡ true → cond b (x ∷ xs) xs ≡ [] → P
not_none true x xs is e = absurd (cc)
not_none false x xs is e = clash (sym is)

module _ {E : Type 0} (author : E → ℕ) where
  -- a list with no entry of any number is empty
  none_at_all : (xs : List E) → ((n : ℕ) → entries_of author n xs ≡ []) → xs ≡ []
  none_at_all [] lacks = refl
  none_at_all (x ∷ xs) lacks = not_none (author x == author x) x (filter (λ e. author e == author x) xs) (eq-eqb (author x) (author x) refl) (lacks (author x))

  -- a list that has of no number more than its beginning is its beginning
  no_more_at_all : (xs ys : List E) → IsPrefix xs ys → ((n : ℕ) → entries_of author n ys ≡ entries_of author n xs) → ys ≡ xs
  no_more_at_all xs ys (more, e) same =
      let none : more ≡ [] = none_at_all more (λ n. none_behind author n xs more (ap (λ l. entries_of author n l) e ∙ same n)) in
      sym e ∙ (ap (λ l. xs ++ l) none ∙ append-nil xs)

module _ {T O E : Type 0} (opening : T → O) (history : T → List E) (author : E → ℕ) where
  -- the table at the start
  pub opens : (x : T) → history x ≡ [] → IsDesk opening history author (opening_table (0 ∷ []) (Some x ∷ []) (first_view (opening x)))
  opens x empty = record {
    chair = 0;
    head = first_view (opening x);
    log = [];
    opens = Some (opening x);
    at_chair = refl;
    is_chair = (refl, refl);
    one_chair = λ j u e _. (alone j u e).0;
    fits = λ j u e. subst (λ (z : View O E). Fits opening history author [] (Some (opening x)) 1 z) (alone j u e).1 (record {
      begins = ([], refl);
      own = λ _ _ _. refl;
      below = λ _ n has. (let m = only_one 0 n has in omega arith);
      its_own = λ _. in_one 0;
      opens_is = λ _. refl;
      spent = λ _. refl;
      tells = λ l. clash (sym l);
    });
    apart = λ i j u v e e' _ _ _ _ _. (alone i u e).0 ∙ sym ((alone j v e').0);
    covered = λ n lt. (0, first_view (opening x), refl, refl, (let z : 0 ≡ n = omega arith in subst (λ (m : ℕ). Contains (0 ∷ []) m) z (in_one 0)));
    not_made = λ n _. refl;
    counted = refl;
    stands = inl (record { value = x; word = refl; home = refl; log_is = empty; opens_is = refl; none_holds = λ j u e. sym (ap (λ (y : View O E). y.holds) ((alone j u e).1)) });
  }
    where
      alone : (j : ℕ) (u : View O E) → get_elem? (first_view (opening x) ∷ []) j ≡ some u → (j ≡ 0) × (first_view (opening x) ≡ u)
      alone zero u e = (refl, some-injective (first_view (opening x)) u e)
      alone (suc j) u e = absurd (some-ne-none u (sym e))

  -- the slot has a value with the seat's opening, and with exactly the history that the seat has seen
  abbrev pub Closing : View O E → List (Option T) → Type 0
  Closing v xs = (x : T) × (get_elem? xs 0 ≡ some (Some x)) × (v.opening ≡ Some (opening x)) × (history x ≡ v.seen)

  -- what was taken out of the slot
  pub same_value : (v : View O E) (xs : List (Option T)) (y : Option T) → Closing v xs → get_elem? xs 0 ≡ some y → (x : T) × (y ≡ Some x) × (v.opening ≡ Some (opening x)) × (history x ≡ v.seen)
  same_value v xs y k at = (k.0, some-injective y (Some k.0) (sym at ∙ k.1), k.2, k.3)

  module _ (s : State (Option T) (View O E)) (k : IsDesk opening history author s) (id : ℕ) (v : View O E) (at : get_elem? s.views id ≡ some v) (is : v.chair ≡ true) (alone : v.others ≡ 0) where
    one : k.head ≡ v
    one = one_view s.views k.chair id k.head v k.at_chair at (sym (k.one_chair id v at is))

    live : v.live ≡ true
    live = ap (λ (z : View O E). z.live) (sym one) ∙ k.is_chair.1

    no_other : (j : ℕ) (u : View O E) → get_elem? s.views j ≡ some u → u.live ≡ true → j ≢ id → {P : Type 0} → P
    no_other j u e l ne = let two = two_live s.views id j v u at e ne live l in let c = k.counted in let d : k.head.others ≡ v.others = ap (λ (z : View O E). z.others) one in absurd (omega arith)

    -- the first seat, with no other left, has seen all
    all_seen : k.log ≡ v.seen
    all_seen = let f = k.fits id v at in no_more_at_all author v.seen k.log f.begins (λ n. dite (dec_le k.head.made n)
        (λ le. k.not_made n le ∙ sym (none_before author n v.seen k.log f.begins (k.not_made n le)))
        (λ lt. let c = k.covered n (omega arith) in dite (ℕ_discrete c.0 id)
        (λ e. f.own live n (subst (λ (y : View O E). Contains y.numbers n) (one_view s.views c.0 id c.1 v c.2 at e) c.4))
        (λ ne. no_other c.0 c.1 c.2 c.3 ne)))

  pub closes : (id : ℕ) (v : View O E) (ws : List ℕ) (xs : List (Option T)) → v.chair ≡ true → v.holds ≡ false → v.others ≡ 0 → Final (Seen (IsDesk opening history author) id v) ws xs → Closing v xs
  closes id v ws xs is quiet alone (s, seen, words, deep, slots) =
      let k = seen.0 in let at = seen.1 in ⊎_elim
      (λ f. (f.value, slots 0 (Some f.value) (ap (λ (hs : List (maybe.Option (Option T))). get_elem? hs 0) f.home), (k.fits id v at).opens_is (live s k id v at is alone) ∙ f.opens_is, f.log_is ∙ all_seen s k id v at is alone))
      (λ h. no_other s k id v at is alone h.place h.holder h.at_place
      (not_false h.holder.live (λ d. clash (sym h.holds ∙ (k.fits h.place h.holder h.at_place).spent d)))
      (λ e. clash (sym h.holds ∙ (ap (λ (z : View O E). z.holds) (one_view s.views h.place id h.holder v h.at_place at e) ∙ quiet))))
      k.stands

  -- and has seen no entry of a number that was not given out
  pub closes_made : (id : ℕ) (v : View O E) (ws : List ℕ) (xs : List (Option T)) → v.chair ≡ true → Final (Seen (IsDesk opening history author) id v) ws xs → (n : ℕ) → v.made ≤ n → entries_of author n v.seen ≡ []
  closes_made id v ws xs is (s, seen, words, deep, slots) n least =
      let k = seen.0 in let at = seen.1 in
      let same : k.head.made ≡ v.made = ap (λ (z : View O E). z.made) (one_view s.views k.chair id k.head v k.at_chair at (sym (k.one_chair id v at is))) in
      none_before author n v.seen k.log (k.fits id v at).begins (k.not_made n (omega (arith, same, least)))
