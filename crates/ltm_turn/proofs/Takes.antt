-- A take, a note and a free keep the rule.
use Rattle.std.proofs.Common.{◌≡◌, ◌⊎◌, ℕ, ◌≤◌, ◌==◌, true, false, List, [], ◌∷◌, set, get_or, refl, sym, ap, ◌∙◌, inl, inr, ⊎_elim, subst, arith, Option, Some, None}
use mathlib.Core.Option.{some, none, some-injective, some-ne-none}
use mathlib.Core.Option as maybe
use lib.ListN.{get_elem?}
use prog.Atomic.{either}
use Rattle.atomic_table.specs.Table.{State, Me, Act, keeps, takes as taking, gives, Valid, step, stepped, Allows, carried_after, put_back, rest}
use Rattle.atomic_table.proofs.Lists.{at_set, set_again}
use Rattle.ltm_turn.specs.declared.view.View.{View}
use Rattle.ltm_turn.specs.Views.{holding, idle}
use Rattle.ltm_turn.specs.Rule.{IsFree, IsHeld, IsTurn}
use Rattle.ltm_turn.specs.Steps.{Wins, Takes, Notes, Frees}
use Rattle.ltm_turn.proofs.Changes.{clash, not_held, same_one, at_new, changes, At}

abbrev inner : {T : Type 0} → T → Option T → T
inner d None = d
inner d (Some x) = x

abbrev first_of_slot : {T : Type 0} → T → List (ℕ × Option T) → T
first_of_slot d [] = d
first_of_slot d (p ∷ ps) = inner d p.1

carried_one : {T : Type 0} (x y : T) → ◌≡◌ {A = List (ℕ × Option T)} ((0, Some x) ∷ []) ((0, Some y) ∷ []) → x ≡ y
carried_one x y e = ap (λ c. first_of_slot x c) e

module _ {T E : Type 0} (entries : T → List E) (number : T → ℕ) where
  abbrev Taking : State (Option T) (View E) → ℕ → View E → List (ℕ × Option T) → List ℕ → Type 0
  Taking s id v c ws = (w : View E) × (a : Act (Option T)) × Valid s.homes c a
      × IsTurn entries number (stepped (At ws s.homes s.views) 0 (either (get_or ws 0 0 == 0) 1 (get_or ws 0 0)) id c w a)
      × Takes entries number (step 1 0 0 1 none) (v, c) (get_or ws 0 0) (w, carried_after c a)

  takes_free : (s : State (Option T) (View E)) (k : IsTurn entries number s) (id : ℕ) (v : View E) (c : List (ℕ × Option T)) → get_elem? s.views id ≡ some v → (v.editor ≡ false → v.works ≡ true)
      → IsFree entries number s k.editor.entries → Taking s id v c (0 ∷ [])
  takes_free s k id v c at live f =
      let x : T = f.value in
      let w : View E = holding v (entries x) (number x) in
      let seen : (v.holds ≡ false) × (v.number ≤ number x) = f.above id v at in
      let held : (list : List E) → entries x ≡ list → IsHeld entries number (At (1 ∷ []) (set s.homes 0 none) (set s.views id w)) list = λ list e. record {
        place = id;
        holder = w;
        word = refl;
        home = ap (λ (hs : List (maybe.Option (Option T))). set hs 0 none) f.home;
        at_place = at_new entries number s k id v w at (refl, refl, refl);
        holds = refl;
        list_is = e;
        above = λ j u here. ⊎_elim
            (λ p. ((λ _. p.0), (let e : w.number ≡ u.number = ap (λ (z : View E). z.number) p.1 in let e' : number x ≡ u.number = e in omega arith)))
            (λ p. let q = f.above j u p.1 in ((λ h. clash (sym h ∙ q.0)), q.1))
            (at_set s.views id j w u here);
      } in (
        w,
        taking 0 (Some x),
        ap (λ (hs : List (maybe.Option (Option T))). get_elem? hs 0) f.home,
        changes entries number s k id v w at (refl, refl, refl) (1 ∷ []) (set s.homes 0 none) live (λ _. inr (held (entries x) refl)) (λ _. inr (held k.editor.entries f.list_is)),
        (x, refl, seen.1, (λ is. f.list_is ∙ ap (λ (z : View E). z.entries) (same_one entries number s k id v w at (refl, refl, refl) k.editor (subst (λ (i : ℕ). get_elem? s.views i ≡ some k.editor) (sym (k.only_editor id v at is)) k.at_place)))),
      )

  takes_held : (s : State (Option T) (View E)) (k : IsTurn entries number s) (id : ℕ) (v : View E) (c : List (ℕ × Option T)) → get_elem? s.views id ≡ some v
      → s.words ≡ 1 ∷ [] → Taking s id v c (1 ∷ [])
  takes_held s k id v c at one = (
    v,
    keeps,
    tt,
    (let P : List ℕ → Type 0 = λ ws. IsTurn entries number (At ws s.homes s.views) in let Q : List (View E) → Type 0 = λ vs. IsTurn entries number (At (1 ∷ []) s.homes vs) in subst Q (sym (set_again s.views id v at)) (subst P one k)),
    refl,
  )

  -- a pass takes the turn, or finds that it is held
  pub takes : (slots id : ℕ) (v : View E) (c : List (ℕ × Option T)) → (v.editor ≡ false → v.works ≡ true)
      → Allows (IsTurn entries number) slots id (v, c) 0 (λ n. either (n == 0) 1 n) (Takes entries number (step 1 0 0 1 none) (v, c))
  takes slots id v c live s k deep at fits = go k.stands
    where
      go : IsFree entries number s k.editor.entries ⊎ IsHeld entries number s k.editor.entries → Taking s id v c s.words
      go (inl f) = subst (Taking s id v c) (sym f.word) (takes_free s k id v c at live f)
      go (inr h) = subst (Taking s id v c) (sym h.word) (takes_held s k id v c at h.word)

  -- who holds the turn finds it held, by itself
  module _ (s : State (Option T) (View E)) (k : IsTurn entries number s) (id : ℕ) (v : View E) (at : get_elem? s.views id ≡ some v) (holds : v.holds ≡ true) where
    record Own : Type 0 where
      pub word : s.words ≡ 1 ∷ []
      pub home : s.homes ≡ none ∷ []
      pub list_is : v.entries ≡ k.editor.entries
      pub above : (j : ℕ) (u : View E) → get_elem? s.views j ≡ some u → (u.holds ≡ true → j ≡ id) × (u.number ≤ v.number)

    own : Own
    own = go k.stands
      where
        go : IsFree entries number s k.editor.entries ⊎ IsHeld entries number s k.editor.entries → Own
        go (inl f) = clash (sym holds ∙ (f.above id v at).0)
        go (inr h) = let here : id ≡ h.place = (h.above id v at).0 holds in let one : h.holder ≡ v = some-injective h.holder v (sym h.at_place ∙ (ap (λ (i : ℕ). get_elem? s.views i) (sym here) ∙ at)) in record {
          word = h.word;
          home = h.home;
          list_is = ap (λ (z : View E). z.entries) (sym one) ∙ h.list_is;
          above = λ j u e. let q = h.above j u e in ((λ is. q.0 is ∙ sym here), (let n : h.holder.number ≡ v.number = ap (λ (z : View E). z.number) one in let m : u.number ≤ h.holder.number = q.1 in omega arith));
        }

  -- the holder notes what it put back
  pub notes : (slots id : ℕ) (v : View E) (c : List (ℕ × Option T)) (x : T) → c ≡ (0, Some x) ∷ [] → v.holds ≡ true → (v.editor ≡ false → v.works ≡ true)
      → (v.editor ≡ false → entries x ≡ v.entries) → v.number ≤ number x
      → Allows (IsTurn entries number) slots id (v, c) 0 (λ n. n) (Notes entries number (step 1 0 0 0 none) (v, c))
  notes slots id v c x has holds live list_is more s k deep at fits =
      let o = own s k id v at holds in
      let w : View E = holding v (entries x) (number x) in
      let held : (list : List E) → entries x ≡ list → IsHeld entries number (At (set s.words 0 (get_or s.words 0 0)) s.homes (set s.views id w)) list = λ list e. record {
        place = id;
        holder = w;
        word = ap (λ (ws : List ℕ). set ws 0 (get_or ws 0 0)) o.word;
        home = o.home;
        at_place = at_new entries number s k id v w at (refl, refl, refl);
        holds = refl;
        list_is = e;
        above = λ j u here. ⊎_elim
            (λ p. ((λ _. p.0), (let e : number x ≡ u.number = ap (λ (z : View E). z.number) p.1 in omega arith)))
            (λ p. let q = o.above j u p.1 in (q.0, (let m : u.number ≤ v.number = q.1 in omega arith)))
            (at_set s.views id j w u here);
      } in (
        w,
        keeps,
        tt,
        changes entries number s k id v w at (refl, refl, refl) (set s.words 0 (get_or s.words 0 0)) s.homes live (λ _. inr (held (entries x) refl)) (λ is. inr (held k.editor.entries (list_is is ∙ o.list_is))),
        (λ y e. let same : x ≡ y = carried_one x y (sym has ∙ e) in λ i. (holding v (entries (same i)) (number (same i)), c)),
      )

  -- the holder gives the turn back
  pub frees : (slots id : ℕ) (v : View E) (c : List (ℕ × Option T)) (x : T) → c ≡ (0, Some x) ∷ [] → v.holds ≡ true → (v.editor ≡ false → v.works ≡ true)
      → entries x ≡ v.entries → v.number ≡ number x
      → Allows (IsTurn entries number) slots id (v, c) 0 (λ _. 0) (λ _. Frees (step 1 0 0 0 none) (v, c) 0)
  frees slots id v c x has holds live list_is more s k deep at fits =
      let o = own s k id v at holds in
      let w : View E = idle v in
      let hs : List (maybe.Option (Option T)) = put_back s.homes c in
      let free : (list : List E) → v.entries ≡ list → IsFree entries number (At (set s.words 0 0) hs (set s.views id w)) list = λ list e. record {
        value = x;
        word = ap (λ (ws : List ℕ). set ws 0 0) o.word;
        home = (λ i. put_back (o.home i) (has i));
        list_is = list_is ∙ e;
        above = λ j u here. ⊎_elim
            (λ p. (sym (ap (λ (z : View E). z.holds) p.1), (let e : v.number ≡ u.number = ap (λ (z : View E). z.number) p.1 in omega arith)))
            (λ p. let q = o.above j u p.1 in (not_held u.holds (λ is. p.0 (q.0 is)), (let m : u.number ≤ v.number = q.1 in omega arith)))
            (at_set s.views id j w u here);
      } in (
        w,
        gives,
        tt,
        changes entries number s k id v w at (refl, refl, refl) (set s.words 0 0) hs live (λ _. inl (free v.entries refl)) (λ is. inl (free k.editor.entries o.list_is)),
        (λ i. (w, rest (has i))),
      )

  pub won : (m : Me (Option T) (View E)) (r : ℕ) (m' : Me (Option T) (View E)) → Takes entries number (step 1 0 0 1 none) m r m' → r ≡ 0 → Wins entries number m m'
  won m r m' t e = let P : ℕ → Type 0 = λ n. Takes entries number (step 1 0 0 1 none) m n m' in subst P e t

  pub slot_there : (m m' : Me (Option T) (View E)) (w : Wins entries number m m') → m'.1 ≡ (0, Some w.0) ∷ rest m'.1
  slot_there m m' w = let e : m'.1 ≡ (0, Some w.0) ∷ m.1 = ap (λ z. z.1) w.1 in e ∙ ap (λ (l : List (ℕ × Option T)). (0, Some w.0) ∷ l) (sym (ap rest e))
