-- A take, a free and what a join tells keep the rule.
use Rattle.std.proofs.Common.{◌≡◌, ◌≢◌, ◌⊎◌, ℕ, ◌==◌, true, false, List, [], ◌∷◌, set, get_or, refl, sym, ap, ◌∙◌, inl, inr, ⊎_elim, subst, Option, Some, None}
use mathlib.Core.List.{IsPrefix}
use mathlib.Core.Option.{some, none}
use mathlib.Core.Option as maybe
use lib.ListN.{get_elem?}
use prog.Atomic.{either}
use Rattle.atomic_table.specs.Table.{State, Me, Act, keeps, takes as taking, gives, Valid, step, stepped, Allows, carried_after, put_back, rest}
use Rattle.atomic_table.proofs.Lists.{at_set, set_again, set_else}
use Rattle.ltm_editors.specs.declared.view.View.{View}
use Rattle.ltm_editors.specs.Lists.{entries_of, GrowsBy}
use Rattle.ltm_editors.specs.Views.{holding, idle, told}
use Rattle.ltm_editors.specs.Rule.{IsFree, IsHeld, IsDesk}
use Rattle.ltm_editors.specs.Steps.{Wins, Takes, Frees, Tells}
use Rattle.ltm_editors.proofs.Prefixes.{itself, grown_begins}
use Rattle.ltm_editors.proofs.Members.{clash, not_true, at_new, one_view}
use Rattle.ltm_editors.proofs.Changes.{At, SameSeat, Grown, changes}

abbrev inner : {T : Type 0} → T → Option T → T
inner d None = d
inner d (Some x) = x

abbrev first_of_slot : {T : Type 0} → T → List (ℕ × Option T) → T
first_of_slot d [] = d
first_of_slot d (p ∷ ps) = inner d p.1

carried_one : {T : Type 0} (x y : T) → ◌≡◌ {A = List (ℕ × Option T)} ((0, Some x) ∷ []) ((0, Some y) ∷ []) → x ≡ y
carried_one x y e = ap (λ c. first_of_slot x c) e

not_grown : {E : Type 0} (author : E → ℕ) (n : ℕ) (log : List E) → Grown author n log log
not_grown author n log = record { begins = itself log; still = λ _ _. refl }

module _ {O E : Type 0} where
  held_same : (v : View O E) (seen : List E) → v.joining ≡ false → SameSeat v (holding v seen)
  held_same v seen quiet = record { chair = refl; live = refl; number = refl; numbers = refl; opening = refl; made = refl; others = refl; joining = quiet }

  idle_same : (v : View O E) (seen : List E) → v.joining ≡ false → SameSeat v (idle v seen)
  idle_same v seen quiet = record { chair = refl; live = refl; number = refl; numbers = refl; opening = refl; made = refl; others = refl; joining = quiet }

  told_same : (v : View O E) → SameSeat v (told v)
  told_same v = record { chair = refl; live = refl; number = refl; numbers = refl; opening = refl; made = refl; others = refl; joining = refl }

module _ {T O E : Type 0} (opening : T → O) (history : T → List E) (author : E → ℕ) where
  abbrev Taking : State (Option T) (View O E) → ℕ → View O E → List (ℕ × Option T) → List ℕ → Type 0
  Taking s id v c ws = (w : View O E) × (a : Act (Option T)) × Valid s.homes c a
      × IsDesk opening history author (stepped (At ws s.homes s.views) 0 (either (get_or ws 0 0 == 0) 1 (get_or ws 0 0)) id c w a)
      × Takes opening history author (step 1 0 0 1 none) (v, c) (get_or ws 0 0) (w, carried_after c a)

  takes_free : (s : State (Option T) (View O E)) (k : IsDesk opening history author s) (id : ℕ) (v : View O E) (c : List (ℕ × Option T)) → get_elem? s.views id ≡ some v → v.live ≡ true → v.joining ≡ false
      → IsFree opening history author s k.log k.opens → Taking s id v c (0 ∷ [])
  takes_free s k id v c at live quiet f =
      let x : T = f.value in
      let w : View O E = holding v (history x) in
      let fit = k.fits id v at in
      let held : IsHeld opening history author (At (1 ∷ []) (set s.homes 0 none) (set s.views id w)) k.log = record {
        place = id;
        holder = w;
        word = refl;
        home = ap (λ (hs : List (maybe.Option (Option T))). set hs 0 none) f.home;
        at_place = at_new s.views id v w at;
        holds = refl;
        log_is = f.log_is;
        one_holds = λ j u here h. ⊎_elim (λ p. p.0) (λ p. clash (sym h ∙ f.none_holds j u p.1)) (at_set s.views id j w u here);
      } in (
        w,
        taking 0 (Some x),
        ap (λ (hs : List (maybe.Option (Option T))). get_elem? hs 0) f.home,
        changes opening history author s k id v w at (held_same v (history x) quiet) live k.log (not_grown author v.number k.log)
            (subst (λ (l : List E). IsPrefix l k.log) (sym f.log_is) (itself k.log)) (λ n _. ap (λ (l : List E). entries_of author n l) (sym f.log_is)) (1 ∷ []) (set s.homes 0 none) (inr held),
        (
          x,
          refl,
          fit.opens_is live ∙ f.opens_is,
          subst (λ (l : List E). IsPrefix v.seen l) (sym f.log_is) fit.begins,
          (λ n has. ap (λ (l : List E). entries_of author n l) f.log_is ∙ fit.own live n has),
        ),
      )

  takes_held : (s : State (Option T) (View O E)) (k : IsDesk opening history author s) (id : ℕ) (v : View O E) (c : List (ℕ × Option T)) → get_elem? s.views id ≡ some v
      → s.words ≡ 1 ∷ [] → Taking s id v c (1 ∷ [])
  takes_held s k id v c at one = (
    v,
    keeps,
    tt,
    (let P : List ℕ → Type 0 = λ ws. IsDesk opening history author (At ws s.homes s.views) in let Q : List (View O E) → Type 0 = λ vs. IsDesk opening history author (At (1 ∷ []) s.homes vs) in subst Q (sym (set_again s.views id v at)) (subst P one k)),
    refl,
  )

  -- a seat takes the desk, or finds that it is held
  pub takes : (slots id : ℕ) (v : View O E) (c : List (ℕ × Option T)) → v.live ≡ true → v.joining ≡ false
      → Allows (IsDesk opening history author) slots id (v, c) 0 (λ n. either (n == 0) 1 n) (Takes opening history author (step 1 0 0 1 none) (v, c))
  takes slots id v c live quiet s k deep at fits = go k.stands
    where
      go : IsFree opening history author s k.log k.opens ⊎ IsHeld opening history author s k.log → Taking s id v c s.words
      go (inl f) = subst (Taking s id v c) (sym f.word) (takes_free s k id v c at live quiet f)
      go (inr h) = subst (Taking s id v c) (sym h.word) (takes_held s k id v c at h.word)

  -- the holder notes the history with what it put behind the one that it found, and gives the desk back
  pub frees : (slots id : ℕ) (v : View O E) (c : List (ℕ × Option T)) (x : T) → c ≡ (0, Some x) ∷ [] → v.holds ≡ true → v.live ≡ true → v.joining ≡ false
      → GrowsBy author v.number v.seen (history x) → v.opening ≡ Some (opening x)
      → Allows (IsDesk opening history author) slots id (v, c) 0 (λ _. 0) (λ _. Frees history (step 1 0 0 0 none) (v, c) 0)
  frees slots id v c x has holds live quiet grows opens s k deep at fits = go k.stands
    where
      go : IsFree opening history author s k.log k.opens ⊎ IsHeld opening history author s k.log
          → (w : View O E) × (a : Act (Option T)) × Valid s.homes c a × IsDesk opening history author (stepped s 0 0 id c w a) × Frees history (step 1 0 0 0 none) (v, c) 0 (w, carried_after c a)
      go (inl f) = clash (sym holds ∙ f.none_holds id v at)
      go (inr h) =
          let one : h.holder ≡ v = one_view s.views h.place id h.holder v h.at_place at (sym (h.one_holds id v at holds)) in
          let log_is : v.seen ≡ k.log = ap (λ (z : View O E). z.seen) (sym one) ∙ h.log_is in
          let w : View O E = idle v (history x) in
          let hs : List (maybe.Option (Option T)) = put_back s.homes c in
          let free : IsFree opening history author (At (set s.words 0 0) hs (set s.views id w)) (history x) k.opens = record {
            value = x;
            word = ap (λ (ws : List ℕ). set ws 0 0) h.word;
            home = (λ i. put_back (h.home i) (has i));
            log_is = refl;
            opens_is = sym ((k.fits id v at).opens_is live) ∙ opens;
            none_holds = λ j u here. ⊎_elim (λ p. sym (ap (λ (z : View O E). z.holds) p.1)) (λ p. not_true u.holds (λ is. p.0 (h.one_holds j u p.1 is ∙ sym (h.one_holds id v at holds)))) (at_set s.views id j w u here);
          } in (
            w,
            gives,
            tt,
            changes opening history author s k id v w at (idle_same v (history x) quiet) live (history x)
                (record {
                  begins = subst (λ (l : List E). IsPrefix l (history x)) log_is (grown_begins author v.number v.seen (history x) grows);
                  still = λ n other. grows.1 n other ∙ ap (λ (l : List E). entries_of author n l) log_is;
                })
                (itself (history x)) (λ _ _. refl) (set s.words 0 0) hs (inl free),
            (λ y e. let same : x ≡ y = carried_one x y (sym has ∙ e) in λ i. (idle v (history (same i)), rest (has i))),
          )

  -- the first seat is told what it sees since it took another in
  pub tells : (slots id : ℕ) (v : View O E) (c : List (ℕ × Option T)) → v.live ≡ true → v.joining ≡ true → v.holds ≡ false
      → Allows (IsDesk opening history author) slots id (v, c) 0 (λ n. n) (Tells author (step 1 0 0 0 none) (v, c))
  tells slots id v c live joins quiet s k deep at fits =
      let w : View O E = told v in
      let fit = k.fits id v at in
      let ws : List ℕ = set s.words 0 (get_or s.words 0 0) in
      let stands : IsFree opening history author (At ws s.homes (set s.views id w)) k.log k.opens ⊎ IsHeld opening history author (At ws s.homes (set s.views id w)) k.log = ⊎_elim
      (λ f. inl (record {
        value = f.value;
        word = ap (λ (l : List ℕ). set l 0 (get_or l 0 0)) f.word;
        home = f.home;
        log_is = f.log_is;
        opens_is = f.opens_is;
        none_holds = λ j u here. ⊎_elim (λ p. sym (ap (λ (z : View O E). z.holds) p.1) ∙ quiet) (λ p. f.none_holds j u p.1) (at_set s.views id j w u here);
      }))
      (λ h. let other : h.place ≢ id = λ e. clash (sym h.holds ∙ (ap (λ (z : View O E). z.holds) (one_view s.views h.place id h.holder v h.at_place at e) ∙ quiet)) in inr (record {
        place = h.place;
        holder = h.holder;
        word = ap (λ (l : List ℕ). set l 0 (get_or l 0 0)) h.word;
        home = h.home;
        at_place = set_else s.views id h.place w other ∙ h.at_place;
        holds = h.holds;
        log_is = h.log_is;
        one_holds = λ j u here is. ⊎_elim (λ p. clash (sym is ∙ (sym (ap (λ (z : View O E). z.holds) p.1) ∙ quiet))) (λ p. h.one_holds j u p.1 is) (at_set s.views id j w u here);
      }))
      k.stands in (
        w,
        keeps,
        tt,
        changes opening history author s k id v w at (told_same v) live k.log (not_grown author v.number k.log) fit.begins (fit.own live) ws s.homes stands,
        (refl, fit.tells joins),
      )

  pub won : (m : Me (Option T) (View O E)) (r : ℕ) (m' : Me (Option T) (View O E)) → Takes opening history author (step 1 0 0 1 none) m r m' → r ≡ 0 → Wins opening history author m m'
  won m r m' t e = let P : ℕ → Type 0 = λ n. Takes opening history author (step 1 0 0 1 none) m n m' in subst P e t

  pub slot_there : (m m' : Me (Option T) (View O E)) (w : Wins opening history author m m') → m'.1 ≡ (0, Some w.0) ∷ rest m'.1
  slot_there m m' w = let e : m'.1 ≡ (0, Some w.0) ∷ m.1 = ap (λ z. z.1) w.1 in e ∙ ap (λ (l : List (ℕ × Option T)). (0, Some w.0) ∷ l) (sym (ap rest e))
