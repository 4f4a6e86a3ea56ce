-- One view changes, and with it what stands.
use Rattle.std.proofs.Common.{◌≡◌, ◌≢◌, ◌⊎◌, ℕ, true, false, List, set, refl, sym, ap, ◌∙◌, ⊎_elim, subst, arith, Option}
use Rattle.std.specs.List.{Contains}
use mathlib.Core.List.{IsPrefix}
use mathlib.Core.Logic.{dite}
use native.Mathlib.Decide.{ℕ_discrete}
use mathlib.Core.Option.{some}
use mathlib.Core.Option as maybe
use lib.ListN.{get_elem?}
use Rattle.atomic_table.specs.Table.{State}
use Rattle.atomic_table.proofs.Lists.{at_set, set_else}
use Rattle.ltm_editors.specs.declared.view.View.{View}
use Rattle.ltm_editors.specs.Lists.{entries_of, HasNoMore}
use Rattle.ltm_editors.specs.Rule.{one_if, IsFree, IsHeld, Fits, IsDesk}
use Rattle.ltm_editors.proofs.Prefixes.{begins_trans}
use Rattle.ltm_editors.proofs.Members.{clash, at_new, one_view, living_set}

module _ {T O E : Type 0} where
  abbrev pub At : List ℕ → List (maybe.Option (Option T)) → List (View O E) → State (Option T) (View O E)
  At ws hs vs = record { words = ws; homes = hs; views = vs }

-- the history has grown by entries of this number
pub record Grown {E : Type 0} (author : E → ℕ) (number : ℕ) (log log' : List E) : Type 0 where
  pub begins : IsPrefix log log'
  pub still : (n : ℕ) → n ≢ number → entries_of author n log' ≡ entries_of author n log

module _ {O E : Type 0} where
  -- a view of the same seat, which knows no more of the others, and to which nothing is left to be told
  pub record SameSeat (v w : View O E) : Type 0 where
    pub chair : w.chair ≡ v.chair
    pub live : w.live ≡ v.live
    pub number : w.number ≡ v.number
    pub numbers : w.numbers ≡ v.numbers
    pub opening : w.opening ≡ v.opening
    pub made : w.made ≡ v.made
    pub others : w.others ≡ v.others
    pub joining : w.joining ≡ false

module _ {T O E : Type 0} (opening : T → O) (history : T → List E) (author : E → ℕ) where
  -- a seat's view changes to another of the same seat, while the history may grow by entries of its number
  module _ (s : State (Option T) (View O E)) (k : IsDesk opening history author s) (id : ℕ) (v w : View O E) (at : get_elem? s.views id ≡ some v) (same : SameSeat v w) (live : v.live ≡ true) where
    here : get_elem? (set s.views id w) id ≡ some w
    here = at_new s.views id v w at

    cases : (j : ℕ) (u : View O E) → get_elem? (set s.views id w) j ≡ some u → ((j ≡ id) × (w ≡ u)) ⊎ ((j ≢ id) × (get_elem? s.views j ≡ some u))
    cases j u e = at_set s.views id j w u e

    -- a view after the change, and the same seat's before
    record Before (j : ℕ) (u : View O E) : Type 0 where
      pub view : View O E
      pub at_it : get_elem? s.views j ≡ some view
      pub lives : u.live ≡ view.live
      pub numbers : u.numbers ≡ view.numbers
      pub chair : u.chair ≡ view.chair

    before : (j : ℕ) (u : View O E) → get_elem? (set s.views id w) j ≡ some u → Before j u
    before j u e = ⊎_elim
        (λ p. record {
          view = v;
          at_it = ap (λ (i : ℕ). get_elem? s.views i) p.0 ∙ at;
          lives = ap (λ (z : View O E). z.live) (sym p.1) ∙ same.live;
          numbers = ap (λ (z : View O E). z.numbers) (sym p.1) ∙ same.numbers;
          chair = ap (λ (z : View O E). z.chair) (sym p.1) ∙ same.chair;
        })
        (λ p. record { view = u; at_it = p.1; lives = refl; numbers = refl; chair = refl })
        (cases j u e)

    -- the first seat's view, before and after
    record Head : Type 0 where
      pub view : View O E
      pub at_it : get_elem? (set s.views id w) k.chair ≡ some view
      pub chair : view.chair ≡ true
      pub lives : view.live ≡ true
      pub made : view.made ≡ k.head.made
      pub others : view.others ≡ k.head.others

    head : Head
    head = dite (ℕ_discrete k.chair id)
        (λ e. let one : k.head ≡ v = one_view s.views k.chair id k.head v k.at_chair at e in record {
          view = w;
          at_it = ap (λ (i : ℕ). get_elem? (set s.views id w) i) e ∙ here;
          chair = same.chair ∙ (ap (λ (z : View O E). z.chair) (sym one) ∙ k.is_chair.0);
          lives = same.live ∙ live;
          made = same.made ∙ ap (λ (z : View O E). z.made) (sym one);
          others = same.others ∙ ap (λ (z : View O E). z.others) (sym one);
        })
        (λ ne. record { view = k.head; at_it = set_else s.views id k.chair w ne ∙ k.at_chair; chair = k.is_chair.0; lives = k.is_chair.1; made = refl; others = refl })

    -- no other seat has this one's number
    not_mine : (j : ℕ) (u : View O E) → j ≢ id → get_elem? s.views j ≡ some u → u.live ≡ true → (n : ℕ) → Contains u.numbers n → n ≢ v.number
    not_mine j u ne e l n has is = ne (k.apart j id u v e at l live n has (subst (λ (m : ℕ). Contains v.numbers m) (sym is) ((k.fits id v at).its_own live)))

    pub changes : (log : List E) → Grown author v.number k.log log → IsPrefix w.seen log → HasNoMore author v.numbers w.seen log
        → (ws : List ℕ) (hs : List (maybe.Option (Option T))) → IsFree opening history author (At ws hs (set s.views id w)) log k.opens ⊎ IsHeld opening history author (At ws hs (set s.views id w)) log
        → IsDesk opening history author (At ws hs (set s.views id w))
    changes log grown sees mine ws hs stands = let f = k.fits id v at in record {
      chair = k.chair;
      head = head.view;
      log = log;
      opens = k.opens;
      at_chair = head.at_it;
      is_chair = (head.chair, head.lives);
      one_chair = λ j u e is. let b = before j u e in k.one_chair j b.view b.at_it (sym b.chair ∙ is);
      fits = λ j u e. ⊎_elim
          (λ p. subst (λ (z : View O E). Fits opening history author log k.opens head.view.made z) p.1 (record {
            begins = sees;
            own = λ _ n has. mine n (subst (λ (ns : List ℕ). Contains ns n) same.numbers has);
            below = λ _ n has. (let q = f.below live n (subst (λ (ns : List ℕ). Contains ns n) same.numbers has) in let m = head.made in omega arith);
            its_own = λ _. subst (λ (ns : List ℕ). Contains ns w.number) (sym same.numbers) (subst (λ (m : ℕ). Contains v.numbers m) (sym same.number) (f.its_own live));
            opens_is = λ _. same.opening ∙ f.opens_is live;
            spent = λ l. clash (sym live ∙ (sym same.live ∙ l));
            tells = λ l. clash (sym l ∙ same.joining);
          }))
          (λ p. let g = k.fits j u p.1 in record {
            begins = begins_trans u.seen k.log log g.begins grown.begins;
            own = λ l n has. grown.still n (not_mine j u p.0 p.1 l n has) ∙ g.own l n has;
            below = λ l n has. (let q = g.below l n has in let m = head.made in omega arith);
            its_own = g.its_own;
            opens_is = g.opens_is;
            spent = g.spent;
            tells = g.tells;
          })
          (cases j u e);
      apart = λ i j u z e e' l l' n has has'. let b = before i u e in let b' = before j z e' in k.apart i j b.view b'.view b.at_it b'.at_it (sym b.lives ∙ l) (sym b'.lives ∙ l') n
          (subst (λ (ns : List ℕ). Contains ns n) b.numbers has) (subst (λ (ns : List ℕ). Contains ns n) b'.numbers has');
      covered = λ n lt. let c = k.covered n (let m = head.made in omega arith) in dite (ℕ_discrete c.0 id)
          (λ e. (id, w, here, same.live ∙ live, subst (λ (ns : List ℕ). Contains ns n) (ap (λ (z : View O E). z.numbers) (one_view s.views c.0 id c.1 v c.2 at e) ∙ sym same.numbers) c.4))
          (λ ne. (c.0, c.1, set_else s.views id c.0 w ne ∙ c.2, c.3, c.4));
      not_made = λ n le. let m = head.made in let q = f.below live v.number (f.its_own live) in grown.still n (λ e. absurd (omega arith)) ∙ k.not_made n (omega arith);
      counted = (let a = living_set s.views id v w at in let b : one_if w.live ≡ one_if v.live = ap one_if same.live in let c = k.counted in let d = head.others in omega arith);
      stands = stands;
    }
