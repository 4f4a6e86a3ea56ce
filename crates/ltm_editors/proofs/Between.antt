-- The rule says the five facts.
use Rattle.std.proofs.Common.{◌≡◌, ◌≢◌, ℕ, Bool, true, false, List, [], ◌∷◌, sym, ap, ◌∙◌, inl, inr, ⊎_elim, subst, arith, Option, Some, None}
use mathlib.Core.List.{IsPrefix}
use mathlib.Core.Option.{some, none}
use mathlib.Core.Option as maybe
use Rattle.atomic_table.specs.Table.{State}
use Rattle.ltm_editors.specs.declared.view.View.{View}
use Rattle.ltm_editors.specs.Lists.{entries_of}
use Rattle.ltm_editors.specs.Rule.{IsDesk}
use Rattle.ltm_editors.specs.Facts.{OneHolder, OneOpening, OneHistory, BelongsToSeats, SeenBelongs, HomeBelongs, MayBePutBack}
use Rattle.ltm_editors.proofs.Prefixes.{itself, begins_trans, squeezed, none_before, grown_begins, one_begins}
use Rattle.ltm_editors.proofs.Members.{clash, not_false, one_view}

apart : {P : Type 0} → ◌≡◌ {A = List ℕ} (0 ∷ []) (1 ∷ []) → P
apart e = absurd (cc)

abbrev inner : {T : Type 0} → T → Option T → T
inner d None = d
inner d (Some x) = x

abbrev at_home' : {T : Type 0} → T → maybe.Option (Option T) → T
at_home' d none = d
at_home' d (some o) = inner d o

abbrev at_home : {T : Type 0} → T → List (maybe.Option (Option T)) → T
at_home d [] = d
at_home d (h ∷ hs) = at_home' d h

abbrev is_home' : {T : Type 0} → maybe.Option (Option T) → Bool
is_home' none = false
is_home' (some o) = true

abbrev is_home : {T : Type 0} → List (maybe.Option (Option T)) → Bool
is_home [] = false
is_home (h ∷ hs) = is_home' h

module _ {T O E : Type 0} (opening : T → O) (history : T → List E) (author : E → ℕ) (s : State (Option T) (View O E)) (k : IsDesk opening history author s) where
  pub one_holder : OneHolder s
  one_holder = record {
    a_first = (k.chair, k.head, (k.at_chair, k.is_chair.1), k.is_chair.0);
    one_first = λ i j v u at at' is is'. k.one_chair i v at is ∙ sym (k.one_chair j u at' is');
    word = ⊎_elim (λ f. inl f.word) (λ h. inr h.word) k.stands;
    held = λ e. ⊎_elim (λ f. apart (sym f.word ∙ e)) (λ h. (h.place, h.holder, h.at_place, h.holds)) k.stands;
    holds = λ j v at holds. ⊎_elim (λ f. clash (sym holds ∙ f.none_holds j v at)) (λ h. h.word) k.stands;
    one_holder = λ i j v u at at' is is'. ⊎_elim (λ f. clash (sym is ∙ f.none_holds i v at)) (λ h. h.one_holds i v at is ∙ sym (h.one_holds j u at' is')) k.stands;
  }

  same_home : (x y : T) → ◌≡◌ {A = List (maybe.Option (Option T))} (some (Some x) ∷ []) (some (Some y) ∷ []) → x ≡ y
  same_home x y e = ap (λ hs. at_home x hs) e

  not_home : {P : Type 0} (x : T) → ◌≡◌ {A = List (maybe.Option (Option T))} (none ∷ []) (some (Some x) ∷ []) → P
  not_home x e = clash (sym (ap (λ hs. is_home hs) e))

  pub one_opening : OneOpening opening s
  one_opening = record {
    free = λ e. ⊎_elim (λ f. (f.value, f.home)) (λ h. apart (sym e ∙ h.word)) k.stands;
    held = λ e. ⊎_elim (λ f. apart (sym f.word ∙ e)) (λ h. h.home) k.stands;
    one = λ i j v w sits sits'. (k.fits i v sits.0).opens_is sits.1 ∙ sym ((k.fits j w sits'.0).opens_is sits'.1);
    at_home = λ x home j v sits. ⊎_elim
        (λ f. (k.fits j v sits.0).opens_is sits.1 ∙ (f.opens_is ∙ ap (λ (y : T). Some (opening y)) (sym (same_home x f.value (sym home ∙ f.home)))))
        (λ h. not_home x (sym h.home ∙ home)) k.stands;
  }

  -- the history in the slot is the log
  log_at_home : (x : T) → s.homes ≡ some (Some x) ∷ [] → history x ≡ k.log
  log_at_home x home = ⊎_elim (λ f. ap history (same_home x f.value (sym home ∙ f.home)) ∙ f.log_is) (λ h. not_home x (sym h.home ∙ home)) k.stands

  pub one_history : OneHistory history s
  one_history = record {
    one = λ i j v w at at'. one_begins v.seen w.seen k.log (k.fits i v at).begins (k.fits j w at').begins;
    at_home = λ x home j v at. subst (λ (l : List E). IsPrefix v.seen l) (sym (log_at_home x home)) (k.fits j v at).begins;
  }

  -- a beginning of the log belongs to the seats
  belongs : (list : List E) → IsPrefix list k.log → BelongsToSeats author s list
  belongs list begins = record {
    its_own = λ j v sits. (k.fits j v sits.0).its_own sits.1;
    no_more = λ j v sits seen n has. let own = (k.fits j v sits.0).own sits.1 n has in sym (squeezed author n v.seen list k.log seen begins own) ∙ own;
    given_out = λ j v sits is n le. let here = k.one_chair j v sits.0 is in let one = one_view s.views k.chair j k.head v k.at_chair sits.0 (sym here) in
        none_before author n list k.log begins (k.not_made n (let m : k.head.made ≡ v.made = ap (λ (z : View O E). z.made) one in omega arith));
  }

  pub seen_belongs : SeenBelongs author s
  seen_belongs list (j, v, at, is) = belongs list (subst (λ (l : List E). IsPrefix l k.log) is (k.fits j v at).begins)

  pub home_belongs : HomeBelongs history author s
  home_belongs x home = belongs (history x) (subst (λ (l : List E). IsPrefix l k.log) (sym (log_at_home x home)) (itself k.log))

  pub may_be_put_back : MayBePutBack opening history author s
  may_be_put_back i h at holds x opens grows = ⊎_elim (λ f. clash (sym holds ∙ f.none_holds i h at))
      (λ g. let one : g.holder ≡ h = one_view s.views g.place i g.holder h g.at_place at (sym (g.one_holds i h at holds)) in
      let log_is : h.seen ≡ k.log = ap (λ (z : View O E). z.seen) (sym one) ∙ g.log_is in
      let fit = k.fits i h at in
      let live : h.live ≡ true = not_false h.live (λ d. clash (sym holds ∙ fit.spent d)) in
      let now : (n : ℕ) → n ≢ h.number → entries_of author n (history x) ≡ entries_of author n k.log = λ n other. grows.1 n other ∙ ap (λ (l : List E). entries_of author n l) log_is in record {
        opens = λ j v sits. (k.fits j v sits.0).opens_is sits.1 ∙ (sym (fit.opens_is live) ∙ opens);
        begins = λ j v at'. begins_trans v.seen k.log (history x) (k.fits j v at').begins (subst (λ (l : List E). IsPrefix l (history x)) log_is (grown_begins author h.number h.seen (history x) grows));
        no_more = λ j v sits n has other. now n other ∙ (k.fits j v sits.0).own sits.1 n has;
        given_out = λ j v sits is n le. let here = k.one_chair j v sits.0 is in let head = one_view s.views k.chair j k.head v k.at_chair sits.0 (sym here) in
            let m : k.head.made ≡ v.made = ap (λ (z : View O E). z.made) head in let q = fit.below live h.number (fit.its_own live) in
            now n (λ e. absurd (omega arith)) ∙ k.not_made n (omega arith);
      }) k.stands
