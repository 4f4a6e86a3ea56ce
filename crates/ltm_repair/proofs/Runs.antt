-- What every run of events keeps.
use Rattle.std.proofs.Common.{◌≡◌, ℕ, arith, inl, inr, subst, sym, refl, ◌∙◌, Bool, true, false, ◌||◌, List, [], ◌∷◌}
use Rattle.std.specs.Prelude.{◌⊎◌, ◌≢◌, Option, None, is_some}
use Rattle.ltm_loading.specs.LoadingTotals.{AreLoadingTotals}
use Rattle.ltm_repair.specs.Desk.{Desk}
use Rattle.ltm_repair.specs.Moves.{DropsSettled}
use Rattle.ltm_repair.specs.State.{RepairState, now}
use Rattle.ltm_repair.specs.Repair.{IsRepair}
use Rattle.ltm_repair.specs.Events.{CoreEvent, Look, Claim, GiveBack, Commit, Accept, Publish, Settle, Stay, SameBooks, Happens}
use Rattle.ltm_repair.specs.Kept.{RunsKeepFacts, RestIsLoading, ShownIsLoading, PublishingShowsAll, NothingIsTakenBack, RunsTakeNothingBack, ClaimsHaveChanged, BatchesWakeTouched, OthersWakeNone}
use Rattle.ltm_repair.proofs.Cases.{cases_pair, cases_option, or_one}
use Rattle.ltm_repair.proofs.Fronts.{rest_loads}
use Rattle.ltm_repair.proofs.Books.{look_repair, claim_repair, give_back_repair, commit_repair, publish_repair, settle_repair}
use Rattle.ltm_repair.proofs.Batches.{accept_repair}

pub event_keeps : (s : RepairState) (x : CoreEvent) (e : RepairState) → IsRepair s → Happens s x e → IsRepair e
event_keeps s Look e is h = look_repair s e is h
event_keeps s (Claim u t) e is h = claim_repair s u t h.0 e is h.1
event_keeps s (GiveBack u t) e is h = give_back_repair s u t e is h
event_keeps s (Commit u t) e is h = commit_repair s u t h.0 h.1 e is h.2
event_keeps s Accept e is h = accept_repair s h.0 e is h.1
event_keeps s Publish e is h = publish_repair s e is h
event_keeps s (Settle n) e is h = settle_repair s n e is h
event_keeps s Stay e is h = rw h is

pub runs_keep_facts : RunsKeepFacts
runs_keep_facts s e [] is run = rw run is
runs_keep_facts s e (x ∷ xs) is run = runs_keep_facts run.0 e xs (event_keeps s x run.0 is run.1) run.2

pub rest_is_loading : RestIsLoading
rest_is_loading s is rest = rest_loads (now s) s.desk is.desk rest

pub shown_is_loading : ShownIsLoading
shown_is_loading s is = record {
  prefix = is.shows.loading;
  up_to_date = λ current.
      let P : ℕ → Type 0 = λ k. AreLoadingTotals (s.settings k) s.shown in (subst P current is.shows.loading, is.up_to_date current);
}

shows_all : (e : RepairState) → IsRepair e → e.shown_at ≡ e.accepted → (e.shown_at ≡ e.accepted) × AreLoadingTotals (now e) e.shown
shows_all e is current = (current, ((shown_is_loading e is).up_to_date current).0)

pub publishing_shows_all : PublishingShowsAll
publishing_shows_all s e is step = elim step [
  | inl published ↦ shows_all e (publish_repair s e is published) (published.shown_at ∙ sym published.accepted)
  | inr told ↦ shows_all e (settle_repair s told.0 e is told.1) (told.1.shown_at ∙ told.1.up_to_date ∙ sym told.1.accepted)
]

-- ---- nothing is taken back
same_books : (s e : RepairState) → SameBooks s e → NothingIsTakenBack s e
same_books s e books = record {
  shown = rw books.shown_at (omega arith);
  accepted = rw books.accepted (omega arith);
  settings = λ k l. rw books.settings refl;
}

after : (s : RepairState) (x : CoreEvent) (e : RepairState) → IsRepair s → Happens s x e → NothingIsTakenBack s e
after s Look e is h = same_books s e h.only.books
after s (Claim u t) e is h = same_books s e h.1.only.books
after s (GiveBack u t) e is h = same_books s e h.only.books
after s (Commit u t) e is h = same_books s e h.2.books
after s Accept e is h = record { shown = rw h.1.shown_at (omega arith); accepted = rw h.1.accepted (omega arith); settings = h.1.settings }
after s Publish e is h = record { shown = rw h.shown_at is.shows.accepted_last; accepted = rw h.accepted (omega arith); settings = λ k l. rw h.settings refl }
after s (Settle n) e is h = record { shown = rw h.shown_at (omega arith); accepted = rw h.accepted (omega arith); settings = λ k l. rw h.settings refl }
after s Stay e is h = rw h (record { shown = omega arith; accepted = omega arith; settings = λ k l. refl })

pub runs_take_nothing_back : RunsTakeNothingBack
runs_take_nothing_back s e [] is run = rw run (record { shown = omega arith; accepted = omega arith; settings = λ k l. refl })
runs_take_nothing_back s e (x ∷ xs) is run =
    let first : NothingIsTakenBack s run.0 = after s x run.0 is run.1 in
    let rest : NothingIsTakenBack run.0 e = runs_take_nothing_back run.0 e xs (event_keeps s x run.0 is run.1) run.2 in
    record {
      shown = omega (arith, first.shown, rest.shown);
      accepted = omega (arith, first.accepted, rest.accepted);
      settings = λ k l. rest.settings k (omega (arith, first.accepted)) ∙ first.settings k l;
    }

-- ---- who is claimed, and who wakes
pub claims_have_changed : ClaimsHaveChanged
claims_have_changed s e u t is h kept =
    let row : List ℕ = h.0 in
    h.1.takes.claim.changed (rw (h.1.drops.work.kept, h.1.takes.claim.now, h.1.drops.work.counts) kept)

some_is : (o : Option (List ℕ)) → is_some o ≡ true → o ≢ None
some_is o h = λ none. (let e : is_some o ≡ false = rw none refl in cc)

is_some_of : (o : Option (List ℕ)) → o ≢ None → is_some o ≡ true
is_some_of o h = elim (cases_option o) [ inl none ↦ absurd (h none) | inr some ↦ rw some.1 refl ]

or_left : (a b : Bool) → a ≡ true → (a || b) ≡ true
or_left a b h = rw h refl

or_right : (a b : Bool) → b ≡ true → (a || b) ≡ true
or_right true b h = refl
or_right false b h = h

pub batches_wake_touched : BatchesWakeTouched
batches_wake_touched s e touched step u t l =
    let a : Bool = s.desk.active u t in
    let c : Bool = is_some (s.desk.claimed u t) in
    let w : Bool = touched u t in
    let at : e.desk.active u t ≡ (s.desk.active u t || is_some (s.desk.claimed u t) || touched u t) = step.desk.old_active u t l in (
      λ active. elim (or_one (a || c) w (sym at ∙ active)) [
        | inl before ↦ elim (or_one a c before) [ inl was ↦ inl was | inr claimed ↦ inr (inl (some_is (s.desk.claimed u t) claimed)) ]
        | inr touch ↦ inr (inr touch)
      ],
      λ cause. at ∙ elim cause [
        | inl was ↦ or_left (a || c) w (or_left a c was)
        | inr other ↦ elim other [
          | inl claimed ↦ or_left (a || c) w (or_right a c (is_some_of (s.desk.claimed u t) claimed))
          | inr touch ↦ or_right (a || c) w touch
        ]
      ],
    )

-- where settled pairs are dropped none wakes
drop_wakes : (d e : Desk) (u t : ℕ) → (e.active u t ≡ d.active u t) ⊎ (e.active u t ≡ false) → e.active u t ≡ true → d.active u t ≡ true
drop_wakes d e u t each active = elim each [ inl same ↦ sym same ∙ active | inr gone ↦ absurd (cc) ]

dropped : (s : RepairState) (d : Desk) → DropsSettled (now s) s.desk d → (u t : ℕ) → d.active u t ≡ true → s.desk.active u t ≡ true
dropped s d step u t active = drop_wakes s.desk d u t (elim (step.each u t) [ inl same ↦ inl same | inr gone ↦ inr gone.0 ]) active

pub others_wake_none : OthersWakeNone
others_wake_none s e Look h none plain u t active = inl (dropped s e.desk h.desk u t active)
others_wake_none s e (Claim w v) h none plain u t active = elim (cases_pair w v u t) [
  | inl at ↦ let off : e.desk.active u t ≡ false = rw (← at.0, ← at.1) h.1.takes.inactive in absurd (cc)
  | inr other ↦ inl (dropped s h.1.dropped h.1.drops u t (sym (h.1.takes.others.active u t other) ∙ active))
]
others_wake_none s e (GiveBack w v) h none plain u t active = elim (cases_pair w v u t) [
  | inl at ↦ inr (rw (← at.0, ← at.1) h.desk.was_claimed)
  | inr other ↦ inl (sym (h.desk.others.active u t other) ∙ active)
]
others_wake_none s e (Commit w v) h none plain u t active = absurd (omega arith)
others_wake_none s e Accept h none plain u t active = absurd (omega arith)
others_wake_none s e Publish h none plain u t active = inl (rw h.desk at active)
others_wake_none s e (Settle n) h none plain u t active = inl (rw h.desk at active)
others_wake_none s e Stay h none plain u t active = inl (rw h at active)
