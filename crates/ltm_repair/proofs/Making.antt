-- How what code does makes an event.
use Rattle.std.proofs.Common.{◌≡◌, ℕ, ◌+◌, ◌<◌, arith, inl, inr, ap, refl, sym, ◌∙◌, ◌*◌, subst, Bool, true, false, List}
use Rattle.std.specs.Prelude.{◌⊎◌, Option, Some, None, length, take, drop, ◌++◌}
use Rattle.std.proofs.lemmas.List.{append_assoc, length-append}
use Rattle.ltm_curve.proofs.Lists.{length-list_below}
use Rattle.std.proofs.Math.Seq.{take-append_seam, drop-append_seam}
use Rattle.std.proofs.lemmas.Bool.{cases_eq}
use Rattle.ltm_node.specs.Solvable.{IsSolvable}
use Rattle.ltm_loading.specs.Setting.{Setting}
use Rattle.ltm_curve.specs.Counts.{Counts}
use Rattle.ltm_curve.specs.First.{list_below}
use Rattle.ltm_loading.specs.Groups.{up_of}
use Rattle.ltm_loading.specs.Flows.{receiving}
use Rattle.ltm_loading.specs.Pairs.{arms_of, arm_group, arm_capacity, arrived_by, grid, sending, shape_at, pair_row, count_row}
use Rattle.ltm_loading.proofs.Rows.{length-grid}
use Rattle.ltm_loading.proofs.Bounds.{in_range_holds}
use Rattle.ltm_loading.proofs.Setters.{same_step}
use Rattle.ltm_loading.proofs.Unlike.{unlike_cases}
use Rattle.ltm_repair.specs.Facts.{IsClaim}
use Rattle.ltm_repair.specs.State.{RepairState}
use Rattle.ltm_repair.specs.Events.{GiveBack, Stay, Settled, Happens}
use Rattle.ltm_repair.specs.Answers.{ClaimAnswer, Got, NotYet, Rest, CommitAnswer, Done, Stale, PublishAnswer, Shown, NotAtRest, IsKept, AnswersClaim, AnswersCommit, AnswersGiveBack, AnswersAccept, AnswersPublish, AnswersSettle}
use Rattle.ltm_repair.specs.Making.{IdleIsFront, ClaimsAreSolvable, AppliedSets, ChangedAreForgotten, claim_event, commit_event, accept_event, publish_event, settle_event, AnswersAreEvents}
use Rattle.ltm_repair.proofs.Fronts.{idle_front}

pub idle_is_front : IdleIsFront
idle_is_front s d slot sound l idle = idle_front s d slot sound l idle

pub claims_are_solvable : ClaimsAreSolvable
claims_are_solvable s d u t row is sound claimed =
    let mine : IsClaim s d u t row = sound.claims u t row claimed in
    let there : t < s.slots = mine.is_slot in
    subst (λ (z : List ℕ). IsSolvable (record { shape = shape_at s u; row = z; room = 0 })) (sym mine.now)
    (in_range_holds s d.counts t u is (idle_front s d t sound (omega arith) mine.front) mine.is_slot mine.is_node)

pub applied_sets : AppliedSets
applied_sets s d e u t row n o is sound claimed shape at step applies keeps = record {
  step = record {
    in_range = claims_are_solvable s d u t row is sound claimed;
    step = same_step n o (shape_at s u) row (count_row s e.counts u (t + 1)) shape at (sym applies.given) step;
  };
  later = applies.later;
  others = applies.others;
  keeps = keeps;
}

-- the counts of a node stand in what it reads, after what its arms send
counts_in_row : (s : Setting) (c : Counts) (u t : ℕ) → (sends : List ℕ) × (rest : List ℕ) × (length sends ≡ arms_of s u * s.destinations) × (pair_row s c u t ≡ sends ++ (count_row s c u t ++ rest))
counts_in_row s c u t =
    let left : List ℕ = grid (arms_of s u) s.destinations (λ i d. c (arm_group s u i) d t) in
    let entered : List ℕ = grid (s.outs u) s.destinations (λ j d. c (up_of (s.out_link u j)) d t) in
    let arrived : List ℕ = list_below 1 (λ k. arrived_by s c (s.own u) t) in
    let rest : List ℕ =
    list_below (s.outs u) (λ j. receiving s c (s.out_link u j) t) ++ (list_below (arms_of s u) (arm_capacity s u t) ++ grid s.destinations (s.outs u) (λ d j. s.weight u d t j)) in
    let sends : List ℕ = grid (arms_of s u) s.destinations (sending s c u t) in
    let inner : (entered ++ arrived) ++ rest ≡ entered ++ (arrived ++ rest) = append_assoc entered arrived rest in
    let outer : (left ++ (entered ++ arrived)) ++ rest ≡ left ++ ((entered ++ arrived) ++ rest) = append_assoc left (entered ++ arrived) rest in
    (sends, rest, length-grid (arms_of s u) s.destinations (sending s c u t), sym (ap (λ z. sends ++ z) (outer ∙ ap (λ z. left ++ z) inner)))

length-counts : (s : Setting) (c : Counts) (u t : ℕ) → length (count_row s c u t) ≡ arms_of s u * s.destinations + (s.outs u * s.destinations + 1)
length-counts s c u t =
    let left : List ℕ = grid (arms_of s u) s.destinations (λ i d. c (arm_group s u i) d t) in
    let entered : List ℕ = grid (s.outs u) s.destinations (λ j d. c (up_of (s.out_link u j)) d t) in
    let arrived : List ℕ = list_below 1 (λ k. arrived_by s c (s.own u) t) in
    omega (
      length-append left (entered ++ arrived),
      length-append entered arrived,
      length-grid (arms_of s u) s.destinations (λ i d. c (arm_group s u i) d t),
      length-grid (s.outs u) s.destinations (λ j d. c (up_of (s.out_link u j)) d t),
      length-list_below 1 (λ k. arrived_by s c (s.own u) t),
      arith,
    )

pub changed_are_forgotten : ChangedAreForgotten
changed_are_forgotten s d e u t sends rest long was other gone = record {
  gone = gone;
  outdated = λ c same kept.
      let parts = counts_in_row s c u t in
      let read : List ℕ = parts.0 in
      let more : List ℕ = parts.1 in
      let wide : length read ≡ arms_of s u * s.destinations = parts.2 in
      let split : pair_row s c u t ≡ read ++ (count_row s c u t ++ more) = parts.3 in
      let rows : sends ++ (count_row s d.counts u t ++ rest) ≡ read ++ (count_row s c u t ++ more) = (let one : Some (sends ++ (count_row s d.counts u t ++ rest)) ≡ Some (pair_row s c u t) = sym was ∙ kept in let two : sends ++ (count_row s d.counts u t ++ rest) ≡ pair_row s c u t = cc in two ∙ split) in
      let tails : count_row s d.counts u t ++ rest ≡ count_row s c u t ++ more =
      sym (drop-append_seam sends (count_row s d.counts u t ++ rest)) ∙ ap (λ z. drop (length sends) z) rows
      ∙ ap (λ n. drop n (read ++ (count_row s c u t ++ more))) (long ∙ sym wide) ∙ drop-append_seam read (count_row s c u t ++ more) in
      let counts : count_row s d.counts u t ≡ count_row s c u t =
      sym (take-append_seam (count_row s d.counts u t) rest) ∙ ap (λ z. take (length (count_row s d.counts u t)) z) tails
      ∙ ap (λ n. take n (count_row s c u t ++ more)) (length-counts s d.counts u t ∙ sym (length-counts s c u t)) ∙ take-append_seam (count_row s c u t) more in
      other (sym (counts ∙ same));
}

-- ---- answers are events
claim_happens : (s e : RepairState) (answer : ClaimAnswer) → AnswersClaim s answer e → Happens s (claim_event answer) e
claim_happens s e (Got u t ticket row) h = (row, record { dropped = h.desk.0; drops = h.desk.1.drops; takes = h.desk.2; only = h.only })
claim_happens s e NotYet h = record { desk = h.desk.drops; only = h.only }
claim_happens s e Rest h = record { desk = h.desk.0.drops; only = h.only }

commit_happens : (s e : RepairState) (u t ticket : ℕ) (row : List ℕ) (wakes : ℕ → ℕ → Bool) (answer : CommitAnswer) →
    AnswersCommit s u t ticket row wakes answer e → Happens s (commit_event u t answer) e
commit_happens s e u t ticket row wakes Done h = (row, wakes, h.done refl)
commit_happens s e u t ticket row wakes (Stale claimed_at accepted) h = (h.stale (λ done. cc)).1

-- whether a claim is kept is decided
kept_or_not : (s : RepairState) (u t ticket : ℕ) (row : List ℕ) → IsKept s u t ticket row ⊎ (IsKept s u t ticket row → ⊥)
kept_or_not s u t ticket row =
    elim (cases_eq ticket s.accepted) [
      | inr other ↦ inr (λ kept. other kept.0)
      | inl at ↦ elim (unlike_cases (s.desk.claimed u t) (Some row)) [
        | inl same ↦ inl (at, same.0)
        | inr unlike ↦ inr (λ kept. unlike.0 kept.1)
      ]
    ]

give_back_happens : (s e : RepairState) (u t ticket : ℕ) (row : List ℕ) → AnswersGiveBack s u t ticket row e → Happens s (GiveBack u t) e ⊎ Happens s Stay e
give_back_happens s e u t ticket row h = elim (kept_or_not s u t ticket row) [ inl kept ↦ inl (h.kept kept) | inr gone ↦ inr (h.stale gone) ]

accept_happens : (s e : RepairState) (next : Setting) (touched : ℕ → ℕ → Bool) (is_taken : Bool) → AnswersAccept s next touched is_taken e → Happens s (accept_event is_taken) e
accept_happens s e next touched true h = (touched, (h.taken refl).0)
accept_happens s e next touched false h = h.refused refl

publish_happens : (s e : RepairState) (answer : PublishAnswer) → AnswersPublish s answer e → Happens s (publish_event answer) e
publish_happens s e (Shown version) h =
    elim (cases_eq version s.accepted) [
      | inl same ↦ h.shown (ap (λ z. Shown z) same)
      | inr other ↦ absurd (let none : Shown version ≡ NotAtRest = (h.not_at_rest (λ same. other (cc))).0 in cc)
    ]
publish_happens s e NotAtRest h = (h.not_at_rest (λ shown. cc)).1

settle_happens : (s e : RepairState) (answer : Option ℕ) → AnswersSettle s answer e → Happens s (settle_event answer) e
settle_happens s e (Some n) h =
    elim (cases_eq n s.commits) [
      | inl same ↦ subst (λ z. Settled s z e) (sym same) (h.told (ap (λ z. Some z) same))
      | inr other ↦ absurd (let none : Some n ≡ None = (h.none (λ same. other (cc))).0 in cc)
    ]
settle_happens s e None h = (h.none (λ told. cc)).1

pub answers_are_events : AnswersAreEvents
answers_are_events = record {
  claim = claim_happens;
  commit = commit_happens;
  give_back = give_back_happens;
  accept = accept_happens;
  publish = publish_happens;
  settle = settle_happens;
}
