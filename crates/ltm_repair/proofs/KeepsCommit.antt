-- What holds of a desk is kept by a commit.
use Rattle.std.proofs.Common.{◌≡◌, ℕ, ◌+◌, ◌<◌, ◌≤◌, arith, inl, inr, ap, subst, sym, ◌∙◌, Bool, false, ◌||◌, refl, ◌⊎◌}
use Rattle.std.specs.Prelude.{Some, None, List}
use Rattle.std.proofs.lemmas.Bool.{cases_lt, cases_eq, cases_Bool}
use Rattle.ltm_curve.specs.Counts.{Counts}
use Rattle.ltm_loading.specs.Setting.{Setting, IsSetting}
use Rattle.ltm_loading.specs.Groups.{up_of, down_of, dep_of, arr_of}
use Rattle.ltm_loading.specs.Pairs.{pair_row, arms_of, arm_group}
use Rattle.ltm_loading.specs.NextPair.{IsOf}
use Rattle.ltm_loading.proofs.Same.{pair_row_same}
use Rattle.ltm_loading.proofs.Picks.{pick_first, pick_second}
use Rattle.ltm_loading.proofs.Setters.{of_group}
use Rattle.ltm_loading.proofs.OneSetter.{set_by_one_pair_holds}
use Rattle.ltm_repair.specs.Desk.{Desk, IsIdle, IsOther}
use Rattle.ltm_repair.specs.Facts.{CountsAreSteps, IsUnset, IsStepOf, IsClaim, IsSound}
use Rattle.ltm_repair.specs.Moves.{KeepsRow, Sets, Commits}
use Rattle.ltm_repair.proofs.Cases.{cases_pair, or_none, or_one, cases_option}
use Rattle.ltm_repair.proofs.Networks.{step_counts}

-- the counts of another pair stay
others_stay : (s : Setting) (d : Desk) (u t : ℕ) (row : List ℕ) (e : Desk) → IsSetting s → u < s.nodes → Sets s d u t row e → (w v : ℕ) → w < s.nodes → v < s.slots → IsOther u t w v →
    (g k : ℕ) → IsOf s w g k → k < s.destinations → d.counts g k (v + 1) ≡ e.counts g k (v + 1)
others_stay s d u t row e is x step w v y l other g k of m =
    elim (cases_eq t v) [
      | inl at ↦ elim (cases_eq u w) [
        | inl same ↦ absurd (other same at)
        | inr apart ↦
            let P : ℕ → Type 0 = λ z. d.counts g k (z + 1) ≡ e.counts g k (z + 1) in
            subst P at (sym (step.others g k (of_group s w g k is y of) m (λ mine. apart (set_by_one_pair_holds.one s u w g k is x y mine of))))
      ]
      | inr apart ↦ sym (step.later g k (v + 1) (of_group s w g k is y of) m (omega arith) (λ same. apart (omega arith)))
    ]

-- a commit changes no inputs of its slot
pub slot_stays : (s : Setting) (d : Desk) (u t : ℕ) (row : List ℕ) (e : Desk) → IsSetting s → t < s.slots → Sets s d u t row e → (w : ℕ) → w < s.nodes →
    pair_row s e.counts w t ≡ pair_row s d.counts w t
slot_stays s d u t row e is l step w y =
    pair_row_same s e.counts d.counts w t is (record { same = λ g k b x m low. step.later g k b x m (omega arith) (λ at. omega arith) }) y

-- nobody sets the origin of a node without out-links
no_setter : (s : Setting) (u w d : ℕ) → IsSetting s → u < s.nodes → w < s.nodes → s.outs w ≡ 0 → IsOf s u (dep_of s w) d → ⊥
no_setter s u w d is x y none of =
    elim of [
      | inl arm ↦ elim (cases_lt arm.0 (s.ins u)) [
        | inl link ↦
            let e : arm_group s u arm.0 ≡ down_of (s.in_link u arm.0) = pick_first arm.0 (s.ins u) (down_of (s.in_link u arm.0)) (dep_of s u) link in
            let at : arm_group s u arm.0 ≡ dep_of s w = arm.2 in omega (arith, is.network.in_link_is_link u arm.0 x link)
        | inr origin ↦
            let e : arm_group s u arm.0 ≡ dep_of s u = pick_second arm.0 (s.ins u) (down_of (s.in_link u arm.0)) (dep_of s u) origin in
            let at : arm_group s u arm.0 ≡ dep_of s w = arm.2 in
            let same : u ≡ w = omega arith in
            let outs : s.outs u ≡ 0 = ap s.outs same ∙ none in
            let within : arm.0 < arms_of s u = arm.1 in omega arith
      ]
      | inr other ↦ elim other [
        | inl out ↦ let at : up_of (s.out_link u out.0) ≡ dep_of s w = out.2 in omega (arith, is.network.out_link_is_link u out.0 x out.1)
        | inr come ↦ let at : arr_of s ≡ dep_of s w = come.0 in omega arith
      ]
    ]

-- what is kept of another pair after a commit was kept before
pub kept_before : (s : Setting) (d : Desk) (u t : ℕ) (row : List ℕ) (e : Desk) → KeepsRow s d u t row e → (w v : ℕ) → IsOther u t w v → (that : List ℕ) → e.kept w v ≡ Some that → d.kept w v ≡ Some that
kept_before s d u t row e keeps w v other that kept =
    elim (cases_pair u (t + 1) w v) [
      | inr apart ↦ sym (keeps.others w v other apart) ∙ kept
      | inl at ↦ elim keeps.next [
        | inl same ↦ (let stays : e.kept w v ≡ d.kept w v = rw (← at.0, ← at.1) same in sym stays ∙ kept)
        | inr lost ↦ (let gone : e.kept w v ≡ None = rw (← at.0, ← at.1) lost.gone in absurd (cc))
      ]
    ]

-- the counts that a pair without kept inputs sets are a step or 0 where they were so before
unset_steps : (s : Setting) (d : Desk) (c : Counts) (w v : ℕ) → IsSetting s → w < s.nodes → v < s.slots → CountsAreSteps s d →
    ((g b : ℕ) → IsOf s w g b → b < s.destinations → d.counts g b (v + 1) ≡ c g b (v + 1)) → IsUnset s c w v ⊎ ((row : List ℕ) × IsStepOf s c w v row)
unset_steps s d c w v is y l h stays =
    elim (cases_option (d.kept w v)) [
      | inr some ↦ inr (some.0, step_counts s d.counts c w v some.0 is y stays (h.steps w v y l some.0 some.1))
      | inl none ↦ elim (h.unset w v y l none) [
        | inl zero ↦ inl (λ g b of m. sym (stays g b of m) ∙ zero g b of m)
        | inr set ↦ inr (set.0, step_counts s d.counts c w v set.0 is y stays set.1)
      ]
    ]

commit_steps : (s : Setting) (d : Desk) (u t : ℕ) (row : List ℕ) (e : Desk) → IsSetting s → u < s.nodes → CountsAreSteps s d → Sets s d u t row e → CountsAreSteps s e
commit_steps s d u t row e is x h step = record {
  empty = λ g b y m. step.later g b 0 y m (omega arith) (λ at. omega arith) ∙ h.empty g b y m;
  sinks = λ w b k y none m l. elim (cases_eq k (t + 1)) [
    | inl at ↦
        let P : ℕ → Type 0 = λ z. e.counts (dep_of s w) b z ≡ 0 in
        let stays : e.counts (dep_of s w) b (t + 1) ≡ d.counts (dep_of s w) b (t + 1) = step.others (dep_of s w) b (omega arith) m (no_setter s u w b is x y none) in
        subst P (sym at) (stays ∙ h.sinks w b (t + 1) y none m (omega arith))
    | inr apart ↦ step.later (dep_of s w) b k (omega arith) m l apart ∙ h.sinks w b k y none m l
  ];
  steps = λ w v y l that kept. elim (cases_pair u t w v) [
    | inl at ↦
        let h2 : e.kept u t ≡ Some that = rw (at.0, at.1) kept in
        let same : row ≡ that = let h1 : e.kept u t ≡ Some row = step.keeps.this in cc in
        rw (← at.0, ← at.1, ← same) step.step
    | inr other ↦ step_counts s d.counts e.counts w v that is y (others_stay s d u t row e is x step w v y l other) (h.steps w v y l that (kept_before s d u t row e step.keeps w v other that kept))
  ];
  unset = λ w v y l none. elim (cases_pair u t w v) [
    | inl at ↦ let k : e.kept w v ≡ Some row = rw (← at.0, ← at.1) step.keeps.this in absurd (cc)
    | inr other ↦ unset_steps s d e.counts w v is y l h (others_stay s d u t row e is x step w v y l other)
  ];
}

-- no other pair is forgotten that is settled
settled_stays : (s : Setting) (d : Desk) (u t : ℕ) (row : List ℕ) (e : Desk) → KeepsRow s d u t row e → (w v : ℕ) → IsOther u t w v →
    d.kept w v ≡ Some (pair_row s e.counts w v) → e.kept w v ≡ Some (pair_row s e.counts w v)
settled_stays s d u t row e keeps w v other settled =
    elim (cases_pair u (t + 1) w v) [
      | inr apart ↦ keeps.others w v other apart ∙ settled
      | inl at ↦ elim keeps.next [
        | inl same ↦ (let stays : e.kept w v ≡ d.kept w v = rw (← at.0, ← at.1) same in stays ∙ settled)
        | inr lost ↦ (let there : d.kept u (t + 1) ≡ Some (pair_row s e.counts u (t + 1)) = rw (at.0, at.1) settled in absurd (lost.outdated e.counts refl there))
      ]
    ]

pub commit_keeps : (s : Setting) (d : Desk) (u t : ℕ) (row : List ℕ) (wakes : ℕ → ℕ → Bool) (e : Desk) → IsSetting s → IsSound s d → Commits s d u t row wakes e → IsSound s e
commit_keeps s d u t row wakes e is sound step =
    let mine : IsClaim s d u t row = sound.claims u t row step.was_claimed in
    let asleep : (a b : ℕ) → b ≤ t → wakes a b ≡ false = λ a b low. elim (cases_Bool (wakes a b)) [
      | inl woken ↦ let late : t < b = step.readers.later a b woken in absurd (omega arith)
      | inr not ↦ not
    ] in
    record {
      counts = commit_steps s d u t row e is mine.is_node sound.counts step.sets;
      active = record {
        idle_is_settled = λ w v x l idle.
            let both : (d.active w v ≡ false) × (wakes w v ≡ false) = or_none (d.active w v) (wakes w v) (sym (step.active w v) ∙ idle.0) in
            let quiet : pair_row s e.counts w v ≡ pair_row s d.counts w v = step.readers.quiet w v x l both.1 in
            elim (cases_pair u t w v) [
              | inl at ↦
                  let fresh : row ≡ pair_row s d.counts w v = rw (← at.0, ← at.1) mine.now in
                  let keeps : e.kept w v ≡ Some row = rw (← at.0, ← at.1) step.sets.keeps.this in
                  keeps ∙ ap (λ z. Some z) (fresh ∙ sym quiet)
              | inr other ↦
                  let settled : d.kept w v ≡ Some (pair_row s e.counts w v) =
                  sound.active.idle_is_settled w v x l (both.0, sym (step.claimed w v other) ∙ idle.1) ∙ ap (λ z. Some z) (sym quiet) in
                  settled_stays s d u t row e step.sets.keeps w v other settled
            ];
        apart = λ w v active. elim (cases_pair u t w v) [
          | inl at ↦ rw (← at.0, ← at.1) step.free
          | inr other ↦ step.claimed w v other ∙ elim (or_one (d.active w v) (wakes w v) (sym (step.active w v) ∙ active)) [
            | inl old ↦ sound.active.apart w v old
            | inr woken ↦ elim (cases_option (d.claimed w v)) [
              | inl none ↦ none
              | inr some ↦
                  let theirs : IsClaim s d w v some.0 = sound.claims w v some.0 some.1 in
                  let idle : d.claimed u t ≡ None = (theirs.front u t mine.is_node (step.readers.later w v woken)).1 in
                  let was : d.claimed u t ≡ Some row = step.was_claimed in absurd (cc)
            ]
          ]
        ];
      };
      claims = λ w v that h. elim (cases_pair u t w v) [
        | inl at ↦ let n : e.claimed w v ≡ None = rw (← at.0, ← at.1) step.free in absurd (cc)
        | inr other ↦
            let held : d.claimed w v ≡ Some that = sym (step.claimed w v other) ∙ h in
            let theirs : IsClaim s d w v that = sound.claims w v that held in
            let was : d.claimed u t ≡ Some row = step.was_claimed in
            let at : t ≡ v = elim (cases_lt t v) [
              | inl less ↦ let n : d.claimed u t ≡ None = (theirs.front u t mine.is_node less).1 in absurd (cc)
              | inr high ↦ elim (cases_lt v t) [
                | inl more ↦ let n : d.claimed w v ≡ None = (mine.front w v theirs.is_node more).1 in absurd (cc)
                | inr low ↦ omega arith
              ]
            ] in
            let P : ℕ → Type 0 = λ z. pair_row s e.counts w z ≡ pair_row s d.counts w z in
            record {
              is_node = theirs.is_node;
              is_slot = theirs.is_slot;
              now = theirs.now ∙ sym (subst P at (slot_stays s d u t row e is mine.is_slot step.sets w theirs.is_node));
              changed = λ kept. theirs.changed (kept_before s d u t row e step.sets.keeps w v other that kept);
              front = λ a b x low.
                  let before : IsIdle d a b = theirs.front a b x low in
                  let earlier : b < v = low in
                  let sleeps : wakes a b ≡ false = asleep a b (omega arith) in
                  (step.active a b ∙ ap (λ z. z || wakes a b) before.0 ∙ sleeps, step.claimed a b (λ p q. omega arith) ∙ before.1);
            }
      ];
    }
