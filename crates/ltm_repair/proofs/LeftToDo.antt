-- How many pairs have other inputs than a loading, after each event.
use Rattle.std.proofs.Common.{◌≡◌, ℕ, ◌+◌, ◌<◌, ◌≤◌, arith, ap, inl, inr, subst, sym, refl, ◌∙◌, Bool, List}
use Rattle.std.specs.Prelude.{Option, Some, None}
use Rattle.ltm_curve.specs.Counts.{Counts}
use Rattle.ltm_loading.specs.Setting.{Setting, IsSetting}
use Rattle.ltm_node.specs.Step.{IsNodeStep}
use Rattle.ltm_node.proofs.StepLaws.{one_step_holds}
use Rattle.ltm_loading.specs.Pairs.{pair_row, count_row, pair_outputs}
use Rattle.ltm_loading.specs.Loading.{IsLoading}
use Rattle.ltm_loading.specs.Differing.{sum_pairs, unlike, row_of, differing}
use Rattle.ltm_loading.proofs.PairSums.{sum_pairs-le, sum_pairs-none, sum_pairs-change, sum_pairs-grows}
use Rattle.ltm_loading.proofs.Unlike.{unlike_same, unlike_other, unlike_sym, unlike_le, unlike_triangle, row_of_old, row_of_new}
use Rattle.ltm_repair.specs.Desk.{Desk, IsOther, IsAtRest}
use Rattle.ltm_repair.specs.Facts.{IsSound, IsClaim, inputs_from}
use Rattle.ltm_repair.specs.Moves.{Commits, Accepts}
use Rattle.ltm_repair.specs.Counting.{left_to_do, astray, strayed}
use Rattle.ltm_repair.proofs.ButOne.{sum_pairs-but_one}
use Rattle.ltm_repair.proofs.Cases.{cases_pair, cases_option}
use Rattle.ltm_repair.proofs.KeepsCommit.{kept_before}
use Rattle.ltm_repair.proofs.Fronts.{front_final}

-- at rest the kept inputs are those of the loading
pub rest_final : (s : Setting) (d : Desk) (c : Counts) → IsSetting s → IsSound s d → IsAtRest s d → IsLoading s c → (u t : ℕ) → u < s.nodes → t < s.slots → d.kept u t ≡ Some (pair_row s c u t)
rest_final s d c is sound rest loading u t x l =
    sound.active.idle_is_settled u t x l (rest u t x l) ∙ ap (λ z. Some z) (front_final s d c t u is sound loading l (λ w v there low. rest w v there (omega arith)) x)

pub rest_done : (s : Setting) (d : Desk) (c : Counts) → IsSetting s → IsSound s d → IsAtRest s d → IsLoading s c → left_to_do s c d ≡ 0
unfolding left_to_do
rest_done s d c is sound rest loading =
    sum_pairs-none s.nodes s.slots (λ u t. unlike (d.kept u t) (Some (pair_row s c u t)))
    (λ u t x l. unlike_same (d.kept u t) (Some (pair_row s c u t)) (rest_final s d c is sound rest loading u t x l))

-- what a commit keeps is what the pair reads in the loading, and was not kept before
pub record CommitsFinal (s : Setting) (d : Desk) (u t : ℕ) (e : Desk) (c : Counts) : Type 0 where
  pub after : unlike (e.kept u t) (Some (pair_row s c u t)) ≡ 0
  pub before : unlike (d.kept u t) (Some (pair_row s c u t)) ≡ 1

pub commit_final : (s : Setting) (d : Desk) (u t : ℕ) (row : List ℕ) (wakes : ℕ → ℕ → Bool) (e : Desk) (c : Counts) → IsSetting s → IsSound s d →
    Commits s d u t row wakes e → IsLoading s c → CommitsFinal s d u t e c
commit_final s d u t row wakes e c is sound step loading =
    let mine : IsClaim s d u t row = sound.claims u t row step.was_claimed in
    let final : row ≡ pair_row s c u t = mine.now ∙ front_final s d c t u is sound loading mine.is_slot mine.front mine.is_node in
    record {
      after = unlike_same (e.kept u t) (Some (pair_row s c u t)) (step.sets.keeps.this ∙ ap (λ z. Some z) final);
      before = unlike_other (d.kept u t) (Some (pair_row s c u t)) (λ h. mine.changed (h ∙ ap (λ z. Some z) (sym final)));
    }

-- the counts that a commit sets are those of the loading
pub commit_counted : (s : Setting) (d : Desk) (u t : ℕ) (row : List ℕ) (wakes : ℕ → ℕ → Bool) (e : Desk) (c : Counts) → IsSetting s → IsSound s d →
    Commits s d u t row wakes e → IsLoading s c → count_row s c u (t + 1) ≡ count_row s e.counts u (t + 1)
commit_counted s d u t row wakes e c is sound step loading =
    let mine : IsClaim s d u t row = sound.claims u t row step.was_claimed in
    let final : row ≡ pair_row s c u t = mine.now ∙ front_final s d c t u is sound loading mine.is_slot mine.front mine.is_node in
    let first : IsNodeStep (inputs_from s u row) (pair_outputs s c u (t + 1)) =
    subst (λ (z : List ℕ). IsNodeStep (inputs_from s u z) (pair_outputs s c u (t + 1))) (sym final) (loading.front.steps u t mine.is_node mine.is_slot) in
    one_step_holds (inputs_from s u row) step.sets.step.in_range (pair_outputs s c u (t + 1)) (pair_outputs s e.counts u (t + 1)) first step.sets.step.step

-- of each other pair, whether its kept inputs are those of the loading stays: what is forgotten was none of these
pub commit_others : (s : Setting) (d : Desk) (u t : ℕ) (row : List ℕ) (wakes : ℕ → ℕ → Bool) (e : Desk) (c : Counts) → IsSetting s → IsSound s d →
    Commits s d u t row wakes e → IsLoading s c → (w v : ℕ) → IsOther u t w v → unlike (e.kept w v) (Some (pair_row s c w v)) ≡ unlike (d.kept w v) (Some (pair_row s c w v))
commit_others s d u t row wakes e c is sound step loading w v other =
    elim (cases_pair u (t + 1) w v) [
      | inr apart ↦ ap (λ z. unlike z (Some (pair_row s c w v))) (step.sets.keeps.others w v other apart)
      | inl at ↦ elim step.sets.keeps.next [
        | inl same ↦ (let stays : e.kept w v ≡ d.kept w v = rw (← at.0, ← at.1) same in ap (λ z. unlike z (Some (pair_row s c w v))) stays)
        | inr lost ↦
            let counted : count_row s c u (t + 1) ≡ count_row s e.counts u (t + 1) = commit_counted s d u t row wakes e c is sound step loading in
            let before : unlike (d.kept u (t + 1)) (Some (pair_row s c u (t + 1))) ≡ 1 =
            unlike_other (d.kept u (t + 1)) (Some (pair_row s c u (t + 1))) (lost.outdated c counted) in
            let after : unlike (e.kept u (t + 1)) (Some (pair_row s c u (t + 1))) ≡ 1 =
            unlike_other (e.kept u (t + 1)) (Some (pair_row s c u (t + 1))) (λ h. let gone : e.kept u (t + 1) ≡ None = lost.gone in cc) in
            rw (← at.0, ← at.1) (after ∙ sym before)
      ]
    ]

-- a commit leaves one pair less to do
pub commit_done : (s : Setting) (d : Desk) (u t : ℕ) (row : List ℕ) (wakes : ℕ → ℕ → Bool) (e : Desk) (c : Counts) → IsSetting s → IsSound s d →
    Commits s d u t row wakes e → IsLoading s c → left_to_do s c e + 1 ≡ left_to_do s c d
unfolding left_to_do
commit_done s d u t row wakes e c is sound step loading =
    let mine : IsClaim s d u t row = sound.claims u t row step.was_claimed in
    let final : CommitsFinal s d u t e c = commit_final s d u t row wakes e c is sound step loading in
    let F : ℕ → ℕ → ℕ = λ w v. unlike (e.kept w v) (Some (pair_row s c w v)) in
    let G : ℕ → ℕ → ℕ = λ w v. unlike (d.kept w v) (Some (pair_row s c w v)) in
    let change : sum_pairs s.nodes s.slots F + G u t ≡ sum_pairs s.nodes s.slots G + F u t =
    sum_pairs-change s.nodes s.slots F G u t mine.is_node mine.is_slot (λ w v there low other. commit_others s d u t row wakes e c is sound step loading w v other) in
    omega (change, final.after, final.before, arith)

astray_le : (kept row : Option (List ℕ)) → astray kept row ≤ 1
astray_le None row = omega arith
astray_le (Some x) row = unlike_le (Some x) row

-- a commit makes at most one pair stray: what is forgotten strays no more
pub commit_strays : (s : Setting) (d : Desk) (u t : ℕ) (row : List ℕ) (wakes : ℕ → ℕ → Bool) (e : Desk) (q : Setting) (c : Counts) → IsSound s d → q.nodes ≡ s.nodes →
    Commits s d u t row wakes e → strayed s.slots q c e ≤ strayed s.slots q c d + 1
unfolding strayed
commit_strays s d u t row wakes e q c sound same step =
    let mine : IsClaim s d u t row = sound.claims u t row step.was_claimed in
    let F : ℕ → ℕ → ℕ = λ w v. astray (e.kept w v) (row_of q c w v) in
    let G : ℕ → ℕ → ℕ = λ w v. astray (d.kept w v) (row_of q c w v) in
    let one : F u t ≤ 1 = astray_le (e.kept u t) (row_of q c u t) in
    let node : u < q.nodes = rw same mine.is_node in
    sum_pairs-but_one q.nodes s.slots F G u t node mine.is_slot
    (λ w v there low other. elim (cases_option (e.kept w v)) [
      | inl none ↦ let zero : F w v ≡ 0 = rw none refl in omega (zero, arith)
      | inr some ↦
          let was : d.kept w v ≡ Some some.0 = kept_before s d u t row e step.sets.keeps w v other some.0 some.1 in
          let equal : F w v ≡ G w v = ap (λ z. astray z (row_of q c w v)) (some.1 ∙ sym was) in omega (equal, arith)
    ])
    (omega (one, arith))

-- a batch leaves at most as many pairs more to do as the two loadings differ by
pub accept_left : (r s : Setting) (d : Desk) (touched : ℕ → ℕ → Bool) (e : Desk) (a b : Counts) → r.nodes ≡ s.nodes → Accepts r s d touched e →
    left_to_do s b e ≤ left_to_do r a d + differing r s a b
unfolding left_to_do differing
accept_left r s d touched e a b same step =
    let E : ℕ → ℕ → ℕ = λ u t. unlike (e.kept u t) (Some (pair_row s b u t)) in
    let D : ℕ → ℕ → ℕ = λ u t. unlike (d.kept u t) (Some (pair_row r a u t)) in
    let B : ℕ → ℕ → ℕ = λ u t. unlike (row_of r a u t) (Some (pair_row s b u t)) in
    let over : sum_pairs r.nodes r.slots D ≡ sum_pairs s.nodes r.slots D = ap (λ n. sum_pairs n r.slots D) same in
    let grown : sum_pairs s.nodes s.slots E ≤ sum_pairs s.nodes r.slots D + sum_pairs s.nodes s.slots B =
    sum_pairs-grows s.nodes r.slots s.slots E D B step.grows.slots
    (λ u t x old. rw (step.grows.old_kept u t old, row_of_old r a u t old) (unlike_triangle (d.kept u t) (Some (pair_row r a u t)) (Some (pair_row s b u t))))
    (λ u t x new l. rw (step.grows.new_kept u t new l, row_of_new r a u t new) (omega arith)) in
    omega (grown, over, arith)

pub accept_strays : (r s : Setting) (d : Desk) (touched : ℕ → ℕ → Bool) (e : Desk) (q : Setting) (c : Counts) → q.slots ≤ r.slots → Accepts r s d touched e → strayed s.slots q c e ≤ strayed r.slots q c d
unfolding strayed
accept_strays r s d touched e q c older step =
    let none : sum_pairs q.nodes s.slots (λ u t. 0) ≡ 0 = sum_pairs-none q.nodes s.slots (λ u t. 0) (λ u t x l. refl) in
    let F : ℕ → ℕ → ℕ = λ u t. astray (e.kept u t) (row_of q c u t) in
    let G : ℕ → ℕ → ℕ = λ u t. astray (d.kept u t) (row_of q c u t) in
    let grown : sum_pairs q.nodes s.slots F ≤ sum_pairs q.nodes r.slots G + sum_pairs q.nodes s.slots (λ u t. 0) =
    sum_pairs-grows q.nodes r.slots s.slots F G (λ u t. 0) step.grows.slots
    (λ u t x old. rw (step.grows.old_kept u t old) (omega arith))
    (λ u t x new l. let same : F u t ≡ 0 = rw (step.grows.new_kept u t new l) refl in omega arith) in
    omega arith

-- at rest what has strayed from an earlier loading is what differs between the two loadings
pub rest_strays : (s : Setting) (d : Desk) (b : Counts) (q : Setting) (c : Counts) → IsSetting s → q.nodes ≡ s.nodes → IsSound s d → IsAtRest s d → IsLoading s b →
    differing q s c b ≤ strayed s.slots q c d
unfolding differing strayed
rest_strays s d b q c is same sound rest loading =
    let F : ℕ → ℕ → ℕ = λ u t. unlike (row_of q c u t) (Some (pair_row s b u t)) in
    let G : ℕ → ℕ → ℕ = λ u t. astray (d.kept u t) (row_of q c u t) in
    let over : sum_pairs q.nodes s.slots G ≡ sum_pairs s.nodes s.slots G = ap (λ n. sum_pairs n s.slots G) same in
    let less : sum_pairs s.nodes s.slots F ≤ sum_pairs s.nodes s.slots G =
    sum_pairs-le s.nodes s.slots F G
    (λ u t x l. rw (rest_final s d b is sound rest loading u t x l)
    (let e : unlike (row_of q c u t) (Some (pair_row s b u t)) ≡ unlike (Some (pair_row s b u t)) (row_of q c u t) = unlike_sym (row_of q c u t) (Some (pair_row s b u t)) in omega arith)) in
    omega (less, over, arith)

-- at rest nothing has strayed from the loading
pub rest_home : (s : Setting) (d : Desk) (c : Counts) → IsSetting s → IsSound s d → IsAtRest s d → IsLoading s c → strayed s.slots s c d ≡ 0
unfolding strayed
rest_home s d c is sound rest loading =
    sum_pairs-none s.nodes s.slots (λ u t. astray (d.kept u t) (row_of s c u t))
    (λ u t x l. rw (rest_final s d c is sound rest loading u t x l, row_of_old s c u t l) (unlike_same (Some (pair_row s c u t)) (Some (pair_row s c u t)) refl))
