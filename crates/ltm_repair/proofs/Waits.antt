-- How many pairs may still be committed before another batch is accepted.
use Rattle.std.proofs.Common.{◌≡◌, ℕ, ◌+◌, ◌*◌, ◌<◌, ◌≤◌, arith, inl, inr, refl, Bool, true, false, ◌||◌, cond, List}
use Rattle.std.specs.Prelude.{Some, None, is_some}
use Rattle.std.proofs.lemmas.Bool.{cases_lt, cases_Bool}
use Rattle.ltm_loading.specs.Setting.{Setting}
use Rattle.ltm_repair.specs.Desk.{Desk, IsIdle, IsAtRest}
use Rattle.ltm_repair.specs.Facts.{IsSound, IsClaim}
use Rattle.ltm_repair.specs.Moves.{DropsSettled, TakesClaim, GivesBack, Commits}
use Rattle.ltm_loading.specs.Differing.{sum_pairs}
use Rattle.ltm_repair.specs.Counting.{busy, waiting, undone, claims_out}
use Rattle.ltm_repair.specs.Work.{ClaimsAreUndone}
use Rattle.ltm_repair.proofs.Cases.{cases_pair, cases_option}
use Rattle.ltm_loading.proofs.PairSums.{sum_pairs-le, sum_pairs-lt, sum_pairs-none, le-sum_pairs, sum_pairs-most}

pub busy_idle : (d : Desk) (u t : ℕ) → IsIdle d u t → busy d u t ≡ 0
busy_idle d u t idle = rw (idle.0, idle.1) refl

busy_claimed : (d : Desk) (u t : ℕ) (row : List ℕ) → d.claimed u t ≡ Some row → busy d u t ≡ 1
busy_claimed d u t row h = elim (cases_Bool (d.active u t)) [ inl a ↦ rw a refl | inr a ↦ rw (a, h) refl ]

busy_active : (d : Desk) (u t : ℕ) → d.active u t ≡ true → busy d u t ≡ 1
busy_active d u t h = rw h refl

busy_part : (b : Bool) → cond b 1 0 ≤ 1
busy_part true = omega arith
busy_part false = omega arith

busy_le : (d : Desk) (u t : ℕ) → busy d u t ≤ 1
busy_le d u t = busy_part (d.active u t || is_some (d.claimed u t))

pub waiting_le : (nodes : ℕ) (d : Desk) (u t : ℕ) → waiting nodes d u t ≤ 1
waiting_le nodes d u t = omega arith

-- where no pair up to a slot is busier, none waits more
waits_less : (nodes : ℕ) (d e : Desk) (u t : ℕ) → ((w v : ℕ) → w < nodes → v < t → busy e w v ≤ busy d w v) → busy e u t ≤ busy d u t → waiting nodes e u t ≤ waiting nodes d u t
waits_less nodes d e u t before here =
    let less : sum_pairs nodes t (busy e) ≤ sum_pairs nodes t (busy d) = sum_pairs-le nodes t (busy e) (busy d) before in omega arith

pub calm_waits : (nodes : ℕ) (d e : Desk) → ((w v : ℕ) → busy e w v ≤ busy d w v) → (u t : ℕ) → waiting nodes e u t ≤ waiting nodes d u t
calm_waits nodes d e calm u t = waits_less nodes d e u t (λ w v x l. calm w v) (calm u t)

-- after a commit no pair waits more, and the committed pair waits no longer
pub record CommitWaits (nodes : ℕ) (d e : Desk) (u t : ℕ) : Type 0 where
  pub less : (w v : ℕ) → waiting nodes e w v ≤ waiting nodes d w v
  pub after : waiting nodes e u t ≡ 0
  pub before : waiting nodes d u t ≡ 1

pub commit_waits : (s : Setting) (d : Desk) (u t : ℕ) (row : List ℕ) (wakes : ℕ → ℕ → Bool) (e : Desk) → IsSound s d → Commits s d u t row wakes e → CommitWaits s.nodes d e u t
commit_waits s d u t row wakes e sound step =
    let mine : IsClaim s d u t row = sound.claims u t row step.was_claimed in
    let asleep : (w v : ℕ) → v ≤ t → wakes w v ≡ false = λ w v low. elim (cases_Bool (wakes w v)) [
      | inl woken ↦ let late : t < v = step.readers.later w v woken in absurd (omega arith)
      | inr not ↦ not
    ] in
    let calm : (w v : ℕ) → v ≤ t → busy e w v ≤ busy d w v = λ w v low.
    elim (cases_pair u t w v) [
      | inl at ↦ let one : busy d w v ≡ 1 = rw (← at.0, ← at.1) (busy_claimed d u t row step.was_claimed) in let l : busy e w v ≤ 1 = busy_le e w v in omega arith
      | inr other ↦ rw (step.active w v, step.claimed w v other, asleep w v low) (elim (cases_Bool (d.active w v)) [ inl a ↦ rw a (omega arith) | inr a ↦ rw a (omega arith) ])
    ] in
    let quiet : d.active u t ≡ false = elim (cases_Bool (d.active u t)) [
      | inl a ↦ let n : d.claimed u t ≡ None = sound.active.apart u t a in let h : d.claimed u t ≡ Some row = step.was_claimed in absurd (cc)
      | inr a ↦ a
    ] in
    let idle : busy e u t ≡ 0 = rw (step.active u t, quiet, asleep u t (omega arith), step.free) refl in
    let below : sum_pairs s.nodes t (busy e) ≡ 0 = sum_pairs-none s.nodes t (busy e) (λ w v there low.
    let z : busy d w v ≡ 0 = busy_idle d w v (mine.front w v there low) in let l : busy e w v ≤ busy d w v = calm w v (let l2 : v < t = low in omega arith) in omega arith) in
    let held : busy d u t ≡ 1 = busy_claimed d u t row step.was_claimed in
    record {
      less = λ w v. elim (cases_lt t v) [
        | inl past ↦ let first : busy d u t ≤ sum_pairs s.nodes v (busy d) = le-sum_pairs s.nodes v (busy d) u t mine.is_node past in omega arith
        | inr near ↦ waits_less s.nodes d e w v (λ a b x l. calm a b (let l2 : b < v = l in omega arith)) (calm w v near)
      ];
      after = omega arith;
      before = omega arith;
    }

pub commit_undone : (s : Setting) (d : Desk) (u t : ℕ) (row : List ℕ) (wakes : ℕ → ℕ → Bool) (e : Desk) → IsSound s d → Commits s d u t row wakes e →
    undone s.nodes s.slots e + 1 ≤ undone s.nodes s.slots d
unfolding undone
commit_undone s d u t row wakes e sound step =
    let mine : IsClaim s d u t row = sound.claims u t row step.was_claimed in
    let waits : CommitWaits s.nodes d e u t = commit_waits s d u t row wakes e sound step in
    let fewer : sum_pairs s.nodes s.slots (waiting s.nodes e) < sum_pairs s.nodes s.slots (waiting s.nodes d) =
    sum_pairs-lt s.nodes s.slots (waiting s.nodes e) (waiting s.nodes d) u t mine.is_node mine.is_slot (λ w v x l. waits.less w v) (omega (arith, waits.after, waits.before)) in
    omega arith

pub calm_undone : (nodes slots : ℕ) (d e : Desk) → ((w v : ℕ) → busy e w v ≤ busy d w v) → undone nodes slots e ≤ undone nodes slots d
unfolding undone
calm_undone nodes slots d e calm = sum_pairs-le nodes slots (waiting nodes e) (waiting nodes d) (λ u t x l. calm_waits nodes d e calm u t)

pub rest_undone : (s : Setting) (d : Desk) → IsAtRest s d → undone s.nodes s.slots d ≡ 0
unfolding undone
rest_undone s d rest = sum_pairs-none s.nodes s.slots (waiting s.nodes d) (λ u t x l.
    let here : busy d u t ≡ 0 = busy_idle d u t (rest u t x l) in
    let below : sum_pairs s.nodes t (busy d) ≡ 0 = sum_pairs-none s.nodes t (busy d) (λ w v there low. busy_idle d w v (rest w v there (omega arith))) in
    omega arith)

pub all_undone : (nodes slots : ℕ) (d : Desk) → undone nodes slots d ≤ nodes * slots
unfolding undone
all_undone nodes slots d = sum_pairs-most nodes slots (waiting nodes d) (λ u t. waiting_le nodes d u t)

-- the claims that are out are among the pairs that wait
pub claimed_undone : (nodes slots : ℕ) (d : Desk) → claims_out nodes slots d ≤ undone nodes slots d
unfolding undone claims_out
claimed_undone nodes slots d =
    sum_pairs-le nodes slots (λ u t. cond (is_some (d.claimed u t)) 1 0) (waiting nodes d)
    (λ u t x l. elim (cases_option (d.claimed u t)) [
      | inl none ↦ rw none (omega arith)
      | inr some ↦
          let one : busy d u t ≡ 1 = busy_claimed d u t some.0 some.1 in
          let flag : cond {A = ℕ} (is_some (d.claimed u t)) 1 0 ≡ 1 = rw some.1 refl in omega (arith, flag, one)
    ])

pub claims_are_undone : ClaimsAreUndone
claims_are_undone nodes slots d = (claimed_undone nodes slots d, all_undone nodes slots d)

-- ---- no event but a commit or a batch makes a pair busier
pub drop_calm : (s : Setting) (d e : Desk) → DropsSettled s d e → (w v : ℕ) → busy e w v ≤ busy d w v
drop_calm s d e step w v = elim (step.each w v) [
  | inl same ↦ rw (same, step.claimed) (omega arith)
  | inr gone ↦ rw (gone.0, step.claimed) (elim (cases_Bool (d.active w v)) [ inl a ↦ rw a (busy_part (is_some (d.claimed w v))) | inr a ↦ rw a (omega arith) ])
]

pub take_calm : (s : Setting) (d : Desk) (u t : ℕ) (row : List ℕ) (e : Desk) → TakesClaim s d u t row e → (w v : ℕ) → busy e w v ≤ busy d w v
take_calm s d u t row e step w v = elim (cases_pair u t w v) [
  | inl at ↦ let one : busy d w v ≡ 1 = rw (← at.0, ← at.1) (busy_active d u t step.was_active) in let l : busy e w v ≤ 1 = busy_le e w v in omega arith
  | inr other ↦ rw (step.others.active w v other, step.others.claimed w v other) (omega arith)
]

pub give_back_calm : (d : Desk) (u t : ℕ) (e : Desk) → GivesBack d u t e → (w v : ℕ) → busy e w v ≤ busy d w v
give_back_calm d u t e step w v = elim (cases_pair u t w v) [
  | inl at ↦ elim (cases_option (d.claimed u t)) [
    | inl none ↦ absurd (step.was_claimed none)
    | inr some ↦ let one : busy d w v ≡ 1 = rw (← at.0, ← at.1) (busy_claimed d u t some.0 some.1) in let l : busy e w v ≤ 1 = busy_le e w v in omega arith
  ]
  | inr other ↦ rw (step.others.active w v other, step.others.claimed w v other) (omega arith)
]
