-- What holds of a repair is kept by every event but a batch.
use Rattle.std.proofs.Common.{◌≡◌, ℕ, ◌+◌, ◌≤◌, arith, inl, inr, sym, ◌∙◌, Bool, true, false, List}
use Rattle.std.specs.Prelude.{Some, None}
use Rattle.ltm_units.proofs.Sums.{sum_below-same}
use Rattle.ltm_loading.specs.Setting.{IsSetting}
use Rattle.ltm_loading.specs.Pairs.{pair_row}
use Rattle.ltm_repair.specs.Desk.{IsAtRest}
use Rattle.ltm_repair.specs.Facts.{IsSound, IsClaim}
use Rattle.ltm_repair.specs.Counting.{left_to_do, strayed, busy, undone}
use Rattle.ltm_repair.specs.State.{RepairState, now, all_differences}
use Rattle.ltm_repair.specs.Repair.{AreOfOneNetwork, ShowsALoading, CountsTheWork, IsRepair}
use Rattle.ltm_repair.specs.Events.{SameBooks, OnlyDesk, Looked, Claimed, GaveBack, CommitHappened, PublishHappened, Settled}
use Rattle.ltm_repair.proofs.Cases.{cases_option}
use Rattle.ltm_repair.proofs.Keeps.{drop_keeps, take_keeps, give_back_keeps}
use Rattle.ltm_repair.proofs.KeepsCommit.{commit_keeps}
use Rattle.ltm_repair.proofs.Waits.{commit_undone, calm_undone, rest_undone, drop_calm, take_calm, give_back_calm}
use Rattle.ltm_repair.proofs.LeftToDo.{rest_done, rest_home, commit_done, commit_strays}

pub now_is_setting : (s : RepairState) → IsRepair s → IsSetting (now s)
now_is_setting s is = is.history.valid s.accepted (omega arith)

pub settled_within : (s : RepairState) → IsRepair s → s.settled ≤ s.accepted
settled_within s is = omega (arith, is.shows.settled_first, is.shows.accepted_last)

history_same : (s e : RepairState) → e.settings ≡ s.settings → e.accepted ≡ s.accepted → AreOfOneNetwork s → AreOfOneNetwork e
history_same s e settings accepted is = record {
  valid = rw (settings, accepted) is.valid;
  network = rw (settings, accepted) is.network;
  horizon = rw (settings, accepted) is.horizon;
}

-- ---- events that change neither counts nor kept inputs
shows_same : (s e : RepairState) → OnlyDesk s e → e.desk.counts ≡ s.desk.counts → ShowsALoading s → ShowsALoading e
shows_same s e only counts is =
    let books : SameBooks s e = only.books in
    record {
      settled_first = rw (books.settled, books.shown_at) is.settled_first;
      accepted_last = rw (books.shown_at, books.accepted) is.accepted_last;
      loading = rw (books.settings, books.shown_at, books.shown) is.loading;
      agree = rw (books.settings, books.shown_at, books.accepted, books.shown, counts, only.changed) is.agree;
      beyond = rw (books.settings, books.shown_at, books.accepted, counts, only.changed) is.beyond;
    }

count_same : (s e : RepairState) → OnlyDesk s e → e.desk.kept ≡ s.desk.kept → ((w v : ℕ) → busy e.desk w v ≤ busy s.desk w v) → CountsTheWork s → CountsTheWork e
unfolding all_differences left_to_do strayed
count_same s e only kept calm is =
    let books : SameBooks s e = only.books in
    record {
      covers = rw (books.settings, books.settled, books.accepted, only.commits, kept) is.covers;
      no_waste = rw (books.settings, books.settled, books.accepted, only.commits, kept) is.no_waste;
      none_lost = rw (books.settings, books.settled, books.accepted, only.commits, kept) is.none_lost;
      fits = rw (books.settings, books.settled, books.accepted, only.commits)
          (let l : undone (now s).nodes (now s).slots e.desk ≤ undone (now s).nodes (now s).slots s.desk = calm_undone (now s).nodes (now s).slots s.desk e.desk calm in
          omega (arith, is.fits));
    }

same_work : (s e : RepairState) → IsRepair s → OnlyDesk s e → e.desk.kept ≡ s.desk.kept → e.desk.counts ≡ s.desk.counts → IsSound (now s) e.desk →
    (IsAtRest (now s) s.desk → IsAtRest (now s) e.desk) → ((w v : ℕ) → busy e.desk w v ≤ busy s.desk w v) → IsRepair e
same_work s e is only kept counts sound rests calm =
    let books : SameBooks s e = only.books in
    record {
      history = history_same s e books.settings books.accepted is.history;
      desk = rw (books.settings, books.accepted) sound;
      shows = shows_same s e only counts is.shows;
      up_to_date = rw (books.settings, books.accepted, books.shown_at) (λ h. rests (is.up_to_date h));
      count = count_same s e only kept calm is.count;
    }

pub look_repair : (s e : RepairState) → IsRepair s → Looked s e → IsRepair e
look_repair s e is step =
    same_work s e is step.only step.desk.work.kept step.desk.work.counts (drop_keeps (now s) s.desk e.desk is.desk step.desk)
    (λ rest u t x l. (elim (step.desk.each u t) [ inl same ↦ same ∙ (rest u t x l).0 | inr gone ↦ gone.0 ], rw step.desk.claimed ((rest u t x l).1)))
    (drop_calm (now s) s.desk e.desk step.desk)

pub claim_calm : (s : RepairState) (u t : ℕ) (row : List ℕ) (e : RepairState) → Claimed s u t row e → (w v : ℕ) → busy e.desk w v ≤ busy s.desk w v
claim_calm s u t row e step w v =
    omega (arith, drop_calm (now s) s.desk step.dropped step.drops w v, take_calm (now s) step.dropped u t row e.desk step.takes w v)

pub claim_kept : (s : RepairState) (u t : ℕ) (row : List ℕ) (e : RepairState) → Claimed s u t row e → e.desk.kept ≡ s.desk.kept
claim_kept s u t row e step = step.takes.work.kept ∙ step.drops.work.kept

-- a pair that is claimed was active before
pub claim_active : (s : RepairState) (u t : ℕ) (row : List ℕ) (e : RepairState) → Claimed s u t row e → s.desk.active u t ≡ true
claim_active s u t row e step =
    let was : step.dropped.active u t ≡ true = step.takes.was_active in
    elim (step.drops.each u t) [
      | inl same ↦ sym same ∙ was
      | inr gone ↦ let a : step.dropped.active u t ≡ false = gone.0 in absurd (cc)
    ]

pub claim_repair : (s : RepairState) (u t : ℕ) (row : List ℕ) (e : RepairState) → IsRepair s → Claimed s u t row e → IsRepair e
claim_repair s u t row e is step =
    same_work s e is step.only (claim_kept s u t row e step) (step.takes.work.counts ∙ step.drops.work.counts)
    (take_keeps (now s) step.dropped u t row e.desk (drop_keeps (now s) s.desk step.dropped is.desk step.drops) step.takes)
    (λ rest.
    let idle : s.desk.active u t ≡ false = (rest u t step.takes.claim.is_node step.takes.claim.is_slot).0 in
    let was : s.desk.active u t ≡ true = claim_active s u t row e step in absurd (cc))
    (claim_calm s u t row e step)

pub give_back_repair : (s : RepairState) (u t : ℕ) (e : RepairState) → IsRepair s → GaveBack s u t e → IsRepair e
give_back_repair s u t e is step =
    same_work s e is step.only step.desk.work.kept step.desk.work.counts (give_back_keeps (now s) s.desk u t e.desk is.desk step.desk)
    (λ rest. elim (cases_option (s.desk.claimed u t)) [
      | inl none ↦ absurd (step.desk.was_claimed none)
      | inr some ↦
          let mine : IsClaim (now s) s.desk u t some.0 = is.desk.claims u t some.0 some.1 in
          absurd (step.desk.was_claimed ((rest u t mine.is_node mine.is_slot).1))
    ])
    (give_back_calm s.desk u t e.desk step.desk)

-- ---- a commit
commit_shows : (s : RepairState) (u t : ℕ) (row : List ℕ) (wakes : ℕ → ℕ → Bool) (e : RepairState) → IsRepair s → CommitHappened s u t row wakes e → ShowsALoading e
commit_shows s u t row wakes e is step =
    let books : SameBooks s e = step.books in
    let wide : (s.settings s.shown_at).slots ≤ (now s).slots = is.history.horizon s.shown_at is.shows.accepted_last in
    record {
      settled_first = rw (books.settled, books.shown_at) is.shows.settled_first;
      accepted_last = rw (books.shown_at, books.accepted) is.shows.accepted_last;
      loading = rw (books.settings, books.shown_at, books.shown) is.shows.loading;
      agree = rw (books.settings, books.shown_at, books.accepted, books.shown) (λ g k x same low.
          let within : k ≤ (s.settings s.shown_at).slots = low in
          is.shows.agree g k x (step.changes.stays g k same) low
          ∙ sum_below-same (now s).destinations (λ b. s.desk.counts g b k) (λ b. e.desk.counts g b k) (λ b m. sym (step.changes.same g b k x m (omega arith) same)));
      beyond = rw (books.settings, books.shown_at, books.accepted) (λ g b k x m same low high.
          step.changes.same g b k x m high same ∙ is.shows.beyond g b k x m (step.changes.stays g k same) low high);
    }

commit_counts : (s : RepairState) (u t : ℕ) (row : List ℕ) (wakes : ℕ → ℕ → Bool) (e : RepairState) → IsRepair s → CommitHappened s u t row wakes e → CountsTheWork e
unfolding all_differences
commit_counts s u t row wakes e is step =
    let books : SameBooks s e = step.books in
    record {
      covers = rw (books.settings, books.settled, books.accepted, step.commits) (λ c loading.
          let before : strayed (now s).slots (s.settings s.settled) c s.desk ≤ s.commits = is.count.covers c loading in
          let more : strayed (now s).slots (s.settings s.settled) c e.desk ≤ strayed (now s).slots (s.settings s.settled) c s.desk + 1 =
          commit_strays (now s) s.desk u t row wakes e.desk (s.settings s.settled) c is.desk ((is.history.network s.settled (settled_within s is)).nodes) step.desk in
          omega arith);
      no_waste = rw (books.settings, books.settled, books.accepted, step.commits) (λ loadings are.
          let before : s.commits + left_to_do (now s) (loadings s.accepted) s.desk ≤ all_differences s loadings = is.count.no_waste loadings are in
          let first : s.settled ≤ s.accepted = settled_within s is in
          let fewer : left_to_do (now s) (loadings s.accepted) e.desk + 1 ≡ left_to_do (now s) (loadings s.accepted) s.desk =
          commit_done (now s) s.desk u t row wakes e.desk (loadings s.accepted) (now_is_setting s is) is.desk step.desk (are s.accepted first (omega arith)) in
          omega arith);
      none_lost = rw step.commits (λ none. absurd (omega arith));
      fits = rw (books.settings, books.settled, books.accepted, step.commits)
          (let l : undone (now s).nodes (now s).slots e.desk + 1 ≤ undone (now s).nodes (now s).slots s.desk =
          commit_undone (now s) s.desk u t row wakes e.desk is.desk step.desk in omega (arith, is.count.fits));
    }

pub commit_repair : (s : RepairState) (u t : ℕ) (row : List ℕ) (wakes : ℕ → ℕ → Bool) (e : RepairState) → IsRepair s → CommitHappened s u t row wakes e → IsRepair e
commit_repair s u t row wakes e is step =
    let books : SameBooks s e = step.books in
    let mine : IsClaim (now s) s.desk u t row = is.desk.claims u t row step.desk.was_claimed in
    let sound : IsSound (now s) e.desk = commit_keeps (now s) s.desk u t row wakes e.desk (now_is_setting s is) is.desk step.desk in
    record {
      history = history_same s e books.settings books.accepted is.history;
      desk = rw (books.settings, books.accepted) sound;
      shows = commit_shows s u t row wakes e is step;
      up_to_date = rw (books.settings, books.accepted, books.shown_at) (λ h.
          let n : s.desk.claimed u t ≡ None = (is.up_to_date h u t mine.is_node mine.is_slot).1 in
          let was : s.desk.claimed u t ≡ Some row = step.desk.was_claimed in absurd (cc));
      count = commit_counts s u t row wakes e is step;
    }

-- ---- publishing and settle counts
pub publish_repair : (s e : RepairState) → IsRepair s → PublishHappened s e → IsRepair e
unfolding all_differences
publish_repair s e is step = record {
  history = history_same s e step.settings step.accepted is.history;
  desk = rw (step.settings, step.accepted, step.desk) is.desk;
  shows = record {
    settled_first = rw (step.settled, step.shown_at) (settled_within s is);
    accepted_last = rw (step.shown_at, step.accepted) (omega arith);
    loading = rw (step.settings, step.shown_at) step.shows;
    agree = rw (step.settings, step.shown_at, step.accepted, step.desk) (λ g k x same low. step.agree g k x low);
    beyond = rw (step.settings, step.shown_at, step.accepted) (λ g b k x m same low high. absurd (omega arith));
  };
  up_to_date = rw (step.settings, step.accepted, step.desk) (λ h. step.rest);
  count = record {
    covers = rw (step.settings, step.settled, step.accepted, step.commits, step.desk) is.count.covers;
    no_waste = rw (step.settings, step.settled, step.accepted, step.commits, step.desk) is.count.no_waste;
    none_lost = rw (step.settings, step.settled, step.accepted, step.commits, step.desk) is.count.none_lost;
    fits = rw (step.settings, step.settled, step.accepted, step.commits, step.desk) is.count.fits;
  };
}

settle_counts : (s : RepairState) (n : ℕ) (e : RepairState) → IsRepair s → Settled s n e → CountsTheWork e
unfolding all_differences
settle_counts s n e is step =
    let rest : IsAtRest (now s) s.desk = is.up_to_date step.up_to_date in
    let setting : IsSetting (now s) = now_is_setting s is in
    record {
      covers = rw (step.settings, step.settled, step.accepted, step.commits, step.desk) (λ c loading.
          let home : strayed (now s).slots (now s) c s.desk ≡ 0 = rest_home (now s) s.desk c setting is.desk rest loading in omega arith);
      no_waste = rw (step.settings, step.settled, step.accepted, step.commits, step.desk) (λ loadings are.
          let done : left_to_do (now s) (loadings s.accepted) s.desk ≡ 0 = rest_done (now s) s.desk (loadings s.accepted) setting is.desk rest (are s.accepted (omega arith) (omega arith)) in omega arith);
      none_lost = rw (step.settings, step.settled, step.accepted, step.commits, step.desk) (λ none u t x l lost.
          let kept : s.desk.kept u t ≡ Some (pair_row (now s) s.desk.counts u t) = is.desk.active.idle_is_settled u t x l (rest u t x l) in absurd (cc));
      fits = rw (step.settings, step.settled, step.accepted, step.commits, step.desk)
          (let none : undone (now s).nodes (now s).slots s.desk ≡ 0 = rest_undone (now s) s.desk rest in omega arith);
    }

pub settle_repair : (s : RepairState) (n : ℕ) (e : RepairState) → IsRepair s → Settled s n e → IsRepair e
settle_repair s n e is step =
    let current : s.shown_at ≡ s.accepted = step.up_to_date in
    record {
      history = history_same s e step.settings step.accepted is.history;
      desk = rw (step.settings, step.accepted, step.desk) is.desk;
      shows = record {
        settled_first = rw (step.settled, step.shown_at) (omega arith);
        accepted_last = rw (step.shown_at, step.accepted) is.shows.accepted_last;
        loading = rw (step.settings, step.shown_at, step.shown) is.shows.loading;
        agree = rw (step.settings, step.shown_at, step.accepted, step.shown, step.desk, step.changed) is.shows.agree;
        beyond = rw (step.settings, step.shown_at, step.accepted, step.desk, step.changed) is.shows.beyond;
      };
      up_to_date = rw (step.settings, step.accepted, step.desk) (λ h. is.up_to_date current);
      count = settle_counts s n e is step;
    }
