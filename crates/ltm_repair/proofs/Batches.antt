-- What holds of a repair is kept by a batch.
use Rattle.std.proofs.Common.{◌≡◌, ℕ, suc, ◌+◌, ◌-◌, ◌*◌, ◌≤◌, arith, inl, inr, ap, subst, sym, refl, ◌∙◌, Bool}
use Rattle.std.proofs.lemmas.Bool.{cases_lt}
use Rattle.std.proofs.Math.Nat.{mul-le-mul_left}
use Rattle.ltm_units.specs.Sums.{sum_below}
use Rattle.ltm_units.proofs.Sums.{sum_below-same}
use Rattle.ltm_curve.specs.Counts.{Counts}
use Rattle.ltm_loading.specs.Setting.{IsSetting}
use Rattle.ltm_loading.specs.Groups.{groups}
use Rattle.ltm_loading.specs.Networks.{SameNetwork}
use Rattle.ltm_loading.specs.Differing.{differing}
use Rattle.ltm_repair.specs.Counting.{left_to_do, strayed, undone}
use Rattle.ltm_repair.specs.State.{RepairState, now, AreLoadings, batch_difference, all_differences}
use Rattle.ltm_repair.specs.Repair.{AreOfOneNetwork, ShowsALoading, CountsTheWork, IsRepair}
use Rattle.ltm_repair.specs.Events.{Accepted}
use Rattle.ltm_repair.proofs.Networks.{network_refl, network_trans, groups_same}
use Rattle.ltm_repair.proofs.KeepsBatch.{accept_keeps}
use Rattle.ltm_repair.proofs.Waits.{all_undone}
use Rattle.ltm_repair.proofs.LeftToDo.{accept_left, accept_strays}
use Rattle.ltm_repair.proofs.Books.{settled_within}

-- the new batch's difference is one more of the sum
differences_more : (s e : RepairState) (touched : ℕ → ℕ → Bool) (loadings : ℕ → Counts) → Accepted s touched e → s.settled ≤ s.accepted →
    all_differences e loadings ≡ all_differences s loadings + differing (now s) (now e) (loadings s.accepted) (loadings e.accepted)
unfolding all_differences
differences_more s e touched loadings step first =
    let n : ℕ = s.accepted - s.settled in
    let next : e.accepted ≡ s.accepted + 1 = step.accepted in
    let follows : e.accepted - e.settled ≡ suc (s.accepted - s.settled) = omega (arith, step.settled) in
    let E : ℕ → ℕ = λ k. batch_difference e loadings (e.settled + k) in
    let F : ℕ → ℕ = λ k. batch_difference e loadings (s.settled + k) in
    let S : ℕ → ℕ = λ k. batch_difference s loadings (s.settled + k) in
    let renamed : sum_below (e.accepted - e.settled) E ≡ sum_below (e.accepted - e.settled) F = rw step.settled refl in
    let long : sum_below (e.accepted - e.settled) F ≡ sum_below (suc (s.accepted - s.settled)) F = ap (λ m. sum_below m F) follows in
    let same : sum_below (s.accepted - s.settled) F ≡ sum_below (s.accepted - s.settled) S = sum_below-same (s.accepted - s.settled) F S
    (λ k l. rw (step.settings (s.settled + k) (omega arith), step.settings (s.settled + k + 1) (omega arith)) refl) in
    let back : s.settled + (s.accepted - s.settled) ≡ s.accepted = omega arith in
    let at_end : F (s.accepted - s.settled) ≡ batch_difference e loadings s.accepted = ap (λ k. batch_difference e loadings k) back in
    let last : batch_difference e loadings s.accepted ≡ differing (now s) (now e) (loadings s.accepted) (loadings e.accepted) =
    rw (next, step.settings s.accepted (omega arith)) refl in
    omega (renamed, long, same, at_end, last, arith)

next_bound : (c u k p : ℕ) → c ≤ k * p → u ≤ p → c + u ≤ (k + 1) * p
next_bound c u k p first second = omega arith

accept_history : (s : RepairState) (touched : ℕ → ℕ → Bool) (e : RepairState) → IsRepair s → Accepted s touched e → AreOfOneNetwork e
accept_history s touched e is step =
    let next : e.accepted ≡ s.accepted + 1 = step.accepted in
    let wider : (now s).slots ≤ (now e).slots = step.desk.grows.slots in
    record {
      valid = λ k l. elim (cases_lt s.accepted k) [
        | inl past ↦ let at : e.accepted ≡ k = omega arith in let P : ℕ → Type 0 = λ z. IsSetting (e.settings z) in subst P at step.setting
        | inr old ↦ rw (step.settings k old) (is.history.valid k old)
      ];
      network = λ k l. elim (cases_lt s.accepted k) [
        | inl past ↦ let at : e.accepted ≡ k = omega arith in let P : ℕ → Type 0 = λ z. SameNetwork (e.settings z) (now e) in subst P at (network_refl (now e))
        | inr old ↦ rw (step.settings k old) (network_trans (s.settings k) (now s) (now e) (is.history.network k old) step.network)
      ];
      horizon = λ k l. elim (cases_lt s.accepted k) [
        | inl past ↦
            let at : e.accepted ≡ k = omega arith in
            let P : ℕ → Type 0 = λ z. (e.settings z).slots ≤ (now e).slots in
            subst P at (let same : (now e).slots ≤ (now e).slots = omega arith in same)
        | inr old ↦ rw (step.settings k old) (let before : (s.settings k).slots ≤ (now s).slots = is.history.horizon k old in omega arith)
      ];
    }

accept_shows : (s : RepairState) (touched : ℕ → ℕ → Bool) (e : RepairState) → IsRepair s → Accepted s touched e → ShowsALoading e
accept_shows s touched e is step =
    let shown : s.shown_at ≤ s.accepted = is.shows.accepted_last in
    let next : e.accepted ≡ s.accepted + 1 = step.accepted in
    let rising : (s.settings s.shown_at).slots ≤ (now s).slots = is.history.horizon s.shown_at shown in
    let at_shown : e.settings s.shown_at ≡ s.settings s.shown_at = step.settings s.shown_at shown in
    let same_groups : groups (now s) ≡ groups (now e) = groups_same (now s) (now e) step.network in
    let same_ends : (now s).destinations ≡ (now e).destinations = step.network.destinations in
    record {
      settled_first = rw (step.settled, step.shown_at) is.shows.settled_first;
      accepted_last = rw step.shown_at (omega arith);
      loading = rw (step.shown_at, step.shown) (rw at_shown is.shows.loading);
      agree = rw (step.shown_at, step.shown, step.changed) (rw at_shown (λ g k x same low.
          let within : k ≤ (now s).slots = omega (arith, low) in
          is.shows.agree g k (omega arith) same low
          ∙ (ap (λ (n : ℕ). sum_below n (λ b. s.desk.counts g b k)) same_ends
          ∙ sum_below-same (now e).destinations (λ b. s.desk.counts g b k) (λ b. e.desk.counts g b k) (λ b m. sym (step.desk.grows.old_counts g b k x m within)))));
      beyond = rw (step.shown_at, step.changed) (rw at_shown (λ g b k x m same low high. elim (cases_lt (now s).slots k) [
        | inl new ↦ step.desk.grows.new_counts g b k x m new high
        | inr old ↦ step.desk.grows.old_counts g b k x m old ∙ is.shows.beyond g b k (omega arith) (omega arith) same low old
      ]));
    }

accept_fits : (s : RepairState) (touched : ℕ → ℕ → Bool) (e : RepairState) → IsRepair s → Accepted s touched e →
    e.commits + undone (now e).nodes (now e).slots e.desk ≤ (e.accepted - e.settled) * ((now e).nodes * (now e).slots)
accept_fits s touched e is step =
    let first : s.settled ≤ s.accepted = settled_within s is in
    let next : e.accepted ≡ s.accepted + 1 = step.accepted in
    let wider : (now s).slots ≤ (now e).slots = step.desk.grows.slots in
    let same : e.commits ≡ s.commits = step.commits in
    let all : undone (now e).nodes (now e).slots e.desk ≤ (now e).nodes * (now e).slots = all_undone (now e).nodes (now e).slots e.desk in
    let nodes : (now s).nodes ≡ (now e).nodes = step.network.nodes in
    let grown : (now e).nodes * (now s).slots ≤ (now e).nodes * (now e).slots = mul-le-mul_left (now e).nodes wider in
    let pairs : (now s).nodes * (now s).slots ≤ (now e).nodes * (now e).slots = rw nodes grown in
    let times : (s.accepted - s.settled) * ((now s).nodes * (now s).slots) ≤ (s.accepted - s.settled) * ((now e).nodes * (now e).slots) = mul-le-mul_left (s.accepted - s.settled) pairs in
    let before : s.commits + undone (now s).nodes (now s).slots s.desk ≤ (s.accepted - s.settled) * ((now s).nodes * (now s).slots) = is.count.fits in
    let more : e.accepted - e.settled ≡ (s.accepted - s.settled) + 1 = omega (arith, step.settled) in
    rw more (next_bound e.commits (undone (now e).nodes (now e).slots e.desk) (s.accepted - s.settled) ((now e).nodes * (now e).slots) (omega arith) all)

accept_counts : (s : RepairState) (touched : ℕ → ℕ → Bool) (e : RepairState) → IsRepair s → Accepted s touched e → CountsTheWork e
accept_counts s touched e is step =
    let first : s.settled ≤ s.accepted = settled_within s is in
    let next : e.accepted ≡ s.accepted + 1 = step.accepted in
    let at_settled : e.settings s.settled ≡ s.settings s.settled = step.settings s.settled first in
    record {
      covers = rw (step.settled, step.commits) (rw at_settled (λ c loading.
          let one : strayed (now e).slots (s.settings s.settled) c e.desk ≤ strayed (now s).slots (s.settings s.settled) c s.desk =
          accept_strays (now s) (now e) s.desk touched e.desk (s.settings s.settled) c (is.history.horizon s.settled first) step.desk in
          let two : strayed (now s).slots (s.settings s.settled) c s.desk ≤ s.commits = is.count.covers c loading in
          omega arith));
      no_waste = λ loadings are.
          let old : AreLoadings s loadings = λ k low l. (rw (step.settings k l) at (are k (omega (step.settled, low, arith)) (omega arith))) in
          let one : s.commits + left_to_do (now s) (loadings s.accepted) s.desk ≤ all_differences s loadings = is.count.no_waste loadings old in
          let two : left_to_do (now e) (loadings e.accepted) e.desk ≤ left_to_do (now s) (loadings s.accepted) s.desk + differing (now s) (now e) (loadings s.accepted) (loadings e.accepted) =
          accept_left (now s) (now e) s.desk touched e.desk (loadings s.accepted) (loadings e.accepted) step.network.nodes step.desk in
          let three : all_differences e loadings ≡ all_differences s loadings + differing (now s) (now e) (loadings s.accepted) (loadings e.accepted) =
          differences_more s e touched loadings step first in
          let same : e.commits ≡ s.commits = step.commits in
          omega arith;
      none_lost = rw (step.settled, step.commits) (rw at_settled (λ none u t x l lost.
          let nodes : (now s).nodes ≡ (now e).nodes = step.network.nodes in
          let within : (s.settings s.settled).slots ≤ (now s).slots = is.history.horizon s.settled first in
          is.count.none_lost none u t (omega arith) l (sym (step.desk.grows.old_kept u t (omega (arith, within))) ∙ lost)));
      fits = accept_fits s touched e is step;
    }

pub accept_repair : (s : RepairState) (touched : ℕ → ℕ → Bool) (e : RepairState) → IsRepair s → Accepted s touched e → IsRepair e
accept_repair s touched e is step =
    let shown : s.shown_at ≤ s.accepted = is.shows.accepted_last in
    let next : e.accepted ≡ s.accepted + 1 = step.accepted in
    record {
      history = accept_history s touched e is step;
      desk = accept_keeps (now s) (now e) s.desk touched e.desk step.setting step.network is.desk step.desk;
      shows = accept_shows s touched e is step;
      up_to_date = rw step.shown_at (λ h. absurd (omega arith));
      count = accept_counts s touched e is step;
    }
