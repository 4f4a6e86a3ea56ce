-- What a pass over the boundaries begins with: nobody stands in a queue at the start.
use Rattle.std.proofs.Common.{◌≡◌, ℕ, ◌-◌, ◌*◌, ◌<◌, List, length, replicate, slice_index_or, inl, inr, ap, subst, sym, ◌∙◌, arith}
use Rattle.std.proofs.lemmas.Bool.{cases_lt}
use Rattle.std.proofs.lemmas.List.{length-replicate, get_or-replicate}
use Rattle.ltm_curve.specs.Counts.{Counts, interpolated}
use Rattle.ltm_curve.proofs.Interpolation.{interpolated_at}
use Rattle.ltm_loading.specs.Setting.{Setting}
use Rattle.ltm_loading.specs.Groups.{up_of}
use Rattle.ltm_loading.specs.Loading.{IsLoading}
use Rattle.ltm_loading.specs.Totals.{entered_link}
use Rattle.ltm_loading.proofs.Front.{empty_total, up_is_group}
use Rattle.ltm_flows.specs.declared.loading.Loading.{Loading}
use Rattle.ltm_flows.specs.Shown.{step_of, links_of}
use Rattle.ltm_times.specs.declared.delays.LinkDelay.{LinkDelay}
use Rattle.ltm_times.specs.Queues.{ready, queue}
use Rattle.ltm_times.specs.DelaysBy.{IsLinkDelayIn, AreLinkDelaysIn}
use Rattle.ltm_times.proofs.WasReady.{delayed_early, delayed_late}

ready_at_start : (s : Setting) (c : Counts) → IsLoading s c → 0 < s.step → (link : ℕ) → link < s.links → ready s c link 0 ≡ 0
ready_at_start s c is some link there =
    let entered : ℕ → ℕ = entered_link s c link in
    let none : entered 0 ≡ 0 = empty_total s c (up_of link) s.slots is.front (up_is_group s link there) in
    elim (cases_lt (0 * s.step) (s.free_time link)) [
      | inl early ↦ delayed_early entered s.step (s.free_time link) 0 early
      | inr late ↦
          let start : 0 * s.step - s.free_time link ≡ 0 * s.step = omega (arith, late) in
          delayed_late entered s.step (s.free_time link) 0 late ∙ (ap (interpolated entered s.step) start ∙ (interpolated_at entered s.step 0 some ∙ none))
    ]

queue_at_start : (s : Setting) (c : Counts) → IsLoading s c → 0 < s.step → (link : ℕ) → link < s.links → queue s c link 0 ≡ 0
queue_at_start s c is some link there = omega (arith, ready_at_start s c is some link there)

none_in : (l : Loading) (link : ℕ) (d : LinkDelay) → 0 < step_of l → link < links_of l → d.spent ≡ 0 → d.queued ≡ 0 → d.peak.at ≡ 0 → d.peak.most.0 ≡ 0 → IsLinkDelayIn l link 0 d
none_in l link d some there spent queued at most = record {
  spent_small = omega (arith, spent);
  queued_small = omega (arith, queued);
  shown = λ s version c shows.
      let none : queue s c link 0 ≡ 0 = queue_at_start s c shows.loading (omega (arith, some, shows.step)) link (omega (arith, there, shows.links)) in
      record {
        spent = omega (arith, spent);
        queued = omega (arith, queued);
        peak = record { at = at; most = most ∙ (sym none ∙ ap (queue s c link) (sym at)) };
      };
}

pub all_none : (l : Loading) (n : ℕ) (d : LinkDelay) (delays : List LinkDelay) → 0 < step_of l → n ≡ links_of l → delays ≡ replicate n d →
    d.spent ≡ 0 → d.queued ≡ 0 → d.peak.at ≡ 0 → d.peak.most.0 ≡ 0 → AreLinkDelaysIn l 0 delays
all_none l n d delays some all are spent queued at most = record {
  count = ap length are ∙ (length-replicate n d ∙ all);
  each = λ link none there.
      let here : slice_index_or delays link none ≡ d = ap (λ (xs : List LinkDelay). slice_index_or xs link none) are ∙ get_or-replicate n link d none (omega (arith, there, all)) in
      subst (λ x. IsLinkDelayIn l link 0 x) (sym here) (none_in l link d some there spent queued at most);
}
