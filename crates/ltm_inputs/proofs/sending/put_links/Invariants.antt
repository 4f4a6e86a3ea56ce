use Rattle.ltm_curve.specs.Table.{counts_of}
use Rattle.ltm_loading.specs.Flows.{link_sending}
use Rattle.ltm_setting.specs.Setting.{setting_of}
use Rattle.ltm_inputs.specs.Parts.{link_at}
use Rattle.ltm_inputs.proofs.Filling.{IsFilledTo}
use Rattle.ltm_inputs.proofs.sending.put_links.Given as goal

abbrev pub invariant-loop-link : goal.invariant-loop-link
invariant-loop-link g l =
    let s = setting_of l.scenario in
    IsFilledTo l.into l.place l.link-index s.destinations (λ i d. link_sending s (counts_of l.curves) (link_at l.links i) l.slot d)
