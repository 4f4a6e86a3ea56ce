use Rattle.std.proofs.Common.{ap, ◌∙◌, arith, replicate}
use Rattle.ltm_setting.specs.Setting.{setting_of}
use Rattle.ltm_gap.proofs.Parting.{gaps_alone}
use Rattle.ltm_gap.proofs.finding.gaps_of.Goals as goal

pub new-requires-clause-few : goal.new-requires-clause-few
new-requires-clause-few c = let part = c.in_ok-sums.ensures in let long = part.one_for_each in let few = c.destination_count-destinations.ensures.few in omega arith

pub returns : goal.returns
returns c =
    gaps_alone (setting_of c.args.scenario.now) c.args.loading.now c.as_slice.result.now c.in_ok-sums.sums.items c.new.result (ap (λ v. v.items) c.new.ensures)
    (c.as_slice.ensures.value ∙ c.in_ok-owners.ensures ∙ ap (λ n. replicate n 0) c.node_count.ensures.value) c.in_ok-sums.ensures
