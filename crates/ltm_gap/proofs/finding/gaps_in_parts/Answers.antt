use Rattle.std.proofs.Common.{ap, subst, ◌∙◌, arith, length}
use Rattle.ltm_setting.specs.Setting.{setting_of}
use Rattle.ltm_gap.specs.Parts.{AreJoined}
use Rattle.ltm_gap.proofs.Parting.{gaps_joined}
use Rattle.ltm_gap.proofs.finding.gaps_in_parts.Goals as goal

pub new-requires-clause-few : goal.new-requires-clause-few
new-requires-clause-few g c = let joined = c.in_ok-sums.ensures in let long = joined.one_for_each in let few = c.destination_count-destinations.ensures.few in omega arith

pub returns : goal.returns
returns g c =
    let all = ap length c.as_slice.ensures.value ∙ c.in_ok-found.ensures.count in
    gaps_joined (setting_of c.args.scenario.now) c.args.loading.now c.args.owners.now c.args.parts c.in_ok-sums.sums.items c.new.result (ap (λ v. v.items) c.new.ensures) c.requires.dealt
    (subst (λ n. AreJoined (setting_of c.args.scenario.now) c.args.loading.now c.args.owners.now n c.in_ok-sums.sums.items) all c.in_ok-sums.ensures)
