-- The own slot, the tails and the heads, together.
use Rattle.std.proofs.Common.{◌≡◌, ℕ, ◌+◌, ◌++◌, ◌∷◌, [], min, ap, ◌∙◌, arith}
use Rattle.ltm_setting.specs.Setting.{setting_of}
use Rattle.ltm_pairs.specs.Reaches.{SpreadData, no_spread, reach}
use Rattle.ltm_pairs.proofs.Together.{all_together}
use Rattle.ltm_pairs.proofs.commits.dependents.Goals as goal

pub returns-clause-each : goal.returns-clause-each
returns-clause-each c = λ w v node l.
    let s = setting_of c.args.scenario.now in
    let u : ℕ = c.args.pair.node.0 in
    let k : ℕ = c.args.pair.slot + 1 in
    let to : c.min.result ≡ min (k + 1) s.slots = omega (c.min.ensures, c.slot_count-slots.ensures.value, arith) in
    let own : c.push.new.self ≡ record no_spread { reaches = [] ++ reach u k (min (k + 1) s.slots) ∷ [] } =
    c.push.ensures ∙ (ap (λ (d : SpreadData). record d { reaches = d.reaches ++ reach u k c.min.result ∷ [] }) c.clear.ensures
    ∙ ap (λ (to : ℕ). record no_spread { reaches = [] ++ reach u k to ∷ [] }) to) in
    all_together s u k c.args.changed c.push.new.self c.add_tails.new.into c.add_heads.new.into w v node own c.add_tails.ensures c.add_heads.ensures l
