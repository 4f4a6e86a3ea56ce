use Rattle.std.proofs.Common.{ℕ, ◌+◌, ◌-◌, ◌%◌, ◌^◌, refl, ap, ◌∙◌}
use Rattle.ltm_flows.specs.Amounts.{amount_at}
use Rattle.ltm_flows.proofs.Producing.{are_read, both_are, sets_one}
use Rattle.ltm_flows.proofs.production.Production.set.Goals as goal

pub invariant_of-self-clause-are : goal.invariant_of-self-clause-are
invariant_of-self-clause-are c =
    let read = are_read c.args.self.now c.args.node.0 c.args.boundary c.place-one.result c.place-all.result c.index-2.result.now c.index.result.now c.requires.node c.requires.boundary c.place-one.ensures.place c.place-all.ensures.place
    c.index-2.ensures c.index.ensures in
    both_are c.args.self.now.nodes c.args.self.now.room c.args.node.0 c.args.boundary c.place-one.result c.place-all.result c.args.amount _ c.args.self.now.amounts.items c.args.self.now.are read.at c.requires.small
    (ap (λ (z : ℕ). ((z + (2 ^ 64 - c.index-2.result.now)) % 2 ^ 64 + c.args.amount) % 2 ^ 64) read.whole_is
    ∙ ap (λ (z : ℕ). ((amount_at c.args.self.now.amounts.items c.args.self.now.nodes c.args.self.now.nodes c.args.boundary + (2 ^ 64 - z)) % 2 ^ 64 + c.args.amount) % 2 ^ 64) read.was_is)

pub returns : goal.returns
returns c =
    let read = are_read c.args.self.now c.args.node.0 c.args.boundary c.place-one.result c.place-all.result c.index-2.result.now c.index.result.now c.requires.node c.requires.boundary c.place-one.ensures.place c.place-all.ensures.place
    c.index-2.ensures c.index.ensures in
    sets_one c.args.self.now _ c.args.node.0 c.args.boundary c.place-one.result c.place-all.result c.args.amount _ read.at refl refl refl
