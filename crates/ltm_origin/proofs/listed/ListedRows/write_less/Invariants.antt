use Rattle.std.proofs.Common.{◌≡◌, ℕ, ◌<◌, ◌-◌, length, slice_index}
use Rattle.ltm_origin.proofs.Produced.{listed}
use Rattle.ltm_origin.proofs.listed.ListedRows.write_less.Given as goal

abbrev pub invariant-loop-place : goal.invariant-loop-place
invariant-loop-place l =
    (d : ℕ) → d < l.place → slice_index l.into d ≡ listed l.self.scenario.now l.self.node.0 l.self.list.now d l.boundary - slice_index l.less d
