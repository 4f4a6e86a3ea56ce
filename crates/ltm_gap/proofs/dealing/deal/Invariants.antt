use Rattle.std.proofs.Common.{◌≡◌, length}
use Rattle.ltm_gap.specs.Parts.{AreDealt}
use Rattle.ltm_gap.proofs.dealing.deal.Given as goal

abbrev pub invariant-loop-many : goal.invariant-loop-many
invariant-loop-many l = record {
  loads : length l.loads.items ≡ l.parts;
  dealt : AreDealt l.parts l.many-index l.owners.items;
}
