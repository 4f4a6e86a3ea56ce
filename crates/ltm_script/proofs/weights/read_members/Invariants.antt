use Rattle.std.proofs.Common.{◌≡◌, ◌≤◌, length, take}
use Rattle.serde_json.specs.View.{members_view}
use Rattle.ltm_script.specs.Weights.{weights_of}
use Rattle.ltm_script.proofs.Named.{joined}
use Rattle.ltm_script.proofs.weights.read_members.Given as goal

abbrev pub invariant-loop-name : goal.invariant-loop-name
invariant-loop-name l = (l.count ≡ length l.yielded) × (length l.members.entries ≤ 4) × (length l.places ≡ 4)
    × (joined (take l.count l.places) (weights_of (members_view l.name-iterator)) ≡ weights_of (members_view l.members.entries))
