use Rattle.std.proofs.Common.{◌≡◌, map, take}
use Rattle.ltm_network.specs.Network.{head_of}
use Rattle.ltm_units.specs.declared.places.LinkId.{LinkId}
use Rattle.ltm_make.specs.Branches.{weight_to}
use Rattle.ltm_make.proofs.branches.weights_of.Given as goal

abbrev pub invariant-loop-link : goal.invariant-loop-link
invariant-loop-link l = l.weights.items ≡ map (λ (link : LinkId). weight_to l.first l.second (head_of l.network link.0)) (take l.link-index l.link-items)
