use Rattle.ltm_setting.specs.Setting.{setting_of}
use Rattle.ltm_used.proofs.AtNodes.{HasAll}
use Rattle.ltm_used.proofs.Listing.{AreParts}
use Rattle.ltm_used.proofs.nodes.node_destinations.Given as goal

abbrev pub invariant-nodes : goal.invariant-nodes
invariant-nodes l = AreParts l.starts.items l.destinations.items l.node (HasAll (setting_of l.scenario) l.used)
