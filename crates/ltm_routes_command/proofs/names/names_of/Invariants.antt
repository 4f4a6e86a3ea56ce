use Rattle.std.proofs.Common.{◌≡◌, take, true}
use Rattle.std.specs.Prelude.{All}
use Rattle.ltm_units.specs.Words.{is_name}
use Rattle.ltm_routes_command.proofs.Walk.{begun}
use Rattle.ltm_routes_command.proofs.names.names_of.Given as goal

abbrev pub invariant-each : goal.invariant-each
invariant-each l = record {
  names : l.names.items ≡ begun l.network l.routes (take l.link-index l.links);
  named : All (λ name. is_name name ≡ true) l.names.items;
}
