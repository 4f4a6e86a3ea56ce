use Rattle.std.proofs.Common.{sym, ◌∙◌}
use Rattle.ltm_units.proofs.BadBytes.{bad_byte_is_first, first_bad_byte_is_told}
use Rattle.ltm_units.proofs.numbers.read_vehicles.Goals as goal

pub returns-clause-bad_byte : goal.returns-clause-bad_byte
returns-clause-bad_byte c place = (
  λ told. bad_byte_is_first c.args.text.now place (sym c.parse.ensures.value ∙ told),
  λ first. c.parse.ensures.value ∙ first_bad_byte_is_told c.args.text.now place first,
)
