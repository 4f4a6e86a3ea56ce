use Rattle.std.proofs.Common.{[], ◌∷◌}
use Rattle.ltm_command.proofs.Reading.{sized}
use Rattle.ltm_command.proofs.words.command_of.Goals as goal

pub returns-in-len2-clause-sized : goal.returns-in-len2-clause-sized
returns-in-len2-clause-sized c = sized (c.as_str-in-len2.result.now ∷ c.as_str-in-len2-2.result.now ∷ []) c.two_words.result c.two_words.ensures
