use Rattle.std.proofs.Common.{◌≡◌, drop}
use Rattle.std.specs.List.{list_any}
use Rattle.ltm_session_editors.specs.Files.{has_many}
use Rattle.ltm_session_editors.proofs.cutting.are_many.Given as goal

abbrev pub invariant-loop-text : goal.invariant-loop-text
invariant-loop-text l = list_any has_many l.texts ≡ list_any has_many (drop l.text-index l.texts)
