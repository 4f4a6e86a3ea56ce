use Rattle.std.proofs.Common.{◌≡◌, Some, ap, sym, ◌∙◌}
use Rattle.serde_json.specs.View.{view}
use Rattle.ltm_script.specs.Line.{command_in, value_of}
use Rattle.ltm_script.proofs.Lines.{value_read}
use Rattle.ltm_script.proofs.line.read_command.Goals as goal

pub returns-in-Ok-clause-command : goal.returns-in-Ok-clause-command
returns-in-Ok-clause-command c = λ found.
    let read_so = c.in-Ok.ensures.ok in
    let is : value_of c.args.line.now ≡ Some (view c.in-Ok.value) = value_read c.args.line.now (view c.in-Ok.value) read_so.0 read_so.1 in
    c.read_value.ensures.command found ∙ ap command_in (sym is)
