use Rattle.ltm_curve.specs.Table.{counts_of}
use Rattle.ltm_check.specs.Text.{curves_file}
use Rattle.ltm_check.proofs.Passing.{last_front_if}
use Rattle.ltm_check.proofs.write.write_curves.Goals as goal

pub returns-clause-err : goal.returns-clause-err
unfolding curves_file
returns-clause-err g c = last_front_if c.write_out.result (curves_file c.args.scenario.now (counts_of c.args.curves.now)) _ _ _ _ (rw (c.in-Ok.ensures, c.in-Ok-create.ensures) at c.in_ok-put_groups.ensures.ok) c.write_out.ensures.err
