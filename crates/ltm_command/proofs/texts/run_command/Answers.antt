use Rattle.ltm_command.proofs.texts.run_command.Goals as goal

pub returns-in-Curves : goal.returns-in-Curves
returns-in-Curves g c = λ left read_faults. rw c.in-Curves.is (c.run_curves.ensures left read_faults)
