use Rattle.std.proofs.Common.{arith}
use Rattle.test_load.proofs.exit_limits.read_at.Goals as goal

pub inputs_of-requires-clause-ready : goal.inputs_of-requires-clause-ready
inputs_of-requires-clause-ready g c = record {
  shape = c.requires.shape;
  now = omega arith;
  front = record { empty = c.requires.loading.front.empty; steps = λ u t x y. c.requires.loading.front.steps u t x (omega arith) };
}
