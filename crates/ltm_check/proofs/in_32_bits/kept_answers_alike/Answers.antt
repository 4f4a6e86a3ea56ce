use Rattle.ltm_check.proofs.Alike.{kept_answers}
use Rattle.ltm_check.proofs.in_32_bits.kept_answers_alike.Goals as goal

pub returns : goal.returns
returns c = kept_answers (record {
  counts = c.counts_small.ensures;
  outputs = c.outputs_small.ensures;
  inputs = c.inputs_read_only.ensures;
  sets = c.counts_set_only.ensures;
  one = c.set_by_one_pair.ensures;
  places = c.counts_by_place.ensures;
})
