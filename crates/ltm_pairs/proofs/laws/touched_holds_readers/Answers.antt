use Rattle.ltm_pairs.proofs.EditReaches.{touched_holds_readers}
use Rattle.ltm_pairs.proofs.laws.touched_holds_readers.Goals as goal

pub returns : goal.returns
returns c =
    touched_holds_readers (record {
      make = c.edits_make.ensures;
      limits = c.limits_are_set.ensures;
      longer = c.limits_are_lengthened.ensures;
      production = c.production_stays.ensures;
      weights = c.rows_stay.ensures;
      pairs = c.pair_stays.ensures.others;
      reads = c.setting_read_only.ensures;
      positions = c.position_read_only.ensures;
    })
