use Rattle.ltm_turn.specs.Boxes.{boxed}
use Rattle.ltm_turn.proofs.Between.{one_holder, home_when_free, editors_list, number_never_falls, may_be_put_back}
use Rattle.ltm_turn.proofs.facts.holds_between_steps.Goals as goal

pub returns : goal.returns
returns g c = record {
  one_holder = one_holder (boxed g.T.Told.entries) (boxed g.T.Told.number);
  home_when_free = home_when_free (boxed g.T.Told.entries) (boxed g.T.Told.number);
  editors_list = editors_list (boxed g.T.Told.entries) (boxed g.T.Told.number);
  number_never_falls = number_never_falls (boxed g.T.Told.entries) (boxed g.T.Told.number);
  may_be_put_back = may_be_put_back (boxed g.T.Told.entries) (boxed g.T.Told.number);
}
