use Rattle.ltm_editors.specs.Boxes.{boxed}
use Rattle.ltm_editors.proofs.Between.{one_holder, one_opening, one_history, seen_belongs, home_belongs, may_be_put_back}
use Rattle.ltm_editors.proofs.facts.holds_between_steps.Goals as goal

pub returns : goal.returns
returns g c = record {
  one_holder = one_holder (boxed g.T.Recorded.opening) (boxed g.T.Recorded.history) g.T.Recorded.author;
  one_opening = one_opening (boxed g.T.Recorded.opening) (boxed g.T.Recorded.history) g.T.Recorded.author;
  one_history = one_history (boxed g.T.Recorded.opening) (boxed g.T.Recorded.history) g.T.Recorded.author;
  seen_belongs = seen_belongs (boxed g.T.Recorded.opening) (boxed g.T.Recorded.history) g.T.Recorded.author;
  home_belongs = home_belongs (boxed g.T.Recorded.opening) (boxed g.T.Recorded.history) g.T.Recorded.author;
  may_be_put_back = may_be_put_back (boxed g.T.Recorded.opening) (boxed g.T.Recorded.history) g.T.Recorded.author;
}
