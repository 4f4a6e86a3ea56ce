use Rattle.std.proofs.Common.{rules, ◌≡◌, Some, ◌∷◌, []}
use Rattle.ltm_editors.specs.Boxes.{boxed}
use Rattle.ltm_editors.proofs.Ends.{opens}
use Rattle.ltm_editors.proofs.desk.Desk.of_box.Goals as goal

pub new-requires : goal.new-requires
new-requires g c =
    let e : c.push.new.self.items ≡ Some c.args.boxed ∷ [] = search rules in
    let e' : c.args.about.now.value ≡ c.args.boxed.value = search rules in
    rw (e, e') (opens (boxed g.T.Recorded.opening) (boxed g.T.Recorded.history) g.T.Recorded.author c.args.boxed c.requires.empty)
