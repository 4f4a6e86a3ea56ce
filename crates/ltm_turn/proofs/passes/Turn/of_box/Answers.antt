use Rattle.std.proofs.Common.{rules, ◌≡◌, Some, ◌∷◌, []}
use Rattle.ltm_turn.specs.Boxes.{boxed}
use Rattle.ltm_turn.proofs.Ends.{opens}
use Rattle.ltm_turn.proofs.passes.Turn.of_box.Goals as goal

pub new-requires : goal.new-requires
new-requires g c =
    let e : c.push.new.self.items ≡ Some c.args.boxed ∷ [] = search rules in
    let e' : c.args.about.now.value ≡ c.args.boxed.value = search rules in
    rw (e, e') (opens (boxed g.T.Told.entries) (boxed g.T.Told.number) c.args.boxed)
