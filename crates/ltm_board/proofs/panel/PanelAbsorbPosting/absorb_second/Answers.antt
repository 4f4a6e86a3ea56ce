use Rattle.std.proofs.Common.{rules, ◌≡◌, [], ◌∷◌, ◌++◌, take, ap, ◌∙◌}
use Rattle.ltm_board.specs.Panels.{batches_in}
use Rattle.ltm_board.proofs.Cuts.{cut_and_put}
use Rattle.ltm_board.proofs.panel.PanelAbsorbPosting.absorb_second.Goals as goal

pub returns-clause-absorbed : goal.returns-clause-absorbed
returns-clause-absorbed c =
    let op = c.args.operation in
    let put : c.push_reserved.new.self.items ≡ take op.keeps c.args.self.now.posts.items ++ op.batches ∷ [] = search rules in
    ap (λ l. (c.args.self.now.opening.value, l, op.count, op.sheet)) (ap batches_in put ∙ cut_and_put (λ v. v.items) op.keeps c.args.self.now.posts.items op.batches)
