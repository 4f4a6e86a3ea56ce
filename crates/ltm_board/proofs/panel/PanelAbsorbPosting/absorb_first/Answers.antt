use Rattle.std.proofs.Common.{rules, ◌≡◌, [], ◌∷◌, ◌++◌, take, ap, ◌∙◌}
use Rattle.ltm_board.specs.Panels.{batches_in}
use Rattle.ltm_board.proofs.Cuts.{cut_and_put}
use Rattle.ltm_board.proofs.panel.PanelAbsorbPosting.absorb_first.Goals as goal

pub returns-clause-absorbed : goal.returns-clause-absorbed
returns-clause-absorbed c =
    let op = c.args.operation.now in
    let batches = c.in_ok-batches.batches in
    let same : batches.items ≡ op.batches.items = search rules in
    let put : c.push.new.self.items ≡ take op.keeps c.args.self.now.posts.items ++ batches ∷ [] = search rules in
    let sheet : c.in-Ok.sheet ≡ op.sheet = search rules in
    let posts : batches_in c.push.new.self.items ≡ take op.keeps (batches_in c.args.self.now.posts.items) ++ op.batches.items ∷ [] =
    ap batches_in put ∙ (cut_and_put (λ v. v.items) op.keeps c.args.self.now.posts.items batches ∙ ap (λ b. take op.keeps (batches_in c.args.self.now.posts.items) ++ b ∷ []) same) in
    λ i. (c.args.self.now.opening.value, posts i, op.count, sheet i)
