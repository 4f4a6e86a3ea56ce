use Rattle.std.proofs.Common.{rules, arith, ◌≡◌, ◌≤◌, ◌<◌, ◌+◌, length, take, subst}
use Prim.Native.Nat.{suc}
use Rattle.ltm_board.specs.Panels.{batches_in}
use Rattle.ltm_board.proofs.Cuts.{alike_more, alike_begins}
use Rattle.ltm_board.proofs.same.begins_with.Goals as goal

pub loop-i-preserved : goal.loop-i-preserved
loop-i-preserved c =
    let x = c.index-posts-i.result in
    let y = c.index-others-i.result in
    let same : x.items ≡ y.items = search rules in
    let few : c.loop-i.i < length c.args.others.now = search rules in
    let long : length c.args.others.now ≤ length c.args.posts.now = search rules in
    let more : c.loop-i.i < length c.args.posts.now = omega arith in
    let next : suc c.loop-i.i ≡ c.loop-i.i + 1 = omega arith in
    subst (λ n. batches_in (take n c.args.posts.now) ≡ batches_in (take n c.args.others.now)) next (alike_more (λ v. v.items) c.loop-i.i c.args.posts.now c.args.others.now x y c.index-posts-i.is c.index-others-i.is more few c.loop-i.invariant same)

pub returns : goal.returns
returns c true_is =
    let all : length c.args.others.now ≤ c.loop-i.i = search rules in
    alike_begins (λ v. v.items) c.loop-i.i c.args.posts.now c.args.others.now all c.loop-i.invariant
