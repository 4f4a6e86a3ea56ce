use Rattle.std.proofs.Common.{◌≡◌, ◌-◌, ◌+◌, ◌++◌, ◌<◌, ◌∷◌, [], List, ap, ◌∙◌, arith, replicate, length, length-append}
use Rattle.std.proofs.lemmas.Grind.{common_steps}
use Rattle.std.specs.Vec.{vec_len, vec_capacity}
use Rattle.ltm_curve.proofs.Longer.{one_longer}
use Rattle.ltm_curve.proofs.curves.room.fill_to.Goals as goal

pub loop-place-preserved : goal.loop-place-preserved
loop-place-preserved g c =
    let free : vec_len c.loop-place.table < vec_capacity c.loop-place.table = omega (arith, c.requires.room) in
    let ok = c.push-pushed.ensures.succeeds free in
    let pushed : c.push-pushed.new.self.items ≡ c.loop-place.table.items ++ (c.args.number ∷ []) = grind (arith, common_steps) in
    let long : length c.push-pushed.new.self.items ≡ length (c.loop-place.table.items ++ (c.args.number ∷ [])) = ap length pushed in
    let n = c.loop-place._place - length c.args.table.now.items in
    let more : n + 1 ≡ c.loop-place._place + 1 - length c.args.table.now.items = omega arith in (
      omega (arith, long, length-append c.loop-place.table.items (c.args.number ∷ [])),
      pushed ∙ (ap (λ (xs : List g.row.T.Denot). xs ++ (c.args.number ∷ [])) c.loop-place.invariant.1 ∙ (one_longer c.args.table.now.items n c.args.number ∙ ap (λ z. c.args.table.now.items ++ replicate z c.args.number) more)),
      omega (arith, c.push-pushed.ensures.capacity),
      omega arith,
    )
