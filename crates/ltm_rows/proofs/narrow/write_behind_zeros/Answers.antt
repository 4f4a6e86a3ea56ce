use Rattle.std.proofs.Common.{◌≡◌, take, length, refl, ap, ◌∙◌, arith}
use Rattle.ltm_rows.proofs.PartRows.{zeros_are}
use Rattle.ltm_rows.proofs.narrow.write_behind_zeros.Goals as goal

pub returns : goal.returns
returns c =
    let front : c.split_at_mut-zeros.result.0.now ≡ c.args.front.now = c.split_at_mut-zeros.ensures.front ∙ (ap (take (length c.args.front.now)) c.requires.zeros ∙ zeros_are c.args.front.now _ c.requires.front (omega arith)) in
    rw (front, c.write_narrow.ensures) refl
