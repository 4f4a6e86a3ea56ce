use Rattle.std.proofs.Common.{arith, ◌≤◌, ◌-◌, length, Some, ap, List, ℕ}
use Rattle.ltm_io.proofs.Pieces.{piece_moves}
use Rattle.ltm_io.proofs.sure_source.SureSourceSource.read.Goals as goal

pub returns-clause-took : goal.returns-clause-took
returns-clause-took c =
    let at = c.args.self.now.at in
    let bytes : List ℕ = c.args.self.now.bytes.items in
    let taken = c.min-taken.result in
    let fits : taken ≤ length bytes - at = omega (arith, c.min-taken.ensures, c.min.ensures, c.deref.ensures.len) in
    ap Some (piece_moves bytes c.copy_from_slice.new.self _ at taken fits (rw c.deref.ensures.value at c.copy_from_slice.ensures.after))
