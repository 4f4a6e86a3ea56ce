use Rattle.std.proofs.Common.{ap, arith}
use Rattle.ltm_index.proofs.Indexed.{reader_within, first_told, next_told}
use Rattle.ltm_index.proofs.read_index.ReadIndex.pointer_after.Goals as goal

pub get-requires-in-Some-clause-at : goal.get-requires-in-Some-clause-at
get-requires-in-Some-clause-at c =
    omega (arith, reader_within c.args.self.now c.args.link.0 c.args.boundary c.in-Some.slot c.requires.link (rw c.in-Some.is at c.requires.after), c.args.self.now.within)

pub returns-in-None : goal.returns-in-None
returns-in-None c = rw c.in-None.is (first_told c.args.self.now c.args.link.0 c.args.boundary c.get.result.first c.requires.link (ap (λ x. x.first) c.get.ensures))

pub returns-in-Some : goal.returns-in-Some
returns-in-Some c = rw c.in-Some.is (next_told c.args.self.now c.args.link.0 c.args.boundary c.in-Some.slot c.get-in-Some.result.next c.requires.link (rw c.in-Some.is at c.requires.after) (ap (λ x. x.next) c.get-in-Some.ensures))
