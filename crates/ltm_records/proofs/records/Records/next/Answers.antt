use Rattle.std.proofs.Common.{Some, Bor, List, ℕ, refl}
use Rattle.ltm_records.proofs.Taking.{taken, ended}
use Rattle.ltm_records.proofs.records.Records.next.Goals as goal

pub returns-in-Ok-clause-found : goal.returns-in-Ok-clause-found
returns-in-Ok-clause-found c = λ found.
    let is = c.self.invariant c.if-self.false in
    let read = rw found at (c.in-Ok.ensures.reads is.trim is.ready) in
    rw (← c.self.view_is, c.if-self.false, found) (taken (λ (s : Bor (List ℕ)). Some s.now) c.self.inside.reader c.read_byte_record.new.self _ _ refl is read)

pub returns-in-Ok-clause-end : goal.returns-in-Ok-clause-end
returns-in-Ok-clause-end c = λ found.
    let is = c.self.invariant c.if-self.false in
    let read = rw found at (c.in-Ok.ensures.reads is.trim is.ready) in
    rw (← c.self.view_is, c.if-self.false, found) (ended (λ (s : Bor (List ℕ)). Some s.now) c.self.inside.reader c.read_byte_record.new.self _ _ refl is read, refl)
