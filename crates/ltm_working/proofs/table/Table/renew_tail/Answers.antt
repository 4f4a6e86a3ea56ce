use Rattle.std.proofs.Common.{ℕ, sym, subst}
use Rattle.ltm_working.specs.Rewriting.{FitsRow}
use Rattle.ltm_working.proofs.table.Table.renew_tail.Goals as goal

pub renew-requires : goal.renew-requires
renew-requires c = subst (λ (g : ℕ). FitsRow c.args.row.given c.args.self.now.curves c.args.self.now.changed g c.args.row.slot c.args.row.numbers.now) (sym c.down_of.ensures) c.requires.row
