use Rattle.std.proofs.Common.{refl, arith}
use Rattle.ltm_rows.proofs.RowPlaces.{items_written}
use Rattle.ltm_rows.proofs.ClaimPlaces.{one_slot, writes_claim}
use Rattle.ltm_rows.proofs.claim_rows.ClaimRows.put.Goals as goal

pub returns : goal.returns
returns c =
    writes_claim c.args.self.now _ c.args.node c.args.row.now c.requires.node c.requires.width refl
    (items_written c.args.self.now.places c.args.self.now.numbers 1 c.args.node 0 _ _ _ _ c.args.row.now c.requires.node (omega arith) (one_slot c.args.self.now) c.requires.width
    c.bounds-from.ensures.start c.bounds-from.ensures.end c.deref_mut.ensures.value c.write_row.ensures)
