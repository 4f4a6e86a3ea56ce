use Rattle.std.proofs.Common.{refl, arith}
use Rattle.ltm_rows.proofs.KeptPlaces.{same_rows, amounts_kept, weights_kept, amounts_resized, weights_resized, wider}
use Rattle.ltm_rows.proofs.rows.KeptRows.reserve.Goals as goal

pub returns-in_err-reserve-clause-same : goal.returns-in_err-reserve-clause-same
returns-in_err-reserve-clause-same c = same_rows c.args.self.now _ (record { narrow = refl; wide = refl }) (λ w v x l. amounts_kept c.args.self.now _ refl refl w v) (λ w v x l. weights_kept c.args.self.now _ refl refl w v) c.reserve.ensures.same.marks (λ p r. refl)

pub returns-in_err-reserve-2-clause-same : goal.returns-in_err-reserve-2-clause-same
returns-in_err-reserve-2-clause-same c = same_rows c.args.self.now _ (record { narrow = refl; wide = refl }) (λ w v x l. amounts_kept c.args.self.now _ refl refl w v) (λ w v x l. weights_kept c.args.self.now _ refl refl w v) c.reserve.ensures.same.marks c.reserve-2.ensures.same.marks

pub returns-in-Err-clause-same : goal.returns-in-Err-clause-same
returns-in-Err-clause-same c = same_rows c.args.self.now _ (record { narrow = refl; wide = refl }) (λ w v x l. amounts_kept c.args.self.now _ refl c.in-Err.ensures.items w v) (λ w v x l. weights_kept c.args.self.now _ refl refl w v) c.reserve.ensures.same.marks c.reserve-2.ensures.same.marks

pub returns-in-Ok-resize-clause-same : goal.returns-in-Ok-resize-clause-same
returns-in-Ok-resize-clause-same c =
    same_rows c.args.self.now _ (record { narrow = refl; wide = refl })
    (amounts_resized c.args.self.now _ _ _ refl (wider c.args.self.now.room c.args.slots _ c.slot_width.result (omega (arith, c.if-slots-self.false)) c.slot_width.ensures.value) c.in-Ok.ensures.items)
    (weights_resized c.args.self.now _ _ _ refl (wider c.args.self.now.room c.args.slots _ c.slot_width-2.result (omega (arith, c.if-slots-self.false)) c.slot_width-2.ensures.value) c.in-Ok-resize.ensures.items) c.reserve.ensures.same.marks c.reserve-2.ensures.same.marks

pub returns-in-Err-resize-clause-same : goal.returns-in-Err-resize-clause-same
returns-in-Err-resize-clause-same c =
    same_rows c.args.self.now _ (record { narrow = refl; wide = refl })
    (amounts_resized c.args.self.now _ _ _ refl (wider c.args.self.now.room c.args.slots _ c.slot_width.result (omega (arith, c.if-slots-self.false)) c.slot_width.ensures.value) c.in-Ok.ensures.items)
    (λ w v x l. weights_kept c.args.self.now _ refl c.in-Err-resize.ensures.items w v) c.reserve.ensures.same.marks c.reserve-2.ensures.same.marks
