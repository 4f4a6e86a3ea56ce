use Rattle.std.proofs.Common.{◌≡◌, ◌++◌, ◌∷◌, [], arith, sym, ap, subst, ◌∙◌}
use Rattle.std.specs.Prelude.{List, ◌≤◌}
use Rattle.ltm_demand.specs.Origins.{OriginData, rows_of, origin_at, IsAlike}
use Rattle.ltm_demand.proofs.KeptOrigins.{push_alike, push_places, push_rows, alike_through}
use Rattle.ltm_demand.proofs.demand.setting.make_origins.Goals as goal

pub room-preserved : goal.room-preserved
room-preserved c =
    let old = c.room.origins.items in
    let pushed : c.push.new.self.items ≡ old ++ c.new.result ∷ [] = c.in_ok-push.ensures.items in
    let empty = c.new.ensures in
    record {
      alike = λ o. alike_through (origin_at c.args.origins.now.items o) (origin_at old o) (origin_at c.push.new.self.items o) (c.room.invariant.alike o)
          (subst (λ (xs : List OriginData). IsAlike (origin_at old o) (origin_at xs o)) (sym pushed) (push_alike old c.new.result empty.rows empty.table o));
      places = λ o. let more = subst (λ (xs : List OriginData). (origin_at old o).places ≤ (origin_at xs o).places) (sym pushed) (push_places old c.new.result o) in omega (arith, c.room.invariant.places o, more);
      rows = ap rows_of pushed ∙ (push_rows old c.new.result empty.rows ∙ c.room.invariant.rows);
    }
