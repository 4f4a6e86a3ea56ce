use Rattle.std.proofs.Common.{◌≡◌, ℕ, ◌<◌, List, length, arith, ap, subst, ◌∙◌}
use Rattle.ltm_demand.specs.declared.row.DemandRow.{DemandRow}
use Rattle.ltm_demand.specs.Rows.{DemandData, DemandState}
use Rattle.ltm_demand.specs.Origins.{OriginData, origin_at}
use Rattle.ltm_demand.proofs.KeptOrigins.{IsCopy, copied_rows, kept_copied}
use Rattle.ltm_demand.proofs.demand.Demand.try_copy.Goals as goal

abbrev made : ℕ → ℕ → List DemandRow → DemandData
made slots most rows = record { slots = slots; most_rows = most; rows = rows }

pub invariant_of-result : goal.invariant_of-result
invariant_of-result c =
    let xs = c.self.inside.origins.items in
    let ys = c.loop-origin.origins.items in
    let end : c.loop-origin.origin-index ≡ length xs = omega (arith, c.loop-origin.auto.origin-index-end, c.loop-origin-test.false, ap length c.deref-origin-items.ensures.value) in
    let long : length ys ≡ length xs = c.loop-origin.invariant.long ∙ end in
    let copy : (i : ℕ) → i < length xs → IsCopy (origin_at xs i) (origin_at ys i) = λ i less. subst (λ (zs : List OriginData). IsCopy (origin_at zs i) (origin_at ys i)) c.deref-origin-items.ensures.value (c.loop-origin.invariant.copy i (omega (arith, end, less))) in
    kept_copied c.self.inside.slots c.self.inside.most_rows c.self.inside.tabled c.self.inside.count xs ys long copy c.self.invariant

pub returns : goal.returns
returns c =
    let xs = c.self.inside.origins.items in
    let ys = c.loop-origin.origins.items in
    let end : c.loop-origin.origin-index ≡ length xs = omega (arith, c.loop-origin.auto.origin-index-end, c.loop-origin-test.false, ap length c.deref-origin-items.ensures.value) in
    let long : length ys ≡ length xs = c.loop-origin.invariant.long ∙ end in
    let copy : (i : ℕ) → i < length xs → IsCopy (origin_at xs i) (origin_at ys i) = λ i less. subst (λ (zs : List OriginData). IsCopy (origin_at zs i) (origin_at ys i)) c.deref-origin-items.ensures.value (c.loop-origin.invariant.copy i (omega (arith, end, less))) in
    record {
      demand = ap (made c.self.inside.slots c.self.inside.most_rows) (copied_rows xs ys long copy) ∙ ap (λ (d : DemandState). d.demand) c.self.view_is;
      tabled = ap (λ (d : DemandState). d.tabled) c.self.view_is;
    }
