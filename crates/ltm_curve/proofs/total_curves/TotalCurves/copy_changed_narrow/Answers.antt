use Rattle.std.proofs.Common.{◌≡◌, ℕ, ◌+◌, ◌*◌, ◌<◌, ◌≤◌, List, length, inl, inr, arith, refl, ap, sym, ◌∙◌}
use Rattle.std.proofs.lemmas.List.{with_items_is}
use Rattle.ltm_curve.specs.Table.{total_of}
use Rattle.ltm_curve.specs.Totals.{row_sum}
use Rattle.ltm_curve.specs.declared.total_curves.TotalCurves.{TotalCurves}
use Rattle.ltm_curve.proofs.PutOver.{put_over, length_over}
use Rattle.ltm_curve.proofs.TotalPlaces.{row_within, row_here, row_copied, row_long, row_at, total_is}
use Rattle.ltm_curve.proofs.total_curves.TotalCurves.copy_changed_narrow.Goals as goal

pub returns-clause-copied : goal.returns-clause-copied
returns-clause-copied c =
    let t : TotalCurves = c.args.self.now in
    let k : ℕ = c.args.boundary in
    let from : ℕ = k * t.narrow in
    let to : ℕ = from + t.narrow in
    let items : List ℕ = t.totals.items in
    let ys : List ℕ = c.copy_words.new.into in
    let slot : k ≤ t.slots = omega (arith, c.requires.boundary, c.requires.shape.same_slots) in
    let within : to ≤ length items = row_within t k slot in
    let long : length ys ≡ t.narrow = c.copy_words.ensures.count ∙ row_long c.deref_mut.result.now from t.narrow (omega (arith, within, c.deref_mut.ensures.len)) in
    let written : put_over from to c.deref_mut.result.now ys ≡ put_over from to items ys = ap (λ (xs : List ℕ). put_over from to xs ys) c.deref_mut.ensures.value in
    let same : length (put_over from to items ys) ≡ length items = length_over from to items ys (omega arith) within (omega (arith, long)) in
    let over = with_items_is t.totals (put_over from to c.deref_mut.result.now ys) (ap length written ∙ (same ∙ (ap length (sym c.deref_mut.ensures.value) ∙ c.deref_mut.ensures.len))) ∙ written in
    let is : (g : ℕ) → g < t.narrow → row_sum c.totals_at-totals.result.numbers.now c.totals_at-totals.result.each g ≡ total_of c.args.curves.now g k = λ g l.
    total_is c.args.curves.now k g _ _ c.requires.small c.requires.boundary c.totals_at-totals.ensures.totals (omega (arith, l, c.requires.shape.same_groups)) in
    λ g x marked.
    let low : g < t.narrow = omega (arith, x, c.requires.shape.same_groups) in
    row_here t _ k ys g slot long refl over low ∙ (c.copy_words.ensures.copied g (omega (arith, long, c.copy_words.ensures.count, low)) marked ∙ is g low)

pub returns-clause-others : goal.returns-clause-others
returns-clause-others c =
    let t : TotalCurves = c.args.self.now in
    let k : ℕ = c.args.boundary in
    let from : ℕ = k * t.narrow in
    let to : ℕ = from + t.narrow in
    let items : List ℕ = t.totals.items in
    let ys : List ℕ = c.copy_words.new.into in
    let slot : k ≤ t.slots = omega (arith, c.requires.boundary, c.requires.shape.same_slots) in
    let within : to ≤ length items = row_within t k slot in
    let long : length ys ≡ t.narrow = c.copy_words.ensures.count ∙ row_long c.deref_mut.result.now from t.narrow (omega (arith, within, c.deref_mut.ensures.len)) in
    let written : put_over from to c.deref_mut.result.now ys ≡ put_over from to items ys = ap (λ (xs : List ℕ). put_over from to xs ys) c.deref_mut.ensures.value in
    let same : length (put_over from to items ys) ≡ length items = length_over from to items ys (omega arith) within (omega (arith, long)) in
    let over = with_items_is t.totals (put_over from to c.deref_mut.result.now ys) (ap length written ∙ (same ∙ (ap length (sym c.deref_mut.ensures.value) ∙ c.deref_mut.ensures.len))) ∙ written in
    let is : (g : ℕ) → g < t.narrow → row_sum c.totals_at-totals.result.numbers.now c.totals_at-totals.result.each g ≡ total_of c.args.curves.now g k = λ g l.
    total_is c.args.curves.now k g _ _ c.requires.small c.requires.boundary c.totals_at-totals.ensures.totals (omega (arith, l, c.requires.shape.same_groups)) in
    λ g j x. row_copied t _ c.args.curves.now k ys slot long refl over refl (λ g low.
    elim (c.copy_words.ensures.others g (omega (arith, long, c.copy_words.ensures.count, low))) [ inl a ↦ inl (a ∙ is g low) | inr b ↦ inr (b ∙ row_at t k g c.deref_mut.result.now c.deref_mut.ensures.value low) ]) g j
