use Rattle.std.proofs.Common.{◌≡◌, ap, sym, subst, ◌∙◌, ◌==◌, slice_index_or}
use Rattle.std.proofs.lemmas.List.Elements.{same_from_all_zip}
use Rattle.std.specs.Map.{lookup}
use Rattle.std.specs.Cmp.Lexicographic.{pointwise}
use Rattle.ltm_network.specs.Found.{AreFound}
use Rattle.ltm_network.proofs.names.NamesClone.clone.Goals as goal

pub invariant_of-result : goal.invariant_of-result
invariant_of-result c =
    let names : c.in_ok-clone.field-0.items ≡ c.self.inside.list.items = same_from_all_zip _ c.self.inside.list.items c.in_ok-clone.field-0.items c.in_ok-clone.ensures.cases.0 (λ x y is. is) in
    let places : c.in_ok-clone-2.field-0.entries ≡ c.self.inside.places.entries = same_from_all_zip _ c.self.inside.places.entries c.in_ok-clone-2.field-0.entries c.in_ok-clone-2.ensures.cases (λ x y is. λ i. (is.0 i, is.1 i)) in
    subst (λ ns. AreFound ns c.in_ok-clone-2.field-0) (sym names)
    (λ i d less. ap (λ es. lookup (pointwise ◌==◌ (slice_index_or c.self.inside.list.items i d)) es) places ∙ c.self.invariant i d less)

pub returns : goal.returns
returns c =
    let names : c.in_ok-clone.field-0.items ≡ c.self.inside.list.items = same_from_all_zip _ c.self.inside.list.items c.in_ok-clone.field-0.items c.in_ok-clone.ensures.cases.0 (λ x y is. is) in
    record { cases = names ∙ c.self.view_is }
