use Rattle.std.proofs.Common.{◌≡◌, ap, sym, ◌∙◌, None, Some, subst, length, ◌==◌, slice_index_or, arith}
use Rattle.std.specs.HashMap as hash
use Rattle.std.specs.Map.{lookup}
use Rattle.std.specs.Cmp.Lexicographic.{pointwise}
use Rattle.ltm_network.specs.Names.{place_of}
use Rattle.ltm_network.specs.Found.{AreFound}
use Rattle.ltm_network.proofs.Finding.{others_kept, one_more}
use Rattle.ltm_network.proofs.names.Names.push.Goals as goal

pub invariant_of-self : goal.invariant_of-self
invariant_of-self c = λ i d less. ap (λ es. lookup (pointwise ◌==◌ (slice_index_or c.self.inside.list.items i d)) es) c.in_err-insert.ensures.err ∙ c.self.invariant i d less

pub invariant_of-self-in_err-push : goal.invariant_of-self-in_err-push
invariant_of-self-in_err-push c =
    let absent : place_of c.self.inside.list.items c.args.name ≡ None = ap (λ names. place_of names c.args.name) c.self.view_is ∙ c.requires.new in
    let kept = others_kept c.self.inside.list.items c.self.inside.places c.insert.new.self c.args.name c.self.invariant absent c.in_ok-insert.ensures.updates.2 in
    subst (λ names. AreFound names c.insert.new.self) (sym c.in_err-push.ensures.items) kept

pub invariant_of-self-2 : goal.invariant_of-self-2
invariant_of-self-2 c =
    let absent : place_of c.self.inside.list.items c.args.name ≡ None = ap (λ names. place_of names c.args.name) c.self.view_is ∙ c.requires.new in
    let kept = others_kept c.self.inside.list.items c.self.inside.places c.insert.new.self c.args.name c.self.invariant absent c.in_ok-insert.ensures.updates.2 in
    let count : c.len-place.result ≡ length c.self.inside.list.items = omega (arith, c.len-place.ensures, c.self.inside.list.ok) in
    let here : hash.get (pointwise ◌==◌) c.insert.new.self c.args.name ≡ Some (length c.self.inside.list.items) = c.in_ok-insert.ensures.updates.1 ∙ ap Some count in
    subst (λ names. AreFound names c.insert.new.self) (sym c.in_ok-push.ensures.items) (one_more c.self.inside.list.items c.insert.new.self c.args.name kept here)
