use Rattle.std.proofs.Common.{rules, ◌≡◌, ℕ, ◌*◌, ◌++◌, ◌∷◌, [], length, refl, ap, ◌∙◌}
use Rattle.ltm_setting.specs.Setting.{setting_of}
use Rattle.ltm_used.specs.Lists.{found_from, found_on}
use Rattle.ltm_used.proofs.Listing.{parts_on}
use Rattle.ltm_used.proofs.listed.lists.Goals as goal

pub loop-link-preserved : goal.loop-link-preserved
loop-link-preserved c =
    let s = setting_of c.args.scenario.now in
    let long : c.len.result ≡ length c.add_found.new.into.items = search rules in
    parts_on c.loop-link.starts.items c.loop-link.destinations.items c.push-in-loop-link.new.self.items c.add_found.new.into.items c.loop-link.link (λ j ds. ds ≡ found_on s c.args.found.now j) (found_on s c.args.found.now c.loop-link.link)
    (c.in_ok-add_found.ensures ∙ ap (λ (z : ℕ). c.loop-link.destinations.items ++ found_from c.args.found.now (c.loop-link.link * z) z) c.destination_count-many.ensures.value)
    (c.in_ok-push-2.ensures.items ∙ ap (λ (z : ℕ). c.loop-link.starts.items ++ z ∷ []) long)
    c.loop-link.invariant refl
