use Rattle.std.proofs.Common.{◌-◌, ℕ, length, arith, subst}
use Rattle.ltm_existence.specs.Existence.{HasLoading}
use Rattle.ltm_loading.specs.Setting.{Setting}
use Rattle.ltm_setting.specs.Setting.{setting_of}
use Rattle.ltm_lean_kept.specs.Kept.{PutsLinks, PutsOrigins}
use Rattle.ltm_lean_kept.proofs.Keeping.{departed_small, kept_next}
use Rattle.ltm_lean_kept.proofs.kept.keep.Goals as goal

pub put_origins-requires-clause-small : goal.put_origins-requires-clause-small
put_origins-requires-clause-small c u x =
    let s : Setting = setting_of c.args.scenario.now in
    let some : HasLoading s = c.there_is_a_loading.ensures s c.is_setting.ensures.setting in
    departed_small s some.counts c.args.tables.now c.args.nodes.now (c.args.boundary - 1) c.args.boundary u c.totals_small.ensures c.is_setting.ensures.setting some.loading c.requires.nodes
    (c.requires.left some.counts some.loading) c.requires.boundary (omega (arith, x, c.requires.nodes.count))

pub returns-clause-kept : goal.returns-clause-kept
returns-clause-kept c counts loading kept =
    let s : Setting = setting_of c.args.scenario.now in
    let links : PutsLinks c.args.tables.now s.links c.args.boundary c.args.curves.now c.put_links.new.curves =
    subst (λ (n : ℕ). PutsLinks c.args.tables.now n c.args.boundary c.args.curves.now c.put_links.new.curves) c.link_count-links.ensures.value c.put_links.ensures in
    let origins : PutsOrigins c.args.nodes.now s.links s.nodes c.args.boundary c.put_links.new.curves c.put_origins.new.curves =
    subst (λ (n : ℕ). PutsOrigins c.args.nodes.now s.links n c.args.boundary c.put_links.new.curves c.put_origins.new.curves) c.requires.nodes.count
    (subst (λ (n : ℕ). PutsOrigins c.args.nodes.now n (length c.args.nodes.now) c.args.boundary c.put_links.new.curves c.put_origins.new.curves) c.link_count-links.ensures.value c.put_origins.ensures) in
    kept_next s counts c.args.tables.now c.args.nodes.now (c.args.boundary - 1) c.args.boundary c.args.curves.now c.put_links.new.curves c.put_origins.new.curves c.is_setting.ensures.setting loading c.requires.boundary c.requires.nodes
    (c.requires.frozen counts loading) (c.requires.left counts loading) c.requires.shape links origins kept
