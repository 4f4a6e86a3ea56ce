use Rattle.std.proofs.Common.{◌∙◌, ap, length, drop, arith}
use Rattle.ltm_flows.specs.Shown.{version_of}
use Rattle.ltm_core.proofs.Logs.{length_batches}
use Rattle.ltm_session_viewers.proofs.Posts.{leads_newer, shows_now, newer_list, all_same, alike, up_to_date}
use Rattle.ltm_session_viewers.proofs.posting.post_newer.Goals as goal

pub after-batches-requires : goal.after-batches-requires
after-batches-requires g c =
    let few = c.requires.few in
    let long = length_batches c.args.core.now.log in
    let same = ap length c.accepted.ensures in
    omega (arith, few, long, same)

pub post_all-requires-clause-alike : goal.post_all-requires-clause-alike
post_all-requires-clause-alike g c = alike c.args.boards.now _ c.requires.posted

pub post_all-requires-clause-leads : goal.post_all-requires-clause-leads
post_all-requires-clause-leads g c =
    leads_newer c.lists_lead.ensures c.args.core.now c.args.before _ _ _ c.facts.ensures c.requires.posted.0 (c.after-batches.ensures ∙ ap (λ l. drop c.args.before l) c.accepted.ensures) c.scenario.ensures.scenario

pub post_all-requires-clause-loading : goal.post_all-requires-clause-loading
post_all-requires-clause-loading g c =
    shows_now c.logs_tell_all.ensures c.args.core.now c.shown-loading.result.now _ c.shown-loading.ensures.loading c.shown-loading.ensures.is_shown
    (up_to_date _ _ c.args.before _ c.requires.newer (c.version.ensures ∙ ap version_of c.shown-loading.ensures.loading) c.if-version-before.false) c.scenario.ensures.scenario

pub returns-clause-ok : goal.returns-clause-ok
returns-clause-ok g c =
    let up = up_to_date _ _ c.args.before _ c.requires.newer (c.version.ensures ∙ ap version_of c.shown-loading.ensures.loading) c.if-version-before.false in
    all_same c.post_all.new.boards _ _ (newer_list c.args.core.now c.args.before _ _ c.requires.posted.0 (c.after-batches.ensures ∙ ap (λ l. drop c.args.before l) c.accepted.ensures) up) c.in_ok-post_all.ensures.ok
