use Rattle.std.proofs.Common.{rules, arith, ◌<◌, length}
use Rattle.ltm_setting.proofs.Links.{link_item}
use Rattle.ltm_used.proofs.closing.out_link_at.Goals as goal

pub returns-clause-link : goal.returns-clause-link
returns-clause-link c =
    let links = c.out_links-links.result.now in
    let l : c.args.place < length c.out_links-links.result.now = search rules in
    omega (arith, link_item links c.args.place l, c.out_links-links.ensures.links c.args.place l)
