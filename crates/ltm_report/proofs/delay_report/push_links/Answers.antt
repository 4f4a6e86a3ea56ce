use Rattle.std.proofs.Common.{ℕ, ◌≡◌, ◌<◌, length, ap, subst, sym, arith}
use Rattle.ltm_network.specs.Network.{NetworkData}
use Rattle.ltm_setting.specs.Setting.{setting_of}
use Rattle.ltm_flows.specs.Shown.{links_of}
use Rattle.ltm_times.specs.declared.delays.LinkDelay.{LinkDelay}
use Rattle.ltm_times.specs.Delays.{IsLinkDelay}
use Rattle.ltm_report.specs.DelayReports.{link_delay_of}
use Rattle.ltm_report.proofs.Rowed.{one_text_more}
use Rattle.ltm_report.proofs.delay_report.push_links.Goals as goal

pub index-requires : goal.index-requires
unfolding setting_of
index-requires c =
    let (counts, shows) = c.requires in
    let links : links_of c.args.loading.now ≡ length c.args.scenario.now.network.links = shows.links in
    let network : length c.network.result.now.links ≡ length c.args.scenario.now.network.links = ap (λ (n : NetworkData). length n.links) c.network.ensures in
    omega (arith, c.loop-link-test.true, c.links-link-end.ensures.count, network, links, c.in_ok-delays.ensures.count, c.in_ok-delays.delays.ok)

pub loop-link-preserved : goal.loop-link-preserved
unfolding setting_of
loop-link-preserved c counts shows =
    let s = setting_of c.args.scenario.now in
    let link : ℕ = c.loop-link.link in
    let delay : LinkDelay = c.index.result.now in
    let network : length c.network.result.now.links ≡ length c.args.scenario.now.network.links = ap (λ (n : NetworkData). length n.links) c.network.ensures in
    let there : link < s.links = omega (arith, c.loop-link-test.true, c.links-link-end.ensures.count, network) in
    let is = subst (λ (d : LinkDelay). IsLinkDelay s counts link d) (sym c.index.ensures) (c.in_ok-delays.ensures.shown s 0 counts shows link delay there) in
    one_text_more link (link_delay_of c.args.scenario.now counts) _ _ _ (c.loop-link.invariant counts shows) (c.in_ok-push_link.ensures counts is)
