use Rattle.ltm_used.proofs.nodes.found_at.Goals as goal

pub returns-clause-links : goal.returns-clause-links
returns-clause-links c = λ i d has listed. c.in_ok-find_produced.ensures.grows.keeps d (c.in_ok-find_links.ensures.found i d has listed)
