use Rattle.std.proofs.Common.{sym, ap, ◌∙◌}
use Rattle.ltm_board.specs.declared.glimpse.Glimpse.{Glimpse}
use Rattle.ltm_board.specs.Lists.{entries_of_posts, opening_of, links_told}
use Rattle.ltm_board.proofs.looking.read_in.Goals as goal

pub read_once-requires-clause-links : goal.read_once-requires-clause-links
read_once-requires-clause-links g c =
    let (can, ends, same, links) = c.loop.invariant in
    links ∙ (c.requires.links ∙ ap (λ (v : Glimpse). links_told (entries_of_posts (opening_of v.seen))) (sym same))

pub returns-in-Ok-clause-links : goal.returns-in-Ok-clause-links
returns-in-Ok-clause-links g c = c.read_once.ensures.links ∙ c.loop.invariant.3
