use Rattle.std.proofs.Common.{sym, ap, ◌∙◌}
use Rattle.left_right.specs.Sides.{view}
use Rattle.ltm_board.specs.declared.panel.Panel.{Panel}
use Rattle.ltm_board.specs.Sheets.{links_on}
use Rattle.ltm_board.specs.Panels.{posts_of}
use Rattle.ltm_board.proofs.Right.{links_seen}
use Rattle.ltm_board.proofs.Rules.{looks}
use Rattle.ltm_board.proofs.looking.read_once.Goals as goal

pub enter_as-requires : goal.enter_as-requires
enter_as-requires c = looks _ _

pub copy_from-requires : goal.copy_from-requires
copy_from-requires c =
    let panel : Panel = c.in_ok-reading.reading.part.value in
    let looked = c.in_ok-reading.ensures.1 in
    let links = links_seen c.edits_make.ensures (view c.args.reader.place).seen (posts_of panel) panel.sheet c.requires.opened looked.2 looked.0.sheet in
    c.requires.links ∙ (sym links ∙ ap (λ (p : Panel). links_on p.sheet) (sym c.get-panel.ensures))

pub returns-clause-links : goal.returns-clause-links
returns-clause-links c =
    let panel : Panel = c.in_ok-reading.reading.part.value in
    let looked = c.in_ok-reading.ensures.1 in
    let links = links_seen c.edits_make.ensures (view c.args.reader.place).seen (posts_of panel) panel.sheet c.requires.opened looked.2 looked.0.sheet in
    ap links_on c.copy_from.ensures ∙ (ap (λ (p : Panel). links_on p.sheet) c.get-panel.ensures ∙ (links ∙ sym c.requires.links))
