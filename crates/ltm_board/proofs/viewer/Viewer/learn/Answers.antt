use Rattle.std.proofs.Common.{◌∙◌, refl, sym, ap, subst}
use mathlib.Core.List.{IsPrefix}
use Rattle.ltm_board.specs.declared.panel.Panel.{Panel}
use Rattle.ltm_board.specs.Panels.{posts_of}
use Rattle.ltm_board.specs.Known.{HasSeen, lists_of}
use Rattle.ltm_board.proofs.Seen.{is_there, seen_more}
use Rattle.ltm_board.proofs.viewer.Viewer.learn.Goals as goal

pub invariant_of-self : goal.invariant_of-self
invariant_of-self g c =
    let known = lists_of c.self.inside.told in
    let new = c.find_in-reader.result.place.me.0.client.seen in
    let had = is_there (λ r. HasSeen r.place.me.0.client.seen known) c.self.inside.reader c.in-Some.reader c.self.invariant.1 (sym c.take.ensures.value ∙ c.in-Some.is) in
    let found = subst (λ (p : Panel). IsPrefix (posts_of p) new) (sym c.of.ensures) c.find_in-reader.ensures.found in
    (refl, seen_more c.in-Some.reader.place.me.0.client.seen new (posts_of c.of.result.value) known (lists_of c.of-2.result.value) had c.find_in-reader.ensures.begins found (ap lists_of c.of-2.ensures))
