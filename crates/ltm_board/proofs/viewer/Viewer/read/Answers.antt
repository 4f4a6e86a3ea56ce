use Rattle.std.proofs.Common.{rules, ◌≡◌, ◌∙◌, List, refl, sym, ap, subst}
use mathlib.Core.List.{IsPrefix}
use Rattle.ltm_board.specs.Lists.{PostData}
use Rattle.ltm_board.specs.Begins.{BeginsWith}
use Rattle.ltm_board.specs.Panels.{posts_of}
use Rattle.ltm_board.specs.Known.{HasSeen, lists_of}
use Rattle.ltm_board.proofs.Lists.{itself, all_later}
use Rattle.ltm_board.proofs.Seen.{is_there, seen_more}
use Rattle.ltm_board.proofs.viewer.Viewer.read.Goals as goal

pub invariant_of-self : goal.invariant_of-self
invariant_of-self g c =
    let known = lists_of c.self.inside.told in
    let new : List PostData = c.read_in-count.result.1.place.me.0.client.seen in
    let had = is_there (λ r. HasSeen r.place.me.0.client.seen known) c.self.inside.reader c.in-Some.reader c.self.invariant.1 (sym c.take.ensures.value ∙ c.in-Some.is) in
    let read = c.read_in-count.ensures.read in
    let found = subst (λ (l : List PostData). IsPrefix l new) (sym read.posts) (itself new) in
    (refl, seen_more c.in-Some.reader.place.me.0.client.seen new (posts_of c.read_in-count.result.0.panel.value) known (lists_of c.of.result.value) had read.begins found (ap lists_of c.of.ensures))

pub returns-clause-begins : goal.returns-clause-begins
returns-clause-begins g c =
    let known = lists_of c.self.inside.told in
    let old : List PostData = c.in-Some.reader.place.me.0.client.seen in
    let new : List PostData = c.read_in-count.result.1.place.me.0.client.seen in
    let had = is_there (λ r. HasSeen r.place.me.0.client.seen known) c.self.inside.reader c.in-Some.reader c.self.invariant.1 (sym c.take.ensures.value ∙ c.in-Some.is) in
    let read = c.read_in-count.ensures.read in
    let same : c.args.self.now.known ≡ known = search rules in
    let all : BeginsWith new known = all_later old new known read.begins had.begins in
    subst (λ (ls : List (List PostData)). BeginsWith (posts_of c.read_in-count.result.0.panel.value) ls) (sym same) (subst (λ (l : List PostData). BeginsWith l known) (sym read.posts) all)
