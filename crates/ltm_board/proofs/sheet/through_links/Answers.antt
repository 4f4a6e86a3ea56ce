use Rattle.std.proofs.Common.{rules, ◌≡◌, ◌+◌, ◌++◌, ◌∷◌, [], List, arith, sym, ap, subst, ◌∙◌}
use Rattle.std.proofs.lemmas.List.{length_push}
use Rattle.ltm_flows.specs.Totals.{entered_link, left_link}
use Rattle.ltm_flows.specs.Shown.{links_of}
use Rattle.ltm_board.specs.declared.through.Through.{Through}
use Rattle.ltm_board.specs.Making.{AreThrough}
use Rattle.ltm_board.proofs.Rows.{pushed}
use Rattle.ltm_board.proofs.sheet.through_links.Goals as goal

pub loop-link-preserved : goal.loop-link-preserved
loop-link-preserved c =
    let l = c.args.loading.now in
    let i = c.loop-link.link in
    let xs = c.loop-link.through.items in
    let before = c.loop-link.invariant in
    let x : Through = record { entered = c.entered-entered.result; left = c.left-left.result } in
    let now : c.push.new.self.items ≡ xs ++ x ∷ [] = search rules in
    subst (λ (ys : List Through). AreThrough l (i + 1) ys) (sym now) (record {
      links_are = length_push xs x ∙ ap (λ n. n + 1) before.links_are;
      entered = λ s version counts link shows less. pushed (λ (t : Through). t.entered.0) xs x i (λ k. entered_link s counts k s.slots) before.links_are (c.entered-entered.ensures.shown s version counts shows) (λ k m. before.entered s version counts k shows m) link less;
      left = λ s version counts link shows less. pushed (λ (t : Through). t.left.0) xs x i (λ k. left_link s counts k s.slots) before.links_are (c.left-left.ensures.shown s version counts shows) (λ k m. before.left s version counts k shows m) link less;
    })

pub returns : goal.returns
returns c =
    let end : c.loop-link.link ≡ links_of c.args.loading.now = omega (arith, c.loop-link.auto.link-end, c.loop-link-test.false, c.links-links.ensures.value) in
    subst (λ n. AreThrough c.args.loading.now n c.loop-link.through.items) end c.loop-link.invariant
