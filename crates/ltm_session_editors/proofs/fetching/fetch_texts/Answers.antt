use Rattle.std.proofs.Common.{get_or, [], ◌∷◌, ◌∙◌, arith, ap, refl, length, length-append}
use Rattle.ltm_io.specs.declared.doc.Doc.TheVariants.{Setup}
use Rattle.ltm_session_editors.specs.Each.{each_from}
use Rattle.ltm_session_editors.specs.Files.{text_at}
use Rattle.ltm_session_editors.proofs.Each.{contains_at}
use Rattle.ltm_session_editors.proofs.Missing.{missing_so, one_fetched, fault_fetched, all_fetched}
use Rattle.ltm_session_editors.proofs.fetching.fetch_texts.Goals as goal

pub returns-in-Err-clause-missed : goal.returns-in-Err-clause-missed
returns-in-Err-clause-missed g c =
    let l = c.loop-doc in
    let d = get_or c.args.docs.now l.doc-index Setup in
    missing_so _ _ c.in-Err.fault (λ rose. (d, contains_at c.args.docs.now l.doc-index Setup d c.loop-doc-test.true refl, (let before = l.invariant.later d in omega (arith, before, rose)))) c.in-Err.ensures.missed

pub returns-in-Err-clause-fault : goal.returns-in-Err-clause-fault
returns-in-Err-clause-fault g c =
    let l = c.loop-doc in
    fault_fetched _ _ c.args.docs.now l.doc-index l.editor Setup l.texts.items (λ files. each_from (text_at files) 1 c.args.docs.now) _ l.invariant.keeps c.loop-doc-test.true l.invariant.given c.in-Err.ensures.fault

pub loop-doc-preserved : goal.loop-doc-preserved
loop-doc-preserved g c =
    let l = c.loop-doc in
    let items = rw c.if-is_err.ensures.negation at c.push.ensures.items in
    let few = ap (λ xs. length xs) items in record {
      number = omega arith;
      count = let now = l.invariant.count in omega (arith, few, now, length-append l.texts.items (c.in-Ok.text ∷ []));
      keeps = c.fetch_text.ensures.keeps ∙ l.invariant.keeps;
      given = rw items (one_fetched _ _ c.args.docs.now l.doc-index l.editor Setup l.texts.items (λ files. each_from (text_at files) 1 c.args.docs.now) c.in-Ok.text l.invariant.keeps c.loop-doc-test.true l.invariant.given c.in-Ok.ensures.ok);
      later = λ d. let before = l.invariant.later d in let now = c.fetch_text.ensures.later d in omega (arith, before, now);
      others = λ d out. c.fetch_text.ensures.others d (λ same. out (contains_at c.args.docs.now l.doc-index Setup d c.loop-doc-test.true same)) ∙ l.invariant.others d out;
    }

pub returns-clause-ok : goal.returns-clause-ok
returns-clause-ok g c =
    let l = c.loop-doc in
    all_fetched (g.F.Folder.told c.args.folder.now) (g.F.Folder.told c.args.folder.now) c.args.docs.now l.doc-index l.editor Setup l.texts.items (λ files. each_from (text_at files) 1 c.args.docs.now) c.loop-doc-test.false l.invariant.given
