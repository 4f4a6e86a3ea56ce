use Rattle.std.proofs.Common.{◌≡◌, ◌≢◌, ◌<◌, ◌++◌, ◌-◌, ℕ, List, length, take, drop, slice_index, length-drop, arith, sym, ap, subst, ◌∙◌}
use Rattle.std.proofs.lemmas.List.{take_all}
use Rattle.ltm_records.specs.Left.{records_of}
use Rattle.ltm_check.proofs.Reaching.{cut_records}
use Rattle.ltm_check.proofs.file.read_front.Goals as goal

pub returns-in-Err-clause-fault : goal.returns-in-Err-clause-fault
returns-in-Err-clause-fault c bytes more h =
    let text : List ℕ = c.args.text.now.items in
    let cut : ℕ = c.cut_of-cut.result in
    let some : 0 < cut = omega (arith, c.if-cut-eq0.false) in
    let value = c.as_slice.ensures.value in
    let inside : cut < length text = subst (λ (z : List ℕ). cut < length z) value (c.cut_of-cut.ensures.there some) in
    let line : slice_index text cut ≡ 10 = subst (λ (z : List ℕ). slice_index z cut ≡ 10) value (c.cut_of-cut.ensures.line some) in
    let unquoted : (k : ℕ) → k < cut → slice_index text k ≢ 34 = subst (λ (z : List ℕ). (k : ℕ) → k < cut → slice_index z k ≢ 34) value c.cut_of-cut.ensures.unquoted in
    let parts = cut_records text more cut c.cut_at_line_end.ensures inside line unquoted in
    c.in-Err.ensures.fault (records_of (bytes ++ more)) (records_of (drop cut text ++ more)) (h.read more) (h.left more ∙ (parts ∙ ap (λ (z : List ℕ). records_of (take cut z) ++ records_of (drop cut text ++ more)) (sym c.deref.ensures.value)))

pub returns-clause-right : goal.returns-clause-right
returns-clause-right c bytes h =
    let text : List ℕ = c.args.text.now.items in
    let cut : ℕ = c.cut_of-cut.result in
    let some : 0 < cut = omega (arith, c.if-cut-eq0.false) in
    let value = c.as_slice.ensures.value in
    let inside : cut < length text = subst (λ (z : List ℕ). cut < length z) value (c.cut_of-cut.ensures.there some) in
    let line : slice_index text cut ≡ 10 = subst (λ (z : List ℕ). slice_index z cut ≡ 10) value (c.cut_of-cut.ensures.line some) in
    let unquoted : (k : ℕ) → k < cut → slice_index text k ≢ 34 = subst (λ (z : List ℕ). (k : ℕ) → k < cut → slice_index z k ≢ 34) value c.cut_of-cut.ensures.unquoted in
    let rest : c.in-Ok-from_slice.rest.items ≡ drop cut text = c.in-Ok-from_slice.ensures.items ∙ (ap (λ (z : List ℕ). take (length z - cut) (drop cut z)) c.deref-2.ensures.value ∙ take_all (length text - cut) (drop cut text) (omega (arith, length-drop cut text))) in
    let at = λ (more : List ℕ). c.in-Ok.ensures.right (records_of (bytes ++ more)) (records_of (drop cut text ++ more)) (h.read more) (h.left more ∙ (cut_records text more cut c.cut_at_line_end.ensures inside line unquoted ∙ ap (λ (z : List ℕ). records_of (take cut z) ++ records_of (drop cut text ++ more)) (sym c.deref.ensures.value))) in record {
      read = λ more. (at more).0;
      left = λ more. (at more).1 ∙ ap (λ (z : List ℕ). records_of (z ++ more)) (sym rest);
    }
