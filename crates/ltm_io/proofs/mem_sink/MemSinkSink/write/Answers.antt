use Rattle.std.proofs.Common.{◌≡◌, ◌∙◌, false, sym, rules}
use Rattle.std.proofs.lemmas.Bool.{false≢true}
use Rattle.ltm_io.specs.MemSink.{fails_next}
use Rattle.ltm_io.proofs.mem_sink.MemSinkSink.write.Goals as goal

pub returns-then-is_err-clause-fails : goal.returns-then-is_err-clause-fails
returns-then-is_err-clause-fails c =
    let succeeds : fails_next c.args.self.now ≡ false = search rules in
    (λ fault. search rules, λ listed. absurd (false≢true (sym succeeds ∙ listed)))

pub returns-clause-fails : goal.returns-clause-fails
returns-clause-fails c =
    let succeeds : fails_next c.args.self.now ≡ false = search rules in
    (λ fault. search rules, λ listed. absurd (false≢true (sym succeeds ∙ listed)))
