use Rattle.std.proofs.Common.{refl}
use Rattle.ltm_session.specs.Answers.{AnswersAlone}
use Rattle.ltm_program.specs.Sessions.{IsServed}
use Rattle.ltm_command.specs.declared.words.Command.TheVariants as command
use Rattle.ltm_command.specs.declared.words.Report.TheVariants as report
use Rattle.ltm_command.specs.Run.{outside}
use Rattle.ltm_command.proofs.Running.{stays}
use Rattle.ltm_program.proofs.Cases.{nothing_accepted, nothing_counted, session_began, run_case, run_unread}
use Rattle.ltm_program.proofs.Closings.{run_served}
use Rattle.ltm_program.proofs.serve.serve.Goals as goal

pub serve_alone-end-requires : goal.serve_alone-end-requires
serve_alone-end-requires g c = record { fresh = nothing_accepted _ c.in-Ok.core c.in-Ok.ensures.begun }

pub returns-in-Ok : goal.returns-in-Ok
returns-in-Ok g c =
    let core = c.in-Ok.core in let none = nothing_counted _ core c.in-Ok.ensures.begun in
    let (output, so, wrote) = c.serve_alone-end.ensures.session in
    run_case _ (IsServed AnswersAlone (g.S.Source.left c.args.input.now) (g.S.Source.left c.serve_alone-end.new.source)) core.log.opening c.close.result (g.F.Folder.told c.args.folder.now) (g.F.Folder.faults c.args.folder.now)
    (outside (g.F.Folder.told c.open_case.new.folder) (g.F.Folder.faults c.open_case.new.folder) (g.S.Source.left c.args.input.now) (g.S.Source.faults c.args.input.now) (g.W.Sink.written c.args.output.now) (g.W.Sink.faults c.args.output.now)) _ c.open_case.ensures.keeps
    (stays _ _ (command.Report report.Load) _ c.open_case.ensures.others c.open_case.ensures.unasked) c.in-Ok.ensures.case
    (run_served _ c.serve_alone-end.result.end output c.close.result (g.W.Sink.written c.serve_alone-end.new.sink) (g.W.Sink.faults c.serve_alone-end.new.sink) _ _ (refl, λ d. refl) (_, session_began AnswersAlone core _ _ _ output _ none so) wrote c.serve_alone-end.ensures.read c.serve_alone-end.ensures.read_fault
    c.serve_alone-end.ensures.write_fault c.serve_alone-end.ensures.later c.close.ensures.later c.close.ensures.answers c.close.ensures.wrote c.close.ensures.front c.close.ensures.cause c.close.ensures.plain c.close.ensures.read_fault)

pub returns-in-Err : goal.returns-in-Err
returns-in-Err g c =
    run_unread (IsServed AnswersAlone (g.S.Source.left c.args.input.now) (g.S.Source.left c.args.input.now)) c.in-Err.fault c.refuse_fault.result
    (outside (g.F.Folder.told c.args.folder.now) (g.F.Folder.faults c.args.folder.now) (g.S.Source.left c.args.input.now) (g.S.Source.faults c.args.input.now) (g.W.Sink.written c.args.output.now) (g.W.Sink.faults c.args.output.now)) _ (c.open_case.ensures.keeps, stays _ _ (command.Report report.Load) _ c.open_case.ensures.others c.open_case.ensures.unasked) (refl, refl)
    c.in-Err.ensures.fault c.in-Err.ensures.asked c.in-Err.ensures.risen c.refuse_fault.ensures.whole c.refuse_fault.ensures.front c.refuse_fault.ensures.folder_fault c.refuse_fault.ensures.cause
