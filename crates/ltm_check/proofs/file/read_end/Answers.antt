use Rattle.std.proofs.Common.{[]}
use Rattle.ltm_records.specs.Left.{records_of}
use Rattle.ltm_check.proofs.Reaching.{end_read}
use Rattle.ltm_check.proofs.file.read_end.Goals as goal

pub returns-in-Err-clause-fault : goal.returns-in-Err-clause-fault
returns-in-Err-clause-fault c bytes h =
    let e = end_read c.args.scenario.now bytes c.args.curves.now c.args.next c.args.text.now h in
    c.in-Err.ensures.fault (records_of bytes) [] e.0 e.1

pub returns-in-Ok-all_read-clause-right : goal.returns-in-Ok-all_read-clause-right
returns-in-Ok-all_read-clause-right c bytes h =
    let e = end_read c.args.scenario.now bytes c.args.curves.now c.args.next c.args.text.now h in
    let r = c.in-Ok.ensures.right (records_of bytes) [] e.0 e.1 in
    c.in-Ok-all_read.ensures.right (records_of bytes) r.0 r.1

pub returns-in-Err-all_read-clause-fault : goal.returns-in-Err-all_read-clause-fault
returns-in-Err-all_read-clause-fault c bytes h =
    let e = end_read c.args.scenario.now bytes c.args.curves.now c.args.next c.args.text.now h in
    let r = c.in-Ok.ensures.right (records_of bytes) [] e.0 e.1 in
    c.in-Err-all_read.ensures.fault (records_of bytes) r.0 r.1
