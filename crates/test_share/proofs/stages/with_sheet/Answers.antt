use Rattle.test_share.proofs.Leads.{first_leads}
use Rattle.test_share.proofs.stages.with_sheet.Goals as goal

pub play-played-requires-clause-leads : goal.play-played-requires-clause-leads
play-played-requires-clause-leads g c κs within = first_leads c.lists_lead.ensures c.args.opening.now c.args.next.now c.args.batch.now _ c.in-Ok.ensures.list.0 c.requires.edited
