use Rattle.test_share.proofs.posted.edited.Goals as goal

pub accept-requires-clause-amounts : goal.accept-requires-clause-amounts
accept-requires-clause-amounts c = c.has_amounts.ensures.0 c.if-not-has_amounts.false
