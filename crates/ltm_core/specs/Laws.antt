-- The laws of a repair by which a core keeps its facts.
use Rattle.ltm_repair.specs.Kept.{OpeningIsRepair, RunsKeepFacts, RestIsLoading, ShownIsLoading, RunsTakeNothingBack, ClaimsHaveChanged, BatchesWakeTouched, OthersWakeNone}
use Rattle.ltm_repair.specs.Making.{AnswersAreEvents}
use Rattle.ltm_repair.specs.Settling.{SettleTells}
use Rattle.ltm_repair.specs.Work.{NoneTwice, CommitsDifferences, CommitsAreDiffering, CommitsAreUseful, DrainsAreExact, CommitsAreBounded, ClaimsAreUndone, ClaimsBalance, WorkIsBounded}

pub record RepairLaws : Type 0 where
  pub opening : OpeningIsRepair
  pub keeps : RunsKeepFacts
  pub rest : RestIsLoading
  pub shown : ShownIsLoading
  pub events : AnswersAreEvents
  pub settle : SettleTells
  pub undone : ClaimsAreUndone

-- the laws of its runs
pub record RunLaws : Type 0 where
  pub nothing_back : RunsTakeNothingBack
  pub changed : ClaimsHaveChanged
  pub woken : BatchesWakeTouched
  pub others : OthersWakeNone
  pub none_twice : NoneTwice
  pub useful : CommitsAreUseful
  pub drained : DrainsAreExact
  pub differences : CommitsDifferences
  pub differing : CommitsAreDiffering
  pub bounded : CommitsAreBounded
  pub balance : ClaimsBalance
  pub schedule : WorkIsBounded
