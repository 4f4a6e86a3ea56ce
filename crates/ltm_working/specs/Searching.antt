-- What a search finds, and what a claim answers.
use Rattle.std.specs.Prelude.{◌≡◌, ◌↔◌, ℕ, ◌<◌, List}
use Rattle.ltm_node.specs.Inputs.{Inputs}
use Rattle.ltm_node.specs.Solvable.{IsSolvable}
use Rattle.ltm_loading.specs.Setting.{Setting}
use Rattle.ltm_loading.specs.Pairs.{shape_at}
use Rattle.ltm_repair.specs.Desk.{Desk}
use Rattle.ltm_repair.specs.Answers.{ClaimAnswer, Got, NotYet, Rest as NoneLeft, ClaimLeaves, DropsAtFront, HasClaimAt, IsSettledAt, IsNoneClaimed}
use Rattle.ltm_repair.specs.Index.{IsPlaced}
use Rattle.ltm_working.specs.declared.found.Found.{Found}
use Rattle.ltm_working.specs.declared.found.Found.TheVariants.{Work, Wait, Rest}
use Rattle.ltm_working.specs.declared.table.Table.{Table}
use Rattle.ltm_working.specs.Desks.{desk_at, place_of}
use Rattle.ltm_working.specs.Dropping.{HasWork}

-- a pair is taken, or none yet, or none is left; not yet exactly where claims are out and every active pair of their slot
-- is settled; rest exactly where none is claimed and every active pair is settled
pub record AnswersSearch (s : Setting) (old : Desk) (answer : ClaimAnswer) (new : Desk) : Type 0 where
  pub desk : ClaimLeaves s old answer new
  pub not_yet : (answer ≡ NotYet) ↔ ((t : ℕ) × HasClaimAt s old t × IsSettledAt s old t)
  pub rest : (answer ≡ NoneLeft) ↔ (IsNoneClaimed s old × ((t : ℕ) → t < s.slots → IsSettledAt s old t))

-- the inputs of a pair that was found have its shape, and are in the range of a node step
abbrev pub FitsFound : Setting → Found → Inputs → Type 0
FitsFound s (Work pair) n = (n.shape ≡ shape_at s pair.node.0) × IsSolvable n
FitsFound s Wait n = Unit {0}
FitsFound s Rest n = Unit {0}

-- the answer that a search makes of what it found, with a ticket and the inputs
abbrev pub answer_of : ℕ → Found → List ℕ → ClaimAnswer
answer_of ticket (Work pair) row = Got pair.node.0 pair.slot ticket row
answer_of ticket Wait row = NotYet
answer_of ticket Rest row = NoneLeft

-- an active pair whose inputs, which stand ready but for the counts, are not the kept ones, of the front slot and of the slot
-- of all claims; it stands in the index with its positions
pub record IsFound (s : Setting) (t : Table) (u v : ℕ) (n : Inputs) : Type 0 where
  pub work : HasWork s (desk_at s t) u v n
  pub one_slot : (w : ℕ) → HasClaimAt s (desk_at s t) w → w ≡ v
  pub placed : IsPlaced s (desk_at s t) (place_of t.index) u v

-- what a search finds, after settled pairs were dropped
abbrev pub Finds : Setting → Desk → Found → Inputs → Table → Type 0
Finds s old (Work pair) n new = DropsAtFront s old (desk_at s new) × IsFound s new pair.node.0 pair.slot n
Finds s old Wait n new = AnswersSearch s old NotYet (desk_at s new)
Finds s old Rest n new = AnswersSearch s old NoneLeft (desk_at s new)
