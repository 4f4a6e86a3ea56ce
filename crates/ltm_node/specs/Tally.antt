-- What is kept of each turn while the arms move, destination by destination.
use Rattle.std.specs.Prelude.{◌≡◌, ℕ, ◌*◌, ◌/◌, ◌<◌, true}
use Rattle.ltm_units.specs.Sums.{sum_below}
use Rattle.ltm_shares.specs.declared.sent.Sent.{Sent}
use Rattle.ltm_shares.specs.Sent.{sent_at}
use Rattle.ltm_node.specs.declared.portion.Portion.{Portion}
use Rattle.ltm_node.specs.declared.turns.Turns.{Turns}
use Rattle.ltm_node.specs.Inputs.{Inputs}
use Rattle.ltm_node.specs.Demands.{part}
use Rattle.ltm_node.specs.Portion.{denominator, numerator}
use Rattle.ltm_node.specs.Splitting.{IsSplitUpTo}
use Rattle.ltm_node.specs.Step.{parts_into, turned, moved}

-- each part is rounded down by itself: so it is where turns are not rounded, and by either rule where each arm moves all
abbrev pub AreRoundedByPart : Inputs → Portion → Type 0
AreRoundedByPart n q =
    (arm destination out : ℕ) → destination < n.shape.destinations →
    moved n (denominator q) (numerator q) arm destination out ≡ numerator q arm * part n arm destination out / denominator q

-- so much has an arm moved by an out-link to the first destinations
pub record HasMovedTo (sent : Sent) (n : Inputs) (q : Portion) (arm out first : ℕ) : Type 0 where
  pub by_part : AreRoundedByPart n q
  pub total : sent_at sent arm out ≡ sum_below first (λ destination. moved n (denominator q) (numerator q) arm destination out)

-- so much of a turn is left to move behind the first destinations, and so much of its parts
pub record IsLeftOf (turns : Turns) (n : Inputs) (q : Portion) (arm out first : ℕ) : Type 0 where
  pub by_turn : n.shape.by_turn ≡ true
  pub split : IsSplitUpTo (turned n (denominator q) (numerator q) arm out) (parts_into n arm out) first (sent_at turns.left arm out) (sent_at turns.rest arm out)
