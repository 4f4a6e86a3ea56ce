use Rattle.std.specs.Prelude.{ℕ, ◌<◌, ◌≤◌, slice_index}
use Rattle.ltm_shares.specs.Shares.{Demands, inflow}
use Rattle.ltm_shares.specs.Sent.{sent_at}
use Rattle.ltm_shares.specs.declared.demands.NodeDemands.{NodeDemands}
use Rattle.ltm_units.specs.Bounds.{most_in_slot}

-- the priority of an arm, and what all of them weigh at an out-link
abbrev pub greatest_weight : ℕ
greatest_weight = 163840000

-- the demands that the arrays hold
abbrev pub demands_of : NodeDemands → Demands
demands_of d = record {
  arms = d.arms;
  outs = d.outs;
  sending = sent_at d.sending;
  priority = slice_index d.priority;
  supply = slice_index d.supply;
}

-- the sizes of a node
pub record IsSmall (n : Demands) : Type 0 where
  pub few_arms : n.arms ≤ 5
  pub few_outs : n.outs ≤ 4
  pub supplies : (j : ℕ) → j < n.outs → n.supply j ≤ most_in_slot
  pub some_priority : (i : ℕ) → i < n.arms → 0 < n.priority i
  pub priorities : (i : ℕ) → i < n.arms → n.priority i ≤ greatest_weight
  pub weights : (j : ℕ) → j < n.outs → inflow n n.priority j ≤ greatest_weight
