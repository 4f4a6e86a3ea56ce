use Rattle.std.specs.Prelude.{ℕ, ◌*◌, ◌/◌, if◌then◌else◌, slice_index}
use Rattle.ltm_units.specs.Sums.{sum_below}
use Rattle.ltm_units.specs.Nested.{nested_split}
use Rattle.ltm_shares.specs.Shares.{Demands}
use Rattle.ltm_node.specs.Shape.{is_own}
use Rattle.ltm_node.specs.Inputs.{Inputs, sending, supply, capacity, weights}

-- what an arm sends to a destination by an out-link: nothing where the destination is the node
abbrev pub part : Inputs → ℕ → ℕ → ℕ → ℕ
part n arm destination out =
    if is_own n.shape destination then 0 else slice_index (nested_split (sending n arm destination) (weights n destination)) out

-- what an arm sends to the sink, where the destination is the node
abbrev pub to_sink : Inputs → ℕ → ℕ → ℕ
to_sink n arm destination = if is_own n.shape destination then sending n arm destination else 0

-- what an arm sends
abbrev pub sent : Inputs → ℕ → ℕ
sent n arm = sum_below n.shape.destinations (λ destination. sending n arm destination)

-- what an arm sends into an out-link
abbrev pub sent_into : Inputs → ℕ → ℕ → ℕ
sent_into n arm out = sum_below n.shape.destinations (λ destination. part n arm destination out)

-- the priority of an arm that sends something: its capacity for each unit that it sends, in 1024ths
abbrev pub priority : Inputs → ℕ → ℕ
priority n arm = 1024 * capacity n arm / sent n arm

-- what the arms ask of the out-links
abbrev pub demands : Inputs → Demands
demands n = record {
  arms = n.shape.arms;
  outs = n.shape.outs;
  sending = sent_into n;
  priority = priority n;
  supply = supply n;
}
