-- A link of a made case is taken.
use Rattle.std.proofs.Common.{◌≡◌, ℕ, zero, suc, ◌<◌, arith, false, refl, ap, ◌∙◌, List, Ok}
use Rattle.ltm_diagram.specs.declared.diagram.Limits.{Limits}
use Rattle.ltm_diagram.specs.Limits.{limits_of}
use Rattle.ltm_network.specs.Network.{checked, network_linked}
use Rattle.ltm_scenario.specs.Data.{ScenarioData}
use Rattle.ltm_scenario.specs.Build.{with_link, with_link_on}
use Rattle.ltm_scenario.proofs.Linked.{is_linked}
use Rattle.ltm_make.specs.Links.{diagram_of, TakesLinks}

-- each length sets limits
limits_at : (choice : ℕ) → choice < 4 → (limits : Limits) × (limits_of (diagram_of choice) 10000 false ≡ Ok limits)
unfolding limits_of
limits_at zero h = (_, refl)
limits_at (suc zero) h = (_, refl)
limits_at (suc (suc zero)) h = (_, refl)
limits_at (suc (suc (suc zero))) h = (_, refl)
limits_at (suc (suc (suc (suc n)))) h = absurd (omega arith)

pub link_is_taken : (s : ScenarioData) (name tail head : List ℕ) (choice : ℕ) → TakesLinks s → choice < 4 → checked s.network name tail head ≡ Ok tt →
    with_link s name tail head (diagram_of choice) ≡ Ok (with_link_on s (network_linked s.network name tail head) (diagram_of choice))
link_is_taken s name tail head choice bare few taken =
    let found = limits_at choice few in
    is_linked s name tail head (diagram_of choice) found.0 taken (ap (λ n. limits_of (diagram_of choice) n s.setup.carry) bare.step ∙ (ap (limits_of (diagram_of choice) 10000) bare.carry ∙ found.1))
