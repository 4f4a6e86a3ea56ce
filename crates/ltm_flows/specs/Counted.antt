-- What a finished loading counts, in its own words: of every loading, whichever setting it is shown to be of.
use Rattle.std.specs.Prelude.{◌≡◌, ℕ, ◌+◌, ◌-◌, ◌*◌}
use Rattle.ltm_units.specs.Sums.{sum_below}
use Rattle.ltm_curve.specs.TotalCurves.{total_at}
use Rattle.ltm_loading.specs.Groups.{up_of, down_of}
use Rattle.ltm_flows.specs.declared.loading.Loading.{Loading}
use Rattle.ltm_flows.specs.declared.loading_totals.Totals.{Totals}
use Rattle.ltm_flows.specs.Shown.{links_of, nodes_of, curves_of, last_of, generated_of}

-- what has arrived by a boundary
abbrev pub arrived_of : Loading → ℕ → ℕ
arrived_of l boundary = total_at (curves_of l) (2 * links_of l + nodes_of l) boundary

-- what has left the origin of a node by a boundary
abbrev pub departed_by : Loading → ℕ → ℕ → ℕ
departed_by l node boundary = total_at (curves_of l) (2 * links_of l + node) boundary

-- what has entered and has left a link by a boundary
abbrev pub entered_by : Loading → ℕ → ℕ → ℕ
entered_by l link boundary = total_at (curves_of l) (up_of link) boundary

abbrev pub left_by : Loading → ℕ → ℕ → ℕ
left_by l link boundary = total_at (curves_of l) (down_of link) boundary

-- what has entered and has left a link by the last boundary
abbrev pub entered_of : Loading → ℕ → ℕ
entered_of l link = total_at (curves_of l) (up_of link) (last_of l)

abbrev pub left_of : Loading → ℕ → ℕ
left_of l link = total_at (curves_of l) (down_of link) (last_of l)

-- what is on links at the last boundary
abbrev pub on_links_of : Loading → ℕ
on_links_of l = sum_below (links_of l) (λ i. entered_of l i - left_of l i)

-- what has left the origins by the last boundary
abbrev pub departed_of : Loading → ℕ
departed_of l = sum_below (nodes_of l) (λ u. total_at (curves_of l) (2 * links_of l + u) (last_of l))

-- what was produced by the last boundary and waits at its origin
abbrev pub waiting_of : Loading → ℕ
waiting_of l = generated_of l (last_of l) - departed_of l

-- the totals at the last boundary
pub record SumsUp (l : Loading) (t : Totals) : Type 0 where
  pub generated : t.generated.0 ≡ generated_of l (last_of l)
  pub arrived : t.arrived.0 ≡ arrived_of l (last_of l)
  pub on_links : t.on_links.0 ≡ on_links_of l
  pub waiting : t.waiting.0 ≡ waiting_of l
