-- Totals of links by boundary.
use Rattle.std.specs.Prelude.{◌≡◌, ◌≢◌, ℕ, ◌+◌, ◌*◌, ◌<◌, ◌≤◌, ◌⊎◌, slice_index}
use Rattle.ltm_curve.specs.Counts.{Counts, total}
use Rattle.ltm_loading.specs.Setting.{Setting}
use Rattle.ltm_totals.specs.declared.totals.Totals.{Totals}

-- for how many links and slots; there is one boundary more
abbrev pub total_links : Totals → ℕ
total_links t = t.links

abbrev pub total_slots : Totals → ℕ
total_slots t = t.slots

-- what had passed a link by a boundary
abbrev pub total_at : Totals → ℕ → ℕ → ℕ
total_at t link boundary = slice_index t.table.items (boundary * t.links + link)

-- one total is set, and no other
pub record SetsTotal (old new : Totals) (link boundary number : ℕ) : Type 0 where
  pub links : total_links new ≡ total_links old
  pub slots : total_slots new ≡ total_slots old
  pub here : total_at new link boundary ≡ number
  pub others : (l k : ℕ) → l < total_links old → (l ≢ link) ⊎ (k ≢ boundary) → total_at new l k ≡ total_at old l k

-- up to a boundary these are the totals of counts, of the group that a link has among them
abbrev pub AreTotals : Setting → Counts → (ℕ → ℕ) → ℕ → Totals → Type 0
AreTotals s c group last t = (l k : ℕ) → l < s.links → k ≤ last → total_at t l k ≡ total s.destinations (c (group l)) k
