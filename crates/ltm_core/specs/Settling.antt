-- How many pairs a settle counts.
use Rattle.std.specs.Prelude.{◌≡◌, ℕ, ◌+◌, ◌-◌, ◌≤◌}
use Rattle.ltm_units.specs.Sums.{sum_below}
use Rattle.ltm_curve.specs.Counts.{Counts}
use Rattle.ltm_loading.specs.Setting.{Setting}
use Rattle.ltm_loading.specs.Loading.{IsLoading}
use Rattle.ltm_loading.specs.Differing.{differing}
use Rattle.ltm_setting.specs.Setting.{setting_of}
use Rattle.ltm_core.specs.Log.{Log, scenario_at, settled_of, version_now}

-- what a loading reads of the scenario after the first k batches
abbrev pub setting_at : Log → ℕ → Setting
setting_at log k = setting_of (scenario_at log k)

-- the loading of each scenario from the settled one to the last
abbrev pub AreLoadingsSince : Log → (ℕ → Counts) → Type 0
AreLoadingsSince log loading = (k : ℕ) → settled_of log ≤ k → k ≤ version_now log → IsLoading (setting_at log k) (loading k)

-- by how many pairs the loading after k batches differs from that after j
abbrev pub difference : Log → (ℕ → Counts) → ℕ → ℕ → ℕ
difference log loading j k = differing (setting_at log j) (setting_at log k) (loading j) (loading k)

-- at least the pairs that differ between what was settled last and what is settled now, and at most those that differ from
-- each batch to the next
unfoldable pub IsSettleCount : Log → ℕ → Type 0
IsSettleCount log n = (loading : ℕ → Counts) → AreLoadingsSince log loading →
    (difference log loading (settled_of log) (version_now log) ≤ n)
    × (n ≤ sum_below (version_now log - settled_of log) (λ i. difference log loading (settled_of log + i) (settled_of log + i + 1)))

-- exactly the pairs that differ between what was settled last and what is settled now
unfoldable pub IsExactCount : Log → ℕ → Type 0
IsExactCount log n = IsSettleCount log n × ((before now : Counts) × IsLoading (setting_at log (settled_of log)) before
    × IsLoading (setting_at log (version_now log)) now × (n ≡ differing (setting_at log (settled_of log)) (setting_at log (version_now log)) before now))

-- with no batch since the last settle count a count is 0, and with one batch it is how many pairs differ
pub record SettlesExactly (log : Log) (loading : ℕ → Counts) (n : ℕ) : Type 0 where
  pub none : version_now log ≡ settled_of log → n ≡ 0
  pub one : version_now log ≡ settled_of log + 1 → n ≡ difference log loading (settled_of log) (version_now log)

abbrev pub SettleCountsAreExact : Type 0
SettleCountsAreExact = (log : Log) (loading : ℕ → Counts) (n : ℕ) → AreLoadingsSince log loading → IsSettleCount log n → SettlesExactly log loading n
