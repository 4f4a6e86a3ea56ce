-- What a settle count tells.
use Rattle.std.specs.Prelude.{◌≡◌, ℕ, ◌+◌, ◌-◌, ◌*◌, ◌≤◌}
use Rattle.ltm_curve.specs.Counts.{Counts}
use Rattle.ltm_loading.specs.Differing.{differing}
use Rattle.ltm_repair.specs.State.{RepairState, now, AreLoadings, IsSettleCount}
use Rattle.ltm_repair.specs.Repair.{IsRepair}
use Rattle.ltm_repair.specs.Events.{Settled}

-- the number told is a settle count
abbrev pub SettleTells : Type 0
SettleTells = (s e : RepairState) (n : ℕ) → IsRepair s → Settled s n e → (loadings : ℕ → Counts) → AreLoadings s loadings → IsSettleCount s loadings n

-- a settle count is 0 where no batch was accepted since the last one, and with one batch it is how many pairs differ
pub record SettleIsExact (s : RepairState) (loadings : ℕ → Counts) (n : ℕ) : Type 0 where
  pub none : s.accepted ≡ s.settled → n ≡ 0
  pub one : s.accepted ≡ s.settled + 1 → n ≡ differing (s.settings s.settled) (now s) (loadings s.settled) (loadings s.accepted)

abbrev pub SettlesExactly : Type 0
SettlesExactly = (s : RepairState) (loadings : ℕ → Counts) (n : ℕ) → IsSettleCount s loadings n → SettleIsExact s loadings n

-- the count never passes the pairs for each batch since the last settle count
abbrev pub CountIsBounded : Type 0
CountIsBounded = (s : RepairState) → IsRepair s → s.commits ≤ (s.accepted - s.settled) * ((now s).nodes * (now s).slots)
