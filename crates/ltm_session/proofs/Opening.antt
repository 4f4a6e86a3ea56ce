-- A core that has accepted nothing awaits a line.
use Rattle.std.proofs.Common.{◌≡◌, ◌-◌, List, [], ◌∷◌, length, refl, ap, sym, ◌∙◌, arith}
use Rattle.ltm_flows.specs.Shown.{version_of}
use Rattle.ltm_core.specs.State.{RepairState}
use Rattle.ltm_core.specs.Repair.{IsRepair}
use Rattle.ltm_core.specs.Log.{Log, MarkedBatch, version_now, settled_of}
use Rattle.ltm_core.specs.Cores.{CoreData, repair_of}
use Rattle.ltm_core.specs.Runs.{HoldsOfCore}
use Rattle.ltm_core.specs.Told.{settles_of}
use Rattle.ltm_session.specs.Analysts.{state_of, opening_of}
use Rattle.ltm_session.specs.Ready.{AwaitsLine}
use Rattle.ltm_session.proofs.Settled.{rest_none_out}

-- with nothing accepted nothing is settled or shown, and nothing was committed
repair_first : (s : RepairState) → IsRepair s → s.accepted ≡ 0 → (s.settled ≡ 0) × (s.shown_at ≡ 0) × (s.commits ≡ 0)
repair_first s is none =
    let first = is.shows.settled_first in
    let last = is.shows.accepted_last in
    let fits = is.count.fits in
    let settled : s.settled ≡ 0 = omega arith in
    let shown : s.shown_at ≡ 0 = omega arith in
    let no_batch : s.accepted - s.settled ≡ 0 = omega arith in
    (settled, shown, omega (arith, rw no_batch at fits))

core_first : (d : CoreData) → HoldsOfCore d → version_now d.log ≡ 0 → (settled_of d.log ≡ 0) × (version_of d.shown ≡ 0) × (d.commits ≡ 0)
unfolding repair_of
core_first d holds none = repair_first (repair_of d) holds.core.repair none

pub awaits_first : (d : CoreData) → HoldsOfCore d → version_now d.log ≡ 0 → AwaitsLine d
awaits_first d holds none =
    let (settled, shown, commits) = core_first d holds none in
    record {
      none_out = rest_none_out d (holds.up_to_date (shown ∙ sym none)).0;
      uncounted = commits;
      shown = shown ∙ sym settled;
    }

no_batches : (batches : List MarkedBatch) → length batches ≡ 0 → batches ≡ []
no_batches [] none = refl
no_batches (batch ∷ batches) none = absurd (omega (arith, none))

log_first : (log : Log) → version_now log ≡ 0 → log ≡ record { opening = log.opening; batches = [] }
unfolding version_now
log_first log none = ap (λ (b : List MarkedBatch). record { opening = log.opening; batches = b }) (no_batches log.batches none)

pub opens : (d : CoreData) → HoldsOfCore d → version_now d.log ≡ 0 → state_of d ≡ opening_of d
opens d holds none =
    let (settled, shown, commits) = core_first d holds none in
    ap (λ (l : Log). record { log = l; shown = version_of d.shown; settles = settles_of d }) (log_first d.log none)
    ∙ ap (λ v. record { log = record { opening = d.log.opening; batches = [] }; shown = v; settles = settles_of d }) shown
