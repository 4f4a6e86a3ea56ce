-- What origins have produced stays over batches that do not change it, so that what is renewed after the others is right.
use Rattle.std.proofs.Common.{◌≡◌, ◌≢◌, ℕ, ◌+◌, ◌-◌, ◌<◌, ◌≤◌, ◌⊎◌, ◌==◌, if◌then◌else◌, Bool, true, false, List, [], ◌∷◌, ◌++◌, take, inl, inr, refl, ap, sym, subst, ◌∙◌, arith}
use Rattle.std.specs.Prelude.{Ok, drop, length}
use Rattle.std.proofs.lemmas.Bool.{cases_lt, eq-eqb}
use Rattle.std.proofs.lemmas.List.{take-append-drop}
use Rattle.ltm_units.proofs.Sums.{sum_below-same}
use Rattle.ltm_curve.specs.Counts.{total}
use Rattle.ltm_scenario.specs.Network.{NetworkData}
use Rattle.ltm_demand.specs.declared.row.DemandRow.{DemandRow}
use Rattle.ltm_demand.specs.Produced.{by_end, IsSilent}
use Rattle.ltm_demand.specs.Rows.{edited_rows}
use Rattle.ltm_scenario.specs.declared.edit.Edit.{Edit}
use Rattle.ltm_scenario.specs.Data.{ScenarioData}
use Rattle.ltm_scenario.specs.Edits.{edited, edited_from, at_place}
use Rattle.ltm_scenario.specs.Makes.{Makes, EditsMake, demand, entry, exit, split, splits, diagram, horizon}
use Rattle.ltm_setting.specs.Setting.{setting_of, produced_by}
use Rattle.ltm_flows.specs.declared.loading.Loading.{Loading}
use Rattle.ltm_flows.specs.Origins.{produced_in_all}
use Rattle.ltm_flows.specs.Shown.{version_of, nodes_of, last_of, produced_of, HasProduction}
use Rattle.ltm_pairs.proofs.EditKeeps.{bound, placed}
use Rattle.ltm_core.specs.Log.{Log, batches_of, version_now, after_batch, after_batches, AreAccepted, HoldsAccepted, scenario_at, scenario_now}
use Rattle.ltm_core.specs.Settling.{setting_at}
use Rattle.ltm_core.specs.Cores.{CoreData, IsAlike, IsCore}
use Rattle.ltm_core.specs.Producing.{changes, edits_change, batches_change, Renews}
use Rattle.ltm_core.proofs.Logs.{last_scenario}
use Rattle.ltm_core.proofs.Renewing.{last_same, neither, true_or_false, is_not_of, demand_told}
use Rattle.ltm_core.proofs.Showings.{shown_low, core_fits}

-- a set leaves what other origins have produced, and what its own has before the row begins
abbrev pub SetsLeave : Type 0
SetsLeave = (rows : List DemandRow) (row : DemandRow) (o d t : ℕ) → IsSilent o t row → by_end (edited_rows rows row) o d t ≡ by_end rows o d t

-- what a node has produced by a boundary stays, and the network
record Stays (n k : ℕ) (s next : ScenarioData) : Type 0 where
  network : next.network ≡ s.network
  each : (d : ℕ) → produced_by next.demand n d k ≡ produced_by s.demand n d k

stays_on : (n k : ℕ) (s : ScenarioData) → Stays n k s s
stays_on n k s = record { network = refl; each = λ d. refl }

stays_trans : (n k : ℕ) (a b c : ScenarioData) → Stays n k a b → Stays n k b c → Stays n k a c
stays_trans n k a b c one two = record { network = two.network ∙ one.network; each = λ d. two.each d ∙ one.each d }

-- ---- a row that is set
same_if : (b : Bool) (x y : ℕ) → (b ≡ false → x ≡ y) → (if b then 0 else x) ≡ (if b then 0 else y)
same_if true x y same = refl
same_if false x y same = same refl

row_stays : SetsLeave → (rows : List DemandRow) (row : DemandRow) (n k : ℕ) → (n ≢ row.origin.0) ⊎ (k ≤ row.from) → (d : ℕ) → produced_by (edited_rows rows row) n d k ≡ produced_by rows n d k
row_stays leave rows row n k far d =
    same_if (k == 0) (by_end (edited_rows rows row) n d (k - 1)) (by_end rows n d (k - 1)) (λ some.
    let later : 0 < k = elim (cases_lt 0 k) [ inl l ↦ l | inr none ↦ (let on : (k == 0) ≡ true = eq-eqb k 0 (omega arith) in cc) ] in
    leave rows row n d (k - 1) (elim far [ inl other ↦ inl (λ e. other (sym e)) | inr early ↦ inr (omega (arith, early, later)) ]))

-- ---- an edit, a batch and some batches
of_edit : SetsLeave → (n k : ℕ) (s next : ScenarioData) (edit : Edit) → Makes s next edit → changes s.network n k edit ≡ false → Stays n k s next
of_edit leave n k s next edit (demand origin destination from to amount row said) off =
    let far : (n ≢ row.origin.0) ⊎ (k ≤ from) = is_not_of row.origin.0 n from k (sym (demand_told s.network origin row.origin.0 from n k said.starts_at) ∙ off) in
    record { network = refl; each = row_stays leave s.demand row n k (elim far [ inl other ↦ inl other | inr early ↦ inr (omega (arith, early, said.begins)) ]) }
of_edit leave n k s next edit (entry name from to amount link said) off = record { network = refl; each = λ d. refl }
of_edit leave n k s next edit (exit name from to amount link said) off = record { network = refl; each = λ d. refl }
of_edit leave n k s next edit (split node destination from weights key said) off = record { network = refl; each = λ d. refl }
of_edit leave n k s next edit (splits node destination rows m d said) off = record { network = refl; each = λ e. refl }
of_edit leave n k s next edit (diagram name new link named sets) off = record { network = refl; each = λ d. refl }
of_edit leave n k s next edit (horizon slots said) off = record { network = refl; each = λ d. refl }

-- a batch is made edit by edit
of_batch : SetsLeave → EditsMake → (n k : ℕ) (place : ℕ) (s next : ScenarioData) (edits : List Edit) → edited_from place s edits ≡ Ok next → edits_change s.network edits n k ≡ false → Stays n k s next
of_batch leave make n k place s next [] is off =
    let same : s ≡ next = cc in subst (λ (z : ScenarioData). Stays n k s z) same (stays_on n k s)
of_batch leave make n k place s next (edit ∷ edits) is off =
    let (mid, first, later) = bound (at_place place (edited s edit)) (λ m. edited_from (place + 1) m edits) next is in
    let parts = neither (changes s.network n k edit) (edits_change s.network edits n k) off in
    let one : Stays n k s mid = of_edit leave n k s mid edit (make s mid edit (placed place (edited s edit) mid first)) parts.0 in
    stays_trans n k s mid next one (of_batch leave make n k (place + 1) mid next edits later (ap (λ (w : NetworkData). edits_change w edits n k) one.network ∙ parts.1))

of_batches : SetsLeave → EditsMake → (n k : ℕ) (s : ScenarioData) (batches : List (List Edit)) → AreAccepted s batches → batches_change s.network batches n k ≡ false → Stays n k s (after_batches s batches)
of_batches leave make n k s [] accepted off = stays_on n k s
of_batches leave make n k s (batch ∷ batches) accepted off =
    let parts = neither (edits_change s.network batch n k) (batches_change s.network batches n k) off in
    let one : Stays n k s (after_batch s batch) = of_batch leave make n k 1 s (after_batch s batch) batch accepted.0 parts.0 in
    stays_trans n k s (after_batch s batch) (after_batches (after_batch s batch) batches) one
    (of_batches leave make n k (after_batch s batch) batches accepted.1 (ap (λ (w : NetworkData). batches_change w batches n k) one.network ∙ parts.1))

-- ---- the batches of a log from one on
accepted_rest : (s : ScenarioData) (first rest : List (List Edit)) → AreAccepted s (first ++ rest) → AreAccepted (after_batches s first) rest
accepted_rest s [] rest accepted = accepted
accepted_rest s (batch ∷ first) rest accepted = accepted_rest (after_batch s batch) first rest accepted.1

after_both : (s : ScenarioData) (first rest : List (List Edit)) → after_batches s (first ++ rest) ≡ after_batches (after_batches s first) rest
after_both s [] rest = refl
after_both s (batch ∷ first) rest = after_both (after_batch s batch) first rest

same_since : SetsLeave → EditsMake → (log : Log) (v n k : ℕ) → HoldsAccepted log → batches_change (scenario_at log v).network (drop v (batches_of log)) n k ≡ false → Stays n k (scenario_at log v) (scenario_now log)
unfolding HoldsAccepted scenario_at scenario_now
same_since leave make log v n k holds off =
    let first : List (List Edit) = take v (batches_of log) in
    let rest : List (List Edit) = drop v (batches_of log) in
    let all : first ++ rest ≡ batches_of log = take-append-drop v (batches_of log) in
    let accepted : AreAccepted log.opening (first ++ rest) = subst (λ (l : List (List Edit)). AreAccepted log.opening l) (sym all) holds in
    let last : after_batches (after_batches log.opening first) rest ≡ after_batches log.opening (batches_of log) =
    sym (after_both log.opening first rest) ∙ ap (λ (l : List (List Edit)). after_batches log.opening l) all in
    subst (λ (z : ScenarioData). Stays n k (after_batches log.opening first) z) last
    (of_batches leave make n k (after_batches log.opening first) rest (accepted_rest log.opening first rest accepted) off)

-- ---- what is produced
made : ℕ → List DemandRow → ℕ → ℕ → ℕ
made destinations rows n k = total destinations (produced_by rows n) k

made_of : (s : ScenarioData) (n k : ℕ) → produced_in_all (setting_of s) n k ≡ made (length s.destinations) s.demand n k
unfolding setting_of made
made_of s n k = refl

pub made_same : (a b : ScenarioData) (n k : ℕ) → b.destinations ≡ a.destinations → ((d : ℕ) → produced_by b.demand n d k ≡ produced_by a.demand n d k) → produced_in_all (setting_of a) n k ≡ produced_in_all (setting_of b) n k
unfolding made
made_same a b n k destinations each =
    made_of a n k
    ∙ (sum_below-same (length a.destinations) (λ d. produced_by a.demand n d k) (λ d. produced_by b.demand n d k) (λ d l. sym (each d))
    ∙ (ap (λ (m : ℕ). made m b.demand n k) (ap length (sym destinations)) ∙ sym (made_of b n k)))

pub nodes_are : (s : ScenarioData) → (setting_of s).nodes ≡ length s.network.nodes
unfolding setting_of
nodes_are s = refl

-- what batches that are not shown yet leave is shown as it is
production_stays : SetsLeave → EditsMake → (d : CoreData) → IsCore d → (n k : ℕ) → n < (setting_of d.scenario).nodes → k ≤ last_of d.shown →
    batches_change d.scenario.network (drop (version_of d.shown) (batches_of d.log)) n k ≡ false → produced_of d.shown n k ≡ produced_in_all (setting_of d.scenario) n k
production_stays leave make d is n k x y off =
    let v : ℕ = version_of d.shown in
    let was : IsAlike d.log.opening (scenario_at d.log v) = is.log.alike v (shown_low d is) in
    let now : IsAlike d.log.opening d.scenario =
    subst (λ (z : ScenarioData). IsAlike d.log.opening z) (last_scenario d.log ∙ is.scenario) (is.log.alike (version_now d.log) (omega arith)) in
    let network : d.scenario.network ≡ (scenario_at d.log v).network = now.network ∙ sym was.network in
    let since : Stays n k (scenario_at d.log v) d.scenario =
    subst (λ (z : ScenarioData). Stays n k (scenario_at d.log v) z) is.scenario
    (same_since leave make d.log v n k is.log.accepted (ap (λ (w : NetworkData). batches_change w (drop v (batches_of d.log)) n k) (sym network) ∙ off)) in
    let node : n < (setting_at d.log v).nodes = omega (x, (core_fits d is).nodes, is.shows.1.nodes, arith) in
    let within : k ≤ (setting_at d.log v).slots = omega (y, is.shows.1.shape.same_slots, arith) in
    is.shows.1.produced n k node within ∙ made_same (scenario_at d.log v) d.scenario n k (now.destinations ∙ sym was.destinations) since.each

-- what they change is renewed
renewed_production : SetsLeave → EditsMake → (d : CoreData) → IsCore d → (new : Loading) →
    Renews (setting_of d.scenario) (batches_change d.scenario.network (drop (version_of d.shown) (batches_of d.log))) d.shown new → HasProduction (setting_of d.scenario) new
renewed_production leave make d is new renews = λ n k x y.
    let node : n < nodes_of d.shown = omega (x, (core_fits d is).nodes, arith) in
    let within : k ≤ last_of d.shown = omega (y, last_same d.shown new renews.same, arith) in
    elim (true_or_false (batches_change d.scenario.network (drop (version_of d.shown) (batches_of d.log)) n k)) [
      | inl changed ↦ renews.renewed n k node within changed
      | inr off ↦ renews.others n k node within off ∙ production_stays leave make d is n k x within off
    ]

-- the same, by the batches that are read
pub shown_production : SetsLeave → EditsMake → (d : CoreData) (seen : List (List Edit)) (version : ℕ) (new : Loading) → IsCore d → seen ≡ batches_of d.log → version ≡ version_of d.shown →
    Renews (setting_of d.scenario) (batches_change d.scenario.network (drop version seen)) d.shown new → HasProduction (setting_of d.scenario) new
shown_production leave make d seen version new is batches at renews =
    let here : drop version seen ≡ drop (version_of d.shown) (batches_of d.log) = ap (λ (n : ℕ). drop n seen) at ∙ ap (λ (b : List (List Edit)). drop (version_of d.shown) b) batches in
    renewed_production leave make d is new (subst (λ (b : List (List Edit)). Renews (setting_of d.scenario) (batches_change d.scenario.network b) d.shown new) here renews)
