-- What is found in the words of a loading is that of the counts that it shows.
use Rattle.std.proofs.Common.{◌≡◌, ℕ, ◌+◌, ◌*◌, ◌<◌, ◌≤◌, List, Option, Some, refl, ap, sym, subst, arith, ◌∙◌}
use Rattle.std.specs.Prelude.{option_map}
use Rattle.ltm_units.specs.declared.quantities.Millis.{Millis}
use Rattle.ltm_curve.specs.Counts.{Counts}
use Rattle.ltm_loading.specs.Setting.{Setting, IsSetting}
use Rattle.ltm_loading.specs.Groups.{up_of, down_of, dep_of}
use Rattle.ltm_loading.specs.Totals.{entered_link, left_link}
use Rattle.ltm_flows.specs.declared.loading.Loading.{Loading}
use Rattle.ltm_flows.specs.Shown.{curves_of, last_of, step_of, ShowsCounts}
use Rattle.ltm_flows.specs.Counted.{departed_by, entered_by, left_by}
use Rattle.ltm_flows.specs.Origins.{departed_from}
use Rattle.ltm_curve.specs.TotalCurves.{total_at}
use Rattle.ltm_gap.specs.Leaving.{end_of, first_from, leaves, starts}
use Rattle.ltm_gap.specs.Within.{IsEarliestFrom}
use Rattle.ltm_gap.specs.Earliest.{ways, earliest}
use Rattle.ltm_gap.specs.Laws.{EarliestIsFirst}
use Rattle.ltm_search.specs.Arrivals.{arrival_at, millis_of, AreBy}
use Rattle.ltm_gap.specs.Told.{Suits}
use Rattle.ltm_gap.specs.Steps.{read_ways, read_starts, last_moment, HasEarliest}
use Rattle.ltm_gap.proofs.Alike.{LeftAlike, leaves_same, first_from_same, earliest_same}
use Rattle.ltm_gap.proofs.Reaching.{is_reached, same_args, same_product, small_product}
use Rattle.ltm_gap.proofs.Within.{one_earliest}

left_alike : (s : Setting) (v : ℕ) (c : Counts) (l : Loading) → 0 < s.step → ShowsCounts s v c l → LeftAlike (read_ways s l) (leaves s c)
left_alike s v c l some shows = λ link moment low.
    leaves_same s link (entered_by l link) (entered_link s c link) (left_by l link) (left_link s c link) moment some
    (λ k within. shows.totals (up_of link) k (omega arith) within) (λ k within. shows.totals (down_of link) k (omega arith) within)

starts_same : (s : Setting) (v : ℕ) (c : Counts) (l : Loading) (origin slot number : ℕ) → 0 < s.step → ShowsCounts s v c l → origin < s.nodes → read_starts l origin slot number ≡ starts s c origin slot number
starts_same s v c l origin slot number some shows there =
    let departed : ℕ → ℕ = total_at (curves_of l) (dep_of s origin) in
    ap (λ n. first_from (total_at (curves_of l) (2 * n + origin)) (step_of l) (last_of l) number (slot * step_of l)) shows.links
    ∙ same_args departed (step_of l) s.step (last_of l) s.slots number number (slot * step_of l) (slot * s.step) shows.step shows.shape.same_slots refl (ap (λ n. slot * n) shows.step)
    ∙ first_from_same departed (departed_from s c origin) s.step s.slots number (slot * s.step) some (λ k low. shows.totals (dep_of s origin) k (omega arith) low)

pub has_earliest : (s : Setting) (l : Loading) (origin slot number : ℕ) (start : Option Millis) (a : List (Option Millis)) → EarliestIsFirst → IsSetting s → origin < s.nodes
    → option_map (λ (m : Millis). m.0) start ≡ read_starts l origin slot number
    → ((node : ℕ) → node < s.nodes → IsEarliestFrom (read_ways s l) origin (millis_of start) node (millis_of (arrival_at a node))) → HasEarliest s l origin slot number a
has_earliest s l origin slot number start a first is there started are = λ v c shows node low.
    let from : millis_of start ≡ starts s c origin slot number = started ∙ starts_same s v c l origin slot number is.some_step shows there in
    let found : IsEarliestFrom (read_ways s l) origin (starts s c origin slot number) node (millis_of (arrival_at a node)) = subst (λ o. IsEarliestFrom (read_ways s l) origin o node (millis_of (arrival_at a node))) from (are node low) in
    one_earliest (ways s c) origin (starts s c origin slot number) node (millis_of (arrival_at a node)) (earliest s c origin slot number node)
    (earliest_same (read_ways s l) (leaves s c) (left_alike s v c l is.some_step shows) origin (starts s c origin slot number) node (millis_of (arrival_at a node)) found)
    (first s c is shows.loading origin slot number node)

-- who starts does so by the end
pub start_within : (s : Setting) (l : Loading) (origin slot number : ℕ) (start : Millis) → Suits s l → Some start.0 ≡ read_starts l origin slot number → start.0 ≤ end_of s
start_within s l origin slot number start suits is =
    let reached = is_reached (departed_by l origin) (step_of l) (last_of l) number (slot * step_of l) start.0 (sym is) in
    subst (λ n. start.0 ≤ n) (same_product (last_of l) s.slots (step_of l) s.step suits.slots suits.step) reached.within

-- arrivals by the end are small
pub small_by : (s : Setting) (a : List (Option Millis)) → s.slots ≤ 10000 → s.step ≤ 60000 → AreBy (end_of s) a → AreBy last_moment a
small_by s a few short by = λ node time at.
    let here = by node time at in
    let end = small_product s.slots s.step few short in
    omega arith
