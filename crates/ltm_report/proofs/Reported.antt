-- Lines with the numbers of a loading are those of its report.
use Rattle.std.proofs.Common.{ℕ, ◌≡◌, ◌++◌, List, ◌∙◌, ap}
use Rattle.ltm_curve.specs.Counts.{Counts, total}
use Rattle.ltm_curve.specs.declared.curves.Curves.{Curves}
use Rattle.ltm_curve.specs.Table.{slots_of, counts_of, total_of}
use Rattle.ltm_loading.specs.Setting.{Setting}
use Rattle.ltm_loading.specs.Shaped.{IsShaped}
use Rattle.ltm_loading.specs.Totals.{entered_link, left_link}
use Rattle.ltm_flows.specs.declared.loading.Loading.{Loading}
use Rattle.ltm_flows.specs.declared.loading_totals.Totals.{Totals}
use Rattle.ltm_flows.specs.InAll.{AreTotals}
use Rattle.ltm_flows.specs.Counted.{SumsUp}
use Rattle.ltm_flows.specs.Shown.{ShowsCounts, version_of}
use Rattle.ltm_report.specs.Totals.{totals_line}
use Rattle.ltm_report.specs.Links.{load_link_line, link_line}
use Rattle.ltm_report.specs.Reports.{totals_report, counted_totals, load_link_report, link_report}

pub totals_shown : (l : Loading) (t : Totals) (v : ℕ) (old new : List ℕ) → v ≡ version_of l
    → ((s : Setting) (version : ℕ) (c : Counts) → ShowsCounts s version c l → AreTotals s c s.slots t)
    → new ≡ old ++ totals_line v t.generated.0 t.arrived.0 t.on_links.0 t.waiting.0
    → (s : Setting) (version : ℕ) (c : Counts) → ShowsCounts s version c l → new ≡ old ++ totals_report version s c
unfolding totals_report
totals_shown l t v old new is are wrote s version c shows =
    let all = are s version c shows in
    let number : v ≡ version = is ∙ shows.version in
    let came = all.generated in
    let here = all.arrived in
    let links = all.on_links in
    let waits = all.waiting in
    cc

pub totals_counted : (l : Loading) (t : Totals) (v : ℕ) (old new : List ℕ) → v ≡ version_of l → SumsUp l t
    → new ≡ old ++ totals_line v t.generated.0 t.arrived.0 t.on_links.0 t.waiting.0 → new ≡ old ++ counted_totals l
totals_counted l t v old new is sums wrote =
    let came = sums.generated in
    let here = sums.arrived in
    let links = sums.on_links in
    let waits = sums.waiting in
    cc

pub load_link_shown : (l : Loading) (link : ℕ) (name : List ℕ) (entered gone : ℕ) (old new : List ℕ)
    → ((s : Setting) (version : ℕ) (c : Counts) → ShowsCounts s version c l → entered ≡ entered_link s c link s.slots)
    → ((s : Setting) (version : ℕ) (c : Counts) → ShowsCounts s version c l → gone ≡ left_link s c link s.slots)
    → new ≡ old ++ load_link_line name entered gone
    → (s : Setting) (version : ℕ) (c : Counts) → ShowsCounts s version c l → new ≡ old ++ load_link_report name link s c
unfolding load_link_report
load_link_shown l link name entered gone old new came went wrote s version c shows =
    let ins = came s version c shows in
    let outs = went s version c shows in
    cc

pub link_shown : (l : Loading) (link : ℕ) (name : List ℕ) (v entered gone : ℕ) (old new : List ℕ) → v ≡ version_of l
    → ((s : Setting) (version : ℕ) (c : Counts) → ShowsCounts s version c l → entered ≡ entered_link s c link s.slots)
    → ((s : Setting) (version : ℕ) (c : Counts) → ShowsCounts s version c l → gone ≡ left_link s c link s.slots)
    → new ≡ old ++ link_line v name entered gone
    → (s : Setting) (version : ℕ) (c : Counts) → ShowsCounts s version c l → new ≡ old ++ link_report version name link s c
unfolding link_report
link_shown l link name v entered gone old new is came went wrote s version c shows =
    let number : v ≡ version = is ∙ shows.version in
    let ins = came s version c shows in
    let outs = went s version c shows in
    cc

-- the same of counts at the last boundary
pub totals_are : (v : ℕ) (s : Setting) (c : Counts) (t : Totals) (old new : List ℕ) → AreTotals s c s.slots t
    → new ≡ old ++ totals_line v t.generated.0 t.arrived.0 t.on_links.0 t.waiting.0 → new ≡ old ++ totals_report v s c
unfolding totals_report
totals_are v s c t old new are wrote =
    let came = are.generated in
    let here = are.arrived in
    let links = are.on_links in
    let waits = are.waiting in
    cc

pub load_link_is : (s : Setting) (c : Counts) (link : ℕ) (name : List ℕ) (entered gone : ℕ) (old new : List ℕ) → entered ≡ entered_link s c link s.slots → gone ≡ left_link s c link s.slots
    → new ≡ old ++ load_link_line name entered gone → new ≡ old ++ load_link_report name link s c
unfolding load_link_report
load_link_is s c link name entered gone old new came went wrote = cc

-- a total at the last boundary of curves of a setting's shape
pub total_at_end : (s : Setting) (c : Curves) (group g last : ℕ) → IsShaped s c → group ≡ g → last ≡ slots_of c → total_of c group last ≡ total s.destinations (counts_of c g) s.slots
total_at_end s c group g last shape same is =
    ap (λ (i : ℕ). total_of c i last) same ∙ (ap (λ (k : ℕ). total_of c g k) (is ∙ shape.same_slots) ∙ ap (λ (m : ℕ). total m (counts_of c g) s.slots) shape.same_destinations)
