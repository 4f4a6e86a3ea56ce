-- What viewers tell of the loading that is shown.
use Rattle.std.specs.Prelude.{ℕ, zero, suc, ◌≡◌, List, [], ◌++◌, codes}
use Rattle.ltm_flows.specs.Counts.{Counts}
use Rattle.ltm_flows.specs.Setting.{Setting}
use Rattle.ltm_units.specs.Texts.{number_piece}
use Rattle.ltm_report.specs.Totals.{totals_line}
use Rattle.ltm_report.specs.Reports.{totals_report}
use Rattle.ltm_session.specs.Analysts.{Analysts}
use Rattle.ltm_session.specs.Answers.{ReportsShown}

-- which viewer tells it, as `viewer 1 `
unfoldable pub teller : ℕ → List ℕ
teller viewer = number_piece (codes "viewer ") viewer ++ codes " "

-- the line of a viewer, as `viewer 1 version 0 generated 1.000 arrived 0.500 on_links 0.500 waiting 0.000`
abbrev pub viewer_line : ℕ → ℕ → ℕ → ℕ → ℕ → ℕ → List ℕ
viewer_line viewer version generated arrived on_links waiting = teller viewer ++ totals_line version generated arrived on_links waiting

-- what a viewer tells of a setting's loading: its totals at the last boundary
abbrev pub viewer_report : ℕ → ℕ → Setting → Counts → List ℕ
viewer_report viewer version s c = teller viewer ++ totals_report version s c

-- so many viewers tell, from the first on, the totals of the loading that is shown
abbrev pub ViewersTell : ℕ → Analysts → List ℕ → Type 0
ViewersTell zero t text = text ≡ []
ViewersTell (suc n) t text = (before line : List ℕ) × ViewersTell n t before × ReportsShown t (viewer_report (suc n)) line × (text ≡ before ++ line)
