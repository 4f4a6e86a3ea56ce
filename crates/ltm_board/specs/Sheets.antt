-- The sheet of a loading.
use Rattle.std.specs.Prelude.{◌≡◌, ℕ, ◌<◌, List, length, map, slice_index}
use Rattle.ltm_flows.specs.Counts.{Counts}
use Rattle.ltm_flows.specs.Setting.{Setting}
use Rattle.ltm_flows.specs.Totals.{entered_link, left_link}
use Rattle.ltm_flows.specs.declared.loading_totals.Totals.{Totals}
use Rattle.ltm_flows.specs.InAll.{AreTotals}
use Rattle.ltm_board.specs.declared.through.Through.{Through}

-- totals, and for each link what has entered it and what has left it
pub record SheetData : Type 0 where
  pub totals : Totals
  pub through : List Through

-- how many links it has
abbrev pub links_on : SheetData → ℕ
links_on sheet = length sheet.through

abbrev pub entered_on : SheetData → ℕ → ℕ
entered_on sheet link = slice_index (map (λ t. t.entered.0) sheet.through) link

abbrev pub left_on : SheetData → ℕ → ℕ
left_on sheet link = slice_index (map (λ t. t.left.0) sheet.through) link

-- the sheet of the counts of a setting, at the last boundary
pub record IsSheet (s : Setting) (c : Counts) (sheet : SheetData) : Type 0 where
  pub totals : AreTotals s c s.slots sheet.totals
  pub links : links_on sheet ≡ s.links
  pub entered : (link : ℕ) → link < s.links → entered_on sheet link ≡ entered_link s c link s.slots
  pub left : (link : ℕ) → link < s.links → left_on sheet link ≡ left_link s c link s.slots
