-- The text of a curve file.
use Rattle.std.specs.Prelude.{ℕ, ◌+◌, List, ◌++◌, codes}
use Rattle.std.specs.Fmt.{decimal}
use Rattle.ltm_units.specs.Texts.{texts_below}
use Rattle.ltm_curve.specs.Counts.{Counts}
use Rattle.ltm_scenario.specs.Data.{ScenarioData}
use Rattle.ltm_scenario.specs.Reads.{destination_name}
use Rattle.ltm_loading.specs.Groups.{groups}
use Rattle.ltm_setting.specs.Setting.{setting_of}
use Rattle.ltm_check.specs.Due.{kind_of, name_of}

-- a count behind another, as ` 500`
unfoldable pub further_count : ℕ → List ℕ
further_count count = codes " " ++ decimal count

-- the counts at all boundaries with one space between two, as `0 500 1000`
unfoldable pub counts_text : ℕ → (ℕ → ℕ) → List ℕ
counts_text slots counts = decimal (counts 0) ++ texts_below slots (λ k. further_count (counts (k + 1)))

-- what is counted and of what, as `up,a,n2,`
unfoldable pub due_text : ScenarioData → ℕ → ℕ → List ℕ
due_text s group destination = kind_of s group ++ codes "," ++ name_of s group destination ++ codes "," ++ destination_name s destination ++ codes ","

-- the record of a group and a destination, as `up,a,n2,0 500 1000`
unfoldable pub record_text : ScenarioData → Counts → ℕ → ℕ → List ℕ
record_text s c group destination = due_text s group destination ++ counts_text (setting_of s).slots (c group destination) ++ codes "\n"

unfoldable pub header_text : List ℕ
header_text = codes "kind,name,destination,counts\n"

unfoldable pub group_text : ScenarioData → Counts → ℕ → List ℕ
group_text s c group = texts_below (setting_of s).destinations (record_text s c group)

-- the header, and a record for each group and destination in order
unfoldable pub curves_file : ScenarioData → Counts → List ℕ
curves_file s c = header_text ++ texts_below (groups (setting_of s)) (group_text s c)
