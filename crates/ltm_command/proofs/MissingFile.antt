-- A file that the folder did not give is one that the case has, and its count of faults rose.
use Rattle.std.proofs.Common.{ℕ, ◌≡◌, true, refl, Some, None}
use Rattle.ltm_io.specs.Faults.{Rose}
use Rattle.std.specs.Prelude.{Option, IfSome}
use Rattle.ltm_io.specs.declared.doc.Doc.{Doc}
use Rattle.ltm_io.specs.declared.doc.Doc.TheVariants as doc
use Rattle.ltm_io.specs.Folder.{Files}
use Rattle.ltm_casefile.specs.declared.faults.File.{File}
use Rattle.ltm_casefile.specs.declared.faults.File.TheVariants as file
use Rattle.ltm_casefile.specs.declared.faults.CaseFault.{CaseFault}
use Rattle.ltm_casefile.specs.declared.faults.CaseFault.TheVariants as fault
use Rattle.ltm_casefile.specs.Case.{asks_for}
use Rattle.ltm_casefile.specs.Faults.{HasRisen, WasAsked}
use Rattle.ltm_casefile.specs.Roads.{is_of_roads, roads_ask}
use Rattle.ltm_routes_command.specs.declared.lines.RouteLines.{RouteLines}
use Rattle.ltm_command.specs.declared.words.Command.TheVariants as command
use Rattle.ltm_command.specs.declared.words.Report.{Report}
use Rattle.ltm_command.specs.declared.words.Report.TheVariants as report
use Rattle.ltm_check_command.specs.declared.refusal.Refusal.{Refusal}
use Rattle.ltm_check_command.specs.declared.refusal.Refusal.TheVariants as refusal
use Rattle.ltm_check_command.specs.Checks.{HasMissed}
use Rattle.ltm_command.specs.Program.{FileFailed, IsMissing}

pub failed : (report : Report) (told : Option Files) (before now : Doc → ℕ) (f : File)
    → IfSome told (λ files. WasAsked (asks_for files) (fault.Folder f)) → HasRisen before now (fault.Folder f) → FileFailed (command.Report report) told before now
failed report told before now file.Setup asked rose = (doc.Setup, refl, asked, rose)
failed report told before now file.Links asked rose = (doc.Links, refl, asked, rose)
failed report told before now file.Demand asked rose = (doc.Demand, refl, asked, rose)
failed report told before now file.Splits asked rose = (doc.Splits, refl, asked, rose)
failed report told before now file.Signals asked rose = (doc.Signals, refl, asked, rose)
failed report told before now file.Limits asked rose = (doc.Limits, refl, asked, rose)
failed report told before now file.Profile asked rose = (doc.Profile, refl, asked, rose)
failed report told before now file.Whole asked rose = absurd rose

-- the same of the roads and the demand
abbrev RoadsFailed : Option Files → (Doc → ℕ) → (Doc → ℕ) → Type 0
RoadsFailed told before now = (d : Doc) × (is_of_roads d ≡ true) × IfSome told (λ files. roads_ask files d ≡ true) × Rose (before d) (now d)

roads_failed : (told : Option Files) (before now : Doc → ℕ) (f : File) → WasAsked is_of_roads (fault.Folder f)
    → IfSome told (λ files. WasAsked (roads_ask files) (fault.Folder f)) → HasRisen before now (fault.Folder f) → RoadsFailed told before now
roads_failed told before now file.Setup asked needed rose = (doc.Setup, asked, needed, rose)
roads_failed told before now file.Links asked needed rose = (doc.Links, asked, needed, rose)
roads_failed told before now file.Demand asked needed rose = (doc.Demand, asked, needed, rose)
roads_failed told before now file.Splits asked needed rose = (doc.Splits, asked, needed, rose)
roads_failed told before now file.Signals asked needed rose = (doc.Signals, asked, needed, rose)
roads_failed told before now file.Limits asked needed rose = (doc.Limits, asked, needed, rose)
roads_failed told before now file.Profile asked needed rose = (doc.Profile, asked, needed, rose)
roads_failed told before now file.Whole asked needed rose = absurd rose

pub routes_failed : (which : RouteLines) (told : Option Files) (before now : Doc → ℕ) (f : File) → WasAsked is_of_roads (fault.Folder f)
    → IfSome told (λ files. WasAsked (roads_ask files) (fault.Folder f)) → HasRisen before now (fault.Folder f) → FileFailed (command.Routes which) told before now
routes_failed which told before now f asked needed rose = roads_failed told before now f asked needed rose

-- of the curve file of a case, and of a check
pub curves_missed : (told : Option Files) (before now : Doc → ℕ) (e : CaseFault)
    → IfSome told (λ files. WasAsked (asks_for files) e) → HasRisen before now e → IsMissing (refusal.Case e) → FileFailed command.Curves told before now
curves_missed told before now (fault.Folder f) asked rose missing = failed report.Load told before now f asked rose
curves_missed told before now (fault.TooLong f) asked rose missing = absurd missing
curves_missed told before now (fault.Bad f row cause) asked rose missing = absurd missing
curves_missed told before now fault.NoHistory asked rose missing = absurd missing
curves_missed told before now fault.NoMemory asked rose missing = absurd missing

pub check_failed : (told : Option Files) (before now : Doc → ℕ) (e : Refusal) → HasMissed told before now e → IsMissing e → FileFailed command.Check told before now
check_failed told before now (refusal.Case (fault.Folder f)) missed missing = missed
check_failed told before now (refusal.Case (fault.TooLong f)) missed missing = absurd missing
check_failed told before now (refusal.Case (fault.Bad f row cause)) missed missing = absurd missing
check_failed told before now (refusal.Case fault.NoHistory) missed missing = absurd missing
check_failed told before now (refusal.Case fault.NoMemory) missed missing = absurd missing
check_failed told before now refusal.NoCurves missed missing = missed
check_failed told before now refusal.LongCurves missed missing = absurd missing
check_failed told before now (refusal.BadCurves row cause) missed missing = absurd missing
check_failed told before now refusal.NoStart missed missing = absurd missing
check_failed told before now (refusal.NoStep node slot) missed missing = absurd missing
