-- What the roads and the demand of a case make of it by least free-flow routes.
use Rattle.std.specs.Prelude.{ℕ, ◌≡◌, Bool, true, nat_lt, nat_le, if◌then◌else◌, length, List, Option, IfSome, Result, Ok, Err}
use Rattle.ltm_units.specs.Results.{refuse}
use Rattle.ltm_io.specs.Folder.{Files}
use Rattle.ltm_scenario.specs.Data.{ScenarioData}
use Rattle.ltm_scenario.specs.Build.{◌>>=◌}
use Rattle.ltm_casefile.specs.declared.faults.CaseFault.{CaseFault}
use Rattle.ltm_casefile.specs.declared.faults.CaseFault.TheVariants as fault
use Rattle.ltm_casefile.specs.declared.faults.CaseCause.TheVariants.{TooManyRows}
use Rattle.ltm_casefile.specs.declared.faults.File.TheVariants as file
use Rattle.ltm_casefile.specs.Causes.{taken}
use Rattle.ltm_casefile.specs.Rows.{at_row}
use Rattle.ltm_casefile.specs.Case.{whole}
use Rattle.ltm_casefile.specs.Roads.{unsplit_case_of}
use Rattle.ltm_routes.specs.Split.{RoutesData, AreAllRoutes, route_splits, with_splits}
use Rattle.ltm_routes_command.specs.declared.lines.RouteLines.{RouteLines}
use Rattle.ltm_routes_command.specs.declared.lines.RouteLines.TheVariants as lines
use Rattle.ltm_routes_command.specs.Lines.{routes_text}
use Rattle.ltm_units.specs.Bounds.{longest_file}

-- the scenario with the route splits, where that is a valid case; too many rows are told first
unfoldable pub routed : ScenarioData → List RoutesData → Result ScenarioData CaseFault
routed s all =
    at_row file.Whole 0 (refuse (nat_lt s.setup.most_split_rows (length (route_splits s all))) TooManyRows) >>= λ _.
    at_row file.Whole 0 (taken (with_splits s (route_splits s all)) TooManyRows) >>= λ split.
    whole split

-- a text, or the fault in place of it
abbrev pub Answer : Type 0
Answer = Result (List ℕ) CaseFault

-- a file of splits can be read where it has at most 16,777,216 bytes; times are no file of a case
abbrev pub is_readable : RouteLines → List ℕ → Bool
is_readable lines.Splits text = nat_le (length text) longest_file
is_readable lines.Times text = true

abbrev pub readable : RouteLines → List ℕ → Answer
readable lines text = if is_readable lines text then Ok text else Err (fault.TooLong file.Splits)

-- the lines of the routes over these roads, or what is wrong with the case that they make
abbrev pub RoutesAnswer : RouteLines → Result ScenarioData CaseFault → Answer → Type 0
RoutesAnswer lines (Ok s) answer = (all : List RoutesData) × AreAllRoutes s all × (answer ≡ (routed s all >>= λ _. readable lines (routes_text lines s all)))
RoutesAnswer lines (Err fault) answer = answer ≡ Err fault

-- the same, of the roads that a folder tells, where it tells anything
abbrev pub AnswersRoutes : RouteLines → Option Files → Answer → Type 0
AnswersRoutes lines told answer = (said : Result ScenarioData CaseFault) × IfSome told (λ files. unsplit_case_of files ≡ said) × RoutesAnswer lines said answer

-- what is told of these roads alone: a fault of the case that their routes make, splits that are too long, or want of memory
abbrev pub SaysOfRoutes : RouteLines → ScenarioData → CaseFault → Type 0
SaysOfRoutes lines s (fault.Folder f) = ⊥
SaysOfRoutes lines s (fault.TooLong f) = RoutesAnswer lines (Ok s) (Err (fault.TooLong f))
SaysOfRoutes lines s (fault.Bad f row cause) = RoutesAnswer lines (Ok s) (Err (fault.Bad f row cause))
SaysOfRoutes lines s fault.NoHistory = RoutesAnswer lines (Ok s) (Err fault.NoHistory)
SaysOfRoutes lines s fault.NoMemory = Unit {0}

-- a fault that lies in the files is the answer; that a folder did not give a file, or memory was not found, does not lie
-- in them
abbrev pub AnswersFault : RouteLines → Option Files → CaseFault → Type 0
AnswersFault lines told (fault.Folder f) = Unit {0}
AnswersFault lines told (fault.TooLong f) = AnswersRoutes lines told (Err (fault.TooLong f))
AnswersFault lines told (fault.Bad f row cause) = AnswersRoutes lines told (Err (fault.Bad f row cause))
AnswersFault lines told fault.NoHistory = AnswersRoutes lines told (Err fault.NoHistory)
AnswersFault lines told fault.NoMemory = Unit {0}
