-- Route splits change nothing that routes, names and lines are made of.
use Rattle.std.proofs.Common.{ℕ, ◌≡◌, ◌≤◌, arith, Bool, true, false, if◌then◌else◌, List, length, Option, Result, Ok, Err, ap, sym, subst, ◌∙◌}
use Rattle.std.specs.Prelude.{All, IfSome, IfOk, IfErr, OnOk}
use Rattle.std.proofs.lemmas.Bool.Decides.{nat_tests}
use Rattle.ltm_io.specs.Folder.{Files}
use Rattle.ltm_network.specs.IsNetwork.{NamesAreFound}
use Rattle.ltm_network.specs.Places.{LinksAtTheirPlaces}
use Rattle.ltm_scenario.specs.Data.{ScenarioData}
use Rattle.ltm_scenario.specs.IsScenario.{IsScenario}
use Rattle.ltm_scenario.specs.Valid.{IsValid}
use Rattle.ltm_scenario.specs.Build.{◌>>=◌}
use Rattle.ltm_units.specs.Bounds.{longest_file}
use Rattle.ltm_casefile.specs.declared.faults.CaseFault.{CaseFault}
use Rattle.ltm_casefile.specs.declared.faults.CaseFault.TheVariants as fault
use Rattle.ltm_casefile.specs.declared.faults.File.TheVariants as file
use Rattle.ltm_casefile.specs.Faults.{Says}
use Rattle.ltm_casefile.specs.declared.tables.Table.TheVariants as table
use Rattle.ltm_casefile.specs.Tables.{with_file}
use Rattle.ltm_casefile.specs.Case.{whole}
use Rattle.ltm_casefile.specs.Roads.{unsplit_case_of}
use Rattle.ltm_routes.specs.Split.{RoutesData, AreAllRoutes, route_splits, with_splits, KeepsRest}
use Rattle.ltm_routes.specs.Missing.{with_routes}
use Rattle.ltm_routes_command.specs.declared.lines.RouteLines.{RouteLines}
use Rattle.ltm_routes_command.specs.declared.lines.RouteLines.TheVariants as lines
use Rattle.ltm_routes_command.specs.Lines.{routes_text}
use Rattle.ltm_routes_command.specs.Routing.{routed, is_readable, readable, RoutesAnswer, SaysOfRoutes, AnswersFault}
use Rattle.ltm_routes_command.specs.File.{IsNamed, IsSplitsOf, IsTimesOf, IsSplitsFile}
use Rattle.ltm_routes_command.proofs.Text.{text_back}
use Rattle.ltm_routes_command.proofs.WholeCase.{whole_case_told, routed_case_told}

pub still : (roads split : ScenarioData) (all : List RoutesData) → KeepsRest roads split → AreAllRoutes roads all → AreAllRoutes split all
still roads split all rest are = subst (λ z. AreAllRoutes z all) (sym rest) (record { routes_for_each = are.routes_for_each; routes = are.routes })

text_kept : (which : RouteLines) (roads split : ScenarioData) (all : List RoutesData) → KeepsRest roads split → routes_text which split all ≡ routes_text which roads all
unfolding routes_text
text_kept lines.Splits roads split all rest = ap (λ z. routes_text lines.Splits z all) rest
text_kept lines.Times roads split all rest = ap (λ z. routes_text lines.Times z all) rest

named_kept : (roads split : ScenarioData) (all : List RoutesData) → KeepsRest roads split → All (IsNamed split.network split.destinations) (route_splits split all) → All (IsNamed roads.network roads.destinations) (route_splits roads all)
named_kept roads split all rest named = subst (λ z. All (IsNamed z.network z.destinations) (route_splits z all)) rest named

-- a text that was made of the scenario with its splits is the answer
pub answered : (which : RouteLines) (roads split : ScenarioData) (all : List RoutesData) (text : List ℕ) → AreAllRoutes roads all → KeepsRest roads split → routed roads all ≡ Ok split
    → text ≡ routes_text which split all → RoutesAnswer which (Ok roads) (readable which text)
answered which roads split all text are rest set is =
    (all, are, ap (readable which) (is ∙ text_kept which roads split all rest) ∙ sym (ap (λ (r : Result ScenarioData CaseFault). r >>= λ _. readable which (routes_text which roads all)) set))

-- by whether it can be read
pub answered_text : (which : RouteLines) (roads : ScenarioData) (text : List ℕ) → is_readable which text ≡ true → RoutesAnswer which (Ok roads) (readable which text) → RoutesAnswer which (Ok roads) (Ok text)
answered_text which roads text short answer = subst (λ (b : Bool). RoutesAnswer which (Ok roads) (if b then Ok text else Err (fault.TooLong file.Splits))) short answer

pub answered_long : (which : RouteLines) (roads : ScenarioData) (text : List ℕ) → is_readable which text ≡ false → RoutesAnswer which (Ok roads) (readable which text) → RoutesAnswer which (Ok roads) (Err (fault.TooLong file.Splits))
answered_long which roads text long answer = subst (λ (b : Bool). RoutesAnswer which (Ok roads) (if b then Ok text else Err (fault.TooLong file.Splits))) long answer

pub splits_short : (which : RouteLines) (text : List ℕ) → which ≡ lines.Splits → is_readable which text ≡ true → length text ≤ longest_file
splits_short lines.Splits text is short = grind (arith, nat_tests)
splits_short lines.Times text is short = cc

-- a fault of the case that the routes make
pub says_of : (which : RouteLines) (roads : ScenarioData) (all : List RoutesData) (e : CaseFault) → AreAllRoutes roads all → Says (routed roads all) e → SaysOfRoutes which roads e
says_of which roads all (fault.Folder f) are said = said
says_of which roads all (fault.TooLong f) are said = absurd said
says_of which roads all (fault.Bad f row cause) are said =
    (all, are, sym (ap (λ (r : Result ScenarioData CaseFault). r >>= λ _. readable which (routes_text which roads all)) said))
says_of which roads all fault.NoHistory are said =
    (all, are, sym (ap (λ (r : Result ScenarioData CaseFault). r >>= λ _. readable which (routes_text which roads all)) said))
says_of which roads all fault.NoMemory are said = tt

-- a fault over the roads that a folder tells
pub fault_told : {A : Type 0} (which : RouteLines) (told : Option Files) (roads : ScenarioData) (r : Result A CaseFault) → IfSome told (λ files. unsplit_case_of files ≡ Ok roads) → IfErr r (SaysOfRoutes which roads) → IfErr r (AnswersFault which told)
fault_told which told roads (Ok x) said is = tt
fault_told which told roads (Err (fault.Folder f)) said is = tt
fault_told which told roads (Err (fault.TooLong f)) said is = (Ok roads, said, is)
fault_told which told roads (Err (fault.Bad f row cause)) said is = (Ok roads, said, is)
fault_told which told roads (Err fault.NoHistory) said is = (Ok roads, said, is)
fault_told which told roads (Err fault.NoMemory) said is = tt

pub splits_are : (roads split : ScenarioData) (all : List RoutesData) (text : List ℕ) → IsScenario roads → NamesAreFound → LinksAtTheirPlaces → AreAllRoutes roads all → KeepsRest roads split
    → with_splits roads (route_splits roads all) ≡ Ok split → with_routes roads ≡ with_splits roads (route_splits roads all) → length text ≤ longest_file → IsValid split → whole split ≡ Ok split
    → All (IsNamed split.network split.destinations) (route_splits split all) → text ≡ routes_text lines.Splits split all → IsSplitsOf roads split text
splits_are roads split all text scenario found places are rest set given short valid is_whole named is =
    let text_is : text ≡ routes_text lines.Splits roads all = is ∙ text_kept lines.Splits roads split all rest in
    let names = named_kept roads split all rest named in
    record {
      routes = all;
      least = are;
      set = set;
      given = given ∙ set;
      valid = valid;
      whole = is_whole;
      text_is = text_is;
      short = short;
      read_back = ap (with_file table.Splits roads) text_is ∙ text_back roads split all scenario found places names set;
    }

pub times_are : (roads split : ScenarioData) (all : List RoutesData) (text : List ℕ) → AreAllRoutes roads all → KeepsRest roads split → text ≡ routes_text lines.Times split all → IsTimesOf roads text
times_are roads split all text are rest is = record { routes = all; least = are; text_is = is ∙ text_kept lines.Times roads split all rest }

-- the splits of roads that a folder tells
pub splits_told : {A : Type 0} → ((s next : ScenarioData) → with_routes s ≡ Ok next → with_routes next ≡ Ok next) → (told : Option Files) (roads : ScenarioData) (bytes : A → List ℕ) (r : Result A CaseFault) → IfSome told (λ files. unsplit_case_of files ≡ Ok roads) → OnOk r (IsScenario roads)
    → IfOk r (λ t. (split : ScenarioData) × IsSplitsOf roads split (bytes t)) → IfOk r (λ t. IsSplitsFile told (bytes t))
splits_told settle told roads bytes (Ok t) said scenario (split, splits) = record {
  roads = roads;
  split = split;
  said = said;
  scenario = scenario;
  splits = splits;
  whole_case = whole_case_told told (bytes t) roads split said splits.read_back (settle roads split splits.given) splits.whole splits.short;
  routed_case = routed_case_told told roads split said splits.given splits.whole;
}
splits_told settle told roads bytes (Err fault) said scenario are = tt
