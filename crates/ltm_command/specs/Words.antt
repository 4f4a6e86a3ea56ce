-- What the words of the command line ask for: one of twelve commands, or nothing.
use Rattle.std.specs.Prelude.{ℕ, ◌≡◌, ◌↔◌, ◌≤◌, if◌then◌else◌, List, [], ◌∷◌, Option, None, Some, option_map, codes}
use Rattle.std.specs.Str.{bytes_eq}
use Rattle.ltm_units.specs.Bounds.{most_slots}
use Rattle.ltm_units.specs.Numbers.{number_told}
use Rattle.ltm_routes_command.specs.declared.lines.RouteLines.TheVariants as lines
use Rattle.ltm_try_command.specs.Words.{start_of, nodes_of, if_at_least}
use Rattle.ltm_command.specs.declared.words.Command.{Command}
use Rattle.ltm_command.specs.declared.words.Command.TheVariants as command
use Rattle.ltm_command.specs.declared.words.Report.TheVariants as report

-- the number that a word names, of so few digits, from the least to the most
abbrev pub number_of : ℕ → ℕ → ℕ → List ℕ → Option ℕ
number_of digits least most word = if_at_least least (number_told digits most word)

-- workers are 0 to 64, viewers 1 or 2, editors 1 to 8
abbrev pub workers_of : List ℕ → Option ℕ
workers_of = number_of 2 0 64

abbrev pub viewers_of : List ℕ → Option ℕ
viewers_of = number_of 1 1 2

abbrev pub editors_of : List ℕ → Option ℕ
editors_of = number_of 1 1 8

-- totals are told every 1 to as many slots as there can be
abbrev pub every_of : List ℕ → Option ℕ
every_of = number_of 5 1 most_slots

-- the words ask for the command
abbrev pub Asks : List (List ℕ) → Command → Type 0
Asks words (command.Report report.Load) = words ≡ codes "load" ∷ []
Asks words (command.Report report.Delay) = words ≡ codes "delay" ∷ []
Asks words (command.Report report.Gap) = words ≡ codes "gap" ∷ []
Asks words (command.Report (report.Totals every)) = (number : List ℕ) × (words ≡ codes "totals" ∷ number ∷ []) × (every_of number ≡ Some every)
Asks words command.Curves = words ≡ codes "curves" ∷ []
Asks words command.Check = words ≡ codes "check" ∷ []
Asks words (command.Routes lines.Splits) = words ≡ codes "routes" ∷ []
Asks words (command.Routes lines.Times) = words ≡ codes "routes" ∷ codes "times" ∷ []
Asks words (command.Try start nodes) = (first second : List ℕ) × (words ≡ codes "try" ∷ first ∷ second ∷ []) × (start_of first ≡ Some start) × (nodes_of second ≡ Some nodes)
Asks words (command.Session workers) = (number : List ℕ) × (words ≡ codes "session" ∷ number ∷ []) × (workers_of number ≡ Some workers)
Asks words (command.View viewers) = (number : List ℕ) × (words ≡ codes "view" ∷ number ∷ []) × (viewers_of number ≡ Some viewers)
Asks words (command.Editors editors) = (number : List ℕ) × (words ≡ codes "editors" ∷ number ∷ []) × (editors_of number ≡ Some editors)

-- the numbers of a command are in their range
abbrev pub IsSized : Command → Type 0
IsSized (command.Try start nodes) = (4 ≤ nodes) × (nodes ≤ 400)
IsSized (command.Report (report.Totals every)) = (1 ≤ every) × (every ≤ most_slots)
IsSized (command.Session workers) = workers ≤ 64
IsSized (command.View viewers) = (1 ≤ viewers) × (viewers ≤ 2)
IsSized (command.Editors editors) = (1 ≤ editors) × (editors ≤ 8)
IsSized c = Unit {0}

-- ---- the one reading
-- this where the word is the text, else that
abbrev pub when : List ℕ → List ℕ → Option Command → Option Command → Option Command
when word text this other = if bytes_eq word text then this else other

abbrev pub one_word : List ℕ → Option Command
one_word word =
    when word (codes "load") (Some (command.Report report.Load))
    (when word (codes "delay") (Some (command.Report report.Delay))
    (when word (codes "gap") (Some (command.Report report.Gap))
    (when word (codes "curves") (Some command.Curves)
    (when word (codes "check") (Some command.Check)
    (when word (codes "routes") (Some (command.Routes lines.Splits)) None)))))

abbrev pub totals_of : ℕ → Command
totals_of every = command.Report (report.Totals every)

abbrev pub two_words : List ℕ → List ℕ → Option Command
two_words word second =
    when word (codes "routes") (when second (codes "times") (Some (command.Routes lines.Times)) None)
    (when word (codes "totals") (option_map totals_of (every_of second))
    (when word (codes "session") (option_map command.Session (workers_of second))
    (when word (codes "view") (option_map command.View (viewers_of second))
    (when word (codes "editors") (option_map command.Editors (editors_of second)) None))))

abbrev pub trial_of : Option ℕ → Option ℕ → Option Command
trial_of (Some start) (Some nodes) = Some (command.Try start nodes)
trial_of (Some start) None = None
trial_of None nodes = None

-- the command that the words ask for, none where they ask for none
abbrev pub command_of : List (List ℕ) → Option Command
command_of [] = None
command_of (word ∷ []) = one_word word
command_of (word ∷ second ∷ []) = two_words word second
command_of (word ∷ second ∷ third ∷ []) = when word (codes "try") (trial_of (start_of second) (nodes_of third)) None
command_of (word ∷ second ∷ third ∷ fourth ∷ more) = None

-- the reading gives exactly the command that the words ask for
abbrev pub OneReading : Type 0
OneReading = (words : List (List ℕ)) (c : Command) → (command_of words ≡ Some c) ↔ Asks words c

-- all commands
unfoldable pub usage_line : List ℕ
usage_line = codes "usage: ltm load | ltm delay | ltm gap | ltm totals N | ltm session N | ltm try START NODES | ltm routes [times] | ltm curves | ltm check | ltm view V | ltm editors K\n"
