-- What holds of the reports of trials.
use Rattle.std.specs.Prelude.{ℕ, ◌≡◌, List}
use Rattle.ltm_try_command.specs.Trial.{IsTrial}

-- two numbers have one report
abbrev pub OneTrial : Type 0
OneTrial = (start nodes : ℕ) (a b : List ℕ) → IsTrial start nodes a → IsTrial start nodes b → a ≡ b
