-- Which command ran.
use Rattle.std.proofs.Common.{ℕ, ◌≡◌, refl, ap, sym, subst, arith, Bool, true, Option, None, Some}
use Rattle.std.specs.Prelude.{nat_lt, if◌then◌else◌}
use Rattle.std.proofs.lemmas.Bool.Decides.{nat_tests}
use Rattle.ltm_command.specs.declared.status.Status.{Status}
use Rattle.ltm_command.specs.declared.words.Command.{Command}
use Rattle.ltm_command.specs.declared.words.Command.TheVariants as command
use Rattle.ltm_command.specs.Answers.{HasText}
use Rattle.ltm_command.specs.Program.{IsAnswerUnder, Fetches}
use Rattle.ltm_command.specs.Run.{Outside, IsRun}
use Rattle.ltm_program.specs.Ran.{Ran, without_threads}

-- a command that is not served has its text made first
pub has_text : (c : Command) → ((n : ℕ) → c ≡ command.Session n → ⊥) → ((n : ℕ) → c ≡ command.View n → ⊥) → ((n : ℕ) → c ≡ command.Editors n → ⊥) → HasText c
has_text (command.Session n) session view editors = session n refl
has_text (command.View n) session view editors = view n refl
has_text (command.Editors n) session view editors = editors n refl
has_text c session view editors = tt

pub ran_text : (c : Command) (status : Status) (b a : Outside) → HasText c → IsRun (IsAnswerUnder c b.told) (Fetches c b.told) ⊥ status b a → Ran (Some c) status b a
ran_text (command.Session n) status b a is run = absurd is
ran_text (command.View n) status b a is run = absurd is
ran_text (command.Editors n) status b a is run = absurd is
ran_text c status b a is run = run

pub ran_as : (c d : Option Command) (status : Status) (b a : Outside) → c ≡ d → Ran c status b a → Ran d status b a
ran_as c d status b a is run = subst (λ x. Ran x status b a) is run

-- ---- where no thread may be started
-- one that starts none is done
pub done_alone : (c : Command) (status : Status) (b a : Outside) → HasText c → IsRun (IsAnswerUnder c b.told) (Fetches c b.told) ⊥ status b a → Ran (without_threads (Some c)) status b a
done_alone (command.Session n) status b a is run = absurd is
done_alone (command.View n) status b a is run = absurd is
done_alone (command.Editors n) status b a is run = absurd is
done_alone c status b a is run = run

-- one that starts any is not
pub starts_any : (n : ℕ) → (n ≡ 0 → ⊥) → None ≡ without_threads (Some (command.Session n))
starts_any n some =
    let test : nat_lt 0 n ≡ true = grind (arith, nat_tests, some) in sym (ap (λ (b : Bool). if b then None else Some (command.Session n)) test)
