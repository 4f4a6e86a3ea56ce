-- What whoever answers lines does to what may be known of the machine.
use Rattle.std.specs.Prelude.{◌≡◌, ◌⊎◌, ℕ, List, [], Option, Some, None}
use Rattle.ltm_io.specs.Lines.{max_of, taken_by, kept_by}
use Rattle.ltm_session.specs.declared.ends.SessionEnd.{SessionEnd}
use Rattle.ltm_session.specs.declared.ends.SessionEnd.TheVariants.{Ended, WriteFault, NoMemory}
use Rattle.ltm_session.specs.declared.script.Script.{Script}
use Rattle.ltm_session.specs.Analysts.{Analysts}
use Rattle.ltm_session.specs.Session.{Answering, AnswersLine, IsSession, Wrote, longest_line}
use Rattle.ltm_session.specs.Serving.{StopsAt}

-- ---- the script
-- nothing of it was read yet
pub record IsUnread (script : Script) : Type 0 where
  pub longest : max_of script.lines ≡ longest_line
  pub none_taken : taken_by script.lines ≡ []
  pub none_kept : kept_by script.lines ≡ None

-- ---- the machine
-- which machines may be behind an answerer, as far as it knows
abbrev pub Knowing : Type 1
Knowing = Analysts → Type 0

-- from each machine that may have been there before, a step leads to one that may be there after
unfoldable pub Leads : Knowing → Knowing → (Analysts → Analysts → Type 0) → Type 0
Leads old new Step = (s : Analysts) → old s → (t : Analysts) × Step s t × new t

-- a line was answered with these words
abbrev pub AnswersBy : Answering → Knowing → Knowing → List ℕ → List ℕ → Type 0
AnswersBy rule old new line words = Leads old new (λ s t. AnswersLine rule s line words t)

-- a session stopped at a line
pub record StopsBy (rule : Answering) (old new : Knowing) (line : List ℕ) (end : SessionEnd) (before after : Option (List ℕ)) : Type 0 where
  pub which : (end ≡ WriteFault) ⊎ (end ≡ NoMemory)
  pub leads : Leads old new (λ s t. StopsAt rule s line t end before after)

-- a script was served, from each machine that may have been there; with Ended it was read to its end
pub record Serves (rule : Answering) (old new : Knowing) (told left : Option (List ℕ)) (end : SessionEnd) (before after : Option (List ℕ)) : Type 0 where
  pub session : (s : Analysts) → old s →
      (output : List ℕ) × (t : Analysts) × IsSession rule s told left end output t × Wrote end before after output × new t
  pub read : (script : List ℕ) → told ≡ Some script → end ≡ Ended → left ≡ Some []
