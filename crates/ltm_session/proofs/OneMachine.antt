-- What a core without workers answers, for what may be known of it.
use Rattle.std.proofs.Common.{◌≡◌, List, ℕ, refl, sym, subst}
use Rattle.std.specs.Prelude.{Option, Result, Ok, Err, OnOk, IfErr}
use Rattle.ltm_io.specs.Sink.{appended}
use Rattle.ltm_session.specs.declared.ends.SessionEnd.{SessionEnd}
use Rattle.ltm_session.specs.Analysts.{Analysts}
use Rattle.ltm_session.specs.Session.{Answering, AnswersLine, IsSession, Wrote}
use Rattle.ltm_session.specs.Serving.{StopsAt}
use Rattle.ltm_session.specs.Answerers.{Leads, AnswersBy, StopsBy, Serves}

leads_one : (a b : Analysts) (Step : Analysts → Analysts → Type 0) → Step a b → Leads (λ s. s ≡ a) (λ s. s ≡ b) Step
unfolding Leads
leads_one a b Step is = λ s same. (b, subst (λ x. Step x b) (sym same) is, refl)

pub answers_one : {A B : Type 0} (rule : Answering) (a b : Analysts) (line : List ℕ) (old new : Option (List ℕ)) (r : Result A B)
    → OnOk r ((words : List ℕ) × AnswersLine rule a line words b × (new ≡ appended words old))
    → OnOk r ((words : List ℕ) × AnswersBy rule (λ s. s ≡ a) (λ s. s ≡ b) line words × (new ≡ appended words old))
answers_one rule a b line old new (Ok x) (words, is, wrote) = (words, leads_one a b (λ s t. AnswersLine rule s line words t) is, wrote)
answers_one rule a b line old new (Err e) is = tt

pub stops_one : {A : Type 0} (rule : Answering) (a b : Analysts) (line : List ℕ) (old new : Option (List ℕ)) (r : Result A SessionEnd)
    → IfErr r (λ end. StopsAt rule a line b end old new)
    → IfErr r (λ end. StopsBy rule (λ s. s ≡ a) (λ s. s ≡ b) line end old new)
stops_one rule a b line old new (Ok x) is = tt
stops_one rule a b line old new (Err end) is = record { which = is.0; leads = leads_one a b (λ s t. StopsAt rule s line t end old new) is }

-- what holds anyhow holds where a line was answered
pub whenever : {A B P : Type 0} (r : Result A B) → P → OnOk r P
whenever (Ok x) p = p
whenever (Err e) p = tt

-- a script was served, from a core that has accepted nothing
pub served_one : (rule : Answering) (o a b : Analysts) (told left : Option (List ℕ)) (end : SessionEnd) (old new : Option (List ℕ)) → a ≡ o
    → Serves rule (λ s. s ≡ a) (λ s. s ≡ b) told left end old new
    → (output : List ℕ) × IsSession rule o told left end output b × Wrote end old new output
served_one rule o a b told left end old new first served =
    let (output, t, so, wrote, same) = served.session o (sym first) in
    (output, subst (λ x. IsSession rule o told left end output x) same so, wrote)
