-- One line more of a script, whoever answers it.
use Rattle.std.proofs.Common.{ℕ, ◌≡◌, ◌⊎◌, inl, inr, ◌+◌, ◌<◌, ◌≤◌, List, [], length, ap, subst, ◌∙◌}
use Rattle.std.specs.Prelude.{Option, Some}
use Rattle.ltm_io.specs.Source.{prepended}
use Rattle.ltm_io.specs.Script.{after_line}
use Rattle.ltm_io.specs.Answers.{GivesLine}
use Rattle.ltm_io.specs.Sink.{appended}
use Rattle.ltm_session.specs.declared.ends.SessionEnd.{SessionEnd}
use Rattle.ltm_session.specs.declared.ends.SessionEnd.TheVariants.{Ended, WriteFault, NoMemory}
use Rattle.ltm_session.specs.Analysts.{Analysts}
use Rattle.ltm_session.specs.Session.{Answering, longest_line, most_lines}
use Rattle.ltm_session.specs.Serving.{IsServing, EndsIfTold}
use Rattle.ltm_session.specs.Answerers.{Knowing, Leads, AnswersBy, StopsBy, Serves}
use Rattle.ltm_session.proofs.Progress.{nothing_ahead, serving_begins, serving_more, serving_ends, serving_stops}

-- so many lines were read and answered, from each machine that may have been there
pub record ServesSoFar (rule : Answering) (old new : Knowing) (told coming before after : Option (List ℕ)) (count : ℕ) : Type 0 where
  pub serving : (o : Analysts) → old o → (t : Analysts) × IsServing rule o told coming before after count t × new t
  -- what was told of the script is told of what is coming
  pub stays : (script : List ℕ) → told ≡ Some script → (rest : List ℕ) × (coming ≡ Some rest)

pub coming_first : (taken : List ℕ) (told : Option (List ℕ)) → taken ≡ [] → prepended taken told ≡ told
coming_first taken told none = ap (λ (bytes : List ℕ). prepended bytes told) none ∙ nothing_ahead told

pub serves_first : (rule : Answering) (knows : Knowing) (told coming written : Option (List ℕ)) → coming ≡ told → ServesSoFar rule knows knows told coming written written 0
serves_first rule knows told coming written same = record {
  serving = λ o may. (o, serving_begins rule o told coming written same, may);
  stays = λ script is. (script, same ∙ is);
}

told_more : (told now new : Option (List ℕ)) (line : List ℕ) → ((script : List ℕ) → told ≡ Some script → (rest : List ℕ) × (now ≡ Some rest)) → GivesLine now line new
    → (script : List ℕ) → told ≡ Some script → (rest : List ℕ) × (new ≡ Some rest)
told_more told now new line stays reads script is =
    let (rest, at) = stays script is in
    let (first, left) = subst (λ n. GivesLine n line new) at reads in (after_line rest, left)

pub serves_more : (rule : Answering) (old mid next : Knowing) (told now new w w1 w2 : Option (List ℕ)) (count : ℕ) (line text : List ℕ)
    → ServesSoFar rule old mid told now w w1 count → GivesLine now line new → length line ≤ longest_line
    → AnswersBy rule mid next line text → w2 ≡ appended text w1 → ServesSoFar rule old next told new w w2 (count + 1)
unfolding Leads
serves_more rule old mid next told now new w w1 w2 count line text so reads fits is wrote = record {
  serving = λ o may.
      let (t, serving, knows) = so.serving o may in
      let (u, answered, then_knows) = is t knows in
      (u, serving_more rule o told now new w w1 w2 count t u line text serving reads fits answered wrote, then_knows);
  stays = told_more told now new line so.stays reads;
}

pub serves_ends : (rule : Answering) (old new : Knowing) (told now left w w1 : Option (List ℕ)) (count : ℕ) (end : SessionEnd)
    → ServesSoFar rule old new told now w w1 count → count ≤ most_lines → EndsIfTold end count now left → Serves rule old new told left end w w1
serves_ends rule old new told now left w w1 count end so few ends = record {
  session = λ o may.
      let (t, serving, knows) = so.serving o may in
      let (output, session, wrote) = serving_ends rule o told now left w w1 count t end serving few ends in
      (output, t, session, wrote, knows);
  read = λ script is ended.
      let (rest, at) = so.stays script is in
      let (before, read, came) = subst (λ n. EndsIfTold end count n left) at ends in
      read ended;
}

not_ended : (end : SessionEnd) → (end ≡ WriteFault) ⊎ (end ≡ NoMemory) → end ≡ Ended → ⊥
not_ended end (inl is) ended = cc
not_ended end (inr is) ended = cc

pub no_stop : (end : SessionEnd) → (end ≡ WriteFault) ⊎ (end ≡ NoMemory) → (end ≡ WriteFault → ⊥) → (end ≡ NoMemory → ⊥) → ⊥
no_stop end (inl is) write memory = write is
no_stop end (inr is) write memory = memory is

pub serves_stops : (rule : Answering) (old mid next : Knowing) (told now new left w w1 w2 : Option (List ℕ)) (count : ℕ) (line : List ℕ) (end : SessionEnd)
    → ServesSoFar rule old mid told now w w1 count → count < most_lines → GivesLine now line new → length line ≤ longest_line
    → StopsBy rule mid next line end w1 w2 → Serves rule old next told left end w w2
unfolding Leads
serves_stops rule old mid next told now new left w w1 w2 count line end so few reads fits stops = record {
  session = λ o may.
      let (t, serving, knows) = so.serving o may in
      let (u, stopped, then_knows) = stops.leads t knows in
      let (output, session, wrote) = serving_stops rule o told now new left w w1 w2 count t u line end serving few reads fits stopped in
      (output, u, session, wrote, then_knows);
  read = λ script is ended. absurd (not_ended end stops.which ended);
}
