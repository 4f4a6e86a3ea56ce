-- How many settles stand in a history.
use Rattle.std.proofs.Common.{ℕ, ◌≡◌, ◌+◌, ◌≤◌, List, [], ◌∷◌, length, refl, ap, ◌∙◌, arith}
use Rattle.ltm_scenario.specs.declared.edit.Edit.{Edit}
use Rattle.ltm_core.specs.Events.{CoreEvent, Look, Claim, GiveBack, Commit, Accept, Publish, Settle, Stay}
use Rattle.ltm_workers.specs.Runs.{in_all, work_in}
use Rattle.ltm_core.specs.Cores.{CoreData}
use Rattle.ltm_core.specs.CoreAnswers.{AcceptsBatch, LooksAs, with_event}
use Rattle.ltm_core.specs.Runs.{HoldsOfRuns, with_events}
use Rattle.ltm_workers.specs.Draining.{Works}
use Rattle.ltm_core.specs.Told.{settle_in, settles_of}

one_more : (x : CoreEvent) (h : List CoreEvent) → in_all settle_in (with_event x h) ≡ settle_in x + in_all settle_in h
one_more Look h = refl
one_more (Claim u t) h = refl
one_more (GiveBack u t) h = refl
one_more (Commit u t) h = refl
one_more Accept h = refl
one_more Publish h = refl
one_more (Settle n) h = refl
one_more Stay h = omega arith

all_more : (xs h : List CoreEvent) → in_all settle_in (with_events xs h) ≡ in_all settle_in xs + in_all settle_in h
all_more [] h = omega arith
all_more (x ∷ xs) h = let rest : in_all settle_in (with_events xs (with_event x h)) ≡ in_all settle_in xs + in_all settle_in (with_event x h) = all_more xs (with_event x h) in let one = one_more x h in omega (rest, one, arith)

-- no work is a settle
one_kind : (x : CoreEvent) → settle_in x + work_in x ≤ 1
one_kind Look = omega arith
one_kind (Claim u t) = omega arith
one_kind (GiveBack u t) = omega arith
one_kind (Commit u t) = omega arith
one_kind Accept = omega arith
one_kind Publish = omega arith
one_kind (Settle n) = omega arith
one_kind Stay = omega arith

kinds : (xs : List CoreEvent) → in_all settle_in xs + in_all work_in xs ≤ length xs
kinds [] = omega arith
kinds (x ∷ xs) = let rest : in_all settle_in xs + in_all work_in xs ≤ length xs = kinds xs in let one = one_kind x in omega (rest, one, arith)

pub work_settles_none : HoldsOfRuns → (d e : CoreData) (before after : ℕ) → Works d before e after → settles_of e ≡ settles_of d
work_settles_none runs d e before after works =
    let longer : settles_of e ≡ in_all settle_in works.events + settles_of d = ap (λ (h : List CoreEvent). in_all settle_in h) (runs.history d e works.events works.run.run) ∙ all_more works.events d.history in
    let few : in_all settle_in works.events + in_all work_in works.events ≤ length works.events = kinds works.events in
    let all : in_all work_in works.events ≡ length works.events = works.work in omega (longer, few, all, arith)

-- nor is a batch, or what is refused
pub batch_settles_none : (old new : CoreData) (batch : List Edit) → AcceptsBatch old batch new → settles_of new ≡ settles_of old
batch_settles_none old new batch is = let more : settles_of new ≡ 0 + settles_of old = ap (λ (d : CoreData). settles_of d) is.keeps in omega (more, arith)

pub looks_settle_none : (old new : CoreData) → LooksAs old new → settles_of new ≡ settles_of old
looks_settle_none old new looks = ap (λ (h : List CoreEvent). in_all settle_in h) looks.history
