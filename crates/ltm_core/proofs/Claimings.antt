-- What a claim, and a claim given back, make of a core.
use Rattle.std.proofs.Common.{◌≡◌, ℕ, ◌<◌, List, ◌∷◌, Bool, true, false, IsTrue, ◌↔◌, inl, inr, refl, ap, sym, subst, ◌∙◌}
use Rattle.std.specs.Prelude.{Option, Some, None}
use Rattle.std.specs.Prelude.{◌⊎◌}
use Rattle.std.proofs.lemmas.Bool.{false≢true, cases_eq}
use Rattle.ltm_loading.proofs.Unlike.{unlike_cases}
use Rattle.ltm_units.specs.declared.places.Pair.{Pair}
use Rattle.ltm_node.specs.declared.shape.NodeShape.{NodeShape}
use Rattle.ltm_node.specs.Inputs.{Inputs}
use Rattle.ltm_loading.specs.Setting.{Setting}
use Rattle.ltm_loading.specs.Pairs.{shape_at}
use Rattle.ltm_setting.specs.Setting.{setting_of}
use Rattle.ltm_repair.specs.Desk.{Desk}
use Rattle.ltm_repair.specs.State.{RepairState, now}
use Rattle.ltm_repair.specs.Moves.{GivesBack}
use Rattle.ltm_repair.specs.Events.{CoreEvent, GiveBack, GaveBack}
use Rattle.ltm_repair.specs.Making.{claim_event}
use Rattle.ltm_repair.specs.Answers.{ClaimAnswer, Got, NotYet, Rest, ClaimLeaves, IsKept, AnswersClaim}
use Rattle.ltm_working.specs.declared.table.Table.{Table}
use Rattle.ltm_working.specs.Desks.{desk_at, changed_at}
use Rattle.ltm_working.specs.Ready.{IsReady}
use Rattle.ltm_working.specs.Searching.{AnswersSearch}
use Rattle.ltm_core.specs.Log.{version_now}
use Rattle.ltm_core.specs.Laws.{RepairLaws}
use Rattle.ltm_core.specs.Claims.{ClaimData, DoneData}
use Rattle.ltm_core.specs.Cores.{CoreData, desk_in, repair_of, IsCore}
use Rattle.ltm_core.specs.CoreAnswers.{IsKeptClaim, TellsGiveBack}
use Rattle.ltm_core.specs.Histories.{CameBy}
use Rattle.ltm_core.proofs.Cores.{core_now, core_desk, after_event, core_with, only_desk}
use Rattle.ltm_core.proofs.Telling.{claim_leaves_log}
use Rattle.ltm_core.proofs.Histories.{repair_told, came_more}

-- a pair that is handed out has this ticket
abbrev pub IsTicket : ClaimAnswer → ℕ → Type 0
IsTicket (Got u t ticket row) n = ticket ≡ n
IsTicket NotYet n = Unit {0}
IsTicket Rest n = Unit {0}

kept_of : (s : Setting) (old new : Desk) (answer : ClaimAnswer) (n : ℕ) → ClaimLeaves s old answer new → IsTicket answer n →
    (u t ticket : ℕ) (row : List ℕ) → answer ≡ Got u t ticket row → (ticket ≡ n) × (new.claimed u t ≡ Some row)
kept_of s old new (Got w v k r) n leaves at u t ticket row same = (cc, cc (leaves.2.holds))
kept_of s old new NotYet n leaves at u t ticket row same = absurd (cc)
kept_of s old new Rest n leaves at u t ticket row same = absurd (cc)

kept_accepted : (d : CoreData) (t : Table) (u v ticket : ℕ) (row : List ℕ) → (ticket ≡ version_now d.log) × ((repair_of (record d { table = t })).desk.claimed u v ≡ Some row) →
    IsKept (repair_of (record d { table = t })) u v ticket row
unfolding repair_of
kept_accepted d t u v ticket row h = h

-- what the table answers is the answer of the core
pub core_claims : (d : CoreData) (t : Table) (answer : ClaimAnswer) → IsCore d → changed_at (setting_of d.scenario) t ≡ changed_at (setting_of d.scenario) d.table →
    AnswersSearch (setting_of d.scenario) (desk_in d) answer (desk_at (setting_of d.scenario) t) → IsTicket answer (version_now d.log) →
    AnswersClaim (repair_of d) answer (repair_of (record d { table = t }))
core_claims d t answer is cells told at =
    let e : CoreData = record d { table = t } in
    let s : Setting = setting_of d.scenario in
    let a : AnswersSearch s (repair_of d).desk answer (repair_of e).desk =
    subst (λ (z : Desk). AnswersSearch s z answer (repair_of e).desk) (sym (core_desk d)) (subst (λ (z : Desk). AnswersSearch s (desk_in d) answer z) (sym (core_desk e)) told) in
    let b : AnswersSearch (now (repair_of d)) (repair_of d).desk answer (repair_of e).desk = subst (λ (z : Setting). AnswersSearch z (repair_of d).desk answer (repair_of e).desk) (sym (core_now d is)) a in
    record {
      desk = b.desk;
      only = only_desk d t cells;
      kept = λ u v ticket row same. kept_accepted d t u v ticket row (kept_of (now (repair_of d)) (repair_of d).desk (repair_of e).desk answer (version_now d.log) b.desk at u v ticket row same);
      not_yet = b.not_yet;
      rest = b.rest;
    }

pub core_after_claim : RepairLaws → (d : CoreData) (t : Table) (answer : ClaimAnswer) → IsCore d → IsReady (setting_of d.scenario) t →
    changed_at (setting_of d.scenario) t ≡ changed_at (setting_of d.scenario) d.table →
    AnswersSearch (setting_of d.scenario) (desk_in d) answer (desk_at (setting_of d.scenario) t) → IsTicket answer (version_now d.log) → IsCore (record d { table = t })
core_after_claim laws d t answer is ready cells told at =
    core_with d t is ready (after_event laws.keeps (repair_of d) (repair_of (record d { table = t })) (claim_event answer) is.repair
    (laws.events.claim (repair_of d) (repair_of (record d { table = t })) answer (core_claims d t answer is cells told at)))

pub came_claim : RepairLaws → (d : CoreData) (t : Table) (answer : ClaimAnswer) (h : List CoreEvent) → IsCore d → changed_at (setting_of d.scenario) t ≡ changed_at (setting_of d.scenario) d.table →
    AnswersSearch (setting_of d.scenario) (desk_in d) answer (desk_at (setting_of d.scenario) t) → IsTicket answer (version_now d.log) → h ≡ claim_event answer ∷ d.history → CameBy d →
    CameBy (record d { table = t; history = h })
came_claim laws d t answer h is cells told at more came =
    came_more d (record d { table = t }) (claim_event answer) h (claim_leaves_log answer d.log) more
    (laws.events.claim (repair_of d) (repair_of (record d { table = t })) answer (core_claims d t answer is cells told at)) came

pub core_claims_at : (d v : CoreData) (t : Table) (h : List CoreEvent) (answer : ClaimAnswer) → d ≡ v → IsCore d → changed_at (setting_of d.scenario) t ≡ changed_at (setting_of d.scenario) d.table →
    AnswersSearch (setting_of d.scenario) (desk_in d) answer (desk_at (setting_of d.scenario) t) → IsTicket answer (version_now d.log) →
    AnswersClaim (repair_of v) answer (repair_of (record d { table = t; history = h }))
core_claims_at d v t h answer same is cells told at =
    subst (λ (e : RepairState). AnswersClaim (repair_of v) answer e) (sym (repair_told (record d { table = t }) h))
    (subst (λ (z : CoreData). AnswersClaim (repair_of z) answer (repair_of (record d { table = t }))) same (core_claims d t answer is cells told at))

-- the claim that a core hands out is kept
pub kept_claim : (old : Desk) (e : CoreData) (pair : Pair) (ticket : ℕ) (n : Inputs) → ticket ≡ version_now e.log → AnswersSearch (setting_of e.scenario) old (Got pair.node.0 pair.slot ticket n.row) (desk_in e) →
    n.shape ≡ shape_at (setting_of e.scenario) pair.node.0 → IsKeptClaim e pair ticket n
kept_claim old e pair ticket n at told shape = record { current = at; claimed = told.desk.2.holds; shape = shape }

-- ---- the test of a claim
pub kept_is : (d v : CoreData) (pair : Pair) (ticket : ℕ) (n : Inputs) (shape : NodeShape) (r : Bool) → d ≡ v → ticket ≡ version_now d.log →
    (desk_in d).claimed pair.node.0 pair.slot ≡ Some n.row → shape ≡ shape_at (setting_of d.scenario) pair.node.0 → (IsTrue r ↔ n.shape ≡ shape) →
    IsTrue r ↔ IsKeptClaim v pair ticket n
kept_is d v pair ticket n shape r same at claimed is told =
    subst (λ (z : CoreData). IsTrue r ↔ IsKeptClaim z pair ticket n) same (λ t. record { current = at; claimed = claimed; shape = told.0 t ∙ is }, λ k. told.1 (k.shape ∙ sym is))

pub kept_in : (d v : CoreData) (pair : Pair) (ticket : ℕ) (n : Inputs) → d ≡ v → IsKeptClaim v pair ticket n → IsKeptClaim d pair ticket n
kept_in d v pair ticket n same kept = subst (λ (z : CoreData). IsKeptClaim z pair ticket n) (sym same) kept

pub not_claimed : (d v : CoreData) (pair : Pair) (ticket : ℕ) (n : Inputs) → d ≡ v → ((desk_in d).claimed pair.node.0 pair.slot ≡ Some n.row → ⊥) → IsTrue false ↔ IsKeptClaim v pair ticket n
not_claimed d v pair ticket n same none = (λ f. absurd (false≢true f), λ k. absurd (none (kept_in d v pair ticket n same k).claimed))

pub not_current : (d v : CoreData) (pair : Pair) (ticket : ℕ) (n : Inputs) → d ≡ v → (ticket ≡ version_now d.log → ⊥) → IsTrue false ↔ IsKeptClaim v pair ticket n
not_current d v pair ticket n same other = (λ f. absurd (false≢true f), λ k. absurd (other (kept_in d v pair ticket n same k).current))

-- a claim that is kept with what a value holds is kept with what is read of it
pub kept_given : (v : CoreData) (d given : DoneData) (n : Inputs) → d ≡ given → n ≡ d.solved.inputs → IsKeptClaim v given.pair given.ticket given.solved.inputs → IsKeptClaim v d.pair d.ticket n
kept_given v d given n same read kept =
    subst (λ (i : Inputs). IsKeptClaim v d.pair d.ticket i) (sym read) (subst (λ (z : DoneData). IsKeptClaim v z.pair z.ticket z.solved.inputs) (sym same) kept)

-- a claimed pair is one of the network
pub claimed_node : (d : CoreData) (u v : ℕ) (row : List ℕ) → IsCore d → (desk_in d).claimed u v ≡ Some row → u < (setting_of d.scenario).nodes
claimed_node d u v row is some = (is.ready.sound.claims u v row some).is_node

pub shape_told : (a shape b : NodeShape) (r : Bool) → a ≡ shape → (IsTrue r ↔ a ≡ b) → IsTrue r ↔ shape ≡ b
shape_told a shape b r same told = (λ t. sym same ∙ told.0 t, λ e. told.1 (same ∙ e))

-- ---- give back
gave_of : (d : CoreData) (t : Table) (u v : ℕ) → changed_at (setting_of d.scenario) t ≡ changed_at (setting_of d.scenario) d.table →
    GivesBack (desk_in d) u v (desk_at (setting_of d.scenario) t) → GaveBack (repair_of d) u v (repair_of (record d { table = t }))
unfolding repair_of
gave_of d t u v cells step = record { desk = step; only = only_desk d t cells }

pub core_after_give : RepairLaws → (d : CoreData) (t : Table) (u v : ℕ) → IsCore d → IsReady (setting_of d.scenario) t →
    changed_at (setting_of d.scenario) t ≡ changed_at (setting_of d.scenario) d.table →
    GivesBack (desk_in d) u v (desk_at (setting_of d.scenario) t) → IsCore (record d { table = t })
core_after_give laws d t u v is ready cells step =
    core_with d t is ready (after_event laws.keeps (repair_of d) (repair_of (record d { table = t })) (GiveBack u v) is.repair (gave_of d t u v cells step))

pub came_give : (d : CoreData) (t : Table) (h : List CoreEvent) (u v : ℕ) → changed_at (setting_of d.scenario) t ≡ changed_at (setting_of d.scenario) d.table →
    GivesBack (desk_in d) u v (desk_at (setting_of d.scenario) t) → h ≡ GiveBack u v ∷ d.history → CameBy d → CameBy (record d { table = t; history = h })
came_give d t h u v cells step more came = came_more d (record d { table = t }) (GiveBack u v) h refl more (gave_of d t u v cells step) came

pub tells_give : (d v : CoreData) (t : Table) (h : List CoreEvent) (claim given : ClaimData) → d ≡ v → claim ≡ given → IsKeptClaim v claim.pair claim.ticket claim.inputs →
    changed_at (setting_of d.scenario) t ≡ changed_at (setting_of d.scenario) d.table →
    GivesBack (desk_in d) claim.pair.node.0 claim.pair.slot (desk_at (setting_of d.scenario) t) → h ≡ GiveBack claim.pair.node.0 claim.pair.slot ∷ d.history →
    TellsGiveBack v given (record d { table = t; history = h })
tells_give d v t h claim given same at kept cells step more =
    let e : CoreData = record d { table = t; history = h } in
    let gave : GaveBack (repair_of d) claim.pair.node.0 claim.pair.slot (repair_of e) =
    subst (λ (z : RepairState). GaveBack (repair_of d) claim.pair.node.0 claim.pair.slot z) (sym (repair_told (record d { table = t }) h)) (gave_of d t claim.pair.node.0 claim.pair.slot cells step) in
    subst (λ (z : ClaimData). TellsGiveBack v z e) at (record {
      kept = λ k. subst (λ (z : CoreData). GaveBack (repair_of z) claim.pair.node.0 claim.pair.slot (repair_of e)) same gave;
      adds = λ k. more ∙ ap (λ (z : CoreData). GiveBack claim.pair.node.0 claim.pair.slot ∷ z.history) same;
      stale = λ none. absurd (none kept);
      keeps = ap (λ (z : CoreData). record z { table = t; history = h }) same;
    })

-- a claim that is not kept changes nothing
pub gives_none : (v : CoreData) (claim given : ClaimData) → claim ≡ given → (IsKeptClaim v claim.pair claim.ticket claim.inputs → ⊥) → TellsGiveBack v given v
gives_none v claim given at none = subst (λ (z : ClaimData). TellsGiveBack v z v) at (record { kept = λ k. absurd (none k); adds = λ k. absurd (none k); stale = λ other. refl; keeps = refl })

-- ---- whether a claim is kept is decided
cases_own : (a b : Option ℕ) → (a ≡ b) ⊎ (a ≡ b → ⊥)
cases_own None None = inl refl
cases_own None (Some y) = inr (λ h. cc)
cases_own (Some x) None = inr (λ h. cc)
cases_own (Some x) (Some y) = elim (cases_eq x y) [ inl same ↦ inl (ap (λ z. Some z) same) | inr other ↦ inr (λ h. other (cc)) ]

cases_rule : (a b : Bool) → (a ≡ b) ⊎ (a ≡ b → ⊥)
cases_rule true true = inl refl
cases_rule true false = inr (λ h. cc)
cases_rule false true = inr (λ h. cc)
cases_rule false false = inl refl

cases_shape : (a b : NodeShape) → (a ≡ b) ⊎ (a ≡ b → ⊥)
cases_shape a b = elim (cases_eq a.arms b.arms) [
  | inr other ↦ inr (λ h. other (ap (λ (z : NodeShape). z.arms) h))
  | inl arms ↦ elim (cases_eq a.outs b.outs) [
    | inr other ↦ inr (λ h. other (ap (λ (z : NodeShape). z.outs) h))
    | inl outs ↦ elim (cases_eq a.destinations b.destinations) [
      | inr other ↦ inr (λ h. other (ap (λ (z : NodeShape). z.destinations) h))
      | inl destinations ↦ elim (cases_own a.own b.own) [
        | inr other ↦ inr (λ h. other (ap (λ (z : NodeShape). z.own) h))
        | inl own ↦ elim (cases_rule a.by_turn b.by_turn) [
          | inr other ↦ inr (λ h. other (ap (λ (z : NodeShape). z.by_turn) h))
          | inl rule ↦ inl (λ i. record { arms = arms i; outs = outs i; destinations = destinations i; own = own i; by_turn = rule i })
        ]
      ]
    ]
  ]
]

pub claim_kept_or_not : (d : CoreData) (pair : Pair) (ticket : ℕ) (n : Inputs) → IsKeptClaim d pair ticket n ⊎ (IsKeptClaim d pair ticket n → ⊥)
claim_kept_or_not d pair ticket n =
    elim (cases_eq ticket (version_now d.log)) [
      | inr other ↦ inr (λ k. other k.current)
      | inl at ↦ elim (unlike_cases ((desk_in d).claimed pair.node.0 pair.slot) (Some n.row)) [
        | inr unlike ↦ inr (λ k. unlike.0 k.claimed)
        | inl same ↦ elim (cases_shape n.shape (shape_at (setting_of d.scenario) pair.node.0)) [
          | inr apart ↦ inr (λ k. apart k.shape)
          | inl shape ↦ inl (record { current = at; claimed = same.0; shape = shape })
        ]
      ]
    ]
