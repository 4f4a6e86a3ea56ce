-- The slots that a batch adds.
use Rattle.std.proofs.Common.{◌≡◌, ℕ, ◌+◌, ◌<◌, ◌≤◌, ◌&&◌, ◌||◌, nat_lt, nat_le, List, [], ◌∷◌, Bool, true, false, Ok, arith, inl, inr, refl, sym, ap, ◌∙◌}
use Rattle.std.proofs.lemmas.Bool.{cases_lt}
use Rattle.std.proofs.lemmas.Bool.Decides.{nat_tests}
use Rattle.ltm_scenario.specs.declared.edit.Edit.{Edit}
use Rattle.ltm_scenario.specs.declared.edit.Edit.TheVariants.{Demand, Limit, Split, Splits, Diagram, Exit, Horizon}
use Rattle.ltm_scenario.specs.Data.{ScenarioData}
use Rattle.ltm_scenario.specs.Edits.{edited, edited_from, at_place}
use Rattle.ltm_scenario.specs.Makes.{Makes, EditsMake, demand, entry, exit, split, splits, diagram, horizon}
use Rattle.ltm_pairs.specs.Touched.{adds_slot, is_added, AddedSlotsAreNew}
use Rattle.ltm_pairs.proofs.EditKeeps.{frame, bound, placed}

-- the slot is one of those from one up to and without another
abbrev between : ℕ → ℕ → ℕ → Bool
between least end slot = nat_le least slot && nat_lt slot end

none_between : (n t : ℕ) → between n n t ≡ false
none_between n t = elim (cases_lt t n) [ inl l ↦ grind (arith, nat_tests) | inr l ↦ grind (arith, nat_tests) ]

-- ---- one edit
adds : (s next : ScenarioData) (edit : Edit) (t : ℕ) → Makes s next edit → adds_slot s edit t ≡ between s.setup.slots next.setup.slots t
adds s next edit t (demand origin destination from to amount row said) = sym (none_between s.setup.slots t)
adds s next edit t (entry name from to amount link said) = sym (none_between s.setup.slots t)
adds s next edit t (exit name from to amount link said) = sym (none_between s.setup.slots t)
adds s next edit t (split node destination from weights key said) = sym (none_between s.setup.slots t)
adds s next edit t (splits node destination rows n d said) = sym (none_between s.setup.slots t)
adds s next edit t (diagram name new link named sets) = sym (none_between s.setup.slots t)
adds s next edit t (horizon slots said) = refl

-- no edit adds a slot before the horizon
none_before : (s : ScenarioData) (edit : Edit) (t : ℕ) → t < s.setup.slots → adds_slot s edit t ≡ false
none_before s (Demand origin destination from to amount) t l = refl
none_before s (Limit link from to amount) t l = refl
none_before s (Split node destination from weights) t l = refl
none_before s (Splits node destination rows) t l = refl
none_before s (Diagram link new) t l = refl
none_before s (Exit link from to amount) t l = refl
none_before s (Horizon slots) t l = let e : nat_le s.setup.slots t ≡ false = grind (arith, nat_tests) in ap (λ b. b && nat_lt t slots) e

none_added : (s : ScenarioData) (edits : List Edit) (t : ℕ) → t < s.setup.slots → is_added s edits t ≡ false
none_added s [] t l = refl
none_added s (edit ∷ edits) t l = ap (λ b. b || is_added s edits t) (none_before s edit t l) ∙ none_added s edits t l

-- past two horizons an edit adds the same slots to both
past_both : (s mid : ScenarioData) (edit : Edit) (t : ℕ) → s.setup.slots ≤ t → mid.setup.slots ≤ t → adds_slot s edit t ≡ adds_slot mid edit t
past_both s mid (Demand origin destination from to amount) t a b = refl
past_both s mid (Limit link from to amount) t a b = refl
past_both s mid (Split node destination from weights) t a b = refl
past_both s mid (Splits node destination rows) t a b = refl
past_both s mid (Diagram link new) t a b = refl
past_both s mid (Exit link from to amount) t a b = refl
past_both s mid (Horizon slots) t a b =
    let e : nat_le s.setup.slots t ≡ nat_le mid.setup.slots t = grind (arith, nat_tests) in
    ap (λ x. x && nat_lt t slots) e

all_past : (s mid : ScenarioData) (edits : List Edit) (t : ℕ) → s.setup.slots ≤ t → mid.setup.slots ≤ t → is_added s edits t ≡ is_added mid edits t
all_past s mid [] t a b = refl
all_past s mid (edit ∷ edits) t a b =
    ap (λ x. x || is_added s edits t) (past_both s mid edit t a b) ∙ ap (λ x. adds_slot mid edit t || x) (all_past s mid edits t a b)

-- ---- a batch
joins : (first rest : Bool) (a b c t : ℕ) → a ≤ b → b ≤ c → first ≡ between a b t → (b ≤ t → rest ≡ between b c t) → (t < a → rest ≡ false) → first || rest ≡ between a c t
joins first rest a b c t ab bc one late none = elim (cases_lt t a) [
  | inl before ↦
      let e : between a b t ≡ false = grind (arith, nat_tests) in
      let f : between a c t ≡ false = grind (arith, nat_tests) in
      ap (λ x. x || rest) (one ∙ e) ∙ none before ∙ sym f
  | inr from ↦ elim (cases_lt t b) [
    | inl inside ↦
        let e : between a b t ≡ true = grind (arith, nat_tests) in
        let f : between a c t ≡ true = let l : t < c = omega arith in grind (arith, nat_tests) in
        ap (λ x. x || rest) (one ∙ e) ∙ sym f
    | inr past ↦
        let e : between a b t ≡ false = grind (arith, nat_tests) in
        let f : between b c t ≡ between a c t = ap (λ x. x && nat_lt t c) (let g : nat_le b t ≡ nat_le a t = grind (arith, nat_tests) in g) in
        ap (λ x. x || rest) (one ∙ e) ∙ late past ∙ f
  ]
]

-- the horizon is no shorter once a batch is made
no_shorter : EditsMake → (place : ℕ) (s next : ScenarioData) (edits : List Edit) → edited_from place s edits ≡ Ok next → s.setup.slots ≤ next.setup.slots
no_shorter make place s next [] is =
    let same : s ≡ next = cc in
    let slots : s.setup.slots ≡ next.setup.slots = ap (λ (z : ScenarioData). z.setup.slots) same in
    omega arith
no_shorter make place s next (edit ∷ edits) is =
    let one = bound (at_place place (edited s edit)) (λ (mid : ScenarioData). edited_from (place + 1) mid edits) next is in
    let first = frame s one.0 edit (make s one.0 edit (placed place (edited s edit) one.0 one.1)) in
    omega (arith, first.slots, no_shorter make (place + 1) one.0 next edits one.2)

pub added_slots_are_new : EditsMake → AddedSlotsAreNew
added_slots_are_new make place s next [] is t =
    let same : s ≡ next = cc in
    sym (none_between s.setup.slots t) ∙ ap (λ (z : ScenarioData). between s.setup.slots z.setup.slots t) same
added_slots_are_new make place s next (edit ∷ edits) is t =
    let one = bound (at_place place (edited s edit)) (λ (mid : ScenarioData). edited_from (place + 1) mid edits) next is in
    let mid : ScenarioData = one.0 in
    let made = make s mid edit (placed place (edited s edit) mid one.1) in
    let longer = (frame s mid edit made).slots in
    joins (adds_slot s edit t) (is_added s edits t) s.setup.slots mid.setup.slots next.setup.slots t longer (no_shorter make (place + 1) mid next edits one.2)
    (adds s mid edit t made)
    (λ past. all_past s mid edits t (omega (arith, longer, past)) past ∙ added_slots_are_new make (place + 1) mid next edits one.2 t)
    (λ before. none_added s edits t before)
