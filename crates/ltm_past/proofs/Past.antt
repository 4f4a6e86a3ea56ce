-- Pairs before the first slot of a batch read the same, so the loading after it has a front that is one before it.
use Rattle.std.proofs.Common.{◌≡◌, ℕ, zero, suc, ◌+◌, ◌<◌, ◌≤◌, false, List, [], ◌∷◌, All, Option, Some, None, arith, refl, sym, subst}
use Rattle.std.specs.List.{list_any}
use Rattle.std.specs.Option.{option_map_or}
use Rattle.std.proofs.lemmas.Bool.Decides.{nat_tests}
use Rattle.ltm_units.specs.Sums.{sum_below}
use Rattle.ltm_units.proofs.Sums.{sum_below-same}
use Rattle.ltm_curve.specs.Counts.{Counts, total}
use Rattle.ltm_network.specs.Network.{find_node, find_link}
use Rattle.ltm_scenario.specs.declared.edit.Edit.{Edit}
use Rattle.ltm_scenario.specs.declared.edit.Edit.TheVariants.{Demand, Limit, Split, Splits, Diagram, Exit, Horizon}
use Rattle.ltm_scenario.specs.Data.{ScenarioData}
use Rattle.ltm_scenario.specs.IsScenario.{IsScenario}
use Rattle.ltm_node.specs.declared.shape.NodeShape.{NodeShape}
use Rattle.ltm_node.specs.Step.{IsNodeStep}
use Rattle.ltm_loading.specs.Setting.{Setting}
use Rattle.ltm_loading.specs.Groups.{up_of, down_of, dep_of, arr_of}
use Rattle.ltm_loading.specs.Pairs.{shape_at, pair_row, count_row, MeetsStep}
use Rattle.ltm_loading.specs.Networks.{SameNetwork}
use Rattle.ltm_loading.specs.Loading.{IsFront, OriginsWithoutOutsAreEmpty, IsLoading}
use Rattle.ltm_loading.specs.LoadingLaws.{OneFront}
use Rattle.ltm_setting.specs.Setting.{setting_of}
use Rattle.ltm_setting.specs.ScenarioLaw.{ScenariosAreSettings}
use Rattle.ltm_repair.proofs.Networks.{shape_same, groups_same, dep_same}
use Rattle.ltm_pairs.specs.Reaches.{reach, lies_in, lies_in_one}
use Rattle.ltm_pairs.specs.Touched.{touched_by, is_touched, HaveSlots, EditKeeps, BatchTouchesReaders}
use Rattle.ltm_past.specs.Past.{first_slot, SamePast, SameReports, PastStays, ReportsStay, LongerBeginsAsShorter}

-- ---- what a batch touches before its first slot: nothing
before_reach : (node from to u t : ℕ) → t < from → lies_in u t (reach node from to) ≡ false
before_reach node from to u t h = grind (arith, nat_tests)

before_one : (found : Option ℕ) (at : ℕ → ℕ) (from to u t : ℕ) → t < from → list_any (lies_in u t) (option_map_or (λ x. reach (at x) from to ∷ []) found []) ≡ false
before_one None at from to u t h = refl
before_one (Some x) at from to u t h = rw (before_reach (at x) from to u t h) refl

before_edit : (s : ScenarioData) (edit : Edit) (u t : ℕ) → t < first_slot s.setup.slots edit → t < s.setup.slots → lies_in_one (touched_by s edit) u t ≡ false
before_edit s (Demand origin destination from to amount) u t h l = before_one (find_node s.network origin) (λ x. x) from s.setup.slots u t h
before_edit s (Limit link from to amount) u t h l = before_one (find_link s.network link) _ from _ u t h
before_edit s (Split node destination from weights) u t h l = before_one (find_node s.network node) (λ x. x) from s.setup.slots u t h
before_edit s (Splits node destination rows) u t h l = absurd (omega (h, arith))
before_edit s (Diagram link diagram) u t h l = absurd (omega (h, arith))
before_edit s (Exit link from to amount) u t h l = before_one (find_link s.network link) _ from _ u t h
before_edit s (Horizon more) u t h l = refl

before_batch : (s : ScenarioData) (batch : List Edit) (slot u t : ℕ) → All (λ edit. slot ≤ first_slot s.setup.slots edit) batch → t < slot → t < s.setup.slots → is_touched s batch u t ≡ false
before_batch s [] slot u t each h l = refl
before_batch s (edit ∷ edits) slot u t each h l =
    let first : slot ≤ first_slot s.setup.slots edit = each 0 edit (omega arith) in
    let rest : All (λ e. slot ≤ first_slot s.setup.slots e) edits = λ k e less. each (suc k) e (omega (less, arith)) in
    rw (before_edit s edit u t (omega (first, h, arith)) l) (before_batch s edits slot u t rest h l)

-- ---- what meets a node's step after the batch meets it before, where it reads the same
row_same : (r s : Setting) (c : Counts) (u k : ℕ) → SameNetwork r s → count_row r c u k ≡ count_row s c u k
row_same r s c u k same = rw (same.ins, same.in_link, same.outs, same.out_link, same.destinations, same.own, same.links, same.nodes) refl

step_back : (r s : Setting) (c : Counts) (u t : ℕ) → SameNetwork r s → pair_row s c u t ≡ pair_row r c u t → MeetsStep s c u t → MeetsStep r c u t
step_back r s c u t same reads met =
    let one : IsNodeStep (record { shape = shape_at r u; row = pair_row s c u t; room = 0 }) (record { shape = shape_at r u; row = count_row s c u (t + 1); room = 0 }) =
    subst (λ (z : NodeShape). IsNodeStep (record { shape = z; row = pair_row s c u t; room = 0 }) (record { shape = z; row = count_row s c u (t + 1); room = 0 })) (sym (shape_same r s u same)) met in
    let two : IsNodeStep (record { shape = shape_at r u; row = pair_row r c u t; room = 0 }) (record { shape = shape_at r u; row = count_row s c u (t + 1); room = 0 }) =
    subst (λ (z : List ℕ). IsNodeStep (record { shape = shape_at r u; row = z; room = 0 }) (record { shape = shape_at r u; row = count_row s c u (t + 1); room = 0 })) reads one in
    subst (λ (z : List ℕ). IsNodeStep (record { shape = shape_at r u; row = pair_row r c u t; room = 0 }) (record { shape = shape_at r u; row = z; room = 0 })) (sym (row_same r s c u (t + 1) same)) two

front_back : (r s : Setting) (c : Counts) (slot : ℕ) → SameNetwork r s → slot ≤ s.slots → ((u t : ℕ) → t < slot → pair_row s c u t ≡ pair_row r c u t) → IsLoading s c → IsFront r c slot
front_back r s c slot same within reads is = record {
  empty = λ g d x y. is.front.empty g d (subst (λ (n : ℕ). g < n) (groups_same r s same) x) (subst (λ (n : ℕ). d < n) same.destinations y);
  steps = λ u t x l. step_back r s c u t same (reads u t l) (is.front.steps u t (subst (λ (n : ℕ). u < n) same.nodes x) (omega (l, within, arith)));
}

origins_back : (r s : Setting) (c : Counts) → SameNetwork r s → r.slots ≤ s.slots → IsLoading s c → OriginsWithoutOutsAreEmpty r c
origins_back r s c same within is u d k x none y l =
    let here : c (dep_of s u) d k ≡ 0 = is.no_origin u d k (subst (λ (n : ℕ). u < n) same.nodes x) (subst (λ (f : ℕ → ℕ). f u ≡ 0) same.outs none) (subst (λ (n : ℕ). d < n) same.destinations y) (omega (l, within, arith)) in
    subst (λ (g : ℕ). c g d k ≡ 0) (sym (dep_same r s u same)) here

shorter : (s : Setting) (c : Counts) (slot : ℕ) → slot ≤ s.slots → IsLoading s c → IsFront s c slot
shorter s c slot within is = record { empty = is.front.empty; steps = λ u t x l. is.front.steps u t x (omega (l, within, arith)) }

horizon_of : (s : ScenarioData) → (setting_of s).slots ≡ s.setup.slots
unfolding setting_of
horizon_of s = refl

have_slots : (s : ScenarioData) → IsScenario s → HaveSlots s
have_slots s is = record { entry = is.entry; exit = is.exit }

pub past_stays : ScenariosAreSettings → BatchTouchesReaders → OneFront → PastStays
past_stays settings touches one s next batch slot before after is edited within each old new g d k x y l =
    let changed = touches 1 s next batch (have_slots s is) edited in
    let kept : EditKeeps s next = changed.0 in
    let inside : slot ≤ (setting_of s).slots = omega (within, horizon_of s, arith) in
    let front : IsFront (setting_of s) after slot =
    front_back (setting_of s) (setting_of next) after slot kept.network (omega (inside, kept.slots, arith))
    (λ u t h. changed.1.inputs after u t (omega (h, within, arith)) (before_batch s batch slot u t each h (omega (h, within, arith)))) new in
    one (setting_of s) before after slot (settings s is) inside
    (shorter (setting_of s) before slot inside old) old.no_origin
    front (origins_back (setting_of s) (setting_of next) after kept.network kept.slots new)
    g d k x y l

-- ---- totals of the same counts
arr_same : (r s : Setting) → SameNetwork r s → arr_of s ≡ arr_of r
arr_same r s same = rw (same.links, same.nodes) refl

total_same : (r s : Setting) (a b : Counts) (g h k : ℕ) → r.destinations ≡ s.destinations → h ≡ g → ((d : ℕ) → d < r.destinations → a g d k ≡ b g d k) →
    total s.destinations (b h) k ≡ total r.destinations (a g) k
total_same r s a b g h k same at each =
    let here : sum_below r.destinations (λ d. b g d k) ≡ sum_below r.destinations (λ d. a g d k) = sum_below-same r.destinations (λ d. b g d k) (λ d. a g d k) (λ d x. sym (each d x)) in
    let wide : sum_below s.destinations (λ d. b g d k) ≡ sum_below r.destinations (λ d. a g d k) = subst (λ (n : ℕ). sum_below n (λ d. b g d k) ≡ sum_below r.destinations (λ d. a g d k)) same here in
    subst (λ (z : ℕ). sum_below s.destinations (λ d. b z d k) ≡ sum_below r.destinations (λ d. a g d k)) (sym at) wide

reports_of : (s next : ScenarioData) (slot : ℕ) (a b : Counts) → SameNetwork (setting_of s) (setting_of next) → SamePast s slot a b → SameReports s next slot a b
reports_of s next slot a b same past = record {
  entered = λ l k x y. total_same (setting_of s) (setting_of next) a b (up_of l) (up_of l) k same.destinations refl (λ d z. past (up_of l) d k (omega (x, arith)) z y);
  gone = λ l k x y. total_same (setting_of s) (setting_of next) a b (down_of l) (down_of l) k same.destinations refl (λ d z. past (down_of l) d k (omega (x, arith)) z y);
  departed = λ u k x y. total_same (setting_of s) (setting_of next) a b (dep_of (setting_of s) u) (dep_of (setting_of next) u) k same.destinations (sym (dep_same (setting_of s) (setting_of next) u same)) (λ d z. past (dep_of (setting_of s) u) d k (omega (x, arith)) z y);
  arrived = λ k y. total_same (setting_of s) (setting_of next) a b (arr_of (setting_of s)) (arr_of (setting_of next)) k same.destinations (arr_same (setting_of s) (setting_of next) same) (λ d z. past (arr_of (setting_of s)) d k (omega arith) z y);
}

pub reports_stay : BatchTouchesReaders → PastStays → ReportsStay
reports_stay touches stays s next batch slot before after is edited within each old new =
    reports_of s next slot before after (touches 1 s next batch (have_slots s is) edited).0.network (stays s next batch slot before after is edited within each old new)

-- the first slot of a longer horizon is the end of the one before
each_one : (slots more : ℕ) → All (λ edit. slots ≤ first_slot slots edit) (Horizon more ∷ [])
each_one slots more zero e less = omega arith
each_one slots more (suc k) e less = absurd (omega (less, arith))

pub longer_begins : PastStays → LongerBeginsAsShorter
longer_begins stays s next more before after is edited old new = stays s next (Horizon more ∷ []) s.setup.slots before after is edited (omega arith) (each_one s.setup.slots more) old new
