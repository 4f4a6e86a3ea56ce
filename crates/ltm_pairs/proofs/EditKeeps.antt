-- What an edit leaves as it is, and what a batch does to what pairs read.
use Rattle.std.proofs.Common.{◌≡◌, ℕ, ◌+◌, ◌-◌, ◌<◌, ◌≤◌, ◌||◌, List, [], ◌∷◌, Bool, true, false, length, Ok, Err, Result, replicate, arith, refl, sym, ap, subst, ◌∙◌}
use Rattle.std.proofs.lemmas.List.{length-replicate}
use Rattle.ltm_limits.specs.Limits.{with_limit, AreWhole}
use Rattle.ltm_limits.specs.Laws.{LimitsStayWhole}
use Rattle.ltm_network.specs.Network.{NetworkData}
use Rattle.ltm_scenario.specs.declared.edit.Edit.{Edit}
use Rattle.ltm_scenario.specs.declared.edit.EditCause.{EditCause}
use Rattle.ltm_scenario.specs.Data.{ScenarioData}
use Rattle.ltm_scenario.specs.Build.{as_limit, ◌>>=◌}
use Rattle.ltm_scenario.specs.Edits.{edited, edited_from, at_place}
use Rattle.ltm_scenario.specs.Makes.{Makes, EditsMake, demand, entry, exit, split, splits, diagram, horizon}
use Rattle.ltm_curve.specs.Counts.{Counts}
use Rattle.ltm_loading.specs.Flows.{position}
use Rattle.ltm_loading.specs.Networks.{SameNetwork}
use Rattle.ltm_setting.specs.Setting.{setting_of}
use Rattle.ltm_repair.proofs.Networks.{network_refl, network_trans}
use Rattle.ltm_pairs.specs.Reaches.{lies_in_one}
use Rattle.ltm_pairs.specs.Touched.{touched_in, touched_by, HaveSlots, EditKeeps, EditsKeep, ReadsSameBut, TouchedHoldsReaders, is_touched, BatchTouchesReaders}
use Rattle.ltm_pairs.proofs.EditReaches.{link_there}
use Rattle.ltm_pairs.proofs.LongerReaches.{longer_reaches}

-- ---- network, horizon and limits
-- what an edit makes of a scenario has its network, its destinations, its rule of moving and no shorter horizon
pub record SameFrame (s next : ScenarioData) : Type 0 where
  pub network : next.network ≡ s.network
  pub destinations : next.destinations ≡ s.destinations
  pub by_turn : next.setup.by_turn ≡ s.setup.by_turn
  pub slots : s.setup.slots ≤ next.setup.slots

pub frame : (s next : ScenarioData) (edit : Edit) → Makes s next edit → SameFrame s next
frame s next edit (demand origin destination from to amount row said) = record { network = refl; destinations = refl; by_turn = refl; slots = omega arith }
frame s next edit (entry name from to amount link said) = record { network = refl; destinations = refl; by_turn = refl; slots = omega arith }
frame s next edit (exit name from to amount link said) = record { network = refl; destinations = refl; by_turn = refl; slots = omega arith }
frame s next edit (split node destination from weights key said) = record { network = refl; destinations = refl; by_turn = refl; slots = omega arith }
frame s next edit (splits node destination rows n d said) = record { network = refl; destinations = refl; by_turn = refl; slots = omega arith }
frame s next edit (diagram name new link named sets) = record { network = refl; destinations = refl; by_turn = refl; slots = omega arith }
frame s next edit (horizon slots said) = record { network = refl; destinations = refl; by_turn = refl; slots = omega (arith, said.longer) }

same_network : (s next : ScenarioData) → SameFrame s next → SameNetwork (setting_of s) (setting_of next)
unfolding setting_of
same_network s next same = record {
  nodes = rw same.network refl;
  links = rw same.network refl;
  destinations = rw same.destinations refl;
  ins = rw same.network refl;
  in_link = rw same.network refl;
  outs = rw same.network refl;
  out_link = rw same.network refl;
  own = rw same.destinations refl;
  by_turn = sym same.by_turn;
}

longer_slots : (s next : ScenarioData) → SameFrame s next → (setting_of s).slots ≤ (setting_of next).slots
unfolding setting_of
longer_slots s next same = same.slots

whole_after : LimitsStayWhole → (limits : List (List ℕ)) (links slots link from to limit : ℕ) → AreWhole limits links slots → link < links → from < to → to ≤ slots → AreWhole (with_limit limits link from to limit) links slots
whole_after law limits links slots link from to limit whole there some fits =
    law.written limits links slots link from (replicate (to - from) limit) there (omega (length-replicate (to - from) limit, arith)) whole

limits_after : LimitsStayWhole → (s next : ScenarioData) (edit : Edit) → Makes s next edit → HaveSlots s → HaveSlots next
limits_after law s next edit (demand origin destination from to amount row said) whole = record { entry = whole.entry; exit = whole.exit }
limits_after law s next edit (entry name from to amount link said) whole = record {
  entry = whole_after law s.entry (length s.network.links) s.setup.slots link from to (as_limit amount.0) whole.entry (link_there s name link said.named) said.some_slots said.within;
  exit = whole.exit;
}
limits_after law s next edit (exit name from to amount link said) whole = record {
  entry = whole.entry;
  exit = whole_after law s.exit (length s.network.links) s.setup.slots link from to (as_limit amount.0) whole.exit (link_there s name link said.named) said.some_slots said.within;
}
limits_after law s next edit (split node destination from weights key said) whole = record { entry = whole.entry; exit = whole.exit }
limits_after law s next edit (splits node destination rows n d said) whole = record { entry = whole.entry; exit = whole.exit }
limits_after law s next edit (diagram name new link named sets) whole = record { entry = whole.entry; exit = whole.exit }
limits_after law s next edit (horizon slots said) whole = record {
  entry = law.longer s.entry (length s.network.links) s.setup.slots slots (omega (arith, said.longer)) whole.entry;
  exit = law.longer s.exit (length s.network.links) s.setup.slots slots (omega (arith, said.longer)) whole.exit;
}

pub edits_keep : EditsMake → LimitsStayWhole → EditsKeep
edits_keep make law s next edit is =
    let made : Makes s next edit = make s next edit is in
    record {
      network = same_network s next (frame s next edit made);
      slots = longer_slots s next (frame s next edit made);
      limits = limits_after law s next edit made;
    }

-- ---- a batch
-- a chain that ends well went well at each step
pub bound : {A B F : Type 0} (r : Result A F) (next : A → Result B F) (y : B) → (r >>= next) ≡ Ok y → (x : A) × (r ≡ Ok x) × (next x ≡ Ok y)
bound (Ok x) next y is = (x, refl, is)
bound (Err fault) next y is = cc

pub placed : {A : Type 0} (place : ℕ) (r : Result A EditCause) (x : A) → at_place place r ≡ Ok x → r ≡ Ok x
placed place (Ok y) x is = cc
placed place (Err cause) x is = cc

neither : (a b : Bool) → a || b ≡ false → (a ≡ false) × (b ≡ false)
neither false b h = (refl, h)
neither true b h = cc

-- of the pairs that were there before, the reaches of edits hold those that they hold if asked of the scenario before another
same_touched : (s mid : ScenarioData) → SameFrame s mid → (edit : Edit) (u t : ℕ) → t < s.setup.slots → lies_in_one (touched_by mid edit) u t ≡ lies_in_one (touched_by s edit) u t
same_touched s mid same edit u t before =
    ap (λ (n : NetworkData). lies_in_one (touched_in n mid.setup.slots edit) u t) same.network
    ∙ longer_reaches s.network s.setup.slots mid.setup.slots edit u t before same.slots

rest_same : (s mid : ScenarioData) (edits : List Edit) (u t : ℕ) → SameFrame s mid → t < s.setup.slots → is_touched mid edits u t ≡ is_touched s edits u t
rest_same s mid [] u t same before = refl
rest_same s mid (edit ∷ edits) u t same before =
    ap (λ b. b || is_touched mid edits u t) (same_touched s mid same edit u t before)
    ∙ ap (λ b. lies_in_one (touched_by s edit) u t || b) (rest_same s mid edits u t same before)

keeps_through : (a b c : ScenarioData) → EditKeeps a b → EditKeeps b c → EditKeeps a c
keeps_through a b c p q = record {
  network = network_trans (setting_of a) (setting_of b) (setting_of c) p.network q.network;
  slots = omega (arith, p.slots, q.slots);
  limits = λ whole. q.limits (p.limits whole);
}

-- the positions of two scenarios after each other
positions_through : (s mid next : ScenarioData) (c : Counts) (u t i : ℕ) → SameNetwork (setting_of s) (setting_of mid) → i < (setting_of s).ins u →
    (i < (setting_of mid).ins u → position (setting_of next) c ((setting_of mid).in_link u i) t ≡ position (setting_of mid) c ((setting_of mid).in_link u i) t) →
    position (setting_of mid) c ((setting_of s).in_link u i) t ≡ position (setting_of s) c ((setting_of s).in_link u i) t →
    position (setting_of next) c ((setting_of s).in_link u i) t ≡ position (setting_of s) c ((setting_of s).in_link u i) t
positions_through s mid next c u t i same x second first =
    let ins : (setting_of s).ins u ≡ (setting_of mid).ins u = ap (λ (f : ℕ → ℕ). f u) same.ins in
    let link : (setting_of s).in_link u i ≡ (setting_of mid).in_link u i = ap (λ (f : ℕ → ℕ → ℕ). f u i) same.in_link in
    let last : position (setting_of next) c ((setting_of s).in_link u i) t ≡ position (setting_of mid) c ((setting_of s).in_link u i) t =
    subst (λ (l : ℕ). position (setting_of next) c l t ≡ position (setting_of mid) c l t) (sym link) (second (omega (ins, x, arith))) in
    last ∙ first

same_but : (s : ScenarioData) (touched : ℕ → ℕ → Bool) → ReadsSameBut s s touched
same_but s touched = record { inputs = λ c u t l h. refl; positions = λ c u t i l h x. refl }

batch_through : (s mid next : ScenarioData) (first rest : ℕ → ℕ → Bool) → SameFrame s mid → SameNetwork (setting_of s) (setting_of mid) → ReadsSameBut s mid first →
    (others : ℕ → ℕ → Bool) → ReadsSameBut mid next others → ((u t : ℕ) → t < s.setup.slots → others u t ≡ rest u t) →
    ReadsSameBut s next (λ u t. first u t || rest u t)
batch_through s mid next first rest same network one others later asked =
    record {
      inputs = λ c u t l h.
          let parts = neither (first u t) (rest u t) h in
          later.inputs c u t (omega (same.slots, l, arith)) (asked u t l ∙ parts.1) ∙ one.inputs c u t l parts.0;
      positions = λ c u t i l h x.
          let parts = neither (first u t) (rest u t) h in
          positions_through s mid next c u t i network x (λ y. later.positions c u t i (omega (same.slots, l, arith)) (asked u t l ∙ parts.1) y) (one.positions c u t i l parts.0 x);
    }

pub batch_touches_readers : EditsMake → EditsKeep → TouchedHoldsReaders → BatchTouchesReaders
batch_touches_readers make keeps reads place s next [] whole is =
    let same : s ≡ next = cc in (
      subst (EditKeeps s) same (record { network = network_refl (setting_of s); slots = omega arith; limits = λ h. h }),
      subst (λ (z : ScenarioData). ReadsSameBut s z (is_touched s [])) same (same_but s (is_touched s [])),
    )
batch_touches_readers make keeps reads place s next (edit ∷ edits) whole is =
    let one = bound (at_place place (edited s edit)) (λ (mid : ScenarioData). edited_from (place + 1) mid edits) next is in
    let mid : ScenarioData = one.0 in
    let made : edited s edit ≡ Ok mid = placed place (edited s edit) mid one.1 in
    let same : SameFrame s mid = frame s mid edit (make s mid edit made) in
    let kept : EditKeeps s mid = keeps s mid edit made in
    let rest = batch_touches_readers make keeps reads (place + 1) mid next edits (kept.limits whole) one.2 in (
      keeps_through s mid next kept rest.0,
      batch_through s mid next (lies_in_one (touched_by s edit)) (is_touched s edits) same kept.network (reads s mid edit whole made) (is_touched mid edits) rest.1 (λ u t l. rest_same s mid edits u t same l),
    )
