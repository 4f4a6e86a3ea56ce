-- Counts as they are kept are the counts themselves as far as they are the front of a loading.
use Rattle.std.proofs.Common.{◌≡◌, ℕ, ◌+◌, ◌*◌, ◌<◌, ◌≤◌, min, Option, List, slice_index, arith, refl, inl, inr, ap, sym, subst}
use Rattle.std.proofs.lemmas.Grind.{common_steps}
use Rattle.ltm_curve.specs.Counts.{Counts}
use Rattle.ltm_node.specs.Inputs.{Inputs}
use Rattle.ltm_node.specs.Outputs.{left_after_place, entered_after_place, arrived_after_place}
use Rattle.ltm_node.specs.Step.{IsNodeStep}
use Rattle.ltm_loading.specs.Setting.{Setting, IsSetting}
use Rattle.ltm_loading.specs.Groups.{up_of, down_of, dep_of, arr_of}
use Rattle.ltm_loading.specs.Pairs.{shape_at, arrived_by, pair_row, pair_inputs, count_row, pair_outputs, MeetsStep}
use Rattle.ltm_loading.specs.Loading.{IsFront}
use Rattle.ltm_loading.specs.NextPair.{IsOf}
use Rattle.ltm_loading.specs.ByPlace.{CountsByPlace}
use Rattle.ltm_loading.specs.Ranges.{CountsSmall, OutputsSmall}
use Rattle.ltm_loading.specs.Reads.{Reads, in_link_entered, in_link_left, out_link_entered, out_link_left, origin_left, here_arrived, InputsReadOnly, CountsSetOnly, SetByOnePair}
use Rattle.ltm_loading.specs.Uncounted.{outputs_at}
use Rattle.ltm_check.specs.declared.faults.Checked.TheVariants.{Yes, Start, No}
use Rattle.ltm_check.specs.Kept.{AreKept}
use Rattle.ltm_check.specs.Verdict.{StartsRight, KeptAnswersAlike}

-- the laws of loadings that are used
pub record Laws : Type 0 where
  pub counts : CountsSmall
  pub outputs : OutputsSmall
  pub inputs : InputsReadOnly
  pub sets : CountsSetOnly
  pub one : SetByOnePair
  pub places : CountsByPlace

-- a count that is kept as a small one is that, and a small count is kept as it is
kept_small : (a x : ℕ) → x ≡ min a 2147483647 → x < 2147483647 → a ≡ x
kept_small a x e l = grind (arith, common_steps)

small_kept : (a x : ℕ) → x ≡ min a 2147483647 → a < 2147483647 → a ≡ x
small_kept a x e l = grind (arith, common_steps)

pub shorter : (s : Setting) (c : Counts) (t k : ℕ) → k ≤ t → IsFront s c t → IsFront s c k
shorter s c t k l front = record { empty = front.empty; steps = λ u j x y. front.steps u j x (omega arith) }

link_agrees : (s : Setting) (told c : Counts) (t l d k : ℕ) → Laws → IsSetting s → AreKept s told c → IsFront s c t → t ≤ s.slots → l < s.links → d < s.destinations → k ≤ t
    → (told (up_of l) d k ≡ c (up_of l) d k) × (told (down_of l) d k ≡ c (down_of l) d k)
link_agrees s told c t l d k laws v kept front y x m z =
    let few = (laws.counts s c v k (shorter s c t k z front) (omega arith) d m).0 l x in (
      kept_small _ _ (kept (up_of l) d k (omega arith) m (omega arith)) (omega (arith, few.0, v.small.few_slots)),
      kept_small _ _ (kept (down_of l) d k (omega arith) m (omega arith)) (omega (arith, few.1, v.small.few_slots)),
    )

origin_agrees : (s : Setting) (told c : Counts) (t u d k : ℕ) → Laws → IsSetting s → AreKept s told c → IsFront s c t → t ≤ s.slots → u < s.nodes → 0 < s.outs u → d < s.destinations → k ≤ t
    → told (dep_of s u) d k ≡ c (dep_of s u) d k
origin_agrees s told c t u d k laws v kept front y x o m z =
    let few = (laws.counts s c v k (shorter s c t k z front) (omega arith) d m).1.0 u x o in
    kept_small _ _ (kept (dep_of s u) d k (omega arith) m (omega arith)) (omega (arith, few, v.small.few_slots))

arrived_agrees : (s : Setting) (told c : Counts) (t d k : ℕ) → Laws → IsSetting s → AreKept s told c → IsFront s c t → t ≤ s.slots → d < s.destinations → k ≤ t
    → told (arr_of s) d k ≡ c (arr_of s) d k
arrived_agrees s told c t d k laws v kept front y m z =
    let few = (laws.counts s c v k (shorter s c t k z front) (omega arith) d m).1.1 in
    kept_small _ _ (kept (arr_of s) d k (omega arith) m (omega arith)) (omega (arith, few, v.small.few_slots))

-- all that the pairs of a node read up to the front
reads_agree : (s : Setting) (told c : Counts) (t u g d k : ℕ) → Laws → IsSetting s → AreKept s told c → IsFront s c t → t ≤ s.slots → u < s.nodes → Reads s u g d → d < s.destinations → k ≤ t
    → told g d k ≡ c g d k
reads_agree s told c t u g d k laws v kept front y x (in_link_entered i l e) m z =
    subst (λ (h : ℕ). told h d k ≡ c h d k) e (link_agrees s told c t (s.in_link u i) d k laws v kept front y (v.network.in_link_is_link u i x l) m z).0
reads_agree s told c t u g d k laws v kept front y x (in_link_left i l e) m z =
    subst (λ (h : ℕ). told h d k ≡ c h d k) e (link_agrees s told c t (s.in_link u i) d k laws v kept front y (v.network.in_link_is_link u i x l) m z).1
reads_agree s told c t u g d k laws v kept front y x (out_link_entered j l e) m z =
    subst (λ (h : ℕ). told h d k ≡ c h d k) e (link_agrees s told c t (s.out_link u j) d k laws v kept front y (v.network.out_link_is_link u j x l) m z).0
reads_agree s told c t u g d k laws v kept front y x (out_link_left j l e) m z =
    subst (λ (h : ℕ). told h d k ≡ c h d k) e (link_agrees s told c t (s.out_link u j) d k laws v kept front y (v.network.out_link_is_link u j x l) m z).1
reads_agree s told c t u g d k laws v kept front y x (origin_left o e) m z =
    subst (λ (h : ℕ). told h d k ≡ c h d k) e (origin_agrees s told c t u d k laws v kept front y x o m z)
reads_agree s told c t u g d k laws v kept front y x (here_arrived own e) m z =
    subst (λ (h : ℕ). told h d k ≡ c h d k) e (arrived_agrees s told c t d k laws v kept front y m z)

same_inputs : (s : Setting) (told c : Counts) (t u : ℕ) → Laws → IsSetting s → AreKept s told c → IsFront s c t → t < s.slots → u < s.nodes → pair_inputs s told u t ≡ pair_inputs s c u t
same_inputs s told c t u laws v kept front y x =
    let row : pair_row s told u t ≡ pair_row s c u t =
    laws.inputs s told c u t v x (λ g d k r m z. reads_agree s told c t u g d k laws v kept front (omega arith) x r m z) in
    let made : List ℕ → Inputs = λ (z : List ℕ). record { shape = shape_at s u; row = z; room = 0 } in
    ap made row

-- where no number of a node's row is above a bound, none of the counts that its pairs set is
set_small : (s : Setting) (a : Counts) (u k bound g d : ℕ) → Laws → ((i : ℕ) → slice_index (count_row s a u k) i ≤ bound) → IsOf s u g d → d < s.destinations → a g d k ≤ bound
set_small s a u k bound g d laws few (inl (i, l, e)) m =
    subst (λ (h : ℕ). a h d k ≤ bound) e (omega (arith, (laws.places s a u k).0.left i d l m, few (left_after_place (shape_at s u) i d)))
set_small s a u k bound g d laws few (inr (inl (j, l, e))) m =
    subst (λ (h : ℕ). a h d k ≤ bound) e (omega (arith, (laws.places s a u k).0.entered j d l m, few (entered_after_place (shape_at s u) j d)))
set_small s a u k bound g d laws few (inr (inr (e, own))) m =
    let come : arrived_by s a (s.own u) k ≡ a (arr_of s) d k = ap (λ (z : Option ℕ). arrived_by s a z k) own in
    subst (λ (h : ℕ). a h d k ≤ bound) e (omega (arith, (laws.places s a u k).0.arrived, come, few (arrived_after_place (shape_at s u))))

-- what a pair of the front's slot is told of the one it is told of the other
pub meets_alike : (s : Setting) (told c : Counts) (t u : ℕ) → Laws → IsSetting s → AreKept s told c → IsFront s c t → t < s.slots → u < s.nodes → MeetsStep s c u t → MeetsStep s told u t
meets_alike s told c t u laws v kept front y x meets =
    let few : (i : ℕ) → slice_index (count_row s c u (t + 1)) i ≤ (t + 1) * 160000 =
    laws.outputs s c t u (pair_inputs s c u t) (pair_outputs s c u (t + 1)) v y x front (record { shape = refl; row = refl }) meets in
    let row : count_row s told u (t + 1) ≡ count_row s c u (t + 1) =
    laws.sets s told c u (t + 1) v x (λ g d of m.
    kept_small _ _ (kept g d (t + 1) (laws.one.within s u g d v x of) m (omega arith)) (omega (arith, set_small s c u (t + 1) ((t + 1) * 160000) g d laws few of m, v.small.few_slots))) in
    subst (λ (n : Inputs). IsNodeStep n (pair_outputs s told u (t + 1))) (sym (same_inputs s told c t u laws v kept front y x))
    (subst (λ (z : List ℕ). IsNodeStep (pair_inputs s c u t) (outputs_at s u z)) (sym row) meets)

pub meets_back : (s : Setting) (told c : Counts) (t u : ℕ) → Laws → IsSetting s → AreKept s told c → IsFront s c t → t < s.slots → u < s.nodes → MeetsStep s told u t → MeetsStep s c u t
meets_back s told c t u laws v kept front y x meets =
    let step : IsNodeStep (pair_inputs s c u t) (pair_outputs s told u (t + 1)) =
    subst (λ (n : Inputs). IsNodeStep n (pair_outputs s told u (t + 1))) (same_inputs s told c t u laws v kept front y x) meets in
    let few : (i : ℕ) → slice_index (count_row s told u (t + 1)) i ≤ (t + 1) * 160000 =
    laws.outputs s c t u (pair_inputs s c u t) (pair_outputs s told u (t + 1)) v y x front (record { shape = refl; row = refl }) step in
    let row : count_row s told u (t + 1) ≡ count_row s c u (t + 1) =
    laws.sets s told c u (t + 1) v x (λ g d of m.
    small_kept _ _ (kept g d (t + 1) (laws.one.within s u g d v x of) m (omega arith)) (omega (arith, set_small s told u (t + 1) ((t + 1) * 160000) g d laws few of m, v.small.few_slots))) in
    subst (λ (z : List ℕ). IsNodeStep (pair_inputs s c u t) (outputs_at s u z)) row step

-- a count that is kept as 0 is 0
none_kept : (a x : ℕ) → x ≡ min a 2147483647 → x ≡ 0 → a ≡ 0
none_kept a x e z = grind (arith, common_steps)

kept_none : (a x : ℕ) → x ≡ min a 2147483647 → a ≡ 0 → x ≡ 0
kept_none a x e z = grind (arith, common_steps)

pub front_alike : (s : Setting) (told c : Counts) (t : ℕ) → Laws → IsSetting s → AreKept s told c → t ≤ s.slots → IsFront s c t → IsFront s told t
front_alike s told c t laws v kept y front = record {
  empty = λ g d l m. none_kept _ _ (kept g d 0 l m (omega arith)) (front.empty g d l m);
  steps = λ u k x z. meets_alike s told c k u laws v kept (shorter s c t k (omega arith) front) (omega arith) x (front.steps u k x z);
}

starts_alike : (s : Setting) (told c : Counts) → AreKept s told c → StartsRight s c → StartsRight s told
starts_alike s told c kept starts = record {
  empty = λ g d l m. none_kept _ _ (kept g d 0 l m (omega arith)) (starts.empty g d l m);
  no_origin = λ u d k x o m z. none_kept _ _ (kept (dep_of s u) d k (omega arith) m z) (starts.no_origin u d k x o m z);
}

starts_back : (s : Setting) (told c : Counts) → AreKept s told c → StartsRight s told → StartsRight s c
starts_back s told c kept starts = record {
  empty = λ g d l m. kept_none _ _ (kept g d 0 l m (omega arith)) (starts.empty g d l m);
  no_origin = λ u d k x o m z. kept_none _ _ (kept (dep_of s u) d k (omega arith) m z) (starts.no_origin u d k x o m z);
}

pub kept_answers : Laws → KeptAnswersAlike
kept_answers laws s told c Yes v kept loading = record {
  front = front_alike s told c s.slots laws v kept (omega arith) loading.front;
  no_origin = (starts_alike s told c kept (record { empty = loading.front.empty; no_origin = loading.no_origin })).no_origin;
}
kept_answers laws s told c Start v kept wrong = λ starts. wrong (starts_back s told c kept starts)
kept_answers laws s told c (No pair) v kept first = record {
  starts = starts_alike s told c kept first.starts;
  slot = first.slot;
  node = record {
    node_there = first.node.node_there;
    before = record {
      front = front_alike s told c pair.slot laws v kept (omega (arith, first.slot)) first.node.before.front;
      done = λ u x. meets_alike s told c pair.slot u laws v kept first.node.before.front first.slot (omega (arith, first.node.node_there)) (first.node.before.done u x);
    };
    wrong = λ meets. first.node.wrong (meets_back s told c pair.slot pair.node.0 laws v kept first.node.before.front first.slot first.node.node_there meets);
  };
}
