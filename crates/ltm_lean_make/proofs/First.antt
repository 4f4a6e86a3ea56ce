-- What stands before the first slot: of every loading nothing.
use Rattle.std.proofs.Common.{◌≡◌, ℕ, ◌<◌, ◌≤◌, List, length, slice_index, arith, sym, ap, subst, ◌∙◌}
use Rattle.ltm_units.specs.Bounds.{most_destinations}
use Rattle.ltm_units.proofs.Sums.{sum_below-zero}
use Rattle.ltm_curve.specs.Counts.{Counts, total}
use Rattle.ltm_loading.specs.Setting.{Setting}
use Rattle.ltm_loading.specs.Groups.{dep_of, groups}
use Rattle.ltm_loading.specs.Loading.{IsLoading}
use Rattle.ltm_standing.specs.Listed.{Ascends, Stands}
use Rattle.ltm_standing.proofs.Thin.{ascends_before}
use Rattle.ltm_thin.proofs.Thinning.{ascends_few}
use Rattle.ltm_totals.specs.declared.totals.Totals.{Totals}
use Rattle.ltm_totals.specs.Totals.{total_at, AreTotals}
use Rattle.ltm_origin.specs.Waiting.{HasLeft}
use Rattle.ltm_used.specs.declared.used.Used.{Used}
use Rattle.ltm_used.specs.Lists.{list_of}
use Rattle.ltm_lean_node.specs.Places.{Rises}
use Rattle.ltm_lean_node.proofs.Placing.{ascends_rise}
use Rattle.ltm_lean.specs.declared.incoming.Incoming.{Incoming}
use Rattle.ltm_lean.specs.declared.mail.Mail.{Mail}
use Rattle.ltm_lean.specs.declared.node.LeanNode.{LeanNode}
use Rattle.ltm_lean.specs.declared.tables.Tables.{Tables}
use Rattle.ltm_lean.specs.declared.outgoing.Outgoing.{Outgoing}
use Rattle.ltm_lean.specs.Ends.{mail_width, IsIncoming, IsOutgoing}
use Rattle.ltm_lean.specs.Nodes.{IsNodeAt}
use Rattle.ltm_lean_make.specs.First.{IsStill, StandsFirst}

-- nothing is counted of any group at the start
pub total_first : (s : Setting) (c : Counts) (g : ℕ) → IsLoading s c → g < groups s → total s.destinations (c g) 0 ≡ 0
total_first s c g load l = sum_below-zero s.destinations (λ d. c g d 0) (λ d m. load.front.empty g d l m)

pub totals_first : (s : Setting) (c : Counts) (group : ℕ → ℕ) (t : Totals) → IsLoading s c → ((l : ℕ) → l < s.links → group l < groups s) → ((l k : ℕ) → total_at t l k ≡ 0) → AreTotals s c group 0 t
totals_first s c group t load there none l k m n =
    let first : k ≡ 0 = omega (arith, n) in
    none l k ∙ sym (ap (λ (q : ℕ). total s.destinations (c (group l)) q) first ∙ total_first s c (group l) load (there l m))

-- nothing has left an origin
pub left_first : (s : Setting) (c : Counts) (u : ℕ) (ds gone : List ℕ) → IsLoading s c → u < s.nodes → Ascends 0 s.destinations ds → ((i : ℕ) → i < length ds → slice_index gone i ≡ 0) → HasLeft s c u 0 ds 0 gone
left_first s c u ds gone load node order none = record {
  all = sym (total_first s c (dep_of s u) load (omega (arith, node)));
  each = λ i l. none i l ∙ sym (load.front.empty (dep_of s u) (slice_index ds i) (omega (arith, node)) (ascends_before 0 s.destinations ds order i l));
}

-- a list that is one in order rises, and has few destinations
pub rising : (s : Setting) (ds list : List ℕ) → list ≡ ds → Ascends 0 s.destinations ds → Rises list
rising s ds list is order = subst Rises (sym is) (ascends_rise 0 s.destinations ds order)

pub few : (s : Setting) (ds list : List ℕ) (many : ℕ) → many ≡ s.destinations → many ≤ most_destinations → list ≡ ds → Ascends 0 s.destinations ds → length list ≤ most_destinations
few s ds list many count small is order = let below : length ds ≤ s.destinations = ascends_few s.destinations ds order in omega (arith, below, count, small, ap length is)

-- a link into a node on which nothing stands, by its place there
pub record IsFirstIn (s : Setting) (x : Tables) (u i : ℕ) (y : Incoming) : Type 0 where
  pub link : IsIncoming (s.in_link u i) (list_of x.links (s.in_link u i)) (list_of x.nodes u) y
  pub stands : (c : Counts) → IsLoading s c → Stands c (s.in_link u i) (list_of x.links (s.in_link u i)) 0 0 y.standing
  pub still : y.gone ≡ 0

-- a node where nothing stands, by its number
pub record IsFirstNode (s : Setting) (x : Tables) (u : ℕ) (n : LeanNode) : Type 0 where
  pub number : n.node.0 ≡ u
  pub node : IsNodeAt s x n
  pub stands : StandsFirst s x n
  pub still : IsStill s n

pub first_in : (s : Setting) (x : Tables) (u i l : ℕ) (y : Incoming) → l ≡ s.in_link u i → IsIncoming l (list_of x.links l) (list_of x.nodes u) y → ((c : Counts) → IsLoading s c → Stands c l (list_of x.links l) 0 0 y.standing) → y.gone ≡ 0 → IsFirstIn s x u i y
first_in s x u i l y is link stands still = record {
  link = subst (λ (q : ℕ). IsIncoming q (list_of x.links q) (list_of x.nodes u) y) is link;
  stands = λ c load. subst (λ (q : ℕ). Stands c q (list_of x.links q) 0 0 y.standing) is (stands c load);
  still = still;
}

-- a link out of a node that nothing has entered, by its place there
pub record IsFirstOut (s : Setting) (x : Tables) (u j : ℕ) (y : Outgoing) : Type 0 where
  pub link : IsOutgoing (s.out_link u j) (list_of x.links (s.out_link u j)) (list_of x.nodes u) y
  pub still : y.mail.came ≡ 0

pub first_out : (s : Setting) (x : Tables) (u j l : ℕ) (y : Outgoing) → l ≡ s.out_link u j → IsOutgoing l (list_of x.links l) (list_of x.nodes u) y → y.mail.came ≡ 0 → IsFirstOut s x u j y
first_out s x u j l y is link still = record { link = subst (λ (q : ℕ). IsOutgoing q (list_of x.links q) (list_of x.nodes u) y) is link; still = still }

-- a mail of nothing, by the number of its link
pub record IsFirstMail (lists : Used) (l : ℕ) (m : Mail) : Type 0 where
  pub wide : mail_width m ≡ length (list_of lists l)
  pub none : m.came ≡ 0
