-- Settled pairs are dropped, and a pair is claimed.
use Rattle.std.proofs.Common.{◌≡◌, ℕ, ◌+◌, ◌*◌, min, ◌<◌, ◌≤◌, ◌&&◌, ◌==◌, ◌↔◌, not, List, Bool, true, false, refl, ap, sym, ◌∙◌, subst, arith, inl, inr}
use Rattle.std.specs.Prelude.{Option, Some, None}
use Rattle.std.proofs.Math.Nat.{mul-le-mul_right}
use Rattle.std.proofs.lemmas.Bool.{cases_lt, cases_eq, eq-eqb, ne_eqb}
use Rattle.ltm_units.specs.Bounds.{widest_row}
use Rattle.ltm_curve.specs.Table.{counts_of}
use Rattle.ltm_node.specs.Inputs.{Inputs}
use Rattle.ltm_node.specs.Shape.{width}
use Rattle.ltm_node.specs.Solvable.{IsSolvable}
use Rattle.ltm_node.specs.Uncounted.{uncounted}
use Rattle.ltm_loading.specs.Setting.{Setting, IsSetting}
use Rattle.ltm_loading.specs.Pairs.{shape_at, pair_row}
use Rattle.ltm_loading.specs.Uncounted.{IsUncountedPair}
use Rattle.ltm_index.specs.declared.read_index.ReadIndex.{ReadIndex}
use Rattle.ltm_frontier.specs.declared.frontier.Frontier.{Frontier}
use Rattle.ltm_frontier.specs.Frontier.{nodes_in, is_active, is_pair, IsNextActive, NoneActiveIn as NoneIn, Deactivates}
use Rattle.ltm_repair.specs.Desk.{Desk, IsOther, IsSettled, IsIdleBefore}
use Rattle.ltm_repair.specs.Moves.{DropsSettled}
use Rattle.ltm_repair.specs.Index.{IsPlaced}
use Rattle.ltm_repair.proofs.Cases.{cases_pair}
use Rattle.ltm_repair.proofs.Keeps.{drop_keeps}
use Rattle.ltm_repair.proofs.Fronts.{idle_front}
use Rattle.ltm_repair.proofs.Index.{index_stays_current}
use Rattle.ltm_sending.specs.Front.{IsAtFront}
use Rattle.ltm_working.specs.declared.table.Table.{Table}
use Rattle.ltm_rows.specs.Rows.{kept_row, HasRows}
use Rattle.ltm_working.specs.Desks.{row_without_counts, desk_at, place_of}
use Rattle.ltm_working.specs.Ready.{IsReady}
use Rattle.ltm_working.specs.Placing.{PlacesPair}
use Rattle.ltm_working.specs.Dropping.{DropsOne, DropsAt, IsWork, NoneActive, SameWorkAs}
use Rattle.ltm_working.proofs.Desks.{active_is, kept_is, claim_same, same_active, same_claims}
use Rattle.ltm_working.proofs.Keeping.{kept_whole, whole_kept}
use Rattle.ltm_working.proofs.Standing.{placed_here, other_places}
use Rattle.ltm_working.proofs.Bools.{and_false}

-- the counts can be read where all earlier pairs are idle
pub at_front : (s : Setting) (t : Table) (slot : ℕ) → IsReady s t → slot < s.slots → IsIdleBefore s (desk_at s t) slot → IsAtFront s t.curves slot
unfolding desk_at
at_front s t slot ready l idle = record { shape = ready.fits.curves; now = l; front = idle_front s (desk_at s t) slot ready.sound (omega arith) idle }

pub pair_test : (u t : ℕ) → is_pair u t u t ≡ true
pair_test u t = rw (eq-eqb u u refl, eq-eqb t t refl) refl

pub other_test : (u t w v : ℕ) → IsOther u t w v → is_pair u t w v ≡ false
other_test u t w v other = elim (cases_eq w u) [
  | inr apart ↦ rw (ne_eqb w u apart) refl
  | inl same ↦ elim (cases_eq v t) [
    | inr apart ↦ ap (λ z. (w == u) && z) (ne_eqb v t apart) ∙ and_false (w == u)
    | inl at ↦ absurd (other (sym same) (sym at))
  ]
]

pub and_not : (b : Bool) → (b && not false) ≡ b
and_not true = refl
and_not false = refl

-- ---- one pair is dropped
pub drops_one : (s : Setting) (t : Table) (u v : ℕ) (f : Frontier) → IsReady s t → u < s.nodes → v < s.slots → IsSettled s (desk_at s t) u v → Deactivates t.frontier f u v →
    DropsOne s (desk_at s t) u v (desk_at s (record t { frontier = f }))
unfolding desk_at
drops_one s t u v f ready node slot settled step =
    let new : Table = record t { frontier = f } in
    let off : (desk_at s new).active u v ≡ false =
    active_is s new u v node slot ∙ (step.active u v (omega (arith, node, ready.fits.frontier.nodes)) (omega (arith, slot, ready.fits.frontier.slots))
    ∙ (ap (λ z. is_active t.frontier u v && not z) (pair_test u v) ∙ and_false (is_active t.frontier u v))) in
    let same : (w y : ℕ) → IsOther u v w y → (desk_at s new).active w y ≡ (desk_at s t).active w y = λ w y other.
    same_active s t new w y (λ p q. step.active w y (omega (arith, p, ready.fits.frontier.nodes)) (omega (arith, q, ready.fits.frontier.slots))
    ∙ (ap (λ z. is_active t.frontier w y && not z) (other_test u v w y other) ∙ and_not (is_active t.frontier w y))) in
    record {
      drops = record {
        each = λ w y. elim (cases_pair u v w y) [
          | inl at ↦ inr (
            subst (λ (z : ℕ). (desk_at s new).active z y ≡ false) at.0 (subst (λ (z : ℕ). (desk_at s new).active u z ≡ false) at.1 off),
            subst (λ (z : ℕ). IsSettled s (desk_at s t) z y) at.0 (subst (λ (z : ℕ). IsSettled s (desk_at s t) u z) at.1 settled),
          )
          | inr other ↦ inl (same w y other)
        ];
        claimed = same_claims s t new (λ w y p q. claim_same t new w y (step.claims.pairs w y) refl);
        work = record { counts = refl; kept = refl };
      };
      here = off;
      others = same;
    }

pub drop_ready : (s : Setting) (t : Table) (u v : ℕ) (f : Frontier) → IsReady s t → u < s.nodes → v < s.slots → is_active t.frontier u v ≡ true → Deactivates t.frontier f u v →
    IsPlaced s (desk_at s t) (place_of t.index) u v → DropsOne s (desk_at s t) u v (desk_at s (record t { frontier = f })) → IsReady s (record t { frontier = f })
unfolding desk_at
drop_ready s t u v f ready node slot on step placed drops =
    let new : Table = record t { frontier = f } in
    let was : (desk_at s t).active u v ≡ true = active_is s t u v node slot ∙ on in
    record {
      fits = record {
        curves = ready.fits.curves;
        kept = ready.fits.kept;
        claims = ready.fits.claims;
        frontier = record { nodes = step.size.nodes ∙ ready.fits.frontier.nodes; slots = step.size.slots ∙ ready.fits.frontier.slots };
        index = ready.fits.index;
        changed = ready.fits.changed;
      };
      sound = drop_keeps s (desk_at s t) (desk_at s new) ready.sound drops.drops;
      index = index_stays_current.drop s (desk_at s t) (desk_at s new) (place_of t.index) (place_of t.index) drops.drops
          (record {
            placed = λ w y p q before now. elim (cases_pair u v w y) [
              | inl at ↦ subst (λ (z : ℕ). IsPlaced s (desk_at s new) (place_of t.index) z y) at.0 (subst (λ (z : ℕ). IsPlaced s (desk_at s new) (place_of t.index) u z) at.1 placed)
              | inr other ↦ let same : (desk_at s new).active w y ≡ (desk_at s t).active w y = drops.others w y other in absurd (cc)
            ];
            others = λ w y p q same i l. refl;
          })
          ready.index;
      claims = λ w y p q some. ready.claims w y p q (λ none. some (ap (λ (z : ℕ → ℕ → Option (List ℕ)). z w y) drops.drops.claimed ∙ none));
      weights = ready.weights;
    }

-- ---- the positions of an active pair are placed
pub placed_ready : (s : Setting) (t : Table) (u v : ℕ) (x : ReadIndex) → IsSetting s → IsReady s t → u < s.nodes → v < s.slots → is_active t.frontier u v ≡ true → PlacesPair s (counts_of t.curves) t.index x u v (s.ins u) →
    IsReady s (record t { index = x })
unfolding desk_at
placed_ready s t u v x is ready node slot on places =
    let was : (desk_at s t).active u v ≡ true = active_is s t u v node slot ∙ on in
    let free : (desk_at s t).claimed u v ≡ None = ready.sound.active.apart u v was in
    record {
      fits = record {
        curves = ready.fits.curves;
        kept = ready.fits.kept;
        claims = ready.fits.claims;
        frontier = ready.fits.frontier;
        index = places.lists;
        changed = ready.fits.changed;
      };
      sound = ready.sound;
      index = λ w y p q idle. elim (cases_pair u v w y) [
        | inl at ↦ let off : (desk_at s t).active w y ≡ false = idle.0 in
            let here : (desk_at s t).active w y ≡ true = subst (λ (z : ℕ). (desk_at s t).active z y ≡ true) at.0 (subst (λ (z : ℕ). (desk_at s t).active u z ≡ true) at.1 was) in absurd (cc)
        | inr other ↦ λ i l. other_places s (counts_of t.curves) t.index x u v w y is places node p other i l ∙ ready.index w y p q idle i l
      ];
      claims = λ w y p q some. elim (cases_pair u v w y) [
        | inl at ↦ absurd (some (subst (λ (z : ℕ). (desk_at s t).claimed z y ≡ None) at.0 (subst (λ (z : ℕ). (desk_at s t).claimed u z ≡ None) at.1 free)))
        | inr other ↦ λ i l. other_places s (counts_of t.curves) t.index x u v w y is places node p other i l ∙ ready.claims w y p q some i l
      ];
      weights = ready.weights;
    }

pub placed_now : (s : Setting) (t : Table) (u v : ℕ) (x : ReadIndex) → PlacesPair s (counts_of t.curves) t.index x u v (s.ins u) → IsPlaced s (desk_at s (record t { index = x })) (place_of x) u v
unfolding desk_at
placed_now s t u v x places = λ i l. placed_here s (counts_of t.curves) t.index x u v (s.ins u) i places l

pub indexed_desk : (s : Setting) (t : Table) (x : ReadIndex) → desk_at s (record t { index = x }) ≡ desk_at s t
unfolding desk_at
indexed_desk s t x = refl

-- ---- several pairs are dropped
pub drops_trans : (s : Setting) (d m e : Desk) → DropsSettled s d m → DropsSettled s m e → DropsSettled s d e
drops_trans s d m e first second = record {
  each = λ u t. elim (second.each u t) [
    | inl same ↦ elim (first.each u t) [
      | inl was ↦ inl (same ∙ was)
      | inr gone ↦ inr (same ∙ gone.0, gone.1)
    ]
    | inr gone ↦ inr (gone.0, rw (first.work.kept, first.work.counts) at gone.1)
  ];
  claimed = second.claimed ∙ first.claimed;
  work = record { counts = second.work.counts ∙ first.work.counts; kept = second.work.kept ∙ first.work.kept };
}

pub drops_none : (s : Setting) (d : Desk) (slot : ℕ) → DropsAt s d slot d
drops_none s d slot = record {
  drops = record { each = λ u t. inl refl; claimed = refl; work = record { counts = refl; kept = refl } };
  only = λ u v on off. absurd (cc);
}

pub drops_more : (s : Setting) (d m e : Desk) (slot u : ℕ) → DropsAt s d slot m → DropsOne s m u slot e → DropsAt s d slot e
drops_more s d m e slot u first next = record {
  drops = drops_trans s d m e first.drops next.drops;
  only = λ w v on off. elim (cases_eq v slot) [
    | inl same ↦ same
    | inr apart ↦ first.only w v on (sym (next.others w v (λ a b. apart (sym b))) ∙ off)
  ];
}

pub drops_both : (s : Setting) (d m e : Desk) (slot : ℕ) → DropsSettled s d m → DropsAt s m slot e → DropsSettled s d e
drops_both s d m e slot first next = drops_trans s d m e first next.drops

pub stays_off : (s : Setting) (d e : Desk) (w v : ℕ) → DropsSettled s d e → d.active w v ≡ false → e.active w v ≡ false
stays_off s d e w v drops off = elim (drops.each w v) [
  | inl same ↦ same ∙ off
  | inr gone ↦ gone.0
]

-- the first nodes are not active, nor are those up to the one that was dropped
pub none_more : (s : Setting) (t : Table) (e : Desk) (slot from u : ℕ) → IsReady s t → slot < s.slots → u < s.nodes → NoneActive (desk_at s t) slot from → IsNextActive t.frontier slot from u →
    DropsOne s (desk_at s t) u slot e → NoneActive e slot (u + 1)
none_more s t e slot from u ready l x none next drops = λ w below.
    elim (cases_eq w u) [
      | inl same ↦ subst (λ (z : ℕ). e.active z slot ≡ false) (sym same) drops.here
      | inr apart ↦
          let here : w < s.nodes = omega arith in
          let was : (desk_at s t).active w slot ≡ false = elim (cases_lt w from) [
            | inl low ↦ none w low
            | inr high ↦ active_is s t w slot here l ∙ next.before w high (omega arith)
          ] in
          stays_off s (desk_at s t) e w slot drops.drops was
    ]

pub none_left : (s : Setting) (t : Table) (slot from nodes : ℕ) → slot < s.slots → nodes ≡ s.nodes → NoneActive (desk_at s t) slot from → NoneIn t.frontier slot from → nodes ≡ nodes_in t.frontier → NoneActive (desk_at s t) slot s.nodes
none_left s t slot from nodes l at none rest fits = λ w x. elim (cases_lt w from) [
  | inl low ↦ none w low
  | inr high ↦ active_is s t w slot x l ∙ rest w high (omega arith)
]

pub same_trans : (a b c : Table) → SameWorkAs a b → SameWorkAs b c → SameWorkAs a c
same_trans a b c first second = second ∙ ap (λ (z : Table). record z { frontier = c.frontier; index = c.index }) first

-- the index alone may change
pub seen_trans : (a b c : Table) → SameWorkAs a b → c ≡ record b { index = c.index } → SameWorkAs a c
seen_trans a b c first next =
    let front : c.frontier ≡ b.frontier = ap (λ (z : Table). z.frontier) next in
    next ∙ (ap (λ (z : Table). record z { index = c.index }) first ∙ ap (λ (f : Frontier). record a { frontier = f; index = c.index }) (sym front))

-- ---- what is found
pub most_wide : (s : Setting) (u : ℕ) → IsSetting s → u < s.nodes → width (shape_at s u) ≤ widest_row
most_wide s u is x =
    let d : ℕ = s.destinations in
    let arms : (s.ins u + min 1 (s.outs u)) * d ≤ 5 * d = mul-le-mul_right d (omega (arith, is.small.few_ins u x)) in
    let outs : s.outs u * d ≤ 4 * d = mul-le-mul_right d (is.small.few_outs u x) in
    omega (arith, arms, outs, is.small.few_destinations, is.small.few_ins u x, is.small.few_outs u x)

-- a pair is settled exactly where what is kept of it is what it reads but for its counts
pub settled_row : (s : Setting) (t : Table) (u slot : ℕ) → HasRows s s.slots t.kept → u < s.nodes → slot < s.slots →
    IsSettled s (desk_at s t) u slot ↔ (kept_row t.kept u slot ≡ Some (row_without_counts s u (pair_row s (counts_of t.curves) u slot)))
unfolding desk_at
settled_row s t u slot has x l = (
  λ settled. whole_kept s t u slot has x l (sym (kept_is s t u slot x l) ∙ settled),
  λ same. kept_is s t u slot x l ∙ kept_whole s t u slot same,
)

pub work_here : (s : Setting) (t : Table) (u slot : ℕ) (n : Inputs) → u < s.nodes → slot < s.slots → is_active t.frontier u slot ≡ true → IsUncountedPair s (counts_of t.curves) u slot (uncounted n) → IsSolvable (uncounted n) →
    (IsSettled s (desk_at s t) u slot → ⊥) → IsWork s (desk_at s t) u slot n
unfolding desk_at
work_here s t u slot n x l on inputs solvable differs = record {
  is_node = x;
  active = active_is s t u slot x l ∙ on;
  inputs = inputs;
  solvable = solvable;
  changed = differs;
}
