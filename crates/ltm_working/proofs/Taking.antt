-- A pair is claimed.
use Rattle.std.proofs.Common.{◌≡◌, ◌≢◌, ℕ, ◌<◌, ◌==◌, ◌&&◌, ◌||◌, not, List, true, false, refl, ap, sym, ◌∙◌, subst, arith, inl, inr}
use Rattle.std.specs.Prelude.{Some}
use Rattle.std.proofs.lemmas.Bool.{cases_lt, cases_eq, cases_Bool, eqb-true}
use Rattle.ltm_curve.specs.Table.{counts_of}
use Rattle.ltm_node.specs.Inputs.{Inputs}
use Rattle.ltm_node.specs.Uncounted.{uncounted}
use Rattle.ltm_loading.specs.Setting.{Setting}
use Rattle.ltm_loading.specs.Pairs.{pair_row}
use Rattle.ltm_loading.specs.Uncounted.{IsUncountedPair}
use Rattle.ltm_frontier.specs.declared.frontier.Frontier.{Frontier}
use Rattle.ltm_frontier.specs.Frontier.{nodes_in, slots_in, is_active, is_claimed, is_pair, ClaimsAreOf, ClaimsPair}
use Rattle.ltm_frontier.specs.Claims.{has_node, slot_in}
use Rattle.ltm_repair.specs.Desk.{Desk, IsOther, IsIdleBefore}
use Rattle.ltm_repair.specs.Facts.{IsSound}
use Rattle.ltm_repair.specs.Moves.{TakesClaim}
use Rattle.ltm_repair.specs.Answers.{HasClaimAt}
use Rattle.ltm_repair.specs.Index.{IsPlaced}
use Rattle.ltm_repair.proofs.Cases.{cases_option, cases_pair}
use Rattle.ltm_repair.proofs.Keeps.{take_keeps}
use Rattle.ltm_repair.proofs.Index.{index_stays_current}
use Rattle.ltm_rows.specs.declared.claim_rows.ClaimRows.{ClaimRows}
use Rattle.ltm_working.specs.declared.table.Table.{Table}
use Rattle.ltm_rows.proofs.ClaimPlaces.{claims_stay}
use Rattle.ltm_rows.specs.Claims.{claim_row, WritesClaim}
use Rattle.ltm_working.specs.Desks.{desk_at, place_of}
use Rattle.ltm_working.specs.Ready.{IsReady}
use Rattle.ltm_working.specs.Searching.{IsFound}
use Rattle.ltm_working.proofs.Bools.{or_false, or_right, and_false, and_both}
use Rattle.ltm_working.proofs.Desks.{active_is, claimed_is, claim_same, claim_on, claim_off, claimed_row, same_active, same_claim}
use Rattle.ltm_working.proofs.Dropping.{pair_test, other_test, and_not}

-- a claimed pair is of a slot
claimed_slot : (f : Frontier) (w v : ℕ) → w < nodes_in f → is_claimed f w v ≡ true → v < slots_in f
claimed_slot f w v x on =
    let both : ((v == slot_in f.claims) ≡ true) × (has_node f.claims w ≡ true) = and_both (v == slot_in f.claims) (has_node f.claims w) on in
    let at : v ≡ slot_in f.claims = eqb-true v (slot_in f.claims) both.0 in
    omega (arith, at, f.there w x both.1)

-- where a pair is claimed in the table, one is on the desk
pub one_claimed : (s : Setting) (t : Table) (u v : ℕ) (n : Inputs) → IsReady s t → IsFound s t u v n → ClaimsAreOf t.frontier v
one_claimed s t u v n ready found w y x on =
    let node : w < s.nodes = omega (arith, x, ready.fits.frontier.nodes) in
    elim (cases_lt y s.slots) [
      | inl l ↦
          let some : (desk_at s t).claimed w y ≡ Some (claim_row t.claims w) = claimed_row s t w y node l on in
          found.one_slot y (w, node, l, λ none. cc)
      | inr late ↦ absurd (omega (arith, claimed_slot t.frontier w y x on, late, ready.fits.frontier.slots))
    ]

-- so no pair of another slot is claimed
pub not_claimed : (s : Setting) (t : Table) (u v : ℕ) (n : Inputs) (w y : ℕ) → IsReady s t → IsFound s t u v n → w < nodes_in t.frontier → y ≢ v → is_claimed t.frontier w y ≡ false
not_claimed s t u v n w y ready found x apart =
    elim (cases_Bool (is_claimed t.frontier w y)) [ inr off ↦ off | inl on ↦ absurd (apart (one_claimed s t u v n ready found w y x on)) ]

-- a pair that is found is active in the table
pub found_active : (s : Setting) (t : Table) (u v : ℕ) (n : Inputs) → IsFound s t u v n → is_active t.frontier u v ≡ true
found_active s t u v n found = sym (active_is s t u v found.work.work.is_node found.work.is_slot) ∙ found.work.work.active

-- its inputs are those of the pair with 0 for each count
pub found_inputs : (s : Setting) (t : Table) (u v : ℕ) (n : Inputs) → IsFound s t u v n → IsUncountedPair s (counts_of t.curves) u v (uncounted n)
unfolding desk_at
found_inputs s t u v n found = found.work.work.inputs

-- and is then claimed
pub claimed_found : (s : Setting) (t : Table) (u v : ℕ) (n : Inputs) (f : Frontier) → IsReady s t → IsFound s t u v n → ClaimsPair t.frontier f u v → is_claimed f u v ≡ true
claimed_found s t u v n f ready found step =
    step.claimed u v (omega (arith, found.work.work.is_node, ready.fits.frontier.nodes)) ∙ or_right (is_claimed t.frontier u v) (is_pair u v u v) (pair_test u v)

pub takes_desk : (s : Setting) (t : Table) (u v : ℕ) (n : Inputs) (f : Frontier) (k : ClaimRows) → IsReady s t → IsFound s t u v n → ClaimsPair t.frontier f u v → WritesClaim t.claims k u (pair_row s (counts_of t.curves) u v) →
    TakesClaim s (desk_at s t) u v (pair_row s (counts_of t.curves) u v) (desk_at s (record t { frontier = f; claims = k }))
unfolding desk_at
takes_desk s t u v n f k ready found step writes =
    let new : Table = record t { frontier = f; claims = k } in
    let node : u < s.nodes = found.work.work.is_node in
    let slot : v < s.slots = found.work.is_slot in
    let in_nodes : (w : ℕ) → w < s.nodes → w < nodes_in t.frontier = λ w x. omega (arith, x, ready.fits.frontier.nodes) in
    let rest : (w y : ℕ) → IsOther u v w y → w < s.nodes → is_claimed f w y ≡ is_claimed t.frontier w y = λ w y other x.
    step.claimed w y (in_nodes w x) ∙ (ap (λ z. is_claimed t.frontier w y || z) (other_test u v w y other) ∙ or_false (is_claimed t.frontier w y)) in
    let here : is_claimed f u v ≡ true = claimed_found s t u v n f ready found step in
    record {
      was_active = found.work.work.active;
      claim = record {
        is_node = node;
        is_slot = slot;
        front = found.work.idle;
        now = refl;
        changed = found.work.work.changed;
      };
      inactive = active_is s new u v node slot ∙ (step.active u v (in_nodes u node) (omega (arith, slot, ready.fits.frontier.slots)) ∙ (ap (λ z. is_active t.frontier u v && not z) (pair_test u v) ∙ and_false (is_active t.frontier u v)));
      holds = claimed_is s new u v node slot ∙ (claim_on new u v here ∙ ap (λ (z : List ℕ). Some z) writes.here);
      others = record {
        active = λ w y other. same_active s t new w y (λ p q. step.active w y (in_nodes w p) (omega (arith, q, ready.fits.frontier.slots))
            ∙ (ap (λ z. is_active t.frontier w y && not z) (other_test u v w y other) ∙ and_not (is_active t.frontier w y)));
        claimed = λ w y other. same_claim s t new w y (λ p q. elim (cases_eq w u) [
          | inr apart ↦ claim_same t new w y (rest w y other p) (writes.others w (omega (arith, p, ready.fits.claims.nodes)) (λ a. apart (sym a)))
          | inl same ↦
              let apart : y ≢ v = λ at. other (sym same) (sym at) in
              let was : is_claimed t.frontier w y ≡ false = not_claimed s t u v n w y ready found (in_nodes w p) apart in
              claim_off new w y (rest w y other p ∙ was) ∙ sym (claim_off t w y was)
        ]);
      };
      work = record { counts = refl; kept = refl };
    }

pub takes_ready : (s : Setting) (t : Table) (u v : ℕ) (n : Inputs) (f : Frontier) (k : ClaimRows) → IsReady s t → IsFound s t u v n → ClaimsPair t.frontier f u v → WritesClaim t.claims k u (pair_row s (counts_of t.curves) u v) →
    IsReady s (record t { frontier = f; claims = k })
unfolding desk_at
takes_ready s t u v n f k ready found step writes =
    let takes : TakesClaim s (desk_at s t) u v (pair_row s (counts_of t.curves) u v) (desk_at s (record t { frontier = f; claims = k })) = takes_desk s t u v n f k ready found step writes in
    record {
      fits = record {
        curves = ready.fits.curves;
        kept = ready.fits.kept;
        claims = claims_stay s t.claims k u (pair_row s (counts_of t.curves) u v) ready.fits.claims writes;
        frontier = record { nodes = step.size.nodes ∙ ready.fits.frontier.nodes; slots = step.size.slots ∙ ready.fits.frontier.slots };
        index = ready.fits.index;
        changed = ready.fits.changed;
      };
      sound = take_keeps s (desk_at s t) u v (pair_row s (counts_of t.curves) u v) (desk_at s (record t { frontier = f; claims = k })) ready.sound takes;
      index = index_stays_current.take s (desk_at s t) (desk_at s (record t { frontier = f; claims = k })) u v (pair_row s (counts_of t.curves) u v) (place_of t.index) takes ready.index;
      claims = λ w y p q some. elim (cases_pair u v w y) [
        | inl at ↦ subst (λ (z : ℕ). IsPlaced s (desk_at s t) (place_of t.index) z y) at.0 (subst (λ (z : ℕ). IsPlaced s (desk_at s t) (place_of t.index) u z) at.1 found.placed)
        | inr other ↦ ready.claims w y p q (λ none. some (takes.others.claimed w y other ∙ none))
      ];
      weights = ready.weights;
    }

-- ---- claims are of one slot
claim_front : (s : Setting) (d : Desk) (a : ℕ) → IsSound s d → HasClaimAt s d a → IsIdleBefore s d a
claim_front s d a sound has = elim (cases_option (d.claimed has.0 a)) [
  | inl none ↦ absurd (has.3 none)
  | inr some ↦ (sound.claims has.0 a some.0 some.1).front
]

pub one_slot : (s : Setting) (d : Desk) (a b : ℕ) → IsSound s d → HasClaimAt s d a → HasClaimAt s d b → a ≡ b
one_slot s d a b sound first second = elim (cases_lt a b) [
  | inl low ↦ absurd (first.3 (claim_front s d b sound second first.0 a first.1 low).1)
  | inr high ↦ elim (cases_lt b a) [
    | inl low ↦ absurd (second.3 (claim_front s d a sound first second.0 b second.1 low).1)
    | inr same ↦ omega arith
  ]
]

pub front_of_claims : (s : Setting) (d : Desk) (slot : ℕ) → IsSound s d → HasClaimAt s d slot → IsIdleBefore s d slot
front_of_claims s d slot sound has = claim_front s d slot sound has
