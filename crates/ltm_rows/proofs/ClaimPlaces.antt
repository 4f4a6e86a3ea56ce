-- The inputs of a claim are put in their place.
use Rattle.std.proofs.Common.{◌≡◌, ℕ, ◌*◌, ◌<◌, ◌≤◌, List, length, arith, refl, ap, sym, ◌∙◌, subst}
use Rattle.std.specs.Vec.{with_items}
use Rattle.std.proofs.lemmas.List.{with_items_is}
use Rattle.ltm_inputs.specs.Setting.{Setting}
use Rattle.ltm_rows.specs.declared.layout.Layout.{Layout}
use Rattle.ltm_rows.specs.declared.layout.Part.TheVariants.{All}
use Rattle.ltm_rows.specs.declared.claim_rows.ClaimRows.{ClaimRows}
use Rattle.ltm_rows.specs.Layouts.{slot_width, LiesAs}
use Rattle.ltm_rows.specs.Claims.{nodes_claimed, claim_width, claim_row, HasClaims, WritesClaim}
use Rattle.ltm_rows.proofs.RowPlaces.{length_written, written, written_here, written_other}

-- the table is that of one slot
pub one_slot : (k : ClaimRows) → 1 * slot_width k.places ≤ length k.numbers.items
one_slot k = omega (arith, k.long)

pub writes_claim : (old new : ClaimRows) (u : ℕ) (row : List ℕ) → u < nodes_claimed old → length row ≡ claim_width old u → new.places ≡ old.places → new.numbers.items ≡ written old.places old.numbers.items u 0 row → WritesClaim old new u row
unfolding claim_row
writes_claim old new u row x same places put =
    let xs : List ℕ = old.numbers.items in
    record {
      places = places;
      here = rw (places, put) (written_here old.places xs 1 u 0 row x (omega arith) (one_slot old) same);
      others = λ w y other. rw (places, put) (written_other old.places xs 1 u 0 row w 0 x (omega arith) (one_slot old) same y (omega arith) (λ a b. other a));
    }

-- rows in which one is written that no call has written
pub with_claim : (k : ClaimRows) (u : ℕ) (row : List ℕ) → u < nodes_claimed k → length row ≡ claim_width k u → (m : ClaimRows) × WritesClaim k m u row
with_claim k u row x same =
    let ys : List ℕ = written k.places k.numbers.items u 0 row in
    let long : length ys ≡ length k.numbers.items = length_written k.places k.numbers.items 1 u 0 row x (omega arith) (one_slot k) same in
    let all : (with_items k.numbers ys).items ≡ ys = with_items_is k.numbers ys (long ∙ sym k.numbers.ok.0) in
    let m : ClaimRows = record k { numbers = with_items k.numbers ys; long = ap length all ∙ (long ∙ k.long) } in
    (m, writes_claim k m u row x same refl all)

-- a row written in its place leaves the sizes
pub claims_stay : (s : Setting) (a b : ClaimRows) (u : ℕ) (row : List ℕ) → HasClaims s a → WritesClaim a b u row → HasClaims s b
claims_stay s a b u row has writes = subst (λ (z : Layout). LiesAs s All z) (sym writes.places) has
