-- What stands on a link where rows are taken in or close up, and where units leave.
use Rattle.std.proofs.Common.{◌≡◌, ℕ, ◌+◌, ◌*◌, ◌<◌, ◌≤◌, List, ◌++◌, drop, length, slice_index, arith, sym, ap, subst, ◌∙◌, inl, inr, if◌then◌else◌, nat_lt, get_or-append-add, get_or-drop}
use Rattle.std.proofs.lemmas.Bool.{cases_lt}
use Rattle.std.proofs.lemmas.List.{length-drop, get_or_append_left, length_push}
use Rattle.ltm_units.proofs.Sums.{sum_below-same}
use Rattle.ltm_curve.specs.Counts.{total}
use Rattle.ltm_curve.proofs.Lasts.{same_rows}
use Rattle.ltm_loading.proofs.Picks.{pick_first, pick_second}
use Rattle.ltm_standing.specs.declared.standing.Standing.{Standing}
use Rattle.ltm_standing.specs.Standing.{width_of, end_of, row_at, StandsAt, CameAt, IsDifference, Pushes, IsAsItWas, Closes, Keeps}
use Rattle.ltm_standing.proofs.Rows.{place_below}

-- nothing is changed
pub as_it_was_keeps : (k t : ℕ) (old new : Standing) → IsAsItWas old new → Keeps k t old new
as_it_was_keeps k t old new p w up down h =
    let wide : width_of new ≡ width_of old = ap (λ (xs : List ℕ). length xs) p.rest in
    let ends : end_of new ≡ end_of old = ap (λ (xs : List ℕ). length xs) p.totals in
    let row : (j i : ℕ) → row_at new j i ≡ row_at old j i = λ j i. ap (λ (xs : List ℕ). slice_index xs (j * width_of new + i)) p.entries ∙ ap (λ (z : ℕ). slice_index old.entries.items (j * z + i)) wide in
    let next : (i : ℕ) → i < w → IsDifference (slice_index new.rest.items i) (up i (h.begins new.next)) (down i t) =
    λ i m. subst (λ (z : ℕ). IsDifference (slice_index new.rest.items i) (up i (h.begins z)) (down i t)) (sym p.next)
    (subst (λ (xs : List ℕ). IsDifference (slice_index xs i) (up i (h.begins old.next)) (down i t)) (sym p.rest) (h.rest i m)) in
    record {
      begins = h.begins;
      wide = wide ∙ h.wide;
      end = ap h.begins ends ∙ h.end;
      base = p.base ∙ (h.base ∙ ap (λ (z : ℕ). total w up (h.begins z)) (sym p.next));
      rest = next;
      low = p.low ∙ (h.low ∙ ap (λ (z : ℕ). total w up (h.begins z)) (sym p.dead));
      freed = omega (arith, p.low, h.freed);
      later = λ j a b. h.later j (omega (arith, p.dead, a)) (omega (arith, ends, b));
      rows = λ j i a b l. h.rows j i (omega (arith, p.dead, a)) (omega (arith, ends, b)) l ∙ ap (λ (z : ℕ). up i (h.begins j) + z) (sym (row j i));
      others = λ j i a b l. h.others j i (omega (arith, p.dead, a)) (omega (arith, ends, b)) l;
    }

-- nothing entered in a slot
pub quiet_keeps : (w : ℕ) (up down : ℕ → ℕ → ℕ) (k t : ℕ) (s : Standing) (mail : ℕ → ℕ) → CameAt w up k 0 mail → StandsAt w up down k t s → StandsAt w up down (k + 1) t s
quiet_keeps w up down k t s mail came h =
    let same : (i : ℕ) → i < w → up i k ≡ up i (k + 1) = same_rows w up k (k + 1) came.rises (omega (arith, came.all)) in
    let b : ℕ → ℕ = λ j. if nat_lt j (end_of s) then h.begins j else k + 1 in
    let low : (j : ℕ) → j < end_of s → b j ≡ h.begins j = λ j l. pick_first j (end_of s) (h.begins j) (k + 1) l in
    let high : (j : ℕ) → end_of s ≤ j → b j ≡ k + 1 = λ j l. pick_second j (end_of s) (h.begins j) (k + 1) l in
    let at : (i j : ℕ) → i < w → j ≤ end_of s → up i (b j) ≡ up i (h.begins j) =
    λ i j m l. elim (cases_lt j (end_of s)) [
      | inl x ↦ ap (up i) (low j x)
      | inr x ↦ let e : end_of s ≡ j = omega arith in ap (up i) (high j x) ∙ (sym (same i m) ∙ (ap (up i) (sym h.end) ∙ ap (λ (z : ℕ). up i (h.begins z)) e))
    ] in
    let all : (j : ℕ) → j ≤ end_of s → total w up (b j) ≡ total w up (h.begins j) = λ j l. sum_below-same w (λ i. up i (b j)) (λ i. up i (h.begins j)) (λ i m. at i j m l) in
    let next : s.next ≤ end_of s = s.within in
    let dead : s.dead ≤ end_of s = let order : s.dead ≤ s.next = s.order in omega arith in
    record {
      begins = b;
      wide = h.wide;
      end = high (end_of s) (omega arith);
      base = h.base ∙ sym (all s.next next);
      rest = λ i m. subst (λ (z : ℕ). IsDifference (slice_index s.rest.items i) z (down i t)) (sym (at i s.next m next)) (h.rest i m);
      low = h.low ∙ sym (all s.dead dead);
      freed = h.freed;
      later = λ j a l.
          elim (cases_lt (j + 1) (end_of s)) [
            | inl x ↦ omega (arith, low j l, low (j + 1) x, h.later j a l)
            | inr x ↦ let e : h.begins (j + 1) ≡ h.begins (end_of s) = (let f : j + 1 ≡ end_of s = omega arith in ap h.begins f) in omega (arith, low j l, high (j + 1) x, h.later j a l, e, h.end)
          ];
      rows = λ j i a l m. ap (λ (z : ℕ). up i (z + 1)) (low j l) ∙ (h.rows j i a l m ∙ ap (λ (z : ℕ). up i z + row_at s j i) (sym (low j l)));
      others = λ j i a l m. at i (j + 1) m (omega arith) ∙ (h.others j i a l m ∙ ap (λ (z : ℕ). up i (z + 1)) (sym (low j l)));
    }

-- something did
pub push_keeps : (w : ℕ) (up down : ℕ → ℕ → ℕ) (k t : ℕ) (old new : Standing) (came : ℕ) (mail : List ℕ) → 0 < came → Pushes old new came mail → CameAt w up k came (slice_index mail)
    → StandsAt w up down k t old → StandsAt w up down (k + 1) t new
push_keeps w up down k t old new came mail some p e h =
    let n : ℕ = end_of old in
    let b : ℕ → ℕ = λ j. if nat_lt j (end_of old + 1) then h.begins j else k + 1 in
    let low : (j : ℕ) → j < end_of old + 1 → b j ≡ h.begins j = λ j l. pick_first j (end_of old + 1) (h.begins j) (k + 1) l in
    let high : (j : ℕ) → end_of old + 1 ≤ j → b j ≡ k + 1 = λ j l. pick_second j (end_of old + 1) (h.begins j) (k + 1) l in
    let wide : width_of new ≡ width_of old = ap (λ (xs : List ℕ). length xs) p.rest in
    let ends : end_of new ≡ end_of old + 1 = ap (λ (xs : List ℕ). length xs) p.totals ∙ length_push old.totals.items came in
    let next : old.next ≤ end_of old = old.within in
    let order : old.dead ≤ old.next = old.order in
    let whole : length old.entries.items ≡ end_of old * width_of old = old.whole in
    let at : (j i : ℕ) → slice_index (old.entries.items ++ mail) (j * width_of old + i) ≡ row_at new j i =
    λ j i. sym (ap (λ (xs : List ℕ). slice_index xs (j * width_of new + i)) p.entries ∙ ap (λ (z : ℕ). slice_index (old.entries.items ++ mail) (j * z + i)) wide) in
    let row_old : (j i : ℕ) → j < end_of old → i < w → row_at old j i ≡ row_at new j i =
    λ j i l m. sym (get_or_append_left old.entries.items mail 0 (j * width_of old + i) (omega (arith, whole, place_below (width_of old) (end_of old) j i l (omega (arith, m, h.wide))))) ∙ at j i in
    let row_new : (i : ℕ) → slice_index mail i ≡ row_at new (end_of old) i =
    λ i. let place : length old.entries.items + i ≡ end_of old * width_of old + i = omega (arith, whole) in
    sym (get_or-append-add old.entries.items mail i 0) ∙ (ap (slice_index (old.entries.items ++ mail)) place ∙ at (end_of old) i) in
    record {
      begins = b;
      wide = wide ∙ h.wide;
      end = ap b ends ∙ high (end_of old + 1) (omega arith);
      base = p.base ∙ (h.base ∙ (ap (total w up) (sym (low old.next (omega arith))) ∙ ap (λ (z : ℕ). total w up (b z)) (sym p.next)));
      rest = λ i m.
          subst (λ (z : ℕ). IsDifference (slice_index new.rest.items i) (up i (b z)) (down i t)) (sym p.next)
          (subst (λ (z : ℕ). IsDifference (slice_index new.rest.items i) (up i z) (down i t)) (sym (low old.next (omega arith)))
          (subst (λ (xs : List ℕ). IsDifference (slice_index xs i) (up i (h.begins old.next)) (down i t)) (sym p.rest) (h.rest i m)));
      low = p.low ∙ (h.low ∙ (ap (total w up) (sym (low old.dead (omega arith))) ∙ ap (λ (z : ℕ). total w up (b z)) (sym p.dead)));
      freed = omega (arith, p.low, h.freed);
      later = λ j a l.
          elim (cases_lt j (end_of old)) [
            | inl x ↦ omega (arith, low j (omega arith), low (j + 1) (omega arith), h.later j (omega (arith, p.dead, a)) x)
            | inr x ↦ let f : h.begins j ≡ h.begins (end_of old) = (let g : j ≡ end_of old = omega (arith, ends, l) in ap h.begins g) in omega (arith, low j (omega (arith, ends, l)), high (j + 1) (omega arith), f, h.end)
          ];
      rows = λ j i a l m.
          elim (cases_lt j (end_of old)) [
            | inl x ↦
                let here = low j (omega arith) in
                ap (λ (z : ℕ). up i (z + 1)) here ∙ (h.rows j i (omega (arith, p.dead, a)) x m ∙ (ap (λ (z : ℕ). up i z + row_at old j i) (sym here) ∙ ap (λ (z : ℕ). up i (b j) + z) (row_old j i x m)))
            | inr x ↦
                let g : end_of old ≡ j = omega (arith, ends, l) in
                let here : b j ≡ k = low j (omega (arith, ends, l)) ∙ (ap h.begins (sym g) ∙ h.end) in
                ap (λ (z : ℕ). up i (z + 1)) here
                ∙ (e.each some i m ∙ (ap (λ (z : ℕ). up i z + slice_index mail i) (sym here) ∙ ap (λ (z : ℕ). up i (b j) + z) (row_new i ∙ ap (λ (z : ℕ). row_at new z i) g)))
          ];
      others = λ j i a l m.
          elim (cases_lt j (end_of old)) [
            | inl x ↦ ap (up i) (low (j + 1) (omega arith)) ∙ (h.others j i (omega (arith, p.dead, a)) x m ∙ ap (λ (z : ℕ). up i (z + 1)) (sym (low j (omega arith))))
            | inr x ↦
                let g : j ≡ end_of old = omega (arith, ends, l) in
                let here : b j ≡ k = low j (omega (arith, ends, l)) ∙ (ap h.begins g ∙ h.end) in
                ap (up i) (high (j + 1) (omega arith)) ∙ ap (λ (z : ℕ). up i (z + 1)) (sym here)
          ];
    }

-- the first place is given to the first row that is kept
pub closes_keeps : (k t : ℕ) (old new : Standing) → Closes old new → Keeps k t old new
closes_keeps k t old new p w up down h =
    let d : ℕ = old.dead in
    let wide : width_of new ≡ width_of old = ap (λ (xs : List ℕ). length xs) p.rest in
    let order : old.dead ≤ old.next = old.order in
    let within : old.next ≤ end_of old = old.within in
    let ends : end_of new + old.dead ≡ end_of old = omega (arith, ap (λ (xs : List ℕ). length xs) p.totals, length-drop old.dead old.totals.items) in
    let row : (j i : ℕ) → row_at new j i ≡ row_at old (j + old.dead) i =
    λ j i.
    let place : old.dead * width_of old + (j * width_of old + i) ≡ (j + old.dead) * width_of old + i = omega arith in
    ap (λ (xs : List ℕ). slice_index xs (j * width_of new + i)) p.entries
    ∙ (ap (λ (z : ℕ). slice_index (drop (old.dead * width_of old) old.entries.items) (j * z + i)) wide
    ∙ (get_or-drop (old.dead * width_of old) old.entries.items (j * width_of old + i) 0 ∙ ap (slice_index old.entries.items) place)) in
    let first : new.dead + old.dead ≡ old.dead = omega (arith, p.dead) in
    let behind : (j : ℕ) → j + 1 + old.dead ≡ j + old.dead + 1 = λ j. omega arith in
    record {
      begins = λ j. h.begins (j + old.dead);
      wide = wide ∙ h.wide;
      end = ap h.begins ends ∙ h.end;
      base = p.base ∙ (h.base ∙ ap (λ (z : ℕ). total w up (h.begins z)) (sym p.next));
      rest = λ i m.
          subst (λ (z : ℕ). IsDifference (slice_index new.rest.items i) (up i (h.begins z)) (down i t)) (sym p.next)
          (subst (λ (xs : List ℕ). IsDifference (slice_index xs i) (up i (h.begins old.next)) (down i t)) (sym p.rest) (h.rest i m));
      low = p.low ∙ (h.low ∙ ap (λ (z : ℕ). total w up (h.begins z)) (sym first));
      freed = omega (arith, p.low, h.freed);
      later = λ j a l. let x = h.later (j + old.dead) (omega arith) (omega (arith, ends, l)) in omega (arith, x, ap h.begins (behind j));
      rows = λ j i a l m. h.rows (j + old.dead) i (omega arith) (omega (arith, ends, l)) m ∙ ap (λ (z : ℕ). up i (h.begins (j + old.dead)) + z) (sym (row j i));
      others = λ j i a l m. ap (λ (z : ℕ). up i (h.begins z)) (behind j) ∙ h.others (j + old.dead) i (omega arith) (omega (arith, ends, l)) m;
    }
