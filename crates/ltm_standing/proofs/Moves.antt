-- What stands on a link where its position moves, and where rows are freed.
use Rattle.std.proofs.Common.{◌≡◌, ℕ, ◌+◌, ◌-◌, ◌*◌, ◌%◌, ◌^◌, ◌<◌, ◌≤◌, List, length, slice_index, arith, sym, ap, subst, ◌∙◌}
use Rattle.ltm_units.specs.Sums.{sum_below}
use Rattle.ltm_units.proofs.Sums.{sum_below-same, sum_below-plus}
use Rattle.ltm_curve.specs.Counts.{total}
use Rattle.ltm_standing.specs.declared.standing.Standing.{Standing}
use Rattle.ltm_standing.specs.Standing.{width_of, end_of, row_at, total_at, StandsAt, IsDifference, SameRows, Passes, GoesBack, Frees, Loses, Keeps}
use Rattle.ltm_standing.proofs.Modulo.{difference_more, difference_back, difference_less}

pub same_row : (old new : Standing) → SameRows old new → (j i : ℕ) → row_at new j i ≡ row_at old j i
same_row old new h j i = ap (λ (xs : List ℕ). slice_index xs (j * width_of new + i)) h.entries ∙ ap (λ (w : ℕ). slice_index old.entries.items (j * w + i)) h.wide

pub same_total : (old new : Standing) → SameRows old new → (j : ℕ) → total_at new j ≡ total_at old j
same_total old new h j = ap (λ (xs : List ℕ). slice_index xs j) h.totals

pub same_end : (old new : Standing) → SameRows old new → end_of new ≡ end_of old
same_end old new h = ap (λ (xs : List ℕ). length xs) h.totals

-- what a row has of all
pub row_total : (s : Standing) (j : ℕ) → j < end_of s → total_at s j ≡ sum_below (width_of s) (row_at s j)
row_total s j l = s.sums j l

-- from row to row
pub row_step : (w : ℕ) (up down : ℕ → ℕ → ℕ) (k t : ℕ) (s : Standing) (h : StandsAt w up down k t s) (j i : ℕ) → s.dead ≤ j → j < end_of s → i < w → up i (h.begins (j + 1)) ≡ up i (h.begins j) + row_at s j i
row_step w up down k t s h j i a b l = h.others j i a b l ∙ h.rows j i a b l

pub total_step : (w : ℕ) (up down : ℕ → ℕ → ℕ) (k t : ℕ) (s : Standing) (h : StandsAt w up down k t s) (j : ℕ) → s.dead ≤ j → j < end_of s → total w up (h.begins (j + 1)) ≡ total w up (h.begins j) + total_at s j
total_step w up down k t s h j a b =
    let each : sum_below w (λ i. up i (h.begins (j + 1))) ≡ sum_below w (λ i. up i (h.begins j) + row_at s j i) =
    sum_below-same w (λ i. up i (h.begins (j + 1))) (λ i. up i (h.begins j) + row_at s j i) (λ i l. row_step w up down k t s h j i a b l) in
    let plus : sum_below w (λ i. up i (h.begins j) + row_at s j i) ≡ sum_below w (λ i. up i (h.begins j)) + sum_below w (row_at s j) = sum_below-plus w (λ i. up i (h.begins j)) (row_at s j) in
    let wide : sum_below (width_of s) (row_at s j) ≡ sum_below w (row_at s j) = ap (λ (n : ℕ). sum_below n (row_at s j)) h.wide in
    omega (arith, each, plus, wide, row_total s j b)

-- the same begins serve where the rows are the same
kept_rows : (w : ℕ) (up down : ℕ → ℕ → ℕ) (k t : ℕ) (old new : Standing) (h : StandsAt w up down k t old) → SameRows old new → old.dead ≤ new.dead
    → new.base ≡ total w up (h.begins new.next)
    → ((i : ℕ) → i < w → IsDifference (slice_index new.rest.items i) (up i (h.begins new.next)) (down i t))
    → new.low ≡ total w up (h.begins new.dead) → new.low ≤ total w down t → StandsAt w up down k t new
kept_rows w up down k t old new h same d base rest low freed =
    let ends : end_of new ≡ end_of old = same_end old new same in
    record {
      begins = h.begins;
      wide = same.wide ∙ h.wide;
      end = ap h.begins ends ∙ h.end;
      base = base;
      rest = rest;
      low = low;
      freed = freed;
      later = λ j a b. h.later j (omega arith) (omega (arith, ends));
      rows = λ j i a b l. h.rows j i (omega arith) (omega (arith, ends)) l ∙ ap (λ (z : ℕ). up i (h.begins j) + z) (sym (same_row old new same j i));
      others = λ j i a b l. h.others j i (omega arith) (omega (arith, ends)) l;
    }

pub passes_keeps : (k t : ℕ) (old new : Standing) → old.next < end_of old → Passes old new → Keeps k t old new
passes_keeps k t old new l p w up down h =
    let order : old.dead ≤ old.next = old.order in
    let base : new.base ≡ total w up (h.begins (old.next + 1)) = omega (arith, p.base, h.base, total_step w up down k t old h old.next order l) in
    let rest : (i : ℕ) → i < w → IsDifference (slice_index new.rest.items i) (up i (h.begins (old.next + 1))) (down i t) =
    λ i m.
    let now : slice_index new.rest.items i ≡ (slice_index old.rest.items i + row_at old old.next i) % 2 ^ 32 = p.rest i (omega (arith, m, h.wide)) in
    let step : up i (h.begins (old.next + 1)) ≡ up i (h.begins old.next) + row_at old old.next i = row_step w up down k t old h old.next i order l m in
    subst (λ (z : ℕ). IsDifference z (up i (h.begins (old.next + 1))) (down i t)) (sym now)
    (subst (λ (z : ℕ). IsDifference ((slice_index old.rest.items i + row_at old old.next i) % 2 ^ 32) z (down i t)) (sym step)
    (difference_more (slice_index old.rest.items i) (up i (h.begins old.next)) (down i t) (row_at old old.next i) (h.rest i m))) in
    kept_rows w up down k t old new h p.rows (omega (arith, p.dead))
    (base ∙ ap (λ (z : ℕ). total w up (h.begins z)) (sym p.next))
    (subst (λ (z : ℕ). (i : ℕ) → i < w → IsDifference (slice_index new.rest.items i) (up i (h.begins z)) (down i t)) (sym p.next) rest)
    (p.low ∙ (h.low ∙ ap (λ (z : ℕ). total w up (h.begins z)) (sym p.dead)))
    (omega (arith, p.low, h.freed))

pub goes_back_keeps : (k t : ℕ) (old new : Standing) → old.dead < old.next → GoesBack old new → Keeps k t old new
goes_back_keeps k t old new l p w up down h =
    let inside : old.next ≤ end_of old = old.within in
    let a : old.dead ≤ new.next = omega (arith, p.next) in
    let b : new.next < end_of old = omega (arith, p.next) in
    let was : total w up (h.begins old.next) ≡ total w up (h.begins (new.next + 1)) = ap (λ (z : ℕ). total w up (h.begins z)) (sym p.next) in
    let base : new.base ≡ total w up (h.begins new.next) = omega (arith, p.base, h.base, was, total_step w up down k t old h new.next a b) in
    let rest : (i : ℕ) → i < w → IsDifference (slice_index new.rest.items i) (up i (h.begins new.next)) (down i t) =
    λ i m.
    let now : slice_index new.rest.items i ≡ (slice_index old.rest.items i + (2 ^ 32 - row_at old new.next i)) % 2 ^ 32 = p.rest i (omega (arith, m, h.wide)) in
    let step : up i (h.begins old.next) ≡ up i (h.begins new.next) + row_at old new.next i = ap (λ (z : ℕ). up i (h.begins z)) (sym p.next) ∙ row_step w up down k t old h new.next i a b m in
    subst (λ (z : ℕ). IsDifference z (up i (h.begins new.next)) (down i t)) (sym now)
    (difference_back (slice_index old.rest.items i) (up i (h.begins new.next)) (down i t) (row_at old new.next i) (p.small i (omega (arith, m, h.wide)))
    (subst (λ (z : ℕ). IsDifference (slice_index old.rest.items i) z (down i t)) step (h.rest i m))) in
    kept_rows w up down k t old new h p.rows (omega (arith, p.dead)) base rest
    (p.low ∙ (h.low ∙ ap (λ (z : ℕ). total w up (h.begins z)) (sym p.dead)))
    (omega (arith, p.low, h.freed))

pub frees_keeps : (w : ℕ) (up down : ℕ → ℕ → ℕ) (k t : ℕ) (old new : Standing) → old.dead < old.next → Frees old new → new.low ≤ total w down t → StandsAt w up down k t old → StandsAt w up down k t new
frees_keeps w up down k t old new l p freed h =
    let inside : old.next ≤ end_of old = old.within in
    let b : old.dead < end_of old = omega arith in
    let same : old.dead ≤ old.dead = omega arith in
    let low : new.low ≡ total w up (h.begins (old.dead + 1)) = omega (arith, p.low, h.low, total_step w up down k t old h old.dead same b) in
    let rest : (i : ℕ) → i < w → IsDifference (slice_index new.rest.items i) (up i (h.begins old.next)) (down i t) =
    λ i m. subst (λ (xs : List ℕ). IsDifference (slice_index xs i) (up i (h.begins old.next)) (down i t)) (sym p.rest) (h.rest i m) in
    kept_rows w up down k t old new h p.rows (omega (arith, p.dead))
    (p.base ∙ (h.base ∙ ap (λ (z : ℕ). total w up (h.begins z)) (sym p.next)))
    (subst (λ (z : ℕ). (i : ℕ) → i < w → IsDifference (slice_index new.rest.items i) (up i (h.begins z)) (down i t)) (sym p.next) rest)
    (low ∙ ap (λ (z : ℕ). total w up (h.begins z)) (sym p.dead)) freed

-- units leave
pub leaves_keeps : (w : ℕ) (up down : ℕ → ℕ → ℕ) (k t : ℕ) (old new : Standing) (left : List ℕ) → Loses old new left
    → ((i : ℕ) → i < w → down i (t + 1) ≡ down i t + slice_index left i) → StandsAt w up down k t old → StandsAt w up down k (t + 1) new
leaves_keeps w up down k t old new left p gone h =
    let ends : end_of new ≡ end_of old = same_end old new p.rows in
    let each : sum_below w (λ i. down i (t + 1)) ≡ sum_below w (λ i. down i t + slice_index left i) = sum_below-same w (λ i. down i (t + 1)) (λ i. down i t + slice_index left i) gone in
    let all = sum_below-plus w (λ i. down i t) (slice_index left) in
    let rest : (i : ℕ) → i < w → IsDifference (slice_index new.rest.items i) (up i (h.begins old.next)) (down i (t + 1)) =
    λ i m.
    subst (λ (z : ℕ). IsDifference z (up i (h.begins old.next)) (down i (t + 1))) (sym (p.rest i (omega (arith, m, h.wide))))
    (subst (λ (z : ℕ). IsDifference ((slice_index old.rest.items i + (2 ^ 32 - slice_index left i)) % 2 ^ 32) (up i (h.begins old.next)) z) (sym (gone i m))
    (difference_less (slice_index old.rest.items i) (up i (h.begins old.next)) (down i t) (slice_index left i) (p.small i) (h.rest i m))) in
    record {
      begins = h.begins;
      wide = p.rows.wide ∙ h.wide;
      end = ap h.begins ends ∙ h.end;
      base = p.base ∙ (h.base ∙ ap (λ (z : ℕ). total w up (h.begins z)) (sym p.next));
      rest = subst (λ (z : ℕ). (i : ℕ) → i < w → IsDifference (slice_index new.rest.items i) (up i (h.begins z)) (down i (t + 1))) (sym p.next) rest;
      low = p.low ∙ (h.low ∙ ap (λ (z : ℕ). total w up (h.begins z)) (sym p.dead));
      freed = omega (arith, p.low, h.freed, each, all);
      later = λ j a b. h.later j (omega (arith, p.dead, a)) (omega (arith, ends, b));
      rows = λ j i a b l. h.rows j i (omega (arith, p.dead, a)) (omega (arith, ends, b)) l ∙ ap (λ (z : ℕ). up i (h.begins j) + z) (sym (same_row old new p.rows j i));
      others = λ j i a b l. h.others j i (omega (arith, p.dead, a)) (omega (arith, ends, b)) l;
    }
