-- The share of each place in turn, out of what is left of a part.
use Rattle.std.proofs.Common.{◌≡◌, ℕ, suc, ◌+◌, ◌-◌, ◌*◌, ◌/◌, ◌<◌, ◌≤◌, List, ◌∷◌, length, sum, drop, slice_index, arith, ap, sym, ◌∙◌, subst}
use Rattle.std.proofs.lemmas.List.{drop_more}
use Rattle.std.proofs.lemmas.List.Sums.{sum_by-cons}
use Rattle.ltm_units.specs.Nested.{nested_split}
use Rattle.ltm_curve.proofs.Mixing.{IsMixing}

-- the share of a place
pub record HasShare (xs : List ℕ) (part rest whole d : ℕ) : Type 0 where
  pub within : slice_index xs d ≤ whole
  pub share : rest * slice_index xs d / whole ≡ slice_index (nested_split part xs) d
  pub next : IsMixing xs part (rest - rest * slice_index xs d / whole) (whole - slice_index xs d) (d + 1)

pub has_share : (xs : List ℕ) (part rest whole d : ℕ) → IsMixing xs part rest whole d → d < length xs → HasShare xs part rest whole d
has_share xs part rest whole d h l =
    let x : ℕ = slice_index xs d in
    let more : drop d xs ≡ slice_index xs d ∷ drop (d + 1) xs = drop_more xs d 0 l in
    let is_whole : whole ≡ slice_index xs d + sum (drop (d + 1) xs) = h.left ∙ (ap sum more ∙ sum_by-cons (λ y. y) (slice_index xs d) (drop (d + 1) xs)) in
    let one : rest * slice_index xs d / (slice_index xs d + sum (drop (d + 1) xs)) ≡ rest * slice_index xs d / whole = ap (λ (z : ℕ). rest * slice_index xs d / z) (sym is_whole) in
    let first : slice_index (nested_split rest (slice_index xs d ∷ drop (d + 1) xs)) 0 ≡ slice_index (nested_split part xs) (d + 0) =
    ap (λ (ys : List ℕ). slice_index (nested_split rest ys) 0) (sym more) ∙ h.shares 0 in
    let at : d + 0 ≡ d = omega arith in
    record {
      within = omega arith;
      share = sym one ∙ (first ∙ ap (slice_index (nested_split part xs)) at);
      next = record {
        left = omega arith;
        shares = λ j.
            let place : d + suc j ≡ d + 1 + j = omega arith in
            ap (λ (z : ℕ). slice_index (nested_split (rest - z) (drop (d + 1) xs)) j) (sym one)
            ∙ (ap (λ (ys : List ℕ). slice_index (nested_split rest ys) (suc j)) (sym more) ∙ (h.shares (suc j) ∙ ap (slice_index (nested_split part xs)) place));
      };
    }

-- the same of a share and a row's number by other names
pub next_share : (xs : List ℕ) (part rest whole d share entered : ℕ) → IsMixing xs part rest whole d → d < length xs → entered ≡ slice_index xs d → share ≡ rest * entered / whole
    → (share ≡ slice_index (nested_split part xs) d) × IsMixing xs part (rest - share) (whole - entered) (d + 1)
next_share xs part rest whole d share entered h l e f =
    let has = has_share xs part rest whole d h l in
    let same : share ≡ rest * slice_index xs d / whole = f ∙ ap (λ (z : ℕ). rest * z / whole) e in (
      same ∙ has.share,
      subst (λ (z : ℕ). IsMixing xs part (rest - z) (whole - entered) (d + 1)) (sym same) (subst (λ (z : ℕ). IsMixing xs part (rest - rest * slice_index xs d / whole) (whole - z) (d + 1)) (sym e) has.next),
    )
