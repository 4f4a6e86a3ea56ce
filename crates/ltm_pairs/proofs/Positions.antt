-- Where the units that may leave a link end, when one total changes.
use Rattle.std.proofs.Common.{◌≡◌, ◌≢◌, ℕ, ◌+◌, ◌-◌, ◌*◌, ◌/◌, ◌%◌, ◌<◌, ◌≤◌, ◌⊎◌, ◌==◌, ◌||◌, List, slice_index, cond, nat_lt, false, arith, inl, inr, ap, sym, ◌∙◌}
use Rattle.std.proofs.lemmas.Bool.{cases_lt, cases_eq}
use Rattle.std.proofs.lemmas.Bool.Decides.{nat_tests}
use Rattle.std.proofs.lemmas.Nat.{div-add-mod', le-div}
use Rattle.std.proofs.Math.Nat.{div-le_of_le-mul}
use Rattle.ltm_units.specs.Nested.{nested_split}
use Rattle.ltm_curve.specs.Counts.{total, interpolated}
use Rattle.ltm_curve.specs.First.{last_within, entries, mixed, first_units}
use Rattle.ltm_curve.proofs.Lasts.{IsLast, is_last, one_last}
use Rattle.ltm_curve.proofs.Interpolation.{interpolated_same}
use Rattle.ltm_loading.specs.Flows.{earlier}
use Rattle.ltm_loading.proofs.Same.{list_below-same, total-same}
use Rattle.ltm_pairs.specs.Windows.{reads_ago}

-- the total at k alone changes. j is a boundary before k with at most the new total of k. An end that does not lie in j to
-- k stays the end, and neither it nor the boundary after it is k
pub record Stays (new : ℕ → ℕ) (n last p k : ℕ) : Type 0 where
  pub is_last : IsLast new n last p
  pub not_here : p ≢ k
  pub not_next : p + 1 ≢ k

pub keeps_position : (old new : ℕ → ℕ) (k n last p j : ℕ) → k ≤ last → ((i : ℕ) → i ≤ last → i ≢ k → new i ≡ old i) → IsLast old n last p → j < k → old j ≤ new k → (p < j) ⊎ (k < p) → Stays new n last p k
keeps_position old new k n last p j within same is below least apart =
    elim apart [
      | inr past ↦ record {
        is_last = record {
          below = is.below;
          within = let e : new p ≡ old p = same p is.below (omega arith) in omega (e, is.within, arith);
          above = λ i l m. let e : new i ≡ old i = same i m (omega arith) in omega (e, is.above i l m, arith);
        };
        not_here = omega arith;
        not_next = omega arith;
      }
      | inl before ↦
          let high : n < old j = is.above j before (omega arith) in record {
            is_last = record {
              below = is.below;
              within = let e : new p ≡ old p = same p is.below (omega arith) in omega (e, is.within, arith);
              above = λ i l m. elim (cases_eq i k) [
                | inl at ↦ let e : new i ≡ new k = ap new at in omega (e, high, least, arith)
                | inr ne ↦ let e : new i ≡ old i = same i m ne in omega (e, is.above i l m, arith)
              ];
            };
            not_here = omega arith;
            not_next = omega arith;
          }
    ]

-- a part of the first units where they end
abbrev at : ℕ → (ℕ → ℕ → ℕ) → ℕ → ℕ → ℕ → ℕ → ℕ
at m a n last d k = cond ((n - total m a k == 0) || (k == last)) (a d k) (mixed m a k (n - total m a k) d)

at_end : (part k last a x : ℕ) → k ≡ last → cond ((part == 0) || (k == last)) a x ≡ a
at_end part k last a x h = grind (arith, nat_tests)

at_same : (m : ℕ) (a b : ℕ → ℕ → ℕ) (n last d p : ℕ) → ((e : ℕ) → e < m → a e p ≡ b e p) → (p < last → (e : ℕ) → e < m → a e (p + 1) ≡ b e (p + 1)) → d < m → p ≤ last → at m a n last d p ≡ at m b n last d p
at_same m a b n last d p here next l x =
    let t : total m a p ≡ total m b p = total-same m a b p here in
    let r : a d p ≡ b d p = here d l in
    elim (cases_lt p last) [
      | inl low ↦
          let es : entries m a p ≡ entries m b p =
          list_below-same m (λ e. a e (p + 1) - a e p) (λ e. b e (p + 1) - b e p) (λ e y. ap (λ (z : ℕ). z - a e p) (next low e y) ∙ ap (λ (z : ℕ). b e (p + 1) - z) (here e y)) in
          ap (λ (z : ℕ). cond ((n - z == 0) || (p == last)) (a d p) (a d p + slice_index (nested_split (n - z) (entries m a p)) d)) t
          ∙ (ap (λ (z : ℕ). cond ((n - total m b p == 0) || (p == last)) z (z + slice_index (nested_split (n - total m b p) (entries m a p)) d)) r
          ∙ ap (λ (zs : List ℕ). cond ((n - total m b p == 0) || (p == last)) (b d p) (b d p + slice_index (nested_split (n - total m b p) zs) d)) es)
      | inr high ↦
          let e : p ≡ last = omega arith in
          at_end (n - total m a p) p last (a d p) (mixed m a p (n - total m a p) d) e ∙ (r ∙ sym (at_end (n - total m b p) p last (b d p) (mixed m b p (n - total m b p) d) e))
    ]

-- the first units stay where their end stays and is not read at k
pub first_apart : (m : ℕ) (old new : ℕ → ℕ → ℕ) (n last k j d : ℕ) → k ≤ last → ((e i : ℕ) → e < m → i ≤ last → i ≢ k → new e i ≡ old e i) → total m old 0 ≡ 0 → 0 < k →
    j < k → total m old j ≤ total m new k → (last_within (total m old) n last < j) ⊎ (k < last_within (total m old) n last) → d < m → first_units m new n last d ≡ first_units m old n last d
first_apart m old new n last k j d within same empty some below least apart l =
    let p : ℕ = last_within (total m old) n last in
    let totals : (i : ℕ) → i ≤ last → i ≢ k → total m new i ≡ total m old i = λ i x ne. total-same m new old i (λ e y. same e i y x ne) in
    let old_empty : total m old 0 ≤ n = omega (empty, arith) in
    let is : IsLast (total m old) n last p = is_last (total m old) n last old_empty in
    let stays : Stays (total m new) n last p k = keeps_position (total m old) (total m new) k n last p j within totals is below least apart in
    let new_empty : total m new 0 ≤ n = let e : total m new 0 ≡ total m old 0 = totals 0 (omega arith) (omega arith) in omega (e, empty, arith) in
    let ends : last_within (total m new) n last ≡ p = one_last (total m new) n last (last_within (total m new) n last) p (is_last (total m new) n last new_empty) stays.is_last in
    let here : (e : ℕ) → e < m → new e p ≡ old e p = λ e y. same e p y is.below stays.not_here in
    let next : p < last → (e : ℕ) → e < m → new e (p + 1) ≡ old e (p + 1) = λ low e y. same e (p + 1) y (omega arith) stays.not_next in
    let one : first_units m new n last d ≡ at m new n last d p = ap (λ (z : ℕ). at m new n last d z) ends in
    one ∙ at_same m new old n last d p here next l is.below

pub last_apart : (m : ℕ) (old new : ℕ → ℕ → ℕ) (n last k j : ℕ) → k ≤ last → ((e i : ℕ) → e < m → i ≤ last → i ≢ k → new e i ≡ old e i) → total m old 0 ≡ 0 → 0 < k →
    j < k → total m old j ≤ total m new k → (last_within (total m old) n last < j) ⊎ (k < last_within (total m old) n last) → last_within (total m new) n last ≡ last_within (total m old) n last
last_apart m old new n last k j within same empty some below least apart =
    let totals : (i : ℕ) → i ≤ last → i ≢ k → total m new i ≡ total m old i = λ i x ne. total-same m new old i (λ e y. same e i y x ne) in
    let is : IsLast (total m old) n last (last_within (total m old) n last) = is_last (total m old) n last (omega (empty, arith)) in
    let stays : Stays (total m new) n last (last_within (total m old) n last) k = keeps_position (total m old) (total m new) k n last (last_within (total m old) n last) j within totals is below least apart in
    let new_empty : total m new 0 ≤ n = let e : total m new 0 ≡ total m old 0 = totals 0 (omega arith) (omega arith) in omega (e, empty, arith) in
    one_last (total m new) n last (last_within (total m new) n last) (last_within (total m old) n last) (is_last (total m new) n last new_empty) stays.is_last

-- ---- totals some time ago
early_none : (c : ℕ → ℕ) (h t delay : ℕ) → (t + 1) * h < delay → earlier c h t delay ≡ 0
early_none c h t delay l = grind (arith, nat_tests)

pick_else : (a b x : ℕ) → b ≤ a → cond (nat_lt a b) 0 x ≡ x
pick_else a b x h = grind (arith, nat_tests)

early_some : (c : ℕ → ℕ) (h t delay : ℕ) → delay ≤ (t + 1) * h → earlier c h t delay ≡ interpolated c h ((t + 1) * h - delay)
early_some c h t delay l = pick_else ((t + 1) * h) delay (interpolated c h ((t + 1) * h - delay)) l

no_window : (h delay v k : ℕ) → reads_ago h delay v k ≡ false → ((v + 2) * h ≤ k * h + delay) ⊎ (delay + (k + 1) * h ≤ (v + 1) * h)
no_window h delay v k w =
    elim (cases_lt (k * h + delay) ((v + 2) * h)) [
      | inr first ↦ inl first
      | inl one ↦ elim (cases_lt ((v + 1) * h) (delay + (k + 1) * h)) [ inr second ↦ inr second | inl two ↦ absurd (grind (one, two, w, arith, nat_tests)) ]
    ]

none_of : (g h : ℕ) → g * 0 / h ≡ 0
none_of g h = let e : g * 0 ≡ 0 = omega arith in ap (λ (z : ℕ). z / h) e ∙ (let f : 0 / h ≡ 0 = omega arith in f)

-- where the window does not read k, a change at k alone changes nothing
pub ago_same : (a b : ℕ → ℕ) (h delay v k : ℕ) → 0 < h → 0 < k → k ≤ v → h ≤ delay → ((j : ℕ) → j ≤ v → j ≢ k → a j ≡ b j) → reads_ago h delay v k ≡ false → earlier a h v delay ≡ earlier b h v delay
ago_same a b h delay v k pos some within slow same w =
    elim (cases_lt ((v + 1) * h) delay) [
      | inl none ↦ early_none a h v delay none ∙ sym (early_none b h v delay none)
      | inr there ↦
          let x : ℕ = (v + 1) * h - delay in
          let to : interpolated a h x ≡ interpolated b h x = elim (no_window h delay v k w) [
            | inl before ↦
                let less : k - 1 + 1 ≡ k = omega arith in
                let times : (k - 1 + 1) * h ≡ k * h = ap (λ (z : ℕ). z * h) less in
                interpolated_same a b h (k - 1) x pos (omega (arith, times)) (λ j l. same j (omega arith) (omega arith))
            | inr after ↦
                let q : ℕ = x / h in
                let high : k + 1 ≤ q = le-div (k + 1) x h pos (omega arith) in
                let top : q ≤ v = div-le_of_le-mul h (omega arith) in
                let first : a q ≡ b q = same q top (omega arith) in
                elim (cases_lt q v) [
                  | inl low ↦
                      let second : a (q + 1) ≡ b (q + 1) = same (q + 1) (omega arith) (omega arith) in
                      ap (λ (z : ℕ). z + (a (q + 1) - z) * (x % h) / h) first ∙ ap (λ (z : ℕ). b q + (z - b q) * (x % h) / h) second
                  | inr last ↦
                      let e : q ≡ v = omega arith in
                      let r : x % h ≡ 0 = omega (arith, div-add-mod' x h, ap (λ (z : ℕ). z * h) e) in
                      let f : (g : ℕ) → g * (x % h) / h ≡ 0 = λ g. ap (λ (z : ℕ). g * z / h) r ∙ none_of g h in
                      omega (arith, first, f (a (q + 1) - a q), f (b (q + 1) - b q))
                ]
          ] in
          early_some a h v delay there ∙ (to ∙ sym (early_some b h v delay there))
    ]
