-- The arms of a node: its in-links, then its origin where it has an out-link.
use Rattle.std.proofs.Common.{◌≡◌, ℕ, ◌+◌, ◌<◌, List, ◌++◌, arith, ap, sym, ◌∙◌}
use Rattle.ltm_curve.specs.First.{list_below}
use Rattle.ltm_loading.specs.Setting.{Setting}
use Rattle.ltm_loading.specs.Pairs.{grid, arms_of}
use Rattle.ltm_inputs.proofs.Lists.{grid-same, grid-more, list_below-same}

-- a table of the arms, from that of the in-links
pub arms_alone : (n w : ℕ) (s : Setting) (u : ℕ) (f g : ℕ → ℕ → ℕ) → n ≡ s.ins u → s.outs u ≡ 0 → ((i d : ℕ) → i < s.ins u → d < w → g i d ≡ f i d) → grid n w g ≡ grid (arms_of s u) w f
arms_alone n w s u f g ins none same =
    let arms : n ≡ arms_of s u = omega (arith, none) in
    grid-same n w g f (λ i d l x. same i d (omega arith) x) ∙ ap (λ (z : ℕ). grid z w f) arms

-- a table of the arms, from those of the in-links and the origin
pub arms_origin : (n w : ℕ) (s : Setting) (u : ℕ) (f g : ℕ → ℕ → ℕ) (h : ℕ → ℕ) → n ≡ s.ins u → 0 < s.outs u → ((i d : ℕ) → i < s.ins u → d < w → g i d ≡ f i d) → ((d : ℕ) → d < w → h d ≡ f (s.ins u) d) →
    grid n w g ++ list_below w h ≡ grid (arms_of s u) w f
arms_origin n w s u f g h ins some same last =
    let arms : n + 1 ≡ arms_of s u = omega (arith, ins, some) in
    ap (λ (z : List ℕ). z ++ list_below w h) (grid-same n w g f (λ i d l x. same i d (omega arith) x))
    ∙ (ap (λ (z : List ℕ). grid n w f ++ z) (list_below-same w h (f n) (λ d l. last d l ∙ ap (λ (z : ℕ). f z d) (sym ins)))
    ∙ (sym (grid-more n w f) ∙ ap (λ (z : ℕ). grid z w f) arms))
