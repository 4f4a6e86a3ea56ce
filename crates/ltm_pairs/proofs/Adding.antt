-- Reaches are added one after another.
use Rattle.std.proofs.Common.{◌≡◌, ℕ, ◌+◌, ◌<◌, ◌||◌, Bool, true, false, All, List, [], ◌∷◌, ◌++◌, length, arith, refl, ap, sym, ◌∙◌, subst, length-append}
use Rattle.std.proofs.lemmas.List.Folds.{list_any-append}
use Rattle.std.proofs.lemmas.List.Elements.{All-append, All-cons}
use Rattle.ltm_units.specs.declared.places.Reach.{Reach}
use Rattle.ltm_loading.specs.Setting.{Setting}
use Rattle.ltm_pairs.specs.Reaches.{SpreadData, lies_in, lies_in_one}
use Rattle.ltm_pairs.specs.Adding.{IsFrom, Adds}

or_none : (a : Bool) → a || false ≡ a
or_none true = refl
or_none false = refl

or_assoc : (a b c : Bool) → (a || b) || c ≡ a || (b || c)
or_assoc true b c = refl
or_assoc false b c = refl

-- one reach more is as the others are
all_more : (s : Setting) (k : ℕ) (rs : List Reach) (r : Reach) → IsFrom s k r → All (IsFrom s k) rs → All (IsFrom s k) (rs ++ r ∷ [])
all_more s k rs r from h = All-append (IsFrom s k) rs (r ∷ []) h (All-cons (IsFrom s k) r [] from (λ i d l. absurd (omega arith)))

pub from_push : (s : Setting) (k : ℕ) (old new : SpreadData) (r : Reach) → new ≡ record old { reaches = old.reaches ++ r ∷ [] } → IsFrom s k r → All (IsFrom s k) old.reaches → All (IsFrom s k) new.reaches
from_push s k old new r is from h = subst (λ (d : SpreadData). All (IsFrom s k) d.reaches) (sym is) (all_more s k old.reaches r from h)

pub adds_one : (s : Setting) (k : ℕ) (old new : SpreadData) (r : Reach) (reads : ℕ → ℕ → Bool) → new ≡ record old { reaches = old.reaches ++ r ∷ [] } → IsFrom s k r →
    ((w v : ℕ) → v < s.slots → lies_in w v r ≡ reads w v) → Adds s k 1 old new reads
adds_one s k old new r reads is from each = record {
  each = λ w v l.
      ap (λ (d : SpreadData). lies_in_one d.reaches w v) is
      ∙ (list_any-append (lies_in w v) old.reaches (r ∷ [])
      ∙ ap (λ b. lies_in_one old.reaches w v || b) (or_none (lies_in w v r) ∙ each w v l));
  more = let e : length new.reaches ≡ length (old.reaches ++ r ∷ []) = ap (λ (d : SpreadData). length d.reaches) is in omega (e, length-append old.reaches (r ∷ []), arith);
  from = from_push s k old new r is from;
  all_new = ap (λ (d : SpreadData). d.all_new) is;
}

pub adds_both : (s : Setting) (k m n : ℕ) (old mid new : SpreadData) (f g : ℕ → ℕ → Bool) → Adds s k m old mid f → Adds s k n mid new g → Adds s k (m + n) old new (λ w v. f w v || g w v)
adds_both s k m n old mid new f g first second = record {
  each = λ w v l. second.each w v l ∙ (ap (λ b. b || g w v) (first.each w v l) ∙ or_assoc (lies_in_one old.reaches w v) (f w v) (g w v));
  more = omega (first.more, second.more, arith);
  from = λ h. second.from (first.from h);
  all_new = second.all_new ∙ first.all_new;
}
