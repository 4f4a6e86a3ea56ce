-- What was taken of a source, and what is left of it.
use Rattle.std.proofs.Common.{◌≡◌, ℕ, ◌≤◌, List, [], ◌∷◌, ◌++◌, length, Option, Some, None, IfSome, refl, sym, ap, subst, ◌∙◌, arith, append_assoc, length-append}
use Rattle.std.proofs.lemmas.List.{append-nil}
use Rattle.ltm_io.specs.Source.{prepended}

pub none_taken : (told : Option (List ℕ)) → told ≡ prepended [] told
none_taken None = refl
none_taken (Some rest) = refl

pub more_taken : (old mid new : Option (List ℕ)) (got more : List ℕ) → old ≡ prepended got mid → mid ≡ prepended more new → old ≡ prepended (got ++ more) new
more_taken old mid None got more e f = e ∙ ap (prepended got) f
more_taken old mid (Some rest) got more e f = e ∙ (ap (prepended got) f ∙ ap (λ (z : List ℕ). Some z) (sym (append_assoc got more rest)))

-- all bytes: those that were taken, and those that are left, where these are told
pub whole : (old new : Option (List ℕ)) (got : List ℕ) → old ≡ prepended got new → (all : List ℕ) × IfSome old (λ bytes. bytes ≡ all) × (length got ≤ length all)
whole old None got e = (got, subst (λ (o : Option (List ℕ)). IfSome o (λ bytes. bytes ≡ got)) (sym e) tt, omega arith)
whole old (Some rest) got e = (got ++ rest, subst (λ (o : Option (List ℕ)). IfSome o (λ bytes. bytes ≡ got ++ rest)) (sym e) refl, omega (arith, length-append got rest))

-- none is left
pub taken_whole : (old new : Option (List ℕ)) (got : List ℕ) → old ≡ prepended got new → IfSome new (λ bytes. bytes ≡ []) → IfSome old (λ bytes. bytes ≡ got)
taken_whole old None got e end = subst (λ (o : Option (List ℕ)). IfSome o (λ bytes. bytes ≡ got)) (sym e) tt
taken_whole old (Some rest) got e end = subst (λ (o : Option (List ℕ)). IfSome o (λ bytes. bytes ≡ got)) (sym e) (ap (λ (z : List ℕ). got ++ z) end ∙ append-nil got)

pub rest_whole : (old mid : Option (List ℕ)) (got rest : List ℕ) → old ≡ prepended got mid → IfSome mid (λ bytes. bytes ≡ rest) → IfSome old (λ bytes. bytes ≡ got ++ rest)
rest_whole old None got rest e end = subst (λ (o : Option (List ℕ)). IfSome o (λ bytes. bytes ≡ got ++ rest)) (sym e) tt
rest_whole old (Some left) got rest e end = subst (λ (o : Option (List ℕ)). IfSome o (λ bytes. bytes ≡ got ++ rest)) (sym e) (ap (λ (z : List ℕ). got ++ z) end)

none_more : (more : List ℕ) → length more ≡ 0 → more ≡ []
none_more [] e = refl
none_more (x ∷ xs) e = absurd (omega arith)

-- a read that gave none found the end
pub end_taken : (old mid : Option (List ℕ)) (got more : List ℕ) → old ≡ prepended got mid → IfSome mid (λ bytes. bytes ≡ []) → length more ≡ 0 → IfSome old (λ bytes. bytes ≡ got ++ more)
end_taken old mid got more e end none = subst (λ (z : List ℕ). IfSome old (λ bytes. bytes ≡ got ++ z)) (sym (none_more more none)) (rest_whole old mid got [] e end)
