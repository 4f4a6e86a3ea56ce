-- Names are found at their places.
use Rattle.std.proofs.Common.{◌≡◌, ℕ, suc, zero, ◌+◌, ◌<◌, ◌&&◌, ◌==◌, Bool, true, false, cond, List, [], ◌∷◌, ◌++◌, length, take, get_or, nat_lt, Some, None, refl, sym, ap, subst, ◌∙◌, arith}
use Rattle.std.specs.List.{position_from}
use Rattle.std.proofs.Math.ListN.{get_or-append}
use Rattle.std.proofs.Math.Seq.{get_or-append_seam}
use Rattle.std.proofs.lemmas.List.{get_or-take, length-take}
use Rattle.std.proofs.lemmas.Bool.{cases_lt}
use Rattle.std.proofs.Common.{length-append, inl, inr}
use Rattle.std.proofs.lemmas.Bool.Decides.{nat_tests}
use Rattle.std.specs.HashMap as hash
use Rattle.std.specs.HashMap.{HashMap}
use Rattle.std.specs.Cmp.Lexicographic.{pointwise, same_text, nat_list_eq_equiv}
use Rattle.ltm_network.specs.Names.{same, stands_at, place_of}
use Rattle.ltm_network.specs.Found.{AreFound}

pub same_exact : (a b : List ℕ) → same a b ≡ true → a ≡ b
same_exact a b e = same_text a b (sym e)

pub same_itself : (a : List ℕ) → same a a ≡ true
same_itself a = nat_list_eq_equiv.refl a

one_less : (j n : ℕ) → suc j < suc n → j < n
one_less j n h = omega arith

pub position_found : {A : Type 0} (p : A → Bool) (k : ℕ) (xs : List A) (i : ℕ) (d : A) → i < length xs → p (get_or xs i d) ≡ true → ((j : ℕ) → j < i → p (get_or xs j d) ≡ false) → position_from p k xs ≡ Some (k + i)
position_found p k [] i d less is before = absurd (omega arith)
position_found p k (x ∷ xs) zero d less is before = ap (λ b. cond b (Some k) (position_from p (k + 1) xs)) is ∙ ap Some (omega arith)
position_found p k (x ∷ xs) (suc i) d less is before =
    ap (λ b. cond b (Some k) (position_from p (k + 1) xs)) (before 0 (omega arith))
    ∙ position_found p (k + 1) xs i d (omega arith) is (λ j h. before (suc j) (omega arith)) ∙ ap Some (omega arith)

pub position_none : {A : Type 0} (p : A → Bool) (k : ℕ) (xs : List A) (d : A) → ((j : ℕ) → j < length xs → p (get_or xs j d) ≡ false) → position_from p k xs ≡ None
position_none p k [] d none = refl
position_none p k (x ∷ xs) d none =
    ap (λ b. cond b (Some k) (position_from p (k + 1) xs)) (none 0 (omega arith)) ∙ position_none p (k + 1) xs d (λ j h. none (suc j) (omega arith))

pub none_stands : {A : Type 0} (p : A → Bool) (k : ℕ) (xs : List A) (d : A) → position_from p k xs ≡ None → (j : ℕ) → j < length xs → p (get_or xs j d) ≡ false
none_stands p k [] d is j less = absurd (omega arith)
none_stands p k (x ∷ xs) d is zero less =
    elim (p x) as (λ b. cond b (Some k) (position_from p (k + 1) xs) ≡ None → b ≡ false) [ true ↦ λ e. cc | false ↦ λ e. refl ] is
none_stands p k (x ∷ xs) d is (suc j) less =
    elim (p x) as (λ b. cond b (Some k) (position_from p (k + 1) xs) ≡ None → p (get_or xs j d) ≡ false) [
      | true ↦ λ e. cc
      | false ↦ λ e. none_stands p (k + 1) xs d e j (one_less _ _ less)
    ] is

pub some_same : (i j : ℕ) → Some i ≡ Some j → i ≡ j
some_same i j e = cc

true_or_false : (b : Bool) → (b ≡ true → ⊥) → b ≡ false
true_or_false true h = absurd (h refl)
true_or_false false h = refl

-- a name that stands somewhere is found there
pub found_at : {S : Type 0} (names : List (List ℕ)) (ids : HashMap (List ℕ) ℕ S) (name : List ℕ) (j : ℕ) → AreFound names ids → j < length names → same name (get_or names j []) ≡ true → hash.get (pointwise ◌==◌) ids name ≡ Some j
found_at names ids name j found less is = ap (hash.get (pointwise ◌==◌) ids) (same_exact _ _ is) ∙ found j [] less

pub place_here : {S : Type 0} (names : List (List ℕ)) (ids : HashMap (List ℕ) ℕ S) (name : List ℕ) (place : ℕ) → AreFound names ids → hash.get (pointwise ◌==◌) ids name ≡ Some place → stands_at names place name ≡ true → place_of names name ≡ Some place
place_here names ids name place found get stands =
    let less : place < length names = grind (arith, nat_tests) in
    let test : nat_lt place (length names) ≡ true = grind (arith, nat_tests) in
    let is : same (get_or names place []) name ≡ true = subst (λ b. (b && same (get_or names place []) name) ≡ true) test stands in
    let here : same name (get_or names place []) ≡ true = subst (λ x. same name x ≡ true) (sym (same_exact _ _ is)) (same_itself name) in
    position_found (same name) 0 names place [] less here (λ j before. true_or_false _ (λ is2.
    let at : Some place ≡ Some j = sym get ∙ found_at names ids name j found (omega arith) is2 in
    let e : place ≡ j = some_same _ _ at in absurd (omega arith))) ∙ ap Some (omega arith)

pub place_nowhere : {S : Type 0} (names : List (List ℕ)) (ids : HashMap (List ℕ) ℕ S) (name : List ℕ) → AreFound names ids → ((j : ℕ) → hash.get (pointwise ◌==◌) ids name ≡ Some j → stands_at names j name ≡ false) → place_of names name ≡ None
place_nowhere names ids name found stale_at =
    position_none (same name) 0 names [] (λ j less. true_or_false _ (λ is.
    let stale : stands_at names j name ≡ false = stale_at j (found_at names ids name j found less is) in
    let test : nat_lt j (length names) ≡ true = grind (arith, nat_tests) in
    let apart : same (get_or names j []) name ≡ false = subst (λ b. (b && same (get_or names j []) name) ≡ false) test stale in
    let one : same name name ≡ false = subst (λ x. same x name ≡ false) (sym (same_exact _ _ is)) apart in
    let bad : true ≡ false = sym (same_itself name) ∙ one in cc))

-- what putting the name into the index keeps
pub others_kept : {S : Type 0} (names : List (List ℕ)) (ids ids' : HashMap (List ℕ) ℕ S) (name : List ℕ) → AreFound names ids → place_of names name ≡ None →
    ((q : List ℕ) → same name q ≡ false → hash.get (pointwise ◌==◌) ids' q ≡ hash.get (pointwise ◌==◌) ids q) → AreFound names ids'
others_kept names ids ids' name found absent others i d less =
    let apart : same name (get_or names i d) ≡ false = none_stands (same name) 0 names d absent i less in
    others (get_or names i d) apart ∙ found i d less

pub one_more : {S : Type 0} (names : List (List ℕ)) (ids : HashMap (List ℕ) ℕ S) (name : List ℕ) → AreFound names ids → hash.get (pointwise ◌==◌) ids name ≡ Some (length names) → AreFound (names ++ name ∷ []) ids
one_more names ids name found here i d less =
    elim (cases_lt i (length names)) [
      | inl before ↦ ap (hash.get (pointwise ◌==◌) ids) (get_or-append names (name ∷ []) d i before) ∙ found i d before
      | inr last ↦
          let e : i ≡ length names = omega (arith, length-append names (name ∷ [])) in
          subst (λ k. hash.get (pointwise ◌==◌) ids (get_or (names ++ name ∷ []) k d) ≡ Some k) (sym e) (ap (hash.get (pointwise ◌==◌) ids) (get_or-append_seam names name [] d) ∙ here)
    ]

pub fewer : {S : Type 0} (names : List (List ℕ)) (ids : HashMap (List ℕ) ℕ S) (n : ℕ) → AreFound names ids → AreFound (take n names) ids
fewer names ids n found i d less =
    let short : i < n = omega (arith, length-take n names) in
    let inside : i < length names = omega (arith, length-take n names) in
    ap (hash.get (pointwise ◌==◌) ids) (get_or-take n names i d short) ∙ found i d inside
