-- Lists that begin one another.
use Rattle.std.proofs.Common.{◌≡◌, List, [], ◌∷◌, ◌++◌, map, take, refl, sym, ap, ◌∙◌, append_assoc}
use Rattle.std.proofs.lemmas.List.{map-append}
use mathlib.Core.List.{IsPrefix}
use Rattle.ltm_board.specs.Lists.{entries_of_posts}
use Rattle.ltm_board.specs.Begins.{BeginsWith}

module _ {E : Type 0} where
  pub append_nil : (xs : List E) → xs ++ [] ≡ xs
  append_nil [] = refl
  append_nil (x ∷ xs) = ap (λ l. x ∷ l) (append_nil xs)

  pub itself : (xs : List E) → IsPrefix xs xs
  itself xs = ([], append_nil xs)

  pub begins_trans : (xs ys zs : List E) → IsPrefix xs ys → IsPrefix ys zs → IsPrefix xs zs
  begins_trans xs ys zs (a, e) (b, f) = (a ++ b, sym (append_assoc xs a b) ∙ (ap (λ l. l ++ b) e ∙ f))

  pub all_later : (list later : List E) (known : List (List E)) → IsPrefix list later → BeginsWith list known → BeginsWith later known
  all_later list later [] up h = tt
  all_later list later (l ∷ ls) up h = (begins_trans l list later h.0 up, all_later list later ls up h.1)

  pub none_taken : (xs : List E) → take 0 xs ≡ []
  none_taken [] = refl
  none_taken (x ∷ xs) = refl

  pub front_begins : (xs : List E) → IsPrefix (take 1 xs) xs
  front_begins [] = itself []
  front_begins (x ∷ xs) = (xs, ap (λ l. x ∷ l ++ xs) (none_taken xs))

  -- ---- posts one behind another
  pub joined_both : (a b : List (List E)) → entries_of_posts (a ++ b) ≡ entries_of_posts a ++ entries_of_posts b
  joined_both [] b = refl
  joined_both (post ∷ posts) b = ap (λ l. post ++ l) (joined_both posts b) ∙ sym (append_assoc post (entries_of_posts posts) (entries_of_posts b))

  pub joined_more : (posts : List (List E)) (post : List E) → entries_of_posts (posts ++ post ∷ []) ≡ entries_of_posts posts ++ post
  joined_more posts post = joined_both posts (post ∷ []) ∙ ap (λ l. entries_of_posts posts ++ l) (append_nil post)

  -- posts that begin with others have a list that begins with theirs
  pub joined_begins : (a b : List (List E)) → IsPrefix a b → IsPrefix (entries_of_posts a) (entries_of_posts b)
  joined_begins a b (rest, e) = (entries_of_posts rest, sym (joined_both a rest) ∙ ap entries_of_posts e)

pub map_begins : {E F : Type 0} (f : E → F) (xs ys : List E) → IsPrefix xs ys → IsPrefix (map f xs) (map f ys)
map_begins f xs ys (rest, e) = (map f rest, sym (map-append f xs rest) ∙ ap (λ l. map f l) e)
