-- What has been seen of a board, and what begins with it.
use Rattle.std.proofs.Common.{◌≡◌, true, List, [], ◌∷◌, map, sym, ap, ◌∙◌, subst}
use Rattle.std.specs.Prelude.{Option, Some, IfSome}
use mathlib.Core.List.{IsPrefix}
use Rattle.ltm_board.specs.declared.panel.Panel.{Panel}
use Rattle.ltm_board.specs.Lists.{PostData, entries_of_posts, entries_of_batches, opening_of, is_opened}
use Rattle.ltm_board.specs.Begins.{BeginsWith}
use Rattle.ltm_board.specs.Panels.{batches_in, posts_of}
use Rattle.ltm_board.specs.Known.{HasSeen}
use Rattle.ltm_board.proofs.Lists.{none_taken, itself, all_later, map_begins}

-- what is said of a value if it is there is so where it is
pub is_there : {X : Type 0} (P : X → Type 0) (o : Option X) (x : X) → IfSome o P → o ≡ Some x → P x
is_there P o x h is = subst (λ z. IfSome z P) is h

-- longer posts have the same opening
pub opening_stays : (seen now : List PostData) → is_opened (entries_of_posts (opening_of seen)) ≡ true → IsPrefix seen now → opening_of now ≡ opening_of seen
opening_stays [] now opened up = absurd (cc)
opening_stays (x ∷ xs) [] opened (a, f) = absurd (cc)
opening_stays (x ∷ xs) (y ∷ ys) opened (a, f) = let h : y ≡ x = (cc) in λ i. h i ∷ (none_taken ys ∙ sym (none_taken xs)) i

pub opened_stays : (seen now : List PostData) → is_opened (entries_of_posts (opening_of seen)) ≡ true → IsPrefix seen now → is_opened (entries_of_posts (opening_of now)) ≡ true
opened_stays seen now opened up = ap (λ (l : List PostData). is_opened (entries_of_posts l)) (opening_stays seen now opened up) ∙ opened

-- who saw the posts `now`, and took in a list with which they begin, knows that list too
pub seen_more : (old now list : List PostData) (known before : List (List PostData)) → HasSeen old known → IsPrefix old now → IsPrefix list now → before ≡ known → HasSeen now (list ∷ before)
seen_more old now list known before had up begins same = record {
  opened = opened_stays old now had.opened up;
  begins = (begins, subst (λ ls. BeginsWith now ls) (sym same) (all_later old now known up had.begins));
}
