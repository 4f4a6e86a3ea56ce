-- The field of weights of a split row, read back.
use Rattle.std.proofs.Common.{ℕ, suc, ◌≡◌, ◌+◌, ◌≤◌, Bool, true, false, cond, not, List, [], ◌∷◌, ◌++◌, length, map, take, drop, Some, None, refl, ap, arith, ◌∙◌, nat_le}
use Rattle.std.specs.Prelude.{codes, All}
use Rattle.std.specs.List.{slice_split, position_or_len, before_first, after_first}
use Rattle.std.proofs.Math.Seq.{take-append_seam, drop-append-add}
use Rattle.std.proofs.lemmas.Bool.Decides.{nat_tests}
use Rattle.std.proofs.lemmas.List.{append-nil}
use Rattle.std.proofs.lemmas.List.Splits.{slice_split_none, slice_split_at}
use Rattle.std.proofs.lemmas.List.Elements.{All-head, All-tail, All-cons, All-nil, All-append}
use Rattle.ltm_units.specs.Words.{is_name}
use Rattle.ltm_units.specs.Numbers.{whole}
use Rattle.ltm_records.specs.Pieces.{is_space}
use Rattle.ltm_records.specs.Weights.{Entry, is_equals, weighed, entry_of, onto, entries_of, at_most_four, weights_of}
use Rattle.ltm_report.specs.Routes.{entry_piece, further_entries, entries}
use Rattle.ltm_routes_command.proofs.Plain.{AllNames, name_has_no_space, name_has_no_equals}

-- each name with weight 1
abbrev pub ones : List (List ℕ) → List Entry
ones names = map (λ name. (name, 1)) names

pub ones_long : (names : List (List ℕ)) → length (ones names) ≡ length names
ones_long [] = refl
ones_long (name ∷ names) = ap suc (ones_long names)

first_at : (p : ℕ → Bool) (xs : List ℕ) (y : ℕ) (ys : List ℕ) → All (λ x. p x ≡ false) xs → p y ≡ true → position_or_len p (xs ++ y ∷ ys) ≡ length xs
first_at p [] y ys none passes = ap (λ b. cond (not b) (1 + position_or_len p ys) 0) passes
first_at p (x ∷ xs) y ys none passes =
    ap (λ b. cond (not b) (1 + position_or_len p (xs ++ y ∷ ys)) 0) (All-head (λ x. p x ≡ false) x xs none)
    ∙ (let more = first_at p xs y ys (All-tail (λ x. p x ≡ false) x xs none) passes in omega arith)

before_is : (p : ℕ → Bool) (xs : List ℕ) (y : ℕ) (ys : List ℕ) → All (λ x. p x ≡ false) xs → p y ≡ true → before_first p (xs ++ y ∷ ys) ≡ xs
before_is p xs y ys none passes = ap (λ n. take n (xs ++ y ∷ ys)) (first_at p xs y ys none passes) ∙ take-append_seam xs (y ∷ ys)

after_is : (p : ℕ → Bool) (xs : List ℕ) (y : ℕ) (ys : List ℕ) → All (λ x. p x ≡ false) xs → p y ≡ true → after_first p (xs ++ y ∷ ys) ≡ ys
after_is p xs y ys none passes = ap (λ n. drop (n + 1) (xs ++ y ∷ ys)) (first_at p xs y ys none passes) ∙ drop-append-add xs (y ∷ ys) 1

piece_entry : (link : List ℕ) → is_name link ≡ true → entry_of (entry_piece link) ≡ Some (link, 1)
unfolding entry_piece
piece_entry link is =
    let before : before_first is_equals (link ++ codes "=1") ≡ link = before_is is_equals link 61 (49 ∷ []) (name_has_no_equals link is) refl in
    let after : after_first is_equals (link ++ codes "=1") ≡ 49 ∷ [] = after_is is_equals link 61 (49 ∷ []) (name_has_no_equals link is) refl in
    ap (λ name. cond (is_name name) (weighed name (whole (after_first is_equals (link ++ codes "=1")))) None) before
    ∙ ap (λ text. cond (is_name link) (weighed link (whole text)) None) after
    ∙ ap (λ b. cond b (weighed link (whole (49 ∷ []))) None) is

entry_free : (link : List ℕ) → is_name link ≡ true → All (λ b. is_space b ≡ false) (entry_piece link)
unfolding entry_piece
entry_free link is =
    All-append (λ b. is_space b ≡ false) link (codes "=1") (name_has_no_space link is)
    (All-cons (λ b. is_space b ≡ false) 61 (49 ∷ []) refl (All-cons (λ b. is_space b ≡ false) 49 [] refl (All-nil (λ b. is_space b ≡ false))))

pieces : (links : List (List ℕ)) (x : List ℕ) → All (λ b. is_space b ≡ false) x → AllNames links → slice_split is_space (x ++ further_entries links) ≡ x ∷ map entry_piece links
pieces [] x free named = ap (slice_split is_space) (append-nil x) ∙ slice_split_none is_space x free
pieces (link ∷ links) x free named =
    slice_split_at is_space x 32 (entry_piece link ++ further_entries links) free refl
    ∙ ap (λ t. x ∷ t) (pieces links (entry_piece link) (entry_free link (All-head (λ name. is_name name ≡ true) link links named)) (All-tail (λ name. is_name name ≡ true) link links named))

entries_told : (links : List (List ℕ)) → AllNames links → entries_of (map entry_piece links) ≡ Some (ones links)
entries_told [] named = refl
entries_told (link ∷ links) named =
    ap (λ e. onto e (entries_of (map entry_piece links))) (piece_entry link (All-head (λ name. is_name name ≡ true) link links named))
    ∙ ap (onto (Some (link, 1))) (entries_told links (All-tail (λ name. is_name name ≡ true) link links named))

few_told : (es : List Entry) → length es ≤ 4 → at_most_four (Some es) ≡ Some es
few_told es few = let low : nat_le (length es) 4 ≡ true = grind (arith, nat_tests) in ap (λ b. cond b (Some es) None) low

-- one to four links are told as they were written
pub weights_told : (links : List (List ℕ)) → AllNames links → 1 ≤ length links → length links ≤ 4 → weights_of (entries links) ≡ Some (ones links)
weights_told [] named some few = absurd (omega arith)
weights_told (link ∷ links) named some few =
    let split : slice_split is_space (entries (link ∷ links)) ≡ map entry_piece (link ∷ links) =
    pieces links (entry_piece link) (entry_free link (All-head (λ name. is_name name ≡ true) link links named)) (All-tail (λ name. is_name name ≡ true) link links named) in
    let long : length (ones (link ∷ links)) ≡ length (link ∷ links) = ones_long (link ∷ links) in
    ap (λ ps. at_most_four (entries_of ps)) split ∙ ap at_most_four (entries_told (link ∷ links) named) ∙ few_told (ones (link ∷ links)) (omega arith)
