-- Lists of what is found, one behind another.
use Rattle.std.proofs.Common.{◌≡◌, ◌≢◌, ℕ, zero, suc, ◌+◌, ◌-◌, ◌*◌, ◌<◌, ◌≤◌, Bool, true, false, cond, List, [], ◌∷◌, ◌++◌, length, filter, nat_lt, slice_index, slice_range, arith, sym, ap, subst, ◌∙◌, inl, inr, get_or-append-add, length-append, append_assoc}
use Rattle.std.specs.List.{range_with_len}
use Rattle.std.proofs.lemmas.Bool.{cases_lt, cases_eq, cases_Bool, cond-true, cond-false, lt-ltb, ltb-true}
use Rattle.std.proofs.lemmas.List.{append-nil, ext_get_or, get_or_append_left, get_or_push, length_push}
use Rattle.std.proofs.lemmas.List.Edits.{length-between, get_or-between}
use Rattle.std.proofs.lemmas.List.Elements.{filter-append, filter_passes, All-get_or}
use Rattle.ltm_loading.specs.Setting.{Setting}
use Rattle.ltm_standing.specs.Listed.{Ascends}
use Rattle.ltm_used.specs.declared.found.Found.{Found}
use Rattle.ltm_used.specs.Closed.{IsIn}
use Rattle.ltm_used.specs.Found.{AreListsOf}
use Rattle.ltm_used.specs.Lists.{found_on}

-- ---- numbers in order that pass a test
range_more : (a n : ℕ) → range_with_len a (suc n) ≡ range_with_len a n ++ (a + n) ∷ []
range_more a zero = let e : a ≡ a + 0 = omega arith in ap (λ (z : ℕ). z ∷ []) e
range_more a (suc n) =
    let e : a + 1 + n ≡ a + suc n = omega arith in
    ap (λ (xs : List ℕ). a ∷ xs) (range_more (a + 1) n ∙ ap (λ (z : ℕ). range_with_len (a + 1) n ++ z ∷ []) e)

filter_more : (p : ℕ → Bool) (n : ℕ) → filter p (range_with_len 0 (n + 1)) ≡ filter p (range_with_len 0 n) ++ cond (p n) (n ∷ []) []
filter_more p n =
    let e : n + 1 ≡ suc n = omega arith in
    let at : 0 + n ≡ n = omega arith in
    ap (λ (z : ℕ). filter p (range_with_len 0 z)) e
    ∙ (ap (filter p) (range_more 0 n ∙ ap (λ (z : ℕ). range_with_len 0 n ++ z ∷ []) at) ∙ filter-append p (range_with_len 0 n) (n ∷ []))

-- one number more that is found, and one that is not
pub push_found : (before into : List ℕ) (p : ℕ → Bool) (n : ℕ) → into ≡ before ++ filter p (range_with_len 0 n) → p n ≡ true → into ++ n ∷ [] ≡ before ++ filter p (range_with_len 0 (n + 1))
push_found before into p n e pass =
    let more : filter p (range_with_len 0 (n + 1)) ≡ filter p (range_with_len 0 n) ++ n ∷ [] = filter_more p n ∙ ap (λ (b : Bool). filter p (range_with_len 0 n) ++ cond b (n ∷ []) []) pass in
    ap (λ (xs : List ℕ). xs ++ n ∷ []) e ∙ (append_assoc before (filter p (range_with_len 0 n)) (n ∷ []) ∙ ap (λ (xs : List ℕ). before ++ xs) (sym more))

pub skip_found : (before into : List ℕ) (p : ℕ → Bool) (n : ℕ) → into ≡ before ++ filter p (range_with_len 0 n) → p n ≡ false → into ≡ before ++ filter p (range_with_len 0 (n + 1))
skip_found before into p n e fail =
    let same : filter p (range_with_len 0 (n + 1)) ≡ filter p (range_with_len 0 n) =
    filter_more p n ∙ (ap (λ (b : Bool). filter p (range_with_len 0 n) ++ cond b (n ∷ []) []) fail ∙ append-nil (filter p (range_with_len 0 n))) in
    e ∙ ap (λ (xs : List ℕ). before ++ xs) (sym same)

ascends_below : (low from before : ℕ) (us : List ℕ) → low ≤ from → Ascends from before us → Ascends low before us
ascends_below low from before [] l h = tt
ascends_below low from before (u ∷ us) l h = let first : from ≤ u = h.0 in (omega (arith, l, first), h.1)

pub filter_ascends : (p : ℕ → Bool) (a n before : ℕ) → a + n ≤ before → Ascends a before (filter p (range_with_len a n))
filter_ascends p a zero before l = tt
filter_ascends p a (suc n) before l =
    let rest : Ascends (a + 1) before (filter p (range_with_len (a + 1) n)) = filter_ascends p (a + 1) n before (omega arith) in
    elim (cases_Bool (p a)) [
      | inl pass ↦ subst (Ascends a before) (sym (cond-true (p a) (a ∷ filter p (range_with_len (a + 1) n)) (filter p (range_with_len (a + 1) n)) pass)) (omega arith, (omega arith, rest))
      | inr fail ↦
          subst (Ascends a before) (sym (cond-false (p a) (a ∷ filter p (range_with_len (a + 1) n)) (filter p (range_with_len (a + 1) n)) fail))
          (ascends_below a (a + 1) before (filter p (range_with_len (a + 1) n)) (omega arith) rest)
    ]

in_more : (a d : ℕ) (xs : List ℕ) → IsIn xs d → IsIn (a ∷ xs) d
in_more a d xs h = (suc h.0, (let l : h.0 < length xs = h.1.0 in omega (arith, l), h.1.1))

pub in_filter : (p : ℕ → Bool) (a n d : ℕ) → a ≤ d → d < a + n → p d ≡ true → IsIn (filter p (range_with_len a n)) d
in_filter p a zero d l m h = absurd (omega arith)
in_filter p a (suc n) d l m h =
    let there : (a ≢ d) → IsIn (filter p (range_with_len (a + 1) n)) d = λ ne. in_filter p (a + 1) n d (let low : a + 1 ≤ d = omega (arith, l, ne) in low) (omega arith) h in
    elim (cases_Bool (p a)) [
      | inl pass ↦
          subst (λ (xs : List ℕ). IsIn xs d) (sym (cond-true (p a) (a ∷ filter p (range_with_len (a + 1) n)) (filter p (range_with_len (a + 1) n)) pass))
          (elim (cases_eq a d) [
            | inl same ↦ (0, (omega arith, same))
            | inr other ↦ in_more a d (filter p (range_with_len (a + 1) n)) (there other)
          ])
      | inr fail ↦
          subst (λ (xs : List ℕ). IsIn xs d) (sym (cond-false (p a) (a ∷ filter p (range_with_len (a + 1) n)) (filter p (range_with_len (a + 1) n)) fail))
          (there (λ e. let both : true ≡ false = sym h ∙ (ap p (sym e) ∙ fail) in cc))
    ]

pub filter_in : (p : ℕ → Bool) (xs : List ℕ) (d : ℕ) → IsIn (filter p xs) d → p d ≡ true
filter_in p xs d h = ap p (sym h.1.1) ∙ All-get_or (λ x. p x ≡ true) (filter p xs) h.0 0 h.1.0 (filter_passes p xs)

pub found_ascend : (s : Setting) (f : Found) (l : ℕ) → Ascends 0 s.destinations (found_on s f l)
found_ascend s f l = filter_ascends (λ k. nat_lt 0 (slice_index f.marks.items (l * s.destinations + k))) 0 s.destinations s.destinations (omega arith)

pub are_lists_of : (s : Setting) (f : Found) (lists : ℕ → List ℕ) → ((l : ℕ) → l < s.links → lists l ≡ found_on s f l) → AreListsOf s f lists
are_lists_of s f lists are l d x m =
    let p : ℕ → Bool = λ k. nat_lt 0 (slice_index f.marks.items (l * s.destinations + k)) in (
      λ found. subst (λ (xs : List ℕ). IsIn xs d) (sym (are l x)) (in_filter (λ k. nat_lt 0 (slice_index f.marks.items (l * s.destinations + k))) 0 s.destinations d (omega arith) (omega arith) (lt-ltb 0 _ found)),
      λ listed. ltb-true 0 _ (filter_in (λ k. nat_lt 0 (slice_index f.marks.items (l * s.destinations + k))) (range_with_len 0 s.destinations) d (subst (λ (xs : List ℕ). IsIn xs d) (are l x) listed)),
    )

-- ---- lists one behind another
front_part : (xs ys : List ℕ) (a b : ℕ) → b ≤ length xs → slice_range (xs ++ ys) a b ≡ slice_range xs a b
front_part xs ys a b l =
    let all : length (xs ++ ys) ≡ length xs + length ys = length-append xs ys in
    let long : length (slice_range (xs ++ ys) a b) ≡ b - a = length-between (xs ++ ys) a b (omega (arith, all, l)) in
    let same : length (slice_range xs a b) ≡ b - a = length-between xs a b l in
    ext_get_or 0 (slice_range (xs ++ ys) a b) (slice_range xs a b) (long ∙ sym same)
    (λ k m. let below : a + k < b = omega (arith, long, m) in
    get_or-between (xs ++ ys) a b k 0 below ∙ (get_or_append_left xs ys 0 (a + k) (omega (arith, below, l)) ∙ sym (get_or-between xs a b k 0 below)))

last_part : (xs ys : List ℕ) (a b : ℕ) → a ≡ length xs → b ≡ length xs + length ys → slice_range (xs ++ ys) a b ≡ ys
last_part xs ys a b e f =
    let all : length (xs ++ ys) ≡ length xs + length ys = length-append xs ys in
    let long : length (slice_range (xs ++ ys) a b) ≡ b - a = length-between (xs ++ ys) a b (omega (arith, all, f)) in
    ext_get_or 0 (slice_range (xs ++ ys) a b) ys (omega (arith, long, e, f))
    (λ k m. let below : a + k < b = omega (arith, long, m) in
    get_or-between (xs ++ ys) a b k 0 below ∙ (ap (λ (z : ℕ). slice_index (xs ++ ys) (z + k)) e ∙ get_or-append-add xs ys k 0))

-- where so many lists begin and the last one ends, and what holds of each
pub record AreParts (starts all : List ℕ) (many : ℕ) (P : ℕ → List ℕ → Type 0) : Type 0 where
  pub long : length starts ≡ many + 1
  pub end : slice_index starts many ≡ length all
  pub rise : (j : ℕ) → j < many → slice_index starts j ≤ slice_index starts (j + 1)
  pub inside : (j : ℕ) → j ≤ many → slice_index starts j ≤ length all
  pub lists : (j : ℕ) → j < many → P j (slice_range all (slice_index starts j) (slice_index starts (j + 1)))

parts_more : (starts all : List ℕ) (many : ℕ) (P : ℕ → List ℕ → Type 0) (ys : List ℕ) → AreParts starts all many P → P many ys → AreParts (starts ++ length (all ++ ys) ∷ []) (all ++ ys) (many + 1) P
parts_more starts all many P ys h one =
    let size : length (all ++ ys) ≡ length all + length ys = length-append all ys in
    let early : (j : ℕ) → j ≤ many → slice_index (starts ++ length (all ++ ys) ∷ []) j ≡ slice_index starts j =
    λ j l. get_or_append_left starts (length (all ++ ys) ∷ []) 0 j (omega (arith, h.long, l)) in
    let last : slice_index (starts ++ length (all ++ ys) ∷ []) (many + 1) ≡ length (all ++ ys) = get_or_push starts (length (all ++ ys)) 0 (many + 1) h.long in
    record {
      long = length_push starts (length (all ++ ys)) ∙ omega (arith, h.long);
      end = last;
      rise = λ j l. elim (cases_lt j many) [
        | inl low ↦ omega (arith, early j (omega (arith, low)), early (j + 1) (omega (arith, low)), h.rise j low)
        | inr high ↦
            let at : j ≡ many = omega (arith, l, high) in
            let here : slice_index (starts ++ length (all ++ ys) ∷ []) j ≡ length all = early j (omega (arith, at)) ∙ (ap (slice_index starts) at ∙ h.end) in
            let next : slice_index (starts ++ length (all ++ ys) ∷ []) (j + 1) ≡ length (all ++ ys) = ap (λ (z : ℕ). slice_index (starts ++ length (all ++ ys) ∷ []) (z + 1)) at ∙ last in
            omega (arith, here, next, size)
      ];
      inside = λ j l. elim (cases_lt many j) [
        | inl past ↦
            let at : j ≡ many + 1 = omega (arith, l, past) in
            let e : slice_index (starts ++ length (all ++ ys) ∷ []) j ≡ length (all ++ ys) = ap (slice_index (starts ++ length (all ++ ys) ∷ [])) at ∙ last in omega (arith, e)
        | inr low ↦ omega (arith, early j low, h.inside j low, size)
      ];
      lists = λ j l. elim (cases_lt j many) [
        | inl low ↦
            subst (P j)
            (sym
            (ap (λ (z : ℕ). slice_range (all ++ ys) z (slice_index (starts ++ length (all ++ ys) ∷ []) (j + 1))) (early j (omega (arith, low)))
            ∙ (ap (λ (z : ℕ). slice_range (all ++ ys) (slice_index starts j) z) (early (j + 1) (omega (arith, low)))
            ∙ front_part all ys (slice_index starts j) (slice_index starts (j + 1)) (h.inside (j + 1) (omega (arith, low)))))) (h.lists j low)
        | inr high ↦
            let at : j ≡ many = omega (arith, l, high) in
            let here : slice_index (starts ++ length (all ++ ys) ∷ []) j ≡ length all = early j (omega (arith, at)) ∙ (ap (slice_index starts) at ∙ h.end) in
            let next : slice_index (starts ++ length (all ++ ys) ∷ []) (j + 1) ≡ length all + length ys = ap (λ (z : ℕ). slice_index (starts ++ length (all ++ ys) ∷ []) (z + 1)) at ∙ (last ∙ size) in
            subst (P j) (sym (last_part all ys (slice_index (starts ++ length (all ++ ys) ∷ []) j) (slice_index (starts ++ length (all ++ ys) ∷ []) (j + 1)) here next))
            (subst (λ (z : ℕ). P z ys) (sym at) one)
      ];
    }

pub parts_on : (starts all starts' all' : List ℕ) (many : ℕ) (P : ℕ → List ℕ → Type 0) (ys : List ℕ) → all' ≡ all ++ ys → starts' ≡ starts ++ length all' ∷ [] → AreParts starts all many P → P many ys → AreParts starts' all' (many + 1) P
parts_on starts all starts' all' many P ys e g h one =
    let same : starts' ≡ starts ++ length (all ++ ys) ∷ [] = g ∙ ap (λ (xs : List ℕ). starts ++ length xs ∷ []) e in
    subst (λ (xs : List ℕ). AreParts xs all' (many + 1) P) (sym same) (subst (λ (zs : List ℕ). AreParts (starts ++ length (all ++ ys) ∷ []) zs (many + 1) P) (sym e) (parts_more starts all many P ys h one))
