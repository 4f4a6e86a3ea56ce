-- What is shown after a posting that is put behind others that were left.
use Rattle.std.proofs.Common.{◌≡◌, ◌+◌, ℕ, List, [], ◌∷◌, ◌++◌, length, map, take, fold, refl, sym, ap, ◌∙◌, subst}
use Rattle.std.specs.Prelude.{Result, Ok, Err, OnOk, OnErr, MatchResult}
use Rattle.std.proofs.lemmas.List.{map-append, length-map}
use Rattle.ltm_scenario.specs.declared.edit.Edit.{Edit}
use Rattle.ltm_scenario.specs.Data.{ScenarioData}
use Rattle.ltm_board.specs.declared.panel.Panel.{Panel}
use Rattle.ltm_board.specs.declared.panel.Posting.{Posting}
use Rattle.ltm_scenario.specs.Makes.{EditsMake}
use Rattle.ltm_board.specs.Sheets.{SheetData, links_on}
use Rattle.ltm_board.specs.Lists.{PostData, list_of, opening_of, entries_of_posts, entries_of_batches, IsSheetAfter}
use Rattle.ltm_board.specs.Panels.{batches_in, posts_of, IsRight, AllKeep}
use Rattle.ltm_board.proofs.Lists.{append_nil, none_taken, joined_more}
use Rattle.ltm_board.proofs.Right.{links_stay}

abbrev pub Batches : Type 0
Batches = List (List Edit)

abbrev pub Shown : Type 0
Shown = ScenarioData × List Batches × ℕ × SheetData

abbrev pub shown_of : Panel → Shown
shown_of p = (p.opening.value, batches_in p.posts.items, p.count, p.sheet)

abbrev pub applied : Shown → Posting → Shown
applied st op = (st.0, take op.keeps st.1 ++ op.batches.items ∷ [], op.count, op.sheet)

kept : (list more : List Batches) → take (length list) (list ++ more) ≡ list
kept [] more = none_taken more
kept (x ∷ xs) more = ap (λ l. x ∷ l) (kept xs more)

record Keep (n : ℕ) (o : Posting) (os : List Posting) : Type 0 where
  pub first : o.keeps ≡ n
  pub others : AllKeep n os

keep : (n : ℕ) (o : Posting) (os : List Posting) → AllKeep n (o ∷ os) → Keep n o os
keep n o os h = record { first = (cc); others = (cc) }

posted : (s : ScenarioData) (list more : List Batches) (count : ℕ) (sheet : SheetData) (ops : List Posting) (op : Posting) → AllKeep (length list) ops → op.keeps ≡ length list
    → ◌≡◌ {A = Shown} (fold applied (s, list ++ more, count, sheet) (ops ++ op ∷ [])) (s, list ++ op.batches.items ∷ [], op.count, op.sheet)
posted s list more count sheet [] op hs c =
    ap (λ (n : ℕ). (s, take n (list ++ more) ++ op.batches.items ∷ [], op.count, op.sheet)) c ∙ ap (λ (l : List Batches). (s, l ++ op.batches.items ∷ [], op.count, op.sheet)) (kept list more)
posted s list more count sheet (p ∷ ps) op hs c =
    let h = keep (length list) p ps hs in
    ap (λ (n : ℕ). fold applied (s, take n (list ++ more) ++ p.batches.items ∷ [], p.count, p.sheet) (ps ++ op ∷ [])) h.first
    ∙ (ap (λ (l : List Batches). fold applied (s, l ++ p.batches.items ∷ [], p.count, p.sheet) (ps ++ op ∷ [])) (kept list more)
    ∙ posted s list (p.batches.items ∷ []) p.count p.sheet ps op h.others c)

all_keep_more : (n : ℕ) (ops : List Posting) (op : Posting) → AllKeep n ops → op.keeps ≡ n → AllKeep n (ops ++ op ∷ [])
all_keep_more n [] op h c = ap (λ (m : ℕ). m ∷ []) c
all_keep_more n (o ∷ os) op h c = let k = keep n o os h in let r = all_keep_more n os op k.others c in λ i. k.first i ∷ r i

-- a posting that is right behind what is shown
pub record IsNext (x : Panel) (op : Posting) : Type 0 where
  pub keeps : op.keeps ≡ length x.posts.items
  pub sheet : IsSheetAfter (entries_of_posts (posts_of x) ++ entries_of_batches op.batches.items) op.sheet
  pub count : op.count + 1 ≡ length (entries_of_posts (posts_of x) ++ entries_of_batches op.batches.items)

pub next_of : (x : Panel) (op : Posting) (batches : Batches) (count : ℕ) (sheet : SheetData) → op.keeps ≡ length x.posts.items → op.batches.items ≡ batches → op.count ≡ count → op.sheet ≡ sheet
    → IsSheetAfter (entries_of_posts (posts_of x) ++ entries_of_batches batches) sheet → count + 1 ≡ length (entries_of_posts (posts_of x) ++ entries_of_batches batches) → IsNext x op
next_of x op batches count sheet k b n s right counted = record {
  keeps = k;
  sheet = subst (λ (l : Batches). IsSheetAfter (entries_of_posts (posts_of x) ++ entries_of_batches l) op.sheet) (sym b) (subst (λ (z : SheetData). IsSheetAfter (entries_of_posts (posts_of x) ++ entries_of_batches batches) z) (sym s) right);
  count = ap (λ m. m + 1) n ∙ (counted ∙ ap (λ (l : Batches). length (entries_of_posts (posts_of x) ++ entries_of_batches l)) (sym b));
}

-- what is shown then
pub record Now (x next : Panel) (op : Posting) : Type 0 where
  pub posts : posts_of next ≡ posts_of x ++ entries_of_batches op.batches.items ∷ []
  pub opening : opening_of (posts_of next) ≡ opening_of (posts_of x)
  pub sheet : IsSheetAfter (entries_of_posts (posts_of x) ++ entries_of_batches op.batches.items) next.sheet
  pub right : IsRight next

same_first : (x : PostData) (xs ys : List PostData) → opening_of (x ∷ xs) ≡ opening_of (x ∷ ys)
same_first x xs ys = ap (λ l. x ∷ l) (none_taken xs ∙ sym (none_taken ys))

pub now_shown : (x next : Panel) (ops : List Posting) (op : Posting) → AllKeep (length x.posts.items) ops → IsNext x op
    → ◌≡◌ {A = Shown} (shown_of next) (fold applied (shown_of x) (ops ++ op ∷ [])) → Now x next op
now_shown x next ops op keeps is same =
    let s : ScenarioData = x.opening.value in
    let list : List Batches = batches_in x.posts.items in
    let long : length x.posts.items ≡ length list = sym (length-map x.posts.items (λ v. v.items)) in
    let e : ◌≡◌ {A = Shown} (shown_of next) (s, list ++ op.batches.items ∷ [], op.count, op.sheet) =
    same ∙ (ap (λ (l : List Batches). fold applied (s, l, x.count, x.sheet) (ops ++ op ∷ [])) (sym (append_nil list))
    ∙ posted s list [] x.count x.sheet ops op (subst (λ n. AllKeep n ops) long keeps) (is.keeps ∙ long)) in
    let posts : posts_of next ≡ posts_of x ++ entries_of_batches op.batches.items ∷ [] =
    ap (λ (p : Shown). list_of p.0 [] ∷ map entries_of_batches p.1) e ∙ ap (λ (l : List PostData). list_of s [] ∷ l) (map-append entries_of_batches list (op.batches.items ∷ [])) in
    let all : entries_of_posts (posts_of next) ≡ entries_of_posts (posts_of x) ++ entries_of_batches op.batches.items = ap entries_of_posts posts ∙ joined_more (posts_of x) (entries_of_batches op.batches.items) in
    let sheet : next.sheet ≡ op.sheet = ap (λ (p : Shown). p.3) e in
    let behind : IsSheetAfter (entries_of_posts (posts_of x) ++ entries_of_batches op.batches.items) next.sheet = subst (λ (z : SheetData). IsSheetAfter (entries_of_posts (posts_of x) ++ entries_of_batches op.batches.items) z) (sym sheet) is.sheet in
    let count : next.count ≡ op.count = ap (λ (p : Shown). p.2) e in record {
      posts = posts;
      opening = ap opening_of posts ∙ same_first (list_of s []) (map entries_of_batches list ++ entries_of_batches op.batches.items ∷ []) (map entries_of_batches list);
      sheet = behind;
      right = record {
        sheet = subst (λ l. IsSheetAfter l next.sheet) (sym all) behind;
        count = ap (λ n. n + 1) count ∙ (is.count ∙ ap length (sym all));
      };
    }

-- what is shown after a try, and what waits
pub record After {A B : Type 0} (r : Result A B) (x y : Panel) (ops : List Posting) (op : Posting) : Type 0 where
  pub right : IsRight y
  pub keeps : AllKeep (length y.posts.items) ops
  pub ok : OnOk r (posts_of y ≡ posts_of x ++ entries_of_batches op.batches.items ∷ [])
  pub err : OnErr r (y ≡ x)
  pub opening : opening_of (posts_of y) ≡ opening_of (posts_of x)
  pub links : EditsMake → links_on y.sheet ≡ links_on x.sheet

after : {A B : Type 0} (r : Result A B) (x y : Panel) (ops left : List Posting) (op : Posting) → IsRight x → AllKeep (length x.posts.items) ops → IsNext x op
    → MatchResult r (λ _. (◌≡◌ {A = Shown} (shown_of y) (fold applied (shown_of x) (ops ++ op ∷ []))) × (left ≡ [])) (λ _. (y ≡ x) × (left ≡ ops ++ op ∷ [])) → After r x y left op
after (Ok a) x y ops left op right keeps is h = let now = now_shown x y ops op keeps is h.0 in record {
  right = now.right;
  keeps = subst (λ (l : List Posting). AllKeep (length y.posts.items) l) (sym h.1) refl;
  ok = now.posts;
  err = tt;
  opening = now.opening;
  links = λ make. links_stay make (entries_of_posts (posts_of x)) (entries_of_batches op.batches.items) x.sheet y.sheet right.sheet now.sheet;
}
after (Err b) x y ops left op right keeps is h = record {
  right = subst (λ (z : Panel). IsRight z) (sym h.0) right;
  keeps = subst (λ (z : Panel). AllKeep (length z.posts.items) left) (sym h.0) (subst (λ (l : List Posting). AllKeep (length x.posts.items) l) (sym h.1) (all_keep_more (length x.posts.items) ops op keeps is.keeps));
  ok = tt;
  err = h.0;
  opening = ap (λ (p : Panel). opening_of (posts_of p)) h.0;
  links = λ make. ap (λ (p : Panel). links_on p.sheet) h.0;
}

-- the same, in the words of what was found after the append
pub after_append : {A B : Type 0} (r : Result A B) (x x' y : Panel) (ops waiting left : List Posting) (op : Posting) → x' ≡ x → waiting ≡ ops ++ op ∷ [] → IsRight x → AllKeep (length x.posts.items) ops → IsNext x op
    → MatchResult r (λ _. (◌≡◌ {A = Shown} (shown_of y) (fold applied (shown_of x') waiting)) × (left ≡ [])) (λ _. (y ≡ x') × (left ≡ waiting)) → After r x y left op
after_append (Ok a) x x' y ops waiting left op e f right keeps is h = after (Ok a) x y ops left op right keeps is (h.0 ∙ (λ i. fold applied (shown_of (e i)) (f i)), h.1)
after_append (Err b) x x' y ops waiting left op e f right keeps is h = after (Err b) x y ops left op right keeps is (h.0 ∙ e, h.1 ∙ f)

-- ---- the opening alone
pub opens_right : (s : ScenarioData) (x : Panel) (sheet : SheetData) → x.opening.value ≡ s → x.posts.items ≡ [] → x.count ≡ 0 → x.sheet ≡ sheet → IsSheetAfter (list_of s []) sheet → IsRight x
opens_right s x sheet opening none zero same right =
    let posts : posts_of x ≡ list_of s [] ∷ [] = λ i. list_of (opening i) [] ∷ map entries_of_batches (batches_in (none i)) in record {
      sheet = subst (λ (l : List PostData). IsSheetAfter (entries_of_posts l) x.sheet) (sym posts) (subst (λ (z : SheetData). IsSheetAfter (list_of s []) z) (sym same) right);
      count = ap (λ n. n + 1) zero ∙ ap (λ (l : List PostData). length (entries_of_posts l)) (sym posts);
    }
