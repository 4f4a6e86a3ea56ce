-- What keeps the rule of a board.
use Rattle.std.proofs.Common.{◌≡◌, ◌≢◌, ◌+◌, ℕ, List, [], ◌∷◌, ◌++◌, length, fold, set, map, refl, sym, ap, ◌∙◌, subst, ⊎_elim}
use mathlib.Core.List.{IsPrefix}
use mathlib.Core.Option.{some}
use lib.ListN.{get_elem?}
use Rattle.atomic_table.proofs.Lists.{at_set, at_snoc}
use Rattle.crossbeam_utils.specs.Register.{Admits, Turns, TurnsAt, Forks, Merges}
use Rattle.ltm_board.specs.declared.panel.Panel.{Panel}
use Rattle.ltm_board.specs.declared.panel.Posting.{Posting}
use Rattle.ltm_board.specs.declared.glimpse.Glimpse.{Glimpse}
use Rattle.ltm_board.specs.Glimpses.{newcomer}
use Rattle.ltm_board.specs.Sheets.{SheetData}
use Rattle.ltm_board.specs.Lists.{PostData, list_of, entries_of_posts, entries_of_batches, IsSheetAfter}
use Rattle.ltm_board.specs.Panels.{posts_of, IsRight, AllKeep}
use Rattle.ltm_board.specs.Rule.{Keeps, Looked}
use Rattle.ltm_board.proofs.Lists.{itself, begins_trans}
use Rattle.ltm_board.proofs.Posts.{Shown, shown_of, applied, IsNext, now_shown}

-- what is shown may become longer, if it is right
pub rises : (seat : ℕ) (v : Glimpse) (x y : Panel) → IsRight y → IsPrefix (posts_of x) (posts_of y) → TurnsAt Keeps seat v x y Looked
rises seat v x y right up views h at =
    let w : Glimpse = record { seen = posts_of y } in (
      w,
      (
        right,
        λ j u e. ⊎_elim
            (λ p. subst (λ (z : Glimpse). IsPrefix z.seen (posts_of y)) p.1 (itself (posts_of y)))
            (λ p. begins_trans u.seen (posts_of x) (posts_of y) (h.1 j u p.1) up)
            (at_set views seat j w u e),
      ),
      (right, refl, begins_trans v.seen (posts_of x) (posts_of y) (h.1 seat v at) up),
    )

-- who looks changes nothing
pub looks : (seat : ℕ) (v : Glimpse) → Turns Keeps seat v (λ x. x) Looked
looks seat v x views h at = rises seat v x x h.0 (itself (posts_of x)) views h at

-- what is shown with nothing posted
pub shows_same : (seat : ℕ) (v : Glimpse) (x next : Panel) → ◌≡◌ {A = Shown} (shown_of next) (shown_of x) → TurnsAt Keeps seat v x next Looked
shows_same seat v x next is views h at =
    let posts : posts_of x ≡ posts_of next = ap (λ (p : Shown). list_of p.0 [] ∷ map entries_of_batches p.1) (sym is) in
    let sheet : x.sheet ≡ next.sheet = ap (λ (p : Shown). p.3) (sym is) in
    let right : IsRight next = record {
      sheet = subst (λ (l : List PostData). IsSheetAfter (entries_of_posts l) next.sheet) posts (subst (λ (z : SheetData). IsSheetAfter (entries_of_posts (posts_of x)) z) sheet h.0.sheet);
      count = ap (λ (p : Shown). p.2 + 1) is ∙ (h.0.count ∙ ap (λ (l : List PostData). length (entries_of_posts l)) posts);
    } in
    rises seat v x next right (subst (λ l. IsPrefix (posts_of x) l) posts (itself (posts_of x))) views h at

-- what a posting shows, behind others that were left
pub shows : (seat : ℕ) (v : Glimpse) (x next : Panel) (ops : List Posting) (op : Posting) → AllKeep (length x.posts.items) ops → IsNext x op
    → ◌≡◌ {A = Shown} (shown_of next) (fold applied (shown_of x) (ops ++ op ∷ [])) → TurnsAt Keeps seat v x next Looked
shows seat v x next ops op keeps is same =
    let now = now_shown x next ops op keeps is same in
    rises seat v x next now.right (entries_of_batches op.batches.items ∷ [], sym now.posts)

-- a view that is set keeps the rule where what is shown begins with what it has seen
set_keeps : (x : Panel) (views : List Glimpse) (seat : ℕ) (v : Glimpse) → Keeps x views → IsPrefix v.seen (posts_of x) → Keeps x (set views seat v)
set_keeps x views seat v h low =
    (h.0, λ j u e. ⊎_elim (λ (t : (j ≡ seat) × (v ≡ u)). subst (λ (z : Glimpse). IsPrefix z.seen (posts_of x)) t.1 low) (λ (t : (j ≢ seat) × (get_elem? views j ≡ some u)). h.1 j u t.1) (at_set views seat j v u e))

none_seen : (posts : List PostData) → IsPrefix [] posts
none_seen posts = (posts, refl)

snoc_keeps : (x : Panel) (views : List Glimpse) (v : Glimpse) → Keeps x views → IsPrefix v.seen (posts_of x) → Keeps x (views ++ v ∷ [])
snoc_keeps x views v h low = (h.0, λ j u e. ⊎_elim (h.1 j u) (λ (same : v ≡ u). subst (λ (z : Glimpse). IsPrefix z.seen (posts_of x)) same low) (at_snoc views v u j e))

pub admits : Admits Keeps newcomer
admits x views h = snoc_keeps x views newcomer h (none_seen (posts_of x))

pub first : (x : Panel) → IsRight x → Keeps x (newcomer ∷ [])
first x right = snoc_keeps x [] newcomer (right, λ j u e. absurd (cc)) (none_seen (posts_of x))

pub forks : (seat : ℕ) (v : Glimpse) → Forks Keeps seat v v v
forks seat v x views h at = snoc_keeps x (set views seat v) v (set_keeps x views seat v h (h.1 seat v at)) (h.1 seat v at)

pub merges : (seat : ℕ) (v : Glimpse) (other : ℕ) (w : Glimpse) → Merges Keeps seat v other w w newcomer
merges seat v other w x views h at apart there =
    let b : IsPrefix w.seen (posts_of x) = ⊎_elim (λ (t : (other ≡ seat) × (w ≡ w)). absurd (apart t.0)) (λ (t : (other ≢ seat) × (get_elem? views other ≡ some w)). h.1 other w t.1) (at_set views seat other w w there) in
    set_keeps x (set views seat w) other newcomer (set_keeps x views seat w h b) (none_seen (posts_of x))
