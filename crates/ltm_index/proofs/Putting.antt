-- A slot that stands in no list of its link is put first in one, and nothing else changes.
use Rattle.std.proofs.Common.{◌≡◌, ◌≢◌, ℕ, suc, ◌+◌, ◌<◌, ◌≤◌, ◌==◌, cond, ◌∷◌, length, refl, sym, ap, subst, ◌∙◌, inl, inr, eq-eqb, arith}
use Rattle.std.proofs.lemmas.Bool.{cases_eq, ne_eqb}
use Rattle.ltm_index.specs.declared.cells.Cell.{Cell}
use Rattle.ltm_index.specs.declared.cells.Cells.{Cells}
use Rattle.ltm_index.specs.Chains.{times, IsChain}
use Rattle.ltm_index.specs.Cells.{cell_at, first_at, next_at, previous_at, entry_at, after_at, list_at, SameShape, PutsCell, AreLists, SetsBefore, PutsFirst}
use Rattle.ltm_index.proofs.Chaining.{Into, Heads, chain_head, chain_same, first_is, few_below, times_here, times_past}
use Rattle.ltm_index.proofs.Writes.{field_same}
use Rattle.ltm_index.proofs.Linked.{both_eq, stands_nowhere, entry_of_one, at_most_once, list_is, list_short}

-- a boundary leads on to a slot, which leads on to the slot that was first, which leads back to it
record LinksFirst (old new : Cells) (l v k : ℕ) : Type 0 where
  shape : SameShape old new
  first : first_at new l k ≡ suc v
  next : next_at new l v ≡ first_at old l k
  before : previous_at new l v ≡ 0
  back : (w : ℕ) → w ≢ v → suc w ≡ first_at old l k → previous_at new l w ≡ suc v
  firsts : (m j : ℕ) → m < old.links → (m ≡ l → j ≡ k → ⊥) → first_at new m j ≡ first_at old m j
  nexts : (m w : ℕ) → m < old.links → (m ≡ l → w ≡ v → ⊥) → next_at new m w ≡ next_at old m w
  befores : (m w : ℕ) → m < old.links → (m ≡ l → w ≡ v → ⊥) → (m ≡ l → suc w ≡ first_at old l k → ⊥) → previous_at new m w ≡ previous_at old m w
  entry : entry_at new l v ≡ suc k
  entries : (m w : ℕ) → m < old.links → (m ≡ l → w ≡ v → ⊥) → entry_at new m w ≡ entry_at old m w

links_first : (c d e f : Cells) (l v k first pointer entry : ℕ) (slot boundary : Cell) → l < c.links → pointer ≡ v + 1 → entry ≡ k + 1 → first ≡ first_at c l k → SetsBefore c d l first pointer → slot ≡ cell_at d l v → PutsCell d e l v (record slot { next = first; previous = 0; entry = entry }) → boundary ≡ cell_at e l k → PutsCell e f l k (record boundary { first = pointer }) → LinksFirst c f l v k
links_first c d e f l v k first pointer entry slot boundary link to_slot to_boundary is_first back is_slot puts is_boundary heads =
    let in_d : (m : ℕ) → m < c.links → m < d.links = λ m lt. omega (arith, back.shape.links) in
    let in_e : (m : ℕ) → m < c.links → m < e.links = λ m lt. omega (arith, back.shape.links, puts.shape.links) in
    let next_kept : (m w : ℕ) → m < c.links → next_at f m w ≡ next_at e m w = λ m w lt. field_same e f l k _ (λ x. x.next) heads (ap (λ x. x.next) is_boundary) m w (in_e m lt) in
    let previous_kept : (m w : ℕ) → m < c.links → previous_at f m w ≡ previous_at e m w = λ m w lt. field_same e f l k _ (λ x. x.previous) heads (ap (λ x. x.previous) is_boundary) m w (in_e m lt) in
    let entry_kept : (m w : ℕ) → m < c.links → entry_at f m w ≡ entry_at e m w = λ m w lt. field_same e f l k _ (λ x. x.entry) heads (ap (λ x. x.entry) is_boundary) m w (in_e m lt) in
    record {
      shape = record { links = heads.shape.links ∙ (puts.shape.links ∙ back.shape.links); room = heads.shape.room ∙ (puts.shape.room ∙ back.shape.room) };
      first = ap (λ x. x.first) heads.here ∙ omega (arith, to_slot);
      next = next_kept l v link ∙ (ap (λ x. x.next) puts.here ∙ is_first);
      before = previous_kept l v link ∙ ap (λ x. x.previous) puts.here;
      back = λ w other is. previous_kept l w link ∙ (ap (λ x. x.previous) (puts.others l w (in_d l link) (λ _ e. other e)) ∙ (back.here w (is ∙ sym is_first) ∙ omega (arith, to_slot)));
      firsts = λ m j lt apart. ap (λ x. x.first) (heads.others m j (in_e m lt) apart) ∙ (field_same d e l v _ (λ x. x.first) puts (ap (λ x. x.first) is_slot) m j (in_d m lt) ∙ back.firsts m j lt);
      nexts = λ m w lt apart. next_kept m w lt ∙ (ap (λ x. x.next) (puts.others m w (in_d m lt) apart) ∙ back.nexts m w lt);
      befores = λ m w lt apart other. previous_kept m w lt ∙ (ap (λ x. x.previous) (puts.others m w (in_d m lt) apart) ∙ back.previous m w lt (λ x y. other x (y ∙ is_first)));
      entry = entry_kept l v link ∙ (ap (λ x. x.entry) puts.here ∙ omega (arith, to_boundary));
      entries = λ m w lt apart. entry_kept m w lt ∙ (ap (λ x. x.entry) (puts.others m w (in_d m lt) apart) ∙ back.entries m w lt);
    }

-- ---- the chain of each list
stands_apart : (old : Cells) (l v j x : ℕ) → AreLists old → l < old.links → entry_at old l v ≡ 0 → 1 ≤ times x (list_at old l j) → x ≢ v
stands_apart old l v j x lists link free some same =
    let a : entry_at old l x ≡ suc j = entry_of_one old l j x lists link some in
    omega (arith, a, free, ap (entry_at old l) same)

own_chain : (old new : Cells) (l v k : ℕ) → AreLists old → l < old.links → entry_at old l v ≡ 0 → LinksFirst old new l v k → IsChain (after_at new l k) (previous_at new l) 0 (v ∷ list_at old l k)
own_chain old new l v k lists link free put =
    let heads : Heads (after_at old l k) (previous_at old l) (after_at new l k) (previous_at new l) v = record {
      first = put.first;
      next = put.next;
      before = put.before;
      afters = λ x other. put.nexts l x link (λ _ e. other e);
      back = put.back;
      befores = λ x other apart. put.befores l x link (λ _ e. other e) (λ _ e. apart e);
    } in
    chain_head (after_at old l k) (previous_at old l) (after_at new l k) (previous_at new l) v (list_at old l k) heads (λ x. at_most_once old l k x lists link) (stands_nowhere old l k v lists link (λ e. omega (arith, e, free))) (lists.chained l k link)

not_the_first : (old : Cells) (l k j x : ℕ) → AreLists old → l < old.links → j ≢ k → 1 ≤ times x (list_at old l j) → suc x ≢ first_at old l k
unfolding Into
not_the_first old l k j x lists link other some is =
    elim (first_is (after_at old l k) (previous_at old l) 0 (list_at old l k) (lists.chained l k link)) [
      | inl none ↦ let e : first_at old l k ≡ 0 = none in omega (arith, is, e)
      | inr found ↦
          let first : first_at old l k ≡ suc found.0 = found.1 in
          let same : x ≡ found.0 = omega (arith, is, first) in
          let a : entry_at old l x ≡ suc j = entry_of_one old l j x lists link some in
          let b : entry_at old l found.0 ≡ suc k = entry_of_one old l k found.0 lists link found.2 in
          let e : suc j ≡ suc k = sym a ∙ (ap (entry_at old l) same ∙ b) in
          other (omega (arith, e))
    ]

other_chain : (old new : Cells) (l v k m j : ℕ) → AreLists old → m < old.links → l < old.links → entry_at old l v ≡ 0 → LinksFirst old new l v k → (m ≡ l → j ≡ k → ⊥) → IsChain (after_at new m j) (previous_at new m) 0 (list_at old m j)
other_chain old new l v k m j lists lt link free put other =
    let at_link : (x : ℕ) → 1 ≤ times x (list_at old m j) → m ≡ l → 1 ≤ times x (list_at old l j) = λ x some e. subst (λ u. 1 ≤ times x (list_at old u j)) e some in
    let apart : (x : ℕ) → 1 ≤ times x (list_at old m j) → m ≡ l → x ≡ v → ⊥ = λ x some e. stands_apart old l v j x lists link free (at_link x some e) in
    chain_same (after_at old m j) (previous_at old m) (after_at new m j) (previous_at new m) 0 (list_at old m j) (put.firsts m j lt other)
    (λ x some. put.nexts m x lt (apart x some))
    (λ x some. put.befores m x lt (apart x some) (λ e. not_the_first old l k j x lists link (other e) (at_link x some e)))
    (lists.chained m j lt)

-- ---- what the lists are
-- the slots of the list are different and below the room, so the list with one more is still short enough
one_more_fits : (old : Cells) (l v k : ℕ) → AreLists old → l < old.links → v < old.room → entry_at old l v ≡ 0 → length (v ∷ list_at old l k) ≤ old.room
one_more_fits old l v k lists link below free =
    let none : times v (list_at old l k) ≡ 0 = stands_nowhere old l k v lists link (λ e. omega (arith, e, free)) in
    few_below old.room (v ∷ list_at old l k)
    (λ x. elim (cases_eq v x) [
      | inl same ↦ let t : times x (list_at old l k) ≡ 0 = ap (λ u. times u (list_at old l k)) (sym same) ∙ none in omega (arith, times_here x v (list_at old l k) same)
      | inr other ↦ omega (arith, times_past x v (list_at old l k) other, at_most_once old l k x lists link)
    ])
    (λ x high.
    let other : v ≢ x = λ e. omega arith in
    times_past x v (list_at old l k) other ∙ stands_nowhere old l k x lists link (λ e. omega (arith, e, lists.unset l x link high)))

puts_first : (old new : Cells) (l v k : ℕ) → AreLists old → l < old.links → v < old.room → entry_at old l v ≡ 0 → LinksFirst old new l v k → PutsFirst old new l v k
puts_first old new l v k lists link below free put =
    record {
      shape = put.shape;
      list = list_is new l k (v ∷ list_at old l k) (own_chain old new l v k lists link free put) (let fits : length (v ∷ list_at old l k) ≤ old.room = one_more_fits old l v k lists link below free in omega (arith, fits, put.shape.room));
      other_lists = λ m j lt other. list_is new m j (list_at old m j) (other_chain old new l v k m j lists lt link free put other) (omega (arith, list_short old m j, put.shape.room));
      entry = put.entry;
      entries = put.entries;
    }

chained_now : (old new : Cells) (l v k m j : ℕ) → AreLists old → l < old.links → m < old.links → entry_at old l v ≡ 0 → LinksFirst old new l v k → PutsFirst old new l v k → IsChain (after_at new m j) (previous_at new m) 0 (list_at new m j)
chained_now old new l v k m j lists link lt free put puts =
    elim (both_eq m l j k) [
      | inl same ↦
          subst (λ x. IsChain (after_at new x j) (previous_at new x) 0 (list_at new x j)) (sym same.0)
          (subst (λ i. IsChain (after_at new l i) (previous_at new l) 0 (list_at new l i)) (sym same.1)
          (subst (λ xs. IsChain (after_at new l k) (previous_at new l) 0 xs) (sym puts.list) (own_chain old new l v k lists link free put)))
      | inr other ↦ subst (λ xs. IsChain (after_at new m j) (previous_at new m) 0 xs) (sym (puts.other_lists m j lt other)) (other_chain old new l v k m j lists lt link free put other)
    ]

own_entered : (old new : Cells) (l v k w : ℕ) → AreLists old → l < old.links → entry_at old l v ≡ 0 → PutsFirst old new l v k → times w (list_at new l k) ≡ cond (entry_at new l w == suc k) 1 0
own_entered old new l v k w lists link free puts =
    elim (cases_eq v w) [
      | inl same ↦
          let none : times w (list_at old l k) ≡ 0 = ap (λ u. times u (list_at old l k)) (sym same) ∙ stands_nowhere old l k v lists link (λ e. omega (arith, e, free)) in
          let entry : entry_at new l w ≡ suc k = ap (entry_at new l) (sym same) ∙ puts.entry in
          let one : 1 + times w (list_at old l k) ≡ 1 = omega (arith, none) in
          ap (times w) puts.list ∙ (times_here w v (list_at old l k) same ∙ (one ∙ sym (rw (eq-eqb (entry_at new l w) (suc k) entry) refl)))
      | inr other ↦
          let kept : entry_at new l w ≡ entry_at old l w = puts.entries l w link (λ _ e. other (sym e)) in
          ap (times w) puts.list ∙ (times_past w v (list_at old l k) other ∙ (lists.entered l k w link ∙ ap (λ x. cond (x == suc k) 1 0) (sym kept)))
    ]

other_entered : (old new : Cells) (l v k m j w : ℕ) → AreLists old → l < old.links → m < old.links → entry_at old l v ≡ 0 → PutsFirst old new l v k → (m ≡ l → j ≡ k → ⊥) → times w (list_at new m j) ≡ cond (entry_at new m w == suc j) 1 0
other_entered old new l v k m j w lists link lt free puts other =
    elim (both_eq m l w v) [
      | inl same ↦
          let was : entry_at old m w ≡ 0 = ap (λ x. entry_at old x w) same.0 ∙ (ap (entry_at old l) same.1 ∙ free) in
          let entry : entry_at new m w ≡ suc k = ap (λ x. entry_at new x w) same.0 ∙ (ap (entry_at new l) same.1 ∙ puts.entry) in
          ap (times w) (puts.other_lists m j lt other) ∙ (stands_nowhere old m j w lists lt (λ e. omega (arith, e, was)) ∙ sym (rw (ne_eqb (entry_at new m w) (suc j) (λ e. other same.0 (omega (arith, e, entry)))) refl))
      | inr apart ↦
          ap (times w) (puts.other_lists m j lt other) ∙ (lists.entered m j w lt ∙ ap (λ x. cond (x == suc j) 1 0) (sym (puts.entries m w lt apart)))
    ]

entered_now : (old new : Cells) (l v k m j w : ℕ) → AreLists old → l < old.links → m < old.links → entry_at old l v ≡ 0 → PutsFirst old new l v k → times w (list_at new m j) ≡ cond (entry_at new m w == suc j) 1 0
entered_now old new l v k m j w lists link lt free puts =
    elim (both_eq m l j k) [
      | inl same ↦
          subst (λ x. times w (list_at new x j) ≡ cond (entry_at new x w == suc j) 1 0) (sym same.0)
          (subst (λ i. times w (list_at new l i) ≡ cond (entry_at new l w == suc i) 1 0) (sym same.1) (own_entered old new l v k w lists link free puts))
      | inr other ↦ other_entered old new l v k m j w lists link lt free puts other
    ]

pub put : (c d e f : Cells) (l v k first pointer entry : ℕ) (slot boundary : Cell) → AreLists c → l < c.links → v < c.room → entry_at c l v ≡ 0 → pointer ≡ v + 1 → entry ≡ k + 1 → first ≡ first_at c l k → SetsBefore c d l first pointer → slot ≡ cell_at d l v → PutsCell d e l v (record slot { next = first; previous = 0; entry = entry }) → boundary ≡ cell_at e l k → PutsCell e f l k (record boundary { first = pointer }) → AreLists f × PutsFirst c f l v k
put c d e f l v k first pointer entry slot boundary lists link below free to_slot to_boundary is_first back is_slot puts is_boundary heads =
    let linked : LinksFirst c f l v k = links_first c d e f l v k first pointer entry slot boundary link to_slot to_boundary is_first back is_slot puts is_boundary heads in
    let placed : PutsFirst c f l v k = puts_first c f l v k lists link below free linked in
    let in_c : (m : ℕ) → m < f.links → m < c.links = λ m lt. omega (arith, placed.shape.links) in (
      record {
        chained = λ m j lt. chained_now c f l v k m j lists link (in_c m lt) free linked placed;
        entered = λ m j w lt. entered_now c f l v k m j w lists link (in_c m lt) free placed;
        unset = λ m w lt past. placed.entries m w (in_c m lt) (λ _ e. omega (arith, e, placed.shape.room)) ∙ lists.unset m w (in_c m lt) (omega (arith, placed.shape.room));
      },
      placed,
    )
