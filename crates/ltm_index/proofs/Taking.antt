-- A slot that is cut out of its chain is taken out of every list of its link, and nothing else changes.
use Rattle.std.proofs.Common.{◌≡◌, ◌≢◌, ◌⊎◌, ℕ, zero, suc, ◌<◌, ◌≤◌, ◌==◌, cond, refl, sym, ap, subst, ◌∙◌, inl, inr, arith}
use Rattle.std.proofs.lemmas.Bool.{cases_eq, ne_eqb}
use Rattle.ltm_index.specs.declared.cells.Cell.{Cell}
use Rattle.ltm_index.specs.declared.cells.Cells.{Cells}
use Rattle.ltm_index.specs.Chains.{times, without, IsChain}
use Rattle.ltm_index.specs.Cells.{cell_at, first_at, next_at, previous_at, entry_at, after_at, list_at, SameShape, PutsCell, AreLists, SetsAfter, SetsBefore, TakesOut}
use Rattle.ltm_index.proofs.Chaining.{Into, Cuts, chain_cut, chain_same, next_is, previous_is, without_none, length-without, times-without_same, times-without_other}
use Rattle.ltm_index.proofs.Writes.{field_same}
use Rattle.ltm_index.proofs.Linked.{both_eq, stands_once, stands_nowhere, entry_of_one, at_most_once, list_is, list_short}

-- what stood before a slot leads on to what followed it, which leads back
record Unlinks (old new : Cells) (l v k : ℕ) : Type 0 where
  shape : SameShape old new
  here : after_at new l k (previous_at old l v) ≡ next_at old l v
  firsts : (m j : ℕ) → m < old.links → (m ≡ l → j ≡ k → previous_at old l v ≡ 0 → ⊥) → first_at new m j ≡ first_at old m j
  nexts : (m w : ℕ) → m < old.links → (m ≡ l → suc w ≡ previous_at old l v → ⊥) → next_at new m w ≡ next_at old m w
  back : (w : ℕ) → suc w ≡ next_at old l v → previous_at new l w ≡ previous_at old l v
  befores : (m w : ℕ) → m < old.links → (m ≡ l → suc w ≡ next_at old l v → ⊥) → previous_at new m w ≡ previous_at old m w
  entry : entry_at new l v ≡ 0
  entries : (m w : ℕ) → m < old.links → (m ≡ l → w ≡ v → ⊥) → entry_at new m w ≡ entry_at old m w

after_same : (old new : Cells) (l k : ℕ) → l < old.links → ((m j : ℕ) → m < old.links → first_at new m j ≡ first_at old m j) → ((m w : ℕ) → m < old.links → next_at new m w ≡ next_at old m w) → (q : ℕ) → after_at new l k q ≡ after_at old l k q
after_same old new l k link firsts nexts zero = firsts l k link
after_same old new l k link firsts nexts (suc w) = nexts l w link

unlinks : (c d e f : Cells) (l v k p n : ℕ) (cell : Cell) → l < c.links → p ≡ previous_at c l v → n ≡ next_at c l v → SetsAfter c d l k p n → SetsBefore d e l n p → cell ≡ cell_at e l v → PutsCell e f l v (record cell { entry = 0 }) → Unlinks c f l v k
unlinks c d e f l v k p n cell link is_p is_n after before is_cell puts =
    let in_d : (m : ℕ) → m < c.links → m < d.links = λ m lt. omega (arith, after.shape.links) in
    let in_e : (m : ℕ) → m < c.links → m < e.links = λ m lt. omega (arith, after.shape.links, before.shape.links) in
    let first_kept : (m j : ℕ) → m < d.links → first_at f m j ≡ first_at d m j = λ m j lt. field_same e f l v _ (λ x. x.first) puts (ap (λ x. x.first) is_cell) m j (omega (arith, before.shape.links)) ∙ before.firsts m j lt in
    let next_kept : (m w : ℕ) → m < d.links → next_at f m w ≡ next_at d m w = λ m w lt. field_same e f l v _ (λ x. x.next) puts (ap (λ x. x.next) is_cell) m w (omega (arith, before.shape.links)) ∙ before.nexts m w lt in
    let previous_kept : (m w : ℕ) → m < c.links → previous_at f m w ≡ previous_at e m w = λ m w lt. field_same e f l v _ (λ x. x.previous) puts (ap (λ x. x.previous) is_cell) m w (in_e m lt) in
    let after_kept : (q : ℕ) → after_at f l k q ≡ after_at d l k q = after_same d f l k (omega (arith, after.shape.links)) first_kept next_kept in
    record {
      shape = record { links = puts.shape.links ∙ (before.shape.links ∙ after.shape.links); room = puts.shape.room ∙ (before.shape.room ∙ after.shape.room) };
      here = ap (after_at f l k) (sym is_p) ∙ (after_kept p ∙ (after.here ∙ is_n));
      firsts = λ m j lt apart. first_kept m j (in_d m lt) ∙ after.firsts m j lt (λ x y z. apart x y (sym is_p ∙ z));
      nexts = λ m w lt apart. next_kept m w (in_d m lt) ∙ after.nexts m w lt (λ x y. apart x (y ∙ is_p));
      back = λ w is. previous_kept l w link ∙ (before.here w (is ∙ sym is_n) ∙ is_p);
      befores = λ m w lt apart. previous_kept m w lt ∙ (before.previous m w (in_d m lt) (λ x y. apart x (y ∙ is_n)) ∙ after.previous m w lt);
      entry = ap (λ x. x.entry) puts.here;
      entries = λ m w lt apart. ap (λ x. x.entry) (puts.others m w (in_e m lt) apart) ∙ (before.entries m w (in_d m lt) ∙ after.entries m w lt);
    }

-- ---- the chain of each list
afters_kept : (old new : Cells) (l v k : ℕ) → l < old.links → Unlinks old new l v k → (q : ℕ) → q ≢ previous_at old l v → after_at new l k q ≡ after_at old l k q
afters_kept old new l v k link cut zero apart = cut.firsts l k link (λ _ _ z. apart (sym z))
afters_kept old new l v k link cut (suc w) apart = cut.nexts l w link (λ _ e. apart e)

own_chain : (old new : Cells) (l v k : ℕ) → AreLists old → l < old.links → entry_at old l v ≡ suc k → Unlinks old new l v k → IsChain (after_at new l k) (previous_at new l) 0 (without v (list_at old l k))
own_chain old new l v k lists link entry cut =
    let cuts : Cuts (after_at old l k) (previous_at old l) (after_at new l k) (previous_at new l) v = record {
      here = cut.here;
      afters = afters_kept old new l v k link cut;
      back = cut.back;
      befores = λ x apart. cut.befores l x link (λ _ e. apart e);
    } in
    chain_cut (after_at old l k) (previous_at old l) (after_at new l k) (previous_at new l) 0 v (list_at old l k) cuts (λ x. at_most_once old l k x lists link) (λ x _ e. omega (arith, e)) (omega (arith, stands_once old l k v lists link entry)) (lists.chained l k link)

-- what stands beside the slot stands in its list, and so in no other
beside_elsewhere : (old : Cells) (l k j p x : ℕ) → AreLists old → l < old.links → (p ≡ 0) ⊎ Into p (list_at old l k) → j ≢ k → 1 ≤ times x (list_at old l j) → suc x ≢ p
unfolding Into
beside_elsewhere old l k j p x lists link beside other some is =
    elim beside [
      | inl none ↦ omega (arith, is, none)
      | inr found ↦
          let same : x ≡ found.0 = omega (arith, is, found.1) in
          let a : entry_at old l x ≡ suc j = entry_of_one old l j x lists link some in
          let b : entry_at old l found.0 ≡ suc k = entry_of_one old l k found.0 lists link found.2 in
          let e : suc j ≡ suc k = sym a ∙ (ap (entry_at old l) same ∙ b) in
          other (omega (arith, e))
    ]

other_chain : (old new : Cells) (l v k j : ℕ) → AreLists old → l < old.links → entry_at old l v ≡ suc k → Unlinks old new l v k → j ≢ k → IsChain (after_at new l j) (previous_at new l) 0 (list_at old l j)
other_chain old new l v k j lists link entry cut other =
    let once : 1 ≤ times v (list_at old l k) = omega (arith, stands_once old l k v lists link entry) in
    chain_same (after_at old l j) (previous_at old l) (after_at new l j) (previous_at new l) 0 (list_at old l j) (cut.firsts l j link (λ _ e _. other e))
    (λ x some. cut.nexts l x link (λ _. beside_elsewhere old l k j (previous_at old l v) x lists link (previous_is (after_at old l k) (previous_at old l) 0 v (list_at old l k) (lists.chained l k link) once) other some))
    (λ x some. cut.befores l x link (λ _. beside_elsewhere old l k j (next_at old l v) x lists link (next_is (after_at old l k) (previous_at old l) 0 v (list_at old l k) (lists.chained l k link) once) other some))
    (lists.chained l j link)

link_chain : (old new : Cells) (l v k m j : ℕ) → AreLists old → m < old.links → Unlinks old new l v k → m ≢ l → IsChain (after_at new m j) (previous_at new m) 0 (list_at old m j)
link_chain old new l v k m j lists lt cut other =
    chain_same (after_at old m j) (previous_at old m) (after_at new m j) (previous_at new m) 0 (list_at old m j) (cut.firsts m j lt (λ e _ _. other e)) (λ x _. cut.nexts m x lt (λ e _. other e)) (λ x _. cut.befores m x lt (λ e _. other e)) (lists.chained m j lt)

chain_left : (old new : Cells) (l v k j : ℕ) → AreLists old → l < old.links → entry_at old l v ≡ suc k → Unlinks old new l v k → IsChain (after_at new l j) (previous_at new l) 0 (without v (list_at old l j))
chain_left old new l v k j lists link entry cut =
    elim (cases_eq j k) [
      | inl same ↦ subst (λ i. IsChain (after_at new l i) (previous_at new l) 0 (without v (list_at old l i))) (sym same) (own_chain old new l v k lists link entry cut)
      | inr other ↦
          let apart : entry_at old l v ≢ suc j = λ e. let s : suc k ≡ suc j = sym entry ∙ e in other (omega (arith, s)) in
          let none : without v (list_at old l j) ≡ list_at old l j = without_none v (list_at old l j) (stands_nowhere old l j v lists link apart) in
          subst (λ xs. IsChain (after_at new l j) (previous_at new l) 0 xs) (sym none) (other_chain old new l v k j lists link entry cut other)
    ]

-- ---- what the lists are
takes_out : (old new : Cells) (l v k : ℕ) → AreLists old → l < old.links → entry_at old l v ≡ suc k → Unlinks old new l v k → TakesOut old new l v
takes_out old new l v k lists link entry cut =
    record {
      shape = cut.shape;
      lists = λ j. list_is new l j (without v (list_at old l j)) (chain_left old new l v k j lists link entry cut) (omega (arith, length-without v (list_at old l j), list_short old l j, cut.shape.room));
      other_links = λ m j lt other. list_is new m j (list_at old m j) (link_chain old new l v k m j lists lt cut other) (omega (arith, list_short old m j, cut.shape.room));
      entry = cut.entry;
      entries = cut.entries;
    }

entered_left : (old new : Cells) (l v m j w : ℕ) → AreLists old → m < old.links → TakesOut old new l v → times w (list_at new m j) ≡ cond (entry_at new m w == suc j) 1 0
entered_left old new l v m j w lists lt takes =
    elim (cases_eq m l) [
      | inl same ↦ elim (cases_eq w v) [
        | inl here ↦
            let none : entry_at new m w ≡ 0 = ap (λ x. entry_at new x w) same ∙ (ap (entry_at new l) here ∙ takes.entry) in
            let list : list_at new m j ≡ without v (list_at old l j) = ap (λ x. list_at new x j) same ∙ takes.lists j in
            ap (times w) list ∙ (ap (λ x. times x (without v (list_at old l j))) here ∙ (times-without_same v (list_at old l j) ∙ sym (rw (ne_eqb (entry_at new m w) (suc j) (λ e. omega (arith, e, none))) refl)))
        | inr there ↦
            let kept : entry_at new m w ≡ entry_at old m w = takes.entries m w lt (λ _ e. there e) in
            let list : list_at new m j ≡ without v (list_at old m j) = ap (λ x. list_at new x j) same ∙ (takes.lists j ∙ ap (λ x. without v (list_at old x j)) (sym same)) in
            ap (times w) list ∙ (times-without_other v w (list_at old m j) there ∙ (lists.entered m j w lt ∙ ap (λ x. cond (x == suc j) 1 0) (sym kept)))
      ]
      | inr other ↦
          let kept : entry_at new m w ≡ entry_at old m w = takes.entries m w lt (λ e _. other e) in
          ap (times w) (takes.other_links m j lt other) ∙ (lists.entered m j w lt ∙ ap (λ x. cond (x == suc j) 1 0) (sym kept))
    ]

chained_left : (old new : Cells) (l v k m j : ℕ) → AreLists old → l < old.links → m < old.links → entry_at old l v ≡ suc k → Unlinks old new l v k → TakesOut old new l v → IsChain (after_at new m j) (previous_at new m) 0 (list_at new m j)
chained_left old new l v k m j lists link lt entry cut takes =
    elim (cases_eq m l) [
      | inl same ↦
          subst (λ x. IsChain (after_at new x j) (previous_at new x) 0 (list_at new x j)) (sym same)
          (subst (λ xs. IsChain (after_at new l j) (previous_at new l) 0 xs) (sym (takes.lists j)) (chain_left old new l v k j lists link entry cut))
      | inr other ↦ subst (λ xs. IsChain (after_at new m j) (previous_at new m) 0 xs) (sym (takes.other_links m j lt other)) (link_chain old new l v k m j lists lt cut other)
    ]

unset_left : (old new : Cells) (l v m w : ℕ) → m < old.links → entry_at old m w ≡ 0 → TakesOut old new l v → entry_at new m w ≡ 0
unset_left old new l v m w lt none takes =
    elim (both_eq m l w v) [
      | inl same ↦ ap (λ x. entry_at new x w) same.0 ∙ (ap (entry_at new l) same.1 ∙ takes.entry)
      | inr other ↦ takes.entries m w lt other ∙ none
    ]

pub taken : (c d e f : Cells) (l v k p n : ℕ) (cell : Cell) → AreLists c → l < c.links → entry_at c l v ≡ suc k → p ≡ previous_at c l v → n ≡ next_at c l v → SetsAfter c d l k p n → SetsBefore d e l n p → cell ≡ cell_at e l v → PutsCell e f l v (record cell { entry = 0 }) → AreLists f × TakesOut c f l v
taken c d e f l v k p n cell lists link entry is_p is_n after before is_cell puts =
    let cut : Unlinks c f l v k = unlinks c d e f l v k p n cell link is_p is_n after before is_cell puts in
    let takes : TakesOut c f l v = takes_out c f l v k lists link entry cut in
    let in_c : (m : ℕ) → m < f.links → m < c.links = λ m lt. omega (arith, takes.shape.links) in (
      record {
        chained = λ m j lt. chained_left c f l v k m j lists link (in_c m lt) entry cut takes;
        entered = λ m j w lt. entered_left c f l v m j w lists (in_c m lt) takes;
        unset = λ m w lt past. unset_left c f l v m w (in_c m lt) (lists.unset m w (in_c m lt) (omega (arith, takes.shape.room))) takes;
      },
      takes,
    )

-- a slot that stands in no list is taken out by nothing
pub not_taken : (c : Cells) (l v : ℕ) → AreLists c → l < c.links → entry_at c l v ≡ 0 → TakesOut c c l v
not_taken c l v lists link none =
    record {
      shape = record { links = refl; room = refl };
      lists = λ j. sym (without_none v (list_at c l j) (stands_nowhere c l j v lists link (λ e. omega (arith, e, none))));
      other_links = λ m j lt other. refl;
      entry = none;
      entries = λ m w lt other. refl;
    }
