-- The slots of a list are marked one after another.
use Rattle.std.proofs.Common.{◌≡◌, ℕ, ◌^◌, ◌<◌, ◌==◌, ◌&&◌, ◌||◌, nat_le, Bool, true, false, List, [], ◌∷◌, ◌++◌, refl, ap, sym, ◌∙◌, arith, inl, inr, ◌⊎◌, append_assoc, Contains}
use Rattle.std.specs.Prelude.{Option, Some, None, unwrap_or}
use Rattle.std.specs.Cmp.{nat_eq_equiv}
use Rattle.std.specs.List.{list_any}
use Rattle.std.proofs.lemmas.Bool.{eq-eqb, eqb-true}
use Rattle.std.proofs.lemmas.List.{append-nil}
use Rattle.std.proofs.lemmas.List.Folds.{list_any-append}
use Rattle.std.proofs.lemmas.Map.Views.{list_any-from_Contains, Contains-from_any}
use Rattle.ltm_index.specs.declared.read_index.ReadIndex.{ReadIndex}
use Rattle.ltm_index.specs.Lists.{links_listed, list_of, entry_of, StandsByEntry}
use Rattle.ltm_index.specs.Chains.{list_from, behind}
use Rattle.ltm_frontier.specs.declared.frontier.Frontier.{Frontier}
use Rattle.ltm_frontier.specs.Frontier.{is_pair, Activates}
use Rattle.ltm_working.specs.Desks.{place_of}
use Rattle.ltm_working.proofs.Bools.{or_false, same_tests}
use Rattle.ltm_working.proofs.Activating.{act_both, act_as, act_no}

-- a slot stands in a list
abbrev pub stands : List ℕ → ℕ → Bool
stands xs v = list_any (◌==◌ v) xs

-- the slots of a node, from one on, that stand in a list
abbrev pub listed : ℕ → ℕ → List ℕ → ℕ → ℕ → Bool
listed u from xs w v = nat_le from v && ((w == u) && stands xs v)

-- the first slots of a list are marked, and the others are those from a slot on
pub record Marked (a b : Frontier) (u from : ℕ) (all : List ℕ) (at : Option ℕ) : Type 0 where
  pub passed : List ℕ
  pub whole : passed ++ list_from all at ≡ all
  pub acts : Activates a b (listed u from passed)

both_off : (n a : Bool) → (n && (a && false)) ≡ false
both_off true true = refl
both_off true false = refl
both_off false a = refl

-- before any of them is marked
pub marked_none : (f : Frontier) (u from : ℕ) (all : List ℕ) (at : Option ℕ) → all ≡ list_from all at → Marked f f u from all at
marked_none f u from all at whole = record { passed = []; whole = sym whole; acts = act_no f (listed u from []) (λ w v x y. both_off (nat_le from v) (w == u)) }

both_or : (n a p q : Bool) → ((n && (a && p)) || (n && (a && q))) ≡ (n && (a && (p || q)))
both_or false a p q = refl
both_or true true p q = refl
both_or true false p q = refl

split_test : (u from slot w v : ℕ) (xs : List ℕ) → (listed u from xs w v || (nat_le from v && is_pair u slot w v)) ≡ listed u from (xs ++ slot ∷ []) w v
split_test u from slot w v xs =
    let e : stands (xs ++ slot ∷ []) v ≡ (stands xs v || ((v == slot) || false)) = list_any-append (◌==◌ v) xs (slot ∷ []) in
    let f : ((v == slot) || false) ≡ (v == slot) = or_false (v == slot) in
    rw (e, f) (both_or (nat_le from v) (w == u) (stands xs v) (v == slot))

pub marked_next : (a b c : Frontier) (u from : ℕ) (all rest : List ℕ) (slot : ℕ) (at : Option ℕ) → Marked a b u from all (Some slot) →
    Activates b c (λ w v. nat_le from v && is_pair u slot w v) → rest ≡ behind slot all → rest ≡ list_from all at → Marked a c u from all at
marked_next a b c u from all rest slot at first next is from_here = record {
  passed = first.passed ++ slot ∷ [];
  whole = append_assoc first.passed (slot ∷ []) (list_from all at) ∙ (ap (λ (ys : List ℕ). first.passed ++ slot ∷ ys) (sym from_here ∙ is) ∙ first.whole);
  acts = act_as a c (λ w v. listed u from first.passed w v || (nat_le from v && is_pair u slot w v)) (listed u from (first.passed ++ slot ∷ []))
      (act_both a b c (listed u from first.passed) (λ w v. nat_le from v && is_pair u slot w v) first.acts next)
      (λ w v x y. split_test u from slot w v first.passed);
}

-- a list has the slots whose place is its boundary
stands_in : (xs : List ℕ) (v : ℕ) → Contains xs v → stands xs v ≡ true
stands_in xs v has = list_any-from_Contains nat_eq_equiv v xs has

stands_at : (xs : List ℕ) (v : ℕ) → stands xs v ≡ true → Contains xs v
stands_at xs v is = Contains-from_any (λ a b e. eqb-true a b e) v xs is

pub place_is : (x : ReadIndex) (l v k : ℕ) → entry_of x l v ≡ Some k → place_of x l v ≡ k
unfolding place_of
place_is x l v k e = rw e refl

cases_entry : (o : Option ℕ) → (o ≡ None) ⊎ ((k : ℕ) × (o ≡ Some k))
cases_entry None = inl refl
cases_entry (Some k) = inr (k, refl)

pub entry_is : (x : ReadIndex) (l v k : ℕ) → k < 2 ^ 32 → place_of x l v ≡ k → entry_of x l v ≡ Some k
unfolding place_of
entry_is x l v k within e = elim (cases_entry (entry_of x l v)) [
  | inl none ↦ let past : unwrap_or (entry_of x l v) (2 ^ 32) ≡ 2 ^ 32 = rw none refl in absurd (omega (arith, past, e, within))
  | inr some ↦ let here : unwrap_or (entry_of x l v) (2 ^ 32) ≡ some.0 = rw some.1 refl in some.1 ∙ ap (λ (z : ℕ). Some z) (sym here ∙ e)
]

list_places : (x : ReadIndex) (l k v : ℕ) → StandsByEntry x → l < links_listed x → k < 2 ^ 32 → stands (list_of x l k) v ≡ (place_of x l v == k)
list_places x l k v by_entry there within = same_tests (stands (list_of x l k) v) (place_of x l v == k)
    (λ is. eq-eqb (place_of x l v) k (place_is x l v k ((by_entry l k v there).0 (stands_at (list_of x l k) v is))))
    (λ is. stands_in (list_of x l k) v ((by_entry l k v there).1 (entry_is x l v k within (eqb-true (place_of x l v) k is))))

pub marked_all : (a b : Frontier) (x : ReadIndex) (u from l k : ℕ) → StandsByEntry x → l < links_listed x → k < 2 ^ 32 → Marked a b u from (list_of x l k) None →
    Activates a b (λ w v. nat_le from v && ((w == u) && (place_of x l v == k)))
marked_all a b x u from l k by_entry there within all =
    let passed : all.passed ≡ list_of x l k = sym (append-nil all.passed) ∙ all.whole in
    act_as a b (listed u from all.passed) (λ w v. nat_le from v && ((w == u) && (place_of x l v == k))) all.acts
    (λ w v p q. ap (λ (xs : List ℕ). nat_le from v && ((w == u) && stands xs v)) passed ∙ ap (λ z. nat_le from v && ((w == u) && z)) (list_places x l k v by_entry there within))
