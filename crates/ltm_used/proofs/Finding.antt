-- Numbers that are found one after another.
use Rattle.std.proofs.Common.{◌≡◌, ◌≢◌, ℕ, ◌+◌, ◌*◌, ◌/◌, ◌%◌, ◌<◌, ◌≤◌, List, [], ◌∷◌, ◌++◌, length, sum, slice_index, slice_set, arith, refl, sym, ap, subst, ◌∙◌, inl, inr, get_or-set_same, get_or-set_other}
use Rattle.std.proofs.lemmas.Bool.{cases_lt, cases_eq}
use Rattle.std.proofs.lemmas.List.{length-set, length_push, get_or_append_left, get_or_push}
use Rattle.std.proofs.lemmas.List.Sums.{sum_by-set}
use Rattle.std.proofs.lemmas.Nat.{div-mul-add, mod-mul-add}
use Rattle.ltm_loading.specs.Setting.{Setting}
use Rattle.ltm_used.specs.declared.found.Found.{Found}
use Rattle.ltm_standing.specs.Listed.{NotIn}
use Rattle.ltm_used.specs.Closed.{HasDemand}
use Rattle.ltm_used.specs.Found.{size_of, count_of, number_at, number_of, Grows, GoesOn, IsDone, IsClosedUnder, MarksLeads, AreRooted, HasRoots, FoundAreClosed}
use Rattle.ltm_used.proofs.Counting.{sum_of_bits}

pub record AreFound (marks order : List ℕ) : Type 0 where
  pub bits : (k : ℕ) → slice_index marks k ≤ 1
  pub counted : sum marks ≡ length order
  pub inside : (j : ℕ) → j < length order → slice_index order j < length marks
  pub listed : (k : ℕ) → 0 < slice_index marks k → NotIn order k → ⊥

pub found_of : (f : Found) → AreFound f.marks.items f.order.items
found_of f = record { bits = f.bits; counted = f.counted; inside = f.inside; listed = f.listed }

pub found_more : (marks order : List ℕ) (n : ℕ) → AreFound marks order → n < length marks → slice_index marks n ≡ 0 → AreFound (slice_set marks n 1) (order ++ n ∷ [])
found_more marks order n h l none =
    let here : slice_index (slice_set marks n 1) n ≡ 1 = get_or-set_same marks n 1 0 l in
    let there : (k : ℕ) → k ≢ n → slice_index (slice_set marks n 1) k ≡ slice_index marks k = λ k ne. get_or-set_other marks n k 1 0 ne in
    let long : length (order ++ n ∷ []) ≡ length order + 1 = length_push order n in
    let wide : length (slice_set marks n 1) ≡ length marks = length-set marks n 1 in
    record {
      bits = λ k. elim (cases_eq k n) [
        | inl same ↦ omega (arith, ap (slice_index (slice_set marks n 1)) same, here)
        | inr other ↦ omega (arith, there k other, h.bits k)
      ];
      counted = let e = sum_by-set (λ x. x) marks n 1 0 l in omega (arith, e, none, h.counted, long);
      inside = λ j m. elim (cases_lt j (length order)) [
        | inl low ↦ omega (arith, get_or_append_left order (n ∷ []) 0 j low, h.inside j low, wide)
        | inr high ↦ let at : length order ≡ j = omega (arith, long, m) in omega (arith, get_or_push order n 0 j at, wide, l)
      ];
      listed = λ k found out. elim (cases_eq k n) [
        | inl same ↦ out (length order) (omega (arith, long)) (get_or_push order n 0 (length order) refl ∙ sym same)
        | inr other ↦ h.listed k (omega (arith, found, there k other)) (λ j m e. out j (omega (arith, long, m)) (get_or_append_left order (n ∷ []) 0 j m ∙ e))
      ];
    }

pub found_by : (marks order marks' order' : List ℕ) → marks' ≡ marks → order' ≡ order → AreFound marks order → AreFound marks' order'
found_by marks order marks' order' e f h = subst (λ (xs : List ℕ). AreFound xs order') (sym e) (subst (λ (ys : List ℕ). AreFound marks ys) (sym f) h)

pub grows_none : (f : Found) → Grows f f
grows_none f = record { size = refl; keeps = λ k h. h; longer = omega arith; order = λ j l. refl }

pub grows_more : (a b c : Found) → Grows a b → Grows b c → Grows a c
grows_more a b c g h = record {
  size = h.size ∙ g.size;
  keeps = λ k x. h.keeps k (g.keeps k x);
  longer = omega (arith, g.longer, h.longer);
  order = λ j l. h.order j (omega (arith, g.longer, l)) ∙ g.order j l;
}

-- no more are found than there are
pub count_within : (f : Found) → count_of f ≤ size_of f
count_within f = let counted : sum f.marks.items ≡ length f.order.items = f.counted in omega (arith, sum_of_bits f.marks.items f.bits)

-- what goes on from each number that was found is found
pub closed_by : (s : Setting) (goes : List ℕ) (f : Found) (w : ℕ) → w ≡ s.destinations → ((j : ℕ) → j < count_of f → IsDone s goes f (number_at f j / w) (number_at f j % w)) → IsClosedUnder s goes f
closed_by s goes f w e done l d x y found j m go =
    elim (cases_lt 0 (slice_index f.marks.items (number_of s (s.out_link (s.head l) j) d))) [
      | inl there ↦ there
      | inr none ↦
          absurd (f.listed (number_of s l d) found (λ p b at.
          let link : number_at f p / w ≡ l = ap (λ (z : ℕ). z / w) at ∙ (ap (λ (z : ℕ). (l * s.destinations + d) / z) e ∙ div-mul-add l s.destinations d y) in
          let destination : number_at f p % w ≡ d = ap (λ (z : ℕ). z % w) at ∙ (ap (λ (z : ℕ). (l * s.destinations + d) % z) e ∙ mod-mul-add l s.destinations d y) in
          let is_done : IsDone s goes f l d = subst (λ (z : ℕ). IsDone s goes f l z) destination (subst (λ (z : ℕ). IsDone s goes f z (number_at f p % w)) link (done p b)) in
          let found_there : 0 < slice_index f.marks.items (number_of s (s.out_link (s.head l) j) d) = is_done j m go in
          omega (arith, found_there, none)))
    ]

pub found_are_closed_holds : FoundAreClosed
found_are_closed_holds s goes f lists v marks roots closed are = record {
  origins = λ u d j x m y demand leads. (are (s.out_link u j) d (v.network.out_link_is_link u j x y) m).0 (roots u d j x m y demand leads);
  onward = λ l d j x m y there leads.
      let node : s.head l < s.nodes = v.network.head_is_node l x in
      (are (s.out_link (s.head l) j) d (v.network.out_link_is_link (s.head l) j node y) m).0 (closed l d x m ((are l d x m).1 there) j y (marks (s.head l) d j node m y leads));
}

-- what is found stays found
pub goes_on_more : (s : Setting) (goes : List ℕ) (f g : Found) (u d : ℕ) → Grows f g → GoesOn s goes f u d → GoesOn s goes g u d
goes_on_more s goes f g u d grows h j l go = grows.keeps (number_of s (s.out_link u j) d) (h j l go)

pub roots_of : (s : Setting) (goes : List ℕ) (f g : Found) → MarksLeads s goes → AreRooted s goes f → Grows f g → HasRoots s g
roots_of s goes f g marks rooted grows u d j x m y demand leads = grows.keeps (number_of s (s.out_link u j) d) (rooted u d x m demand j y (marks u d j x m y leads))

-- of a node what goes on is found for the first destinations that it has demand for
pub record FindsTo (s : Setting) (goes : List ℕ) (old new : Found) (u n : ℕ) : Type 0 where
  pub grows : Grows old new
  pub roots : (d : ℕ) → d < n → HasDemand s u d → GoesOn s goes new u d

pub finds_none : (s : Setting) (goes : List ℕ) (f : Found) (u : ℕ) → FindsTo s goes f f u 0
finds_none s goes f u = record { grows = grows_none f; roots = λ d l. absurd (omega arith) }

pub finds_over : (s : Setting) (goes : List ℕ) (old new : Found) (u n : ℕ) → FindsTo s goes old new u n → s.produced u n s.slots ≡ 0 → FindsTo s goes old new u (n + 1)
finds_over s goes old new u n h none = record {
  grows = h.grows;
  roots = λ d l demand. elim (cases_eq d n) [
    | inl same ↦ absurd (let nothing : s.produced u d s.slots ≡ 0 = ap (λ (z : ℕ). s.produced u z s.slots) same ∙ none in omega (arith, demand, nothing))
    | inr other ↦ h.roots d (omega (arith, l, other)) demand
  ];
}

pub finds_more : (s : Setting) (goes : List ℕ) (old new next : Found) (u n : ℕ) → FindsTo s goes old new u n → Grows new next → GoesOn s goes next u n → FindsTo s goes old next u (n + 1)
finds_more s goes old new next u n h g here = record {
  grows = grows_more old new next h.grows g;
  roots = λ d l demand. elim (cases_eq d n) [
    | inl same ↦ subst (λ (z : ℕ). GoesOn s goes next u z) (sym same) here
    | inr other ↦ goes_on_more s goes new next u d g (h.roots d (omega (arith, l, other)) demand)
  ];
}
