-- What split rows mark.
use Rattle.std.proofs.Common.{◌≡◌, ◌==◌, ◌&&◌, ℕ, ◌+◌, ◌<◌, Bool, true, List, [], ◌∷◌, Option, Some, None, All, length, slice_index, slice_set, nat_le, arith, refl, sym, ap, subst, ◌∙◌, inl, inr, get_or-set_same, get_or-set_other}
use Rattle.std.specs.List.{last_or}
use Rattle.std.specs.Option.{option_map, option_map_or}
use Rattle.std.proofs.lemmas.Bool.{cases_eq, and_parts, eqb-true}
use Rattle.std.proofs.lemmas.Option.{none-some, same_Some}
use Rattle.std.proofs.lemmas.List.{length-set}
use Rattle.std.proofs.lemmas.List.Elements.{All-head, All-rest, All-filter, filter_passes}
use Rattle.ltm_splits.specs.Rows.{SplitRow, is_of, rows_begun, row_in_force}
use Rattle.ltm_scenario.specs.Data.{ScenarioData}
use Rattle.ltm_loading.specs.Setting.{Setting}
use Rattle.ltm_setting.specs.Setting.{setting_of}
use Rattle.ltm_used.specs.Found.{number_of, MarksLeads}
use Rattle.ltm_used.specs.Leading.{KeepsMarks, IsMarked, AreAllMarked}

pub keeps_none : (goes : List ℕ) → KeepsMarks goes goes
keeps_none goes = record { long = refl; marks = λ k h. h }

pub keeps_more : (a b c : List ℕ) → KeepsMarks a b → KeepsMarks b c → KeepsMarks a c
keeps_more a b c g h = record { long = h.long ∙ g.long; marks = λ k x. h.marks k (g.marks k x) }

pub keeps_set : (goes : List ℕ) (n : ℕ) → n < length goes → KeepsMarks goes (slice_set goes n 1)
keeps_set goes n l = record {
  long = length-set goes n 1;
  marks = λ k h. elim (cases_eq k n) [
    | inl same ↦ let here : slice_index (slice_set goes n 1) n ≡ 1 = get_or-set_same goes n 1 0 l in omega (arith, ap (slice_index (slice_set goes n 1)) same, here)
    | inr other ↦ let there : slice_index (slice_set goes n 1) k ≡ slice_index goes k = get_or-set_other goes n k 1 0 other in omega (arith, h, there)
  ];
}

pub marked_on : (s : Setting) (goes goes' : List ℕ) (row : SplitRow) → KeepsMarks goes goes' → IsMarked s goes row → IsMarked s goes' row
marked_on s goes goes' row k h j l w = k.marks (number_of s (s.out_link row.0.node.0 j) row.0.destination) (h j l w)

-- of a row the first out-links are marked to which it gives a weight
pub record MarksTo (s : Setting) (old new : List ℕ) (row : SplitRow) (n : ℕ) : Type 0 where
  pub keeps : KeepsMarks old new
  pub done : (j : ℕ) → j < n → 0 < slice_index row.1 j → 0 < slice_index new (number_of s (s.out_link row.0.node.0 j) row.0.destination)

pub marks_none : (s : Setting) (goes : List ℕ) (row : SplitRow) → MarksTo s goes goes row 0
marks_none s goes row = record { keeps = keeps_none goes; done = λ j l. absurd (omega arith) }

pub marks_over : (s : Setting) (old new : List ℕ) (row : SplitRow) (n : ℕ) → MarksTo s old new row n → slice_index row.1 n ≡ 0 → MarksTo s old new row (n + 1)
marks_over s old new row n h none = record {
  keeps = h.keeps;
  done = λ j l some. elim (cases_eq j n) [
    | inl same ↦ absurd (let nothing : slice_index row.1 j ≡ 0 = ap (slice_index row.1) same ∙ none in omega (arith, some, nothing))
    | inr other ↦ h.done j (omega (arith, l, other)) some
  ];
}

pub marks_more : (s : Setting) (old new next : List ℕ) (row : SplitRow) (n link : ℕ) → MarksTo s old new row n → KeepsMarks new next → link ≡ s.out_link row.0.node.0 n
    → 0 < slice_index next (number_of s link row.0.destination) → MarksTo s old next row (n + 1)
marks_more s old new next row n link h k at here = record {
  keeps = keeps_more old new next h.keeps k;
  done = λ j l some. elim (cases_eq j n) [
    | inl same ↦ subst (λ (z : ℕ). 0 < slice_index next (number_of s z row.0.destination)) (at ∙ ap (s.out_link row.0.node.0) (sym same)) here
    | inr other ↦ k.marks (number_of s (s.out_link row.0.node.0 j) row.0.destination) (h.done j (omega (arith, l, other)) some)
  ];
}

-- the weight in force of some rows is that of one of them
weight_is_of : (P Q : SplitRow → Type 0) (j : ℕ) (G : Type 0) (rows : List SplitRow) (o : Option SplitRow) → ((r : SplitRow) → o ≡ Some r → P r × Q r) → All P rows → All Q rows
    → 0 < option_map_or (λ weights. slice_index weights j) (option_map (λ (row : SplitRow). row.1) (last_or o rows)) 0 → ((r : SplitRow) → P r → Q r → 0 < slice_index r.1 j → G) → G
weight_is_of P Q j G [] None some ps qs h go = absurd (omega arith)
weight_is_of P Q j G [] (Some r) some ps qs h go = go r (some r refl).0 (some r refl).1 h
weight_is_of P Q j G (x ∷ xs) o some ps qs h go =
    weight_is_of P Q j G xs (Some x) (λ r e. (subst P (same_Some x r e) (All-head P x xs ps), subst Q (same_Some x r e) (All-head Q x xs qs)))
    (All-rest P x xs (x ∷ xs) refl ps) (All-rest Q x xs (x ∷ xs) refl qs) h go

is_of_parts : (u d t : ℕ) (row : SplitRow) → (is_of u d row && nat_le row.0.from t) ≡ true → (row.0.node.0 ≡ u) × (row.0.destination ≡ d)
is_of_parts u d t row h =
    let of : (is_of u d row) ≡ true = (and_parts (is_of u d row) (nat_le row.0.from t) h).0 in
    let both = and_parts (row.0.node.0 == u) (row.0.destination == d) of in
    (eqb-true row.0.node.0 u both.0, eqb-true row.0.destination d both.1)

marked_at : (s : Setting) (goes : List ℕ) (u d j : ℕ) (row : SplitRow) → row.0.node.0 ≡ u → row.0.destination ≡ d → j < s.outs u → IsMarked s goes row → 0 < slice_index row.1 j → 0 < slice_index goes (number_of s (s.out_link u j) d)
marked_at s goes u d j row e f l marked w =
    let there : 0 < slice_index goes (number_of s (s.out_link row.0.node.0 j) row.0.destination) = marked j (subst (λ (z : ℕ). j < s.outs z) (sym e) l) w in
    subst (λ (z : ℕ). 0 < slice_index goes (number_of s (s.out_link u j) z)) f (subst (λ (z : ℕ). 0 < slice_index goes (number_of s (s.out_link z j) row.0.destination)) e there)

-- where all rows are marked, what a node sends of a destination by an out-link is
pub marks_leads : (s : ScenarioData) (goes : List ℕ) → AreAllMarked (setting_of s) goes s.splits → MarksLeads (setting_of s) goes
unfolding setting_of
marks_leads s goes all u d j x m y leads =
    let begun : SplitRow → Bool = λ row. is_of u d row && nat_le row.0.from leads.slot in
    let weight : 0 < option_map_or (λ weights. slice_index weights j) (row_in_force s.splits u d leads.slot) 0 = leads.weight in
    weight_is_of (IsMarked (setting_of s) goes) (λ row. (is_of u d row && nat_le row.0.from leads.slot) ≡ true) j (0 < slice_index goes (number_of (setting_of s) ((setting_of s).out_link u j) d))
    (rows_begun s.splits u d leads.slot) None (λ r e. absurd (none-some r e))
    (All-filter (λ row. is_of u d row && nat_le row.0.from leads.slot) (IsMarked (setting_of s) goes) s.splits all)
    (filter_passes (λ row. is_of u d row && nat_le row.0.from leads.slot) s.splits)
    weight
    (λ r marked test w. let of = is_of_parts u d leads.slot r test in marked_at (setting_of s) goes u d j r of.0 of.1 y marked w)
