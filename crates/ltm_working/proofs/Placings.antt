-- Positions are placed one after another.
use Rattle.std.proofs.Common.{◌≡◌, ℕ, ◌+◌, ◌<◌, List, slice_index, refl, ap, sym, ◌∙◌, arith, inl, inr}
use Rattle.std.specs.Prelude.{Some}
use Rattle.std.proofs.lemmas.Bool.{cases_lt, cases_eq}
use Rattle.ltm_curve.specs.Counts.{Counts}
use Rattle.ltm_loading.specs.Setting.{Setting, IsSetting}
use Rattle.ltm_loading.specs.Flows.{position}
use Rattle.ltm_inputs.specs.Parts.{ArePositions}
use Rattle.ltm_index.specs.declared.read_index.ReadIndex.{ReadIndex}
use Rattle.ltm_index.specs.Lists.{links_listed as links_in, entry_of, Places}
use Rattle.ltm_working.specs.Placing.{PlacesAt, PlacesPair}

pub places_next : (s : Setting) (c : Counts) (old mid new : ReadIndex) (u t n l k : ℕ) → IsSetting s → u < s.nodes → n < s.ins u → PlacesPair s c old mid u t n →
    PlacesAt mid new l t k → s.in_link u n ≡ l → k ≡ position s c l t → PlacesPair s c old new u t (n + 1)
places_next s c old mid new u t n l k is x below first next here at =
    let there : (i : ℕ) → i < s.ins u → s.in_link u i < s.links = λ i m. is.network.in_link_is_link u i x m in
    let placed_here : (i : ℕ) → s.in_link u i ≡ l → entry_of new (s.in_link u i) t ≡ Some (position s c (s.in_link u i) t) = λ i same.
    ap (λ (z : ℕ). entry_of new z t) same ∙ (next.entry ∙ (ap (λ (z : ℕ). Some z) at ∙ ap (λ (z : ℕ). Some (position s c z t)) (sym same))) in
    record {
      lists = record { links = next.size.links ∙ first.lists.links; slots = next.size.slots ∙ first.lists.slots };
      placed = λ i m. elim (cases_lt i n) [
        | inr high ↦
            let last : i ≡ n = omega arith in
            placed_here i (ap (s.in_link u) last ∙ here)
        | inl low ↦ elim (cases_eq (s.in_link u i) l) [
          | inl same ↦ placed_here i same
          | inr apart ↦
              let in_mid : s.in_link u i < links_in mid = omega (arith, there i (omega arith), first.lists.links) in
              next.other_entries (s.in_link u i) t in_mid (λ same slot. apart same) ∙ first.placed i low
        ]
      ];
      others = λ m v within apart.
          let in_mid : m < links_in mid = omega (arith, within, first.lists.links) in
          next.other_entries m v in_mid (λ same slot. apart n (omega arith) (here ∙ sym same) slot)
          ∙ first.others m v within (λ i low same slot. apart i (omega arith) same slot);
    }

-- the in-link at a place of a node's list is placed at its position
pub link_placed : (s : Setting) (c : Counts) (old mid new : ReadIndex) (u t n l : ℕ) (positions : List ℕ) → IsSetting s → u < s.nodes → n < s.ins u → ArePositions s c u t positions → PlacesPair s c old mid u t n →
    s.in_link u n ≡ l → PlacesAt mid new l t (slice_index positions n) → PlacesPair s c old new u t (n + 1)
link_placed s c old mid new u t n l positions is x below at first link next =
    places_next s c old mid new u t n l (slice_index positions n) is x below first next link (at.each n below ∙ ap (λ (z : ℕ). position s c z t) link)

-- a slot that is placed stands there, and so does one that is left there
pub stands_placed : (old new : ReadIndex) (l v k : ℕ) → Places old new l v k → PlacesAt old new l v k
stands_placed old new l v k placed = record { size = placed.size; entry = placed.entry; other_entries = placed.other_entries }

pub stands_left : (x : ReadIndex) (l v k : ℕ) → entry_of x l v ≡ Some k → PlacesAt x x l v k
stands_left x l v k at = record { size = record { links = refl; slots = refl; room = refl }; entry = at; other_entries = λ m w within apart. refl }
