-- What is kept of a pair is put in its place, and forgotten.
use Rattle.std.proofs.Common.{◌≡◌, ℕ, ◌+◌, ◌-◌, ◌*◌, ◌<◌, ◌≤◌, List, ◌++◌, true, false, length, arith, inl, inr, refl, ap, sym, ◌∙◌, subst}
use Rattle.std.specs.Prelude.{take, drop, replicate, slice_range, Bool, Some, None, IsTrue, ◌↔◌, ◌&&◌, not, if◌then◌else◌}
use Rattle.std.proofs.Math.Nat.{mul-le-mul_right}
use Rattle.std.proofs.Math.Seq.{take-append_seam, drop-append_seam}
use Rattle.std.proofs.lemmas.Bool.{cases_Bool}
use Rattle.ltm_inputs.specs.Setting.{Setting}
use Rattle.ltm_marks.specs.declared.marks.Marks.{Marks}
use Rattle.ltm_marks.specs.Marks.{width_of, rows_of, is_marked, SetsMark}
use Rattle.ltm_inputs.specs.Parts.{weights_part}
use Rattle.ltm_rows.specs.declared.begins.Begins.{Begins}
use Rattle.ltm_rows.specs.declared.layout.Layout.{Layout}
use Rattle.ltm_rows.specs.declared.layout.Part.TheVariants.{Amounts, Weights}
use Rattle.ltm_rows.specs.declared.rows.KeptRows.{KeptRows}
use Rattle.ltm_rows.specs.Begins.{begins_at, TellsBegins}
use Rattle.ltm_rows.specs.Layouts.{slot_width, nodes_in, width_in, start_in, row_in, LiesAs}
use Rattle.ltm_rows.specs.Rows.{nodes_kept, slots_kept, amounts_width, weights_width, amounts_of, weights_of, row_of, has_row, is_weighed, kept_row, in_slots, HasRows, SamePlaces, SameRows, PutsAmounts, PutsWeights, PutsRow, ForgetsRow, Unweighs, Weighs}
use Rattle.ltm_rows.proofs.RowPlaces.{length_in, written, written_here, written_other, resized_rows, zeros_in}

-- ---- a row is put in its place
same_places : (k : KeptRows) → SamePlaces k k
same_places k = record { narrow = refl; wide = refl }

pub is_same_places : (old new : KeptRows) → new ≡ old → SamePlaces old new
is_same_places old new is = record { narrow = ap (λ (z : KeptRows). z.narrow) is; wide = ap (λ (z : KeptRows). z.wide) is }

pub in_room : (k : KeptRows) (t : ℕ) → t < slots_kept k → t < k.room
in_room k t l = let within : k.slots ≤ k.room = k.within in omega (arith, l, within)

pub wide_node : (k : KeptRows) (u : ℕ) → u < nodes_kept k → u < nodes_in k.wide
wide_node k u x = omega (arith, x, k.same_nodes)

pub length_row : (k : KeptRows) (u t : ℕ) → u < nodes_kept k → t < slots_kept k → length (amounts_of k u t) ≡ amounts_width k u
unfolding amounts_of
length_row k u t x l = length_in k.narrow k.amounts.items k.room u t x (in_room k t l) k.amounts_long

pub puts_amounts : (old new : KeptRows) (u t : ℕ) (row : List ℕ) → u < nodes_kept old → t < slots_kept old → length row ≡ amounts_width old u → SamePlaces old new → new.slots ≡ old.slots →
    new.amounts.items ≡ written old.narrow old.amounts.items u t row → new.weights ≡ old.weights → new.there ≡ old.there → new.weighed ≡ old.weighed → PutsAmounts old new u t row
unfolding amounts_of
puts_amounts old new u t row x l same places slots put weights there weighed =
    let xs : List ℕ = old.amounts.items in
    let low : t < old.room = in_room old t l in
    record {
      places = places;
      slots = slots;
      here = rw (places.narrow, put) (written_here old.narrow xs old.room u t row x low old.amounts_long same);
      others = λ w v y m other. rw (places.narrow, put) (written_other old.narrow xs old.room u t row w v x low old.amounts_long same y (in_room old v m) other);
      weights = weights;
      there = there;
      weighed = weighed;
    }

pub puts_weights : (old new : KeptRows) (u t : ℕ) (row : List ℕ) → u < nodes_kept old → t < slots_kept old → length row ≡ weights_width old u → SamePlaces old new → new.slots ≡ old.slots →
    new.weights.items ≡ written old.wide old.weights.items u t row → new.amounts ≡ old.amounts → new.there ≡ old.there → new.weighed ≡ old.weighed → PutsWeights old new u t row
unfolding weights_of
puts_weights old new u t row x l same places slots put amounts there weighed =
    let xs : List ℕ = old.weights.items in
    let low : t < old.room = in_room old t l in
    record {
      places = places;
      slots = slots;
      here = rw (places.wide, put) (written_here old.wide xs old.room u t row (wide_node old u x) low old.weights_long same);
      others = λ w v y m other. rw (places.wide, put) (written_other old.wide xs old.room u t row w v (wide_node old u x) low old.weights_long same (wide_node old w y) (in_room old v m) other);
      amounts = amounts;
      there = there;
      weighed = weighed;
    }

-- weights of another slot of the node are copied
pub puts_copied : (old new : KeptRows) (u t v : ℕ) → u < nodes_kept old → t < slots_kept old → v < slots_kept old → SamePlaces old new → new.slots ≡ old.slots →
    new.weights.items ≡ written old.wide old.weights.items u v (row_in old.wide old.weights.items u t) → new.amounts ≡ old.amounts → new.there ≡ old.there → new.weighed ≡ old.weighed → PutsWeights old new u v (weights_of old u t)
unfolding weights_of
puts_copied old new u t v x l m places slots put amounts there weighed =
    puts_weights old new u v (weights_of old u t) x m (length_in old.wide old.weights.items old.room u t (wide_node old u x) (in_room old t l) old.weights_long) places slots put amounts there weighed

amounts_same : (a b : KeptRows) (w v : ℕ) → b.narrow ≡ a.narrow → b.amounts ≡ a.amounts → amounts_of b w v ≡ amounts_of a w v
unfolding amounts_of
amounts_same a b w v places amounts = rw (places, amounts) refl

weights_same : (a b : KeptRows) (w v : ℕ) → b.wide ≡ a.wide → b.weights ≡ a.weights → weights_of b w v ≡ weights_of a w v
unfolding weights_of
weights_same a b w v places weights = rw (places, weights) refl

both_same : (a b : KeptRows) (w v : ℕ) → amounts_of b w v ≡ amounts_of a w v → weights_of b w v ≡ weights_of a w v → row_of b w v ≡ row_of a w v
both_same a b w v amounts weights = rw (amounts, weights) refl

-- a mark that was set leaves the others
others_marked : (m n o : Marks) (u t w v : ℕ) → n ≡ m → SetsMark n o u t true → w < width_of m → v < rows_of m → (u ≡ w → t ≡ v → ⊥) → is_marked o w v ≡ is_marked m w v
others_marked m n o u t w v same sets x l other = sets.others w v (rw same x) (rw same l) other ∙ ap (λ z. is_marked z w v) same

pub puts_row : (a b c d : KeptRows) (u t : ℕ) (xs ys row : List ℕ) → u < nodes_kept a → t < slots_kept a → PutsAmounts a b u t xs → PutsWeights b c u t ys → row ≡ xs ++ ys → SamePlaces c d → d.slots ≡ c.slots →
    d.amounts ≡ c.amounts → d.weights ≡ c.weights → SetsMark c.there d.there u t true → SetsMark c.weighed d.weighed u t true → PutsRow a d u t row
puts_row a b c d u t xs ys row x l first second is places slots amounts weights mark weigh =
    let in_b : (w : ℕ) → w < nodes_kept a → w < nodes_kept b = λ w y. rw first.places.narrow y in
    let slot_b : (v : ℕ) → v < slots_kept a → v < slots_kept b = λ v m. rw first.slots m in
    let A : (w v : ℕ) → amounts_of d w v ≡ amounts_of b w v = λ w v. amounts_same c d w v places.narrow amounts ∙ amounts_same b c w v second.places.narrow second.amounts in
    let B : (w v : ℕ) → weights_of d w v ≡ weights_of c w v = λ w v. weights_same c d w v places.wide weights in
    let here : (amounts_of d u t ≡ xs) × (weights_of d u t ≡ ys) = (A u t ∙ first.here, B u t ∙ second.here) in
    record {
      places = record { narrow = places.narrow ∙ (second.places.narrow ∙ first.places.narrow); wide = places.wide ∙ (second.places.wide ∙ first.places.wide) };
      slots = slots ∙ (second.slots ∙ first.slots);
      here = rw (here.0, here.1) (sym is);
      there = mark.here;
      weighed = weigh.here;
      others_amounts = λ w v y m other. A w v ∙ first.others w v y m other;
      others_weights = λ w v y m other. B w v ∙ (second.others w v (in_b w y) (slot_b v m) other ∙ weights_same a b w v first.places.wide first.weights);
      others_there = λ w v y m other. others_marked a.there c.there d.there u t w v (second.there ∙ first.there) mark (omega (arith, y, a.nodes)) (omega (arith, m, a.rows)) other;
      others_weighed = λ w v y m other. others_marked a.weighed c.weighed d.weighed u t w v (second.weighed ∙ first.weighed) weigh (omega (arith, y, a.weighed_nodes)) (omega (arith, m, a.weighed_rows)) other;
    }

-- amounts alone, where the weights stand
pub puts_again : (a b d : KeptRows) (u t : ℕ) (xs : List ℕ) → is_weighed a u t ≡ true → PutsAmounts a b u t xs → SamePlaces b d → d.slots ≡ b.slots → d.amounts ≡ b.amounts → d.weights ≡ b.weights → d.weighed ≡ b.weighed →
    SetsMark b.there d.there u t true → PutsRow a d u t (xs ++ weights_of a u t)
puts_again a b d u t xs on first places slots amounts weights weighed mark =
    let A : (w v : ℕ) → amounts_of d w v ≡ amounts_of b w v = λ w v. amounts_same b d w v places.narrow amounts in
    let B : (w v : ℕ) → weights_of d w v ≡ weights_of a w v = λ w v. weights_same b d w v places.wide weights ∙ weights_same a b w v first.places.wide first.weights in
    let marks : (w v : ℕ) → is_weighed d w v ≡ is_weighed a w v = λ w v. ap (λ z. is_marked z w v) (weighed ∙ first.weighed) in
    record {
      places = record { narrow = places.narrow ∙ first.places.narrow; wide = places.wide ∙ first.places.wide };
      slots = slots ∙ first.slots;
      here = ap (λ (z : List ℕ). z ++ weights_of d u t) (A u t ∙ first.here) ∙ ap (λ (z : List ℕ). xs ++ z) (B u t);
      there = mark.here;
      weighed = marks u t ∙ on;
      others_amounts = λ w v y m other. A w v ∙ first.others w v y m other;
      others_weights = λ w v y m other. B w v;
      others_there = λ w v y m other. others_marked a.there b.there d.there u t w v first.there mark (omega (arith, y, a.nodes)) (omega (arith, m, a.rows)) other;
      others_weighed = λ w v y m other. marks w v;
    }

-- the weights of a slot at which no split row begins are those of the slot before
pub as_before : (s : Setting) (b : Begins) (k : KeptRows) (u t : ℕ) → TellsBegins s b → u < s.nodes → t < s.slots → ((v : ℕ) → t ≡ v + 1 → weights_of k u v ≡ weights_part s u v) → 0 < t → begins_at b u t ≡ false →
    weights_of k u (t - 1) ≡ weights_part s u t
as_before s b k u t tells node slot before later none =
    let at : t - 1 + 1 ≡ t = omega (arith, later) in
    before (t - 1) (sym at) ∙ (sym (tells.stay u (t - 1) node (omega (arith, slot, at)) (ap (λ (z : ℕ). begins_at b u z) at ∙ none)) ∙ ap (λ (z : ℕ). weights_part s u z) at)

-- weights are written, and the pair is marked
pub weighs : (a b d : KeptRows) (u t : ℕ) (ys : List ℕ) → PutsWeights a b u t ys → SamePlaces b d → d.slots ≡ b.slots → d.amounts ≡ b.amounts → d.weights ≡ b.weights → d.there ≡ b.there → SetsMark b.weighed d.weighed u t true → Weighs a d u t ys
weighs a b d u t ys puts places slots amounts weights there mark = record {
  places = record { narrow = places.narrow ∙ puts.places.narrow; wide = places.wide ∙ puts.places.wide };
  slots = slots ∙ puts.slots;
  here = weights_same b d u t places.wide weights ∙ puts.here;
  weighed = mark.here;
  others_weights = λ w v y m other. weights_same b d w v places.wide weights ∙ puts.others w v y m other;
  others_weighed = λ w v y m other. others_marked a.weighed b.weighed d.weighed u t w v puts.weighed mark (omega (arith, y, a.weighed_nodes)) (omega (arith, m, a.weighed_rows)) other;
  amounts = λ w v. amounts_same b d w v places.narrow amounts ∙ amounts_same a b w v puts.places.narrow puts.amounts;
  there = λ w v. ap (λ z. is_marked z w v) (there ∙ puts.there);
}

-- ---- rows that are there
pub put_kept : (a b : KeptRows) (u t : ℕ) (row : List ℕ) → PutsRow a b u t row → kept_row b u t ≡ Some row
put_kept a b u t row puts = ap (λ z. if z then Some (row_of b u t) else None) puts.there ∙ ap (λ (z : List ℕ). Some z) puts.here

same_kept : (a b : KeptRows) (w v : ℕ) → has_row b w v ≡ has_row a w v → row_of b w v ≡ row_of a w v → kept_row b w v ≡ kept_row a w v
same_kept a b w v there row = ap (λ z. if z then Some (row_of b w v) else None) there ∙ ap (λ (z : List ℕ). if has_row a w v then Some z else None) row

pub put_other : (a b : KeptRows) (u t : ℕ) (row : List ℕ) (w v : ℕ) → PutsRow a b u t row → w < nodes_kept a → v < slots_kept a → (u ≡ w → t ≡ v → ⊥) → kept_row b w v ≡ kept_row a w v
put_other a b u t row w v puts x l other = same_kept a b w v (puts.others_there w v x l other) (both_same a b w v (puts.others_amounts w v x l other) (puts.others_weights w v x l other))

pub stays_kept : (a b : KeptRows) (w v : ℕ) → SameRows a b → w < nodes_kept a → v < slots_kept a → kept_row b w v ≡ kept_row a w v
stays_kept a b w v same x l = same_kept a b w v (same.there w v) (both_same a b w v (same.amounts w v x l) (same.weights w v x l))

pub none_kept : (k : KeptRows) (u t : ℕ) → has_row k u t ≡ false → kept_row k u t ≡ None
none_kept k u t off = ap (λ z. if z then Some (row_of k u t) else None) off

pub some_kept : (k : KeptRows) (u t : ℕ) → has_row k u t ≡ true → kept_row k u t ≡ Some (row_of k u t)
some_kept k u t on = ap (λ z. if z then Some (row_of k u t) else None) on

pub same_some : (x y : List ℕ) → Some x ≡ Some y → x ≡ y
same_some x y e = cc

-- the row is another one where its amounts are, and else where its weights are
pub both_parts : (xs ys vs ws : List ℕ) → length xs ≡ length vs → xs ++ ys ≡ vs ++ ws → (xs ≡ vs) × (ys ≡ ws)
both_parts xs ys vs ws long same = (
  sym (take-append_seam xs ys) ∙ (ap (take (length xs)) same ∙ (ap (λ (n : ℕ). take n (vs ++ ws)) long ∙ take-append_seam vs ws)),
  sym (drop-append_seam xs ys) ∙ (ap (drop (length xs)) same ∙ (ap (λ (n : ℕ). drop n (vs ++ ws)) long ∙ drop-append_seam vs ws)),
)

pub kept_parts : (k : KeptRows) (u t : ℕ) (xs ys row : List ℕ) → has_row k u t ≡ true → length (amounts_of k u t) ≡ length xs → row ≡ xs ++ ys → kept_row k u t ≡ Some row → (amounts_of k u t ≡ xs) × (weights_of k u t ≡ ys)
kept_parts k u t xs ys row on long is some = both_parts (amounts_of k u t) (weights_of k u t) xs ys long (same_some (row_of k u t) row (sym (some_kept k u t on) ∙ some) ∙ is)

pub keeps_other : (k : KeptRows) (u t : ℕ) (xs ys row : List ℕ) (r : Bool) → length (amounts_of k u t) ≡ length xs → row ≡ xs ++ ys → (IsTrue r ↔ ((has_row k u t ≡ true) × (amounts_of k u t ≡ xs))) → r ≡ false → IsTrue false ↔ (kept_row k u t ≡ Some row)
keeps_other k u t xs ys row r long is told off = (
  λ yes. cc,
  λ some. elim (cases_Bool (has_row k u t)) [
    | inl on ↦ subst IsTrue off (told.1 (on, (kept_parts k u t xs ys row on long is some).0))
    | inr none ↦ let same : None ≡ Some row = sym (none_kept k u t none) ∙ some in cc
  ],
)

pub keeps_this : (k : KeptRows) (u t : ℕ) (xs ys row : List ℕ) (r : Bool) → (has_row k u t ≡ true) × (amounts_of k u t ≡ xs) → row ≡ xs ++ ys → (IsTrue r ↔ (weights_of k u t ≡ ys)) → IsTrue r ↔ (kept_row k u t ≡ Some row)
keeps_this k u t xs ys row r (on, amounts) is told = (
  λ yes. some_kept k u t on ∙ ap (λ (z : List ℕ). Some z) (rw (amounts, told.0 yes) (sym is)),
  λ some. told.1 (kept_parts k u t xs ys row on (ap length amounts) is some).1,
)

-- the weights of a row that was put
pub weights_put : (a b : KeptRows) (u t : ℕ) (xs ys : List ℕ) → u < nodes_kept a → t < slots_kept a → length xs ≡ amounts_width a u → PutsRow a b u t (xs ++ ys) → weights_of b u t ≡ ys
weights_put a b u t xs ys x l long puts =
    let wide : length (amounts_of b u t) ≡ amounts_width b u = length_row b u t (rw puts.places.narrow x) (rw puts.slots l) in
    (both_parts (amounts_of b u t) (weights_of b u t) xs ys (wide ∙ (ap (λ (p : Layout). width_in p u) puts.places.narrow ∙ sym long)) puts.here).1

-- ---- a row that is there no more
pub forgets_row : (old new : KeptRows) (u t : ℕ) → SamePlaces old new → new.slots ≡ old.slots → new.amounts ≡ old.amounts → new.weights ≡ old.weights → new.weighed ≡ old.weighed → SetsMark old.there new.there u t false →
    ForgetsRow old new u t
forgets_row old new u t places slots amounts weights weighed mark = record {
  places = places;
  slots = slots;
  gone = λ y m. none_kept new u t mark.here;
  others = λ w v y m other. same_kept old new w v (mark.others w v (omega (arith, y, old.nodes)) (omega (arith, m, old.rows)) other)
      (both_same old new w v (amounts_same old new w v places.narrow amounts) (weights_same old new w v places.wide weights));
  weights = λ w v y m. weights_same old new w v places.wide weights;
  weighed = λ w v. ap (λ z. is_marked z w v) weighed;
}

pub forgets_past : (k : KeptRows) (u t : ℕ) → slots_kept k ≤ t → ForgetsRow k k u t
forgets_past k u t past = record {
  places = same_places k;
  slots = refl;
  gone = λ y m. absurd (omega (arith, m, past));
  others = λ w v y m other. refl;
  weights = λ w v y m. refl;
  weighed = λ w v. refl;
}

-- ---- weights that are not known any more
pub unweighs : (a b : KeptRows) (u from to : ℕ) → SamePlaces a b → b.slots ≡ a.slots → b.room ≡ a.room → b.amounts ≡ a.amounts → b.weights ≡ a.weights → b.there ≡ a.there →
    ((p r : ℕ) → p < width_of a.weighed → r < rows_of a.weighed → is_marked b.weighed p r ≡ (is_marked a.weighed p r && not (in_slots u from to p r))) → Unweighs a b u from to
unweighs a b u from to places slots room amounts weights there marks = record {
  places = places;
  slots = slots;
  room = room;
  amounts = λ w v. amounts_same a b w v places.narrow amounts;
  weights = λ w v. weights_same a b w v places.wide weights;
  there = λ w v. ap (λ z. is_marked z w v) there;
  weighed = λ w v x l. marks w v (omega (arith, x, a.weighed_nodes)) (omega (arith, l, a.weighed_rows));
}

-- ---- further slots
pub same_rows : (a b : KeptRows) → SamePlaces a b → ((w v : ℕ) → w < nodes_kept a → v < slots_kept a → amounts_of b w v ≡ amounts_of a w v) → ((w v : ℕ) → w < nodes_kept a → v < slots_kept a → weights_of b w v ≡ weights_of a w v) →
    ((p r : ℕ) → is_marked b.there p r ≡ is_marked a.there p r) → ((p r : ℕ) → is_marked b.weighed p r ≡ is_marked a.weighed p r) → SameRows a b
same_rows a b places amounts weights marks weighed = record { places = places; amounts = amounts; weights = weights; there = marks; weighed = weighed }

pub amounts_kept : (a b : KeptRows) → b.narrow ≡ a.narrow → b.amounts.items ≡ a.amounts.items → (w v : ℕ) → amounts_of b w v ≡ amounts_of a w v
unfolding amounts_of
amounts_kept a b places items w v = rw (places, items) refl

pub weights_kept : (a b : KeptRows) → b.wide ≡ a.wide → b.weights.items ≡ a.weights.items → (w v : ℕ) → weights_of b w v ≡ weights_of a w v
unfolding weights_of
weights_kept a b places items w v = rw (places, items) refl

pub amounts_resized : (a b : KeptRows) (n : ℕ) (more : List ℕ) → b.narrow ≡ a.narrow → a.room * slot_width a.narrow ≤ n → b.amounts.items ≡ take n a.amounts.items ++ more → (w v : ℕ) → w < nodes_kept a → v < slots_kept a → amounts_of b w v ≡ amounts_of a w v
unfolding amounts_of
amounts_resized a b n more places enough items w v x l = rw (places, items) (resized_rows a.narrow a.amounts.items more n a.room w v x (in_room a v l) enough a.amounts_long)

pub weights_resized : (a b : KeptRows) (n : ℕ) (more : List ℕ) → b.wide ≡ a.wide → a.room * slot_width a.wide ≤ n → b.weights.items ≡ take n a.weights.items ++ more → (w v : ℕ) → w < nodes_kept a → v < slots_kept a → weights_of b w v ≡ weights_of a w v
unfolding weights_of
weights_resized a b n more places enough items w v x l = rw (places, items) (resized_rows a.wide a.weights.items more n a.room w v (wide_node a w x) (in_room a v l) enough a.weights_long)

pub wider : (room slots width given : ℕ) → room ≤ slots → given ≡ width → room * width ≤ slots * given
wider room slots width given l is = omega (arith, mul-le-mul_right width l, ap (λ (z : ℕ). slots * z) is)

-- ---- zeros stand where nothing was put
pub zero_amounts : (k : KeptRows) (u t : ℕ) → k.amounts.items ≡ replicate (k.room * slot_width k.narrow) 0 → u < nodes_kept k → t < slots_kept k → amounts_of k u t ≡ replicate (amounts_width k u) 0
unfolding amounts_of
zero_amounts k u t items x l = rw items (zeros_in k.narrow k.room u t x (in_room k t l))

-- so they do in the part of the table between the ends of a row
pub zeros_cut : (k : KeptRows) (u t from to : ℕ) (xs : List ℕ) → from ≡ start_in k.narrow u t → to ≡ start_in k.narrow u t + amounts_width k u → xs ≡ k.amounts.items → amounts_of k u t ≡ replicate (amounts_width k u) 0 →
    slice_range xs from to ≡ replicate (amounts_width k u) 0
unfolding amounts_of row_in
zeros_cut k u t from to xs start end same zeros = rw (same, start, end) zeros

-- ---- rows that lie where they lay have the widths that they had
pub rows_at : (s : Setting) (before slots : ℕ) (old new : KeptRows) → HasRows s before old → SamePlaces old new → new.slots ≡ slots → HasRows s slots new
rows_at s before slots old new has places same = record {
  amounts = subst (λ (z : Layout). LiesAs s Amounts z) (sym places.narrow) has.amounts;
  weights = subst (λ (z : Layout). LiesAs s Weights z) (sym places.wide) has.weights;
  same_slots = same;
}

pub rows_lie : (s : Setting) (slots : ℕ) (old new : KeptRows) → HasRows s slots old → SamePlaces old new → new.slots ≡ old.slots → HasRows s slots new
rows_lie s slots old new has places same = rows_at s slots slots old new has places (same ∙ has.same_slots)
