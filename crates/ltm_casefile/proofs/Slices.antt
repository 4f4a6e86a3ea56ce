-- What the slices of a profile get of an amount.
use Rattle.std.proofs.Common.{◌≡◌, ℕ, ◌+◌, ◌*◌, ◌/◌, ◌<◌, ◌≤◌, ◌==◌, List, [], ◌∷◌, true, false, Result, Ok, Err, refl, sym, ap, subst, ◌∙◌, arith}
use Rattle.std.specs.Prelude.{sum_by, not}
use Rattle.std.proofs.Math.Nat.{div-mul-le_self, mul-le-mul_left, mul-div_left, zero-div}
use Rattle.std.proofs.lemmas.Nat.{le-div}
use Rattle.std.proofs.lemmas.Bool.Decides.{nat_tests}
use Rattle.std.proofs.lemmas.List.Sums.{sum_by-append, sum_by-cons}
use Rattle.ltm_units.specs.Results.{refuse}
use Rattle.ltm_scenario.specs.Build.{◌>>=◌}
use Rattle.ltm_records.specs.Fields.{Fields}
use Rattle.ltm_casefile.specs.declared.faults.CaseCause.{CaseCause}
use Rattle.ltm_casefile.specs.declared.faults.CaseCause.TheVariants as cause
use Rattle.ltm_casefile.specs.declared.faults.File.{File}
use Rattle.ltm_casefile.specs.declared.faults.File.TheVariants as file
use Rattle.ltm_casefile.specs.declared.profile.SliceRecord.{SliceRecord}
use Rattle.ltm_casefile.specs.declared.profile.Slice.{Slice}
use Rattle.ltm_casefile.specs.Rows.{at_row, rows_from}
use Rattle.ltm_casefile.specs.Profile.{ProfileData, no_slices, is_profile_header, slice_record, is_next, is_share, with_slice, slice_added, slices_of, profile_of}
use Rattle.ltm_casefile.specs.Matrix.{given, part_of, NothingIsLost}

div_rises : (x y k : ℕ) → 0 < k → x ≤ y → x / k ≤ y / k
div_rises x y k some less = le-div (x / k) y k some (omega (arith, div-mul-le_self x k))

-- more shares get no less, all of them get all, and none gets nothing
given_rises : (total amount less more : ℕ) → 1 ≤ total → less ≤ more → given total amount less ≤ given total amount more
given_rises total amount less more some l = div_rises (amount * less) (amount * more) total (omega arith) (mul-le-mul_left amount l)

given_whole : (total amount : ℕ) → 1 ≤ total → given total amount total ≡ amount
given_whole total amount some = mul-div_left amount (omega arith)

given_none : (total amount : ℕ) → given total amount 0 ≡ 0
given_none total amount = ap (λ n. n / total) (let none : amount * 0 ≡ 0 = omega arith in none) ∙ zero-div total

-- what the slices get is what all their shares get
abbrev Sums : ProfileData → Type 0
Sums p = (total amount : ℕ) → 1 ≤ total → sum_by (part_of total amount) p.slices ≡ given total amount p.total

sums_more : (p : ProfileData) (r : SliceRecord) → Sums p → Sums (with_slice p r)
sums_more p r sums total amount some =
    let slice : Slice = record { from = r.from; to = r.to; before = p.total; up_to = p.total + r.share } in
    let rises = given_rises total amount p.total (p.total + r.share) some (omega arith) in
    let last : sum_by (part_of total amount) (slice ∷ []) ≡ part_of total amount slice + 0 = sum_by-cons (part_of total amount) slice [] in
    let both = sum_by-append (part_of total amount) p.slices (slice ∷ []) in
    let first = sums total amount some in
    both ∙ ap (λ n. n + sum_by (part_of total amount) (slice ∷ [])) first ∙ ap (λ n. given total amount p.total + n) last ∙ omega (arith, rises)

-- ---- what comes of the records
abbrev Well : {A F : Type 0} → (A → Type 0) → Result A F → Type 0
Well P (Ok x) = P x
Well P (Err fault) = Unit {0}

then_well : {A B F : Type 0} (P : B → Type 0) (r : Result A F) (next : A → Result B F) → ((x : A) → Well P (next x)) → Well P (r >>= next)
then_well P (Ok x) next well = well x
then_well P (Err fault) next well = tt

after_well : {A B F : Type 0} (P : A → Type 0) (Q : B → Type 0) (r : Result A F) (next : A → Result B F) → Well P r → ((x : A) → P x → Well Q (next x)) → Well Q (r >>= next)
after_well P Q (Ok x) next first second = second x first
after_well P Q (Err fault) next first second = tt

row_well : {A : Type 0} (P : A → Type 0) (f : File) (row : ℕ) (r : Result A CaseCause) → Well P r → Well P (at_row f row r)
row_well P f row (Ok x) well = well
row_well P f row (Err c) well = tt

well_is : {A F : Type 0} (P : A → Type 0) (r : Result A F) (x : A) → Well P r → r ≡ Ok x → P x
well_is P (Ok y) x well is = subst P (let same : y ≡ x = cc in same) well
well_is P (Err fault) x well is = cc

slice_sums : (slots : ℕ) (p : ProfileData) (fields : Fields) → Sums p → Well Sums (slice_added slots p fields)
slice_sums slots p fields sums =
    then_well Sums (slice_record fields) _ (λ r.
    then_well Sums (refuse (not (is_next slots p r)) cause.BadSlots) _ (λ _.
    then_well Sums (refuse (not (is_share r.share)) (cause.Range 3)) _ (λ _. sums_more p r sums)))

rows_sum : (slots row : ℕ) (p : ProfileData) (rows : List Fields) → Sums p → Well Sums (rows_from file.Profile (slice_added slots) row p rows)
rows_sum slots row p [] sums = sums
rows_sum slots row p (fields ∷ rest) sums =
    after_well Sums Sums (at_row file.Profile row (slice_added slots p fields)) _ (row_well Sums file.Profile row (slice_added slots p fields) (slice_sums slots p fields sums)) (λ next is.
    rows_sum slots (row + 1) next rest is)

-- of a profile that is read
record Lossless (p : ProfileData) : Type 0 where
  some : 1 ≤ p.total
  sums : Sums p

none_sum : Sums no_slices
none_sum total amount some = sym (given_none total amount)

some_shares : (p : ProfileData) → Sums p → Well Lossless (at_row file.Profile 2 (refuse (p.total == 0) cause.Rows) >>= λ _. Ok p)
some_shares p sums = elim (p.total == 0) as (λ b. (p.total == 0) ≡ b → Well Lossless (at_row file.Profile 2 (refuse b cause.Rows) >>= λ _. Ok p)) [
  | true ↦ λ _. tt
  | false ↦ λ is. record { some = grind (arith, nat_tests); sums = sums }
] refl

slices_lossless : (slots : ℕ) (rows : List Fields) → Well Lossless (slices_of slots rows)
slices_lossless slots rows =
    after_well Sums Lossless (rows_from file.Profile (slice_added slots) 2 no_slices rows) _ (rows_sum slots 2 no_slices rows none_sum) (λ p sums. some_shares p sums)

profile_lossless : (slots : ℕ) (rows : List Fields) → Well Lossless (profile_of slots rows)
unfolding profile_of
profile_lossless slots [] = tt
profile_lossless slots (header ∷ rows) = then_well Lossless (at_row file.Profile 1 (refuse (not (is_profile_header header)) cause.Header)) _ (λ _. slices_lossless slots rows)

pub nothing_is_lost : NothingIsLost
nothing_is_lost slots rows p is amount =
    let well = well_is Lossless (profile_of slots rows) p (profile_lossless slots rows) is in
    well.sums p.total amount well.some ∙ given_whole p.total amount well.some
