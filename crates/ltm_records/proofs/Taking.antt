-- What one read of a reader does to the records that it has left.
use Rattle.std.proofs.Common.{ℕ, ◌≡◌, List, [], ◌∷◌, length, Option, Some, None, true, false, Bool, refl, ap, add-one}
use Rattle.std.specs.Prelude.{if◌then◌else◌}
use Rattle.csv.specs.Machine.{Read, next_record}
use Rattle.csv.specs.Reading.{default_config, records_from, records_next, NextIs, ReadsNext, ReadRecord, source_of, pending_of, has_failed}
use Rattle.csv.specs.declared.reader.Reader.{Reader}
use Rattle.csv.specs.declared.parser.State.{State}
use Rattle.ltm_records.specs.Fields.{Fields}
use Rattle.ltm_records.specs.Left.{left_from, left_of, IsReading}
use Rattle.ltm_records.proofs.Fuel.{behind_next}

of_next : (s s2 : State) (xs ys : List ℕ) (f : Fields) (o : Option Read) → next_record default_config s [] [] xs ≡ o → NextIs o true f s2 ys
    → records_next (records_from default_config (length xs)) o ≡ f ∷ left_from s2 (Some ys)
of_next s s2 xs ys f None e h = cc h
of_next s s2 xs ys f (Some q) e h = rw (h.1, h.2, h.3) (ap (λ rows. q.0 ∷ rows) (behind_next default_config s xs q e))

first : (s s2 : State) (xs : List ℕ) (after : Option (List ℕ)) (f : Fields) → ReadsNext default_config s (Some xs) after true f s2 → left_from s (Some xs) ≡ f ∷ left_from s2 after
unfolding records_from
first s s2 xs None f h = absurd h
first s s2 xs (Some ys) f h = rw add-one (of_next s s2 xs ys f (next_record default_config s [] [] xs) refl h)

of_none : (n : ℕ) (s2 : State) (ys : List ℕ) (f : Fields) (o : Option Read) → NextIs o false f s2 ys → records_next (records_from default_config n) o ≡ []
of_none n s2 ys f None h = refl
of_none n s2 ys f (Some q) h = cc h.0

none : (s s2 : State) (xs : List ℕ) (after : Option (List ℕ)) (f : Fields) → ReadsNext default_config s (Some xs) after false f s2 → left_from s (Some xs) ≡ []
unfolding records_from
none s s2 xs None f h = absurd h
none s s2 xs (Some ys) f h = rw add-one (of_none (length xs) s2 ys f (next_record default_config s [] [] xs) h)

-- a reader that has not failed knows its bytes, where those of the reader underneath are known
one_of : (b : Bool) (x y : List ℕ) → (z : List ℕ) × ((if b then Some x else Some y) ≡ Some z)
one_of true x y = (x, refl)
one_of false x y = (y, refl)

knows : {R : Type 0} (rem : R → Option (List ℕ)) (r : Reader R) (z : List ℕ) → rem r.rdr ≡ Some z → has_failed r ≡ false → (y : List ℕ) × (source_of rem r ≡ Some y)
knows rem r z e goes = rw (goes, e) (one_of _ _ _)

-- a record that was read was the first of those left
pub taken : {R : Type 0} (rem : R → Option (List ℕ)) (a b : Reader R) (z : List ℕ) (f : Fields) → rem a.rdr ≡ Some z → IsReading a → ReadRecord rem a b true f → left_of rem a ≡ f ∷ left_of rem b
taken rem a b z f e is r =
    let (y, source) = knows rem a z e is.goes in
    let h = rw (is.config, source) at r.0 in
    rw (source, r.1) (first a.state b.state y (pending_of (rem b.rdr) b) f h)

-- where none was read, none was left
pub ended : {R : Type 0} (rem : R → Option (List ℕ)) (a b : Reader R) (z : List ℕ) (f : Fields) → rem a.rdr ≡ Some z → IsReading a → ReadRecord rem a b false f → left_of rem a ≡ []
ended rem a b z f e is r =
    let (y, source) = knows rem a z e is.goes in
    let h = rw (is.config, source) at r.0 in
    rw source (none a.state b.state y (pending_of (rem b.rdr) b) f h)
