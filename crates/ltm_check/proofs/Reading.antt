-- Counts that are read one behind another.
use Rattle.std.proofs.Common.{ℕ, ◌≡◌, ◌≢◌, ◌+◌, ◌<◌, ◌≤◌, ◌⊎◌, List, [], ◌∷◌, ◌++◌, length, slice_index, Option, Some, None, refl, inl, inr, sym, ap, ◌∙◌, arith, append_assoc, length-append}
use Rattle.std.specs.List.{slice_split}
use Rattle.std.proofs.lemmas.Grind.{common_steps}
use Rattle.std.proofs.lemmas.Bool.{cases_lt}
use Rattle.std.proofs.lemmas.List.{get_or_push, get_or_append_left}
use Rattle.std.proofs.lemmas.List.Splits.{length-slice_split}
use Rattle.ltm_curve.specs.Table.{counts_of, groups_of, slots_of, destinations_of, SameShape, IsIn, Sets}
use Rattle.ltm_curve.specs.declared.curves.Curves.{Curves}
use Rattle.ltm_records.specs.Pieces.{is_space, pieces_behind}
use Rattle.ltm_check.specs.CountsTold.{count_told, onto, each_told, if_many, counts_told}
use Rattle.ltm_check.specs.Kept.{clipped_count}

-- some counts and those that follow them, where those are counts
abbrev pub before : List ℕ → Option (List ℕ) → Option (List ℕ)
before counts (Some more) = Some (counts ++ more)
before counts None = None

pub one_more : (counts : List ℕ) (count : ℕ) (more : Option (List ℕ)) → before counts (onto (Some count) more) ≡ before (counts ++ count ∷ []) more
one_more counts count (Some more) = rw append_assoc refl
one_more counts count None = refl

-- the counts read so far are put, and no other count changed
pub record PutsFirst (old new : Curves) (group destination : ℕ) (counts : List ℕ) : Type 0 where
  pub shape : SameShape new old
  pub here : (k : ℕ) → k < length counts → counts_of new group destination k ≡ clipped_count (slice_index counts k)
  pub others : (g d k : ℕ) → IsIn old g d k → (g ≢ group) ⊎ (d ≢ destination) → counts_of new g d k ≡ counts_of old g d k

in_shape : (old mid : Curves) (g d k : ℕ) → SameShape mid old → IsIn old g d k → IsIn mid g d k
in_shape old mid g d k shape there = record {
  is_group = omega (arith, there.is_group, shape.groups);
  is_destination = omega (arith, there.is_destination, shape.destinations);
  is_boundary = omega (arith, there.is_boundary, shape.slots);
}

-- one count more
pub puts_next : (old mid new : Curves) (group destination boundary count : ℕ) (counts : List ℕ) → length counts ≡ boundary → group < groups_of old → destination < destinations_of old → boundary ≤ slots_of old
    → PutsFirst old mid group destination counts → Sets mid new group destination boundary (clipped_count count) → PutsFirst old new group destination (counts ++ count ∷ [])
puts_next old mid new group destination boundary count counts long x y z done set = record {
  shape = record {
    groups = set.shape.groups ∙ done.shape.groups;
    destinations = set.shape.destinations ∙ done.shape.destinations;
    slots = set.shape.slots ∙ done.shape.slots;
  };
  here = λ k l. elim (cases_lt k boundary) [
    | inl less ↦
        let there : IsIn old group destination k = record { is_group = x; is_destination = y; is_boundary = omega arith } in
        set.others group destination k (in_shape old mid group destination k done.shape there) (inr (inr (λ e. omega arith)))
        ∙ (done.here k (omega arith) ∙ ap clipped_count (sym (get_or_append_left counts (count ∷ []) 0 k (omega arith))))
    | inr last ↦
        let at : k ≡ boundary = omega (arith, length-append counts (count ∷ [])) in
        ap (λ (j : ℕ). counts_of new group destination j) at ∙ (set.here ∙ ap clipped_count (sym (get_or_push counts count 0 k (omega arith))))
  ];
  others = λ g d k there other. elim other [
    | inl ne ↦ set.others g d k (in_shape old mid g d k done.shape there) (inl ne) ∙ done.others g d k there (inl ne)
    | inr ne ↦ set.others g d k (in_shape old mid g d k done.shape there) (inr (inl ne)) ∙ done.others g d k there (inr ne)
  ];
}

some_same : (a b : List ℕ) → Some a ≡ Some b → a ≡ b
some_same a b e = grind (arith, common_steps)

onto_length : (first : Option ℕ) (more : Option (List ℕ)) (n : ℕ) (counts : List ℕ) → ((cs : List ℕ) → more ≡ Some cs → length cs ≡ n) → onto first more ≡ Some counts → length counts ≡ n + 1
onto_length None more n counts long e = cc e
onto_length (Some count) None n counts long e = cc e
onto_length (Some count) (Some cs) n counts long e =
    let same : count ∷ cs ≡ counts = some_same (count ∷ cs) counts e in
    let all : length (count ∷ cs) ≡ length counts = ap length same in
    omega (arith, long cs refl)

-- as many texts tell as many counts
each_length : (texts : List (List ℕ)) (counts : List ℕ) → each_told texts ≡ Some counts → length counts ≡ length texts
each_length [] counts e = ap length (sym (some_same [] counts e))
each_length (text ∷ texts) counts e = let long = onto_length (count_told text) (each_told texts) (length texts) counts (λ more f. each_length texts more f) e in omega (arith, long)

-- one text more
pub told_next : (text rest first counts : List ℕ) (count : ℕ) (more : List (List ℕ)) → each_told (slice_split is_space text) ≡ before counts (each_told (slice_split is_space rest)) → slice_split is_space rest ≡ first ∷ more → count_told first ≡ Some count
    → each_told (slice_split is_space text) ≡ before (counts ++ count ∷ []) (each_told more)
told_next text rest first counts count more told cut is =
    told ∙ (ap (λ (z : List (List ℕ)). before counts (each_told z)) cut ∙ (ap (λ (z : Option ℕ). before counts (onto z (each_told more))) is ∙ one_more counts count (each_told more)))

-- a text of which more is left than is due
too_many : (counts : List ℕ) (many n : ℕ) (more : Option (List ℕ)) → many ≤ length counts → 0 < n → ((cs : List ℕ) → more ≡ Some cs → length cs ≡ n) → if_many many (before counts more) ≡ None
too_many counts many n None l z long = refl
too_many counts many n (Some cs) l z long =
    let all = length-append counts cs in
    let some = long cs refl in
    grind (arith, common_steps)

pub told_more : (text counts rest : List ℕ) (many : ℕ) → each_told (slice_split is_space text) ≡ before counts (each_told (pieces_behind (Some rest))) → many ≤ length counts → counts_told many text ≡ None
told_more text counts rest many e l =
    rw e (too_many counts many (length (slice_split is_space rest)) (each_told (slice_split is_space rest)) l (omega (arith, length-slice_split is_space rest)) (λ cs f. each_length (slice_split is_space rest) cs f))
