-- A line's end that stands in no quotes ends a record, or stands between two.
use Rattle.std.proofs.Common.{◌≡◌, ◌≢◌, ℕ, zero, suc, ◌+◌, ◌<◌, ◌≤◌, ◌⊎◌, ◌==◌, not, Bool, true, false, List, [], ◌∷◌, ◌++◌, length, Option, Some, None, inl, inr, refl, sym, ap, subst, ◌∙◌, arith, add-one}
use Rattle.std.specs.List.{list_all}
use Rattle.std.proofs.lemmas.Bool.{cases_Bool}
use Rattle.std.proofs.lemmas.Bool.Decides.{nat_tests}
use Rattle.std.proofs.lemmas.Grind.{common_steps}
use Rattle.csv.specs.Machine.{Read, next_record, step, in_field, is_end, fields_after, field_after}
use Rattle.csv.specs.Reading.{default_config, records_from, strip_bom, is_bom}
use Rattle.csv.specs.declared.parser.State.{State}
use Rattle.csv.specs.declared.parser.State.TheVariants as st
use Rattle.csv.specs.declared.parser.Action.{Action}
use Rattle.csv.specs.declared.parser.Action.TheVariants as act
use Rattle.ltm_records.specs.Fields.{Fields}
use Rattle.ltm_records.proofs.Fuel.{behind_next, shrinks_more, last}
use Rattle.ltm_check.specs.Pieces.{IsUnquoted, CutAtLineEnd}

abbrev is_unquoted : List ℕ → Bool
is_unquoted text = list_all (λ b. not (b == 34)) text

-- the states of a text without quotes: between two records, and inside one
abbrev is_between : State → Bool
is_between st.StartRecord = true
is_between st.AfterCr = true
is_between st.StartField = false
is_between st.InField = false
is_between st.InQuoted = false
is_between st.AfterQuote = false
is_between st.InEscape = false
is_between st.InComment = false

abbrev is_inside : State → Bool
is_inside st.StartField = true
is_inside st.InField = true
is_inside st.StartRecord = false
is_inside st.AfterCr = false
is_inside st.InQuoted = false
is_inside st.AfterQuote = false
is_inside st.InEscape = false
is_inside st.InComment = false

abbrev Plain : State → Type 0
Plain s = (is_between s ≡ true) ⊎ (is_inside s ≡ true)

-- ---- one byte
abbrev Kinds : State × Action → Type 0
Kinds r = (r ≡ (st.StartField, act.EndField)) ⊎ ((r ≡ (st.AfterCr, act.EndRecord)) ⊎ ((r ≡ (st.StartRecord, act.EndRecord)) ⊎ (r ≡ (st.InField, act.Copy))))

in_field_kinds : (c : ℕ) → Kinds (in_field default_config c)
in_field_kinds c = elim (cases_Bool (c == 44)) [
  | inl comma ↦ rw comma (inl refl)
  | inr no_comma ↦ elim (cases_Bool (c == 13)) [
    | inl cr ↦ rw (no_comma, cr) (inr (inl refl))
    | inr no_cr ↦ elim (cases_Bool (c == 10)) [
      | inl lf ↦ rw (no_comma, no_cr, lf) (inr (inr (inl refl)))
      | inr no_lf ↦ rw (no_comma, no_cr, no_lf) (inr (inr (inr refl)))
    ]
  ]
]

inside_step : (s : State) (c : ℕ) → is_inside s ≡ true → (c == 34) ≡ false → step default_config s c ≡ in_field default_config c
inside_step st.StartField c h e = rw e refl
inside_step st.InField c h e = refl
inside_step st.StartRecord c h e = absurd (cc h)
inside_step st.AfterCr c h e = absurd (cc h)
inside_step st.InQuoted c h e = absurd (cc h)
inside_step st.AfterQuote c h e = absurd (cc h)
inside_step st.InEscape c h e = absurd (cc h)
inside_step st.InComment c h e = absurd (cc h)

-- inside a record the text goes on with it or ends it
inside_kinds : (s : State) (c : ℕ) → is_inside s ≡ true → (c == 34) ≡ false → Kinds (step default_config s c)
inside_kinds s c h e = subst Kinds (sym (inside_step s c h e)) (in_field_kinds c)

-- between two records it also may be passed over
first_kinds : (c : ℕ) → (c == 34) ≡ false → (step default_config st.StartRecord c ≡ (st.StartRecord, act.Skip)) ⊎ Kinds (step default_config st.StartRecord c)
first_kinds c e = elim (cases_Bool (c == 13)) [
  | inl cr ↦ rw cr (inl refl)
  | inr no_cr ↦ elim (cases_Bool (c == 10)) [
    | inl lf ↦ rw (no_cr, lf) (inl refl)
    | inr no_lf ↦ rw (no_cr, no_lf, e) (inr (let k = in_field_kinds c in rw (no_cr, no_lf) at k))
  ]
]

between_kinds : (s : State) (c : ℕ) → is_between s ≡ true → (c == 34) ≡ false → (step default_config s c ≡ (st.StartRecord, act.Skip)) ⊎ Kinds (step default_config s c)
between_kinds st.StartRecord c h e = first_kinds c e
between_kinds st.AfterCr c h e = elim (cases_Bool (c == 10)) [
  | inl lf ↦ rw lf (inl refl)
  | inr no_lf ↦ rw no_lf (let k = first_kinds c e in rw no_lf at k)
]
between_kinds st.StartField c h e = absurd (cc h)
between_kinds st.InField c h e = absurd (cc h)
between_kinds st.InQuoted c h e = absurd (cc h)
between_kinds st.AfterQuote c h e = absurd (cc h)
between_kinds st.InEscape c h e = absurd (cc h)
between_kinds st.InComment c h e = absurd (cc h)

-- ---- the next record
abbrev Text : Type 0
Text = List ℕ

-- a byte that ends no record
goes_on : (s s2 : State) (a : Action) (f : Fields) (p : Text) (c : ℕ) (xs : Text) → step default_config s c ≡ (s2, a) → is_end a ≡ false → next_record default_config s f p (c ∷ xs) ≡ next_record default_config s2 (fields_after a f p) (field_after a c p) xs
unfolding next_record
goes_on s s2 a f p c xs e h = rw (e, h) refl

-- a byte that ends one
ends : (s s2 : State) (a : Action) (f : Fields) (p : Text) (c : ℕ) (xs : Text) → step default_config s c ≡ (s2, a) → is_end a ≡ true → next_record default_config s f p (c ∷ xs) ≡ Some (fields_after a f p, s2, xs)
unfolding next_record
ends s s2 a f p c xs e h = rw (e, h) refl

-- the record that stands at the end of a text is read
at_end : (s : State) (f : Fields) (p : Text) → is_inside s ≡ true → next_record default_config s f p [] ≡ Some (f ++ (p ∷ []), st.StartRecord, [])
unfolding next_record
at_end st.StartField f p h = refl
at_end st.InField f p h = refl
at_end st.StartRecord f p h = absurd (cc h)
at_end st.AfterCr f p h = absurd (cc h)
at_end st.InQuoted f p h = absurd (cc h)
at_end st.AfterQuote f p h = absurd (cc h)
at_end st.InEscape f p h = absurd (cc h)
at_end st.InComment f p h = absurd (cc h)

none_at_end : (s : State) (f : Fields) (p : Text) → is_between s ≡ true → next_record default_config s f p [] ≡ None
unfolding next_record
none_at_end st.StartRecord f p h = refl
none_at_end st.AfterCr f p h = refl
none_at_end st.StartField f p h = absurd (cc h)
none_at_end st.InField f p h = absurd (cc h)
none_at_end st.InQuoted f p h = absurd (cc h)
none_at_end st.AfterQuote f p h = absurd (cc h)
none_at_end st.InEscape f p h = absurd (cc h)
none_at_end st.InComment f p h = absurd (cc h)

-- a line's end ends it too
line_ends : (s : State) → is_inside s ≡ true → step default_config s 10 ≡ (st.StartRecord, act.EndRecord)
line_ends st.StartField h = refl
line_ends st.InField h = refl
line_ends st.StartRecord h = absurd (cc h)
line_ends st.AfterCr h = absurd (cc h)
line_ends st.InQuoted h = absurd (cc h)
line_ends st.AfterQuote h = absurd (cc h)
line_ends st.InEscape h = absurd (cc h)
line_ends st.InComment h = absurd (cc h)

line_passed : (s : State) → is_between s ≡ true → step default_config s 10 ≡ (st.StartRecord, act.Skip)
line_passed st.StartRecord h = refl
line_passed st.AfterCr h = refl
line_passed st.StartField h = absurd (cc h)
line_passed st.InField h = absurd (cc h)
line_passed st.InQuoted h = absurd (cc h)
line_passed st.AfterQuote h = absurd (cc h)
line_passed st.InEscape h = absurd (cc h)
line_passed st.InComment h = absurd (cc h)

-- ---- what follows a text behind a line's end changes its next record only where that is its last
abbrev Follows : State → Fields → Text → Text → Text → Option Read → Type 0
Follows s f p front rest None = next_record default_config s f p (front ++ 10 ∷ rest) ≡ next_record default_config st.StartRecord f p rest
Follows s f p front rest (Some q) =
    Plain q.1 × (is_unquoted q.2 ≡ true)
    × ((next_record default_config s f p (front ++ 10 ∷ rest) ≡ Some (q.0, q.1, q.2 ++ 10 ∷ rest))
    ⊎ ((q.1 ≡ st.StartRecord) × (q.2 ≡ []) × (next_record default_config s f p (front ++ 10 ∷ rest) ≡ Some (q.0, st.StartRecord, rest))))

unquoted_first : (c : ℕ) (xs : Text) → is_unquoted (c ∷ xs) ≡ true → ((c == 34) ≡ false) × (is_unquoted xs ≡ true)
unquoted_first c xs h = elim (cases_Bool (c == 34)) [
  | inl quote ↦ absurd (let g = rw quote at h in cc g)
  | inr no_quote ↦ (no_quote, let g = rw no_quote at h in g)
]

-- a record that has begun is read
inside_some : (s : State) (f : Fields) (p xs : Text) → is_inside s ≡ true → is_unquoted xs ≡ true → (q : Read) × (next_record default_config s f p xs ≡ Some q)
inside_some s f p [] h plain = (_, at_end s f p h)
inside_some s f p (c ∷ xs) h plain =
    let (no_quote, rest) = unquoted_first c xs plain in
    elim (inside_kinds s c h no_quote) [
      | inl field ↦ let (q, e) = inside_some st.StartField (f ++ (p ∷ [])) [] xs refl rest in (q, goes_on s st.StartField act.EndField f p c xs field refl ∙ e)
      | inr other ↦ elim other [
        | inl cr ↦ (_, ends s st.AfterCr act.EndRecord f p c xs cr refl)
        | inr more ↦ elim more [
          | inl lf ↦ (_, ends s st.StartRecord act.EndRecord f p c xs lf refl)
          | inr copy ↦ let (q, e) = inside_some st.InField f (p ++ (c ∷ [])) xs refl rest in (q, goes_on s st.InField act.Copy f p c xs copy refl ∙ e)
        ]
      ]
    ]

-- one byte before
before_skip : (s s2 : State) (f : Fields) (p : Text) (c : ℕ) (xs rest : Text) (o : Option Read) → next_record default_config s f p (c ∷ xs ++ 10 ∷ rest) ≡ next_record default_config s2 f p (xs ++ 10 ∷ rest) → Follows s2 f p xs rest o → Follows s f p (c ∷ xs) rest o
before_skip s s2 f p c xs rest None e h = e ∙ h
before_skip s s2 f p c xs rest (Some q) e h = (h.0, h.1, elim h.2 [ inl on ↦ inl (e ∙ on) | inr last ↦ inr (last.0, last.1, e ∙ last.2) ])

before_some : (s s2 : State) (f f2 : Fields) (p p2 : Text) (c : ℕ) (xs rest : Text) (q : Read) → next_record default_config s f p (c ∷ xs ++ 10 ∷ rest) ≡ next_record default_config s2 f2 p2 (xs ++ 10 ∷ rest) → Follows s2 f2 p2 xs rest (Some q) → Follows s f p (c ∷ xs) rest (Some q)
before_some s s2 f f2 p p2 c xs rest q e h = (h.0, h.1, elim h.2 [ inl on ↦ inl (e ∙ on) | inr last ↦ inr (last.0, last.1, e ∙ last.2) ])

-- where the byte goes on inside a record
inside_on : (s s2 : State) (a : Action) (f : Fields) (p : Text) (c : ℕ) (xs rest : Text) → step default_config s c ≡ (s2, a) → is_end a ≡ false → is_inside s2 ≡ true → is_unquoted xs ≡ true
    → Follows s2 (fields_after a f p) (field_after a c p) xs rest (next_record default_config s2 (fields_after a f p) (field_after a c p) xs) → Follows s f p (c ∷ xs) rest (next_record default_config s f p (c ∷ xs))
inside_on s s2 a f p c xs rest e h inside plain follows =
    let (q, is) = inside_some s2 (fields_after a f p) (field_after a c p) xs inside plain in
    subst (Follows s f p (c ∷ xs) rest) (sym (goes_on s s2 a f p c xs e h ∙ is))
    (before_some s s2 f (fields_after a f p) p (field_after a c p) c xs rest q (goes_on s s2 a f p c (xs ++ 10 ∷ rest) e h) (subst (Follows s2 (fields_after a f p) (field_after a c p) xs rest) is follows))

-- where it ends one
ended_on : (s s2 : State) (f : Fields) (p : Text) (c : ℕ) (xs rest : Text) → step default_config s c ≡ (s2, act.EndRecord) → Plain s2 → is_unquoted xs ≡ true → Follows s f p (c ∷ xs) rest (next_record default_config s f p (c ∷ xs))
ended_on s s2 f p c xs rest e plain unquoted =
    subst (Follows s f p (c ∷ xs) rest) (sym (ends s s2 act.EndRecord f p c xs e refl)) (plain, unquoted, inl (ends s s2 act.EndRecord f p c (xs ++ 10 ∷ rest) e refl))

follows : (s : State) (f : Fields) (p front rest : Text) → Plain s → is_unquoted front ≡ true → Follows s f p front rest (next_record default_config s f p front)
follows s f p [] rest plain h = elim plain [
  | inl between ↦ subst (Follows s f p [] rest) (sym (none_at_end s f p between)) (goes_on s st.StartRecord act.Skip f p 10 rest (line_passed s between) refl)
  | inr inside ↦ subst (Follows s f p [] rest) (sym (at_end s f p inside)) (inl refl, refl, inr (refl, refl, ends s st.StartRecord act.EndRecord f p 10 rest (line_ends s inside) refl))
]
follows s f p (c ∷ xs) rest plain h =
    let (no_quote, unquoted) = unquoted_first c xs h in
    let kinds : (step default_config s c ≡ (st.StartRecord, act.Skip)) ⊎ Kinds (step default_config s c) =
    elim plain [ inl between ↦ between_kinds s c between no_quote | inr inside ↦ inr (inside_kinds s c inside no_quote) ] in
    elim kinds [
      | inl skip ↦ subst (Follows s f p (c ∷ xs) rest) (sym (goes_on s st.StartRecord act.Skip f p c xs skip refl))
          (before_skip s st.StartRecord f p c xs rest (next_record default_config st.StartRecord f p xs) (goes_on s st.StartRecord act.Skip f p c (xs ++ 10 ∷ rest) skip refl) (follows st.StartRecord f p xs rest (inl refl) unquoted))
      | inr kind ↦ elim kind [
        | inl field ↦ inside_on s st.StartField act.EndField f p c xs rest field refl refl unquoted (follows st.StartField (f ++ (p ∷ [])) [] xs rest (inr refl) unquoted)
        | inr other ↦ elim other [
          | inl cr ↦ ended_on s st.AfterCr f p c xs rest cr (inl refl) unquoted
          | inr more ↦ elim more [
            | inl lf ↦ ended_on s st.StartRecord f p c xs rest lf (inl refl) unquoted
            | inr copy ↦ inside_on s st.InField act.Copy f p c xs rest copy refl refl unquoted (follows st.InField f (p ++ (c ∷ [])) xs rest (inr refl) unquoted)
          ]
        ]
      ]
    ]

-- ---- all records
abbrev all_from : State → Text → List Fields
all_from s xs = records_from default_config (length xs + 1) s xs

one_more : (s : State) (xs : Text) (q : Read) → next_record default_config s [] [] xs ≡ Some q → all_from s xs ≡ q.0 ∷ all_from q.1 q.2
unfolding records_from
one_more s xs q e = rw (add-one, e) (ap (λ (rows : List Fields). q.0 ∷ rows) (behind_next default_config s xs q e))

no_more : (s : State) (xs : Text) → next_record default_config s [] [] xs ≡ None → all_from s xs ≡ []
unfolding records_from
no_more s xs e = rw (add-one, e) refl

same_records : (s s2 : State) (xs ys : Text) (o : Option Read) → next_record default_config s [] [] xs ≡ o → next_record default_config s2 [] [] ys ≡ o → all_from s xs ≡ all_from s2 ys
same_records s s2 xs ys None d e = no_more s xs d ∙ sym (no_more s2 ys e)
same_records s s2 xs ys (Some q) d e = one_more s xs q d ∙ sym (one_more s2 ys q e)

-- a line's end at the start of a text is passed over
passed : (rest : Text) → all_from st.StartRecord rest ≡ all_from st.StartRecord (10 ∷ rest)
passed rest = same_records st.StartRecord st.StartRecord rest (10 ∷ rest) (next_record default_config st.StartRecord [] [] rest) refl (goes_on st.StartRecord st.StartRecord act.Skip [] [] 10 rest refl refl)

nothing : all_from st.StartRecord [] ≡ []
nothing = no_more st.StartRecord [] (none_at_end st.StartRecord [] [] refl)

abbrev Joined : State → Text → Text → Type 0
Joined s front rest = all_from s (front ++ 10 ∷ rest) ≡ all_from s front ++ all_from st.StartRecord (10 ∷ rest)

-- where the text before the line's end has no further record
joined_none : (s : State) (front rest : Text) → next_record default_config s [] [] front ≡ None → next_record default_config s [] [] (front ++ 10 ∷ rest) ≡ next_record default_config st.StartRecord [] [] rest → Joined s front rest
joined_none s front rest none e =
    same_records s st.StartRecord (front ++ 10 ∷ rest) rest (next_record default_config st.StartRecord [] [] rest) e refl
    ∙ (passed rest ∙ ap (λ (rows : List Fields). rows ++ all_from st.StartRecord (10 ∷ rest)) (sym (no_more s front none)))

-- where it has one, and a further text behind it
joined_on : (s : State) (front rest : Text) (q : Read) → next_record default_config s [] [] front ≡ Some q → next_record default_config s [] [] (front ++ 10 ∷ rest) ≡ Some (q.0, q.1, q.2 ++ 10 ∷ rest) → Joined q.1 q.2 rest → Joined s front rest
joined_on s front rest q is e more =
    one_more s (front ++ 10 ∷ rest) (q.0, q.1, q.2 ++ 10 ∷ rest) e
    ∙ (ap (λ (rows : List Fields). q.0 ∷ rows) more ∙ ap (λ (rows : List Fields). rows ++ all_from st.StartRecord (10 ∷ rest)) (sym (one_more s front q is)))

-- where it has one, which is its last
joined_last : (s : State) (front rest : Text) (q : Read) → next_record default_config s [] [] front ≡ Some q → q.1 ≡ st.StartRecord → q.2 ≡ [] → next_record default_config s [] [] (front ++ 10 ∷ rest) ≡ Some (q.0, st.StartRecord, rest) → Joined s front rest
joined_last s front rest q is state none e =
    let behind : all_from q.1 q.2 ≡ [] = ap (λ (z : State). all_from z q.2) state ∙ (ap (all_from st.StartRecord) none ∙ nothing) in
    one_more s (front ++ 10 ∷ rest) (q.0, st.StartRecord, rest) e
    ∙ (ap (λ (rows : List Fields). q.0 ∷ rows) (passed rest)
    ∙ (ap (λ (rows : List Fields). (q.0 ∷ rows) ++ all_from st.StartRecord (10 ∷ rest)) (sym behind) ∙ ap (λ (rows : List Fields). rows ++ all_from st.StartRecord (10 ∷ rest)) (sym (one_more s front q is))))

-- at the start of a line's end
joined_empty : (s : State) (rest : Text) → Joined st.StartRecord [] rest
joined_empty s rest = ap (λ (rows : List Fields). rows ++ all_from st.StartRecord (10 ∷ rest)) (sym nothing)

behind_last : (s : State) (rest : Text) (q : Read) → next_record default_config s [] [] [] ≡ Some q → Joined q.1 q.2 rest
behind_last s rest q e =
    let l = last default_config s q e in
    subst (λ (z : State). Joined z q.2 rest) (sym l.0) (subst (λ (xs : Text). Joined st.StartRecord xs rest) (sym l.1) (joined_empty s rest))

-- where all shorter texts are so
joined_by : (s : State) (front rest : Text) (o : Option Read) → next_record default_config s [] [] front ≡ o → Follows s [] [] front rest o
    → ((s2 : State) (xs : Text) → length xs < length front → Plain s2 → is_unquoted xs ≡ true → Joined s2 xs rest) → Joined s front rest
joined_by s front rest None is f shorter = joined_none s front rest is f
joined_by s [] rest (Some q) is f shorter = elim f.2 [
  | inl on ↦ joined_on s [] rest q is on (behind_last s rest q is)
  | inr end ↦ joined_last s [] rest q is end.0 end.1 end.2
]
joined_by s (c ∷ xs) rest (Some q) is f shorter = elim f.2 [
  | inl on ↦ joined_on s (c ∷ xs) rest q is on (shorter q.1 q.2 (omega (arith, shrinks_more default_config s c xs q is)) f.0 f.1)
  | inr end ↦ joined_last s (c ∷ xs) rest q is end.0 end.1 end.2
]

joined : (n : ℕ) (s : State) (front rest : Text) → length front ≤ n → Plain s → is_unquoted front ≡ true → Joined s front rest
joined zero s front rest short plain h =
    joined_by s front rest (next_record default_config s [] [] front) refl (follows s [] [] front rest plain h) (λ s2 xs l p g. absurd (omega arith))
joined (suc n) s front rest short plain h =
    joined_by s front rest (next_record default_config s [] [] front) refl (follows s [] [] front rest plain h) (λ s2 xs l p g. joined n s2 xs rest (omega arith) p g)

-- ---- a byte order mark
bom_before : (front rest : Text) → strip_bom (front ++ 10 ∷ rest) ≡ strip_bom front ++ 10 ∷ rest
unfolding strip_bom
bom_before [] [] = refl
bom_before [] (a ∷ []) = refl
bom_before [] (a ∷ b ∷ rest) = refl
bom_before (a ∷ []) [] = refl
bom_before (a ∷ []) (b ∷ rest) = grind (arith, nat_tests, common_steps)
bom_before (a ∷ b ∷ []) rest = grind (arith, nat_tests, common_steps)
bom_before (a ∷ b ∷ c ∷ xs) rest = elim (cases_Bool (is_bom a b c)) [
  | inl is ↦ rw is refl
  | inr isnt ↦ rw isnt refl
]

unquoted_behind : (text : Text) → is_unquoted text ≡ true → is_unquoted (strip_bom text) ≡ true
unfolding strip_bom
unquoted_behind [] h = h
unquoted_behind (a ∷ []) h = h
unquoted_behind (a ∷ b ∷ []) h = h
unquoted_behind (a ∷ b ∷ c ∷ xs) h =
    let one = unquoted_first a (b ∷ c ∷ xs) h in
    let two = unquoted_first b (c ∷ xs) one.1 in
    let three = unquoted_first c xs two.1 in
    elim (cases_Bool (is_bom a b c)) [
      | inl is ↦ rw is three.1
      | inr isnt ↦ rw isnt h
    ]

all_unquoted : (text : Text) → IsUnquoted text → is_unquoted text ≡ true
all_unquoted [] h = refl
all_unquoted (c ∷ xs) h =
    let first : c ≢ 34 = h 0 (omega arith) in
    let rest : is_unquoted xs ≡ true = all_unquoted xs (λ k l. h (suc k) (omega arith)) in
    grind (arith, nat_tests, common_steps)

pub cuts : CutAtLineEnd
unfolding strip_bom
cuts front rest quotes =
    let h = all_unquoted front quotes in
    ap (all_from st.StartRecord) (bom_before front rest)
    ∙ (joined (length (strip_bom front)) st.StartRecord (strip_bom front) rest (omega arith) (inl refl) (unquoted_behind front h)
    ∙ ap (λ (text : Text). all_from st.StartRecord (strip_bom front) ++ all_from st.StartRecord text) (sym (bom_before [] rest)))
