-- What is read of a header, and which headers are taken.
use Rattle.std.proofs.Common.{◌≡◌, ℕ, zero, suc, ◌+◌, ◌-◌, ◌==◌, ◌&&◌, ◌++◌, not, Bool, true, false, List, [], ◌∷◌, length, drop, arith, refl, sym, subst, ap, ◌∙◌}
use Rattle.std.specs.Prelude.{codes, if◌then◌else◌}
use Rattle.std.proofs.lemmas.Bool.{eqb-true}
use Rattle.ltm_records.specs.Fields.{Fields, field, has, same}
use Rattle.ltm_casefile.specs.declared.columns.Columns.{Columns}
use Rattle.ltm_casefile.specs.Columns.{one_if, limits_field, cells_field, rows_field, links_field, destinations_field, moves_field, carry_field, history_field, routes_field, width_of, columns_of, is_setup_header}
use Rattle.ltm_casefile.specs.Headers.{if_there, header_of, HeadersAreTaken, ColumnsAreAtTheirNames}

-- ---- all columns: a test that each passes
abbrev each : (Bool → Bool) → Bool
each f = f true && f false

and_both : (a b : Bool) → a && b ≡ true → (a ≡ true) × (b ≡ true)
and_both true b h = (refl, h)
and_both false b h = absurd cc

passes : (f : Bool → Bool) → each f ≡ true → (b : Bool) → f b ≡ true
passes f h true = (and_both (f true) (f false) h).0
passes f h false = (and_both (f true) (f false) h).1

abbrev agree : Bool → Bool → Bool
agree true b = b
agree false b = not b

agreed : (a b : Bool) → agree a b ≡ true → a ≡ b
agreed true true h = refl
agreed true false h = absurd cc
agreed false true h = absurd cc
agreed false false h = refl

abbrev with : Bool → Bool → Bool → Bool → Bool → Bool → Bool → Bool → Bool → Bool → Columns
with signals limits cells rows links destinations moves carry history routes =
    record {
      signals = signals;
      limits = limits;
      cells = cells;
      rows = rows;
      links = links;
      destinations = destinations;
      moves = moves;
      carry = carry;
      history = history;
      routes = routes;
    }

abbrev is_read : Columns → Columns → Bool
is_read c r =
    agree r.signals c.signals && (agree r.limits c.limits && (agree r.cells c.cells && (agree r.rows c.rows && (agree r.links c.links
    && (agree r.destinations c.destinations && (agree r.moves c.moves && (agree r.carry c.carry && (agree r.history c.history && agree r.routes c.routes))))))))

abbrev taken_as : Columns → Bool
taken_as c = is_setup_header (header_of c) && is_read c (columns_of (header_of c))

-- what holds of all columns, found by trying them
abbrev all : (Columns → Bool) → Bool
all f = each (λ q. each (λ r. each (λ s. each (λ t. each (λ u. each (λ v. each (λ w. each (λ x. each (λ y. each (λ z. f (with q r s t u v w x y z)))))))))))

one : (f : Columns → Bool) → all f ≡ true → (c : Columns) → f c ≡ true
one f h c =
    passes (λ z. f (with c.signals c.limits c.cells c.rows c.links c.destinations c.moves c.carry c.history z))
    (passes (λ y. each (λ z. f (with c.signals c.limits c.cells c.rows c.links c.destinations c.moves c.carry y z)))
    (passes (λ x. each (λ y. each (λ z. f (with c.signals c.limits c.cells c.rows c.links c.destinations c.moves x y z))))
    (passes (λ w. each (λ x. each (λ y. each (λ z. f (with c.signals c.limits c.cells c.rows c.links c.destinations w x y z)))))
    (passes (λ v. each (λ w. each (λ x. each (λ y. each (λ z. f (with c.signals c.limits c.cells c.rows c.links v w x y z))))))
    (passes (λ u. each (λ v. each (λ w. each (λ x. each (λ y. each (λ z. f (with c.signals c.limits c.cells c.rows u v w x y z)))))))
    (passes (λ t. each (λ u. each (λ v. each (λ w. each (λ x. each (λ y. each (λ z. f (with c.signals c.limits c.cells t u v w x y z))))))))
    (passes (λ s. each (λ t. each (λ u. each (λ v. each (λ w. each (λ x. each (λ y. each (λ z. f (with c.signals c.limits s t u v w x y z)))))))))
    (passes (λ r. each (λ s. each (λ t. each (λ u. each (λ v. each (λ w. each (λ x. each (λ y. each (λ z. f (with c.signals r s t u v w x y z))))))))))
    (passes (λ q. each (λ r. each (λ s. each (λ t. each (λ u. each (λ v. each (λ w. each (λ x. each (λ y. each (λ z. f (with q r s t u v w x y z)))))))))))
    h c.signals) c.limits) c.cells) c.rows) c.links) c.destinations) c.moves) c.carry) c.history) c.routes

all_taken : all taken_as ≡ true
unfolding columns_of
all_taken = refl

taken : (c : Columns) → taken_as c ≡ true
taken c = one taken_as all_taken c

parts_of : (c : Columns) → (is_setup_header (header_of c) ≡ true) × (is_read c (columns_of (header_of c)) ≡ true)
parts_of c = and_both (is_setup_header (header_of c)) (is_read c (columns_of (header_of c))) (taken c)

same_columns : (c r : Columns) → is_read c r ≡ true → r ≡ c
same_columns c r h =
    let p1 = and_both (agree r.signals c.signals) _ h in
    let p2 = and_both (agree r.limits c.limits) _ p1.1 in
    let p3 = and_both (agree r.cells c.cells) _ p2.1 in
    let p4 = and_both (agree r.rows c.rows) _ p3.1 in
    let p5 = and_both (agree r.links c.links) _ p4.1 in
    let p6 = and_both (agree r.destinations c.destinations) _ p5.1 in
    let p7 = and_both (agree r.moves c.moves) _ p6.1 in
    let p8 = and_both (agree r.carry c.carry) _ p7.1 in
    let p9 = and_both (agree r.history c.history) (agree r.routes c.routes) p8.1 in
    let signals = agreed r.signals c.signals p1.0 in
    let limits = agreed r.limits c.limits p2.0 in
    let cells = agreed r.cells c.cells p3.0 in
    let rows = agreed r.rows c.rows p4.0 in
    let links = agreed r.links c.links p5.0 in
    let destinations = agreed r.destinations c.destinations p6.0 in
    let moves = agreed r.moves c.moves p7.0 in
    let carry = agreed r.carry c.carry p8.0 in
    let history = agreed r.history c.history p9.0 in
    let routes = agreed r.routes c.routes p9.1 in
    let all_same : with r.signals r.limits r.cells r.rows r.links r.destinations r.moves r.carry r.history r.routes ≡ with c.signals c.limits c.cells c.rows c.links c.destinations c.moves c.carry c.history c.routes =
    rw (signals, limits, cells, rows, links, destinations, moves, carry, history, routes) refl in
    all_same

-- ---- a header that is taken, name by name
same_text : (a b : List ℕ) → same a b ≡ true → a ≡ b
same_text [] [] h = refl
same_text [] (y ∷ b) h = absurd cc
same_text (x ∷ a) [] h = absurd cc
same_text (x ∷ a) (y ∷ b) h =
    let both = and_both (x == y) (same a b) h in
    rw (eqb-true x y both.0, same_text a b both.1) refl

-- from a place on: the field there, if it is this name, and what is behind it
next_field : (fields : Fields) (at n : ℕ) (name : List ℕ) → has fields at (n ∷ name) ≡ true → drop at fields ≡ (n ∷ name) ∷ drop (suc at) fields
next_field [] at n name h = absurd cc
next_field (x ∷ fields) zero n name h = rw (same_text x (n ∷ name) h) refl
next_field (x ∷ fields) (suc at) n name h = next_field fields at n name h

next_test : (fields : Fields) (at n : ℕ) (name : List ℕ) (b : Bool) → has fields at (n ∷ name) ≡ b → drop at fields ≡ if_there b (n ∷ name) ++ drop (at + one_if b) fields
next_test fields at n name true h =
    let more : suc at ≡ at + 1 = omega arith in
    next_field fields at n name h ∙ ap (λ (k : ℕ). (n ∷ name) ∷ drop k fields) more
next_test fields at n name false h =
    let none : at ≡ at + 0 = omega arith in
    ap (λ (k : ℕ). drop k fields) none

next : (fields : Fields) (at n : ℕ) (name : List ℕ) → drop at fields ≡ if_there (has fields at (n ∷ name)) (n ∷ name) ++ drop (at + one_if (has fields at (n ∷ name))) fields
next fields at n name = next_test fields at n name (has fields at (n ∷ name)) refl

past_end : (fields : Fields) (k : ℕ) → length fields ≡ k → drop k fields ≡ []
past_end [] zero h = refl
past_end [] (suc k) h = refl
past_end (x ∷ fields) zero h = absurd (omega (h, arith))
past_end (x ∷ fields) (suc k) h = past_end fields k (omega (h, arith))

append_none : (fields : Fields) → fields ++ [] ≡ fields
append_none [] = refl
append_none (x ∷ fields) = ap (λ (z : Fields). x ∷ z) (append_none fields)

-- the three names, and then the rest of the fields
three : (fields : Fields) → has fields 0 (codes "step_ms") ≡ true → has fields 1 (codes "slots") ≡ true → has fields 2 (codes "origin_capacity") ≡ true →
    fields ≡ codes "step_ms" ∷ codes "slots" ∷ codes "origin_capacity" ∷ drop 3 fields
three fields a b c =
    let one : fields ≡ codes "step_ms" ∷ drop 1 fields = next_field fields 0 _ _ a in
    let two : drop 1 fields ≡ codes "slots" ∷ drop 2 fields = next_field fields 1 _ _ b in
    let last : drop 2 fields ≡ codes "origin_capacity" ∷ drop 3 fields = next_field fields 2 _ _ c in
    one ∙ ap (λ (z : Fields). codes "step_ms" ∷ z) (two ∙ ap (λ (z : Fields). codes "slots" ∷ z) last)

written : (fields : Fields) → is_setup_header fields ≡ true → fields ≡ header_of (columns_of fields)
unfolding columns_of
written fields h =
    let c : Columns = columns_of fields in
    let p2 = and_both (has fields 0 (codes "step_ms") && has fields 1 (codes "slots") && has fields 2 (codes "origin_capacity")) (length fields == width_of c) h in
    let p1 = and_both (has fields 0 (codes "step_ms") && has fields 1 (codes "slots")) (has fields 2 (codes "origin_capacity")) p2.0 in
    let p0 = and_both (has fields 0 (codes "step_ms")) (has fields 1 (codes "slots")) p1.0 in
    let signals_at : ℕ = 3 in
    let limits_at : ℕ = signals_at + one_if c.signals in
    let cells_at : ℕ = limits_at + one_if c.limits in
    let rows_at : ℕ = cells_at + one_if c.cells in
    let links_at : ℕ = rows_at + one_if c.rows in
    let destinations_at : ℕ = links_at + one_if c.links in
    let moves_at : ℕ = destinations_at + one_if c.destinations in
    let carry_at : ℕ = moves_at + one_if c.moves in
    let history_at : ℕ = carry_at + one_if c.carry in
    let routes_at : ℕ = history_at + one_if c.history in
    let width : length fields ≡ routes_at + one_if c.routes = eqb-true (length fields) (width_of c) p2.1 in
    let end : drop (routes_at + one_if c.routes) fields ≡ [] = past_end fields (routes_at + one_if c.routes) width in
    let e10 : drop routes_at fields ≡ if_there c.routes (codes "routes") = next fields routes_at _ _ ∙ ap (λ (z : Fields). if_there c.routes (codes "routes") ++ z) end ∙ append_none (if_there c.routes (codes "routes")) in
    let e9 = next fields history_at _ _ ∙ ap (λ (z : Fields). if_there c.history (codes "history") ++ z) e10 in
    let e8 = next fields carry_at _ _ ∙ ap (λ (z : Fields). if_there c.carry (codes "carry") ++ z) e9 in
    let e7 = next fields moves_at _ _ ∙ ap (λ (z : Fields). if_there c.moves (codes "moves") ++ z) e8 in
    let e6 = next fields destinations_at _ _ ∙ ap (λ (z : Fields). if_there c.destinations (codes "destinations") ++ z) e7 in
    let e5 = next fields links_at _ _ ∙ ap (λ (z : Fields). if_there c.links (codes "links") ++ z) e6 in
    let e4 = next fields rows_at _ _ ∙ ap (λ (z : Fields). if_there c.rows (codes "rows") ++ z) e5 in
    let e3 = next fields cells_at _ _ ∙ ap (λ (z : Fields). if_there c.cells (codes "cells") ++ z) e4 in
    let e2 = next fields limits_at _ _ ∙ ap (λ (z : Fields). if_there c.limits (codes "limits") ++ z) e3 in
    let e1 = next fields signals_at _ _ ∙ ap (λ (z : Fields). if_there c.signals (codes "signals") ++ z) e2 in
    three fields p0.0 p0.1 p1.1 ∙ ap (λ (z : Fields). codes "step_ms" ∷ codes "slots" ∷ codes "origin_capacity" ∷ z) e1

pub headers_are_taken : HeadersAreTaken
headers_are_taken fields = (
  (
    λ h. (columns_of fields, written fields h),
    λ made. subst (λ (z : Fields). is_setup_header z ≡ true) (sym made.1) (parts_of made.0).0,
  ),
  λ c is. ap (λ (z : Fields). columns_of z) is ∙ same_columns c (columns_of (header_of c)) (parts_of c).1,
)

-- ---- where the names stand
abbrev named : (c : Columns) (k : ℕ) (name : List ℕ) → Bool → Bool
named c k name there = if there then same (field (header_of c) k) name else true

abbrev all_named : Columns → Bool
all_named c =
    named c 3 (codes "signals") c.signals && (named c (limits_field c - 1) (codes "limits") c.limits && (named c (cells_field c - 1) (codes "cells") c.cells
    && (named c (rows_field c - 1) (codes "rows") c.rows && (named c (links_field c - 1) (codes "links") c.links
    && (named c (destinations_field c - 1) (codes "destinations") c.destinations && (named c (moves_field c - 1) (codes "moves") c.moves
    && (named c (carry_field c - 1) (codes "carry") c.carry && (named c (history_field c - 1) (codes "history") c.history
    && named c (routes_field c - 1) (codes "routes") c.routes))))))))

every_named : all all_named ≡ true
every_named = refl

-- a name that is asked for stands there
stands : (c : Columns) (k : ℕ) (name : List ℕ) (there : Bool) → named c k name there ≡ true → there ≡ true → field (header_of c) k ≡ name
stands c k name true h e = same_text (field (header_of c) k) name h
stands c k name false h e = absurd cc

pub columns_are_at_their_names : ColumnsAreAtTheirNames
columns_are_at_their_names c =
    let p1 = and_both (named c 3 (codes "signals") c.signals) _ (one all_named every_named c) in
    let p2 = and_both (named c (limits_field c - 1) (codes "limits") c.limits) _ p1.1 in
    let p3 = and_both (named c (cells_field c - 1) (codes "cells") c.cells) _ p2.1 in
    let p4 = and_both (named c (rows_field c - 1) (codes "rows") c.rows) _ p3.1 in
    let p5 = and_both (named c (links_field c - 1) (codes "links") c.links) _ p4.1 in
    let p6 = and_both (named c (destinations_field c - 1) (codes "destinations") c.destinations) _ p5.1 in
    let p7 = and_both (named c (moves_field c - 1) (codes "moves") c.moves) _ p6.1 in
    let p8 = and_both (named c (carry_field c - 1) (codes "carry") c.carry) _ p7.1 in
    let p9 = and_both (named c (history_field c - 1) (codes "history") c.history) (named c (routes_field c - 1) (codes "routes") c.routes) p8.1 in
    record {
      signals = stands c 3 (codes "signals") c.signals p1.0;
      limits = stands c (limits_field c - 1) (codes "limits") c.limits p2.0;
      cells = stands c (cells_field c - 1) (codes "cells") c.cells p3.0;
      rows = stands c (rows_field c - 1) (codes "rows") c.rows p4.0;
      links = stands c (links_field c - 1) (codes "links") c.links p5.0;
      destinations = stands c (destinations_field c - 1) (codes "destinations") c.destinations p6.0;
      moves = stands c (moves_field c - 1) (codes "moves") c.moves p7.0;
      carry = stands c (carry_field c - 1) (codes "carry") c.carry p8.0;
      history = stands c (history_field c - 1) (codes "history") c.history p9.0;
      routes = stands c (routes_field c - 1) (codes "routes") c.routes p9.1;
    }
