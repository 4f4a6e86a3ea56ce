-- The calls of an editor, one more at a time, and the lines of calls.
use Rattle.std.proofs.Common.{◌≡◌, ℕ, suc, ◌+◌, ◌<◌, ◌≤◌, ◌==◌, Bool, true, false, cond, List, [], ◌∷◌, ◌++◌, length, map, drop, get_or, refl, sym, ap, subst, ◌∙◌, append_assoc, append-nil, add-one, arith, Ok, Err}
use Rattle.std.specs.Prelude.{Result, OnOk, is_err, All}
use Rattle.std.proofs.Math.Seq.{drop-cons}
use Rattle.std.proofs.lemmas.Bool.{eq-eqb}
use Rattle.std.proofs.lemmas.List.{map-append, drop_all}
use Rattle.std.proofs.lemmas.List.Elements.{filter-append}
use Rattle.ltm_scenario.specs.declared.edit.Edit.{Edit}
use Rattle.ltm_editors.specs.declared.call.Call.{Call}
use Rattle.ltm_editors.specs.declared.call.Verdict.{Verdict}
use Rattle.ltm_editors.specs.Lists.{entries_of}
use Rattle.ltm_editors.specs.History.{PutsCall}
use Rattle.ltm_editors.specs.Offices.{editor_of}
use Rattle.ltm_session_editors.specs.Histories.{batches_by}
use Rattle.ltm_session_editors.specs.Lines.{call_line, call_lines}

-- ---- results
pub on_ok : {A E : Type 0} (r : Result A E) (P Q : Type 0) → (P → Q) → OnOk r P → OnOk r Q
on_ok (Ok a) P Q so p = so p
on_ok (Err e) P Q so p = tt

-- where both went well
pub on_both : {A E : Type 0} (r one other : Result A E) (a b : A) (P Q R : Type 0) → OnOk r (one ≡ Ok a) → OnOk r (other ≡ Ok b) → OnOk one P → OnOk other Q → (P → Q → R) → OnOk r R
on_both (Ok t) one other a b P Q R first second p q so = so (subst (λ (x : Result _ _). OnOk x P) first p) (subst (λ (x : Result _ _). OnOk x Q) second q)
on_both (Err e) one other a b P Q R first second p q so = tt

-- ---- the batches of one editor
kept : (b : Bool) (call : Call) → b ≡ true → map (λ (c : Call). c.batch.value) (cond b (call ∷ []) []) ≡ call.batch.value ∷ []
kept true call is = refl
kept false call is = absurd (cc)

one_by : (n : ℕ) (call : Call) → call.editor ≡ n → batches_by n (call ∷ []) ≡ call.batch.value ∷ []
one_by n call is = kept (call.editor == n) call (eq-eqb call.editor n is)

appended_by : (n : ℕ) (xs ys : List Call) → batches_by n (xs ++ ys) ≡ batches_by n xs ++ batches_by n ys
appended_by n xs ys = ap (λ (es : List Call). map (λ (c : Call). c.batch.value) es) (filter-append (λ (e : Call). editor_of e == n) xs ys)
    ∙ map-append (λ (c : Call). c.batch.value) (entries_of editor_of n xs) (entries_of editor_of n ys)

pub batches_put : (n : ℕ) (old new : List Call) (batch : List Edit) (verdict : Verdict) → PutsCall old n batch verdict new → batches_by n new ≡ batches_by n old ++ batch ∷ []
batches_put n old new batch verdict puts =
    ap (λ (h : List Call). batches_by n h) puts.last
    ∙ (appended_by n old (puts.call ∷ []) ∙ ap (λ (bs : List (List Edit)). batches_by n old ++ bs) (one_by n puts.call puts.of_editor ∙ ap (λ (b : List Edit). b ∷ []) puts.with_batch))

pub same_by : (n : ℕ) (xs ys : List Call) → entries_of editor_of n xs ≡ entries_of editor_of n ys → batches_by n xs ≡ batches_by n ys
same_by n xs ys same = ap (λ (es : List Call). map (λ (c : Call). c.batch.value) es) same

-- a script that is half made, with one batch more
pub one_made : (made before : List (List Edit)) (x : List Edit) (rest left script now : List (List Edit)) → left ≡ x ∷ rest → made ++ left ≡ before ++ script → now ≡ made ++ x ∷ [] → now ++ rest ≡ before ++ script
one_made made before x rest left script now is so put =
    ap (λ (bs : List (List Edit)). bs ++ rest) put ∙ (append_assoc made (x ∷ []) rest ∙ (ap (λ (bs : List (List Edit)). made ++ bs) (sym is) ∙ so))

pub no_items : {A : Type 0} (xs : List A) → length xs ≡ 0 → xs ≡ []
no_items [] e = refl
no_items (x ∷ xs) e = absurd (omega arith)

-- ---- lines
rest_at : (calls : List Call) (i : ℕ) (x : Call) → i < length calls → x ≡ get_or calls i x → drop i calls ≡ x ∷ drop (i + 1) calls
rest_at calls i x within is = rw (drop-cons calls i x, add-one, ← is) refl

pub one_line : (text now : List ℕ) (place : ℕ) (calls : List Call) (i : ℕ) (x : Call) (all : List ℕ) → i < length calls → x ≡ get_or calls i x → now ≡ text ++ call_line place x
    → text ++ call_lines place (drop i calls) ≡ all → now ++ call_lines (place + 1) (drop (i + 1) calls) ≡ all
one_line text now place calls i x all within is wrote so =
    ap (λ (t : List ℕ). t ++ call_lines (place + 1) (drop (i + 1) calls)) wrote
    ∙ (append_assoc text (call_line place x) (call_lines (place + 1) (drop (i + 1) calls))
    ∙ (ap (λ (cs : List Call). text ++ call_lines place cs) (sym (rest_at calls i x within is)) ∙ so))

pub all_lines : (text : List ℕ) (place : ℕ) (calls : List Call) (i : ℕ) (all : List ℕ) → length calls ≤ i → text ++ call_lines place (drop i calls) ≡ all → text ≡ all
all_lines text place calls i all past so = sym (append-nil text) ∙ (ap (λ (cs : List Call). text ++ call_lines place cs) (sym (drop_all i calls past)) ∙ so)

-- ---- what holds where a call went well
pub ok_so : {A E : Type 0} (r : Result A E) (P : Type 0) → is_err r ≡ false → OnOk r P → P
ok_so (Ok a) P well p = p
ok_so (Err e) P well p = absurd (cc)

-- one of a list, and those after it, have what all of them have
pub all_split : {A : Type 0} (P : A → Type 0) (xs : List A) (x : A) (rest : List A) → xs ≡ x ∷ rest → All P xs → P x × All P rest
all_split P xs x rest is all = let both : All P (x ∷ rest) = subst (λ l. All P l) is all in (both 0 x (omega arith), (λ k d l. both (suc k) d (omega (arith, l))))
