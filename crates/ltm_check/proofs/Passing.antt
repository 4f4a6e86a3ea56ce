-- Texts that pass a piece at a time, one behind another.
use Rattle.std.proofs.Common.{ℕ, suc, ◌≡◌, ◌+◌, ◌-◌, ◌≤◌, ◌<◌, List, [], ◌++◌, length, take, drop, Option, Some, None, Ok, Err, refl, ap, sym, subst, ◌∙◌, append_assoc, take-add, arith, length-drop, length-append}
use Rattle.std.specs.Prelude.{OnErr, Result}
use Rattle.std.proofs.lemmas.List.{append-nil, take-append-le, drop-append-le, drop-drop}
use Rattle.ltm_io.specs.Sink.{appended, AppendsFront}
use Rattle.ltm_units.specs.Texts.{texts_below}
use Rattle.ltm_check.specs.Passing.{Passes}
use Rattle.ltm_check.proofs.RowsWritten.{texts_at, texts_add}

appended_more : (old : Option (List ℕ)) (a b : List ℕ) → appended b (appended a old) ≡ appended (a ++ b) old
appended_more None a b = refl
appended_more (Some w) a b = ap Some (append_assoc w a b)

nothing_more : (written : Option (List ℕ)) → written ≡ appended [] written
nothing_more None = refl
nothing_more (Some w) = ap Some (sym (append-nil w))

two_fronts : (bytes text : List ℕ) (m n : ℕ) → m ≤ length bytes → take m bytes ++ take n (drop m bytes ++ text) ≡ take (m + n) (bytes ++ text)
two_fronts bytes text m n l =
    ap (λ (x : List ℕ). x ++ take n (drop m bytes ++ text)) (sym (take-append-le m bytes text l))
    ∙ (ap (λ (x : List ℕ). take m (bytes ++ text) ++ take n x) (sym (drop-append-le m bytes text l)) ∙ sym (take-add m n (bytes ++ text)))

-- ---- nothing, or all
pub none_passes : (waits : List ℕ) (old : Option (List ℕ)) → Passes waits old old waits
none_passes waits old = (0, omega arith, nothing_more old, refl)

pub no_front : (bytes : List ℕ) (old : Option (List ℕ)) → AppendsFront old old bytes
no_front bytes old = (0, omega arith, nothing_more old)

-- ---- a text more
pub passes_on : (bytes text : List ℕ) (old mid new : Option (List ℕ)) (waits rest : List ℕ) → Passes bytes old mid waits → Passes (waits ++ text) mid new rest → Passes (bytes ++ text) old new rest
passes_on bytes text old mid new waits rest (m, l, wrote, left) (n, k, also, more) =
    let here : n ≤ length (drop m bytes ++ text) = subst (λ (w : List ℕ). n ≤ length (w ++ text)) left k in (
      m + n,
      omega (arith, l, here, length-append (drop m bytes) text, length-drop m bytes, length-append bytes text),
      also ∙ (ap (appended (take n (waits ++ text))) wrote
          ∙ (appended_more old (take m bytes) (take n (waits ++ text))
          ∙ (ap (λ (x : List ℕ). appended (take m bytes ++ take n (x ++ text)) old) left
          ∙ ap (λ (x : List ℕ). appended x old) (two_fronts bytes text m n l)))),
      more ∙ (ap (λ (x : List ℕ). drop n (x ++ text)) left ∙ (ap (drop n) (sym (drop-append-le m bytes text l)) ∙ drop-drop n m (bytes ++ text))),
    )

pub front_on : (bytes text : List ℕ) (old mid new : Option (List ℕ)) (waits : List ℕ) → Passes bytes old mid waits → AppendsFront mid new (waits ++ text) → AppendsFront old new (bytes ++ text)
front_on bytes text old mid new waits passed (n, k, also) =
    let p = passes_on bytes text old mid new waits (drop n (waits ++ text)) passed (n, k, also, refl) in (p.0, p.1, p.2)

-- a front is one of a longer text
longer : (bytes more : List ℕ) (old new : Option (List ℕ)) → AppendsFront old new bytes → AppendsFront old new (bytes ++ more)
longer bytes more old new (n, l, is) = (n, omega (arith, l, length-append bytes more), is ∙ ap (λ (x : List ℕ). appended x old) (sym (take-append-le n bytes more l)))

pub on_err : {A E : Type 0} (r : Result A E) (P : Type 0) → P → OnErr r P
on_err (Ok a) P holds = tt
on_err (Err e) P holds = holds

-- ---- the last of it
pub last_front : (bytes : List ℕ) (old mid new : Option (List ℕ)) (waits : List ℕ) → Passes bytes old mid waits → AppendsFront mid new waits → AppendsFront old new bytes
last_front bytes old mid new waits passed front =
    subst (AppendsFront old new) (append-nil bytes) (front_on bytes [] old mid new waits passed (subst (AppendsFront mid new) (sym (append-nil waits)) front))

pub last_front_if : {A E : Type 0} (r : Result A E) (bytes : List ℕ) (old mid new : Option (List ℕ)) (waits : List ℕ) → Passes bytes old mid waits → OnErr r (AppendsFront mid new waits) → OnErr r (AppendsFront old new bytes)
last_front_if (Ok a) bytes old mid new waits passed front = tt
last_front_if (Err e) bytes old mid new waits passed front = last_front bytes old mid new waits passed front

-- ---- texts in order
one_more : (k : ℕ) (f : ℕ → List ℕ) → texts_below k f ++ f k ≡ texts_below (k + 1) f
one_more k f = texts_at (suc k) (k + 1) f (omega arith)

-- a text more behind those below k
pub texts_on : (bytes old new : List ℕ) (k : ℕ) (f : ℕ → List ℕ) → old ≡ bytes ++ texts_below k f → new ≡ old ++ f k → new ≡ bytes ++ texts_below (k + 1) f
texts_on bytes old new k f before more = more ∙ (ap (λ (xs : List ℕ). xs ++ f k) before ∙ (append_assoc bytes (texts_below k f) (f k) ∙ ap (λ (xs : List ℕ). bytes ++ xs) (one_more k f)))

pub text_on : (bytes : List ℕ) (k : ℕ) (f : ℕ → List ℕ) (old mid new : Option (List ℕ)) (waits rest : List ℕ)
    → Passes (bytes ++ texts_below k f) old mid waits → Passes (waits ++ f k) mid new rest → Passes (bytes ++ texts_below (k + 1) f) old new rest
text_on bytes k f old mid new waits rest passed more =
    subst (λ (b : List ℕ). Passes b old new rest) (append_assoc bytes (texts_below k f) (f k) ∙ ap (λ (x : List ℕ). bytes ++ x) (one_more k f)) (passes_on (bytes ++ texts_below k f) (f k) old mid new waits rest passed more)

pub text_stops : (bytes : List ℕ) (k n : ℕ) (f : ℕ → List ℕ) (old mid new : Option (List ℕ)) (waits : List ℕ) → k < n
    → Passes (bytes ++ texts_below k f) old mid waits → AppendsFront mid new (waits ++ f k) → AppendsFront old new (bytes ++ texts_below n f)
text_stops bytes k n f old mid new waits l passed front =
    let first : AppendsFront old new ((bytes ++ texts_below k f) ++ f k) = front_on (bytes ++ texts_below k f) (f k) old mid new waits passed front in
    let here : AppendsFront old new (bytes ++ texts_below (k + 1) f) = subst (AppendsFront old new) (append_assoc bytes (texts_below k f) (f k) ∙ ap (λ (x : List ℕ). bytes ++ x) (one_more k f)) first in
    let rest : List ℕ = texts_below (n - (k + 1)) (λ j. f ((k + 1) + j)) in
    let all : texts_below n f ≡ texts_below (k + 1) f ++ rest = texts_at n ((k + 1) + (n - (k + 1))) f (omega (arith, l)) ∙ texts_add (k + 1) (n - (k + 1)) f in
    subst (AppendsFront old new) (append_assoc bytes (texts_below (k + 1) f) rest ∙ ap (λ (x : List ℕ). bytes ++ x) (sym all)) (longer (bytes ++ texts_below (k + 1) f) rest old new here)
