-- A crew with one editor more, and all that a desk is left with.
use Rattle.std.proofs.Common.{◌≡◌, ◌⊎◌, ℕ, zero, suc, ◌+◌, ◌<◌, ◌≤◌, List, [], ◌∷◌, ◌++◌, length, get_or, refl, sym, ap, subst, ◌∙◌, inl, inr, arith, Ok}
use Rattle.std.specs.Prelude.{Result, OnOk}
use Rattle.std.specs.List.{Contains, remove}
use Rattle.std.proofs.lemmas.Bool.{cases_lt}
use Rattle.std.proofs.lemmas.List.Elements.{Contains-append_left, Contains-append_right}
use Rattle.ltm_scenario.specs.declared.edit.Edit.{Edit}
use Rattle.ltm_editors.specs.declared.call.Call.{Call}
use Rattle.ltm_editors.specs.Lists.{entries_of, SeesBoth}
use Rattle.ltm_editors.specs.Offices.{editor_of}
use Rattle.ltm_editors.specs.Seats.{Place, place_after_split, next_place, place_after_join}
use Rattle.ltm_session_editors.specs.Histories.{batches_by, script_by}
use Rattle.ltm_session_editors.specs.Crews.{MadeAll}
use Rattle.ltm_session_editors.proofs.Calls.{on_ok, on_both, same_by}

pub in_one : (m : ℕ) → Contains (m ∷ []) m
in_one m = (0, (omega arith), refl)

past : {A : Type 0} (xs : List A) (i : ℕ) (d : A) → length xs ≤ i → get_or xs i d ≡ d
past [] i d far = refl
past (x ∷ xs) zero d far = absurd (omega (arith, far))
past (x ∷ xs) (suc i) d far = past xs i d (omega (arith, far))

-- the first of a list, taken out
pub taken_out : {A : Type 0} (xs : List A) (x : A) (rest : List A) → 0 < length xs → x ≡ get_or xs 0 x → rest ≡ remove xs 0 → xs ≡ x ∷ rest
taken_out [] x rest some is left = absurd (omega (arith, some))
taken_out (y ∷ ys) x rest some is left = (λ i. sym is i ∷ sym left i)

-- ---- one editor more
module _ (m : ℕ) (script : List (List Edit)) (scripts : List (List (List Edit))) (these : List ℕ) (one other seen : List Call)
    (made : MadeAll (m + 1) scripts these one) (his : batches_by m other ≡ script) (both : SeesBoth editor_of these one (m ∷ []) other seen) where
  in_both : (i : ℕ) → i < length (script ∷ scripts) → Contains (these ++ m ∷ []) (m + i)
  in_both zero l = let same : m ≡ m + 0 = omega arith in subst (λ (n : ℕ). Contains (these ++ m ∷ []) n) same (Contains-append_right these (m ∷ []) m (in_one m))
  in_both (suc i) l = let same : m + 1 + i ≡ m + suc i = omega arith in
      subst (λ (n : ℕ). Contains (these ++ m ∷ []) n) same (Contains-append_left these (m ∷ []) (m + 1 + i) (made.joined i (omega (arith, l))))

  calls_both : (i : ℕ) → i < length (script ∷ scripts) → batches_by (m + i) seen ≡ get_or (script ∷ scripts) i []
  calls_both zero l = let same : m ≡ m + 0 = omega arith in subst (λ (n : ℕ). batches_by n seen ≡ script) same (same_by m seen other (both.of_those m (in_one m)) ∙ his)
  calls_both (suc i) l = let same : m + 1 + i ≡ m + suc i = omega arith in
      subst (λ (n : ℕ). batches_by n seen ≡ get_or scripts i []) same
      (same_by (m + 1 + i) seen one (both.of_these (m + 1 + i) (made.joined i (omega (arith, l)))) ∙ made.calls i (omega (arith, l)))

  both_made : MadeAll m (script ∷ scripts) (these ++ m ∷ []) seen
  both_made = record {
    first = Contains-append_left these (m ∷ []) 0 made.first;
    none = same_by 0 seen one (both.of_these 0 made.first) ∙ made.none;
    joined = in_both;
    calls = calls_both;
  }

pub one_more : (m : ℕ) (script : List (List Edit)) (scripts all : List (List (List Edit))) (these those numbers : List ℕ) (one other seen : List Call) → all ≡ script ∷ scripts → those ≡ m ∷ [] → numbers ≡ these ++ those
    → MadeAll (m + 1) scripts these one → batches_by m other ≡ script → SeesBoth editor_of these one those other seen → MadeAll m all numbers seen
one_more m script scripts all these those numbers one other seen is alone joined made his both =
    let lone : SeesBoth editor_of these one (m ∷ []) other seen = subst (λ (ns : List ℕ). SeesBoth editor_of these one ns other seen) alone both in
    let whole : MadeAll m (script ∷ scripts) (these ++ m ∷ []) seen = both_made m script scripts these one other seen made his lone in
    let named : MadeAll m (script ∷ scripts) numbers seen = subst (λ (ns : List ℕ). MadeAll m (script ∷ scripts) ns seen) (sym (joined ∙ ap (λ (ns : List ℕ). these ++ ns) alone)) whole in
    subst (λ (ss : List (List (List Edit))). MadeAll m ss numbers seen) (sym is) named

-- ---- places
module _ {O : Type 0} where
  pub owns_next : (p q : Place O) → p ≡ next_place q → Contains p.numbers p.number
  owns_next p q is = subst (λ (x : Place O). Contains x.numbers x.number) (sym is) (in_one q.made)

  -- a first seat that has split one more, whose editor and whose crew did all
  pub crew_made : {A E : Type 0} (r one other : Result A E) (a b : A) (script : List (List Edit)) (scripts all : List (List (List Edit))) (p after seat done rest last : Place O) (fresh his mine seen : List Call)
      → all ≡ script ∷ scripts → after ≡ place_after_split p → seat ≡ next_place p → done ≡ seat → last ≡ place_after_join rest done → fresh ≡ [] → OnOk r (one ≡ Ok a) → OnOk r (other ≡ Ok b)
      → OnOk one (batches_by seat.number his ≡ batches_by seat.number fresh ++ script) → OnOk other (MadeAll after.made scripts rest.numbers mine) → SeesBoth editor_of rest.numbers mine done.numbers his seen
      → OnOk r (MadeAll p.made all last.numbers seen)
  crew_made r one other a b script scripts all p after seat done rest last fresh his mine seen is split next same join empty first second all_his all_rest both =
      let number : seat.number ≡ p.made = ap (λ (x : Place O). x.number) next in
      let alone : done.numbers ≡ p.made ∷ [] = ap (λ (x : Place O). x.numbers) (same ∙ next) in
      on_both r one other a b (batches_by seat.number his ≡ batches_by seat.number fresh ++ script) (MadeAll after.made scripts rest.numbers mine) (MadeAll p.made all last.numbers seen) first second all_his all_rest
      (λ h k. one_more p.made script scripts all rest.numbers done.numbers last.numbers mine his seen is alone (ap (λ (x : Place O). x.numbers) join)
      (subst (λ (n : ℕ). MadeAll n scripts rest.numbers mine) (ap (λ (x : Place O). x.made) split) k)
      (subst (λ (n : ℕ). batches_by n his ≡ batches_by n fresh ++ script) number h ∙ ap (λ (f : List Call). batches_by p.made f ++ script) empty) both)

-- ---- a desk that is closed
module _ (scripts : List (List (List Edit))) (numbers : List ℕ) (seen history : List Call) (given : ℕ) (same : history ≡ seen) (made : MadeAll 1 scripts numbers seen) (count : given ≡ 1 + length scripts)
    (none : (n : ℕ) → given ≤ n → entries_of editor_of n history ≡ []) where
  of_editor : (i : ℕ) → (i < length scripts) ⊎ (length scripts ≤ i) → batches_by (suc i) history ≡ get_or scripts i []
  of_editor i (inl within) = let number : 1 + i ≡ suc i = omega arith in
      ap (λ (h : List Call). batches_by (suc i) h) same ∙ subst (λ (n : ℕ). batches_by n seen ≡ get_or scripts i []) number (made.calls i within)
  of_editor i (inr far) = same_by (suc i) history [] (none (suc i) (omega (arith, count, far))) ∙ sym (past scripts i [] far)

  pub all_calls : (n : ℕ) → batches_by n history ≡ script_by scripts n
  all_calls zero = ap (λ (h : List Call). batches_by 0 h) same ∙ made.none
  all_calls (suc i) = of_editor i (cases_lt i (length scripts))

-- the same where all went well
pub desk_calls : {A E : Type 0} (r : Result A E) (m count : ℕ) (scripts : List (List (List Edit))) (numbers : List ℕ) (seen history : List Call) (given : ℕ) → m ≡ 1 → history ≡ seen → given ≡ m + count → count ≡ length scripts
    → ((n : ℕ) → given ≤ n → entries_of editor_of n history ≡ []) → OnOk r (MadeAll m scripts numbers seen) → OnOk r ((n : ℕ) → batches_by n history ≡ script_by scripts n)
desk_calls r m count scripts numbers seen history given first same made all none =
    on_ok r (MadeAll m scripts numbers seen) ((n : ℕ) → batches_by n history ≡ script_by scripts n)
    (λ crew. all_calls scripts numbers seen history given same (subst (λ (k : ℕ). MadeAll k scripts numbers seen) first crew) (omega (arith, first, made, all)) none)
