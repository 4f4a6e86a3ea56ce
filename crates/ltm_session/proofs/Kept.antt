-- All lines of a session: whole outputs and fronts of them keep the promise.
use Rattle.std.proofs.Common.{ℕ, ◌≡◌, ◌≢◌, ◌≤◌, ◌+◌, ◌-◌, ◌<◌, ◌⊎◌, inl, inr, refl, ap, sym, subst, ◌∙◌, arith, List, [], ◌∷◌, ◌++◌, length, take, append_assoc, length-append}
use Rattle.std.specs.Prelude.{All, Option, None, Some, IfSome}
use Rattle.std.specs.List.{concat}
use Rattle.std.proofs.lemmas.List.{append-nil, map-append, take_all, take-append-le}
use Rattle.std.proofs.Math.Seq.{take-append-add}
use Rattle.std.proofs.lemmas.Bool.{cases_order}
use Rattle.std.proofs.lemmas.List.Elements.{All-head, All-tail, All-cons, All-nil, All-push, All-take, All-map}
use Rattle.ltm_io.specs.Script.{lines_of}
use Rattle.ltm_scenario.specs.Data.{ScenarioData}
use Rattle.ltm_script.specs.Line.{reading}
use Rattle.ltm_report.specs.Pieces.{newline}
use Rattle.ltm_core.specs.Log.{LogLaws}
use Rattle.ltm_session.specs.Analysts.{Analysts, opening_state}
use Rattle.ltm_session.specs.Answers.{AnswersAlone, AnswersBeside}
use Rattle.ltm_session.specs.Session.{AnswersLines, EndsBefore}
use Rattle.ltm_session.specs.Laws.{OutputsKeepThePromise, FrontsKeepThePromise, AnswersAreLines}
use Rattle.ltm_session.specs.OneLine.{IsPlain, IsOneLine, texts_of}
use Rattle.ltm_session.specs.Promise.{Standing, at_first, after_command, after_lines, standing, Exchange, lines_in, texts_in, IsKept, KeepsPromise, KeepsPromiseSoFar}
use Rattle.ltm_session.proofs.Besides.{lines_beside}
use Rattle.ltm_session.proofs.OneLine.{cut_back, one_cut}
use Rattle.ltm_session.proofs.Named.{reading_named}
use Rattle.ltm_session.proofs.AnswerLines.{answer_one}
use Rattle.ltm_session.proofs.Promised.{Agrees, shown_by, step, meanwhile, begins}

-- ---- how the session stands after one more line
after_more : (s : ScenarioData) (now : Standing) (lines : List (List ℕ)) (last : List ℕ) → after_lines s now (lines ++ last ∷ []) ≡ after_command s (after_lines s now lines) (reading last)
after_more s now [] last = refl
after_more s now (first ∷ lines) last = after_more s (after_command s now (reading first)) lines last

standing_more : (s : ScenarioData) (past : List Exchange) (x : Exchange) → standing s (lines_in (past ++ x ∷ [])) ≡ after_command s (standing s (lines_in past)) (reading x.asks)
standing_more s past x = ap (λ l. after_lines s at_first l) (map-append (λ (y : Exchange). y.asks) past (x ∷ [])) ∙ after_more s at_first (lines_in past) x.asks

-- ---- what was shown
abbrev NoMore : ℕ → List Exchange → Type 0
NoMore shown past = All (λ y. y.shown ≤ shown) past

no_more : (a b : ℕ) (past : List Exchange) → a ≤ b → NoMore a past → NoMore b past
no_more a b [] low all = All-nil (λ (y : Exchange). y.shown ≤ b)
no_more a b (x ∷ past) low all =
    let head : x.shown ≤ a = All-head (λ (y : Exchange). y.shown ≤ a) x past all in
    All-cons (λ (y : Exchange). y.shown ≤ b) x past (omega (head, low, arith)) (no_more a b past low (All-tail (λ (y : Exchange). y.shown ≤ a) x past all))

-- ---- the exchanges
first_or : Exchange → List Exchange → Exchange
first_or d [] = d
first_or d (x ∷ xs) = x

rest_of : List Exchange → List Exchange
rest_of [] = []
rest_of (x ∷ xs) = xs

same_first : (x y : Exchange) (xs ys : List Exchange) → x ∷ xs ≡ y ∷ ys → x ≡ y
unfolding first_or
same_first x y xs ys is = ap (first_or x) is

same_rest : (x y : Exchange) (xs ys : List Exchange) → x ∷ xs ≡ y ∷ ys → xs ≡ ys
unfolding rest_of
same_rest x y xs ys is = ap rest_of is

-- each of these exchanges keeps the promise after those before it and after the past
abbrev Kept : ScenarioData → List Exchange → List Exchange → Type 0
Kept s past more = (before after : List Exchange) (x : Exchange) → more ≡ before ++ x ∷ after → IsKept s (past ++ before) x

kept_none : (s : ScenarioData) (past : List Exchange) → Kept s past []
kept_none s past [] after x is = absurd (cc)
kept_none s past (y ∷ before) after x is = absurd (cc)

kept_more : (s : ScenarioData) (past : List Exchange) (first : Exchange) (more : List Exchange) → IsKept s past first → Kept s (past ++ first ∷ []) more → Kept s past (first ∷ more)
kept_more s past first more kept others [] after x is =
    subst (λ (p : List Exchange). IsKept s p x) (sym (append-nil past)) (subst (λ (y : Exchange). IsKept s past y) (same_first first x more after is) kept)
kept_more s past first more kept others (y ∷ before) after x is =
    subst (λ (z : Exchange). IsKept s (past ++ z ∷ before) x) (same_first first y more (before ++ x ∷ after) is)
    (subst (λ (p : List Exchange). IsKept s p x) (append_assoc past (first ∷ []) before) (others before after x (same_rest first y more (before ++ x ∷ after) is)))

promised : (s : ScenarioData) (past : List Exchange) (u : Analysts) (lines : List (List ℕ)) (output : List ℕ) (t : Analysts) → Agrees s (standing s (lines_in past)) u → NoMore u.shown past
    → AnswersLines AnswersBeside u lines output t → (more : List Exchange) × (lines_in more ≡ lines) × (concat (texts_in more) ≡ output) × Kept s past more
promised s past u [] output t g all (none, same) = ([], refl, sym none, kept_none s past)
promised s past u (first ∷ lines) output t g all (v, text, rest, (w, later, answers), others, whole) =
    let x : Exchange = record { asks = first; text = text; shown = w.shown } in
    let now : Standing = standing s (lines_in past) in
    let there : Agrees s now w = meanwhile s now u w g later in
    let taken = step s now w (reading first) text v there answers in
    let shown : NoMore w.shown past = no_more u.shown w.shown past later.later all in
    let next : Agrees s (standing s (lines_in (past ++ x ∷ []))) v = subst (λ (p : Standing). Agrees s p v) (sym (standing_more s past x)) taken.1 in
    let up : w.shown ≤ v.shown = taken.2 in
    let seen : NoMore v.shown (past ++ x ∷ []) = All-push (λ (y : Exchange). y.shown ≤ v.shown) past x (no_more w.shown v.shown past up shown) up in
    let line : IsOneLine text = answer_one s now (shown_by now w) (reading first) text (reading_named first) taken.0 in
    let kept : IsKept s past x = record { line = line; prefix = there.finished; answer = taken.0; fresh = there.fresh; later = shown } in
    let h = promised s (past ++ x ∷ []) v lines rest t next seen others in
    (x ∷ h.0, ap (λ l. first ∷ l) h.1, ap (λ o. text ++ o) h.2 ∙ sym whole, kept_more s past x h.0 kept h.3)

-- the answers to these lines, beside any number of workers, keep the promise
keeps_promise : (s : ScenarioData) (settles : ℕ) (lines : List (List ℕ)) (output : List ℕ) (t : Analysts) → AnswersLines AnswersBeside (opening_state s settles) lines output t → KeepsPromise s lines output
keeps_promise s settles lines output t runs =
    let h = promised s [] (opening_state s settles) lines output t (begins s settles) (All-nil (λ (y : Exchange). y.shown ≤ 0)) runs in
    record { exchanges = h.0; lines_are = h.1; output_is = h.2; kept = h.3 }

-- and so without workers
keeps_alone : (laws : LogLaws) (s : ScenarioData) (settles : ℕ) (lines : List (List ℕ)) (output : List ℕ) (t : Analysts) → AnswersLines AnswersAlone (opening_state s settles) lines output t → KeepsPromise s lines output
keeps_alone laws s settles lines output t runs = keeps_promise s settles lines output t (lines_beside laws (opening_state s settles) lines output t (omega arith) runs)

pub outputs_keep : LogLaws → OutputsKeepThePromise
outputs_keep laws = record {
  beside = λ s script output is. keeps_promise s 0 (lines_of script) output is.0 is.1;
  alone = λ s script output is. keeps_alone laws s 0 (lines_of script) output is.0 is.1;
}

-- ---- lines
kept_lines : (s : ScenarioData) (past xs : List Exchange) → Kept s past xs → All (λ x. IsOneLine x.text) xs
kept_lines s past [] kept = All-nil (λ (x : Exchange). IsOneLine x.text)
kept_lines s past (x ∷ xs) kept = All-cons (λ (y : Exchange). IsOneLine y.text) x xs (kept [] xs x refl).line
    (kept_lines s (past ++ x ∷ []) xs
    (λ before after y is. subst (λ (p : List Exchange). IsKept s p y) (sym (append_assoc past (x ∷ []) before)) (kept (x ∷ before) after y (ap (λ l. x ∷ l) is))))

answers_lines : (s : ScenarioData) (lines : List (List ℕ)) (output : List ℕ) (k : KeepsPromise s lines output) → texts_in k.exchanges ≡ texts_of output
answers_lines s lines output k =
    sym (cut_back (texts_in k.exchanges) (All-map IsOneLine (λ (x : Exchange). x.text) k.exchanges (kept_lines s [] k.exchanges k.kept))) ∙ ap texts_of k.output_is

pub are_lines : AnswersAreLines
are_lines = record { cut = cut_back; one = one_cut; answers = answers_lines }

-- ---- fronts
-- a front of what these exchanges answer: the first of them, and a piece of the next
record Front (xs : List Exchange) (front : List ℕ) : Type 0 where
  before : List Exchange
  after : List Exchange
  piece : List ℕ
  cut : xs ≡ before ++ after
  plain : IsPlain piece
  is : front ≡ concat (texts_in before) ++ piece

within : (text rest : List ℕ) (n : ℕ) → IsOneLine text → n < length text → IsPlain (take n (text ++ rest))
within text rest n one low =
    let long : length text ≡ length one.words + 1 = ap (λ l. length l) one.ends ∙ length-append one.words newline in
    let inside : take n (text ++ rest) ≡ take n one.words =
    take-append-le n text rest (omega (arith, low)) ∙ ap (λ l. take n l) one.ends ∙ take-append-le n one.words newline (omega (arith, low, long)) in
    subst IsPlain (sym inside) (All-take (λ byte. byte ≢ 10) n one.words one.plain)

behind : (text rest : List ℕ) (n : ℕ) → length text ≤ n → take n (text ++ rest) ≡ text ++ take (n - length text) rest
behind text rest n high =
    let far : n ≡ length text + (n - length text) = omega (arith, high) in
    ap (λ k. take k (text ++ rest)) far ∙ take-append-add text rest (n - length text)

first_more : (x : Exchange) (xs : List Exchange) (front : List ℕ) → Front xs front → Front (x ∷ xs) (x.text ++ front)
first_more x xs front f = record {
  before = x ∷ f.before;
  after = f.after;
  piece = f.piece;
  cut = ap (λ l. x ∷ l) f.cut;
  plain = f.plain;
  is = ap (λ t. x.text ++ t) f.is ∙ sym (append_assoc x.text (concat (texts_in f.before)) f.piece);
}

front_behind : (x : Exchange) (xs : List Exchange) (n : ℕ) → length x.text ≤ n → ((k : ℕ) → Front xs (take k (concat (texts_in xs)))) → Front (x ∷ xs) (take n (x.text ++ concat (texts_in xs)))
front_behind x xs n high rest =
    subst (λ (t : List ℕ). Front (x ∷ xs) t) (sym (behind x.text (concat (texts_in xs)) n high))
    (first_more x xs (take (n - length x.text) (concat (texts_in xs))) (rest (n - length x.text)))

front_first : (x : Exchange) (xs : List Exchange) (n : ℕ) → IsOneLine x.text → ((k : ℕ) → Front xs (take k (concat (texts_in xs)))) → (length x.text ≡ n) ⊎ ((length x.text < n) ⊎ (n < length x.text))
    → Front (x ∷ xs) (take n (x.text ++ concat (texts_in xs)))
front_first x xs n one rest (inl same) = front_behind x xs n (omega (arith, same)) rest
front_first x xs n one rest (inr (inl high)) = front_behind x xs n (omega (arith, high)) rest
front_first x xs n one rest (inr (inr low)) = record {
  before = [];
  after = x ∷ xs;
  piece = take n (x.text ++ concat (texts_in xs));
  cut = refl;
  plain = within x.text (concat (texts_in xs)) n one low;
  is = refl;
}

front_at : (xs : List Exchange) → All (λ x. IsOneLine x.text) xs → (n : ℕ) → Front xs (take n (concat (texts_in xs)))
front_at [] all n = record { before = []; after = []; piece = []; cut = refl; plain = All-nil (λ byte. byte ≢ 10); is = take_all n [] (omega arith) }
front_at (x ∷ xs) all n =
    front_first x xs n (All-head (λ (y : Exchange). IsOneLine y.text) x xs all) (front_at xs (All-tail (λ (y : Exchange). IsOneLine y.text) x xs all)) (cases_order (length x.text) n)

-- the first of these lines, and the rest of a script
first_lines : (told : Option (List ℕ)) (answered : List (List ℕ)) (before after : List Exchange) (P : List (List ℕ) → Type 0) → answered ≡ lines_in (before ++ after)
    → IfSome told (λ script. (left : List (List ℕ)) × (lines_of script ≡ answered ++ left) × P left)
    → IfSome told (λ script. (left : List (List ℕ)) × (lines_of script ≡ lines_in before ++ left))
first_lines None answered before after P same ends = tt
first_lines (Some script) answered before after P same (left, is, ends) = (
  lines_in after ++ left,
  is ∙ ap (λ l. l ++ left) (same ∙ map-append (λ (x : Exchange). x.asks) before after) ∙ append_assoc (lines_in before) (lines_in after) left,
)

front_keeps : (s : ScenarioData) (told : Option (List ℕ)) (answered : List (List ℕ)) (output : List ℕ) (n : ℕ) (P : List (List ℕ) → Type 0) → KeepsPromise s answered output
    → IfSome told (λ script. (left : List (List ℕ)) × (lines_of script ≡ answered ++ left) × P left) → KeepsPromiseSoFar s told (take n output)
front_keeps s told answered output n P k ends =
    let f : Front k.exchanges (take n (concat (texts_in k.exchanges))) = front_at k.exchanges (kept_lines s [] k.exchanges k.kept) n in
    record {
      answered = lines_in f.before;
      first = first_lines told answered f.before f.after P (sym k.lines_are ∙ ap lines_in f.cut) ends;
      output = concat (texts_in f.before);
      promise = record {
        exchanges = f.before;
        lines_are = refl;
        output_is = refl;
        kept = λ before after x is. k.kept before (after ++ f.after) x (f.cut ∙ ap (λ l. l ++ f.after) is ∙ append_assoc before (x ∷ after) f.after);
      };
      piece = f.piece;
      plain = f.plain;
      written_is = ap (λ o. take n o) (sym k.output_is) ∙ f.is;
    }

pub fronts_keep : LogLaws → FrontsKeepThePromise
fronts_keep laws = record {
  beside = λ s settles told left end output t n so. front_keeps s told so.answered output n (EndsBefore end (length so.answered)) (keeps_promise s settles so.answered output t so.runs) so.ends;
  alone = λ s settles told left end output t n so. front_keeps s told so.answered output n (EndsBefore end (length so.answered)) (keeps_alone laws s settles so.answered output t so.runs) so.ends;
}
