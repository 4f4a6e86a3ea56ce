-- The one reading of the words, against what each command's own words are.
use Rattle.std.proofs.Common.{ℕ, ◌≡◌, ◌≤◌, ◌⊎◌, inl, inr, refl, ap, sym, subst, ◌∙◌, arith, List, [], ◌∷◌, length, Option, None, Some, Bool, true, false}
use Rattle.std.specs.Prelude.{◌&&◌, nat_le, if◌then◌else◌, option_map, codes, IfSome}
use Rattle.std.specs.Str.{bytes_eq}
use Rattle.std.specs.List.{list_all}
use Rattle.std.proofs.lemmas.Bool.Decides.{nat_tests}
use Rattle.std.proofs.lemmas.Slice.Eq.{bytes_eq-Decides}
use Rattle.ltm_units.specs.Numbers.{is_digit, value, number_told}
use Rattle.ltm_routes_command.specs.declared.lines.RouteLines.TheVariants as lines
use Rattle.ltm_try_command.specs.Words.{start_of, nodes_of, if_at_least}
use Rattle.ltm_command.specs.declared.words.Command.{Command}
use Rattle.ltm_command.specs.declared.words.Command.TheVariants as command
use Rattle.ltm_command.specs.declared.words.Report.TheVariants as report
use Rattle.ltm_command.specs.Words.{Asks, IsSized, OneReading, number_of, workers_of, viewers_of, editors_of, every_of, totals_of, when, trial_of, one_word, two_words, command_of}

-- ---- the words of each command are read as it
asks_trial : (words : List (List ℕ)) (start nodes : ℕ) → Asks words (command.Try start nodes) → command_of words ≡ Some (command.Try start nodes)
asks_trial words start nodes (a, b, is, starts, has) =
    ap command_of is ∙ ap (λ (o : Option ℕ). trial_of o (nodes_of b)) starts ∙ ap (λ (o : Option ℕ). trial_of (Some start) o) has

pub asked : (words : List (List ℕ)) (c : Command) → Asks words c → command_of words ≡ Some c
asked words (command.Report report.Load) is = ap command_of is
asked words (command.Report report.Delay) is = ap command_of is
asked words (command.Report report.Gap) is = ap command_of is
asked words (command.Report (report.Totals n)) (number, is, some) = ap command_of is ∙ ap (λ (o : Option ℕ). option_map totals_of o) some
asked words command.Curves is = ap command_of is
asked words command.Check is = ap command_of is
asked words (command.Routes lines.Splits) is = ap command_of is
asked words (command.Routes lines.Times) is = ap command_of is
asked words (command.Try start nodes) asks = asks_trial words start nodes asks
asked words (command.Session n) (number, is, some) = ap command_of is ∙ ap (λ (o : Option ℕ). option_map command.Session o) some
asked words (command.View n) (number, is, some) = ap command_of is ∙ ap (λ (o : Option ℕ). option_map command.View o) some
asked words (command.Editors n) (number, is, some) = ap command_of is ∙ ap (λ (o : Option ℕ). option_map command.Editors o) some

-- ---- and what is read is asked for
chosen : (t : Bool) (x y : Option Command) (c : Command) → (if t then x else y) ≡ Some c → ((t ≡ true) × (x ≡ Some c)) ⊎ (y ≡ Some c)
chosen true x y c is = inl (refl, is)
chosen false x y c is = inr is

when_some : (word t : List ℕ) (x y : Option Command) (c : Command) → when word t x y ≡ Some c → ((word ≡ t) × (x ≡ Some c)) ⊎ (y ≡ Some c)
when_some word t x y c is = elim (chosen (bytes_eq word t) x y c is) [
  | inl (test, this) ↦ inl ((bytes_eq-Decides word t).0 test, this)
  | inr other ↦ inr other
]

nothing : (c : Command) → None ≡ Some c → ⊥
nothing c is = cc

is_one : (a c : Command) → Some a ≡ Some c → a ≡ c
is_one a c is = cc

mapped : (f : ℕ → Command) (o : Option ℕ) (c : Command) → option_map f o ≡ Some c → (n : ℕ) × (o ≡ Some n) × (f n ≡ c)
mapped f None c is = absurd (cc)
mapped f (Some n) c is = (n, refl, is_one (f n) c is)

alone : (word : List ℕ) (c : Command) → one_word word ≡ Some c → Asks (word ∷ []) c
alone word c is =
    let routes = when word (codes "routes") (Some (command.Routes lines.Splits)) None in
    let check = when word (codes "check") (Some command.Check) routes in
    let curves = when word (codes "curves") (Some command.Curves) check in
    let gap = when word (codes "gap") (Some (command.Report report.Gap)) curves in
    let delay = when word (codes "delay") (Some (command.Report report.Delay)) gap in
    elim (when_some word (codes "load") (Some (command.Report report.Load)) delay c is) [
      | inl (same, this) ↦ subst (Asks (word ∷ [])) (is_one (command.Report report.Load) c this) (ap (λ w. w ∷ []) same)
      | inr next ↦ elim (when_some word (codes "delay") (Some (command.Report report.Delay)) gap c next) [
        | inl (same, this) ↦ subst (Asks (word ∷ [])) (is_one (command.Report report.Delay) c this) (ap (λ w. w ∷ []) same)
        | inr after ↦ elim (when_some word (codes "gap") (Some (command.Report report.Gap)) curves c after) [
          | inl (same, this) ↦ subst (Asks (word ∷ [])) (is_one (command.Report report.Gap) c this) (ap (λ w. w ∷ []) same)
          | inr rest ↦ elim (when_some word (codes "curves") (Some command.Curves) check c rest) [
            | inl (same, this) ↦ subst (Asks (word ∷ [])) (is_one command.Curves c this) (ap (λ w. w ∷ []) same)
            | inr more ↦ elim (when_some word (codes "check") (Some command.Check) routes c more) [
              | inl (same, this) ↦ subst (Asks (word ∷ [])) (is_one command.Check c this) (ap (λ w. w ∷ []) same)
              | inr last ↦ elim (when_some word (codes "routes") (Some (command.Routes lines.Splits)) None c last) [
                | inl (same, this) ↦ subst (Asks (word ∷ [])) (is_one (command.Routes lines.Splits) c this) (ap (λ w. w ∷ []) same)
                | inr none ↦ absurd (nothing c none)
              ]
            ]
          ]
        ]
      ]
    ]

-- a word and a number
numbered : (f : ℕ → Command) (counts : List ℕ → Option ℕ) (t word second : List ℕ) (c : Command) → word ≡ t → option_map f (counts second) ≡ Some c
    → (n : ℕ) × (f n ≡ c) × ((number : List ℕ) × (word ∷ second ∷ [] ≡ t ∷ number ∷ []) × (counts number ≡ Some n))
numbered f counts t word second c same is = let m = mapped f (counts second) c is in (m.0, m.2, (second, ap (λ w. w ∷ second ∷ []) same, m.1))

times_read : (word second : List ℕ) (c : Command) → word ≡ codes "routes" → when second (codes "times") (Some (command.Routes lines.Times)) None ≡ Some c → Asks (word ∷ second ∷ []) c
times_read word second c same is = elim (when_some second (codes "times") (Some (command.Routes lines.Times)) None c is) [
  | inl (also, this) ↦ subst (Asks (word ∷ second ∷ [])) (is_one (command.Routes lines.Times) c this) (ap (λ w. w ∷ second ∷ []) same ∙ ap (λ w. codes "routes" ∷ w ∷ []) also)
  | inr none ↦ absurd (nothing c none)
]

pair : (word second : List ℕ) (c : Command) → two_words word second ≡ Some c → Asks (word ∷ second ∷ []) c
pair word second c is =
    let editors = when word (codes "editors") (option_map command.Editors (editors_of second)) None in
    let views = when word (codes "view") (option_map command.View (viewers_of second)) editors in
    let sessions = when word (codes "session") (option_map command.Session (workers_of second)) views in
    let totals = when word (codes "totals") (option_map totals_of (every_of second)) sessions in
    elim (when_some word (codes "routes") (when second (codes "times") (Some (command.Routes lines.Times)) None) totals c is) [
      | inl (same, this) ↦ times_read word second c same this
      | inr first ↦ elim (when_some word (codes "totals") (option_map totals_of (every_of second)) sessions c first) [
        | inl (same, this) ↦ let h = numbered totals_of every_of (codes "totals") word second c same this in subst (Asks (word ∷ second ∷ [])) h.1 h.2
        | inr rest ↦ elim (when_some word (codes "session") (option_map command.Session (workers_of second)) views c rest) [
          | inl (same, this) ↦ let h = numbered command.Session workers_of (codes "session") word second c same this in subst (Asks (word ∷ second ∷ [])) h.1 h.2
          | inr more ↦ elim (when_some word (codes "view") (option_map command.View (viewers_of second)) editors c more) [
            | inl (same, this) ↦ let h = numbered command.View viewers_of (codes "view") word second c same this in subst (Asks (word ∷ second ∷ [])) h.1 h.2
            | inr last ↦ elim (when_some word (codes "editors") (option_map command.Editors (editors_of second)) None c last) [
              | inl (same, this) ↦ let h = numbered command.Editors editors_of (codes "editors") word second c same this in subst (Asks (word ∷ second ∷ [])) h.1 h.2
              | inr none ↦ absurd (nothing c none)
            ]
          ]
        ]
      ]
    ]

trial_some : (a b : Option ℕ) (c : Command) → trial_of a b ≡ Some c → (start : ℕ) × (nodes : ℕ) × (a ≡ Some start) × (b ≡ Some nodes) × (command.Try start nodes ≡ c)
trial_some (Some start) (Some nodes) c is = (start, nodes, refl, refl, is_one (command.Try start nodes) c is)
trial_some (Some start) None c is = absurd (nothing c is)
trial_some None b c is = absurd (nothing c is)

trial : (word second third : List ℕ) (c : Command) → when word (codes "try") (trial_of (start_of second) (nodes_of third)) None ≡ Some c → Asks (word ∷ second ∷ third ∷ []) c
trial word second third c is = elim (when_some word (codes "try") (trial_of (start_of second) (nodes_of third)) None c is) [
  | inl (same, this) ↦
      let h = trial_some (start_of second) (nodes_of third) c this in
      subst (Asks (word ∷ second ∷ third ∷ [])) h.4 (second, third, ap (λ w. w ∷ second ∷ third ∷ []) same, h.2, h.3)
  | inr none ↦ absurd (nothing c none)
]

pub asks : (words : List (List ℕ)) (c : Command) → command_of words ≡ Some c → Asks words c
asks [] c is = absurd (nothing c is)
asks (word ∷ []) c is = alone word c is
asks (word ∷ second ∷ []) c is = pair word second c is
asks (word ∷ second ∷ third ∷ []) c is = trial word second third c is
asks (word ∷ second ∷ third ∷ fourth ∷ more) c is = absurd (nothing c is)

pub one_reading_holds : OneReading
one_reading_holds words c = (asks words c, asked words c)

-- ---- the numbers of a command
when_true : (b : Bool) (v n : ℕ) → (if b then Some v else None) ≡ Some n → (b ≡ true) × (v ≡ n)
when_true true v n is = (refl, cc)
when_true false v n is = absurd (cc)

both : (a b : Bool) → (a && b) ≡ true → (a ≡ true) × (b ≡ true)
both true b h = (refl, h)
both false b h = absurd (cc)

told_small : (digits most : ℕ) (text : List ℕ) (m : ℕ) → number_told digits most text ≡ Some m → m ≤ most
told_small digits most text m is =
    let some = when_true (nat_le 1 (length text) && nat_le (length text) digits && list_all is_digit text && nat_le (value text) most) (value text) m is in
    let few = both (nat_le 1 (length text) && nat_le (length text) digits && list_all is_digit text) (nat_le (value text) most) some.0 in
    let same = some.1 in let small = few.1 in
    let high : value text ≤ most = grind (arith, nat_tests, small) in omega (high, same, arith)

within : (least most : ℕ) (found : Option ℕ) (n : ℕ) → ((m : ℕ) → found ≡ Some m → m ≤ most) → if_at_least least found ≡ Some n → (least ≤ n) × (n ≤ most)
within least most (Some m) n small is =
    let some = when_true (nat_le least m) m n is in
    let same = some.1 in let test = some.0 in let high = small m refl in
    let low : least ≤ m = grind (arith, nat_tests, test) in (omega (low, same, arith), omega (high, same, arith))
within least most None n small is = absurd (cc)

number_within : (digits least most : ℕ) (word : List ℕ) (n : ℕ) → number_of digits least most word ≡ Some n → (least ≤ n) × (n ≤ most)
number_within digits least most word n is = within least most (number_told digits most word) n (told_small digits most word) is

asked_sized : (words : List (List ℕ)) (c : Command) → Asks words c → IsSized c
asked_sized words (command.Try start nodes) (a, b, is, starts, has) = number_within 3 4 400 b nodes has
asked_sized words (command.Report (report.Totals n)) (number, is, some) = number_within 5 1 10000 number n some
asked_sized words (command.Session n) (number, is, some) = (number_within 2 0 64 number n some).1
asked_sized words (command.View n) (number, is, some) = number_within 1 1 2 number n some
asked_sized words (command.Editors n) (number, is, some) = number_within 1 1 8 number n some
asked_sized words c asks = tt

pub sized : (words : List (List ℕ)) (found : Option Command) → found ≡ command_of words → IfSome found IsSized
sized words None is = tt
sized words (Some c) is = asked_sized words c (asks words c (sym is))
