-- Reports of queues and delays: each is one line.
use Rattle.std.proofs.Common.{ℕ, ◌≡◌, ◌≢◌, ◌+◌, ◌/◌, ◌%◌, true, List, [], ◌∷◌, ◌++◌, refl, codes, arith}
use Rattle.std.proofs.lemmas.List.Elements.{All-nil, All-cons}
use Rattle.std.specs.Fmt.{decimal}
use Rattle.ltm_units.specs.Texts.{amount_piece}
use Rattle.ltm_units.specs.Words.{is_name}
use Rattle.ltm_flows.specs.Counts.{Counts}
use Rattle.ltm_loading.specs.Setting.{Setting}
use Rattle.ltm_loading.specs.Totals.{entered_link, left_link}
use Rattle.ltm_times.specs.Times.{time_spent}
use Rattle.ltm_times.specs.Queues.{queue as queue_at, waiting_at}
use Rattle.ltm_times.specs.Delays.{queued, waited}
use Rattle.ltm_flows.specs.Origins.{produced_in_all, departed_from}
use Rattle.ltm_report.specs.Pieces.{version_piece}
use Rattle.ltm_report.specs.Links.{name_piece, through_piece}
use Rattle.ltm_report.specs.Times.{slot_piece}
use Rattle.ltm_report.specs.Delays.{seconds_text, seconds_piece, spent_piece, waited_piece, queue_piece, delay_line, queue_line, node_piece, origin_piece, origin_line}
use Rattle.ltm_report.specs.DelayReports.{delay_report, queue_report, origin_report}
use Rattle.ltm_session.specs.OneLine.{IsPlain, IsOneLine}
use Rattle.ltm_session.proofs.Pieces.{plain_append, plain_words, plain_decimal, plain_amount, plain_name}
use Rattle.ltm_session.proofs.OneLine.{one_line}
use Rattle.ltm_session.proofs.ReportLines.{version_plain, name_plain, through_plain, slot_plain, opens_plain}

-- ---- times
next_plain : (b : ℕ) (more : List ℕ) → b ≢ 10 → IsPlain more → IsPlain (b ∷ more)
next_plain b more other plain = All-cons (λ byte. byte ≢ 10) b more other plain

three_plain : (a b c : ℕ) → a ≢ 10 → b ≢ 10 → c ≢ 10 → IsPlain (a ∷ b ∷ c ∷ [])
three_plain a b c p q r = next_plain a (b ∷ c ∷ []) p (next_plain b (c ∷ []) q (next_plain c [] r (All-nil (λ byte. byte ≢ 10))))

six_plain : (a b c d e f : ℕ) → a ≢ 10 → b ≢ 10 → c ≢ 10 → d ≢ 10 → e ≢ 10 → f ≢ 10 → IsPlain (a ∷ b ∷ c ∷ d ∷ e ∷ f ∷ [])
six_plain a b c d e f p q r x y z =
    next_plain a (b ∷ c ∷ d ∷ e ∷ f ∷ []) p (next_plain b (c ∷ d ∷ e ∷ f ∷ []) q (next_plain c (d ∷ e ∷ f ∷ []) r (three_plain d e f x y z)))

seconds_plain : (n : ℕ) → IsPlain (seconds_text n)
unfolding seconds_text
seconds_plain n =
    let a = 48 + n % 1000000 / 100000 in
    let b = 48 + n % 100000 / 10000 in
    let c = 48 + n % 10000 / 1000 in
    let d = 48 + n % 1000 / 100 in
    let e = 48 + n % 100 / 10 in
    let f = 48 + n % 10 in
    plain_append (decimal (n / 1000000)) (46 ∷ a ∷ b ∷ c ∷ d ∷ e ∷ f ∷ []) (plain_decimal (n / 1000000))
    (next_plain 46 (a ∷ b ∷ c ∷ d ∷ e ∷ f ∷ []) (omega arith)
    (six_plain a b c d e f (omega arith) (omega arith) (omega arith) (omega arith) (omega arith) (omega arith)))

pub plain_seconds : (words : List ℕ) (n : ℕ) → IsPlain words → IsPlain (seconds_piece words n)
unfolding seconds_piece
plain_seconds words n plain = plain_append words (seconds_text n) plain (seconds_plain n)

pub spent_plain : (a b : ℕ) → IsPlain (spent_piece a b)
unfolding spent_piece
spent_plain a b = plain_append (seconds_piece (codes " spent ") a) (seconds_piece (codes " queued ") b)
    (plain_seconds (codes " spent ") a (plain_words (codes " spent ") refl))
    (plain_seconds (codes " queued ") b (plain_words (codes " queued ") refl))

pub waited_plain : (n : ℕ) → IsPlain (waited_piece n)
unfolding waited_piece
waited_plain n = plain_seconds (codes " waited ") n (plain_words (codes " waited ") refl)

delay_one : (version a b c : ℕ) → IsOneLine (delay_line version a b c)
unfolding delay_line
delay_one version a b c = one_line (version_piece version ++ spent_piece a b ++ waited_piece c)
    (plain_append (version_piece version ++ spent_piece a b) (waited_piece c)
    (plain_append (version_piece version) (spent_piece a b) (version_plain version) (spent_plain a b)) (waited_plain c))

pub delay_report_one : (version : ℕ) (s : Setting) (c : Counts) → IsOneLine (delay_report version s c)
unfolding delay_report
delay_report_one version s c = delay_one version (time_spent s c) (queued s c) (waited s c)

-- ---- queues
queue_plain : (n : ℕ) → IsPlain (queue_piece n)
unfolding queue_piece
queue_plain n = plain_amount (codes " queue ") n (plain_words (codes " queue ") refl)

queue_one : (version : ℕ) (name : List ℕ) (boundary a b n : ℕ) → is_name name ≡ true → IsOneLine (queue_line version name boundary a b n)
unfolding queue_line
queue_one version name boundary a b n is =
    one_line (version_piece version ++ codes " " ++ name_piece name ++ slot_piece boundary ++ through_piece a b ++ queue_piece n)
    (plain_append (version_piece version ++ codes " " ++ name_piece name ++ slot_piece boundary ++ through_piece a b) (queue_piece n)
    (plain_append (version_piece version ++ codes " " ++ name_piece name ++ slot_piece boundary) (through_piece a b)
    (plain_append (version_piece version ++ codes " " ++ name_piece name) (slot_piece boundary)
    (plain_append (version_piece version ++ codes " ") (name_piece name) (opens_plain version) (name_plain name is)) (slot_plain boundary)) (through_plain a b)) (queue_plain n))

pub queue_report_one : (version : ℕ) (name : List ℕ) (link boundary : ℕ) (s : Setting) (c : Counts) → is_name name ≡ true → IsOneLine (queue_report version name link boundary s c)
unfolding queue_report
queue_report_one version name link boundary s c is =
    queue_one version name boundary (entered_link s c link boundary) (left_link s c link boundary) (queue_at s c link boundary) is

-- ---- origins
pub node_plain : (name : List ℕ) → is_name name ≡ true → IsPlain (node_piece name)
unfolding node_piece
node_plain name is = plain_append (codes "node ") name (plain_words (codes "node ") refl) (plain_name name is)

origin_plain : (a b c : ℕ) → IsPlain (origin_piece a b c)
unfolding origin_piece
origin_plain a b c = plain_append (amount_piece (codes " produced ") a ++ amount_piece (codes " left ") b) (amount_piece (codes " waiting ") c)
    (plain_append (amount_piece (codes " produced ") a) (amount_piece (codes " left ") b)
    (plain_amount (codes " produced ") a (plain_words (codes " produced ") refl))
    (plain_amount (codes " left ") b (plain_words (codes " left ") refl)))
    (plain_amount (codes " waiting ") c (plain_words (codes " waiting ") refl))

origin_one : (version : ℕ) (name : List ℕ) (boundary a b c : ℕ) → is_name name ≡ true → IsOneLine (origin_line version name boundary a b c)
unfolding origin_line
origin_one version name boundary a b c is =
    one_line (version_piece version ++ codes " " ++ node_piece name ++ slot_piece boundary ++ origin_piece a b c)
    (plain_append (version_piece version ++ codes " " ++ node_piece name ++ slot_piece boundary) (origin_piece a b c)
    (plain_append (version_piece version ++ codes " " ++ node_piece name) (slot_piece boundary)
    (plain_append (version_piece version ++ codes " ") (node_piece name) (opens_plain version) (node_plain name is)) (slot_plain boundary)) (origin_plain a b c))

pub origin_report_one : (version : ℕ) (name : List ℕ) (node boundary : ℕ) (s : Setting) (c : Counts) → is_name name ≡ true → IsOneLine (origin_report version name node boundary s c)
unfolding origin_report
origin_report_one version name node boundary s c is =
    origin_one version name boundary (produced_in_all s node boundary) (departed_from s c node boundary) (waiting_at s c node boundary) is
