-- Reports of all links, of all nodes or of all boundaries: each is one line.
use Rattle.std.proofs.Common.{ℕ, zero, suc, ◌≡◌, ◌≢◌, ◌-◌, true, false, Bool, nat_lt, if◌then◌else◌, List, [], ◌++◌, refl, codes}
use Rattle.std.proofs.lemmas.List.Elements.{All-nil}
use Rattle.ltm_units.specs.Texts.{number_piece, amount_piece, texts_below}
use Rattle.ltm_units.specs.Words.{is_name}
use Rattle.ltm_flows.specs.Counts.{Counts}
use Rattle.ltm_loading.specs.Setting.{Setting}
use Rattle.ltm_report.specs.Pieces.{version_piece}
use Rattle.ltm_report.specs.Links.{name_piece}
use Rattle.ltm_report.specs.Times.{slot_piece}
use Rattle.ltm_report.specs.Delays.{seconds_piece, spent_piece, waited_piece, node_piece}
use Rattle.ltm_report.specs.Gaps.{gap_piece, late_piece, gap_pieces, gap_line}
use Rattle.ltm_report.specs.GapReports.{gap_report}
use Rattle.ltm_report.specs.Rows.{count_piece, counts, row, state_line, curve_line, departures_line, peak_numbers, link_numbers, node_numbers, delays_line}
use Rattle.ltm_report.specs.Samples.{every_piece, rows, samples_line, samples_report}
use Rattle.ltm_report.specs.RowReports.{state_report, curve_report, departures_report, link_delays, node_delays, delays_report}
use Rattle.ltm_session.specs.OneLine.{IsPlain, IsOneLine}
use Rattle.ltm_session.proofs.Pieces.{plain_append, plain_words, plain_number, plain_amount}
use Rattle.ltm_session.proofs.OneLine.{one_line}
use Rattle.ltm_session.proofs.ReportLines.{version_plain, name_plain, slot_plain, opens_plain}
use Rattle.ltm_session.proofs.DelayLines.{plain_seconds, spent_plain, waited_plain, node_plain}

blank_plain : IsPlain (codes " ")
blank_plain = plain_words (codes " ") refl

below_plain : (n : ℕ) (text : ℕ → List ℕ) → ((k : ℕ) → IsPlain (text k)) → IsPlain (texts_below n text)
below_plain zero text each = All-nil (λ byte. byte ≢ 10)
below_plain (suc n) text each = plain_append (texts_below n text) (text n) (below_plain n text each) (each n)

count_plain : (n : ℕ) → IsPlain (count_piece n)
unfolding count_piece
count_plain n = plain_number (codes " ") n blank_plain

row_plain : (words : List ℕ) (many : ℕ) (count : ℕ → ℕ) → IsPlain words → IsPlain (row words many count)
unfolding row
row_plain words many count plain =
    plain_append words (texts_below many (λ k. count_piece (count k))) plain (below_plain many (λ k. count_piece (count k)) (λ k. count_plain (count k)))

state_one : (version boundary links nodes : ℕ) (a b c d : ℕ → ℕ) → IsOneLine (state_line version boundary links nodes a b c d)
unfolding state_line
state_one version boundary links nodes a b c d =
    one_line _
    (plain_append _ (row (codes " waiting") nodes d)
    (plain_append _ (row (codes " queue") links c)
    (plain_append _ (row (codes " out") links b)
    (plain_append _ (row (codes " in") links a)
    (plain_append (version_piece version) (slot_piece boundary) (version_plain version) (slot_plain boundary))
    (row_plain (codes " in") links a (plain_words (codes " in") refl)))
    (row_plain (codes " out") links b (plain_words (codes " out") refl)))
    (row_plain (codes " queue") links c (plain_words (codes " queue") refl)))
    (row_plain (codes " waiting") nodes d (plain_words (codes " waiting") refl)))

pub state_report_one : (version boundary : ℕ) (s : Setting) (c : Counts) → IsOneLine (state_report version boundary s c)
unfolding state_report
state_report_one version boundary s c = state_one version boundary s.links s.nodes _ _ _ _

curve_one : (version : ℕ) (name : List ℕ) (many : ℕ) (a b : ℕ → ℕ) → is_name name ≡ true → IsOneLine (curve_line version name many a b)
unfolding curve_line
curve_one version name many a b is =
    one_line _
    (plain_append _ (row (codes " out") many b)
    (plain_append _ (row (codes " in") many a)
    (plain_append (version_piece version ++ codes " ") (name_piece name) (opens_plain version) (name_plain name is))
    (row_plain (codes " in") many a (plain_words (codes " in") refl)))
    (row_plain (codes " out") many b (plain_words (codes " out") refl)))

pub curve_report_one : (version : ℕ) (name : List ℕ) (link : ℕ) (s : Setting) (c : Counts) → is_name name ≡ true → IsOneLine (curve_report version name link s c)
unfolding curve_report
curve_report_one version name link s c is = curve_one version name _ _ _ is

departures_one : (version : ℕ) (name : List ℕ) (many : ℕ) (a b : ℕ → ℕ) → is_name name ≡ true → IsOneLine (departures_line version name many a b)
unfolding departures_line
departures_one version name many a b is =
    one_line _
    (plain_append _ (row (codes " left") many b)
    (plain_append _ (row (codes " produced") many a)
    (plain_append (version_piece version ++ codes " ") (node_piece name) (opens_plain version) (node_plain name is))
    (row_plain (codes " produced") many a (plain_words (codes " produced") refl)))
    (row_plain (codes " left") many b (plain_words (codes " left") refl)))

pub departures_report_one : (version : ℕ) (name : List ℕ) (node : ℕ) (s : Setting) (c : Counts) → is_name name ≡ true → IsOneLine (departures_report version name node s c)
unfolding departures_report
departures_report_one version name node s c is = departures_one version name _ _ _ is

-- ---- by so many slots
rows_plain : (words : List ℕ) (things many : ℕ) (count : ℕ → ℕ → ℕ) → IsPlain words → IsPlain (rows words things many count)
unfolding rows
rows_plain words things many count plain =
    plain_append words (texts_below things (λ thing. counts many (count thing))) plain
    (below_plain things (λ thing. counts many (count thing)) (λ thing. below_plain many (λ k. count_piece (count thing k)) (λ k. count_plain (count thing k))))

every_plain : (every : ℕ) → IsPlain (every_piece every)
unfolding every_piece
every_plain every = plain_number (codes " every ") every (plain_words (codes " every ") refl)

samples_one : (version every links nodes many : ℕ) (a b c : ℕ → ℕ → ℕ) → IsOneLine (samples_line version every links nodes many a b c)
unfolding samples_line
samples_one version every links nodes many a b c =
    one_line _
    (plain_append _ (rows (codes " departed") nodes many c)
    (plain_append _ (rows (codes " out") links many b)
    (plain_append _ (rows (codes " in") links many a)
    (plain_append (version_piece version) (every_piece every) (version_plain version) (every_plain every))
    (rows_plain (codes " in") links many a (plain_words (codes " in") refl)))
    (rows_plain (codes " out") links many b (plain_words (codes " out") refl)))
    (rows_plain (codes " departed") nodes many c (plain_words (codes " departed") refl)))

pub samples_report_one : (every version : ℕ) (s : Setting) (c : Counts) → IsOneLine (samples_report every version s c)
unfolding samples_report
samples_report_one every version s c = samples_one version every s.links s.nodes _ _ _ _

-- ---- delays
blank_seconds : (n : ℕ) → IsPlain (seconds_piece (codes " ") n)
blank_seconds n = plain_seconds (codes " ") n blank_plain

peak_plain : (most at : ℕ) → IsPlain (peak_numbers most at)
unfolding peak_numbers
peak_plain most at =
    plain_append (amount_piece (codes " ") most) (number_piece (codes " ") at) (plain_amount (codes " ") most blank_plain) (plain_number (codes " ") at blank_plain)

link_plain : (spent queued most at : ℕ) → IsPlain (link_numbers spent queued most at)
unfolding link_numbers
link_plain spent queued most at =
    plain_append (seconds_piece (codes " ") spent ++ seconds_piece (codes " ") queued) (peak_numbers most at)
    (plain_append (seconds_piece (codes " ") spent) (seconds_piece (codes " ") queued) (blank_seconds spent) (blank_seconds queued)) (peak_plain most at)

waits_plain : (waited most at : ℕ) → IsPlain (node_numbers waited most at)
unfolding node_numbers
waits_plain waited most at = plain_append (seconds_piece (codes " ") waited) (peak_numbers most at) (blank_seconds waited) (peak_plain most at)

delays_one : (version spent queued waited links nodes : ℕ) (of_link of_node : ℕ → List ℕ) → ((k : ℕ) → IsPlain (of_link k)) → ((k : ℕ) → IsPlain (of_node k))
    → IsOneLine (delays_line version spent queued waited links of_link nodes of_node)
unfolding delays_line
delays_one version spent queued waited links nodes of_link of_node each_link each_node =
    one_line _
    (plain_append _ (texts_below nodes of_node)
    (plain_append _ (codes " nodes")
    (plain_append _ (texts_below links of_link)
    (plain_append _ (codes " links")
    (plain_append (version_piece version ++ spent_piece spent queued) (waited_piece waited)
    (plain_append (version_piece version) (spent_piece spent queued) (version_plain version) (spent_plain spent queued)) (waited_plain waited))
    (plain_words (codes " links") refl))
    (below_plain links of_link each_link))
    (plain_words (codes " nodes") refl))
    (below_plain nodes of_node each_node))

-- ---- gaps
gap_plain : (spent least : ℕ) → IsPlain (gap_piece spent least)
unfolding gap_piece
gap_plain spent least = either (nat_lt spent least)
  where
    either : (b : Bool) → IsPlain (if b then seconds_piece (codes " gap -") (least - spent) else seconds_piece (codes " gap ") (spent - least))
    either true = plain_seconds (codes " gap -") (least - spent) (plain_words (codes " gap -") refl)
    either false = plain_seconds (codes " gap ") (spent - least) (plain_words (codes " gap ") refl)

late_plain : (late : ℕ) → IsPlain (late_piece late)
unfolding late_piece
late_plain late = plain_amount (codes " late ") late (plain_words (codes " late ") refl)

gap_pieces_plain : (spent least late : ℕ) → IsPlain (gap_pieces spent least late)
unfolding gap_pieces
gap_pieces_plain spent least late =
    plain_append _ (late_piece late)
    (plain_append (seconds_piece (codes " spent ") spent ++ seconds_piece (codes " least ") least) (gap_piece spent least)
    (plain_append (seconds_piece (codes " spent ") spent) (seconds_piece (codes " least ") least) (plain_seconds (codes " spent ") spent (plain_words (codes " spent ") refl))
    (plain_seconds (codes " least ") least (plain_words (codes " least ") refl))) (gap_plain spent least))
    (late_plain late)

gap_one : (version spent least late : ℕ) → IsOneLine (gap_line version spent least late)
unfolding gap_line
gap_one version spent least late = one_line _ (plain_append (version_piece version) (gap_pieces spent least late) (version_plain version) (gap_pieces_plain spent least late))

pub gap_report_one : (version : ℕ) (s : Setting) (c : Counts) → IsOneLine (gap_report version s c)
unfolding gap_report
gap_report_one version s c = gap_one version _ _ _

pub delays_report_one : (version : ℕ) (s : Setting) (c : Counts) → IsOneLine (delays_report version s c)
unfolding delays_report
delays_report_one version s c =
    delays_one version _ _ _ s.links s.nodes (link_delays s c) (node_delays s c) (λ link. link_plain _ _ _ _) (λ node. waits_plain _ _ _)
