-- Loadings of one scenario have the same reports of all links, of all nodes and of all boundaries.
use Rattle.std.proofs.Common.{ℕ, zero, suc, ◌≡◌, ◌+◌, ◌-◌, ◌*◌, ◌<◌, ◌≤◌, ◌++◌, List, nat_lt, refl, ap, ◌∙◌, codes, arith, if◌then◌else◌}
use Rattle.std.proofs.Math.Nat.{min-le_right}
use Rattle.ltm_units.specs.Texts.{texts_below}
use Rattle.ltm_flows.specs.Counts.{Counts}
use Rattle.ltm_loading.specs.Setting.{Setting}
use Rattle.ltm_loading.specs.Totals.{entered_link, left_link}
use Rattle.ltm_loading.proofs.Same.{AgreeTo}
use Rattle.ltm_flows.specs.Origins.{produced_in_all, departed_from}
use Rattle.ltm_times.specs.Times.{time_spent}
use Rattle.ltm_times.specs.Peaks.{peak}
use Rattle.ltm_times.specs.Queues.{queue, waiting_at}
use Rattle.ltm_times.specs.Delays.{spent_on, queued_on, fullest, waited_at, longest, queued, waited}
use Rattle.ltm_times.proofs.Alike.{entered_same, left_same, spent_same}
use Rattle.ltm_times.proofs.DelaysAlike.{queue_same, queued_same, waited_same, departed_from_same}
use Rattle.ltm_times.proofs.Peaks.{peaks_hold}
use Rattle.ltm_times.proofs.SpentSo.{over_same}
use Rattle.ltm_report.specs.Pieces.{version_piece, newline}
use Rattle.ltm_report.specs.Links.{name_piece}
use Rattle.ltm_report.specs.Times.{slot_piece}
use Rattle.ltm_report.specs.Delays.{node_piece, spent_piece, waited_piece}
use Rattle.ltm_report.specs.Rows.{count_piece, counts, row, state_line, curve_line, departures_line, link_numbers, node_numbers, delays_line}
use Rattle.ltm_report.specs.Sampled.{told_boundaries, told_at}
use Rattle.ltm_report.specs.Samples.{every_piece, rows, samples_line, samples_report}
use Rattle.ltm_report.specs.RowReports.{state_report, curve_report, departures_report, link_delays, node_delays, delays_report}

below_same : (n : ℕ) (f g : ℕ → List ℕ) → ((k : ℕ) → k < n → f k ≡ g k) → texts_below n f ≡ texts_below n g
below_same zero f g same = refl
below_same (suc n) f g same =
    ap (λ (x : List ℕ). x ++ f n) (below_same n f g (λ k less. same k (omega arith))) ∙ ap (λ (x : List ℕ). texts_below n g ++ x) (same n (omega arith))

row_same : (words : List ℕ) (many : ℕ) (f g : ℕ → ℕ) → ((k : ℕ) → k < many → f k ≡ g k) → row words many f ≡ row words many g
unfolding row
row_same words many f g same =
    ap (λ (x : List ℕ). words ++ x) (below_same many (λ k. count_piece (f k)) (λ k. count_piece (g k)) (λ k less. ap count_piece (same k less)))

pub states_same : (s : Setting) (a b : Counts) (version boundary : ℕ) → 0 < s.step → AgreeTo s a b s.slots → boundary ≤ s.slots
    → state_report version boundary s a ≡ state_report version boundary s b
unfolding state_report state_line
states_same s a b version boundary some same within =
    let opens = version_piece version ++ slot_piece boundary in
    let entered = row_same (codes " in") s.links (λ link. entered_link s a link boundary) (λ link. entered_link s b link boundary) (λ link there. entered_same s a b link boundary same there within) in
    let left = row_same (codes " out") s.links (λ link. left_link s a link boundary) (λ link. left_link s b link boundary) (λ link there. left_same s a b link boundary same there within) in
    let stands = row_same (codes " queue") s.links (λ link. queue s a link boundary) (λ link. queue s b link boundary) (λ link there. queue_same s a b link boundary some same there within) in
    let waits = row_same (codes " waiting") s.nodes (λ node. waiting_at s a node boundary) (λ node. waiting_at s b node boundary)
    (λ node there. ap (λ (n : ℕ). produced_in_all s node boundary - n) (departed_from_same s a b node boundary same there within)) in
    ap (λ (x : List ℕ). opens ++ x ++ row (codes " out") s.links (λ link. left_link s a link boundary) ++ row (codes " queue") s.links (λ link. queue s a link boundary) ++ row (codes " waiting") s.nodes (λ node. waiting_at s a node boundary) ++ newline) entered
    ∙ (ap (λ (x : List ℕ). opens ++ row (codes " in") s.links (λ link. entered_link s b link boundary) ++ x ++ row (codes " queue") s.links (λ link. queue s a link boundary) ++ row (codes " waiting") s.nodes (λ node. waiting_at s a node boundary) ++ newline) left
    ∙ (ap (λ (x : List ℕ). opens ++ row (codes " in") s.links (λ link. entered_link s b link boundary) ++ row (codes " out") s.links (λ link. left_link s b link boundary) ++ x ++ row (codes " waiting") s.nodes (λ node. waiting_at s a node boundary) ++ newline) stands
    ∙ ap (λ (x : List ℕ). opens ++ row (codes " in") s.links (λ link. entered_link s b link boundary) ++ row (codes " out") s.links (λ link. left_link s b link boundary) ++ row (codes " queue") s.links (λ link. queue s b link boundary) ++ x ++ newline) waits))

pub curves_same : (s : Setting) (a b : Counts) (version link : ℕ) (name : List ℕ) → AgreeTo s a b s.slots → link < s.links
    → curve_report version name link s a ≡ curve_report version name link s b
unfolding curve_report curve_line
curves_same s a b version link name same there =
    let opens = version_piece version ++ codes " " ++ name_piece name in
    let entered = row_same (codes " in") (s.slots + 1) (entered_link s a link) (entered_link s b link) (λ k less. entered_same s a b link k same there (omega arith)) in
    let left = row_same (codes " out") (s.slots + 1) (left_link s a link) (left_link s b link) (λ k less. left_same s a b link k same there (omega arith)) in
    ap (λ (x : List ℕ). opens ++ x ++ row (codes " out") (s.slots + 1) (left_link s a link) ++ newline) entered
    ∙ ap (λ (x : List ℕ). opens ++ row (codes " in") (s.slots + 1) (entered_link s b link) ++ x ++ newline) left

pub departures_same : (s : Setting) (a b : Counts) (version node : ℕ) (name : List ℕ) → AgreeTo s a b s.slots → node < s.nodes
    → departures_report version name node s a ≡ departures_report version name node s b
unfolding departures_report departures_line
departures_same s a b version node name same there =
    let opens = version_piece version ++ codes " " ++ node_piece name ++ row (codes " produced") (s.slots + 1) (produced_in_all s node) in
    ap (λ (x : List ℕ). opens ++ x ++ newline)
    (row_same (codes " left") (s.slots + 1) (departed_from s a node) (departed_from s b node) (λ k less. departed_from_same s a b node k same there (omega arith)))

-- ---- by so many slots
rows_same : (words : List ℕ) (things many : ℕ) (f g : ℕ → ℕ → ℕ) → ((thing k : ℕ) → thing < things → f thing k ≡ g thing k) → rows words things many f ≡ rows words things many g
unfolding rows
rows_same words things many f g same =
    ap (λ (x : List ℕ). words ++ x)
    (below_same things (λ thing. counts many (f thing)) (λ thing. counts many (g thing))
    (λ thing there. below_same many (λ k. count_piece (f thing k)) (λ k. count_piece (g thing k)) (λ k less. ap count_piece (same thing k there))))

told_within : (every slots place : ℕ) → told_at every slots place ≤ slots
told_within every slots place = min-le_right ((place + 1) * every) slots

pub samples_same : (s : Setting) (a b : Counts) (every version : ℕ) → AgreeTo s a b s.slots → samples_report every version s a ≡ samples_report every version s b
unfolding samples_report samples_line
samples_same s a b every version same =
    let many = told_boundaries every s.slots in
    let opens = version_piece version ++ every_piece every in
    let entered : Counts → ℕ → ℕ → ℕ = λ c link place. entered_link s c link (told_at every s.slots place) in
    let left : Counts → ℕ → ℕ → ℕ = λ c link place. left_link s c link (told_at every s.slots place) in
    let departed : Counts → ℕ → ℕ → ℕ = λ c node place. departed_from s c node (told_at every s.slots place) in
    let first = rows_same (codes " in") s.links many (entered a) (entered b) (λ link place there. entered_same s a b link (told_at every s.slots place) same there (told_within every s.slots place)) in
    let second = rows_same (codes " out") s.links many (left a) (left b) (λ link place there. left_same s a b link (told_at every s.slots place) same there (told_within every s.slots place)) in
    let third = rows_same (codes " departed") s.nodes many (departed a) (departed b) (λ node place there. departed_from_same s a b node (told_at every s.slots place) same there (told_within every s.slots place)) in
    ap (λ (x : List ℕ). opens ++ x ++ rows (codes " out") s.links many (left a) ++ rows (codes " departed") s.nodes many (departed a) ++ newline) first
    ∙ (ap (λ (x : List ℕ). opens ++ rows (codes " in") s.links many (entered b) ++ x ++ rows (codes " departed") s.nodes many (departed a) ++ newline) second
    ∙ ap (λ (x : List ℕ). opens ++ rows (codes " in") s.links many (entered b) ++ rows (codes " out") s.links many (left b) ++ x ++ newline) third)

-- ---- delays
pick_same : (x y u v p q last : ℕ) → x ≡ u → y ≡ v → p ≡ q → (if nat_lt x y then last else p) ≡ (if nat_lt u v then last else q)
pick_same x y u v p q last first second rest =
    ap (λ (n : ℕ). if nat_lt n y then last else p) first
    ∙ (ap (λ (n : ℕ). if nat_lt u n then last else p) second ∙ ap (λ (n : ℕ). if nat_lt u v then last else n) rest)

peak_same : (f g : ℕ → ℕ) (last : ℕ) → ((k : ℕ) → k ≤ last → f k ≡ g k) → peak f last ≡ peak g last
peak_same f g zero same = refl
peak_same f g (suc last) same =
    let before : peak f last ≡ peak g last = peak_same f g last (λ k less. same k (omega arith)) in
    let within : peak f last ≤ last = (peaks_hold f last).within in
    pick_same (f (peak f last)) (f (suc last)) (g (peak g last)) (g (suc last)) (peak f last) (peak g last) (suc last)
    (same (peak f last) (omega arith) ∙ ap g before) (same (suc last) (omega arith)) before

link_same : (s : Setting) (a b : Counts) (link : ℕ) → 0 < s.step → AgreeTo s a b s.slots → link < s.links → link_delays s a link ≡ link_delays s b link
link_same s a b link some same there =
    let each : (k : ℕ) → k ≤ s.slots → queue s a link k ≡ queue s b link k = λ k within. queue_same s a b link k some same there within in
    let spent : spent_on s a link ≡ spent_on s b link = over_same s (λ k. entered_link s a link k - left_link s a link k) (λ k. entered_link s b link k - left_link s b link k)
    (λ k within. let came = entered_same s a b link k same there within in let went = left_same s a b link k same there within in omega (arith, came, went)) in
    let stood : queued_on s a link ≡ queued_on s b link = over_same s (queue s a link) (queue s b link) each in
    let at : fullest s a link ≡ fullest s b link = peak_same (queue s a link) (queue s b link) s.slots each in
    let most : queue s a link (fullest s a link) ≡ queue s b link (fullest s b link) =
    each (fullest s a link) (peaks_hold (queue s a link) s.slots).within ∙ ap (queue s b link) at in
    ap (λ (n : ℕ). link_numbers n (queued_on s a link) (queue s a link (fullest s a link)) (fullest s a link)) spent
    ∙ (ap (λ (n : ℕ). link_numbers (spent_on s b link) n (queue s a link (fullest s a link)) (fullest s a link)) stood
    ∙ (ap (λ (n : ℕ). link_numbers (spent_on s b link) (queued_on s b link) n (fullest s a link)) most
    ∙ ap (λ (n : ℕ). link_numbers (spent_on s b link) (queued_on s b link) (queue s b link (fullest s b link)) n) at))

node_same : (s : Setting) (a b : Counts) (node : ℕ) → AgreeTo s a b s.slots → node < s.nodes → node_delays s a node ≡ node_delays s b node
node_same s a b node same there =
    let each : (k : ℕ) → k ≤ s.slots → waiting_at s a node k ≡ waiting_at s b node k =
    λ k within. ap (λ (n : ℕ). produced_in_all s node k - n) (departed_from_same s a b node k same there within) in
    let stood : waited_at s a node ≡ waited_at s b node = over_same s (waiting_at s a node) (waiting_at s b node) each in
    let at : longest s a node ≡ longest s b node = peak_same (waiting_at s a node) (waiting_at s b node) s.slots each in
    let most : waiting_at s a node (longest s a node) ≡ waiting_at s b node (longest s b node) =
    each (longest s a node) (peaks_hold (waiting_at s a node) s.slots).within ∙ ap (waiting_at s b node) at in
    ap (λ (n : ℕ). node_numbers n (waiting_at s a node (longest s a node)) (longest s a node)) stood
    ∙ (ap (λ (n : ℕ). node_numbers (waited_at s b node) n (longest s a node)) most
    ∙ ap (λ (n : ℕ). node_numbers (waited_at s b node) (waiting_at s b node (longest s b node)) n) at)

pub all_delays_same : (s : Setting) (a b : Counts) (version : ℕ) → 0 < s.step → AgreeTo s a b s.slots → delays_report version s a ≡ delays_report version s b
unfolding delays_report delays_line
all_delays_same s a b version some same =
    let of_links = below_same s.links (link_delays s a) (link_delays s b) (λ link there. link_same s a b link some same there) in
    let of_nodes = below_same s.nodes (node_delays s a) (node_delays s b) (λ node there. node_same s a b node same there) in
    ap (λ (n : ℕ). version_piece version ++ spent_piece n (queued s a) ++ waited_piece (waited s a) ++ codes " links" ++ texts_below s.links (link_delays s a) ++ codes " nodes" ++ texts_below s.nodes (node_delays s a) ++ newline) (spent_same s a b same)
    ∙ (ap (λ (n : ℕ). version_piece version ++ spent_piece (time_spent s b) n ++ waited_piece (waited s a) ++ codes " links" ++ texts_below s.links (link_delays s a) ++ codes " nodes" ++ texts_below s.nodes (node_delays s a) ++ newline) (queued_same s a b some same)
    ∙ (ap (λ (n : ℕ). version_piece version ++ spent_piece (time_spent s b) (queued s b) ++ waited_piece n ++ codes " links" ++ texts_below s.links (link_delays s a) ++ codes " nodes" ++ texts_below s.nodes (node_delays s a) ++ newline) (waited_same s a b same)
    ∙ (ap (λ (x : List ℕ). version_piece version ++ spent_piece (time_spent s b) (queued s b) ++ waited_piece (waited s b) ++ codes " links" ++ x ++ codes " nodes" ++ texts_below s.nodes (node_delays s a) ++ newline) of_links
    ∙ ap (λ (x : List ℕ). version_piece version ++ spent_piece (time_spent s b) (queued s b) ++ waited_piece (waited s b) ++ codes " links" ++ texts_below s.links (link_delays s b) ++ codes " nodes" ++ x ++ newline) of_nodes)))
