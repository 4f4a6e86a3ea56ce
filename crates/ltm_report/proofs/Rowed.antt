-- Lines of all links, nodes or boundaries are those of their reports.
use Rattle.std.proofs.Common.{ℕ, suc, refl, ◌≡◌, ◌+◌, ◌++◌, List, [], ◌∙◌, ap, append_assoc, codes, arith}
use Rattle.ltm_units.specs.Texts.{texts_below}
use Rattle.ltm_curve.specs.Counts.{Counts}
use Rattle.ltm_loading.specs.Setting.{Setting}
use Rattle.ltm_loading.specs.Totals.{entered_link, left_link}
use Rattle.ltm_flows.specs.declared.loading.Loading.{Loading}
use Rattle.ltm_flows.specs.Origins.{produced_in_all, departed_from}
use Rattle.ltm_flows.specs.Shown.{ShowsCounts, version_of, last_of, links_of, nodes_of}
use Rattle.ltm_times.specs.declared.delays.LinkDelay.{LinkDelay}
use Rattle.ltm_times.specs.declared.delays.OriginDelay.{OriginDelay}
use Rattle.ltm_times.specs.Queues.{queue, waiting_at}
use Rattle.ltm_times.specs.Times.{time_spent}
use Rattle.ltm_times.specs.Delays.{fullest, longest, queued, waited, IsLinkDelay, IsOriginDelay}
use Rattle.ltm_report.specs.Pieces.{version_piece, newline}
use Rattle.ltm_report.specs.Links.{name_piece}
use Rattle.ltm_report.specs.Times.{slot_piece}
use Rattle.ltm_report.specs.Delays.{node_piece, seconds_piece, spent_piece, waited_piece}
use Rattle.ltm_report.specs.Rows.{row, state_line, curve_line, departures_line, peak_numbers, link_numbers, node_numbers, delays_line}
use Rattle.ltm_report.specs.RowReports.{state_report, curve_report, departures_report, link_delays, node_delays, delays_report}

-- one piece behind another
pub behind : (old x y t u : List ℕ) → x ≡ old ++ t → y ≡ x ++ u → y ≡ old ++ (t ++ u)
behind old x y t u one more = more ∙ (ap (λ (z : List ℕ). z ++ u) one ∙ append_assoc old t u)

pub version_shown : (l : Loading) (v version : ℕ) (old new : List ℕ) → v ≡ version_of l → version_of l ≡ version → new ≡ old ++ version_piece v → new ≡ old ++ version_piece version
version_shown l v version old new is same wrote = wrote ∙ ap (λ (n : ℕ). old ++ version_piece n) (is ∙ same)

pub as_many : (n m k : ℕ) (words old new : List ℕ) (f : ℕ → ℕ) → n ≡ m → m ≡ k → new ≡ old ++ row words n f → new ≡ old ++ row words k f
as_many n m k words old new f is same wrote = wrote ∙ ap (λ (i : ℕ). old ++ row words i f) (is ∙ same)

-- two rows, one behind another
pub two_rows : (n m a b : ℕ) (words more old mid new : List ℕ) (f g : ℕ → ℕ) → n ≡ a → m ≡ b → mid ≡ old ++ row words n f → new ≡ mid ++ row more m g → new ≡ old ++ row words a f ++ row more b g
two_rows n m a b words more old mid new f g is also one two =
    two ∙ (ap (λ (x : List ℕ). x ++ row more m g) one
    ∙ (ap (λ (k : ℕ). old ++ row words k f ++ row more m g) is ∙ ap (λ (k : ℕ). old ++ row words a f ++ row more k g) also))

pub state_told : (l : Loading) (v boundary : ℕ) (old x1 x2 x3 x4 x5 : List ℕ) → v ≡ version_of l
    → x1 ≡ old ++ version_piece v
    → x2 ≡ x1 ++ slot_piece boundary
    → ((s : Setting) (version : ℕ) (c : Counts) → ShowsCounts s version c l
    → x3 ≡ x2 ++ row (codes " in") (links_of l) (λ link. entered_link s c link boundary) ++ row (codes " out") (links_of l) (λ link. left_link s c link boundary))
    → ((s : Setting) (version : ℕ) (c : Counts) → ShowsCounts s version c l
    → x4 ≡ x3 ++ row (codes " queue") (links_of l) (λ link. queue s c link boundary) ++ row (codes " waiting") (nodes_of l) (λ node. waiting_at s c node boundary))
    → x5 ≡ x4 ++ newline
    → (s : Setting) (version : ℕ) (c : Counts) → ShowsCounts s version c l → x5 ≡ old ++ state_report version boundary s c
unfolding state_report state_line
state_told l v boundary old x1 x2 x3 x4 x5 is e1 e2 e3 e4 e5 s version c shows =
    let f1 = version_shown l v version old x1 is shows.version e1 in
    let ins : ℕ → ℕ = λ link. entered_link s c link boundary in
    let outs : ℕ → ℕ = λ link. left_link s c link boundary in
    let stands : ℕ → ℕ = λ link. queue s c link boundary in
    let waits : ℕ → ℕ = λ node. waiting_at s c node boundary in
    let f3 = two_rows (links_of l) (links_of l) s.links s.links (codes " in") (codes " out") x2 _ x3 ins outs shows.links shows.links refl (e3 s version c shows) in
    let f4 = two_rows (links_of l) (nodes_of l) s.links s.nodes (codes " queue") (codes " waiting") x3 _ x4 stands waits shows.links shows.nodes refl (e4 s version c shows) in
    let g2 = behind old x1 x2 _ _ f1 e2 in
    let g3 = behind old _ x3 _ _ (behind old x2 (x2 ++ row (codes " in") s.links ins) _ _ g2 refl) f3 in
    let g4 = behind old _ x4 _ _ (behind old x3 (x3 ++ row (codes " queue") s.links stands) _ _ g3 refl) f4 in
    behind old x4 x5 _ _ g4 e5

pub curve_told : (l : Loading) (name : List ℕ) (link v slots : ℕ) (old x1 x2 x3 x4 x5 x6 : List ℕ)
    → v ≡ version_of l → slots ≡ last_of l
    → x1 ≡ old ++ version_piece v
    → x2 ≡ x1 ++ codes " "
    → x3 ≡ x2 ++ name_piece name
    → ((s : Setting) (version : ℕ) (c : Counts) → ShowsCounts s version c l → x4 ≡ x3 ++ row (codes " in") (slots + 1) (entered_link s c link))
    → ((s : Setting) (version : ℕ) (c : Counts) → ShowsCounts s version c l → x5 ≡ x4 ++ row (codes " out") (slots + 1) (left_link s c link))
    → x6 ≡ x5 ++ newline
    → (s : Setting) (version : ℕ) (c : Counts) → ShowsCounts s version c l → x6 ≡ old ++ curve_report version name link s c
unfolding curve_report curve_line
curve_told l name link v slots old x1 x2 x3 x4 x5 x6 is last e1 e2 e3 e4 e5 e6 s version c shows =
    let f1 = version_shown l v version old x1 is shows.version e1 in
    let all = ap (λ (n : ℕ). n + 1) last in
    let same = ap (λ (n : ℕ). n + 1) shows.shape.same_slots in
    let f4 = as_many (slots + 1) (last_of l + 1) (s.slots + 1) (codes " in") x3 x4 (entered_link s c link) all same (e4 s version c shows) in
    let f5 = as_many (slots + 1) (last_of l + 1) (s.slots + 1) (codes " out") x4 x5 (left_link s c link) all same (e5 s version c shows) in
    behind old x5 x6 _ _ (behind old x4 x5 _ _ (behind old x3 x4 _ _ (behind old x2 x3 _ _ (behind old x1 x2 _ _ f1 e2) e3) f4) f5) e6

pub departures_told : (l : Loading) (name : List ℕ) (node v slots : ℕ) (old x1 x2 x3 x4 x5 x6 : List ℕ)
    → v ≡ version_of l → slots ≡ last_of l
    → x1 ≡ old ++ version_piece v
    → x2 ≡ x1 ++ codes " "
    → x3 ≡ x2 ++ node_piece name
    → ((s : Setting) (version : ℕ) (c : Counts) → ShowsCounts s version c l → x4 ≡ x3 ++ row (codes " produced") (slots + 1) (produced_in_all s node))
    → ((s : Setting) (version : ℕ) (c : Counts) → ShowsCounts s version c l → x5 ≡ x4 ++ row (codes " left") (slots + 1) (departed_from s c node))
    → x6 ≡ x5 ++ newline
    → (s : Setting) (version : ℕ) (c : Counts) → ShowsCounts s version c l → x6 ≡ old ++ departures_report version name node s c
unfolding departures_report departures_line
departures_told l name node v slots old x1 x2 x3 x4 x5 x6 is last e1 e2 e3 e4 e5 e6 s version c shows =
    let f1 = version_shown l v version old x1 is shows.version e1 in
    let all = ap (λ (n : ℕ). n + 1) last in
    let same = ap (λ (n : ℕ). n + 1) shows.shape.same_slots in
    let f4 = as_many (slots + 1) (last_of l + 1) (s.slots + 1) (codes " produced") x3 x4 (produced_in_all s node) all same (e4 s version c shows) in
    let f5 = as_many (slots + 1) (last_of l + 1) (s.slots + 1) (codes " left") x4 x5 (departed_from s c node) all same (e5 s version c shows) in
    behind old x5 x6 _ _ (behind old x4 x5 _ _ (behind old x3 x4 _ _ (behind old x2 x3 _ _ (behind old x1 x2 _ _ f1 e2) e3) f4) f5) e6

-- ---- delays
pub one_text_more : (n : ℕ) (text : ℕ → List ℕ) (base old new : List ℕ) → old ≡ base ++ texts_below n text → new ≡ old ++ text n → new ≡ base ++ texts_below (n + 1) text
one_text_more n text base old new before more =
    let next : suc n ≡ n + 1 = omega arith in
    behind base old new (texts_below n text) (text n) before more ∙ ap (λ (k : ℕ). base ++ texts_below k text) next

pub link_told : (s : Setting) (c : Counts) (link : ℕ) (d : LinkDelay) (old new : List ℕ) → IsLinkDelay s c link d
    → new ≡ old ++ link_numbers d.spent d.queued d.peak.most.0 d.peak.at
    → new ≡ old ++ link_delays s c link
link_told s c link d old new is wrote =
    let spent = is.spent in
    let queued = is.queued in
    let at = is.peak.at in
    let most : d.peak.most.0 ≡ queue s c link (fullest s c link) = is.peak.most ∙ ap (queue s c link) is.peak.at in
    cc

pub node_told : (s : Setting) (c : Counts) (node : ℕ) (d : OriginDelay) (old x1 x2 : List ℕ) → IsOriginDelay s c node d
    → x1 ≡ old ++ seconds_piece (codes " ") d.waited
    → x2 ≡ x1 ++ peak_numbers d.peak.most.0 d.peak.at
    → x2 ≡ old ++ node_delays s c node
unfolding node_numbers
node_told s c node d old x1 x2 is e1 e2 =
    let wrote = behind old x1 x2 _ _ e1 e2 in
    let waited = is.waited in
    let at = is.peak.at in
    let most : d.peak.most.0 ≡ waiting_at s c node (longest s c node) = is.peak.most ∙ ap (waiting_at s c node) is.peak.at in
    cc

pub delays_told : (l : Loading) (v spent stood waits : ℕ) (old none own piece x1 x2 x3 x4 x5 x6 x7 x8 : List ℕ) → v ≡ version_of l
    → ((s : Setting) (version : ℕ) (c : Counts) → ShowsCounts s version c l → spent ≡ time_spent s c)
    → ((s : Setting) (version : ℕ) (c : Counts) → ShowsCounts s version c l → stood ≡ queued s c)
    → ((s : Setting) (version : ℕ) (c : Counts) → ShowsCounts s version c l → waits ≡ waited s c)
    → none ≡ []
    → ((s : Setting) (version : ℕ) (c : Counts) → ShowsCounts s version c l → own ≡ none ++ texts_below (links_of l) (link_delays s c))
    → x1 ≡ old ++ version_piece v
    → x2 ≡ x1 ++ spent_piece spent stood
    → x3 ≡ x2 ++ waited_piece waits
    → x4 ≡ x3 ++ codes " links"
    → piece ≡ own
    → x5 ≡ x4 ++ piece
    → x6 ≡ x5 ++ codes " nodes"
    → ((s : Setting) (version : ℕ) (c : Counts) → ShowsCounts s version c l → x7 ≡ x6 ++ texts_below (nodes_of l) (node_delays s c))
    → x8 ≡ x7 ++ newline
    → (s : Setting) (version : ℕ) (c : Counts) → ShowsCounts s version c l → x8 ≡ old ++ delays_report version s c
unfolding delays_report delays_line
delays_told l v spent stood waits old none own piece x1 x2 x3 x4 x5 x6 x7 x8 is spends stands waited_so empty links e1 e2 e3 e4 e e5 e6 e7 e8 s version c shows =
    let f1 = version_shown l v version old x1 is shows.version e1 in
    let f2 = e2 ∙ (ap (λ (n : ℕ). x1 ++ spent_piece n stood) (spends s version c shows) ∙ ap (λ (n : ℕ). x1 ++ spent_piece (time_spent s c) n) (stands s version c shows)) in
    let f3 = e3 ∙ ap (λ (n : ℕ). x2 ++ waited_piece n) (waited_so s version c shows) in
    let own_is : own ≡ texts_below s.links (link_delays s c) =
    links s version c shows ∙ (ap (λ (x : List ℕ). x ++ texts_below (links_of l) (link_delays s c)) empty ∙ ap (λ (n : ℕ). texts_below n (link_delays s c)) shows.links) in
    let f5 = e5 ∙ ap (λ (x : List ℕ). x4 ++ x) (e ∙ own_is) in
    let f7 = e7 s version c shows ∙ ap (λ (n : ℕ). x6 ++ texts_below n (node_delays s c)) shows.nodes in
    behind old x7 x8 _ _ (behind old x6 x7 _ _ (behind old x5 x6 _ _ (behind old x4 x5 _ _ (behind old x3 x4 _ _ (behind old x2 x3 _ _ (behind old x1 x2 _ _ f1 f2) f3) e4) f5) e6) f7) e8
