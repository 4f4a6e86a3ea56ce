-- What the code finds of a link.
use Rattle.std.proofs.Common.{◌≡◌, ℕ, ◌+◌, ◌-◌, ◌<◌, ◌≤◌, min, arith, ap, refl, sym, ◌∙◌, subst}
use Rattle.ltm_units.specs.Sums.{sum_below}
use Rattle.ltm_curve.specs.Counts.{Counts, total, Rises}
use Rattle.ltm_curve.specs.First.{first_units, last_within}
use Rattle.ltm_curve.specs.FirstLaws.{IsPart}
use Rattle.ltm_curve.specs.FirstOf.{AreFirst}
use Rattle.ltm_curve.specs.Table.{destinations_of, counts_of}
use Rattle.ltm_curve.specs.declared.curves.Curves.{Curves}
use Rattle.ltm_curve.proofs.Interpolation.{rises_le}
use Rattle.ltm_curve.proofs.Lasts.{total_rises}
use Rattle.ltm_loading.specs.Setting.{Setting, IsSetting}
use Rattle.ltm_loading.specs.Groups.{up_of, down_of}
use Rattle.ltm_loading.specs.Flows.{earlier, limited, link_goal, link_first, link_sending, position, receiving}
use Rattle.ltm_loading.specs.Ready.{IsLinkReady}
use Rattle.ltm_sending.specs.Front.{IsAtFront}
use Rattle.ltm_sending.specs.MayLeave.{rest_of, MayLeave, WaitOnLink}
use Rattle.ltm_sending.proofs.Lasts.{last_by}
use Rattle.ltm_sending.proofs.Waiting.{may_leave_by, first_by, none_rests, one_rests, rest_within, nothing_limited, whole_limited}

-- totals of a link do not fall
pub entered_rises : (s : Setting) (c : Counts) (l t m up : ℕ) → IsLinkReady s c l t → m ≡ s.destinations → up ≡ up_of l → Rises (total m (c up)) t
entered_rises s c l t m up ready e is_up =
    subst (λ (g : ℕ). Rises (total m (c g)) t) (sym is_up)
    (subst (λ (n : ℕ). Rises (total n (c (up_of l))) t) (sym e) (total_rises s.destinations (c (up_of l)) t ready.entered_rises))

pub left_rises : (s : Setting) (c : Counts) (l t m down : ℕ) → IsLinkReady s c l t → m ≡ s.destinations → down ≡ down_of l → Rises (total m (c down)) t
left_rises s c l t m down ready e is_down =
    subst (λ (g : ℕ). Rises (total m (c g)) t) (sym is_down)
    (subst (λ (n : ℕ). Rises (total n (c (down_of l))) t) (sym e) (total_rises s.destinations (c (down_of l)) t ready.left_rises))

-- the numbers that the code reads of a link, for m destinations
pub record HasRead (s : Setting) (c : Counts) (l t m up down : ℕ) (reached by step free left room goal : ℕ) : Type 0 where
  pub reach : reached ≡ earlier (total m (c up)) step t free
  pub entered : by ≤ t
  pub within : reached ≤ total m (c up) by
  pub same_step : step ≡ s.step
  pub same_free : free ≡ s.free_time l
  pub gone : left ≡ total m (c down) t
  pub same_room : room ≡ s.capacity l t
  pub least : goal ≡ min reached (left + room)

goal_is : (s : Setting) (c : Counts) (l t : ℕ) (reached by step free left room goal : ℕ) → HasRead s c l t s.destinations (up_of l) (down_of l) reached by step free left room goal → goal ≡ link_goal s c l t
goal_is s c l t reached by step free left room goal read =
    let f : ℕ → ℕ = total s.destinations (c (up_of l)) in
    let e : earlier f step t free ≡ earlier f s.step t (s.free_time l) = ap (λ (z : ℕ). earlier f z t free) read.same_step ∙ ap (λ (z : ℕ). earlier f s.step t z) read.same_free in
    omega (arith, read.least, read.reach, read.gone, read.same_room)

found_at : (s : Setting) (c : Counts) (l t by left : ℕ) → IsSetting s → l < s.links → IsLinkReady s c l t → by ≤ t → link_goal s c l t ≤ total s.destinations (c (up_of l)) by → left ≡ total s.destinations (c (down_of l)) t →
    WaitOnLink s c l t s.destinations (link_goal s c l t) by left
found_at s c l t by left v x ready below within is_left =
    let m = s.destinations in
    let rows : ℕ → ℕ → ℕ = c (up_of l) in
    let gone : ℕ → ℕ = λ d. c (down_of l) d t in
    let goal = link_goal s c l t in
    let leave : MayLeave m rows gone goal t = record { part = ready.part; behind = ready.behind; sum = ready.sum } in
    let rest : (d : ℕ) → d < m → link_first s c l t d ≡ rest_of m rows gone goal by d = λ d y. ap (λ (z : ℕ). z - gone d) (first_by m rows goal by t ready.part below within d y) in
    let whole : sum_below m (link_first s c l t) ≡ goal - left = omega (arith, ready.sum) in
    record {
      whole = refl;
      leave = may_leave_by m rows gone goal by t leave below within;
      entered = below;
      gone = is_left;
      over = omega (arith, ready.sum);
      few = omega (arith, v.small.capacities l t x);
      sends = λ d y. ap (λ (z : ℕ). limited (s.exit_limit l t) z (link_first s c l t d)) whole ∙ ap (limited (s.exit_limit l t) (goal - left)) (rest d y);
    }

pub found : (s : Setting) (c : Counts) (l t m up down : ℕ) (reached by step free left room goal : ℕ) → IsSetting s → l < s.links → IsLinkReady s c l t → m ≡ s.destinations → up ≡ up_of l → down ≡ down_of l →
    HasRead s c l t m up down reached by step free left room goal → WaitOnLink s c l t m goal by left
found s c l t m up down reached by step free left room goal v x ready e is_up is_down has =
    subst (λ (n : ℕ). HasRead s c l t n (up_of l) (down_of l) reached by step free left room goal → WaitOnLink s c l t n goal by left) (sym e)
    (λ read.
    let is : goal ≡ link_goal s c l t = goal_is s c l t reached by step free left room goal read in
    subst (λ (z : ℕ). WaitOnLink s c l t s.destinations z by left) (sym is)
    (found_at s c l t by left v x ready read.entered (omega (arith, read.least, read.within)) read.gone))
    (subst (λ (g : ℕ). HasRead s c l t m (up_of l) g reached by step free left room goal) is_down
    (subst (λ (g : ℕ). HasRead s c l t m g down reached by step free left room goal) is_up has))

-- nothing is sent where all that may leave has left
pub sends_nothing : (s : Setting) (c : Counts) (l t m goal by left d : ℕ) → WaitOnLink s c l t m goal by left → goal - left ≡ 0 → d < m → link_sending s c l t d ≡ 0
sends_nothing s c l t m goal by left d w e x =
    let rest : rest_of m (c (up_of l)) (λ k. c (down_of l) k t) goal by d ≡ 0 = none_rests m (c (up_of l)) (λ k. c (down_of l) k t) goal by d w.leave (omega (arith, w.gone, w.over)) x in
    w.sends d x ∙ (ap (limited (s.exit_limit l t) (goal - left)) rest ∙ nothing_limited (s.exit_limit l t) (goal - left) e)

-- with one destination all that has not left is sent, up to the limit
pub sends_one : (s : Setting) (c : Counts) (l t m goal by left limit d : ℕ) → WaitOnLink s c l t m goal by left → m ≡ 1 → 0 < goal - left → limit ≡ s.exit_limit l t → d < m → link_sending s c l t d ≡ min (goal - left) limit
sends_one s c l t m goal by left limit d w one some e x =
    let rest : rest_of m (c (up_of l)) (λ k. c (down_of l) k t) goal by d ≡ goal - left = omega (arith, one_rests m (c (up_of l)) (λ k. c (down_of l) k t) goal by d w.leave one x, w.gone) in
    w.sends d x ∙ (whole_limited (s.exit_limit l t) (goal - left) (rest_of m (c (up_of l)) (λ k. c (down_of l) k t) goal by d) rest some ∙ ap (min (goal - left)) (sym e))

-- what has not left of a destination, as the code finds it
pub rest_is : (c : Counts) (l t m up down goal by d off : ℕ) → up ≡ up_of l → down ≡ down_of l → off ≡ first_units m (c up) goal by d - c down d t → off ≡ rest_of m (c (up_of l)) (λ k. c (down_of l) k t) goal by d
rest_is c l t m up down goal by d off is_up is_down e =
    e ∙ (ap (λ (g : ℕ). first_units m (c g) goal by d - c down d t) is_up ∙ ap (λ (g : ℕ). first_units m (c (up_of l)) goal by d - c g d t) is_down)

pub rest_fits : (s : Setting) (c : Counts) (l t m goal by left d off : ℕ) → WaitOnLink s c l t m goal by left → off ≡ rest_of m (c (up_of l)) (λ k. c (down_of l) k t) goal by d → d < m → off ≤ goal - left
rest_fits s c l t m goal by left d off w e x = omega (arith, rest_within m (c (up_of l)) (λ k. c (down_of l) k t) goal by d w.leave x, w.gone, w.over)

pub sends_rest : (s : Setting) (c : Counts) (l t m goal by left limit d off out : ℕ) → WaitOnLink s c l t m goal by left → limit ≡ s.exit_limit l t → off ≡ rest_of m (c (up_of l)) (λ k. c (down_of l) k t) goal by d →
    out ≡ limited limit (goal - left) off → d < m → out ≡ link_sending s c l t d
sends_rest s c l t m goal by left limit d off out w e f g x =
    g ∙ (ap (λ (z : ℕ). limited z (goal - left) off) e ∙ (ap (limited (s.exit_limit l t) (goal - left)) f ∙ sym (w.sends d x)))

-- the numbers that the code reads of a link to know its room, for m destinations
pub record HasReadBack (s : Setting) (c : Counts) (l t m up down : ℕ) (ago by step wave entered storage : ℕ) : Type 0 where
  pub reach : ago ≡ earlier (total m (c down)) step t wave
  pub before : by ≤ t
  pub within : ago ≤ total m (c down) by
  pub same_step : step ≡ s.step
  pub same_wave : wave ≡ s.wave_time l
  pub all : entered ≡ total m (c up) t
  pub same_storage : storage ≡ s.storage l

-- no more has left than has entered, and there is room for all that has entered
pub record HasRoom (s : Setting) (c : Counts) (l t : ℕ) (ago entered storage : ℕ) : Type 0 where
  pub fewer : ago ≤ entered
  pub room : entered ≤ ago + storage
  pub takes : ago + storage - entered ≡ earlier (total s.destinations (c (down_of l))) s.step t (s.wave_time l) + s.storage l - total s.destinations (c (up_of l)) t

room_at : (s : Setting) (c : Counts) (l t : ℕ) (ago by step wave entered storage : ℕ) → IsLinkReady s c l t → HasReadBack s c l t s.destinations (up_of l) (down_of l) ago by step wave entered storage → HasRoom s c l t ago entered storage
room_at s c l t ago by step wave entered storage ready read =
    let f : ℕ → ℕ = total s.destinations (c (down_of l)) in
    let e : earlier f step t wave ≡ earlier f s.step t (s.wave_time l) = ap (λ (z : ℕ). earlier f z t wave) read.same_step ∙ ap (λ (z : ℕ). earlier f s.step t z) read.same_wave in
    let is_ago : ago ≡ earlier f s.step t (s.wave_time l) = read.reach ∙ e in
    record {
      fewer = omega (arith, read.within, rises_le f t (total_rises s.destinations (c (down_of l)) t ready.left_rises) by t read.before (omega arith), ready.sum, ready.part.within, read.all);
      room = omega (arith, ready.room, is_ago, read.all, read.same_storage);
      takes = omega (arith, is_ago, read.all, read.same_storage);
    }

pub has_room : (s : Setting) (c : Counts) (l t m up down : ℕ) (ago by step wave entered storage : ℕ) → IsLinkReady s c l t → m ≡ s.destinations → up ≡ up_of l → down ≡ down_of l →
    HasReadBack s c l t m up down ago by step wave entered storage → HasRoom s c l t ago entered storage
has_room s c l t m up down ago by step wave entered storage ready e is_up is_down has =
    room_at s c l t ago by step wave entered storage ready
    (subst (λ (n : ℕ). HasReadBack s c l t n (up_of l) (down_of l) ago by step wave entered storage) e
    (subst (λ (g : ℕ). HasReadBack s c l t m (up_of l) g ago by step wave entered storage) is_down
    (subst (λ (g : ℕ). HasReadBack s c l t m g down ago by step wave entered storage) is_up has)))

pub receives : (s : Setting) (c : Counts) (l t : ℕ) (ago entered storage capacity entry room least out : ℕ) → HasRoom s c l t ago entered storage → capacity ≡ s.capacity l t → entry ≡ s.entry_limit l t →
    room ≡ ago + storage - entered → least ≡ min entry room → out ≡ min capacity least → out ≡ receiving s c l t
receives s c l t ago entered storage capacity entry room least out has e f g h k =
    k ∙ (ap (λ (z : ℕ). min z least) e
    ∙ ap (min (s.capacity l t)) (h ∙ (ap (λ (z : ℕ). min z room) f ∙ ap (min (s.entry_limit l t)) (g ∙ has.takes))))

-- where the units that wait end, from the position of the slot
end_by : (s : Setting) (c : Counts) (l t m up : ℕ) (goal by left at end : ℕ) → IsLinkReady s c l t → m ≡ s.destinations → WaitOnLink s c l t m goal by left → up ≡ up_of l → at ≡ position s c l t → end ≡ min at by →
    end ≡ last_within (total m (c up)) goal by
end_by s c l t m up goal by left at end ready e w is_up is_at is_end =
    let f : ℕ → ℕ = total m (c up) in
    let same : position s c l t ≡ last_within f goal t =
    ap (λ (n : ℕ). last_within (total n (c (up_of l))) (link_goal s c l t) t) (sym e)
    ∙ (ap (λ (g : ℕ). last_within (total m (c g)) (link_goal s c l t) t) (sym is_up) ∙ ap (λ (z : ℕ). last_within f z t) (sym w.whole)) in
    let start : f 0 ≡ 0 = ap (λ (g : ℕ). total m (c g) 0) is_up ∙ w.leave.part.empty in
    is_end ∙ (ap (λ (z : ℕ). min z by) (is_at ∙ same) ∙ last_by f goal by t (entered_rises s c l t m up ready e is_up) (omega (arith, start)) w.entered)

-- these units are the first that entered the link
pub are_first : (s : Setting) (c : Curves) (l t up : ℕ) (goal by left at end : ℕ) → IsAtFront s c t → l < s.links → IsLinkReady s (counts_of c) l t → WaitOnLink s (counts_of c) l t (destinations_of c) goal by left →
    up ≡ up_of l → at ≡ position s (counts_of c) l t → end ≡ min at by → AreFirst c (record { group = up; count = goal; last = by; end = end })
are_first s c l t up goal by left at end front x ready w is_up is_at is_end = record {
  group = omega (arith, front.shape.same_groups, is_up, x);
  last = omega (arith, front.shape.same_slots, front.now, w.entered);
  part = subst (λ (g : ℕ). IsPart (destinations_of c) (counts_of c g) goal by) (sym is_up) w.leave.part;
  end = end_by s (counts_of c) l t (destinations_of c) up goal by left at end ready front.shape.same_destinations w is_up is_at is_end;
}
