-- What the code finds of an origin.
use Rattle.std.proofs.Common.{◌≡◌, ℕ, ◌+◌, ◌-◌, ◌<◌, ◌≤◌, min, arith, refl, ap, sym, ◌∙◌, subst}
use Rattle.ltm_curve.specs.Counts.{Counts, total}
use Rattle.ltm_curve.specs.First.{first_units}
use Rattle.ltm_curve.specs.FirstLaws.{IsPart}
use Rattle.ltm_curve.proofs.Firsts.{first_all}
use Rattle.ltm_loading.specs.Setting.{Setting}
use Rattle.ltm_loading.specs.Groups.{dep_of}
use Rattle.ltm_loading.specs.Flows.{origin_goal, origin_sending}
use Rattle.ltm_loading.specs.Ready.{IsOriginReady}
use Rattle.ltm_sending.specs.MayLeave.{WaitAtOrigin}
use Rattle.ltm_sending.proofs.Waiting.{none_rests, one_rests}

-- the first units of all are all
pub all_of_them : (m : ℕ) (rows : ℕ → ℕ → ℕ) (goal all last d : ℕ) → IsPart m rows goal last → goal ≡ all → all ≡ total m rows last → first_units m rows goal last d ≡ rows d last
all_of_them m rows goal all last d part e f = ap (λ (z : ℕ). first_units m rows z last d) (e ∙ f) ∙ first_all m rows last part.rise part.empty d

found_at : (s : Setting) (c : Counts) (u t all left : ℕ) → IsOriginReady s c u t → all ≡ total s.destinations (s.produced u) (t + 1) → left ≡ total s.destinations (c (dep_of s u)) t → WaitAtOrigin s c u t all (origin_goal s c u t) left
found_at s c u t all left ready is_all is_left =
    record {
      leave = record { part = ready.part; behind = ready.behind; sum = ready.sum };
      made = is_all;
      gone = is_left;
      over = omega (arith, ready.sum);
      sends = λ d. refl;
    }

pub found : (s : Setting) (c : Counts) (u t m dep all left room goal : ℕ) → IsOriginReady s c u t → m ≡ s.destinations → dep ≡ dep_of s u → all ≡ total s.destinations (s.produced u) (t + 1) → left ≡ total m (c dep) t → room ≡ s.origin_capacity →
    goal ≡ min all (left + room) → WaitAtOrigin s c u t all goal left
found s c u t m dep all left room goal ready e is_dep is_all is_left is_room is_goal =
    let same : left ≡ total s.destinations (c (dep_of s u)) t = is_left ∙ (ap (λ (n : ℕ). total n (c dep) t) e ∙ ap (λ (g : ℕ). total s.destinations (c g) t) is_dep) in
    let is : goal ≡ origin_goal s c u t = omega arith in
    subst (λ (z : ℕ). WaitAtOrigin s c u t all z left) (sym is) (found_at s c u t all left ready is_all same)

-- nothing is sent where all that may leave has left
pub sends_nothing : (s : Setting) (c : Counts) (u t all goal left d : ℕ) → WaitAtOrigin s c u t all goal left → goal ≡ left → d < s.destinations → origin_sending s c u t d ≡ 0
sends_nothing s c u t all goal left d w e x =
    w.sends d ∙ none_rests s.destinations (s.produced u) (λ k. c (dep_of s u) k t) goal (t + 1) d w.leave (e ∙ w.gone) x

-- with one destination all that has not left is sent
pub sends_one : (s : Setting) (c : Counts) (u t all goal left d : ℕ) → WaitAtOrigin s c u t all goal left → s.destinations ≡ 1 → d < s.destinations → origin_sending s c u t d ≡ goal - left
sends_one s c u t all goal left d w one x =
    w.sends d ∙ (let rest = one_rests s.destinations (s.produced u) (λ k. c (dep_of s u) k t) goal (t + 1) d w.leave one x in omega (arith, rest, w.gone))

-- of each destination what has not left is sent
pub sends_rest : (s : Setting) (c : Counts) (u t all goal left dep d gone out : ℕ) → WaitAtOrigin s c u t all goal left → dep ≡ dep_of s u → gone ≡ c dep d t → out ≡ first_units s.destinations (s.produced u) goal (t + 1) d - gone → out ≡ origin_sending s c u t d
sends_rest s c u t all goal left dep d gone out w is_dep e f =
    f ∙ (ap (λ (z : ℕ). first_units s.destinations (s.produced u) goal (t + 1) d - z) (e ∙ ap (λ (g : ℕ). c g d t) is_dep) ∙ sym (w.sends d))

-- no more of a destination has left than its part
pub behind : (s : Setting) (c : Counts) (u t all goal left dep d gone : ℕ) → WaitAtOrigin s c u t all goal left → dep ≡ dep_of s u → gone ≡ c dep d t → d < s.destinations → gone ≤ first_units s.destinations (s.produced u) goal (t + 1) d
behind s c u t all goal left dep d gone w is_dep e x = omega (arith, w.leave.behind d x, ap (λ (g : ℕ). c g d t) is_dep)
