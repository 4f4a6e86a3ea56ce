-- Who comes to a link later leaves it no sooner, and it takes a step at least.
use Rattle.std.proofs.Common.{◌≡◌, ℕ, ◌+◌, ◌/◌, ◌<◌, ◌≤◌, ◌&&◌, true, nat_le, nat_lt, Some, arith}
use Rattle.ltm_units.proofs.BadBytes.{is_first}
use Rattle.ltm_curve.specs.Counts.{Rises, interpolated}
use Rattle.ltm_curve.proofs.Interpolation.{interpolated_rises}
use Rattle.ltm_loading.specs.Setting.{Setting}
use Rattle.ltm_search.proofs.Passed.{and_then_some, and_then_at}
use Rattle.ltm_gap.specs.Leaving.{end_of, lets_out, open_moment, enters, may_leave, leaves_from, leaves_by}
use Rattle.ltm_gap.proofs.Firsts.{both, left_of, right_of, at_most, is_at_most, found_before}

-- what is known of who enters a link
pub record IsEntry (s : Setting) (moment entry : ℕ) : Type 0 where
  pub behind : moment ≤ entry
  pub before : entry < end_of s

pub is_entry : (s : Setting) (link moment entry : ℕ) → enters s link moment ≡ Some entry → IsEntry s moment entry
unfolding open_moment
is_entry s link moment entry is =
    let h = is_first (λ m. nat_le moment m && nat_lt 0 (s.entry_limit link (m / s.step))) (end_of s) entry is in
    record { behind = is_at_most moment entry (left_of (nat_le moment entry) (nat_lt 0 (s.entry_limit link (entry / s.step))) h.holds); before = h.below }

pub record IsExit (s : Setting) (link entry exit : ℕ) : Type 0 where
  pub free : entry + s.free_time link ≤ exit
  pub within : exit ≤ end_of s

pub is_exit : (s : Setting) (link : ℕ) (up down : ℕ → ℕ) (entry exit : ℕ) → leaves_from s link up down entry ≡ Some exit → IsExit s link entry exit
unfolding leaves_from
is_exit s link up down entry exit is =
    let h = is_first (may_leave s link up down entry) (end_of s + 1) exit is in
    record {
      free = is_at_most (entry + s.free_time link) exit (left_of (nat_le (entry + s.free_time link) exit) (nat_le (interpolated up s.step entry) (interpolated down s.step exit) && lets_out s link exit) h.holds);
      within = omega (arith, h.below);
    }

pub passes_later : (s : Setting) (link : ℕ) (up down : ℕ → ℕ) (moment exit : ℕ) → leaves_by s link up down moment ≡ Some exit → (moment + s.free_time link ≤ exit) × (exit ≤ end_of s)
passes_later s link up down moment exit is =
    let entry = and_then_some (leaves_from s link up down) (enters s link moment) exit is in
    let came = is_entry s link moment entry.0 entry.1 in
    let left = is_exit s link up down entry.0 exit entry.2 in
    (omega (arith, came.behind, left.free), left.within)

enters_rises : (s : Setting) (link x y entry : ℕ) → x ≤ y → enters s link y ≡ Some entry → (before : ℕ) × (enters s link x ≡ Some before) × (before ≤ entry)
unfolding open_moment
enters_rises s link x y entry l is =
    found_before (λ m. nat_le x m && nat_lt 0 (s.entry_limit link (m / s.step))) (λ m. nat_le y m && nat_lt 0 (s.entry_limit link (m / s.step))) (end_of s) entry
    (λ k low h. both (nat_le x k) (nat_lt 0 (s.entry_limit link (k / s.step))) (let le : y ≤ k = is_at_most y k (left_of (nat_le y k) (nat_lt 0 (s.entry_limit link (k / s.step))) h) in at_most x k (omega arith)) (right_of (nat_le y k) (nat_lt 0 (s.entry_limit link (k / s.step))) h))
    is

may_still : (s : Setting) (link : ℕ) (up down : ℕ → ℕ) (e f k : ℕ) → 0 < s.step → Rises up s.slots → e ≤ f → f ≤ end_of s → may_leave s link up down f k ≡ true → may_leave s link up down e k ≡ true
may_still s link up down e f k some rises l within h =
    let free : f + s.free_time link ≤ k = is_at_most (f + s.free_time link) k (left_of (nat_le (f + s.free_time link) k) (nat_le (interpolated up s.step f) (interpolated down s.step k) && lets_out s link k) h) in
    let rest : (nat_le (interpolated up s.step f) (interpolated down s.step k) && lets_out s link k) ≡ true = right_of (nat_le (f + s.free_time link) k) (nat_le (interpolated up s.step f) (interpolated down s.step k) && lets_out s link k) h in
    let gone : interpolated up s.step f ≤ interpolated down s.step k = is_at_most (interpolated up s.step f) (interpolated down s.step k) (left_of (nat_le (interpolated up s.step f) (interpolated down s.step k)) (lets_out s link k) rest) in
    let fewer : interpolated up s.step e ≤ interpolated up s.step f = interpolated_rises up s.slots s.step e f some rises l within in
    both (nat_le (e + s.free_time link) k) (nat_le (interpolated up s.step e) (interpolated down s.step k) && lets_out s link k) (at_most (e + s.free_time link) k (omega arith))
    (both (nat_le (interpolated up s.step e) (interpolated down s.step k)) (lets_out s link k) (at_most (interpolated up s.step e) (interpolated down s.step k) (omega arith))
    (right_of (nat_le (interpolated up s.step f) (interpolated down s.step k)) (lets_out s link k) rest))

leaves_rises : (s : Setting) (link : ℕ) (up down : ℕ → ℕ) (e f exit : ℕ) → 0 < s.step → Rises up s.slots → e ≤ f → f ≤ end_of s → leaves_from s link up down f ≡ Some exit
    → (before : ℕ) × (leaves_from s link up down e ≡ Some before) × (before ≤ exit)
unfolding leaves_from
leaves_rises s link up down e f exit some rises l within is =
    found_before (may_leave s link up down e) (may_leave s link up down f) (end_of s + 1) exit (λ k low h. may_still s link up down e f k some rises l within h) is

pub passes_rises : (s : Setting) (link : ℕ) (up down : ℕ → ℕ) (x y exit : ℕ) → 0 < s.step → Rises up s.slots → x ≤ y → leaves_by s link up down y ≡ Some exit
    → (before : ℕ) × (leaves_by s link up down x ≡ Some before) × (before ≤ exit)
passes_rises s link up down x y exit some rises l is =
    let entry = and_then_some (leaves_from s link up down) (enters s link y) exit is in
    let came = is_entry s link y entry.0 entry.1 in
    let early = enters_rises s link x y entry.0 l entry.1 in
    let left = leaves_rises s link up down early.0 entry.0 exit some rises early.2 (omega (arith, came.before)) entry.2 in
    (left.0, and_then_at (leaves_from s link up down) (enters s link x) early.0 (Some left.0) early.1 left.1, left.2)
