-- How many pairs are claimed, and how many cells are changed.
use Rattle.std.proofs.Common.{◌≡◌, ℕ, ◌+◌, ◌<◌, ◌==◌, ◌&&◌, Bool, true, false, if◌then◌else◌, refl, ap, sym, ◌∙◌, arith, inl, inr}
use Rattle.std.specs.Prelude.{Some, None, is_some}
use Rattle.std.proofs.lemmas.Bool.{cases_Bool, eq-eqb, ne_eqb, lt-ltb, le-leb}
use Rattle.ltm_units.specs.Sums.{sum_below}
use Rattle.ltm_units.proofs.Sums.{sum_below-same, sum_below-zero, sum_below-change, sum_below-positive, le-sum_below, SomeTerm}
use Rattle.ltm_curve.specs.Cells.{is_changed, changed_count}
use Rattle.ltm_curve.specs.declared.changed.Changed.{Changed}
use Rattle.ltm_curve.proofs.Cells.{in_cells}
use Rattle.ltm_loading.specs.Setting.{Setting}
use Rattle.ltm_loading.specs.Groups.{groups}
use Rattle.ltm_frontier.specs.Marks.{width_of, rows_of, is_marked}
use Rattle.ltm_frontier.specs.Ones.{one_if}
use Rattle.ltm_frontier.specs.Claims.{width, slot_in, has_node}
use Rattle.ltm_frontier.specs.declared.frontier.Frontier.{Frontier}
use Rattle.ltm_frontier.specs.Frontier.{is_claimed, claims_of}
use Rattle.ltm_repair.specs.Counting.{claims_out}
use Rattle.ltm_repair.specs.Answers.{HasClaimAt, IsNoneClaimed}
use Rattle.ltm_working.specs.declared.table.Table.{Table}
use Rattle.ltm_rows.specs.Claims.{claim_row}
use Rattle.ltm_working.specs.Cells.{count_cells}
use Rattle.ltm_working.specs.Desks.{desk_at, changed_at}
use Rattle.ltm_working.specs.Ready.{IsReady}
use Rattle.ltm_working.proofs.Bools.{and_both, and_true}
use Rattle.ltm_working.proofs.Desks.{claimed_is, claim_off, claimed_row}

-- ---- claims
off : (b : Bool) → one_if (b && false) ≡ 0
off true = refl
off false = refl

one_at : (n k : ℕ) (b : Bool) (f : ℕ → ℕ) → (b ≡ true → k < n) → ((t : ℕ) → t < n → f t ≡ one_if ((t == k) && b)) → sum_below n f ≡ one_if b
one_at n k false f there each = sum_below-zero n f (λ t l. each t l ∙ off (t == k))
one_at n k true f there each =
    let in_range : k < n = there refl in
    let here : f k ≡ 1 = each k in_range ∙ ap (λ z. one_if (z && true)) (eq-eqb k k refl) in
    let others : sum_below n f + 0 ≡ sum_below n (λ t. 0) + f k = sum_below-change n f (λ t. 0) k in_range (λ t l apart. each t l ∙ ap (λ z. one_if (z && true)) (ne_eqb t k apart)) in
    omega (arith, here, others, sum_below-zero n (λ t. 0) (λ t l. refl))

some_is : (s : Setting) (t : Table) (u v : ℕ) → u < s.nodes → v < s.slots → (if is_some ((desk_at s t).claimed u v) then 1 else 0) ≡ one_if (is_claimed t.frontier u v)
some_is s t u v x l = elim (cases_Bool (is_claimed t.frontier u v)) [
  | inl on ↦ rw (claimed_row s t u v x l on, on) refl
  | inr off ↦ let none : (desk_at s t).claimed u v ≡ None = claimed_is s t u v x l ∙ claim_off t u v off in rw (none, off) refl
]

node_count : (s : Setting) (t : Table) → IsReady s t → width t.frontier.claims ≡ s.nodes
node_count s t ready = t.frontier.nodes ∙ ready.fits.frontier.nodes

pub claimed_are : (s : Setting) (t : Table) → IsReady s t → claims_of t.frontier ≡ claims_out s.nodes s.slots (desk_at s t)
unfolding claims_out
claimed_are s t ready =
    let f : Frontier = t.frontier in
    ap (λ (n : ℕ). sum_below n (λ u. one_if (has_node f.claims u))) (node_count s t ready)
    ∙ sum_below-same s.nodes (λ u. one_if (has_node f.claims u)) (λ u. sum_below s.slots (λ v. if is_some ((desk_at s t).claimed u v) then 1 else 0))
    (λ u x. sym (one_at s.slots (slot_in f.claims) (has_node f.claims u) (λ v. if is_some ((desk_at s t).claimed u v) then 1 else 0)
    (λ on. omega (arith, f.there u (omega (arith, x, ready.fits.frontier.nodes)) on, ready.fits.frontier.slots))
    (λ v l. some_is s t u v x l)))

one_is : (b : Bool) → 0 < one_if b → b ≡ true
one_is true h = refl
one_is false h = absurd (omega arith)

-- where the count is above 0 a pair is claimed, and where it is 0 none is
pub some_claimed : (s : Setting) (t : Table) → IsReady s t → 0 < claims_of t.frontier → HasClaimAt s (desk_at s t) (slot_in t.frontier.claims)
some_claimed s t ready some =
    let f : Frontier = t.frontier in
    let term : SomeTerm (width f.claims) (λ u. one_if (has_node f.claims u)) = sum_below-positive (width f.claims) (λ u. one_if (has_node f.claims u)) some in
    let marked : has_node f.claims term.index ≡ true = one_is (has_node f.claims term.index) term.positive in
    let node : term.index < s.nodes = omega (arith, term.below, node_count s t ready) in
    let in_time : slot_in f.claims < s.slots = omega (arith, f.there term.index (omega (arith, node, ready.fits.frontier.nodes)) marked, ready.fits.frontier.slots) in
    let on : is_claimed f term.index (slot_in f.claims) ≡ true = and_true (slot_in f.claims == slot_in f.claims) (has_node f.claims term.index) (eq-eqb (slot_in f.claims) (slot_in f.claims) refl) marked in
    let holds : (desk_at s t).claimed term.index (slot_in f.claims) ≡ Some (claim_row t.claims term.index) = claimed_row s t term.index (slot_in f.claims) node in_time on in
    (term.index, node, in_time, λ none. cc)

pub none_claimed : (s : Setting) (t : Table) → IsReady s t → claims_of t.frontier ≡ 0 → IsNoneClaimed s (desk_at s t)
none_claimed s t ready none u v x l = claimed_is s t u v x l ∙ claim_off t u v (elim (cases_Bool (is_claimed t.frontier u v)) [
  | inr off ↦ off
  | inl on ↦
      let f : Frontier = t.frontier in
      let marked : has_node f.claims u ≡ true = (and_both (v == slot_in f.claims) (has_node f.claims u) on).1 in
      let one : one_if (has_node f.claims u) ≡ 1 = ap one_if marked in
      absurd (omega (arith, none, one, le-sum_below (width f.claims) (λ w. one_if (has_node f.claims w)) u (omega (arith, x, node_count s t ready))))
])

-- ---- cells
cell_is : (s : Setting) (t : Table) (g k : ℕ) → g < groups s → k < s.slots + 1 → changed_at s t g k ≡ is_changed t.changed g k
unfolding changed_at
cell_is s t g k x l = rw (lt-ltb g (groups s) x, le-leb k s.slots (omega arith)) refl

pub cells_are : (s : Setting) (t : Table) → IsReady s t → changed_count t.changed ≡ count_cells s (changed_at s t)
cells_are s t ready =
    let c : Changed = t.changed in
    let wide : width_of c.marks ≡ groups s = ready.fits.changed.same_groups in
    let long : rows_of c.marks ≡ s.slots + 1 = omega (arith, ready.fits.changed.same_slots, c.some_boundary) in
    ap (λ (n : ℕ). sum_below n (λ k. sum_below (width_of c.marks) (λ g. if is_marked c.marks g k then 1 else 0))) long
    ∙ sum_below-same (s.slots + 1) (λ k. sum_below (width_of c.marks) (λ g. if is_marked c.marks g k then 1 else 0)) (λ k. sum_below (groups s) (λ g. if changed_at s t g k then 1 else 0))
    (λ k l. ap (λ (n : ℕ). sum_below n (λ g. if is_marked c.marks g k then 1 else 0)) wide
    ∙ sum_below-same (groups s) (λ g. if is_marked c.marks g k then 1 else 0) (λ g. if changed_at s t g k then 1 else 0)
    (λ g x. ap (λ b. if b then 1 else 0) (sym (cell_is s t g k x l ∙ in_cells c g k (omega (arith, x, wide)) (omega (arith, l, long))))))
