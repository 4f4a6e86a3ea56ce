use Rattle.std.proofs.Common.{◌≡◌, ◌<◌, ◌∙◌, ℕ, ◌+◌, List, ap, set, refl, subst, sym, arith, rules}
use Rattle.ltm_node.specs.Outputs.{left_after_place}
use Rattle.ltm_node.specs.declared.shape.NodeShape.{NodeShape}
use Rattle.ltm_node.specs.Solvable.{IsSolvable}
use Rattle.ltm_node.specs.Narrow.{IsNarrow, HaveLeft, laid}
use Rattle.ltm_node.proofs.NarrowSteps.{leaves_small, left_more}
use Rattle.ltm_node.proofs.narrow.Narrow.write_two.Goals as goal

pub overflow_add-one : goal.overflow_add-one
overflow_add-one c =
    let n = c.args.self.now.inputs.now in
    let solvable : IsSolvable n = search rules in
    let s : IsNarrow n.shape = search rules in
    let al : 0 < n.shape.arms = omega (arith, c.requires.arms) in
    omega (arith, c.left.ensures, c.requires.first, leaves_small n 0 solvable s al, solvable.left_counts 0 0 al (omega (arith, s.one_destination)))

pub overflow_add-other : goal.overflow_add-other
overflow_add-other c =
    let n = c.args.self.now.inputs.now in
    let solvable : IsSolvable n = search rules in
    let s : IsNarrow n.shape = search rules in
    let al : 1 < n.shape.arms = omega (arith, c.requires.arms) in
    omega (arith, c.left-2.ensures, c.requires.second, leaves_small n 1 solvable s al, solvable.left_counts 1 0 al (omega (arith, s.one_destination)))

pub returns : goal.returns
returns c =
    let n = c.args.self.now.inputs.now in
    let s : IsNarrow n.shape = search rules in
    let same : c.args.self.now.shape ≡ n.shape = search rules in
    let v : ℕ = c.left.result + c.args.first in
    let w : ℕ = c.left-2.result + c.args.second in
    let p : ℕ = c.left_after_place.result in
    let q : ℕ = c.left_after_place-2.result in
    let at : p ≡ left_after_place n.shape 0 0 = c.left_after_place.ensures.place ∙ ap (λ (z : NodeShape). left_after_place z 0 0) same in
    let to : q ≡ left_after_place n.shape 1 0 = c.left_after_place-2.ensures.place ∙ ap (λ (z : NodeShape). left_after_place z 1 0) same in
    let before : List ℕ = c.args.counts.now in
    let between : List ℕ = set before p v in
    let none : HaveLeft n 0 (laid n.shape before) = record { shape = refl; width = c.requires.width; left = λ i l. absurd (omega arith) } in
    let one : HaveLeft n 1 (laid n.shape between) =
    left_more n 0 v (laid n.shape before) (laid n.shape between) s none (omega (arith, c.requires.arms)) (omega (arith, c.left.ensures, c.requires.first)) refl (ap (λ z. set before z v) at) in
    let two : HaveLeft n 2 (laid n.shape (set between q w)) =
    left_more n 1 w (laid n.shape between) (laid n.shape (set between q w)) s one (omega (arith, c.requires.arms)) (omega (arith, c.left-2.ensures, c.requires.second)) refl (ap (λ z. set between z w) to) in
    subst (λ (z : ℕ). HaveLeft n z (laid n.shape (set between q w))) (sym c.requires.arms) two
