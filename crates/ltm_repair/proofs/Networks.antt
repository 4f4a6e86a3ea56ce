-- What two settings of one network have in common.
use Rattle.std.proofs.Common.{◌≡◌, ℕ, ◌+◌, ◌<◌, refl, subst, List}
use Rattle.ltm_curve.specs.Counts.{Counts}
use Rattle.ltm_node.specs.declared.shape.NodeShape.{NodeShape}
use Rattle.ltm_node.specs.Solvable.{IsSolvable}
use Rattle.ltm_node.specs.Step.{IsNodeStep}
use Rattle.ltm_loading.specs.Setting.{Setting, IsSetting}
use Rattle.ltm_loading.specs.Groups.{dep_of, groups}
use Rattle.ltm_loading.specs.Pairs.{shape_at, count_row}
use Rattle.ltm_loading.specs.NextPair.{IsOf}
use Rattle.ltm_loading.proofs.Setters.{counts_set_only_holds}
use Rattle.ltm_repair.specs.Facts.{inputs_from, IsStepOf}
use Rattle.ltm_loading.specs.Networks.{SameNetwork}

pub network_refl : (s : Setting) → SameNetwork s s
network_refl s = record { nodes = refl; links = refl; destinations = refl; ins = refl; in_link = refl; outs = refl; out_link = refl; own = refl; by_turn = refl }

pub network_trans : (r s t : Setting) → SameNetwork r s → SameNetwork s t → SameNetwork r t
network_trans r s t a b = record {
  nodes = rw a.nodes b.nodes;
  links = rw a.links b.links;
  destinations = rw a.destinations b.destinations;
  ins = rw a.ins b.ins;
  in_link = rw a.in_link b.in_link;
  outs = rw a.outs b.outs;
  out_link = rw a.out_link b.out_link;
  own = rw a.own b.own;
  by_turn = rw a.by_turn b.by_turn;
}

pub groups_same : (r s : Setting) → SameNetwork r s → groups r ≡ groups s
groups_same r s same = rw (same.links, same.nodes) refl

pub dep_same : (r s : Setting) (u : ℕ) → SameNetwork r s → dep_of r u ≡ dep_of s u
dep_same r s u same = rw same.links refl

pub of_same : (r s : Setting) (u g d : ℕ) → SameNetwork r s → IsOf r u g d ≡ IsOf s u g d
of_same r s u g d same = rw (same.ins, same.in_link, same.outs, same.out_link, same.own, same.links, same.nodes) refl

pub shape_same : (r s : Setting) (u : ℕ) → SameNetwork r s → shape_at r u ≡ shape_at s u
shape_same r s u same = rw (same.ins, same.outs, same.destinations, same.own, same.by_turn) refl

row_same : (r s : Setting) (c : Counts) (u k : ℕ) → SameNetwork r s → count_row r c u k ≡ count_row s c u k
row_same r s c u k same = rw (same.ins, same.in_link, same.outs, same.out_link, same.destinations, same.own, same.links, same.nodes) refl

-- a step in one setting is one in every setting of the network
pub step_network : (r s : Setting) (c : Counts) (u t : ℕ) (row : List ℕ) → SameNetwork r s → IsStepOf r c u t row → IsStepOf s c u t row
step_network r s c u t row same step = record {
  in_range = subst (λ (z : NodeShape). IsSolvable (record { shape = z; row = row; room = 0 })) (shape_same r s u same) step.in_range;
  step =
      let one : IsNodeStep (inputs_from s u row) (record { shape = shape_at s u; row = count_row r c u (t + 1); room = 0 }) =
      subst (λ (z : NodeShape). IsNodeStep (record { shape = z; row = row; room = 0 }) (record { shape = z; row = count_row r c u (t + 1); room = 0 })) (shape_same r s u same) step.step in
      subst (λ (z : List ℕ). IsNodeStep (inputs_from s u row) (record { shape = shape_at s u; row = z; room = 0 })) (row_same r s c u (t + 1) same) one;
}

-- a step stays one where the counts that it sets stay
pub step_counts : (s : Setting) (a b : Counts) (u t : ℕ) (row : List ℕ) → IsSetting s → u < s.nodes →
    ((g d : ℕ) → IsOf s u g d → d < s.destinations → a g d (t + 1) ≡ b g d (t + 1)) → IsStepOf s a u t row → IsStepOf s b u t row
step_counts s a b u t row v x h step = record {
  in_range = step.in_range;
  step = subst (λ (z : List ℕ). IsNodeStep (inputs_from s u row) (record { shape = shape_at s u; row = z; room = 0 })) (counts_set_only_holds s a b u (t + 1) v x h) step.step;
}
