-- How wide the row of a node is for its list.
use Rattle.std.proofs.Common.{ℕ, ◌+◌, ◌*◌, ◌^◌, ◌<◌, ◌≤◌, length, arith}
use Rattle.std.proofs.Math.Nat.{mul-le-mul_right}
use Rattle.ltm_loading.specs.Setting.{Setting, IsSetting}
use Rattle.ltm_thin.proofs.Thinning.{ascends_few}
use Rattle.ltm_used.specs.Lists.{list_of}
use Rattle.ltm_lean.specs.declared.tables.Tables.{Tables}
use Rattle.ltm_lean.specs.Nodes.{AreTables}

pub few_listed : (s : Setting) (x : Tables) (u : ℕ) → IsSetting s → AreTables s x → u < s.nodes → length (list_of x.nodes u) ≤ 2000
few_listed s x u v h l = omega (arith, ascends_few s.destinations (list_of x.nodes u) (h.node_order u l), v.small.few_destinations)

pub width_small : (arms outs many : ℕ) → arms ≤ 5 → outs ≤ 4 → many ≤ 2000 → 2 * (arms * many) + 2 * (outs * many) + 1 + outs + arms < 2 ^ 32
width_small arms outs many a o m = omega (arith, mul-le-mul_right many a, mul-le-mul_right many o)
