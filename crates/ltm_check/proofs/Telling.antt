-- The counts of a loading are small enough to be told and to be kept, so its text tells it.
use Rattle.std.proofs.Common.{◌≡◌, ℕ, ◌<◌, ◌≤◌, inl, inr, arith, subst}
use Rattle.std.specs.Prelude.{min}
use Rattle.std.proofs.lemmas.Bool.Decides.{nat_tests}
use Rattle.std.proofs.lemmas.Grind.{common_steps}
use Rattle.ltm_curve.specs.Counts.{Counts}
use Rattle.ltm_records.specs.Left.{records_of}
use Rattle.ltm_loading.specs.Setting.{Setting, IsSetting}
use Rattle.ltm_loading.specs.Groups.{down_of, groups}
use Rattle.ltm_loading.specs.Pairs.{arm_group}
use Rattle.ltm_loading.specs.Loading.{IsFront, IsLoading}
use Rattle.ltm_loading.specs.NextPair.{IsOf}
use Rattle.ltm_loading.specs.Ranges.{CountsSmall}
use Rattle.ltm_loading.specs.Reads.{SetByOnePair}
use Rattle.ltm_setting.specs.Setting.{setting_of}
use Rattle.ltm_check.specs.declared.faults.Checked.TheVariants.{Yes}
use Rattle.ltm_check.specs.File.{told}
use Rattle.ltm_check.specs.Text.{curves_file}
use Rattle.ltm_check.specs.ReadBack.{WrittenIsRead, LoadingIsTold}
use Rattle.ltm_check.specs.Verdict.{KeptAnswersAlike}
use Rattle.ltm_check.proofs.Alike.{shorter}
use Rattle.ltm_check.proofs.Arms.{all_arms}

arm_is : (s : Setting) (u a : ℕ) → a < s.ins u → down_of (s.in_link u a) ≡ arm_group s u a
arm_is s u a l = grind (arith, nat_tests)

of_small : (s : Setting) (c : Counts) (u g d k : ℕ) → CountsSmall → IsSetting s → IsFront s c s.slots → u < s.nodes → IsOf s u g d → d < s.destinations → k ≤ s.slots → c g d k ≤ 2147483647
of_small s c u g d k small v front x (inl (i, l, e)) m z =
    let few = small s c v k (shorter s c s.slots k z front) z d m in
    subst (λ (h : ℕ). c h d k ≤ 2147483647) e
    (all_arms s u (λ a h. c h d k ≤ 2147483647)
    (λ a b. subst (λ (h : ℕ). c h d k ≤ 2147483647) (arm_is s u a b) (omega (arith, (few.0 (s.in_link u a) (v.network.in_link_is_link u a x b)).1, v.small.few_slots)))
    (λ o. omega (arith, few.1.0 u x o, v.small.few_slots)) i l)
of_small s c u g d k small v front x (inr (inl (j, l, e))) m z =
    let few = small s c v k (shorter s c s.slots k z front) z d m in
    subst (λ (h : ℕ). c h d k ≤ 2147483647) e (omega (arith, (few.0 (s.out_link u j) (v.network.out_link_is_link u j x l)).0, v.small.few_slots))
of_small s c u g d k small v front x (inr (inr (e, own))) m z =
    let few = small s c v k (shorter s c s.slots k z front) z d m in
    subst (λ (h : ℕ). c h d k ≤ 2147483647) e (omega (arith, few.1.1, v.small.few_slots))

-- no count of a loading is greater than curves keep
all_small : (s : Setting) (c : Counts) → CountsSmall → SetByOnePair → IsSetting s → IsLoading s c → (g d k : ℕ) → g < groups s → d < s.destinations → k ≤ s.slots → c g d k ≤ 2147483647
all_small s c small one v loading g d k x m z = elim (one.some s g d v x m) [
  | inl (u, there, of) ↦ of_small s c u g d k small v loading.front there of m z
  | inr (u, there, sink, e) ↦ subst (λ (h : ℕ). c h d k ≤ 2147483647) e (omega (arith, loading.no_origin u d k there sink m z))
]

kept_same : (a c : ℕ) → a ≡ c → c ≤ 2147483647 → c ≡ min a 2147483647
kept_same a c e l = grind (arith, common_steps)

pub loading_told : CountsSmall → SetByOnePair → KeptAnswersAlike → WrittenIsRead → LoadingIsTold
loading_told small one alike back s c v named loading =
    let few = all_small (setting_of s) c small one v loading in
    let reads = back s c v named (λ g d k x m z. omega (arith, few g d k x m z)) in record {
      file = reads.file;
      loading = alike (setting_of s) (told s (records_of (curves_file s c))) c Yes v (λ g d k x m z. kept_same _ _ (reads.counts g d k x m z) (few g d k x m z)) loading;
    }
