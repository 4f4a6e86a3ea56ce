use Rattle.std.proofs.Common.{ℕ, ◌+◌, ◌*◌, ◌<◌, List, length, get_or, below_more, ◌∙◌, arith, get_or-set_same, get_or-set_other}
use Rattle.std.proofs.lemmas.List.{get_or_default}
use Rattle.ltm_limits.specs.Limits.{never_set}
use Rattle.std.proofs.lemmas.Nat.{mul-add-lt}
use Rattle.std.proofs.Math.Nat.{mul_comm}
use Rattle.ltm_limits.proofs.Rows.{said-set_same, said-set_slot, said-set_link}
use Rattle.ltm_limits.proofs.limits.exchange.Goals as goal

pub loop-k-preserved : goal.loop-k-preserved
loop-k-preserved c =
    let inv = c.loop-k.invariant in
    let links : ℕ = c.args.links in
    let link : ℕ = c.args.link in
    let s : ℕ = c.args.from + c.loop-k.k in
    let items : List ℕ = c.loop-k.table.items in
    let v : ℕ = get_or c.loop-k.values c.loop-k.k 0 in
    let was : ℕ = c.index-was.result.now in
    let in_links : link < links = c.requires.link in
    let more : s < c.args.from + length c.args.values.now = omega arith in
    let inside : s * links + link < length items =
    omega (arith, mul-add-lt s links link (c.args.from + length c.args.values.now) more in_links, mul_comm links (c.args.from + length c.args.values.now), c.loop-k.table.ok.0, inv.len, c.requires.places) in
    record {
      len = inv.len;
      written = below_more _ _
          (λ k h. said-set_slot items links link s v (c.args.from + k) in_links (λ e. absurd (omega arith)) ∙ inv.written k h)
          (said-set_same items links link s v inside ∙ inv.rest c.loop-k.k (omega arith));
      before = λ slot h. said-set_slot items links link s v slot in_links (λ e. absurd (omega arith)) ∙ inv.before slot h;
      behind = λ slot h. said-set_slot items links link s v slot in_links (λ e. absurd (omega arith)) ∙ inv.behind slot (omega arith);
      others = λ m slot h apart. said-set_link items links link s v m slot h in_links apart ∙ inv.others m slot h apart;
      were = below_more _ _
          (λ k h. get_or-set_other c.loop-k.values c.loop-k.k k was 0 (λ e. absurd (omega arith)) ∙ inv.were k h)
          (get_or-set_same c.loop-k.values c.loop-k.k was 0 (omega arith) ∙ c.index-was.ensures ∙ get_or_default items (s * links + link) was never_set inside ∙ inv.behind s (omega arith));
      rest = λ k h. get_or-set_other c.loop-k.values c.loop-k.k k was 0 (λ e. absurd (omega arith)) ∙ inv.rest k (omega arith);
    }
