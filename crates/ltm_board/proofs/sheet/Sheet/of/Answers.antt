use Rattle.std.proofs.Common.{ℕ, ◌<◌, sym, subst, ◌∙◌}
use Rattle.ltm_flows.specs.Shown.{links_of}
use Rattle.ltm_board.proofs.sheet.Sheet.of.Goals as goal

pub returns : goal.returns
returns c = λ s version counts shows.
    let made = c.in_ok-through.ensures in
    let there : (link : ℕ) → link < s.links → link < links_of c.args.loading.now = λ link less. subst (λ n. link < n) (sym shows.links) less in record {
      totals = c.totals.ensures.shown s version counts shows;
      links = made.links_are ∙ shows.links;
      entered = λ link less. made.entered s version counts link shows (there link less);
      left = λ link less. made.left s version counts link shows (there link less);
    }
