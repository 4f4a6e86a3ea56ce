use Rattle.std.proofs.Common.{◌^◌, arith, refl, ◌∙◌}
use Rattle.ltm_curve.proofs.Blocks.{small_carried, totals_carried}
use Rattle.ltm_curve.proofs.Places.{carries_holds}
use Rattle.ltm_curve.proofs.curves.Curves.carry.Goals as goal

pub invariant_of-self : goal.invariant_of-self
invariant_of-self c = record {
  long = c.carry_block.ensures.carried.long ∙ c.args.self.now.long;
  few = c.args.self.now.few;
  small = small_carried _ _ _ _ (2 ^ 31) c.carry_block.ensures.carried c.args.self.now.small;
  no_totals = λ few. absurd (omega arith);
  all_totals = λ several. c.carry_block-then-self-gt2.ensures.carried.long ∙ c.args.self.now.all_totals several;
  within = c.args.self.now.within;
  counts_room = omega (arith, c.args.self.now.counts_room, c.carry_block.ensures.room);
  totals_room = λ several. omega (arith, c.args.self.now.totals_room several, c.carry_block-then-self-gt2.ensures.room);
  sums = λ several. totals_carried _ _ _ _ _ _ _ _ (c.args.self.now.sums several) c.carry_block-then-self-gt2.ensures.carried c.carry_block.ensures.carried;
}

pub returns-then-self-gt2 : goal.returns-then-self-gt2
returns-then-self-gt2 c = carries_holds _ _ _ (record { groups = refl; destinations = refl; slots = refl }) c.carry_block.ensures.carried

pub returns-else-self-gt2 : goal.returns-else-self-gt2
returns-else-self-gt2 c = carries_holds _ _ _ (record { groups = refl; destinations = refl; slots = refl }) c.carry_block.ensures.carried
