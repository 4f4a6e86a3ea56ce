use Rattle.std.proofs.Common.{◌≡◌, ℕ, subst, arith}
use Rattle.ltm_setting.specs.Setting.{setting_of}
use Rattle.ltm_working.specs.Openings.{IsOpenTo}
use Rattle.ltm_working.proofs.opening.Opening.load.Goals as goal

pub returns : goal.returns
returns c =
    let s = setting_of c.args.scenario.now in
    let all : c.loop-slot.slot ≡ s.slots = omega (arith, c.loop-slot-test.false, c.loop-slot.auto.slot-end, c.slot_count-slot-end.ensures.value) in
    subst (λ (n : ℕ). IsOpenTo s c.loop-slot.opening n) all c.loop-slot.invariant
