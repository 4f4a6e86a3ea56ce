use Rattle.std.proofs.Common.{ℕ, suc, List, take, drop, get_or, sym, subst, ◌∙◌, arith}
use Rattle.std.proofs.lemmas.Bool.{false≢true}
use Rattle.std.proofs.lemmas.List.{take_more, length-take-le}
use Rattle.ltm_workers.specs.Hands.{all_held, Follows}
use Rattle.ltm_workers.proofs.Holding.{keeps_more}
use Rattle.ltm_workers.proofs.Turning.{follows_more, follows_to_rest, few_counted, schedule_split}
use Rattle.ltm_workers.proofs.driving.follow.Goals as goal

pub count-requires-clause-given_back : goal.count-requires-clause-given_back
count-requires-clause-given_back c =
    let few =
    few_counted c.args.core.now c.loop-byte.core c.args.steps.now c.loop-byte.steps c.loop-byte.tally.given_back c.loop-byte.tally.not_yet (take c.loop-byte.byte-index c.args.schedule.now) (all_held c.loop-byte.hands) c.loop-byte.invariant.follows in
    let a = few.0 in let b = length-take-le c.loop-byte.byte-index c.args.schedule.now c.loop-byte.auto.byte-index-end in let w = c.well_formed in let t = c.loop-byte-test.true in omega (a, b, w, t, arith)

pub count-requires-clause-not_yet : goal.count-requires-clause-not_yet
count-requires-clause-not_yet c =
    let few =
    few_counted c.args.core.now c.loop-byte.core c.args.steps.now c.loop-byte.steps c.loop-byte.tally.given_back c.loop-byte.tally.not_yet (take c.loop-byte.byte-index c.args.schedule.now) (all_held c.loop-byte.hands) c.loop-byte.invariant.follows in
    let a = few.1 in let b = length-take-le c.loop-byte.byte-index c.args.schedule.now c.loop-byte.auto.byte-index-end in let w = c.well_formed in let t = c.loop-byte-test.true in omega (a, b, w, t, arith)

pub returns-then-count-clause-followed : goal.returns-then-count-clause-followed
returns-then-count-clause-followed c =
    let i : ℕ = c.loop-byte.byte-index in
    let all : List ℕ = c.args.schedule.now in
    follows_to_rest c.args.core.now c.loop-byte.core c.turn-act.new.core c.args.steps.now c.loop-byte.steps c.turn-act.new.steps c.loop-byte.tally.given_back c.loop-byte.tally.not_yet (get_or all i 0)
    all (take i all) (drop (suc i) all) (all_held c.loop-byte.hands) (all_held c.turn-act.new.hands) c.turn-act.result c.loop-byte.invariant.follows c.turn-act.ensures.act (c.count.ensures.rest.0 c.if-count.true) c.turn-act.ensures.ticks (schedule_split all i c.loop-byte-test.true)

pub loop-byte-preserved : goal.loop-byte-preserved
loop-byte-preserved c =
    let i : ℕ = c.loop-byte.byte-index in
    let all : List ℕ = c.args.schedule.now in
    let P : List ℕ → Type 0 = λ z. Follows c.args.core.now c.args.steps.now z c.count.new.self.given_back c.count.new.self.not_yet (all_held c.turn-act.new.hands) c.turn-act.new.core c.turn-act.new.steps in
    record {
      follows = subst P (sym (take_more all i 0 c.loop-byte-test.true))
          (follows_more c.args.core.now c.loop-byte.core c.turn-act.new.core c.args.steps.now c.loop-byte.steps c.turn-act.new.steps c.loop-byte.tally.given_back c.loop-byte.tally.not_yet c.count.new.self.given_back c.count.new.self.not_yet
          (get_or all i 0) (take i all) (all_held c.loop-byte.hands) (all_held c.turn-act.new.hands) c.turn-act.result c.loop-byte.invariant.follows c.turn-act.ensures.act
          (λ rested. false≢true (sym c.if-count.false ∙ c.count.ensures.rest.1 rested)) c.turn-act.ensures.ticks c.count.ensures.given_back c.count.ensures.not_yet);
      keeps = keeps_more c.args.core.now c.loop-byte.core c.turn-act.new.core c.loop-byte.invariant.keeps c.turn-act.ensures.keeps;
      kept = c.turn-act.ensures.kept;
      full = c.turn-act.ensures.full;
    }
