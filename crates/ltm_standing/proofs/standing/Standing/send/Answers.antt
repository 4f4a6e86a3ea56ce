use Rattle.std.proofs.Common.{rules, arith, ◌≡◌, ◌+◌, ◌^◌, ◌<◌, ◌∙◌, length, slice_index}
use Rattle.std.proofs.lemmas.List.{get_or-replicate}
use Rattle.ltm_curve.specs.First.{first_units}
use Rattle.ltm_loading.specs.Groups.{up_of, down_of}
use Rattle.ltm_loading.specs.Flows.{link_first}
use Rattle.ltm_standing.specs.Standing.{StandsAt}
use Rattle.ltm_standing.specs.Listed.{listed}
use Rattle.ltm_standing.proofs.Sends.{sends_first}
use Rattle.ltm_standing.proofs.Links.{SendsFrom, sends_from, limit_is, first_small, none_sent}
use Rattle.ltm_standing.proofs.standing.Standing.send.Goals as goal

pub returns-then-goal-gone-clause-sends : goal.returns-then-goal-gone-clause-sends
returns-then-goal-gone-clause-sends c s counts l t ds h m a st i x =
    let wide = st.wide in
    let there : i < length c.args.into.now = omega (arith, wide, x, c.requires.room) in
    let zero : slice_index c.fill.new.self i ≡ 0 = search (rules, get_or-replicate) in
    zero ∙ none_sent s counts l t ds c.args.goal c.args.gone i h (sends_from s counts l t ds c.args.goal c.args.gone c.args.limit h m a) c.if-goal-gone.true x

pub returns-clause-sends : goal.returns-clause-sends
returns-clause-sends c s counts l t ds h m a st i x =
    let w = length ds in
    let up = listed counts (up_of l) ds in
    let down = listed counts (down_of l) ds in
    let f : SendsFrom s counts l t ds c.args.goal c.args.gone = sends_from s counts l t ds c.args.goal c.args.gone c.args.limit h m a in
    let freed : StandsAt (length ds) up down t t c.free.new.self = c.free.ensures.keeps (length ds) up down t t (omega (arith, f.left)) st in
    let back : StandsAt (length ds) up down t t c.seek_back.new.self = c.seek_back.ensures.keeps t t (length ds) up down freed in
    let on : StandsAt (length ds) up down t t c.seek_on.new.self = c.seek_on.ensures.keeps t t (length ds) up down back in
    let few : first_units (length ds) up c.args.goal t i < down i t + 2 ^ 32 = omega (arith, f.first i x, first_small s counts l t ds c.args.goal c.args.gone i h f x, c.requires.few) in
    let value = sends_first (length ds) up down t c.args.goal c.seek_on.new.self on f.part c.seek_on.ensures.reached (omega (arith, f.left, f.over)) i x (f.behind i x) few in
    let first : slice_index c.write_first.new.into i ≡ link_first s counts l t (slice_index ds i) = c.write_first.ensures i (omega (arith, on.wide, x)) ∙ (value ∙ f.first i x) in
    c.limit_all.ensures i (omega (arith, st.wide, x, c.requires.room)) ∙ limit_is s counts l t ds c.args.goal c.args.gone c.args.limit (slice_index c.write_first.new.into i) i a f first

pub returns-clause-stands : goal.returns-clause-stands
returns-clause-stands c s counts l t ds h m a st =
    let up = listed counts (up_of l) ds in
    let down = listed counts (down_of l) ds in
    let f : SendsFrom s counts l t ds c.args.goal c.args.gone = sends_from s counts l t ds c.args.goal c.args.gone c.args.limit h m a in
    c.seek_on.ensures.keeps t t (length ds) up down (c.seek_back.ensures.keeps t t (length ds) up down (c.free.ensures.keeps (length ds) up down t t (omega (arith, f.left)) st))
