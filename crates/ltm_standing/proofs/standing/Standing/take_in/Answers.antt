use Rattle.std.proofs.Common.{rules, subst, ◌≡◌, ℕ, ◌<◌, length, slice_index}
use Rattle.ltm_loading.specs.Groups.{up_of, down_of}
use Rattle.ltm_standing.specs.Standing.{CameAt}
use Rattle.ltm_standing.specs.Listed.{listed}
use Rattle.ltm_standing.proofs.Grows.{quiet_keeps, push_keeps}
use Rattle.ltm_standing.proofs.Links.{came_at}
use Rattle.ltm_standing.proofs.standing.Standing.take_in.Goals as goal

pub returns-then-came-eq0-clause-ok : goal.returns-then-came-eq0-clause-ok
returns-then-came-eq0-clause-ok c s counts l k t ds h m e st =
    let zero : c.args.came ≡ 0 = c.if-came-eq0.true in
    let up = listed counts (up_of l) ds in
    quiet_keeps (length ds) up (listed counts (down_of l) ds) k t c.args.self.now (slice_index c.args.mail.now)
    (subst (λ (z : ℕ). CameAt (length ds) up k z (slice_index c.args.mail.now)) zero (came_at s counts l ds k c.args.came c.args.mail.now h m e)) st

pub returns-clause-ok : goal.returns-clause-ok
returns-clause-ok c s counts l k t ds h m e st =
    let up = listed counts (up_of l) ds in
    let down = listed counts (down_of l) ds in
    let some : 0 < c.args.came = search rules in
    push_keeps (length ds) up down k t c.close_up.new.self c.push.new.self c.args.came c.args.mail.now some c.in_ok-push.ensures.ok
    (came_at s counts l ds k c.args.came c.args.mail.now h m e) (c.close_up.ensures.keeps k t (length ds) up down st)
