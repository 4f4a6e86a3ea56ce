use Rattle.std.proofs.Common.{refl}
use Rattle.ltm_working.proofs.Roomier.{parts_seen}
use Rattle.ltm_working.proofs.table.Table.reserve.Goals as goal

pub returns-in-Ok-Ok-Ok-Ok-Ok-clause-seen : goal.returns-in-Ok-Ok-Ok-Ok-Ok-clause-seen
returns-in-Ok-Ok-Ok-Ok-Ok-clause-seen c = parts_seen c.args.self.now _ (record {
  shape = c.reserve-curves.ensures.shape;
  counts = c.reserve-curves.ensures.counts;
  kept = c.reserve-kept.ensures.same;
  kept_slots = c.reserve-kept.ensures.slots;
  claims = refl;
  pairs = c.reserve-frontier.ensures.same;
  pair_slots = c.reserve-frontier.ensures.slots;
  lists = c.reserve-index.ensures.same;
  list_slots = c.reserve-index.ensures.slots;
  cells = c.reserve-changed.ensures.same;
})

pub returns-in_default-clause-seen : goal.returns-in_default-clause-seen
returns-in_default-clause-seen c = parts_seen c.args.self.now _ (record {
  shape = c.reserve-curves.ensures.shape;
  counts = c.reserve-curves.ensures.counts;
  kept = c.reserve-kept.ensures.same;
  kept_slots = c.reserve-kept.ensures.slots;
  claims = refl;
  pairs = c.reserve-frontier.ensures.same;
  pair_slots = c.reserve-frontier.ensures.slots;
  lists = c.reserve-index.ensures.same;
  list_slots = c.reserve-index.ensures.slots;
  cells = c.reserve-changed.ensures.same;
})

pub returns-in_default-2-clause-seen : goal.returns-in_default-2-clause-seen
returns-in_default-2-clause-seen c = parts_seen c.args.self.now _ (record {
  shape = c.reserve-curves.ensures.shape;
  counts = c.reserve-curves.ensures.counts;
  kept = c.reserve-kept.ensures.same;
  kept_slots = c.reserve-kept.ensures.slots;
  claims = refl;
  pairs = c.reserve-frontier.ensures.same;
  pair_slots = c.reserve-frontier.ensures.slots;
  lists = c.reserve-index.ensures.same;
  list_slots = c.reserve-index.ensures.slots;
  cells = c.reserve-changed.ensures.same;
})

pub returns-in_default-3-clause-seen : goal.returns-in_default-3-clause-seen
returns-in_default-3-clause-seen c = parts_seen c.args.self.now _ (record {
  shape = c.reserve-curves.ensures.shape;
  counts = c.reserve-curves.ensures.counts;
  kept = c.reserve-kept.ensures.same;
  kept_slots = c.reserve-kept.ensures.slots;
  claims = refl;
  pairs = c.reserve-frontier.ensures.same;
  pair_slots = c.reserve-frontier.ensures.slots;
  lists = c.reserve-index.ensures.same;
  list_slots = c.reserve-index.ensures.slots;
  cells = c.reserve-changed.ensures.same;
})

pub returns-in_default-4-clause-seen : goal.returns-in_default-4-clause-seen
returns-in_default-4-clause-seen c = parts_seen c.args.self.now _ (record {
  shape = c.reserve-curves.ensures.shape;
  counts = c.reserve-curves.ensures.counts;
  kept = c.reserve-kept.ensures.same;
  kept_slots = c.reserve-kept.ensures.slots;
  claims = refl;
  pairs = c.reserve-frontier.ensures.same;
  pair_slots = c.reserve-frontier.ensures.slots;
  lists = c.reserve-index.ensures.same;
  list_slots = c.reserve-index.ensures.slots;
  cells = c.reserve-changed.ensures.same;
})

pub returns-in_default-5-clause-seen : goal.returns-in_default-5-clause-seen
returns-in_default-5-clause-seen c = parts_seen c.args.self.now _ (record {
  shape = c.reserve-curves.ensures.shape;
  counts = c.reserve-curves.ensures.counts;
  kept = c.reserve-kept.ensures.same;
  kept_slots = c.reserve-kept.ensures.slots;
  claims = refl;
  pairs = c.reserve-frontier.ensures.same;
  pair_slots = c.reserve-frontier.ensures.slots;
  lists = c.reserve-index.ensures.same;
  list_slots = c.reserve-index.ensures.slots;
  cells = c.reserve-changed.ensures.same;
})
