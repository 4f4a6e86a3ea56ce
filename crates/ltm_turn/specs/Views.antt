-- What the views of a turn become.
use Rattle.std.specs.Prelude.{ℕ, ◌+◌, ◌-◌, true, false, List, [], max}
use Rattle.ltm_turn.specs.declared.view.View.{View}

module _ {E : Type 0} where
  -- the editor's view at the start: it has seen the value
  abbrev pub opening_view : List E → ℕ → View E
  opening_view entries number = record { editor = true; works = false; holds = false; entries = entries; number = number; workers = 0 }

  -- a holder that found this list and this number, or has them in its hand
  abbrev pub holding : View E → List E → ℕ → View E
  holding v entries number = record v { holds = true; entries = entries; number = number }

  -- a holder that has freed the turn
  abbrev pub idle : View E → View E
  idle v = record v { holds = false }

  -- the editor has one worker more
  abbrev pub after_split : View E → View E
  after_split v = record v { workers = v.workers + 1 }

  -- a new worker has seen what the editor has
  abbrev pub worker_view : View E → View E
  worker_view v = record { editor = false; works = true; holds = false; entries = []; number = v.number; workers = 0 }

  -- the editor has seen what it and the worker have, and has one worker less
  abbrev pub after_join : View E → View E → View E
  after_join v w = record v { number = max v.number w.number; workers = v.workers - 1 }

  -- what is left of a worker's view
  abbrev pub spent_view : View E
  spent_view = record { editor = false; works = false; holds = false; entries = []; number = 0; workers = 0 }
