-- What the views of a desk become.
use Rattle.std.specs.Prelude.{◌+◌, ◌-◌, true, false, List, [], ◌∷◌, ◌++◌, Some, None}
use Rattle.ltm_editors.specs.declared.view.View.{View}

-- the longer of two lists of which one begins with the other
abbrev pub longer : {E : Type 0} → List E → List E → List E
longer [] ys = ys
longer (x ∷ xs) [] = x ∷ xs
longer (x ∷ xs) (y ∷ ys) = x ∷ longer xs ys

module _ {O E : Type 0} where
  -- the first seat's view at the start: one number is given out, and nothing is seen
  abbrev pub first_view : O → View O E
  first_view opening = record {
    chair = true;
    live = true;
    holds = false;
    number = 0;
    numbers = 0 ∷ [];
    opening = Some opening;
    seen = [];
    made = 1;
    others = 0;
    joining = false;
    before = [];
    these = [];
    guest = [];
    those = [];
  }

  -- a holder that found this history
  abbrev pub holding : View O E → List E → View O E
  holding v seen = record v { holds = true; seen = seen }

  -- a holder that left this history, and freed the desk
  abbrev pub idle : View O E → List E → View O E
  idle v seen = record v { holds = false; seen = seen }

  -- the first seat has given out one number more
  abbrev pub after_split : View O E → View O E
  after_split v = record v { made = v.made + 1; others = v.others + 1 }

  -- a new seat has that number, and has seen what the first has
  abbrev pub new_view : View O E → View O E
  new_view v = record {
    chair = false;
    live = true;
    holds = false;
    number = v.made;
    numbers = v.made ∷ [];
    opening = v.opening;
    seen = v.seen;
    made = 0;
    others = 0;
    joining = false;
    before = [];
    these = [];
    guest = [];
    those = [];
  }

  -- the first seat has taken another in; what both had seen is kept until it is told
  abbrev pub joined : View O E → View O E → View O E
  joined v w = record v {
    numbers = v.numbers ++ w.numbers;
    seen = longer v.seen w.seen;
    others = v.others - 1;
    joining = true;
    before = v.seen;
    these = v.numbers;
    guest = w.seen;
    those = w.numbers;
  }

  -- it was told
  abbrev pub told : View O E → View O E
  told v = record v { joining = false }

  -- what is left of a seat that was taken in: it has no number, has seen nothing and holds nothing
  abbrev pub spent_view : View O E
  spent_view = record {
    chair = false;
    live = false;
    holds = false;
    number = 0;
    numbers = [];
    opening = None;
    seen = [];
    made = 0;
    others = 0;
    joining = false;
    before = [];
    these = [];
    guest = [];
    those = [];
  }
