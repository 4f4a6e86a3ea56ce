-- What lies in a box.
use Rattle.std.specs.Global.{Box}

-- of a box what is told of the value in it
abbrev pub boxed : {T A : Type 0} → (T → A) → Box T → A
boxed f b = f b.value
