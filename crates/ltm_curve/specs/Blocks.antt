-- Tables of blocks of one width.
use Rattle.std.specs.Prelude.{◌≡◌, ℕ, ◌+◌, ◌*◌, List, length}
use Rattle.std.specs.List.{CopiedTo, SameBelow, SameFrom}

-- the numbers of a block stand also in the next one, and no others are changed
pub record IsCarried {X : Type 0} (old new : List X) (width block : ℕ) : Type 0 where
  pub long : length new ≡ length old
  pub next : CopiedTo old new (block * width) (block * width + width) width
  pub below : SameBelow old new (block * width + width)
  pub from : SameFrom old new (block * width + width + width)
