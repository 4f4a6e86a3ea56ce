-- Ways: links over which one comes later who sets out later, and the earliest arrivals over routes of them.
use Rattle.std.specs.Prelude.{ℕ, ◌≡◌, ◌+◌, ◌<◌, ◌≤◌, List, [], ◌∷◌, Option, Some, None, option_and_then}

-- how many nodes and links there are; where each link leads from and to, and when one leaves it who comes to it at a moment
pub record Ways : Type 0 where
  pub nodes : ℕ
  pub links : ℕ
  pub tail : ℕ → ℕ
  pub head : ℕ → ℕ
  pub leaves : ℕ → ℕ → Option ℕ

-- what ways keep: links lead between nodes, who passes one comes later, who comes to it later leaves it no sooner, and who has
-- passed so many of them has come by a bound
pub record AreWays (w : Ways) (bound : ℕ → ℕ) : Type 0 where
  pub tails : (link : ℕ) → link < w.links → w.tail link < w.nodes
  pub heads : (link : ℕ) → link < w.links → w.head link < w.nodes
  pub later : (link x y : ℕ) → link < w.links → w.leaves link x ≡ Some y → x < y
  pub rises : (link x y exit : ℕ) → link < w.links → x ≤ y → w.leaves link y ≡ Some exit → (before : ℕ) × (w.leaves link x ≡ Some before) × (before ≤ exit)
  pub within : (link n x y : ℕ) → link < w.links → x ≤ bound n → w.leaves link x ≡ Some y → y ≤ bound (n + 1)
  pub grows : (n : ℕ) → bound n ≤ bound (n + 1)

-- the links lead from one node to another, each beginning where the one before ended
abbrev pub IsRoute : Ways → ℕ → ℕ → List ℕ → Type 0
IsRoute w from to [] = from ≡ to
IsRoute w from to (link ∷ links) = (link < w.links) × (w.tail link ≡ from) × IsRoute w (w.head link) to links

-- when one comes to the end of a route who sets out at a moment; none where that is never
abbrev pub arrival : Ways → List ℕ → ℕ → Option ℕ
arrival w [] moment = Some moment
arrival w (link ∷ links) moment = option_and_then (arrival w links) (w.leaves link moment)

-- a route arrives then, and none arrives before
pub record IsFirst (w : Ways) (from start to time : ℕ) : Type 0 where
  pub taken : (links : List ℕ) × IsRoute w from to links × (arrival w links start ≡ Some time)
  pub first : (links : List ℕ) (other : ℕ) → IsRoute w from to links → arrival w links start ≡ Some other → time ≤ other

-- the earliest arrival of one who sets out at a moment, none where no route arrives
abbrev pub IsEarliest : Ways → ℕ → ℕ → ℕ → Option ℕ → Type 0
IsEarliest w from start to None = (links : List ℕ) → IsRoute w from to links → arrival w links start ≡ None
IsEarliest w from start to (Some time) = IsFirst w from start to time
