-- A link at the nodes at its ends.
use Rattle.std.specs.Prelude.{◌≡◌, ℕ, List, length}
use Rattle.ltm_standing.specs.Standing.{width_of}
use Rattle.ltm_lean_node.specs.Places.{ArePlaces}
use Rattle.ltm_lean.specs.declared.mail.Mail.{Mail}
use Rattle.ltm_lean.specs.declared.incoming.Incoming.{Incoming}
use Rattle.ltm_lean.specs.declared.outgoing.Outgoing.{Outgoing}

-- for how many destinations
abbrev pub mail_width : Mail → ℕ
mail_width m = length m.numbers.items

-- a link into a node: its number, for the destinations of its list, and where these stand in the list of the node
pub record IsIncoming (l : ℕ) (ds us : List ℕ) (x : Incoming) : Type 0 where
  pub link : x.link.0 ≡ l
  pub wide : width_of x.standing ≡ length ds
  pub placed : ArePlaces ds us x.places.items

-- a link out of a node
pub record IsOutgoing (l : ℕ) (ds us : List ℕ) (x : Outgoing) : Type 0 where
  pub link : x.link.0 ≡ l
  pub wide : mail_width x.mail ≡ length ds
  pub placed : ArePlaces ds us x.places.items

-- the same link with the same places
pub record SameIncoming (old new : Incoming) : Type 0 where
  pub link : new.link.0 ≡ old.link.0
  pub wide : width_of new.standing ≡ width_of old.standing
  pub places : new.places.items ≡ old.places.items

abbrev pub SameOutgoing : Outgoing → Outgoing → Type 0
SameOutgoing old new = (new.link.0 ≡ old.link.0) × ((mail_width new.mail ≡ mail_width old.mail) × (new.places.items ≡ old.places.items))
