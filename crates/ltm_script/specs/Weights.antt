-- The weights that an object's members are.
use Rattle.std.specs.Prelude.{ℕ, List, [], ◌∷◌, codes, Option, Some, None, option_and_then}
use Rattle.serde_json.specs.Data.{Data, Members, no_members, member}
use Rattle.serde_json.specs.Find.{get, as_object}
use Rattle.ltm_scenario.specs.Weights.{NamedWeight, as_weights}
use Rattle.ltm_script.specs.Members.{◌>>=◌, name_of, whole_of}

-- a name with a whole number
abbrev pub weight_of : List ℕ → Data → Option NamedWeight
weight_of key d = name_of key >>= λ name. whole_of d >>= λ weight. Some (name, weight)

-- one before others, where all of them are told
abbrev pub before : {A : Type 0} → Option A → Option (List A) → Option (List A)
before (Some x) (Some xs) = Some (x ∷ xs)
before (Some x) None = None
before None xs = None

-- each member is a weight
abbrev pub weights_of : Members → Option (List NamedWeight)
weights_of no_members = Some []
weights_of (member key d ms) = before (weight_of key d) (weights_of ms)

-- the weights that the members of an object are
abbrev pub weights_from : Data → Option (List NamedWeight)
weights_from d = option_and_then (λ ms. option_and_then as_weights (weights_of ms)) (as_object d)

abbrev pub weights_in : Data → Option (List NamedWeight)
weights_in d = option_and_then weights_from (get (codes "weights") d)
