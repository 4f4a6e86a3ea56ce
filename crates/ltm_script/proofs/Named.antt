-- The members of an object as weights, one more at a time.
use Rattle.std.proofs.Common.{ℕ, ◌≡◌, ◌+◌, ◌<◌, ◌≤◌, nat_le, ◌&&◌, Bool, true, false, List, [], ◌∷◌, ◌++◌, length, take, Option, Some, None, refl, ap, sym, ◌∙◌, append_assoc, add-one, arith, if◌then◌else◌}
use Rattle.std.proofs.lemmas.List.{append-nil}
use Rattle.std.proofs.lemmas.Bool.{lt-leb}
use Rattle.std.proofs.Math.Bool.{and-false}
use Rattle.std.proofs.Math.ListN.{set}
use Rattle.std.proofs.Math.Seq.{take-suc-set}
use Rattle.std.specs.Prelude.{String, string_bytes, option_and_then}
use Rattle.std.specs.declared.alloc.Global.{Global}
use Rattle.serde_json.specs.View.{view, members_view}
use Rattle.serde_json.specs.declared.value.Value.{Value}
use Rattle.ltm_scenario.specs.Weights.{NamedWeight, are_weights, are_apart, as_weights}
use Rattle.ltm_script.specs.Weights.{weight_of, weights_of, before}

-- a list before others, where the others are told
abbrev pub joined : {A : Type 0} → List A → Option (List A) → Option (List A)
joined front None = None
joined front (Some xs) = Some (front ++ xs)

pub one_more : {A : Type 0} (front : List A) (w : A) (more : Option (List A)) → joined (front ++ w ∷ []) more ≡ joined front (before (Some w) more)
one_more front w None = refl
one_more front w (Some ws) = ap Some (append_assoc front (w ∷ []) ws)

-- one member more, in the next place
pub member_more : (places : List NamedWeight) (count : ℕ) (w : NamedWeight) (t u : List (String Global × Value)) (k : String Global) (v : Value)
    → count < length places → t ≡ (k, v) ∷ u → Some w ≡ weight_of (string_bytes k) (view v)
    → joined (take (count + 1) (set places count w)) (weights_of (members_view u)) ≡ joined (take count places) (weights_of (members_view t))
member_more places count w t u k v within is found =
    rw (is, ← found, add-one, take-suc-set) (one_more (take count places) w (weights_of (members_view u)))

-- there are as many weights as members
as_many_after : (first : Option NamedWeight) (more : Option (List NamedWeight)) (ws : List NamedWeight) (n : ℕ) → ((rest : List NamedWeight) → more ≡ Some rest → length rest ≡ n) → before first more ≡ Some ws → length ws ≡ n + 1
as_many_after None more ws n long is = cc
as_many_after (Some w) None ws n long is = cc
as_many_after (Some w) (Some rest) ws n long is = let same : w ∷ rest ≡ ws = cc in omega (arith, ap length same, long rest refl)

as_many : (entries : List (String Global × Value)) (ws : List NamedWeight) → weights_of (members_view entries) ≡ Some ws → length ws ≡ length entries
as_many [] ws is = let same : [] ≡ ws = cc in ap length (sym same)
as_many ((s, v) ∷ es) ws is = omega (arith, as_many_after (weight_of (string_bytes s) (view v)) (weights_of (members_view es)) ws (length es) (as_many es) is)

-- more than four are none
long_list : (ws : List NamedWeight) → 4 < length ws → None ≡ as_weights ws
long_list ws long = rw (lt-leb (length ws) 4 long, and-false) refl

too_many_as : (entries : List (String Global × Value)) (o : Option (List NamedWeight)) → weights_of (members_view entries) ≡ o → 4 < length entries → None ≡ option_and_then as_weights o
too_many_as entries None is long = refl
too_many_as entries (Some ws) is long = long_list ws (omega (arith, as_many entries ws is))

pub too_many : (entries : List (String Global × Value)) → 4 < length entries → None ≡ option_and_then as_weights (weights_of (members_view entries))
too_many entries long = too_many_as entries (weights_of (members_view entries)) refl long
