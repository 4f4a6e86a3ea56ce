-- Steps that went well, and lists end to end.
use Rattle.std.proofs.Common.{ℕ, zero, suc, ◌≡◌, ◌<◌, List, [], ◌∷◌, ◌++◌, Result, Ok, Err, refl, arith}
use Rattle.std.specs.Prelude.{All}
use Rattle.std.proofs.lemmas.List.Elements.{All-head, All-tail, All-cons, All-nil, All-append}
use Rattle.ltm_scenario.specs.Build.{◌>>=◌}
use Rattle.ltm_routes.specs.Split.{lists_below}

-- what a chain of steps that went well began with
pub went_well : {A B F : Type 0} (r : Result A F) (next : A → Result B F) (y : B) → (r >>= next) ≡ Ok y → (x : A) × (r ≡ Ok x) × (next x ≡ Ok y)
went_well (Ok x) next y is = (x, refl, is)
went_well (Err fault) next y is = cc

pub all_left : {A : Type 0} (P : A → Type 0) (xs ys : List A) → All P (xs ++ ys) → All P xs
all_left P [] ys all = All-nil P
all_left P (x ∷ xs) ys all = All-cons P x xs (All-head P x (xs ++ ys) all) (all_left P xs ys (All-tail P x (xs ++ ys) all))

pub all_right : {A : Type 0} (P : A → Type 0) (xs ys : List A) → All P (xs ++ ys) → All P ys
all_right P [] ys all = all
all_right P (x ∷ xs) ys all = all_right P xs ys (All-tail P x (xs ++ ys) all)

pub all_below : {A : Type 0} (P : A → Type 0) (n : ℕ) (list : ℕ → List A) → ((i : ℕ) → i < n → All P (list i)) → All P (lists_below n list)
all_below P zero list each = All-nil P
all_below P (suc n) list each = All-append P (lists_below n list) (list n) (all_below P n list (λ i low. each i (omega arith))) (each n (omega arith))
