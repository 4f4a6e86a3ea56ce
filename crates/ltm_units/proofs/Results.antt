-- What went well.
use Rattle.std.proofs.Common.{◌≡◌, Bool, true, false, Result, Ok, Err, refl}
use Rattle.ltm_units.specs.Results.{refuse, ◌>>>◌}

-- what is not refused fails the test
pub not_refused : {F : Type 0} (test : Bool) (fault : F) → refuse test fault ≡ Ok tt → test ≡ false
not_refused true fault is = cc
not_refused false fault is = refl

-- where two steps go well, each does
pub both_ok : {A F : Type 0} (step : Result (Unit {0}) F) (next : Result A F) (x : A) → (step >>> next) ≡ Ok x → (step ≡ Ok tt) × (next ≡ Ok x)
both_ok (Ok u) next x is = (refl, is)
both_ok (Err fault) next x is = cc

-- and a test that the first refuses on fails
pub passed : {A F : Type 0} (test : Bool) (fault : F) (next : Result A F) (x : A) → (refuse test fault >>> next) ≡ Ok x → (test ≡ false) × (next ≡ Ok x)
passed true fault next x is = cc
passed false fault next x is = (refl, is)
