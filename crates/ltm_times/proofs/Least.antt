-- No number passes a test.
use Rattle.std.proofs.Common.{◌≡◌, ℕ, zero, suc, ◌<◌, arith, refl, Bool, false, None}
use Rattle.ltm_units.specs.Numbers.{first_below}

pub none_passes : (test : ℕ → Bool) (n : ℕ) → ((x : ℕ) → x < n → test x ≡ false) → first_below test n ≡ None
none_passes test zero h = refl
none_passes test (suc n) h =
    let less : first_below test n ≡ None = none_passes test n (λ x l. h x (omega arith)) in
    let fails : test n ≡ false = h n (omega arith) in
    rw (less, fails) refl
