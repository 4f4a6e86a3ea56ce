use Rattle.std.specs.Prelude.{◌≡◌, ℕ, ◌+◌, ◌*◌, ◌<◌, slice_index}
use Rattle.ltm_shares.specs.declared.sent.Sent.{Sent}

-- what an arm sends into an out-link
abbrev pub sent_at : Sent → ℕ → ℕ → ℕ
sent_at s arm out = slice_index s.amounts (arm * 4 + out)

-- an amount is added to what one arm sends into one out-link, and the others stay
pub record Adds (arm out amount : ℕ) (old new : Sent) : Type 0 where
  pub added : sent_at new arm out ≡ sent_at old arm out + amount
  pub others : (i j : ℕ) → j < 4 → (i ≡ arm → j ≡ out → ⊥) → sent_at new i j ≡ sent_at old i j
