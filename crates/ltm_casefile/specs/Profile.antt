-- The slices of the horizon over which a matrix is split, as the profile says them.
use Rattle.std.specs.Prelude.{ℕ, ◌≤◌, ◌+◌, ◌*◌, All, ◌==◌, ◌&&◌, not, nat_le, nat_lt, Bool, List, [], ◌∷◌, ◌++◌, length, codes, Result, Ok}
use Rattle.ltm_units.specs.Bounds.{most_slots}
use Rattle.ltm_units.specs.Results.{refuse}
use Rattle.ltm_scenario.specs.Build.{◌>>=◌}
use Rattle.ltm_records.specs.Fields.{Fields, has}
use Rattle.ltm_casefile.specs.declared.faults.CaseCause.{CaseCause}
use Rattle.ltm_casefile.specs.declared.faults.CaseCause.TheVariants.{BadSlots, Range, Rows}
use Rattle.ltm_casefile.specs.declared.faults.CaseFault.{CaseFault}
use Rattle.ltm_casefile.specs.declared.faults.File.TheVariants as file
use Rattle.ltm_casefile.specs.declared.profile.SliceRecord.{SliceRecord}
use Rattle.ltm_casefile.specs.declared.profile.Slice.{Slice}
use Rattle.ltm_casefile.specs.Fields.{has_width, number_in}
use Rattle.ltm_casefile.specs.Rows.{at_row, rows_from, below_header}

-- the most that a slice's share may be
abbrev pub most_share : ℕ
most_share = 1000000

-- the slices in order, the slot after the last of them, and the shares of them all
pub record ProfileData : Type 0 where
  pub slices : List Slice
  pub end : ℕ
  pub total : ℕ

abbrev pub no_slices : ProfileData
no_slices = record { slices = []; end = 0; total = 0 }

abbrev pub is_profile_header : Fields → Bool
is_profile_header fields = (length fields == 3) && has fields 0 (codes "from_slot") && has fields 1 (codes "to_slot") && has fields 2 (codes "share")

-- first slot, slot after the last, share
unfoldable pub slice_record : Fields → Result SliceRecord CaseCause
slice_record fields =
    has_width fields 3 >>= λ _.
    number_in fields 1 >>= λ from.
    number_in fields 2 >>= λ to.
    number_in fields 3 >>= λ share.
    Ok (record { from = from; to = to; share = share })

-- some slots within the horizon, behind those of the slices before
abbrev pub is_next : ℕ → ProfileData → SliceRecord → Bool
is_next slots p r = nat_lt r.from r.to && nat_le r.to slots && nat_le p.end r.from

abbrev pub is_share : ℕ → Bool
is_share n = nat_le 1 n && nat_le n most_share

-- the slices with one more, whose share comes on top of those before
abbrev pub with_slice : ProfileData → SliceRecord → ProfileData
with_slice p r = record {
  slices = p.slices ++ record { from = r.from; to = r.to; before = p.total; up_to = p.total + r.share } ∷ [];
  end = r.to;
  total = p.total + r.share;
}

abbrev pub slice_taken : ℕ → ProfileData → SliceRecord → Result ProfileData CaseCause
slice_taken slots p r =
    refuse (not (is_next slots p r)) BadSlots >>= λ _.
    refuse (not (is_share r.share)) (Range 3) >>= λ _.
    Ok (with_slice p r)

abbrev pub slice_added : ℕ → ProfileData → Fields → Result ProfileData CaseCause
slice_added slots p fields = slice_record fields >>= λ r. slice_taken slots p r

-- the records below the header, of which there is one at least
abbrev pub slices_of : ℕ → List Fields → Result ProfileData CaseFault
slices_of slots rows =
    rows_from file.Profile (slice_added slots) 2 no_slices rows >>= λ p.
    at_row file.Profile 2 (refuse (p.total == 0) Rows) >>= λ _.
    Ok p

-- what the records of a profile say of a horizon of so many slots
unfoldable pub profile_of : ℕ → List Fields → Result ProfileData CaseFault
profile_of slots rows = below_header file.Profile is_profile_header (λ _ rest. slices_of slots rest) rows

-- ---- what holds of every profile that is read
-- the shares of all slices, of which none has no slot
abbrev pub most_shares : ℕ
most_shares = 10000000000

-- a slice takes a part of the total
pub record IsSlice (total : ℕ) (slice : Slice) : Type 0 where
  pub ordered : slice.before ≤ slice.up_to
  pub within : slice.up_to ≤ total

pub record AreSlices (p : ProfileData) : Type 0 where
  pub within : p.end ≤ most_slots
  pub small : p.total ≤ most_share * p.end
  pub each : All (IsSlice p.total) p.slices
