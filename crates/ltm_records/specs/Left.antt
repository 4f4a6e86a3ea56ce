-- Which records a text has, and which are left of it.
use Rattle.std.specs.Prelude.{ℕ, ◌≡◌, ◌+◌, List, [], length, Option, Some, None, true, false}
use Rattle.csv.specs.Reading.{default_config, records, records_from, strip_bom, source_of, has_failed, is_flexible, reader_config, reader_state, reader_trim, Ready}
use Rattle.csv.specs.declared.parser.State.{State}
use Rattle.csv.specs.declared.reader.Reader.{Reader}
use Rattle.csv.specs.declared.reader.Trim.TheVariants as trim
use Rattle.ltm_records.specs.Fields.{Fields}

-- the records of a text, as csv reads them: without a byte order mark, the header among them
abbrev pub records_of : List ℕ → List Fields
records_of bytes = records default_config (strip_bom bytes)

-- the records that stand in bytes, if those are known, from a state of csv's machine on
abbrev pub left_from : State → Option (List ℕ) → List Fields
left_from s None = []
left_from s (Some xs) = records_from default_config (length xs + 1) s xs

-- the records that a reader has left
abbrev pub left_of : {R : Type 0} → (R → Option (List ℕ)) → Reader R → List Fields
left_of rem r = left_from (reader_state r) (source_of rem r)

-- a reader that reads with the defaults, each record with any number of fields and the header as a record
pub record IsReading {R : Type 0} (r : Reader R) : Type 0 where
  pub config : reader_config r ≡ default_config
  pub trim : reader_trim r ≡ trim.None
  pub flexible : is_flexible r ≡ true
  pub ready : Ready r
  pub goes : has_failed r ≡ false
