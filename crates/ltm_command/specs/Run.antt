-- What a run of a command does to the outside, and with which status it ends.
use Rattle.std.specs.Prelude.{ℕ, ◌≡◌, ◌⊎◌, List, [], Option, IfSome, Some}
use Rattle.ltm_io.specs.declared.doc.Doc.{Doc}
use Rattle.ltm_io.specs.Folder.{Files}
use Rattle.ltm_io.specs.Faults.{Rose}
use Rattle.ltm_io.specs.Sink.{appended, AppendsFront}
use Rattle.ltm_command.specs.declared.status.Status.{Status}
use Rattle.ltm_command.specs.declared.status.Status.TheVariants as ending
use Rattle.ltm_command.specs.Program.{IsWhole}

-- ---- the outside
-- all that the program reads and writes, at one moment
pub record Outside : Type 0 where
  -- the files that the folder has, where they are told, and how many faults each had
  pub told : Option Files
  pub faults : Doc → ℕ
  -- what is left of the input, where it is told, and how many faults it had
  pub left : Option (List ℕ)
  pub read_faults : ℕ
  -- what was written to the output, where it is told, and how many faults it had
  pub written : Option (List ℕ)
  pub write_faults : ℕ

abbrev pub outside : Option Files → (Doc → ℕ) → Option (List ℕ) → ℕ → Option (List ℕ) → ℕ → Outside
outside told faults left read_faults written write_faults =
    record { told = told; faults = faults; left = left; read_faults = read_faults; written = written; write_faults = write_faults }

-- ---- what was done to it
-- what the folder tells stays, and no count of a file moves but of those that may be fetched
abbrev pub TouchesOnly : (Doc → Type 0) → Outside → Outside → Type 0
TouchesOnly MayFetch b a = (a.told ≡ b.told) × ((d : Doc) → (MayFetch d → ⊥) → a.faults d ≡ b.faults d)

-- the input stays as it is
abbrev pub LeavesInput : Outside → Outside → Type 0
LeavesInput b a = (a.left ≡ b.left) × (a.read_faults ≡ b.read_faults)

-- the input stays as it is where it is not to be read, and where a file is missing; it is at its end where it is to be read
-- and all went well
abbrev pub TakesInput : Type 0 → Status → Outside → Outside → Type 0
TakesInput Reads status b a =
    ((Reads → ⊥) → LeavesInput b a)
    × (Reads → status ≡ ending.Ok → IfSome b.left (λ script. a.left ≡ Some []))
    × (status ≡ ending.FolderFault → LeavesInput b a)

-- a fault of the outside is told only where a count of faults rose, and one of the folder before anything is written
abbrev pub FaultRose : (Doc → Type 0) → Type 0 → Status → Outside → Outside → Type 0
FaultRose MayFetch Reads status b a =
    (status ≡ ending.FolderFault → ((d : Doc) × MayFetch d × Rose (b.faults d) (a.faults d)) × (a.written ≡ b.written))
    × (status ≡ ending.ReadFault → Reads × Rose b.read_faults a.read_faults)
    × (status ≡ ending.WriteFault → Rose b.write_faults a.write_faults)

-- nothing was written, and no writing failed; or a front of a text that is due, which it is under no missing file
abbrev pub WritesFront : (Status → List ℕ → Type 0) → Status → Option (List ℕ) → Option (List ℕ) → Type 0
WritesFront IsText status old new =
    ((new ≡ old) × (status ≡ ending.WriteFault → ⊥))
    ⊎ ((due : Status) × (t : List ℕ) × (due ≡ ending.FolderFault → ⊥) × IsText due t × AppendsFront old new t)

-- a run, by the texts that belong to each status, the files that may be fetched, and whether the input is to be read: the
-- status, and how the outside stands before and after
pub record IsRun (IsText : Status → List ℕ → Type 0) (MayFetch : Doc → Type 0) (Reads : Type 0) (status : Status) (b a : Outside) : Type 0 where
  pub touches : TouchesOnly MayFetch b a
  pub reads : TakesInput Reads status b a
  pub faults : FaultRose MayFetch Reads status b a
  -- with neither a fault of the folder or the output nor want of memory the whole text of the status is written
  pub whole : IsWhole status → (t : List ℕ) × IsText status t × (a.written ≡ appended t b.written)
  -- and in any case no more than a front of a text
  pub front : WritesFront IsText status b.written a.written
