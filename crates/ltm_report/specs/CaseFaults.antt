-- The lines that refuse a case.
use Rattle.std.specs.Prelude.{ℕ, List, [], ◌++◌, codes}
use Rattle.ltm_casefile.specs.declared.faults.File.{File}
use Rattle.ltm_casefile.specs.declared.faults.File.TheVariants.{Setup, Links, Demand, Splits, Signals, Limits, Profile, Whole}
use Rattle.ltm_casefile.specs.declared.faults.CaseCause.{CaseCause}
use Rattle.ltm_casefile.specs.declared.faults.CaseFault.{CaseFault}
use Rattle.ltm_casefile.specs.declared.faults.CaseFault.TheVariants.{Bad}
use Rattle.ltm_units.specs.Texts.{number_piece}
use Rattle.ltm_report.specs.Pieces.{newline}
use Rattle.ltm_report.specs.Causes.{cause_words}

unfoldable pub file_word : File → List ℕ
file_word Setup = codes "setup"
file_word Links = codes "links"
file_word Demand = codes "demand"
file_word Splits = codes "splits"
file_word Signals = codes "signals"
file_word Limits = codes "limits"
file_word Profile = codes "profile"
file_word Whole = codes "whole"

-- where the fault is, as `bad case links row 3`
unfoldable pub place_piece : File → ℕ → List ℕ
place_piece file row = codes "bad case " ++ file_word file ++ number_piece (codes " row ") row

-- where the fault is and what is wrong, as `bad case links row 3 TwiceNamed`
unfoldable pub bad_case_line : File → ℕ → CaseCause → List ℕ
bad_case_line file row cause = place_piece file row ++ codes " " ++ cause_words cause ++ newline

-- a file has more bytes than are read, as `too long setup`
unfoldable pub too_long_line : File → List ℕ
too_long_line file = codes "too long " ++ file_word file ++ newline

-- the case keeps no history, and the command needs it
unfoldable pub no_history_line : List ℕ
no_history_line = codes "no history" ++ newline

-- the files were read, and are no case
abbrev pub IsBad : CaseFault → Type 0
IsBad (Bad file row cause) = Unit {0}
IsBad _ = ⊥

-- the line of a case that is bad
abbrev pub case_fault_line : CaseFault → List ℕ
case_fault_line (Bad file row cause) = bad_case_line file row cause
case_fault_line _ = []
