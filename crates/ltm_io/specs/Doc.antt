-- The names and the places of the files.
use Rattle.std.specs.Prelude.{ℕ, List, codes}
use Rattle.ltm_io.specs.declared.doc.Doc.{Doc}
use Rattle.ltm_io.specs.declared.doc.Doc.TheVariants.{Setup, Links, Demand, Splits, Signals, Limits, Profile, Curves, Edits1, Edits2, Edits3, Edits4, Edits5, Edits6, Edits7, Edits8}

-- the name under which a file stands in its folder
abbrev pub name_of : Doc → List ℕ
name_of Setup = codes "setup.csv"
name_of Links = codes "links.csv"
name_of Demand = codes "demand.csv"
name_of Splits = codes "splits.csv"
name_of Signals = codes "signals.csv"
name_of Limits = codes "limits.csv"
name_of Profile = codes "profile.csv"
name_of Curves = codes "curves.csv"
name_of Edits1 = codes "edits1.jsonl"
name_of Edits2 = codes "edits2.jsonl"
name_of Edits3 = codes "edits3.jsonl"
name_of Edits4 = codes "edits4.jsonl"
name_of Edits5 = codes "edits5.jsonl"
name_of Edits6 = codes "edits6.jsonl"
name_of Edits7 = codes "edits7.jsonl"
name_of Edits8 = codes "edits8.jsonl"

-- a file's place in a table with one entry for each file
abbrev pub place_of : Doc → ℕ
place_of Setup = 0
place_of Links = 1
place_of Demand = 2
place_of Splits = 3
place_of Signals = 4
place_of Limits = 5
place_of Profile = 6
place_of Curves = 7
place_of Edits1 = 8
place_of Edits2 = 9
place_of Edits3 = 10
place_of Edits4 = 11
place_of Edits5 = 12
place_of Edits6 = 13
place_of Edits7 = 14
place_of Edits8 = 15
