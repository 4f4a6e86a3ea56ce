-- When a text is one line, and how an output is cut into its lines.
use Rattle.std.specs.Prelude.{ℕ, ◌≡◌, ◌≢◌, List, ◌++◌, map, All}
use Rattle.ltm_report.specs.Pieces.{newline}
use Rattle.ltm_io.specs.Script.{lines_of}

-- no byte of the words is a newline
abbrev pub IsPlain : List ℕ → Type 0
IsPlain words = All (λ byte. byte ≢ 10) words

-- a text is one line: its last byte is its only newline
pub record IsOneLine (text : List ℕ) : Type 0 where
  pub words : List ℕ
  pub plain : IsPlain words
  pub ends : text ≡ words ++ newline

-- an output cut behind each newline
abbrev pub texts_of : List ℕ → List (List ℕ)
texts_of output = map (λ line. line ++ newline) (lines_of output)
