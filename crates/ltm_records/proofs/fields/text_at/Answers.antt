use Rattle.std.proofs.Common.{[], sym, inl, inr}
use Rattle.std.proofs.lemmas.Bool.{cases_lt}
use Rattle.std.proofs.lemmas.List.{get_or_past}
use Rattle.std.specs.Prelude.{length}
use Rattle.csv.proofs.RecordFacts.{field-get, field-there}
use Rattle.csv.specs.Records.{fields_of}
use Rattle.ltm_records.proofs.fields.text_at.Goals as goal

pub returns-in-Some : goal.returns-in-Some
returns-in-Some c = sym (field-get (fields_of c.args.row.now) c.args.place c.in-Some.text.now (sym c.in-Some.ensures.value))

pub returns-in-None : goal.returns-in-None
returns-in-None c = elim (cases_lt c.args.place (length (fields_of c.args.row.now))) [
  | inl within ↦ absurd (field-there (fields_of c.args.row.now) c.args.place within (sym c.in-None.ensures.value))
  | inr past ↦ sym (get_or_past (fields_of c.args.row.now) c.args.place [] past)
]
