use Rattle.std.proofs.Common.{◌≡◌, ◌<◌, List, [], ◌∷◌, length, Option, sym, refl, ap, subst, ◌∙◌, arith}
use Rattle.std.specs.Prelude.{IfOk}
use Rattle.serde_json.specs.Data.{Data, Items}
use Rattle.serde_json.specs.Find.{as_array}
use Rattle.serde_json.specs.View.{view, items_view}
use Rattle.serde_json.specs.declared.value.Value.{Value}
use Rattle.ltm_scenario.specs.Weights.{NamedRow}
use Rattle.ltm_script.specs.Members.{◌>>=◌}
use Rattle.ltm_script.specs.Rows.{rows_of, some_rows, rows_in}
use Rattle.ltm_script.proofs.rows.find_rows.Goals as goal

some_are : (values : List Value) → 0 < length values → rows_of (items_view values) ≡ some_rows (items_view values)
some_are [] some = absurd (omega arith)
some_are (v ∷ vs) some = refl

pub returns : goal.returns
returns c =
    let some : 0 < length c.in-Some-as_array.values.now.items = grind arith in
    let said : rows_of (items_view c.as_slice.result.now) ≡ rows_in (view c.args.value.now) =
    ap (λ (vs : List Value). rows_of (items_view vs)) c.as_slice.ensures.value
    ∙ some_are c.in-Some-as_array.values.now.items some
    ∙ ap (λ (o : Option Items). o >>= some_rows) c.in-Some-as_array.ensures
    ∙ ap (λ (o : Option Data). o >>= as_array >>= some_rows) c.in-Some.ensures in
    subst (λ (l : Option (List NamedRow)). IfOk c.read_rows.result (λ rows. rows ≡ l)) said c.read_rows.ensures
