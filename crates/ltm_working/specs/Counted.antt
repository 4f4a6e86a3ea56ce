-- The counts at a slot's end, of outputs that are these counts or what has moved in the slot.
use Rattle.std.specs.Prelude.{ℕ, ◌+◌, List, length, slice_index}
use Rattle.ltm_curve.specs.Counts.{Counts}
use Rattle.ltm_curve.specs.First.{list_below}
use Rattle.ltm_node.specs.Outputs.{Outputs}
use Rattle.ltm_loading.specs.Setting.{Setting}
use Rattle.ltm_loading.specs.Pairs.{arrived_by}
use Rattle.ltm_loading.specs.Uncounted.{moved_on, outputs_at}
use Rattle.ltm_working.specs.declared.step_form.StepForm.{StepForm}
use Rattle.ltm_working.specs.declared.step_form.StepForm.TheVariants.{Counted, Moved}

-- one count, which was another at the slot's beginning
abbrev pub counted_number : StepForm → ℕ → ℕ → ℕ
counted_number Counted before number = number
counted_number Moved before number = before + number

-- what has arrived at a node
abbrev pub counted_arrivals : StepForm → Setting → Counts → ℕ → ℕ → ℕ → ℕ
counted_arrivals given s c u t number = counted_number given (arrived_by s c (s.own u) t) number

-- the counts of a group
abbrev pub counted_row : StepForm → Counts → ℕ → ℕ → List ℕ → List ℕ
counted_row Counted c group slot numbers = numbers
counted_row Moved c group slot numbers = list_below (length numbers) (λ d. c group d slot + slice_index numbers d)

-- the counts of a node
abbrev pub counts_by_form : StepForm → Setting → Counts → ℕ → ℕ → Outputs → Outputs
counts_by_form Counted s c u t o = o
counts_by_form Moved s c u t o = outputs_at s u (moved_on s c u t o.row)
