-- A search from a desk of which settled pairs were dropped already, where no pair is claimed.
use Rattle.std.proofs.Common.{refl}
use Rattle.ltm_node.specs.Inputs.{Inputs}
use Rattle.ltm_loading.specs.Setting.{Setting}
use Rattle.ltm_repair.specs.Desk.{Desk}
use Rattle.ltm_repair.specs.Moves.{DropsSettled}
use Rattle.ltm_repair.specs.Answers.{IsNoneClaimed}
use Rattle.ltm_working.specs.declared.found.Found.{Found}
use Rattle.ltm_working.specs.declared.found.Found.TheVariants.{Work, Wait, Rest}
use Rattle.ltm_working.specs.declared.table.Table.{Table}
use Rattle.ltm_working.specs.Desks.{desk_at}
use Rattle.ltm_working.specs.Searching.{Finds}
use Rattle.ltm_working.proofs.Dropping.{drops_trans}
use Rattle.ltm_working.proofs.Searches.{drops_free, first_none, none_then}

-- what it finds is found from before, too
pub found_after : (s : Setting) (d m : Desk) (found : Found) (n : Inputs) (t : Table) → DropsSettled s d m → IsNoneClaimed s d → Finds s m found n t → Finds s d found n t
found_after s d m (Work pair) n t drops none finds = (drops_free s d (desk_at s t) (drops_trans s d m (desk_at s t) drops finds.0.drops) none, finds.1)
found_after s d m Wait n t drops none finds =
    let out = finds.not_yet.0 refl in
    absurd (out.1.3 (none_then s d m drops none out.1.0 out.0 out.1.1 out.1.2))
found_after s d m Rest n t drops none finds = first_none s d (desk_at s t) (drops_trans s d m (desk_at s t) drops finds.desk.0.drops) finds.desk.1 none
