use Rattle.std.proofs.Common.{ap, ◌∙◌}
use Rattle.ltm_casefile.specs.Matrix.{is_matrix}
use Rattle.ltm_casefile.proofs.Fetching.{roads_stay}
use Rattle.ltm_casefile.proofs.fetch.fetch_road_texts.Goals as goal

pub returns-in_err-profile-clause-unasked : goal.returns-in_err-profile-clause-unasked
returns-in_err-profile-clause-unasked g c =
    roads_stay _ _ _ _ _
    (g.F.Folder.faults c.args.folder.now) (g.F.Folder.faults c.fetch.new.folder) (g.F.Folder.faults c.fetch-2.new.folder) (g.F.Folder.faults c.fetch-3.new.folder) (g.F.Folder.faults c.fetch_if.new.folder)
    (c.fetch-2.ensures.keeps ∙ c.fetch.ensures.keeps) c.in_ok-demand.ensures.ok (c.in_ok-asked.ensures ∙ ap is_matrix c.bytes-2.ensures.bytes)
    c.fetch.ensures.others c.fetch-2.ensures.others c.fetch-3.ensures.others c.fetch_if.ensures.others
