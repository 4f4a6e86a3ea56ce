use Rattle.std.proofs.Common.{◌≡◌, ◌+◌, ◌*◌, slice_index, slice_set, refl, sym, ap, ◌∙◌, get_or-set_same, get_or-set_other}
use Rattle.ltm_totals.proofs.Places.{apart}
use Rattle.ltm_totals.proofs.totals.Totals.set.Goals as goal

pub returns : goal.returns
returns c =
    let t = c.args.self.now in
    let place : c.place-place.result ≡ c.args.boundary * c.args.self.now.links + c.args.link = c.place-place.ensures.place in
    record {
      links = refl;
      slots = refl;
      here = ap (slice_index (slice_set t.table.items c.place-place.result c.args.total)) (sym place) ∙ get_or-set_same t.table.items c.place-place.result c.args.total 0 c.place-place.ensures.within;
      others = λ l k x other.
          get_or-set_other t.table.items c.place-place.result (k * c.args.self.now.links + l) c.args.total 0
          (λ e. apart c.args.self.now.links l k c.args.link c.args.boundary x c.requires.link other (e ∙ place));
    }
