use Rattle.std.proofs.Common.{◌≡◌, ◌≤◌, ◌<◌, ◌∙◌, ℕ, List, ap, inl, inr, refl, length, map, slice_index, arith}
use Rattle.std.proofs.lemmas.Bool.{cases_lt}
use Rattle.std.proofs.lemmas.List.{with_items_is}
use Rattle.ltm_units.specs.declared.quantities.Millis.{Millis}
use Rattle.ltm_setting.specs.Setting.{setting_of}
use Rattle.ltm_flows.specs.Origins.{produced_in_all}
use Rattle.ltm_flows.specs.Production.{produced_in}
use Rattle.ltm_flows.proofs.Showing.{all_narrow, all_rise, have_totals, all_produced_is}
use Rattle.ltm_flows.proofs.loading.Loading.refresh.Goals as goal

pub copy_changed-requires-clause-small : goal.copy_changed-requires-clause-small
copy_changed-requires-clause-small c = all_narrow (setting_of c.args.scenario.now) c.args.curves.now c.totals_small.ensures c.is_setting.ensures.setting c.requires.shape c.requires.loading

pub invariant_of-self-clause-times : goal.invariant_of-self-clause-times
invariant_of-self-clause-times c =
    ap length (with_items_is c.args.self.now.free c.write_free_times.new.into (c.write_free_times.auto.into ∙ c.deref_mut.ensures.len))
    ∙ (c.write_free_times.auto.into ∙ (ap length c.deref_mut.ensures.value ∙ c.args.self.now.times))

pub invariant_of-self-clause-rises : goal.invariant_of-self-clause-rises
invariant_of-self-clause-rises c =
    all_rise (setting_of c.args.scenario.now) c.args.curves.now c.copy_changed.new.self c.never_fall.ensures c.is_setting.ensures.setting c.requires.shape c.requires.loading c.copy_changed.ensures

-- up to the last boundary that it had it stood there, and behind it is written
amounts : (c : goal.After-self-2-1) → (n k : ℕ) → n < (setting_of c.args.scenario.now).nodes → k ≤ (setting_of c.args.scenario.now).slots → produced_in c.renew.new.self n k ≡ produced_in_all (setting_of c.args.scenario.now) n k
amounts c n k x l =
    let node : n < c.args.self.now.production.nodes = omega (arith, x, c.args.self.now.origins, c.requires.fits.nodes) in
    elim (cases_lt c.slots.result k) [
      | inl past ↦ c.renew.ensures.renewed n k node (omega (arith, past)) (omega (arith, l, c.slots-2.ensures, c.requires.shape.same_slots))
      | inr low ↦ c.renew.ensures.others n k node (omega (arith, l, c.requires.fits.room)) (inl (omega (arith, low))) ∙ c.requires.produced n k x (omega (arith, low, c.slots.ensures))
    ]

pub returns : goal.returns
returns c = record {
  version = refl;
  loading = c.requires.loading;
  shape = record { same_groups = c.copy_changed.ensures.shape.same_groups ∙ c.requires.shape.same_groups; same_slots = c.copy_changed.ensures.shape.same_slots ∙ c.requires.shape.same_slots };
  totals = have_totals (setting_of c.args.scenario.now) c.args.curves.now c.copy_changed.new.self c.requires.shape c.copy_changed.ensures;
  step = c.step-self.ensures.value;
  links = c.requires.fits.links;
  nodes = c.requires.fits.nodes;
  free = λ i x.
      ap (λ (xs : List Millis). slice_index (map (λ (time : Millis). time.0) xs) i) (with_items_is c.args.self.now.free c.write_free_times.new.into (c.write_free_times.auto.into ∙ c.deref_mut.ensures.len)) ∙ c.write_free_times.ensures i x;
  produced = amounts c;
  generated = λ k l.
      all_produced_is (setting_of c.args.scenario.now) c.renew.new.self k (omega (arith, c.renew.ensures.sizes.nodes, c.args.self.now.origins, c.requires.fits.nodes))
      (omega (arith, c.renew.ensures.sizes.room, l, c.requires.fits.room)) (λ n x. amounts c n k x l) (c.little_is_produced.ensures.all (setting_of c.args.scenario.now).nodes k);
}
