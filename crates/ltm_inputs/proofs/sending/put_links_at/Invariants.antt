use Rattle.std.proofs.Common.{◌≡◌, ℕ, ◌<◌, ◌≤◌, slice_index}
use Rattle.ltm_curve.specs.Table.{counts_of}
use Rattle.ltm_loading.specs.Flows.{link_sending, position}
use Rattle.ltm_setting.specs.Setting.{setting_of}
use Rattle.ltm_inputs.specs.Parts.{link_at}
use Rattle.ltm_inputs.proofs.Filling.{IsFilledTo}
use Rattle.ltm_inputs.proofs.sending.put_links_at.Given as goal

abbrev pub invariant-loop-arm : goal.invariant-loop-arm
invariant-loop-arm g l = record {
  filled : IsFilledTo l.into l.place l.arm (setting_of l.scenario).destinations (λ i d. link_sending (setting_of l.scenario) (counts_of l.curves) (link_at l.links i) l.slot d);
  positions : (i : ℕ) → i < l.arm → slice_index l.positions i ≡ position (setting_of l.scenario) (counts_of l.curves) (link_at l.links i) l.slot;
  below : (i : ℕ) → i < l.arm → slice_index l.positions i ≤ l.slot;
  capacities : (i : ℕ) → i < l.arm → slice_index l.capacity i ≡ (setting_of l.scenario).capacity (link_at l.links i) l.slot;
}
