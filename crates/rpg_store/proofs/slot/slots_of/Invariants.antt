use Rattle.std.proofs.Common.{◌≡◌, ◌+◌, ◌≤◌, ◌++◌, drop}
use Rattle.rpg_store.specs.Slots.{entries_count, slots_from}
use Rattle.rpg_store.proofs.slot.slots_of.Given as goal

abbrev pub invariant-loop-form : goal.invariant-loop-form
invariant-loop-form l = record {
  so_far : l.slots.items ++ slots_from l.first (drop l.form-index l.fields) ≡ slots_from 0 l.fields;
  few : l.first + entries_count (drop l.form-index l.fields) ≤ 65535;
}
