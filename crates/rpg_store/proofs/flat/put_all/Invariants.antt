use Rattle.std.proofs.Common.{◌≡◌, ℕ, ◌+◌, ◌≤◌, drop, map}
use Rattle.std.specs.FinMap as maps
use Rattle.rpg_program.specs.Values.{entries_held}
use Rattle.rpg_store.specs.Filling.{with_field_values}
use Rattle.rpg_store.specs.Flat.{flat_contents}
use Rattle.rpg_store.specs.Slots.{currents, forms_of}
use Rattle.rpg_store.proofs.flat.put_all.Given as goal

abbrev pub invariant-loop-of_field : goal.invariant-loop-of_field
invariant-loop-of_field l = record {
  counted : l.field ≡ l.of_field-index + 1;
  to_do : with_field_values (flat_contents l.store) (l.of_field-index + 1) (drop l.of_field-index (map entries_held l.values)) ≡ with_field_values (flat_contents l.initial.store) 1 (map entries_held l.values);
  others : (k n : ℕ) → l.of_field-index ≤ k → maps.get (flat_contents l.store) (k + 1, n) ≡ maps.get (flat_contents l.initial.store) (k + 1, n);
  currents : currents l.store.slots ≡ currents l.initial.store.slots;
  forms : forms_of l.store.slots ≡ forms_of l.initial.store.slots;
}
