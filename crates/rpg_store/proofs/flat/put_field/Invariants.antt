use Rattle.std.proofs.Common.{◌≡◌, ℕ, ◌+◌, ◌≤◌, drop, map}
use Rattle.std.specs.FinMap as maps
use Rattle.rpg_program.specs.Values.{held}
use Rattle.rpg_store.specs.Filling.{with_positions}
use Rattle.rpg_store.specs.Flat.{flat_contents}
use Rattle.rpg_store.specs.Slots.{currents, forms_of}
use Rattle.rpg_store.proofs.flat.put_field.Given as goal

abbrev pub invariant-loop-value : goal.invariant-loop-value
invariant-loop-value l = record {
  counted : l.position ≡ l.value-index + 1;
  to_do : with_positions (flat_contents l.store) l.field (l.value-index + 1) (drop l.value-index (map held l.values)) ≡ with_positions (flat_contents l.initial.store) l.field 1 (map held l.values);
  others : (n : ℕ) → l.value-index ≤ n → maps.get (flat_contents l.store) (l.field, n + 1) ≡ maps.get (flat_contents l.initial.store) (l.field, n + 1);
  currents : currents l.store.slots ≡ currents l.initial.store.slots;
  forms : forms_of l.store.slots ≡ forms_of l.initial.store.slots;
}
