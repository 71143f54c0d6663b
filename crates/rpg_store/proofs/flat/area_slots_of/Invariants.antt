use Rattle.std.proofs.Common.{◌≡◌, ◌+◌, ◌++◌, drop}
use Rattle.rpg_store.specs.Area.{all_number_bytes, all_text_bytes, area_slots}
use Rattle.rpg_store.proofs.flat.area_slots_of.Given as goal

abbrev pub invariant-loop-form : goal.invariant-loop-form
invariant-loop-form l = record {
  so_far : l.slots.items ++ area_slots l.number l.text (drop l.form-index l.fields) ≡ area_slots 0 l.digits l.fields;
  numbers : l.number + all_number_bytes (drop l.form-index l.fields) ≡ l.digits;
  texts : l.text + all_text_bytes (drop l.form-index l.fields) ≡ l.digits + all_text_bytes l.fields;
}
