-- LOKUP on operands that were resolved.
use Rattle.std.proofs.Common.{◌≡◌, ℕ, Bool, true, false, cond, Option, None, Some, is_some, refl, sym}
use Rattle.std.proofs.lemmas.Option.{cond_some, same_Some}
use Rattle.std.specs.Option.{option_map}
use Rattle.rpg_program.specs.Act.{act}
use Rattle.rpg_program.specs.Entries.{entry_of}
use Rattle.rpg_program.specs.Operate.{has_entries, names_entry, operate, resolved}
use Rattle.rpg_program.specs.Rows.{all_used, form_of, row_of, table_use}
use Rattle.rpg_program.specs.declared.operation.Action.TheVariants.{LookUp}
use Rattle.rpg_program.specs.declared.operation.Entry.{Entry}
use Rattle.rpg_program.specs.declared.operation.Operand.{Operand}
use Rattle.rpg_program.specs.declared.operation.Shows.{Shows}
use Rattle.rpg_memory.specs.Fields.{resolved_entry}
use Rattle.rpg_memory.specs.Memory.{Working, entry_if_in_range, forms_in, position_in}
use Rattle.rpg_memory.specs.declared.resolved.Resolved.{Resolved}
use Rattle.rpg_machine_operations.specs.Words.{entry_if_any, looked_up_in, operate_in}

some_entry : (b : Bool) (e : Entry ℕ) (t : Option Resolved) → Some (option_map resolved_entry t) ≡ option_map (λ (x : Entry ℕ). Some x) (cond b (Some e) None) → (b ≡ true) × (option_map resolved_entry t ≡ Some e)
some_entry true e t is = (refl, same_Some _ _ is)
some_entry false e t is = cc

table_entry : (w : Working) (to : Option (Operand ℕ)) (t : Option Resolved) → Some (option_map resolved_entry t) ≡ entry_if_any w to →
    (all_used (names_entry (forms_in w) w.world.data.fields) (table_use (form_of (forms_in w)) to) ≡ true) × (option_map resolved_entry t ≡ option_map (entry_of (forms_in w) w.world.data.fields) to)
table_entry w None t is = (refl, same_Some _ _ is)
table_entry w (Some o) t is = some_entry (is_some (position_in w o)) (entry_of (forms_in w) w.world.data.fields o) t is

-- where no index is out of range, LOKUP is the search among the entries that its operands name
pub looked_up_named : (w : Working) (a b : Operand ℕ) (to : Option (Operand ℕ)) (s : Shows) (d e : Resolved) (t : Option Resolved) → Some d.entry ≡ entry_if_in_range w a → Some e.entry ≡ entry_if_in_range w b → Some (option_map resolved_entry t) ≡ entry_if_any w to →
    operate_in w (LookUp a b to s) ≡ looked_up_in w d e t s
unfolding operate resolved has_entries row_of act
looked_up_named w a b to s d e t first second table =
    let f = cond_some (is_some (position_in w a)) (entry_of (forms_in w) w.world.data.fields a) d.entry (sym first) in
    let g = cond_some (is_some (position_in w b)) (entry_of (forms_in w) w.world.data.fields b) e.entry (sym second) in
    let h = table_entry w to t table in
    rw (f.0, g.0, h.0, f.1, g.1, h.1) refl
