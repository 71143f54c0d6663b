use Rattle.std.proofs.Common.{◌≡◌, drop}
use Rattle.rpg_program.specs.Lines.{blanked_all}
use Rattle.rpg_machine_lines.specs.Drafts.{fields_replaced}
use Rattle.rpg_machine_lines.proofs.field.blank_all.Given as goal

abbrev pub invariant-entries : goal.invariant-entries
invariant-entries g l = record {
  rest : l.memory ≡ fields_replaced l.memory.world.data.fields l.fn.memory;
  onward : blanked_all (drop l.entry-index l.entries) l.memory.world.data.fields ≡ blanked_all l.entries l.fn.memory.world.data.fields;
}
