use Rattle.std.proofs.Common.{◌≡◌, ◌≤◌, ◌+◌, length, drop}
use Rattle.rpg_program.specs.LineFaults.{AreRight}
use Rattle.rpg_machine_lines.proofs.Reaching.{EndWithin}
use Rattle.rpg_machine_lines.specs.Drafts.{draft_in, fields_drafted, fields_replaced}
use Rattle.rpg_machine_lines.specs.Entries.{AreFieldEntries}
use Rattle.rpg_machine_lines.specs.Plans.{AreFieldPlans, reach_of}
use Rattle.rpg_program.specs.Constants.{word_at}
use Rattle.rpg_memory.specs.Memory.{forms_in}
use Rattle.rpg_machine_lines.proofs.assembly.assemble.Given as goal

abbrev pub invariant-fields : goal.invariant-fields
invariant-fields g l = record {
  rest : l.memory ≡ fields_replaced l.memory.world.data.fields l.fn.memory;
  len : length l.text ≡ length l.fn.text;
  entries : AreFieldEntries l.fn.memory.program.fields l.to_blank;
  right : AreRight (forms_in l.fn.memory) (word_at l.fn.memory.program) (length l.fn.text) l.left;
  planned : AreFieldPlans l.fn.memory.program.fields l.left l.found;
  room : length l.to_blank + length l.left ≤ 200;
  ends : EndWithin (reach_of l.fields) l.left;
  following : drop (reach_of l.fields) l.text ≡ drop (reach_of l.fields) l.fn.text;
  onward : fields_drafted l.fn.memory (length l.fn.text) l.left (draft_in l.memory l.text l.to_blank)
      ≡ fields_drafted l.fn.memory (length l.fn.text) l.fields (draft_in l.fn.memory l.fn.text l.fn.to_blank);
}

abbrev pub decreases-fields : goal.decreases-fields
decreases-fields g l = length l.left
