-- What the format of programs holds is a program in plain words, and back.
use Rattle.std.proofs.Common.{◌≡◌, ◌-◌, false, length, arith}
use Rattle.rpg_object_format.specs.Format.{pair, row, table}
use Rattle.rpg_program.specs.Kept.{IsInstructionRow, IsLineRow, IsPlain, IsPlainType, IsProgram, IsTypeRow}
use Rattle.rpg_program.specs.Object.{Object, has_secondary}
use Rattle.rpg_object_format.specs.Instructions.{instruction}
use Rattle.rpg_object_rows.specs.Lines.{line}
use Rattle.rpg_object_rows.specs.Types.{record_type_format}
use Rattle.rpg_object_format.proofs.InstructionKept.{instruction_kept, instruction_from}
use Rattle.rpg_object_rows.proofs.LineLaws.{line_kept, line_from}
use Rattle.rpg_object_rows.proofs.TypeLaws.{plain_kept, type_kept, type_from}
use Rattle.rpg_object.specs.Program.{body, counts_of, header_of, settings_of, tables}
use Rattle.rpg_object.proofs.FieldLaws.{fields_kept, storage_kept, fields_from}
use Rattle.rpg_object.proofs.HeaderLaws.{AreSettings, AreCounts, IsHeader, header_kept, header_from}
use Rattle.rpg_object.proofs.SubroutineLaws.{subroutines_kept, instructions_within, subroutines_from}
use Rattle.rpg_object_format.proofs.Choices.{all_from_table, table_from_all}
use Rattle.rpg_object.proofs.ValueLaws.{values_kept, values_from}

-- in version 1 there is neither a secondary file nor a match field
plain_program : (p : Object) → body.Holds p → has_secondary p.version ≡ false → IsPlain p
unfolding body tables row pair
plain_program p h one = record {
  secondary = (header_kept (header_of p) h.0).plain one;
  types = all_from_table (record_type_format p.version) IsPlainType (λ t k. plain_kept p.version t k one) (length p.types) p.types h.1.1.1.0;
}

pub program_kept : (p : Object) → body.Holds p → IsProgram p
unfolding body tables row pair
program_kept p h =
    let head = header_kept (header_of p) h.0 in
    let s : AreSettings (settings_of p) = head.settings in
    let c : AreCounts (counts_of p) = head.counts in
    let few_detail = c.few_detail in
    let few_total = c.few_total in
    let within = instructions_within (length p.subroutines) (8192 - length p.detail - length p.total) p.subroutines h.1.1.1.1.1.1.1 in
    record {
      lowest_allowance = s.lowest_allowance;
      highest_allowance = s.highest_allowance;
      shortest_record = s.shortest_record;
      longest_record = s.longest_record;
      longest_secondary = head.longest_secondary;
      widest_line = s.widest_line;
      longest_disk_record = s.longest_disk_record;
      overflow = s.overflow;
      page = head.page;
      ends = head.ends;
      few_fields = c.few_fields;
      fields = fields_kept (length p.fields) p.fields h.1.0;
      storage = storage_kept (length p.fields) p.fields h.1.0;
      values = values_kept p.fields p.values h.1.1.0;
      few_types = c.few_types;
      types = all_from_table (record_type_format p.version) IsTypeRow (type_kept p.version) (length p.types) p.types h.1.1.1.0;
      few_lines = c.few_lines;
      lines = all_from_table line IsLineRow line_kept (length p.lines) p.lines h.1.1.1.1.0;
      detail = all_from_table instruction IsInstructionRow instruction_kept (length p.detail) p.detail h.1.1.1.1.1.0;
      total = all_from_table instruction IsInstructionRow instruction_kept (length p.total) p.total h.1.1.1.1.1.1.0;
      few_subroutines = c.few_subroutines;
      subroutines = subroutines_kept (length p.subroutines) (8192 - length p.detail - length p.total) p.subroutines h.1.1.1.1.1.1.1;
      few_instructions = omega arith;
      plain = plain_program p h;
      standard = λ old. record { page = (head.standard old).0; ends = (head.standard old).1 };
    }

settings_plain : (p : Object) → IsProgram p → AreSettings (settings_of p)
settings_plain p h = record {
  lowest_allowance = h.lowest_allowance;
  highest_allowance = h.highest_allowance;
  shortest_record = h.shortest_record;
  longest_record = h.longest_record;
  widest_line = h.widest_line;
  longest_disk_record = h.longest_disk_record;
  overflow = h.overflow;
}

counts_plain : (p : Object) → IsProgram p → AreCounts (counts_of p)
counts_plain p h =
    let few = h.few_instructions in
    record {
      few_fields = h.few_fields;
      few_types = h.few_types;
      few_lines = h.few_lines;
      few_detail = omega arith;
      few_total = omega arith;
      few_subroutines = h.few_subroutines;
    }

header_plain : (p : Object) → IsProgram p → IsHeader (header_of p)
header_plain p h = record {
  settings = settings_plain p h;
  counts = counts_plain p h;
  longest_secondary = h.longest_secondary;
  plain = λ one. (h.plain one).secondary;
  page = h.page;
  ends = h.ends;
  standard = λ old. ((h.standard old).page, (h.standard old).ends);
}

types_from : (p : Object) → IsProgram p → (table (length p.types) (record_type_format p.version)).Holds p.types
types_from p h =
    table_from_all (record_type_format p.version) (λ t. IsTypeRow t × (has_secondary p.version ≡ false → IsPlainType t)) (λ t k. type_from p.version t k.0 k.1) p.types
    (λ k d lt. (h.types k d lt, λ one. (h.plain one).types k d lt))

pub program_from : (p : Object) → IsProgram p → body.Holds p
unfolding body tables row pair
program_from p h =
    let few = h.few_instructions in (
      header_from (header_of p) (header_plain p h),
      (
        fields_from p.fields h.fields h.storage,
        (
          values_from p.fields p.values h.fields h.values,
          (
            types_from p h,
            (
              table_from_all line IsLineRow line_from p.lines h.lines,
              (
                table_from_all instruction IsInstructionRow instruction_from p.detail h.detail,
                (table_from_all instruction IsInstructionRow instruction_from p.total h.total, subroutines_from (8192 - length p.detail - length p.total) p.subroutines (omega arith) (omega arith) h.subroutines),
              ),
            ),
          ),
        ),
      ),
    )
