-- A source without a fault keeps the limits of the object format.
use Rattle.std.proofs.Common.{◌≤◌, List, length}
use Rattle.rpg_compile.proofs.Kept as accepted
use Rattle.rpg_cards.specs.declared.spec_card.SpecCard.{SpecCard}
use Rattle.rpg_faults.specs.Faults.{Faultless}
use Rattle.rpg_compile.proofs.Fields.{fields_kept}
use Rattle.rpg_compile.proofs.Files.{ends_kept, overflow_kept, page_kept}
use Rattle.rpg_compile.proofs.Lines.{few_lines, lines_within}
use Rattle.rpg_compile.proofs.SectionLimits.{few_instructions, few_subroutines}
use Rattle.rpg_compile.proofs.Totals.{fields_within, name_storage_within, names_within, storage_within}
use Rattle.rpg_compile.proofs.Types.{few_types, types_within}
use Rattle.rpg_compile.specs.Limits.{KeepsLimits}
use Rattle.rpg_compile_program.proofs.Flow.{plain}
use Rattle.rpg_compile_program.proofs.Settings.{longest_disk_record, longest_record, longest_secondary_record, shortest_record, widest_line}
use Rattle.rpg_compile_program.specs.Ranges.{AreCards}

pub keeps_limits : (cards : List SpecCard) → Faultless cards → length cards ≤ 2000 → AreCards cards → KeepsLimits cards
keeps_limits cards none few ranges =
    let rules = accepted.keeps_rules cards none in
    record {
      shortest_record = shortest_record cards rules;
      longest_record = longest_record cards rules;
      longest_secondary_record = longest_secondary_record cards rules;
      widest_line = widest_line cards rules;
      longest_disk_record = longest_disk_record cards rules;
      overflow = overflow_kept cards ranges;
      page = page_kept cards rules ranges;
      ends = ends_kept cards rules;
      names = names_within cards rules;
      few_fields = fields_within cards rules;
      fields = fields_kept cards ranges;
      name_storage = name_storage_within cards rules;
      storage = storage_within cards rules;
      few_types = few_types cards rules;
      types = types_within cards rules ranges;
      few_lines = few_lines cards rules;
      lines = lines_within cards rules;
      plain = plain cards rules;
      few_subroutines = few_subroutines cards rules;
      few_instructions = λ allowance. few_instructions cards allowance few;
    }
