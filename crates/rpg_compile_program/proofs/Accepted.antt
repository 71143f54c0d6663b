-- The program of a source without a fault breaks no rule.
use Rattle.std.proofs.Common.{◌≡◌, ℕ, false, ◌||◌, List}
use Rattle.std.specs.Option.{option_map_or}
use Rattle.rpg_cards.specs.Cards.{input_on, output_field_on}
use Rattle.rpg_cards.specs.Files.{file_by}
use Rattle.rpg_cards.specs.Groups.{open_file, output_role}
use Rattle.rpg_cards.specs.declared.spec_card.SpecCard.{SpecCard}
use Rattle.rpg_faults_places.specs.Places.{joins_badly, outside_line, outside_on_input, own_file}
use Rattle.rpg_verify_rules.proofs.Kept.{NoneTrue}
use Rattle.rpg_verify_rules.specs.Accepted.{IsAccepted}
use Rattle.rpg_verify_rules.specs.Rules.{broken}
use Rattle.rpg_verify_rules.specs.declared.rule.PlaceRule.{PlaceRule}
use Rattle.rpg_verify_rules.specs.declared.rule.PlaceRule.TheVariants.{V16, V17, V18, V19, V20, V21, V22}
use Rattle.rpg_verify_rules.specs.declared.rule.Rule.TheVariants as verifier
use Rattle.rpg_verify_rules.specs.declared.rule.SubroutineRule.{SubroutineRule}
use Rattle.rpg_verify_rules.specs.declared.rule.SubroutineRule.TheVariants.{V23, V24}
use Rattle.rpg_compile_program.proofs.Calculations as calculations
use Rattle.rpg_compile_program.proofs.Flow.{calls_kept, levels_kept, returns_kept, targets_kept}
use Rattle.rpg_compile_program.proofs.Known.{name_valid, name_known}
use Rattle.rpg_compile_program.proofs.Lists.{Seen, or_first, or_second}
use Rattle.rpg_compile_program.proofs.OutputLines as lines
use Rattle.rpg_compile_program.proofs.Settings.{overflow_kept}
use Rattle.rpg_compile_program.proofs.Types.{types_kept}
use Rattle.rpg_compile_program.specs.Program.{program_of}
use Rattle.rpg_compile_program.specs.Ranges.{AreCards}
use Rattle.rpg_compile_program.specs.Rules.{KeepsCardRules}

module _ (cards : List SpecCard) (allowance : ℕ) (rules : KeepsCardRules cards) (ranges : AreCards cards) where
  ends_inside : Seen cards (λ before c after. lines.ends_outside cards before c ≡ false)
  ends_inside before c after split =
      or_second (option_map_or (λ i. outside_on_input (file_by (own_file before i) cards) i || joins_badly before after i) (input_on c.spec) false)
      (option_map_or (outside_line cards (file_by (open_file output_role before) cards)) (output_field_on c.spec) false) (or_first _ _ (rules.f16 before c after split))

  skips_inside : Seen cards (λ before c after. lines.skips_outside cards before c ≡ false)
  skips_inside before c after split = or_second _ (lines.skips_outside cards before c) (rules.f16 before c after split)

  lines_fit : lines.AreFit cards allowance
  lines_fit = record {
    in_range = ranges;
    named = name_known cards rules;
    valid = name_valid cards rules;
    files = rules.f7;
    indicators = rules.f8;
    spaces = rules.f9_lines;
    names = rules.f1;
    kinds = rules.f4;
    indexes = rules.f5;
    columns = rules.f9_operands;
    editing = rules.f17;
    ends = ends_inside;
    skips = skips_inside;
  }

  calculations_fit : calculations.AreFit cards allowance
  calculations_fit = record {
    in_range = ranges;
    named = name_known cards rules;
    valid = name_valid cards rules;
    names = rules.f1;
    kinds = rules.f4;
    indexes = rules.f5;
    indicators = rules.f8;
    columns = rules.f9;
    sequence = rules.f9_operands;
  }

  places_kept : (r : PlaceRule) → NoneTrue (broken (program_of cards allowance) (verifier.Place r))
  places_kept V16 = calculations.columns_kept cards allowance calculations_fit V16 tt
  places_kept V17 = calculations.columns_kept cards allowance calculations_fit V17 tt
  places_kept V18 = calculations.columns_kept cards allowance calculations_fit V18 tt
  places_kept V19 = calculations.columns_kept cards allowance calculations_fit V19 tt
  places_kept V20 = calculations.columns_kept cards allowance calculations_fit V20 tt
  places_kept V21 = targets_kept cards rules allowance
  places_kept V22 = calls_kept cards rules allowance

  subroutines_kept : (r : SubroutineRule) → NoneTrue (broken (program_of cards allowance) (verifier.Subroutine r))
  subroutines_kept V23 = returns_kept cards rules allowance
  subroutines_kept V24 = levels_kept cards rules allowance

  pub accepted : IsAccepted (program_of cards allowance)
  accepted verifier.Overflow row = overflow_kept cards rules allowance row
  accepted (verifier.Type r) row = types_kept cards rules ranges allowance r row
  accepted (verifier.Line r) row = lines.lines_kept cards allowance lines_fit r row
  accepted (verifier.Place r) row = places_kept r row
  accepted (verifier.Subroutine r) row = subroutines_kept r row
