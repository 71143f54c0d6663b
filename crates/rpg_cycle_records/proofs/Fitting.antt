-- What the rules and the format give of record types.
use Rattle.std.proofs.Common.{◌≡◌, ℕ, true, get_or, All, arith}
use Rattle.std.proofs.lemmas.Bool.Decides.{nat_tests}
use Rattle.rpg_cycle_records.specs.Fitting.{IsCodeIn, IsControlIn, IsTypeFit}
use Rattle.rpg_program.specs.declared.input.ControlField.{ControlField}
use Rattle.rpg_program.specs.declared.input.RecordCode.{RecordCode}
use Rattle.rpg_program.specs.Kept.{IsProgram}
use Rattle.rpg_program.specs.Object.{Object, input_length}
use Rattle.rpg_verify_rules.specs.Sound.{IsSound}
use Rattle.rpg_verify_rules.specs.TypeRules.{is_code_in, is_control_in}

code_in : (len : ℕ) (c : RecordCode) → is_code_in len c ≡ true → IsCodeIn len c
code_in len c h = record { low = grind (arith, nat_tests, h); high = grind (arith, nat_tests, h) }

control_in : (len : ℕ) (f : ControlField) → is_control_in len f ≡ true → IsControlIn len f
control_in len f h = record { low = grind (arith, nat_tests, h); order = grind (arith, nat_tests, h); high = grind (arith, nat_tests, h) }

-- the types of an accepted program
pub types_fit : (p : Object) → IsSound p → IsProgram p → All (IsTypeFit p) p.types
types_fit p sound kept = λ k d inside.
    let s = sound.types k d inside in
    let t = kept.types k d inside in
    let row = get_or p.types k d in
    let len = input_length p row.file in
    record {
      indicator = t.indicator;
      codes = λ i c l. code_in len (get_or row.codes i c) (s.codes i c l);
      few_codes = t.few_codes;
      levels = λ i c l. control_in len (get_or row.levels i c) (s.levels i c l);
      few_levels = t.few_levels;
      matches = λ i c l. control_in len (get_or row.matches i c) (s.matches i c l);
      few_matches = t.few_matches;
    }
