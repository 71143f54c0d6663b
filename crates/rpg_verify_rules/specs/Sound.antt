-- What the rules guarantee to whatever runs an accepted program.
use Rattle.std.specs.Prelude.{◌≡◌, ℕ, ◌<◌, ◌≤◌, true, All, None, Some}
use Rattle.std.specs.List.{sum}
use Rattle.rpg_program.specs.Forms.{form_at}
use Rattle.rpg_program.specs.Input.{TypeRow, input_fault}
use Rattle.rpg_program.specs.LineFaults.{AreRight, line_fault}
use Rattle.rpg_program.specs.Right.{IsRightRow}
use Rattle.rpg_program.specs.declared.operation.Instruction.{Instruction}
use Rattle.rpg_program.specs.declared.operation.Instruction.TheVariants.{Act, Except, Branch, Call, Return}
use Rattle.rpg_program.specs.Constants.{word_at}
use Rattle.rpg_program.specs.ObjectInstructions.{columns}
use Rattle.rpg_program.specs.Object.{LineRow, Object, file_length, has_file, input_length}
use Rattle.rpg_program.specs.Sections.{first_place, has_subroutine, instruction_at, is_place, level_of, section_instructions}
use Rattle.rpg_program.specs.declared.section.Place.{Place}
use Rattle.rpg_program.specs.declared.section.Section.{Section}
use Rattle.rpg_program.specs.declared.section.Section.TheVariants.{Subroutine}
use Rattle.rpg_verify_rules.specs.Indicators.{if_any, is_of_type}
use Rattle.rpg_verify_rules.specs.LineRules.{is_spaced_on}
use Rattle.rpg_verify_rules.specs.PlaceRules.{are_testable, are_marked, ends_in_return}
use Rattle.rpg_verify_rules.specs.TypeRules.{all_measured, are_joined_as, are_once, first_matches, is_code_in, is_control_in, is_input_shown, joined_widths, measures}

-- an instruction is at a place of a section
abbrev pub IsAt : Object → Place → Instruction ℕ → Type 0
IsAt p x i = (first_place p x.section ≤ x.number) × (instruction_at p x ≡ Some i)

-- a branch leads to a place of its section, a call to an existing subroutine of a higher level, and a return is the section's own
abbrev pub LeadsWell : Object → Section → Instruction ℕ → Type 0
LeadsWell p s (Act a) = Unit {0}
LeadsWell p s Except = Unit {0}
LeadsWell p s (Branch is_taken_where cs target) = is_place p (record { section = s; number = target }) ≡ true
LeadsWell p s (Call n) = (has_subroutine p n ≡ true) × (level_of p s < level_of p (Subroutine n))
LeadsWell p s (Return n) = (has_subroutine p n ≡ true) × (s ≡ Subroutine n)

-- an instruction of a section: nothing is wrong with its operands, whatever the values are, control goes only where it may, and it sets and
-- tests only indicators that may be set and tested
pub record IsSoundInstruction (p : Object) (s : Section) (i : Instruction ℕ) : Type 0 where
  pub operands : IsRightRow (form_at p.fields) (columns p i)
  pub control : LeadsWell p s i
  pub marks : are_marked (columns p i).marks ≡ true
  pub conditions : are_testable p.version i ≡ true

-- a line: its file exists, its movements are in range, with none on the disk file, and nothing is wrong with its fields
pub record IsSoundLine (p : Object) (l : LineRow) : Type 0 where
  pub line : line_fault p.overflow.page.lines (file_length p l.file) l.spacing ≡ None
  pub spacing : is_spaced_on p.overflow.page.lines l.file l.spacing ≡ true
  pub fields : AreRight (form_at p.fields) (word_at p) (file_length p l.file) l.fields

-- a record type: its file exists, its columns are those of the file's records, its levels have the same length in each type that has them,
-- nothing is wrong with its input fields, and each of its match fields has a level of its own, with the same length in each type that has
-- some
pub record IsSoundType (p : Object) (t : TypeRow ℕ) : Type 0 where
  pub indicator : if_any is_of_type t.indicator ≡ true
  pub codes : All (λ c. is_code_in (input_length p t.file) c ≡ true) t.codes
  pub levels : All (λ c. is_control_in (input_length p t.file) c ≡ true) t.levels
  pub joined : all_measured 1 (measures p.types) t.levels ≡ true
  pub inputs : All (λ f. input_fault (form_at p.fields) (input_length p t.file) f ≡ None) t.inputs
  pub shown : All (λ f. is_input_shown p f ≡ true) t.inputs
  pub file : has_file p t.file ≡ true
  pub matches : All (λ c. is_control_in (input_length p t.file) c ≡ true) t.matches
  pub once : are_once t.matches ≡ true
  pub few_matched : sum (joined_widths t.matches) ≤ 256
  pub alike : are_joined_as (joined_widths (first_matches p.types)) t.matches ≡ true

-- what the rules guarantee to a machine
pub record IsSound (p : Object) : Type 0 where
  pub each : (x : Place) (i : Instruction ℕ) → IsAt p x i → IsSoundInstruction p x.section i
  pub ended : (n : ℕ) → has_subroutine p n ≡ true → ends_in_return (section_instructions p (Subroutine n)) ≡ true
  pub lines : All (IsSoundLine p) p.lines
  pub types : All (IsSoundType p) p.types
