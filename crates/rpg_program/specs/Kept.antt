-- The limits of an object program's rows, in plain words.
use Rattle.std.specs.Prelude.{◌≡◌, ◌≢◌, ℕ, ◌+◌, ◌^◌, ◌<◌, ◌≤◌, Bool, false, ◌||◌, List, [], ◌∷◌, length, All, Option, None, unsigned_abs}
use Rattle.std.specs.Option.{ForSome}
use Rattle.rpg_program.specs.Forms.{is_array, is_table, size_of}
use Rattle.rpg_program.specs.Input.{TypeRow}
use Rattle.rpg_program.specs.Values.{Value, Number, Text}
use Rattle.rpg_program.specs.declared.condition.Condition.{Condition}
use Rattle.rpg_program.specs.declared.condition.Conditions.{Conditions}
use Rattle.rpg_program.specs.declared.form.Class.{Class}
use Rattle.rpg_program.specs.declared.form.Class.TheVariants as classes
use Rattle.rpg_program.specs.declared.form.FieldForm.{FieldForm}
use Rattle.rpg_program.specs.declared.form.Kind.{Kind}
use Rattle.rpg_program.specs.declared.form.Kind.TheVariants as kinds
use Rattle.rpg_program.specs.declared.input.ControlField.{ControlField}
use Rattle.rpg_program.specs.declared.input.InputField.{InputField}
use Rattle.rpg_program.specs.declared.input.InputFile.TheVariants.{Primary}
use Rattle.rpg_program.specs.declared.input.RecordCode.{RecordCode}
use Rattle.rpg_program.specs.declared.line.Editing.{Editing}
use Rattle.rpg_program.specs.declared.line.Editing.TheVariants as editings
use Rattle.rpg_program.specs.declared.line.LineField.{LineField}
use Rattle.rpg_program.specs.declared.line.Spacing.{Spacing}
use Rattle.rpg_program.specs.declared.operation.Action.{Action}
use Rattle.rpg_program.specs.declared.operation.Action.TheVariants.{Compute, Divide, Assign, TakeRemainder, CrossFoot, Compare, LookUp, Move, SetIndicators}
use Rattle.rpg_program.specs.declared.operation.Index.{Index}
use Rattle.rpg_program.specs.declared.operation.Index.TheVariants.{Blank, Literal, Field}
use Rattle.rpg_program.specs.declared.operation.Instruction.{Instruction}
use Rattle.rpg_program.specs.declared.operation.Instruction.TheVariants.{Act, Except, Branch, Call, Return}
use Rattle.rpg_program.specs.declared.operation.Operand.{Operand}
use Rattle.rpg_program.specs.declared.operation.Shows.{Shows}
use Rattle.rpg_paper.specs.Paper.{IsPage, standard_page}
use Rattle.rpg_program.specs.Object.{LineRow, Object, SubroutineRow, has_page, has_secondary}
use Rattle.rpg_program.specs.Sections.{places_of}

-- ---- numbers of the format

-- a number of two bytes
abbrev pub IsTwoBytes : ℕ → Type 0
IsTwoBytes n = n < 65536

-- a character, 0x20 to 0x7e
pub record IsCharacter (c : ℕ) : Type 0 where
  pub lowest : 32 ≤ c
  pub highest : c ≤ 126

-- the number of an indicator
pub record IsIndicator (n : ℕ) : Type 0 where
  pub lowest : 1 ≤ n
  pub highest : n ≤ 129

-- three indicators, any of which may be missing
pub record AreIndicators (s : Shows) : Type 0 where
  pub plus : ForSome s.plus IsIndicator
  pub minus : ForSome s.minus IsIndicator
  pub zero : ForSome s.zero IsIndicator

-- the number of the overflow indicator
pub record IsOverflowIndicator (n : ℕ) : Type 0 where
  pub lowest : 112 ≤ n
  pub highest : n ≤ 119

-- ---- fields and first values

-- 1 to 15 digits, or 1 to 256 characters
abbrev pub length_limit : Kind → ℕ
length_limit kinds.Number = 15
length_limit kinds.Text = 256

-- at most nine decimals, and not more than digits; a text has none
abbrev pub AreDecimals : Kind → ℕ → ℕ → Type 0
AreDecimals kinds.Number digits decimals = (decimals ≤ 9) × (decimals ≤ digits)
AreDecimals kinds.Text characters decimals = decimals ≡ 0

-- only arrays and tables have several entries, and a sequence
abbrev pub may_have_entries : Class → Bool
may_have_entries class = is_array class || is_table class

-- the date is a number of 6 digits
pub record IsDateForm (f : FieldForm) : Type 0 where
  pub kind : f.kind ≡ kinds.Number
  pub digits : f.length ≡ 6
  pub decimals : f.decimals ≡ 0

-- a field that an object has room for
pub record IsFieldRow (f : FieldForm) : Type 0 where
  pub shortest : 1 ≤ f.length
  pub longest : f.length ≤ length_limit f.kind
  pub decimals : AreDecimals f.kind f.length f.decimals
  pub date : f.class ≡ classes.Date → IsDateForm f
  pub fewest : 1 ≤ f.entries
  pub most : f.entries ≤ 9999
  pub single : may_have_entries f.class ≡ false → f.entries ≡ 1
  pub unordered : may_have_entries f.class ≡ false → f.is_ascending ≡ false

-- a number with this many digits, or a text with this many characters
abbrev pub IsValueOf : Kind → ℕ → Value → Type 0
IsValueOf kinds.Number len (Number n) = unsigned_abs n < 10 ^ len
IsValueOf kinds.Text len (Text text) = (length text ≡ len) × All IsCharacter text
IsValueOf kinds.Number len (Text text) = ⊥
IsValueOf kinds.Text len (Number n) = ⊥

-- a value for each entry
pub record AreEntriesOf (f : FieldForm) (vs : List Value) : Type 0 where
  pub number : length vs ≡ f.entries
  pub each : All (IsValueOf f.kind f.length) vs

-- values for each field
abbrev pub AreValuesOf : List FieldForm → List (List Value) → Type 0
AreValuesOf [] [] = Unit {0}
AreValuesOf [] (vs ∷ values) = ⊥
AreValuesOf (f ∷ fs) [] = ⊥
AreValuesOf (f ∷ fs) (vs ∷ values) = AreEntriesOf f vs × AreValuesOf fs values

-- the bytes of the entries of all fields
abbrev pub storage_of : List FieldForm → ℕ
storage_of [] = 0
storage_of (f ∷ fs) = size_of f + storage_of fs

-- ---- record types

-- a record code that an object has room for
pub record IsCodeRow (c : RecordCode) : Type 0 where
  pub position : IsTwoBytes c.position
  pub character : IsCharacter c.character

-- a control or match field that an object has room for
pub record IsControlRow (c : ControlField) : Type 0 where
  pub lowest : 1 ≤ c.level
  pub highest : c.level ≤ 9
  pub from : IsTwoBytes c.from
  pub to : IsTwoBytes c.to

-- an input field that an object has room for
pub record IsInputRow (f : InputField ℕ) : Type 0 where
  pub from : IsTwoBytes f.from
  pub to : IsTwoBytes f.to
  pub field : IsTwoBytes f.field
  pub shows : AreIndicators f.shows

-- a record type that an object has room for
pub record IsTypeRow (t : TypeRow ℕ) : Type 0 where
  pub indicator : ForSome t.indicator IsIndicator
  pub few_codes : length t.codes ≤ 100
  pub codes : All IsCodeRow t.codes
  pub few_levels : length t.levels ≤ 100
  pub levels : All IsControlRow t.levels
  pub few_inputs : length t.inputs ≤ 500
  pub inputs : All IsInputRow t.inputs
  pub few_matches : length t.matches ≤ 9
  pub matches : All IsControlRow t.matches

-- ---- operands and conditions

-- no index, a literal of 1 to 9,999, or a field whose number plus 10,000 fits in two bytes
abbrev pub IsIndexRow : Index ℕ → Type 0
IsIndexRow Blank = Unit {0}
IsIndexRow (Literal n) = (1 ≤ n) × (n ≤ 9999)
IsIndexRow (Field k) = IsTwoBytes (10000 + k)

-- an operand that an object has room for
pub record IsOperandRow (o : Operand ℕ) : Type 0 where
  pub field : IsTwoBytes o.field
  pub index : IsIndexRow o.index

-- field 0 without an index isn't an operand
abbrev pub IsAnOperand : Operand ℕ → Type 0
IsAnOperand o = o.field ≡ 0 → o.index ≢ Blank

-- an operand that may be missing
pub record IsOptionalRow (o : Option (Operand ℕ)) : Type 0 where
  pub row : ForSome o IsOperandRow
  pub there : ForSome o IsAnOperand

-- a condition that an object has room for
pub record IsConditionRow (c : Condition) : Type 0 where
  pub indicator : IsIndicator c.indicator

-- three conditions, any of which may be missing
pub record AreConditions (cs : Conditions) : Type 0 where
  pub first : ForSome cs.first IsConditionRow
  pub second : ForSome cs.second IsConditionRow
  pub third : ForSome cs.third IsConditionRow

-- ---- lines

-- spaces and skips that an object has room for
pub record IsSpacingRow (s : Spacing) : Type 0 where
  pub space_before : s.space_before < 256
  pub space_after : s.space_after < 256
  pub skip_before : s.skip_before < 256
  pub skip_after : s.skip_after < 256

-- the conditions of one alternative of a line: at most 60
pub record IsAlternativeRow (conditions : List Condition) : Type 0 where
  pub few : length conditions ≤ 60
  pub each : All IsConditionRow conditions

-- the field of an edit word is any number of two bytes
abbrev pub IsEditingRow : Editing ℕ → Type 0
IsEditingRow editings.Plain = Unit {0}
IsEditingRow (editings.Code code) = Unit {0}
IsEditingRow (editings.Word field) = IsTwoBytes field

-- an output field that an object has room for
pub record IsLineFieldRow (f : LineField ℕ) : Type 0 where
  pub operand : IsOperandRow f.operand
  pub editing : IsEditingRow f.editing
  pub end : IsTwoBytes f.end
  pub conditions : AreConditions f.conditions

-- a line that an object has room for
pub record IsLineRow (l : LineRow) : Type 0 where
  pub spacing : IsSpacingRow l.spacing
  pub some_alternatives : 1 ≤ length l.alternatives
  pub few_alternatives : length l.alternatives ≤ 50
  pub alternatives : All IsAlternativeRow l.alternatives
  pub few_fields : length l.fields ≤ 200
  pub fields : All IsLineFieldRow l.fields

-- ---- instructions

-- what the operation has
abbrev pub IsActionRow : Action (Operand ℕ) → Type 0
IsActionRow (Compute operator half a b r s) = IsOperandRow a × IsOperandRow b × IsOperandRow r × AreIndicators s
IsActionRow (Divide half a b r s) = IsOperandRow a × IsOperandRow b × IsOperandRow r × AreIndicators s
IsActionRow (Assign negated half b r s) = IsOperandRow b × IsOperandRow r × AreIndicators s
IsActionRow (TakeRemainder r s) = IsOperandRow r × AreIndicators s
IsActionRow (CrossFoot half b r s) = IsOperandRow b × IsOperandRow r × AreIndicators s
IsActionRow (Compare a b s) = IsOperandRow a × IsOperandRow b × AreIndicators s
IsActionRow (LookUp a b r s) = IsOperandRow a × IsOperandRow b × IsOptionalRow r × AreIndicators s
IsActionRow (Move side b r) = IsOperandRow b × IsOperandRow r
IsActionRow (SetIndicators is_on s) = AreIndicators s

-- an instruction that an object has room for
abbrev pub IsInstructionRow : Instruction ℕ → Type 0
IsInstructionRow (Act a) = IsActionRow a
IsInstructionRow Except = Unit {0}
IsInstructionRow (Branch is_taken_where cs target) = AreConditions cs × IsTwoBytes target
IsInstructionRow (Call subroutine) = IsTwoBytes subroutine
IsInstructionRow (Return subroutine) = IsTwoBytes subroutine

-- a subroutine that an object has room for
pub record IsSubroutineRow (s : SubroutineRow) : Type 0 where
  pub level : IsTwoBytes s.level
  pub instructions : All IsInstructionRow s.instructions

-- ---- programs

-- a record type of the primary file, without match fields
pub record IsPlainType (t : TypeRow ℕ) : Type 0 where
  pub file : t.file ≡ Primary
  pub matches : t.matches ≡ []

-- what version 1 allows: no secondary file and no match fields
pub record IsPlain (p : Object) : Type 0 where
  pub secondary : p.secondary_length ≡ 0
  pub types : All IsPlainType p.types

-- what a version without a page has: the standard one, and no file that ends the job alone
pub record IsStandard (p : Object) : Type 0 where
  pub page : p.overflow.page ≡ standard_page
  pub ends : p.ends ≡ None

-- limits, tables, and values for each field
pub record IsProgram (p : Object) : Type 0 where
  pub lowest_allowance : 1 ≤ p.allowance
  pub highest_allowance : p.allowance ≤ 65535
  pub shortest_record : 1 ≤ p.record_length
  pub longest_record : p.record_length ≤ 9999
  pub longest_secondary : p.secondary_length ≤ 9999
  pub widest_line : p.printer_length ≤ 132
  pub longest_disk_record : p.disk_length ≤ 9999
  pub overflow : ForSome p.overflow.indicator IsOverflowIndicator
  pub page : IsPage p.overflow.page
  pub ends : p.secondary_length ≡ 0 → p.ends ≡ None
  pub few_fields : length p.fields ≤ 4000
  pub fields : All IsFieldRow p.fields
  pub storage : storage_of p.fields ≤ 65535
  pub values : AreValuesOf p.fields p.values
  pub few_types : length p.types ≤ 200
  pub types : All IsTypeRow p.types
  pub few_lines : length p.lines ≤ 1000
  pub lines : All IsLineRow p.lines
  pub detail : All IsInstructionRow p.detail
  pub total : All IsInstructionRow p.total
  pub few_subroutines : length p.subroutines ≤ 100
  pub subroutines : All IsSubroutineRow p.subroutines
  pub few_instructions : places_of p ≤ 8192
  pub plain : has_secondary p.version ≡ false → IsPlain p
  pub standard : has_page p.version ≡ false → IsStandard p
