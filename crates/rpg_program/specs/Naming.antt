-- The same things by other names. Keys of one kind (names and constants on cards) become keys of another (numbers of fields).
-- Here is when a world by the one and a world by the other agree.
use Rattle.std.specs.Prelude.{◌≡◌, ℕ, true, All, List, map, Option, None, Some}
use Rattle.std.specs.Cmp.{IsTotalOrder}
use Rattle.std.specs.FinMap as maps
use Rattle.std.specs.Ordering.{eq_by_cmp}
use Rattle.std.specs.declared.cmp.Ordering.{Ordering}
use Rattle.rpg_program.specs.Effect.{Effect}
use Rattle.rpg_program.specs.Forms.{has_field}
use Rattle.rpg_program.specs.Input.{TypeRow}
use Rattle.rpg_program.specs.Lines.{Line}
use Rattle.rpg_program.specs.Operate.{with_operands}
use Rattle.rpg_program.specs.Ended.{Ended}
use Rattle.rpg_program.specs.World.{Data, Fields, World, value_in}
use Rattle.rpg_program.specs.declared.form.FieldForm.{FieldForm}
use Rattle.rpg_program.specs.declared.input.InputField.{InputField}
use Rattle.rpg_program.specs.declared.line.Editing.{Editing}
use Rattle.rpg_program.specs.declared.line.Editing.TheVariants as editings
use Rattle.rpg_program.specs.declared.line.LineField.{LineField}
use Rattle.rpg_program.specs.declared.operation.Action.{Action}
use Rattle.rpg_program.specs.declared.operation.Action.TheVariants.{Compute, Divide, Assign, TakeRemainder, CrossFoot, Compare, LookUp, Move, SetIndicators}
use Rattle.rpg_program.specs.declared.operation.Entry.{Entry}
use Rattle.rpg_program.specs.declared.operation.Index.{Index}
use Rattle.rpg_program.specs.declared.operation.Index.TheVariants.{Blank, Literal, Field}
use Rattle.rpg_program.specs.declared.operation.Operand.{Operand}

-- ---- the same words at another key

-- an index with its field renamed
abbrev pub renamed_index : {K L : Type 0} → (K → L) → Index K → Index L
renamed_index at Blank = Blank
renamed_index at (Literal n) = Literal n
renamed_index at (Field k) = Field (at k)

-- an operand with its fields renamed
abbrev pub renamed_operand : {K L : Type 0} → (K → L) → Operand K → Operand L
renamed_operand at o = record { field = at o.field; index = renamed_index at o.index }

-- an entry with its fields renamed
abbrev pub renamed_entry : {K L : Type 0} → (K → L) → Entry K → Entry L
renamed_entry at e = record { field = at e.field; index = renamed_index at e.index; position = e.position }

-- an action with its fields renamed
abbrev pub renamed_action : {K L : Type 0} → (K → L) → Action (Operand K) → Action (Operand L)
renamed_action at a = with_operands (renamed_operand at) a

-- an edit word's field renamed
abbrev pub renamed_editing : {K L : Type 0} → (K → L) → Editing K → Editing L
renamed_editing at editings.Plain = editings.Plain
renamed_editing at (editings.Code c) = editings.Code c
renamed_editing at (editings.Word k) = editings.Word (at k)

-- an output field with its fields renamed
abbrev pub renamed_field : {K L : Type 0} → (K → L) → LineField K → LineField L
renamed_field at f = record {
  source = f.source;
  operand = renamed_operand at f.operand;
  editing = renamed_editing at f.editing;
  fill = f.fill;
  is_blanked = f.is_blanked;
  end = f.end;
  conditions = f.conditions;
}

-- a line with its fields renamed
abbrev pub renamed_line : {K L : Type 0} → (K → L) → Line K → Line L
renamed_line at l = record {
  file = l.file;
  time = l.time;
  len = l.len;
  spacing = l.spacing;
  alternatives = l.alternatives;
  fields = map (renamed_field at) l.fields;
}

-- an input field with its field renamed
abbrev pub renamed_input : {K L : Type 0} → (K → L) → InputField K → InputField L
renamed_input at f = record { from = f.from; to = f.to; field = at f.field; shows = f.shows }

-- a record type with its fields renamed
abbrev pub renamed_type : {K L : Type 0} → (K → L) → TypeRow K → TypeRow L
renamed_type at t = record { file = t.file; indicator = t.indicator; codes = t.codes; levels = t.levels; inputs = map (renamed_input at) t.inputs; matches = t.matches }

-- ---- what has a form by the old names

module _ {K : Type 0} (forms : K → Option FieldForm) where
  -- there is a field of that name
  abbrev pub HasField : K → Type 0
  HasField k = has_field (forms k) ≡ true

  -- the index names a field that there is, or none
  abbrev pub HasIndex : Index K → Type 0
  HasIndex Blank = Unit {0}
  HasIndex (Literal n) = Unit {0}
  HasIndex (Field k) = HasField k

  -- the field and the index of an operand have forms
  abbrev pub IsNamed : Operand K → Type 0
  IsNamed o = HasField o.field × HasIndex o.index

  -- all that an operation uses is named
  abbrev pub Uses : Action (Operand K) → Type 0
  Uses (Compute g half a b c s) = IsNamed a × IsNamed b × IsNamed c
  Uses (Divide half a b c s) = IsNamed a × IsNamed b × IsNamed c
  Uses (Assign negated half b c s) = IsNamed b × IsNamed c
  Uses (TakeRemainder c s) = IsNamed c
  Uses (CrossFoot half b c s) = IsNamed b × IsNamed c
  Uses (Compare a b s) = IsNamed a × IsNamed b
  Uses (LookUp a b None s) = IsNamed a × IsNamed b × Unit {0}
  Uses (LookUp a b (Some c) s) = IsNamed a × IsNamed b × IsNamed c
  Uses (Move side b c) = IsNamed b × IsNamed c
  Uses (SetIndicators is_on s) = Unit {0}

  -- all that lines output is named
  abbrev pub AreNamed : List (Line K) → Type 0
  AreNamed ls = All (λ (l : Line K). All (λ (f : LineField K). IsNamed f.operand) l.fields) ls

-- ---- what a renaming keeps

module _ {K L : Type 0} (R : K → K → Ordering) (S : L → L → Ordering) where
  -- Forms are kept, and a key that has a form shares its new key with no other.
  pub record IsRenaming (old : K → Option FieldForm) (new : L → Option FieldForm) (at : K → L) : Type 0 where
    pub old_total : IsTotalOrder R
    pub new_total : IsTotalOrder S
    pub forms : (k : K) → new (at k) ≡ old k
    pub apart : (j k : K) → has_field (old k) ≡ true → eq_by_cmp S (at j) (at k) ≡ eq_by_cmp R j k

module _ {K L : Type 0} {R : K → K → Ordering} {S : L → L → Ordering} (old : K → Option FieldForm) (at : K → L) where
  -- each entry of what has a form has one value by both names, and each table one current entry
  pub record AgreeFields (v : Fields R) (w : Fields S) : Type 0 where
    pub values : (k : K) → has_field (old k) ≡ true → (n : ℕ) → value_in w (at k, n) ≡ value_in v (k, n)
    pub current : (k : K) → has_field (old k) ≡ true → maps.get w.current (at k) ≡ maps.get v.current k

  -- and all other data are the same
  pub record AgreeData (v : Data R) (w : Data S) : Type 0 where
    pub fields : AgreeFields v.fields w.fields
    pub on : w.on ≡ v.on
    pub remainder : w.remainder ≡ v.remainder

  -- data that agree, and one paper
  pub record Agree (v : World R) (w : World S) : Type 0 where
    pub «data» : AgreeData v.data w.data
    pub paper : w.paper ≡ v.paper

  -- two operations or input fields end alike, and leave data that agree
  pub record SameEnd (d : Ended R) (e : Ended S) : Type 0 where
    pub ending : e.ending ≡ d.ending
    pub «data» : AgreeData d.data e.data

  -- two effects end alike, leave worlds that agree, and output the same
  pub record SameEffect (d : Effect R) (e : Effect S) : Type 0 where
    pub ending : e.ending ≡ d.ending
    pub world : Agree d.world e.world
    pub lines : e.lines ≡ d.lines
    pub records : e.records ≡ d.records
