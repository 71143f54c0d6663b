-- The record types of a file.
use Rattle.std.specs.Prelude.{ℕ, ◌+◌, ◌-◌, ◌==◌, List, [], ◌∷◌, ◌++◌, length, nat_le, Bool, true, false, ◌&&◌, ◌||◌, not, codes, Option, Some, None, is_some, option_and_then, Result, Ok, Err, if◌then◌else◌}
use Rattle.std.specs.List.{list_any}
use Rattle.std.specs.Option.{option_to_list}
use Rattle.std.specs.Str.{bytes_eq}
use Rattle.rpg_sheet_specs.specs.Columns.{cols}
use Rattle.rpg_sheet_specs.specs.Tables.{input_card}
use Rattle.rpg_sheet_specs.specs.Values.{one_of}
use Rattle.rpg_sheet_specs.specs.declared.indicator.Three.{Three}
use Rattle.rpg_sheet_specs.specs.declared.input.InputFieldSpec.{InputFieldSpec}
use Rattle.rpg_sheet_specs.specs.declared.input.InputSpec.{InputSpec}
use Rattle.rpg_sheet_specs.specs.declared.input.InputSpec.TheVariants as input
use Rattle.rpg_sheet_specs.specs.declared.input.RecordCode.{RecordCode}
use Rattle.rpg_text.specs.Texts.{all_blank, is_between}
use Rattle.rpg_records.specs.Fields.{digit_count, is_field_size}
use Rattle.rpg_records.specs.Seen.{NumberSeen}
use Rattle.rpg_records.specs.declared.layout.Code.{Code}
use Rattle.rpg_records.specs.declared.layout.NumberForm.{NumberForm}
use Rattle.rpg_records.specs.declared.layout.NumberForm.TheVariants as forms
use Rattle.rpg_record_decks.specs.Edits.{with_columns}
use Rattle.rpg_record_decks.specs.Files.{file_name, or_columns}
use Rattle.rpg_record_decks.specs.Outcomes.{and_then, at_card, onto, unless_fault}
use Rattle.rpg_record_decks.specs.declared.deck.DeckCard.{DeckCard}
use Rattle.rpg_record_decks.specs.declared.fault.CardFault.{CardFault}
use Rattle.rpg_record_decks.specs.declared.fault.CardFault.TheVariants as faults
use Rattle.rpg_record_decks.specs.declared.fault.DeckFault.{DeckFault}
use Rattle.rpg_record_decks.specs.declared.fields.FieldColumns.{FieldColumns}

-- ---- the cards of a file

-- a card of this sheet
abbrev pub is_on_sheet : List ℕ → List ℕ → Bool
is_on_sheet sheet card = bytes_eq (cols 6 6 card) sheet

-- AND and OR cards go on with the card before them
abbrev pub goes_on : List ℕ → Bool
goes_on card = all_blank (cols 7 13 card) && (bytes_eq (cols 14 16 card) (codes "AND") || bytes_eq (cols 14 15 card) (codes "OR"))

-- whether an I or an O card is one of the file of this name: those that go on and cards without a name are if the card before them is
abbrev pub is_of_file : List ℕ → Bool → List ℕ → Bool
is_of_file name before card = if goes_on card || length (file_name card) == 0 then before else bytes_eq (file_name card) name

-- the cards of a sheet, I or O, of the file of this name, after one that is its or not
abbrev pub cards_of_file : List ℕ → List ℕ → Bool → List DeckCard → List DeckCard
cards_of_file sheet name before [] = []
cards_of_file sheet name before (c ∷ cs) =
    if not (is_on_sheet sheet c.card) then cards_of_file sheet name before cs
    else if is_of_file name before c.card then c ∷ cards_of_file sheet name true cs
    else cards_of_file sheet name false cs

-- ---- the meaning of such a card

-- P or B in this column, 43 of I and 44 of O: the bytes of the card's field are a number
abbrev pub number_form_on : ℕ → List ℕ → Option NumberForm
number_form_on column card = one_of ((codes "P", forms.Packed) ∷ (codes "B", forms.Binary) ∷ []) (cols column column card)

-- the meaning of an I card: rpg2 reads it with a blank instead of P or B
abbrev pub input_spec_of : List ℕ → Result InputSpec CardFault
input_spec_of card = or_columns (input_card.reading (if is_some (number_form_on 43 card) then with_columns 43 (32 ∷ []) card else card))

-- ---- a record type

-- its card, its codes, all its fields, and those of packed or binary bytes, each in the order of the cards
pub record TypeRead : Type 0 where
  pub card : ℕ
  pub codes : List Code
  pub fields : List FieldColumns
  pub numbers : List NumberSeen

-- as it begins
abbrev pub new_type : ℕ → TypeRead
new_type card = record { card = card; codes = []; fields = []; numbers = [] }

-- ---- codes

-- a record code with its place counted from 0
abbrev pub layout_code : RecordCode → Code
layout_code c = record { place = c.position - 1; is_negated = c.negated; character = c.character }

-- codes with one more, whose position must be in the record
abbrev pub with_code : ℕ → List Code → Option RecordCode → Result (List Code) CardFault
with_code length cs None = Ok cs
with_code length cs (Some c) = if is_between 1 length c.position then Ok (cs ++ layout_code c ∷ []) else Err faults.Outside

-- codes with those of a card
abbrev pub with_three : ℕ → List Code → Three (Option RecordCode) → Result (List Code) CardFault
with_three length cs three = and_then (and_then (with_code length cs three.first) (λ ds. with_code length ds three.second)) (λ es. with_code length es three.third)

-- the record type with the codes of one more card
abbrev pub with_codes : ℕ → TypeRead → Three (Option RecordCode) → Result TypeRead CardFault
with_codes length t three = and_then (with_three length t.codes three) (λ cs. Ok (record { card = t.card; codes = cs; fields = t.fields; numbers = t.numbers }))

-- ---- fields

-- the columns of a field, and what it has there
abbrev pub field_columns : Option NumberForm → InputFieldSpec → FieldColumns
field_columns form f = record { first = f.from; last = f.to; form = form; has_decimals = is_some f.decimals }

-- its columns are in a record of this length
abbrev pub is_inside : ℕ → FieldColumns → Bool
is_inside length f = nat_le 1 f.first && nat_le f.first f.last && nat_le f.last length

-- why a field can't be packed or binary
abbrev pub number_fault : FieldColumns → NumberForm → Option CardFault
number_fault f form =
    if not f.has_decimals then Some faults.NoDecimals
    else if not (is_field_size form (f.last + 1 - f.first)) then Some faults.Size
    else None

-- two fields share a column
abbrev pub overlaps : FieldColumns → FieldColumns → Bool
overlaps f g = nat_le f.first g.last && nat_le g.first f.last

-- the bytes of one are a number, and of the other characters
abbrev pub differ : FieldColumns → FieldColumns → Bool
differ f g = if is_some f.form then not (is_some g.form) else is_some g.form

-- a column is one of characters and of a packed or binary field
abbrev pub shared_fault : TypeRead → FieldColumns → Option CardFault
shared_fault t f = if list_any (λ g. overlaps f g && differ f g) t.fields then Some (faults.Shared t.card) else None

-- a type with the columns of one more field
abbrev pub with_columns_of : TypeRead → FieldColumns → Result TypeRead CardFault
with_columns_of t f = unless_fault (shared_fault t f) (record { card = t.card; codes = t.codes; fields = t.fields ++ f ∷ []; numbers = t.numbers })

-- a packed or binary field, by its card's number
abbrev pub number_on_card : ℕ → FieldColumns → NumberForm → NumberSeen
number_on_card n f form = record { card = n; first = f.first; last = f.last; form = form; digits = digit_count form (f.last - f.first + 1) }

-- a type with a field's number, if it is packed or binary
abbrev pub with_field_number : ℕ → FieldColumns → Option NumberForm → TypeRead → TypeRead
with_field_number n f None t = t
with_field_number n f (Some form) t = record { card = t.card; codes = t.codes; fields = t.fields; numbers = t.numbers ++ number_on_card n f form ∷ [] }

-- a type with one more field
abbrev pub with_type_field : ℕ → TypeRead → FieldColumns → Result TypeRead CardFault
with_type_field n t f = and_then (unless_fault (option_and_then (number_fault f) f.form) t) (λ t. and_then (with_columns_of t f) (λ t. Ok (with_field_number n f f.form t)))

-- ---- all cards

-- the type that a field's card continues, if there is one
abbrev pub field_type : ℕ → Option TypeRead → FieldColumns → Result TypeRead CardFault
field_type n None f = Err (faults.Columns 7 16)
field_type n (Some t) f = with_type_field n t f

-- the type that an AND card continues, if there is one
abbrev pub and_type : ℕ → Option TypeRead → Three (Option RecordCode) → Result TypeRead CardFault
and_type length None three = Err (faults.Columns 14 16)
and_type length (Some t) three = with_codes length t three

-- the type that a card begins or continues
abbrev pub type_after : ℕ → Option TypeRead → DeckCard → InputSpec → Result TypeRead CardFault
type_after length now c (input.Type t) = with_codes length (new_type c.number) t.codes
type_after length now c (input.And three) = and_type length now three
type_after length now c (input.Field f) =
    if is_inside length (field_columns (number_form_on 43 c.card) f) then field_type c.number now (field_columns (number_form_on 43 c.card) f) else Err faults.Outside

-- the type that a card ends
abbrev pub type_before : Option TypeRead → InputSpec → List TypeRead
type_before now (input.Type t) = option_to_list now
type_before now (input.And three) = []
type_before now (input.Field f) = []

-- the types of cards that follow a type, if they follow one
abbrev pub types_read_after : ℕ → Option TypeRead → List DeckCard → Result (List TypeRead) DeckFault
types_read_after length now [] = Ok (option_to_list now)
types_read_after length now (c ∷ cs) =
    and_then (at_card c.number (input_spec_of c.card)) (λ spec.
    and_then (at_card c.number (type_after length now c spec)) (λ t. onto (type_before now spec) (types_read_after length (Some t) cs)))

-- the types of a file's cards, whose records have this length
abbrev pub types_read : ℕ → List DeckCard → Result (List TypeRead) DeckFault
types_read length cards = types_read_after length None cards
