-- Keys: what identifies a value on the cards.
use Rattle.std.specs.Prelude.{ℕ, ℤ, pos, negsuc, List, [], ◌∷◌, Option, None, Some}
use Rattle.std.specs.Option.{option_map_or}
use Rattle.std.specs.Cmp.Lexicographic.{slice_cmp}
use Rattle.std.specs.Ordering.{nat_cmp, on}
use Rattle.std.specs.declared.cmp.Ordering.{Ordering}
use Rattle.rpg_cards.specs.Constants.{constant_of}
use Rattle.rpg_cards.specs.declared.constants.Constant.{Constant}
use Rattle.rpg_cards.specs.declared.constants.Constant.TheVariants as constant
use Rattle.rpg_program.specs.declared.operation.Index.{Index}
use Rattle.rpg_program.specs.declared.operation.Index.TheVariants as index
use Rattle.rpg_program.specs.declared.operation.Operand.{Operand}
use Rattle.rpg_sheet_specs.specs.declared.entry.Entry.{Entry}
use Rattle.rpg_sheet_specs.specs.declared.entry.EntryIndex.{EntryIndex}
use Rattle.rpg_sheet_specs.specs.declared.entry.EntryIndex.TheVariants as entry
use Rattle.rpg_sheet_specs.specs.declared.literal.Factor.{Factor}
use Rattle.rpg_sheet_specs.specs.declared.literal.Factor.TheVariants as factor

-- a name, a constant, or a blank column
pub data Key : Type 0 where
  Named : List ℕ → Key
  Fixed : Constant → Key
  Nowhere : Key  -- a blank column

-- ---- operands

-- an index on a card: blank, a number or a field
abbrev pub key_index : Option EntryIndex → Index Key
key_index None = index.Blank
key_index (Some (entry.Literal n)) = index.Literal n
key_index (Some (entry.Name x)) = index.Field (Named x)

-- the operand of a name with its index
abbrev pub entry_operand : Entry → Operand Key
entry_operand e = record { field = Named e.name; index = key_index e.index }

-- the operand in a factor
abbrev pub factor_operand : Factor → Operand Key
factor_operand (factor.Entry e) = entry_operand e
factor_operand (factor.Literal l) = record { field = Fixed (constant_of l); index = index.Blank }

-- the operand of a blank column
abbrev pub nowhere : Operand Key
nowhere = record { field = Nowhere; index = index.Blank }

-- ---- labels and subroutines: plain names

-- the name of a label or a subroutine
abbrev pub Name : Type 0
Name = List ℕ

-- the name in a factor that has no index
abbrev pub plain_name : Factor → Option Name
plain_name (factor.Literal l) = None
plain_name (factor.Entry e) = option_map_or (λ i. None) e.index (Some e.name)

-- ---- an order of keys, by their spelling

-- the sign and the magnitude of a number, before the rest
abbrev pub number_key : ℤ → List ℕ → List ℕ
number_key (pos n) rest = 0 ∷ n ∷ rest
number_key (negsuc n) rest = 1 ∷ n ∷ rest

-- a key as a list of numbers; no two keys have the same one
abbrev pub spelled : Key → List ℕ
spelled Nowhere = []
spelled (Named name) = 0 ∷ name
spelled (Fixed (constant.Text t)) = 1 ∷ t
spelled (Fixed (constant.Number n)) = 2 ∷ number_key n.value (n.length ∷ n.decimals ∷ [])

-- keys are ordered by their spelling
abbrev pub key_cmp : Key → Key → Ordering
key_cmp = on spelled (slice_cmp nat_cmp)
