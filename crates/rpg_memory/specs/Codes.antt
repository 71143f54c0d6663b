-- Codes of what a memory's model has.
use Rattle.std.specs.Prelude.{◌≡◌, ℕ, ℤ, Bool, List, ◌⊎◌, refl}
use Rattle.std.proofs.Common.{inl, inr}
use Rattle.std.specs.Coded.{Coded, code_by, coded×, coded_ℕ, coded_ℤ, coded_list, coded_bool, coded⊎}
use Rattle.std.specs.FinMap as map
use Rattle.std.specs.FinSet as set
use Rattle.std.specs.Ordering.{nat_cmp}
use Rattle.rpg_decimal_words.specs.Fraction.{Fraction}
use Rattle.rpg_paper.specs.Paper.{Position}
use Rattle.rpg_program.specs.Values.{Value, Number, Text}
use Rattle.rpg_program.specs.World.{Data, Fields, Paper, World}
use Rattle.rpg_store.specs.Store.{Currents, Values}

-- ---- worlds

-- a value as one of two types
abbrev value_to : Value → ℤ ⊎ List ℕ
value_to (Number n) = inl n
value_to (Text t) = inr t

-- a value again
abbrev value_of_code : ℤ ⊎ List ℕ → Value
value_of_code (inl n) = Number n
value_of_code (inr t) = Text t

pub value_law : (v : Value) → value_of_code (value_to v) ≡ v
value_law (Number n) = refl
value_law (Text t) = refl

-- the code of a value
abbrev pub value_code : Coded Value
value_code = code_by (ℤ ⊎ List ℕ) (coded⊎ coded_ℤ (coded_list coded_ℕ)) value_to value_of_code value_law

-- the code of the values of all entries
abbrev pub values_code : Coded Values
values_code = map.code (coded× coded_ℕ coded_ℕ) value_code

-- the code of all current entries
abbrev pub currents_code : Coded Currents
currents_code = map.code coded_ℕ coded_ℕ

-- fields as a pair
abbrev fields_to : Fields nat_cmp → Values × Currents
fields_to f = (f.values, f.current)

-- fields again
abbrev fields_from : Values × Currents → Fields nat_cmp
fields_from p = record { values = p.0; current = p.1 }

-- the code of fields
abbrev pub fields_code : Coded (Fields nat_cmp)
fields_code = code_by (Values × Currents) (coded× values_code currents_code) fields_to fields_from (λ _. refl)

-- a place on the paper as a pair
abbrev position_to : Position → ℕ × ℕ
position_to p = (p.page, p.line)

-- a place on the paper again
abbrev position_from : ℕ × ℕ → Position
position_from p = record { page = p.0; line = p.1 }

-- the code of a place on the paper
abbrev pub position_code : Coded Position
position_code = code_by (ℕ × ℕ) (coded× coded_ℕ coded_ℕ) position_to position_from (λ _. refl)

-- a fraction as a pair
abbrev fraction_to : Fraction → ℤ × ℕ
fraction_to p = (p.top, p.bottom)

-- a fraction again
abbrev fraction_from : ℤ × ℕ → Fraction
fraction_from p = record { top = p.0; bottom = p.1 }

-- the code of a fraction
abbrev pub fraction_code : Coded Fraction
fraction_code = code_by (ℤ × ℕ) (coded× coded_ℤ coded_ℕ) fraction_to fraction_from (λ _. refl)

-- the two overflow marks
abbrev pub marks_code : Coded (Bool × Bool)
marks_code = coded× coded_bool coded_bool

-- the parts of data
abbrev DataParts : Type 0
DataParts = Fields nat_cmp × (set.FinSet nat_cmp × Fraction)

-- data as their parts
abbrev data_to : Data nat_cmp → DataParts
data_to d = (d.fields, (d.on, d.remainder))

-- data again
abbrev data_from : DataParts → Data nat_cmp
data_from p = record { fields = p.0; on = p.1.0; remainder = p.1.1 }

-- the code of data
abbrev pub data_code : Coded (Data nat_cmp)
data_code = code_by DataParts (coded× fields_code (coded× (set.code coded_ℕ) fraction_code)) data_to data_from (λ _. refl)

-- the parts of a paper: where the form is, and the two overflow marks
abbrev PaperParts : Type 0
PaperParts = Position × (Bool × Bool)

-- a paper as its parts
abbrev paper_to : Paper → PaperParts
paper_to p = (p.here, (p.was_overflow, p.has_turned_on))

-- a paper again
abbrev paper_from : PaperParts → Paper
paper_from p = record { here = p.0; was_overflow = p.1.0; has_turned_on = p.1.1 }

-- the code of a paper
abbrev pub paper_code : Coded Paper
paper_code = code_by PaperParts (coded× position_code marks_code) paper_to paper_from (λ _. refl)

-- a world as a pair
abbrev world_to : World nat_cmp → Data nat_cmp × Paper
world_to w = (w.data, w.paper)

-- a world again
abbrev world_from : Data nat_cmp × Paper → World nat_cmp
world_from p = record { «data» = p.0; paper = p.1 }

-- the code of a world
abbrev pub world_code : Coded (World nat_cmp)
world_code = code_by (Data nat_cmp × Paper) (coded× data_code paper_code) world_to world_from (λ _. refl)
