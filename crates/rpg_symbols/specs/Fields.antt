-- Names in the order of their first definitions.
use denote.Enum.Bare.{sameb}
use mathlib.Core.Bool.{beq}
use Rattle.std.specs.Prelude.{ℕ, ◌+◌, ◌&&◌, ◌==◌, Bool, List, [], ◌∷◌, false, Option, sum_by, position, nat_eq, codes}
use Rattle.std.specs.Option.{option_map}
use Rattle.std.specs.Map.{lookup, keys_of}
use Rattle.std.specs.Cmp.Lexicographic.{pointwise}
use Rattle.rpg_program.specs.Forms.{size_of}
use Rattle.rpg_program.specs.contracts.form.Class as classes
use Rattle.rpg_program.specs.contracts.form.Kind as kinds
use Rattle.rpg_program.specs.declared.form.FieldForm.{FieldForm}
use Rattle.rpg_program.specs.declared.form.Kind.TheVariants as kind
use Rattle.rpg_program.specs.declared.form.Class.{Class}
use Rattle.rpg_program.specs.declared.form.Class.TheVariants as class

-- the names that are defined, in order, each with its form
abbrev pub NamedForms : Type 0
NamedForms = List (List ℕ × FieldForm)

-- a number with this many digits and no decimals
abbrev pub number_form : Class → ℕ → FieldForm
number_form c n = record { kind = kind.Number; class = c; length = n; decimals = 0; is_ascending = false; entries = 1 }

-- the job's date and the page number, which every program has
abbrev pub given : NamedForms
given = (codes "UDATE", number_form class.Date 6) ∷ (codes "PAGE", number_form class.Plain 4) ∷ []

-- the number of a name is the place of its first definition, counted from 1
abbrev pub number_of_name : NamedForms → List ℕ → Option ℕ
number_of_name fields name = option_map (λ i. i + 1) (position (pointwise nat_eq name) (keys_of fields))

-- the form of its first definition
abbrev pub defined_form : NamedForms → List ℕ → Option FieldForm
defined_form fields name = lookup (pointwise nat_eq name) fields

-- two forms that agree in every part
abbrev pub same_form : FieldForm → FieldForm → Bool
same_form f g =
    sameb kinds.the_type f.kind g.kind && sameb classes.the_type f.class g.class && f.length == g.length && f.decimals == g.decimals
    && beq f.is_ascending g.is_ascending && f.entries == g.entries

-- the characters that fields take in storage, all together
abbrev pub storage : NamedForms → ℕ
storage fields = sum_by (λ (f : List ℕ × FieldForm). size_of f.1) fields
