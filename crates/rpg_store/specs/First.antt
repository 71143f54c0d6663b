-- What a program starts with.
use Rattle.std.specs.Prelude.{ℕ, ◌+◌, List, [], ◌∷◌, if◌then◌else◌}
use Rattle.std.specs.List.{flat_map}
use Rattle.std.specs.FinMap as map
use Rattle.rpg_program.specs.Forms.{is_table}
use Rattle.rpg_program.specs.Values.{Value}
use Rattle.rpg_program.specs.declared.form.FieldForm.{FieldForm}
use Rattle.rpg_program.specs.Object.{Object}
use Rattle.rpg_store.specs.Contents.{by_entry}
use Rattle.rpg_store.specs.Store.{Currents, Values}

-- the values of all fields, one after another
abbrev pub joined_values : List (List Value) → List Value
joined_values values = flat_map (λ vs. vs) values

-- the first values of a program
abbrev pub first_contents : Object → Values
first_contents p = by_entry p.fields (joined_values p.values)

-- tables, each with its first entry; fields are numbered from here on
abbrev pub tables_from : ℕ → List FieldForm → List (ℕ × ℕ)
tables_from field [] = []
tables_from field (f ∷ fs) = if is_table f.class then (field, 1) ∷ tables_from (field + 1) fs else tables_from (field + 1) fs

-- the current entries that a program starts with: the first one of each table
unfoldable pub first_currents : Object → Currents
first_currents p = map.from_entries (tables_from 1 p.fields)
