-- The date in a memory.
use Rattle.std.specs.Prelude.{ℕ, ℤ, List}
use Rattle.rpg_program.specs.declared.form.FieldForm.{FieldForm}
use Rattle.rpg_memory.specs.Memory.{Working, data_put}
use Rattle.rpg_cycle.specs.Starting.{dated}

-- the date is stored in each date field of these, which are numbered from here on
abbrev pub memory_dated : ℤ → ℕ → List FieldForm → Working → Working
memory_dated date field fs w = data_put (record w.world.data { fields = dated date field fs w.world.data.fields }) w
