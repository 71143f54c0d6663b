use Rattle.std.proofs.Common.{◌≡◌, List, None, Some, subst}
use Rattle.std.specs.Prelude.{IfOk}
use Rattle.rpg_program.specs.Values.{Value, entries_held}
use Rattle.rpg_compile_program.proofs.LoadedLemmas.{field_found}
use Rattle.rpg_compile_program.proofs.loaded.Loaded.values_of.Goals as goal

pub returns-in-Some : goal.returns-in-Some
returns-in-Some c =
    subst (λ (x : List Value). IfOk c.values.result (λ v. entries_held v ≡ x))
    (field_found c.self.inside.tables.entries c.args.self.now c.self.view_is c.args.name.now c.args.form.now (Some c.in-Some.table.now) c.in-Some.ensures.value) c.values.ensures

pub returns-in-None : goal.returns-in-None
returns-in-None c =
    subst (λ (x : List Value). IfOk c.empty_values-in-None.result (λ v. entries_held v ≡ x))
    (field_found c.self.inside.tables.entries c.args.self.now c.self.view_is c.args.name.now c.args.form.now None c.in-None.ensures.value) c.empty_values-in-None.ensures
