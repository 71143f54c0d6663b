use Rattle.std.proofs.Common.{◌∙◌, ap, arith, subst}
use Rattle.std.specs.Cmp.Lexicographic.{pointwise}
use Rattle.std.specs.Map.{keys_of}
use Rattle.std.specs.Prelude.{Option, nat_eq, position}
use Rattle.rpg_compile_program.proofs.PlaceLemmas.{field_place, place_few}
use Rattle.rpg_compile_program.specs.Numbered.{AreFormed}
use Rattle.rpg_compile_program.specs.Table.{Table, defined_fields}
use Rattle.rpg_symbols.specs.Fields.{NamedForms}
use Rattle.rpg_compile_program.proofs.table.FieldTable.name_place.Goals as goal

pub returns-in-None-clause-value : goal.returns-in-None-clause-value
returns-in-None-clause-value c =
    let cards = c.self.inside.source.now in
    let defined = subst (λ (o : Option NamedForms). AreFormed o cards) c.in-None.is c.self.invariant.formed in
    c.name_place.ensures ∙ field_place cards c.args.name.now defined ∙ ap (λ (t : Table). position (pointwise nat_eq c.args.name.now) (keys_of t.names)) c.self.view_is

pub returns-in-None-clause-few : goal.returns-in-None-clause-few
returns-in-None-clause-few c =
    let cards = c.self.inside.source.now in
    let defined = subst (λ (o : Option NamedForms). AreFormed o cards) c.in-None.is c.self.invariant.formed in
    let few = c.self.invariant.few in
    place_few c.args.name.now (defined_fields cards) c.name_place.result (c.name_place.ensures ∙ field_place cards c.args.name.now defined) (omega arith)
