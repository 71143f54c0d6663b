use Rattle.std.proofs.Common.{subst, ap, sym, [], ◌∷◌, ◌++◌, append_assoc, ◌∙◌, map}
use Rattle.std.specs.Option.{option_to_list}
use Rattle.rpg_card_index.specs.Index.{IsNameIndex}
use Rattle.rpg_cards.specs.Names.{definition_in}
use Rattle.rpg_sheet_specs.specs.declared.extension.TableSpec.{TableSpec}
use Rattle.std.specs.Prelude.{Option}
use Rattle.rpg_card_index.proofs.name_index.NameIndex.note_tables.Goals as goal

pub returns-in_ok-note-in-Some : goal.returns-in_ok-note-in-Some
returns-in_ok-note-in-Some c items is =
    let one = c.in_ok-note.ensures items is in
    let two = c.in_ok-note-in-Some.ensures _ one in
    let e = c.args.extension.now in
    let both =
    append_assoc items (c.table_definition.result ∷ []) (c.table_definition-in-Some.result ∷ []) ∙ ap (λ d. items ++ d ∷ c.table_definition-in-Some.result ∷ []) c.table_definition.ensures
    ∙ ap (λ d. items ++ definition_in e e.table ∷ d ∷ []) c.table_definition-in-Some.ensures
    ∙ ap (λ (o : Option TableSpec). items ++ definition_in e e.table ∷ map (definition_in e) (option_to_list o)) (sym c.in-Some.is) in
    subst (λ ds. IsNameIndex ds c.note-in-Some.new.self) both two
