use Rattle.std.proofs.Common.{◌+◌, subst, sym}
use Rattle.std.proofs.lemmas.Result.{on_ok_weaker}
use Rattle.rpg_compile_program.proofs.FieldLemmas.{with_field}
use Rattle.rpg_compile_program.proofs.PlaceLemmas.{next_name, next_same}
use Rattle.rpg_compile_program.specs.Names.{AreFieldsOf, names_up_to}
use Rattle.rpg_compile_program.proofs.names.FieldRows.add_name_if_first.Goals as goal

pub returns-then-not-is_first_name : goal.returns-then-not-is_first_name
returns-then-not-is_first_name c was =
    let cards = c.args.source.now in
    let d = c.args.definition.now in
    let fresh = c.is_first_name.ensures d c.requires.stands in
    subst (λ fields. AreFieldsOf c.args.loaded.now fields c.args.self.now) (sym (next_same cards c.args.place d c.is_first_name.result c.requires.defined c.requires.stands fresh c.if-not-is_first_name.true)) was

pub returns : goal.returns
returns c =
    let cards = c.args.source.now in
    let place = c.args.place in
    let d = c.args.definition.now in
    let fresh = c.is_first_name.ensures d c.requires.stands in
    let longer = next_name cards place d c.in-Some.form c.is_first_name.result c.requires.defined c.requires.stands c.in-Some.is fresh c.if-not-is_first_name.false in
    on_ok_weaker c.add_name.result (λ adds was. with_field c.args.loaded.now (names_up_to cards place) (names_up_to cards (place + 1)) d.name c.in-Some.form c.args.self.now c.add_name.new.self adds longer was) c.add_name.ensures
