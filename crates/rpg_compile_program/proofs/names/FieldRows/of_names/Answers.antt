use Rattle.std.proofs.Common.{◌+◌, take}
use Rattle.rpg_compile_program.proofs.FieldLemmas.{with_field}
use Rattle.rpg_compile_program.proofs.PlaceLemmas.{more_taken}
use Rattle.rpg_compile_program.proofs.names.FieldRows.of_names.Goals as goal

pub loop-place-preserved : goal.loop-place-preserved
loop-place-preserved c =
    let names = c.args.names.now in
    let place = c.loop-place.place in
    let name = c.at.result.0.now in
    let form = c.at.result.1.now in
    with_field c.args.loaded.now (take place names) (take (place + 1) names) name form c.loop-place.fields c.add_name.new.self c.in_ok-add_name.ensures (more_taken names place (name, form) c.at.ensures) c.loop-place.invariant
