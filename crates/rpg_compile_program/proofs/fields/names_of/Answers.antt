use Rattle.std.proofs.Common.{◌∙◌, subst}
use Rattle.rpg_compile_program.proofs.LoadedLemmas.{same_values}
use Rattle.rpg_compile_program.specs.Loaded.{HasSameData}
use Rattle.rpg_compile_program.specs.Data.{loaded}
use Rattle.rpg_compile_program.specs.Table.{defined_fields}
use Rattle.rpg_compile_program.proofs.fields.names_of.Goals as goal

pub returns : goal.returns
returns c =
    let rows = c.in_ok-rows.ensures in
    let same = subst (λ cs. HasSameData c.in_ok-loaded.loaded (loaded cs)) c.as_slice.ensures c.in_ok-loaded.ensures in
    record {
      forms = rows.forms;
      values = rows.values ∙ same_values c.in_ok-loaded.loaded (loaded c.args.source.now) (defined_fields c.args.source.now) same;
    }
