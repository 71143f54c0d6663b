use Rattle.std.proofs.Common.{◌<◌, List, ℕ, length, ap, sym, subst, ◌∙◌}
use Rattle.std.proofs.lemmas.List.{length-map}
use Rattle.rpg_cycle_records.specs.Fitting.{IsTypeFit}
use Rattle.rpg_program.specs.Input.{TypeRow}
use Rattle.rpg_program.specs.Object.{type_row}
use Rattle.rpg_program.specs.declared.rows.RecordType.{RecordType}
use Rattle.rpg_cycle_records.proofs.Trying.{fits_at}
use Rattle.rpg_cycle_records.proofs.program.type_at.Goals as goal

pub returns-clause-fits : goal.returns-clause-fits
returns-clause-fits c =
    let inside : c.args.row < length c.types_of.result.now =
    subst (λ n. c.args.row < n) (sym (ap (λ (ts : List (TypeRow ℕ)). length ts) c.types_of.ensures.same) ∙ length-map c.types_of.result.now type_row) c.requires in
    subst (λ (t : RecordType). IsTypeFit c.args.program.now (type_row t)) (sym c.index-types_of-row.is)
    (fits_at c.args.program.now c.types_of.result.now c.args.row c.index-types_of-row.result c.types_of.ensures.fit inside)
