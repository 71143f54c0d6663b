use Rattle.std.proofs.Common.{◌∙◌, ap}
use Rattle.std.specs.Cmp.Lexicographic.{pointwise}
use Rattle.std.specs.Option.{option_map}
use Rattle.std.specs.Prelude.{nat_eq}
use Rattle.rpg_faults_limits.proofs.FileLemmas.{placed, use_found}
use Rattle.rpg_faults_limits.specs.FileCauses.{placed_file}
use Rattle.rpg_faults_limits.specs.declared.files.FileOnCard.{FileOnCard}
use Rattle.rpg_faults_limits.proofs.files.file_named.Goals as goal

pub returns-clause-file : goal.returns-clause-file
returns-clause-file c = c.file_at.ensures ∙ ap (placed_file c.args.source.now) c.file_place.ensures ∙ placed c.args.name.now c.args.source.now

pub returns-clause-use_known : goal.returns-clause-use_known
returns-clause-use_known c =
    ap (option_map (λ (f : FileOnCard). f.serves_as)) (c.file_at.ensures ∙ ap (placed_file c.args.source.now) c.file_place.ensures ∙ placed c.args.name.now c.args.source.now)
    ∙ use_found (λ f. pointwise nat_eq c.args.name.now f.name) c.args.source.now
