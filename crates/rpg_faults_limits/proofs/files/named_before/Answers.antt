use Rattle.std.proofs.Common.{◌∙◌, ap, sym}
use Rattle.std.specs.Cmp.Lexicographic.{pointwise}
use Rattle.std.specs.Option.{is_some}
use Rattle.std.specs.Prelude.{nat_eq, option_copied}
use Rattle.rpg_cards.specs.Files.{file_named}
use Rattle.rpg_faults_limits.proofs.FileLemmas.{none_found}
use Rattle.rpg_faults_limits.proofs.files.named_before.Goals as goal

pub returns-in_err-file_named-clause-file : goal.returns-in_err-file_named-clause-file
returns-in_err-file_named-clause-file c =
    let name = c.args.name.now in
    let none = sym (none_found (λ f. pointwise nat_eq name f.name) c.args.before.now
    (ap (λ cs. is_some (file_named name cs)) (sym c.requires) ∙ ap is_some (sym c.file_named.ensures) ∙ ap (λ o. is_some (option_copied o)) c.in_err-file_named.was)) in cc
