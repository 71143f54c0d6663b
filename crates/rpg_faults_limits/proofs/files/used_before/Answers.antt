use Rattle.std.proofs.Common.{◌∙◌, ap, sym}
use Rattle.std.specs.Option.{is_some}
use Rattle.std.specs.Prelude.{option_copied}
use Rattle.rpg_cards.specs.Files.{file_for, file_use, same_use}
use Rattle.rpg_faults_limits.proofs.FileLemmas.{none_found}
use Rattle.rpg_faults_limits.proofs.files.used_before.Goals as goal

pub returns-in_err-file_for-clause-file : goal.returns-in_err-file_for-clause-file
returns-in_err-file_for-clause-file c =
    let wanted = c.args.serves_as in
    let none = sym (none_found (λ f. same_use wanted (file_use f)) c.args.before.now
    (ap (λ cs. is_some (file_for wanted cs)) (sym c.requires) ∙ ap is_some (sym c.file_for.ensures) ∙ ap (λ o. is_some (option_copied o)) c.in_err-file_for.was)) in cc
