use Rattle.std.proofs.Common.{◌≡◌, ap, subst, sym, ◌∙◌}
use Rattle.std.proofs.lemmas.Result.{IfOk-weaker}
use Rattle.rpg_faults.specs.Reported.{AreFaultsOf, reported_faults}
use Rattle.rpg_faults.proofs.ReportedLemmas.{reported}
use Rattle.rpg_faults.proofs.every.all_faults.Goals as goal

pub returns : goal.returns
returns c =
    let cards = c.args.cards.now in
    let source = c.in_ok-source-2.source.cards.now in
    IfOk-weaker c.faults_in.result (λ faults. faults.items ≡ reported_faults source) (λ faults. AreFaultsOf cards faults.items)
    (λ faults are. subst (AreFaultsOf cards) (sym (are ∙ ap reported_faults (c.in_ok-source-2.ensures ∙ c.in_ok-source.ensures))) (reported cards c.requires.numbered))
    c.faults_in.ensures
