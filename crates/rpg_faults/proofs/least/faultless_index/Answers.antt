use Rattle.std.proofs.Common.{◌∙◌, ap, subst}
use Rattle.std.specs.Prelude.{MatchOption}
use Rattle.rpg_card_index.specs.Index.{IsIndexOf}
use Rattle.rpg_faults.specs.Faults.{Faultless, IsLeastFault, least_fault}
use Rattle.rpg_faults.specs.declared.fault.Fault.{Fault}
use Rattle.rpg_faults.proofs.LeastLemmas.{least}
use Rattle.rpg_faults.proofs.least.faultless_index.Goals as goal

pub returns-in-Some : goal.returns-in-Some
returns-in-Some c =
    let cards = c.args.cards.now in
    let judged : MatchOption c.least_fault-fault.result (Faultless cards) (λ (f : Fault). IsLeastFault cards f) =
    rw (c.least_fault-fault.ensures ∙ ap least_fault (c.in_ok-analyzed.ensures ∙ c.in_ok-source.ensures)) (least cards c.requires.numbered) in
    rw c.in-Some.is at judged

pub returns-in-None : goal.returns-in-None
returns-in-None c =
    let cards = c.args.cards.now in
    let judged : MatchOption c.least_fault-fault.result (Faultless cards) (λ (f : Fault). IsLeastFault cards f) =
    rw (c.least_fault-fault.ensures ∙ ap least_fault (c.in_ok-analyzed.ensures ∙ c.in_ok-source.ensures)) (least cards c.requires.numbered) in
    (rw c.in-None.is at judged, subst (IsIndexOf c.into_index.result) c.in_ok-source.ensures c.into_index.ensures)
