use Rattle.std.proofs.Common.{◌≤◌, List, length, subst, sym}
use Rattle.rpg_cards.specs.declared.spec_card.SpecCard.{SpecCard}
use Rattle.rpg_compile.proofs.Kept.{keeps_rules}
use Rattle.rpg_compile.specs.Limits.{HasProgram}
use Rattle.rpg_faults.specs.Faults.{Faultless}
use Rattle.rpg_compile.proofs.program.translate.Goals as goal

pub program_of-requires-clause-kept : goal.program_of-requires-clause-kept
program_of-requires-clause-kept c =
    let cards = c.as_slice-cards.result.now in
    let same = c.as_slice-cards.ensures in
    let faultless : Faultless cards = subst Faultless (sym same) c.requires.faultless in
    let rules = keeps_rules cards faultless in
    let few = subst (λ (cs : List SpecCard). length cs ≤ 2000) (sym same) c.requires.few in
    subst (λ (cs : List SpecCard). HasProgram cs c.args.allowance) same record {
      limits = c.faultless_sources_keep_limits.ensures faultless few;
      sizes = rules.f3;
      values = c.faultless_sources_fill_their_fields.ensures faultless;
      accepted = c.faultless_sources_are_accepted.ensures c.args.allowance faultless;
    }
