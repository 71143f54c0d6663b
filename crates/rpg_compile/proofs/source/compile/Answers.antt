use Rattle.std.proofs.Common.{◌≡◌, List, subst}
use Rattle.rpg_cards.specs.declared.spec_card.SpecCard.{SpecCard}
use Rattle.rpg_faults.specs.Faults.{Faultless}
use Rattle.rpg_compile_program.specs.Program.{program_of}
use Rattle.rpg_compile.proofs.source.compile.Goals as goal

pub returns-clause-ok : goal.returns-clause-ok
returns-clause-ok c =
    let are = c.in_ok-faultless_cards.ensures.ok in
    let is = λ (cs : List SpecCard). c.in_ok-translate.field-0 ≡ program_of cs c.args.allowance in
    record {
      readable = are.readable;
      faultless = subst Faultless are.are are.faultless;
      program = subst is are.are (subst is c.into_parts-cards.ensures.cards (subst is c.deref.ensures.value (subst is c.over.ensures c.in_ok-translate.ensures.program)));
      accepted = c.in_ok-translate.ensures.accepted;
    }
