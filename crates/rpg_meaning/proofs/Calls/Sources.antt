-- The calls of a source.
use Rattle.std.proofs.Common.{ℕ, ◌-◌, ◌<◌, List, length, arith}
use Rattle.rpg_meaning.specs.Calls.Chains.{HasChains}
use Rattle.rpg_cards.specs.Plain.{calls_of}
use Rattle.rpg_cards.specs.declared.spec_card.SpecCard.{SpecCard}
use Rattle.rpg_compile_program.proofs.Flow.{plain}
use Rattle.rpg_compile_program.proofs.Heights.{callers_below, chain_short}
use Rattle.rpg_compile_program.specs.Levels.{subroutine_level}
use Rattle.rpg_compile_program.specs.Program.{sections}
use Rattle.rpg_compile_program.specs.Rules.{KeepsCardRules}
use Rattle.rpg_faults_flow.proofs.Facts.{each_fact}
use Rattle.rpg_faults_flow.proofs.Joined.{calls_are}
use Rattle.rpg_symbols.proofs.Chains.{is_level}
use Rattle.rpg_symbols.specs.Chains.{IsCallLevel, NoCallLeadsBack}

module _ (cards : List SpecCard) (rules : KeepsCardRules cards) where
  forward : NoCallLeadsBack (calls_of (sections cards).subroutines)
  forward = (plain cards rules).forward

  level : (s : ℕ) → s < length (sections cards).subroutines → IsCallLevel (calls_of (sections cards).subroutines) s (subroutine_level (sections cards).subroutines s)
  level s low =
      is_level (calls_of (sections cards).subroutines) (length (sections cards).subroutines - 1) s
      (λ chain h. let short = chain_short (calls_of (sections cards).subroutines) (length (sections cards).subroutines) forward (callers_below (sections cards).subroutines) s chain low h in omega arith)

  pub has_chains : HasChains cards
  has_chains = record {
    same_calls = calls_are cards (each_fact cards rules.f9 rules.f12 rules.f10 rules.f13 rules.f14);
    forward = forward;
    levels = level;
  }
