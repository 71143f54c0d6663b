-- What faultless sources say of sections, in plain words, is what the rules on targets, calls, returns and levels need.
use Rattle.std.proofs.Common.{ℕ, suc, List, [], ◌∷◌, inl, inr}
use Rattle.rpg_program.specs.Object.{Object}
use Rattle.rpg_verify_rules.proofs.Kept.{NoneTrue}
use Rattle.rpg_verify_rules.specs.Rules.{broken}
use Rattle.rpg_verify_rules.specs.declared.rule.PlaceRule.TheVariants.{V21, V22}
use Rattle.rpg_verify_rules.specs.declared.rule.Rule.TheVariants as rules
use Rattle.rpg_verify_rules.specs.declared.rule.SubroutineRule.TheVariants.{V23, V24}
use Rattle.rpg_compile_program.proofs.Heights.{body_up, is_call_append, levels_are, outside_up}
use Rattle.rpg_compile_program.specs.Whole.{IsCodeOf}
use Rattle.rpg_compile_program.proofs.Whole.{calls_kept, levels_kept, returns_kept, targets_kept}
use Rattle.rpg_cards.specs.Keys.{Key}
use Rattle.rpg_cards.specs.Plain.{ArePlain, ArePlainBodies, calls_from, calls_in, calls_of}
use Rattle.rpg_cards.specs.Sections.{Sections, Subroutine}
use Rattle.rpg_compile_program.specs.Levels.{subroutine_level}
use Rattle.rpg_compile_program.proofs.Sound.{AreSound, AreSoundBodies}
use Rattle.rpg_symbols.specs.Chains.{IsCall, NoCallLeadsBack}

module _ (all : List (Subroutine Key)) (none : NoCallLeadsBack (calls_of all)) where
  bodies_sound : (own : ℕ) (ss : List (Subroutine Key)) → ((a b : ℕ) → IsCall (calls_from all own ss) a b → IsCall (calls_of all) a b) → ArePlainBodies all ss → AreSoundBodies all (subroutine_level all) own ss
  bodies_sound own [] more h = tt
  bodies_sound own (s ∷ ss) more h =
      let b = h.0 in (
        record {
          front = b.front;
          last = b.last;
          label = b.label;
          split = b.split;
          returns = b.returns;
          waits = b.waits;
          free = b.free;
          goals = b.goals;
          calls = body_up all none own s.body (λ x y c. more x y (is_call_append x y (calls_in all own s.body) (calls_from all (suc own) ss) (inl c))) b.found;
        },
        bodies_sound (suc own) ss (λ x y c. more x y (is_call_append x y (calls_in all own s.body) (calls_from all (suc own) ss) (inr c))) h.1,
      )

pub sound : (s : Sections Key) → ArePlain s → AreSound s (subroutine_level s.subroutines)
sound s h = record {
  detail_ends = h.detail_ends;
  total_ends = h.total_ends;
  detail_calls = outside_up s.subroutines s.detail h.detail_found;
  total_calls = outside_up s.subroutines s.total h.total_found;
  bodies = bodies_sound s.subroutines h.forward 0 s.subroutines (λ a b c. c) h.bodies;
}

-- V21 to V24 of a program that has the code of plain sections
module _ (number : Key → ℕ) (s : Sections Key) (p : Object) (code : IsCodeOf number (subroutine_level s.subroutines) s p) (h : ArePlain s) where
  pub targets : NoneTrue (broken p (rules.Place V21))
  unfolding broken
  targets = targets_kept number (subroutine_level s.subroutines) s p code (sound s h)

  pub calls_lead_up : NoneTrue (broken p (rules.Place V22))
  unfolding broken
  calls_lead_up = calls_kept number (subroutine_level s.subroutines) s p code (sound s h)

  pub returns : NoneTrue (broken p (rules.Subroutine V23))
  unfolding broken
  returns = returns_kept number (subroutine_level s.subroutines) s p code (sound s h)

  pub levels : NoneTrue (broken p (rules.Subroutine V24))
  unfolding broken
  levels = levels_kept number (subroutine_level s.subroutines) s p code (levels_are s.subroutines h.few)
