-- Targets, calls, returns and levels of the program of a source without a fault.
use Rattle.std.proofs.Common.{◌≡◌, ℕ, suc, ◌+◌, ◌≤◌, Bool, true, false, cond, ◌||◌, ◌&&◌, List, [], ◌∷◌, ◌++◌, refl, sym, ap, ◌∙◌, subst, arith, append_assoc, append-nil}
use Rattle.std.proofs.lemmas.Bool.{eqb-false}
use Rattle.std.specs.Option.{option_map, option_map_or}
use Rattle.std.specs.Prelude.{◌==◌}
use Rattle.rpg_cards.specs.Calculations.{calculation_of, calculations, calculations_before}
use Rattle.rpg_cards.specs.Statements.{Calculation}
use Rattle.rpg_cards.specs.Keys.{Key}
use Rattle.rpg_cards.specs.Labels.{begins_subroutine, begun_count}
use Rattle.rpg_cards.specs.Plain.{ArePlain}
use Rattle.rpg_cards.specs.declared.spec_card.SpecCard.{SpecCard}
use Rattle.rpg_compile_program.proofs.Plain as code
use Rattle.rpg_compile_program.specs.Levels.{subroutine_level}
use Rattle.rpg_compile_program.specs.Whole.{IsCodeOf}
use Rattle.rpg_faults_flow.proofs.Joined.{plain_of_counts}
use Rattle.rpg_faults_flow.proofs.Walk.{EachSplit, Walk, each_calculation}
use Rattle.rpg_faults_limits.specs.Limits.{bad_entries, calculation_count, crosses, passes_on_calculations, passes_on_lines, passes_on_types, passes_storage, passes_subroutines}
use Rattle.rpg_verify_rules.proofs.Kept.{NoneTrue}
use Rattle.rpg_verify_rules.specs.Rules.{broken}
use Rattle.rpg_verify_rules.specs.declared.rule.PlaceRule.TheVariants.{V21, V22}
use Rattle.rpg_verify_rules.specs.declared.rule.Rule.TheVariants as verifier
use Rattle.rpg_verify_rules.specs.declared.rule.SubroutineRule.TheVariants.{V23, V24}
use Rattle.rpg_compile_program.proofs.Lists.{Seen, or_first, or_second}
use Rattle.rpg_compile_program.specs.Program.{key_numbers, program_of, sections}
use Rattle.rpg_compile_program.specs.Rules.{KeepsCardRules}

-- ---- at most 100 subroutines

-- one that isn't the hundred and first
abbrev IsNoMore : List (Calculation Key) → Calculation Key → List (Calculation Key) → Type 0
IsNoMore before g following = (begun_count before == 100 && begins_subroutine g) ≡ false

one_more : (before : List (Calculation Key)) (g : Calculation Key) → begun_count (before ++ g ∷ []) ≡ begun_count before + cond (begins_subroutine g) 1 0
one_more [] g = by (begins_subroutine g)
  where
    by : (b : Bool) → cond b 1 0 ≡ 0 + cond b 1 0
    by true = refl
    by false = refl
one_more (x ∷ xs) g = by (begins_subroutine x) (one_more xs g)
  where
    by : (b : Bool) → begun_count (xs ++ g ∷ []) ≡ begun_count xs + cond (begins_subroutine g) 1 0 → cond b (suc (begun_count (xs ++ g ∷ []))) (begun_count (xs ++ g ∷ [])) ≡ cond b (suc (begun_count xs)) (begun_count xs) + cond (begins_subroutine g) 1 0
    by true r = omega arith
    by false r = r

stays_few : (before : List (Calculation Key)) (g : Calculation Key) (following : List (Calculation Key)) → IsNoMore before g following → begun_count before ≤ 100 → begun_count (before ++ g ∷ []) ≤ 100
stays_few before g following other few = by (begins_subroutine g) other (one_more before g)
  where
    by : (b : Bool) → (begun_count before == 100 && b) ≡ false → begun_count (before ++ g ∷ []) ≡ begun_count before + cond b 1 0 → begun_count (before ++ g ∷ []) ≤ 100
    by false not_it more = omega arith
    by true not_it more = let apart = eqb-false (begun_count before) 100 (one (begun_count before == 100) not_it) in omega (arith, apart)
      where
        one : (b : Bool) → (b && true) ≡ false → b ≡ false
        one true e = e
        one false e = refl

few_begun : (front gs : List (Calculation Key)) → EachSplit IsNoMore front gs → begun_count front ≤ 100 → begun_count (front ++ gs) ≤ 100
few_begun front [] each few = subst (λ x. begun_count x ≤ 100) (sym (append-nil front)) few
few_begun front (g ∷ gs) each few =
    subst (λ x. begun_count x ≤ 100) (append_assoc front (g ∷ []) gs) (few_begun (front ++ g ∷ []) gs each.1 (stays_few front g gs each.0 few))

module _ (cards : List SpecCard) (rules : KeepsCardRules cards) where
  subroutines_kept : Seen cards (λ before c after. passes_subroutines before c after ≡ false)
  subroutines_kept before c after split =
      or_second (crosses calculation_count 1000 before c) (passes_subroutines before c after)
      (or_second (passes_on_types before c || passes_on_lines before c) (passes_on_calculations before c after)
      (or_first _ (passes_storage cards before c) (or_first _ (bad_entries c) (rules.f6 before c after split))))

  walk : Walk cards (λ before g full. Unit {0}) IsNoMore
  walk = record {
    first = λ before c after k s e j. tt;
    stray = λ before c after k s e j p. tt;
    more = λ before c after k g s e j p q. tt;
    last = λ before c after g s p q. sym (ap (λ o. begun_count (calculations_before before (c ∷ after)) == 100 && option_map_or begins_subroutine (option_map calculation_of o) false) p) ∙ subroutines_kept before c after s;
  }

  pub few_subroutines : begun_count (calculations cards) ≤ 100
  few_subroutines = few_begun [] (calculations cards) (each_calculation cards (λ before g full. Unit {0}) IsNoMore walk) (omega arith)

  -- ---- V21 to V24

  pub plain : ArePlain (sections cards)
  plain = plain_of_counts cards rules.f9 rules.f12 rules.f10 rules.f13 rules.f14 few_subroutines

  module _ (allowance : ℕ) where
    pub has_code : IsCodeOf (key_numbers cards) (subroutine_level (sections cards).subroutines) (sections cards) (program_of cards allowance)
    unfolding program_of
    has_code = record { detail = refl; total = refl; subroutines = refl }

    pub targets_kept : NoneTrue (broken (program_of cards allowance) (verifier.Place V21))
    targets_kept = code.targets (key_numbers cards) (sections cards) (program_of cards allowance) has_code plain

    pub calls_kept : NoneTrue (broken (program_of cards allowance) (verifier.Place V22))
    calls_kept = code.calls_lead_up (key_numbers cards) (sections cards) (program_of cards allowance) has_code plain

    pub returns_kept : NoneTrue (broken (program_of cards allowance) (verifier.Subroutine V23))
    returns_kept = code.returns (key_numbers cards) (sections cards) (program_of cards allowance) has_code plain

    pub levels_kept : NoneTrue (broken (program_of cards allowance) (verifier.Subroutine V24))
    levels_kept = code.levels (key_numbers cards) (sections cards) (program_of cards allowance) has_code plain
