-- The sections of a source without a fault, and how many instructions they become.
use Rattle.std.proofs.Common.{◌≡◌, ℕ, suc, ◌+◌, ◌*◌, ◌≤◌, List, [], ◌∷◌, length, Option, refl, arith}
use Rattle.rpg_cards.specs.Statements.{Calculation}
use Rattle.rpg_cards.specs.Keys.{Key, Name}
use Rattle.rpg_cards.specs.Sections.{Subroutine}
use Rattle.rpg_cards.specs.declared.spec_card.SpecCard.{SpecCard}
use Rattle.rpg_compile_program.proofs.Counts.{code_length}
use Rattle.rpg_compile_program.specs.Code.{label_place, calculations_code, sizes, subroutines_code}
use Rattle.rpg_compile_program.specs.Levels.{subroutine_level}
use Rattle.rpg_compile_program.specs.Whole.{called_number}
use Rattle.rpg_compile.proofs.Sizes.{all_sizes}
use Rattle.rpg_compile.specs.Numbers.{body_sizes}
use Rattle.rpg_program.specs.Sections.{instructions_in, places_of}
use Rattle.rpg_compile_program.proofs.Flow.{plain}
use Rattle.rpg_compile_program.specs.Program.{key_numbers, program_of, sections}
use Rattle.rpg_compile_program.specs.Rules.{KeepsCardRules}

section_length : (number : Key → ℕ) (callee_of : Option Name → ℕ) (own first : ℕ) (gs : List (Calculation Key)) → length (calculations_code number callee_of own first gs) ≡ sizes gs
unfolding calculations_code
section_length number callee_of own first gs = code_length number (λ l. label_place l gs first) callee_of own first gs

bodies_length : (number : Key → ℕ) (callee_of : Option Name → ℕ) (level : ℕ → ℕ) (own first : ℕ) (ss : List (Subroutine Key)) → instructions_in (subroutines_code number callee_of level own first ss) ≡ body_sizes ss
unfolding subroutines_code
bodies_length number callee_of level own first [] = refl
bodies_length number callee_of level own first (s ∷ ss) =
    let here = section_length number callee_of own first s.body in
    let rest = bodies_length number callee_of level (suc own) (first + sizes s.body) ss in
    omega (arith, here, rest)

-- at most three for each card
pub few_instructions : (cards : List SpecCard) (allowance : ℕ) → length cards ≤ 2000 → places_of (program_of cards allowance) ≤ 8192
unfolding program_of
few_instructions cards allowance few =
    let s = sections cards in
    let detail = section_length (key_numbers cards) (called_number s) 0 0 s.detail in
    let total = section_length (key_numbers cards) (called_number s) 0 (sizes s.detail) s.total in
    let bodies = bodies_length (key_numbers cards) (called_number s) (subroutine_level s.subroutines) 0 (sizes s.detail + sizes s.total) s.subroutines in
    let all : sizes s.detail + sizes s.total + body_sizes s.subroutines ≤ 3 * length cards = all_sizes cards in
    omega (arith, detail, total, bodies, all)

pub few_subroutines : (cards : List SpecCard) → KeepsCardRules cards → length (sections cards).subroutines ≤ 100
few_subroutines cards rules = (plain cards rules).few
