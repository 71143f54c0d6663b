-- The laws of the format of subroutines, and what subroutines keep in plain words.
use Rattle.std.proofs.Common.{◌≡◌, ℕ, ◌≤◌, zero, suc, List, [], ◌∷◌, ◌++◌, length, refl, ap, ◌∙◌, append_assoc, arith}
use Rattle.std.specs.Prelude.{All}
use Rattle.rpg_program.specs.declared.operation.Instruction.{Instruction}
use Rattle.rpg_object_format.specs.Format.{two_bytes, pair, row, table, times_with, keep, spelled_along, AllAlong}
use Rattle.rpg_object_format.specs.Numbers.{any_number, count, two}
use Rattle.rpg_object_format.proofs.Laws.{IsFormat, pair_law, row_law, times_law, table_law}
use Rattle.rpg_object_format.proofs.Rules.{any_number_law, count_law}
use Rattle.rpg_program.specs.Kept.{IsInstructionRow, IsSubroutineRow}
use Rattle.rpg_program.specs.Object.{SubroutineRow}
use Rattle.rpg_program.specs.Sections.{instructions_in}
use Rattle.rpg_object_format.specs.Instructions.{instruction}
use Rattle.rpg_object_format.proofs.InstructionLaws.{instruction_law}
use Rattle.rpg_object_format.proofs.InstructionKept.{instruction_kept, instruction_from}
use Rattle.rpg_object.specs.Subroutines.{subroutine, left_after, subroutines}
use Rattle.rpg_object_format.proofs.Choices.{all_from_table, table_from_all, counted, few}
use Rattle.rpg_object.proofs.Tables.{all_from_along, all_head, all_tail}

abbrev with_count : ℕ × (ℕ × List (Instruction ℕ)) → ℕ → ℕ × (ℕ × List (Instruction ℕ))
with_count a n = (a.0, (n, a.1.1))

there : (left : ℕ) (a : ℕ × (ℕ × List (Instruction ℕ))) → (pair any_number (λ level. pair (count left) (λ n. table n instruction))).Holds a → with_count a (length a.1.1) ≡ a
unfolding pair times_with
there left a h = ap (λ (k : ℕ). with_count a k) h.1.1.0

subroutine_law : (left : ℕ) → IsFormat (subroutine left)
unfolding subroutine
subroutine_law left = row_law _ _ _ (there left) (λ x. refl) (pair_law _ _ any_number_law (λ level. pair_law _ _ (count_law left) (λ n. table_law n instruction instruction_law)))

pub subroutines_law : (n left : ℕ) → IsFormat (subroutines n left)
unfolding subroutines
subroutines_law n left = times_law subroutine left_after subroutine_law n left

-- ---- what subroutines keep

subroutine_kept : (left : ℕ) (s : SubroutineRow) → (subroutine left).Holds s → IsSubroutineRow s
unfolding subroutine row pair two_bytes
subroutine_kept left s h = record { level = h.0.1; instructions = all_from_table instruction IsInstructionRow instruction_kept (length s.instructions) s.instructions h.1.1 }

subroutine_fits : (left : ℕ) (s : SubroutineRow) → (subroutine left).Holds s → length s.instructions ≤ left
unfolding subroutine row pair two_bytes
subroutine_fits left s h = counted left (length s.instructions) h.1.0.0

instructions_along : (left : ℕ) (ss : List SubroutineRow) → AllAlong (λ t s. (subroutine t).Holds s) left_after left ss → instructions_in ss ≤ left
instructions_along left [] h = omega arith
instructions_along left (s ∷ ss) h = let here = subroutine_fits left s h.0 in let more = instructions_along (left_after left s) ss h.1 in omega arith

pub subroutines_kept : (n left : ℕ) (ss : List SubroutineRow) → (subroutines n left).Holds ss → All IsSubroutineRow ss
unfolding subroutines times_with
subroutines_kept n left ss h = all_from_along (λ t s. (subroutine t).Holds s) IsSubroutineRow left_after subroutine_kept left ss h.1

pub instructions_within : (n left : ℕ) (ss : List SubroutineRow) → (subroutines n left).Holds ss → instructions_in ss ≤ left
unfolding subroutines times_with
instructions_within n left ss h = instructions_along left ss h.1

-- ---- what keeps that is a subroutine

subroutine_from : (left : ℕ) (s : SubroutineRow) → left ≤ 8192 → length s.instructions ≤ left → IsSubroutineRow s → (subroutine left).Holds s
unfolding subroutine row pair two_bytes
subroutine_from left s limit fits h = ((refl, h.level), ((few left (length s.instructions) fits, omega arith), table_from_all instruction IsInstructionRow instruction_from s.instructions h.instructions))

along_from : (left : ℕ) (ss : List SubroutineRow) → left ≤ 8192 → instructions_in ss ≤ left → All IsSubroutineRow ss → AllAlong (λ t s. (subroutine t).Holds s) left_after left ss
along_from left [] limit fits h = tt
along_from left (s ∷ ss) limit fits h =
    (subroutine_from left s limit (omega arith) (all_head IsSubroutineRow s ss h), along_from (left_after left s) ss (omega arith) (omega arith) (all_tail IsSubroutineRow s ss h))

pub subroutines_from : (left : ℕ) (ss : List SubroutineRow) → left ≤ 8192 → instructions_in ss ≤ left → All IsSubroutineRow ss → (subroutines (length ss) left).Holds ss
unfolding subroutines times_with
subroutines_from left ss limit fits h = (refl, along_from left ss limit fits h)

-- ---- the text of a subroutine doesn't depend on the instructions that are left

abbrev pub subroutine_text : SubroutineRow → List ℕ
subroutine_text s = (subroutine 8192).spelling s

same_text : (left : ℕ) (s : SubroutineRow) → (subroutine left).spelling s ≡ subroutine_text s
unfolding subroutine row pair two_bytes
same_text left s = refl

along_same : (left : ℕ) (ss : List SubroutineRow) → spelled_along (λ t s. (subroutine t).spelling s) left_after left ss ≡ spelled_along (λ u s. subroutine_text s) keep tt ss
along_same left [] = refl
along_same left (s ∷ ss) = rw (same_text left s) (ap (λ (rest : List ℕ). subroutine_text s ++ rest) (along_same (left_after left s) ss))

pub subroutines_text : (n left : ℕ) (ss : List SubroutineRow) → (subroutines n left).spelling ss ≡ spelled_along (λ u s. subroutine_text s) keep tt ss
unfolding subroutines times_with
subroutines_text n left ss = along_same left ss

-- a subroutine has no more instructions than all of them
pub each_few : (limit : ℕ) (ss : List SubroutineRow) → instructions_in ss ≤ limit → All (λ s. length s.instructions ≤ limit) ss
each_few limit [] h k d lt = absurd (omega arith)
each_few limit (s ∷ ss) h zero d lt = omega arith
each_few limit (s ∷ ss) h (suc k) d lt = each_few limit ss (omega arith) k d (omega arith)

-- its two numbers, then its instructions
pub subroutine_written : (s : SubroutineRow) (old head new : List ℕ) → head ≡ old ++ spelled_along (λ u n. two n) keep tt (s.level ∷ length s.instructions ∷ []) → new ≡ head ++ (table (length s.instructions) instruction).spelling s.instructions → new ≡ old ++ subroutine_text s
unfolding subroutine row pair two_bytes
subroutine_written s old head new a b =
    b ∙ ap (λ (t : List ℕ). t ++ (table (length s.instructions) instruction).spelling s.instructions) a
    ∙ append_assoc old (spelled_along (λ u n. two n) keep tt (s.level ∷ length s.instructions ∷ [])) ((table (length s.instructions) instruction).spelling s.instructions)
