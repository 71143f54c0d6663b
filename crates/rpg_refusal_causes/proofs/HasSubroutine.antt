-- A subroutine that breaks a rule has a cause.
use Rattle.std.proofs.Common.{◌≡◌, ℕ, zero, suc, ◌+◌, Bool, true, false, ◌||◌, List, [], ◌∷◌, length, Some, None, slice_get, refl}
use Rattle.std.proofs.lemmas.Bool.{false≢true}
use Rattle.std.specs.List.{list_any}
use Rattle.std.specs.Option.{is_some, option_or, unwrap_or}
use Rattle.std.specs.Prelude.{◌==◌, if◌then◌else◌}
use Rattle.rpg_program.specs.declared.operation.Instruction.{Instruction}
use Rattle.rpg_program.specs.Object.{Object, SubroutineRow}
use Rattle.rpg_refusal_causes.proofs.First.{some_any, some_at, some_front, some_if, some_later}
use Rattle.rpg_refusal_causes.specs.First.{cause_of_row, first_cause}
use Rattle.rpg_refusal_causes.specs.SubroutineCauses.{body_cause, foreign_cause, subroutine_level_cause, return_cause, stray_return_cause, subroutine_cause}
use Rattle.rpg_refusal_causes.specs.declared.cause.RefusalCause.TheVariants as causes
use Rattle.rpg_verify_rules.specs.PlaceRules.{bodies_judged, has_stray_return, is_off_level, is_return, with_first}
use Rattle.rpg_verify_rules.specs.Rules.{subroutines_broken}
use Rattle.rpg_verify_rules.specs.declared.rule.SubroutineRule.{SubroutineRule}
use Rattle.rpg_verify_rules.specs.declared.rule.SubroutineRule.TheVariants.{V23, V24}

return_has : (n : ℕ) (i : Instruction ℕ) → is_return i ≡ true → is_some (return_cause n i) ≡ true
return_has n i e = some_if (is_return i) (causes.StrayReturn n) e

stray_has : (p : Object) → has_stray_return p ≡ true → is_some (stray_return_cause p) ≡ true
stray_has p h = by_detail (list_any is_return p.detail) refl h
  where
    by_detail : (b : Bool) → list_any is_return p.detail ≡ b → (b || list_any is_return p.total) ≡ true → is_some (stray_return_cause p) ≡ true
    by_detail true t e =
        some_front (first_cause return_cause 0 p.detail) (first_cause return_cause (length p.detail) p.total)
        (some_any return_cause is_return return_has 0 p.detail t)
    by_detail false t e =
        some_later (first_cause return_cause 0 p.detail) (first_cause return_cause (length p.detail) p.total)
        (some_any return_cause is_return return_has (length p.detail) p.total e)

body_has : (number : ℕ) (s : SubroutineRow) → is_some (body_cause number s) ≡ true
body_has number s = some_later (first_cause (foreign_cause number) 0 s.instructions) (Some causes.Unended) refl

-- a subroutine of which something is judged is there
judged_has : (number n : ℕ) (ss : List SubroutineRow) (k : ℕ) → unwrap_or (slice_get (bodies_judged n ss) k) false ≡ true → is_some (cause_of_row (body_cause number) (slice_get ss k)) ≡ true
judged_has number n [] k h = absurd (false≢true h)
judged_has number n (s ∷ ss) zero h = body_has number s
judged_has number n (s ∷ ss) (suc k) h = judged_has number (n + 1) ss k h

unended_has : (p : Object) (ss : List SubroutineRow) (row : ℕ) → unwrap_or (slice_get (with_first (has_stray_return p) (bodies_judged 0 ss)) row) false ≡ true →
    is_some (option_or (if row == 0 then stray_return_cause p else None) (cause_of_row (body_cause row) (slice_get ss row))) ≡ true
unended_has p [] zero h = some_front (stray_return_cause p) None (stray_has p h)
unended_has p [] (suc k) h = absurd (false≢true h)
unended_has p (s ∷ ss) zero h = some_later (stray_return_cause p) (body_cause 0 s) (body_has 0 s)
unended_has p (s ∷ ss) (suc k) h =
    some_later (if suc k == 0 then stray_return_cause p else None) (cause_of_row (body_cause (suc k)) (slice_get ss k)) (judged_has (suc k) 1 ss k h)

pub subroutine_has : (r : SubroutineRule) (p : Object) (row : ℕ) → unwrap_or (slice_get (subroutines_broken r p) row) false ≡ true → is_some (subroutine_cause r p row) ≡ true
unfolding subroutine_cause
subroutine_has V23 p row h = unended_has p p.subroutines row h
subroutine_has V24 p row h = some_at subroutine_level_cause is_off_level (λ s e. refl) p.subroutines row h
