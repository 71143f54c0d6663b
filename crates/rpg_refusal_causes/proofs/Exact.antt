-- A row has a cause exactly if it breaks the rule.
use Rattle.std.proofs.Common.{◌≡◌, ℕ, zero, suc, Bool, true, false, [], ◌∷◌, cond, Option, Some, None, MatchOption, slice_get, refl, sym, ap, ◌∙◌}
use Rattle.std.proofs.lemmas.Bool.{and_parts, false≢true}
use Rattle.std.specs.Option.{is_some, unwrap_or}
use Rattle.std.specs.Prelude.{IsSome, ◌↔◌}
use Rattle.rpg_program.specs.Object.{Object}
use Rattle.rpg_refusal_causes.proofs.First.{some_at, some_mapped}
use Rattle.rpg_refusal_causes.proofs.HasLine.{line_has}
use Rattle.rpg_refusal_causes.proofs.HasPlace.{place_has}
use Rattle.rpg_refusal_causes.proofs.HasSubroutine.{subroutine_has}
use Rattle.rpg_refusal_causes.proofs.HasType.{type_has}
use Rattle.rpg_refusal_causes.specs.Causes.{cause_in, refusal_cause_of, row_breaks}
use Rattle.rpg_refusal_causes.specs.LineCauses.{line_cause}
use Rattle.rpg_refusal_causes.specs.PlaceCauses.{place_cause}
use Rattle.rpg_refusal_causes.specs.TypeCauses.{type_cause}
use Rattle.rpg_refusal_causes.specs.declared.cause.RefusalCause.TheVariants as causes
use Rattle.rpg_verify.proofs.Walking.{judged, places_are}
use Rattle.rpg_verify.specs.Placed.{all_placed, placed_instruction}
use Rattle.rpg_verify_rules.specs.Least.{IsBroken}
use Rattle.rpg_verify_rules.specs.LineRules.{line_breaks}
use Rattle.rpg_verify_rules.specs.Rules.{broken, lacks_printer, rule_number}
use Rattle.rpg_verify_rules.specs.TypeRules.{type_breaks}
use Rattle.rpg_verify_rules.specs.declared.rule.Rule.{Rule}
use Rattle.rpg_verify_rules.specs.declared.rule.Rule.TheVariants as rules

overflow_has : (p : Object) (row : ℕ) → unwrap_or (slice_get (lacks_printer p ∷ []) row) false ≡ true → is_some (cause_in p rules.Overflow row) ≡ true
unfolding cause_in
overflow_has p zero h = some_mapped causes.Overflow p.overflow.indicator (and_parts _ _ h).0
overflow_has p (suc k) h = absurd (false≢true h)

-- what is found in a row that breaks a rule
pub cause_has : (p : Object) (r : Rule) (row : ℕ) → row_breaks p r row ≡ true → is_some (cause_in p r row) ≡ true
unfolding broken cause_in placed_instruction
cause_has p rules.Overflow row h = overflow_has p row h
cause_has p (rules.Type r) row h = some_at (type_cause r p) (type_breaks r p) (type_has r p) p.types row h
cause_has p (rules.Line r) row h = some_at (line_cause r p) (line_breaks r p) (line_has r p) p.lines row h
cause_has p (rules.Place r) row h =
    some_at (place_cause r p) (judged r p) (place_has r p) (all_placed p) row
    (ap (λ bs. unwrap_or (slice_get bs row) false) (sym (places_are r p)) ∙ h)
cause_has p (rules.Subroutine r) row h = subroutine_has r p row h

-- ---- both ways

broken_is : (o : Option Bool) → unwrap_or o false ≡ true → o ≡ Some true
broken_is None h = absurd (false≢true h)
broken_is (Some b) h = ap Some h

guarded : {C : Type 0} (b : Bool) (o : Option C) → is_some (cond b o None) ≡ true → b ≡ true
guarded true o h = refl
guarded false o h = absurd (false≢true h)

pub breaks : (p : Object) (r : Rule) (row : ℕ) → IsBroken rule_number (broken p) r row → row_breaks p r row ≡ true
breaks p r row h = ap (λ o. unwrap_or o false) h

-- the cause of a row that breaks a rule
pub cause_is : (p : Object) (r : Rule) (row : ℕ) → IsBroken rule_number (broken p) r row → refusal_cause_of p r row ≡ cause_in p r row
cause_is p r row h = ap (λ b. cond b (cause_in p r row) None) (breaks p r row h)

pub never_none : (p : Object) (r : Rule) (row : ℕ) → IsBroken rule_number (broken p) r row → None ≡ cause_in p r row → ⊥
never_none p r row h none = false≢true (ap is_some none ∙ cause_has p r row (breaks p r row h))

pub exact : (p : Object) (r : Rule) (row : ℕ) → IsSome (refusal_cause_of p r row) ↔ IsBroken rule_number (broken p) r row
exact p r row = (there, having)
  where
    there : IsSome (refusal_cause_of p r row) → IsBroken rule_number (broken p) r row
    there h = broken_is (slice_get (broken p r) row) (guarded (row_breaks p r row) (cause_in p r row) h)

    having : IsBroken rule_number (broken p) r row → IsSome (refusal_cause_of p r row)
    having h = ap is_some (cause_is p r row h) ∙ cause_has p r row (breaks p r row h)

-- what is found is a refusal, since a row that breaks a rule has a cause
pub found : {X : Type 0} (o : Option X) (A : Type 0) (P : X → Type 0) → MatchOption o ⊥ P → MatchOption o A P
found None A P h = absurd h
found (Some x) A P h = h
