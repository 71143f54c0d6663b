use Rattle.std.proofs.Common.{◌≡◌, ◌∙◌, Bool, true, false, ◌&&◌, ◌||◌, refl, sym}
use Rattle.rpg_cards.specs.Calculations.{depends, group_end}
use Rattle.rpg_faults_flow.specs.Columns.{may_depend}
use Rattle.rpg_faults_flow.proofs.columns.of_conditions.Goals as goal

neither : (x : Bool) → false ≡ ((x && false) || false)
neither true = refl
neither false = refl

second : (x : Bool) → true ≡ ((x && false) || true)
second true = refl
second false = refl

pub returns-then-allows_conditions-clause-cause : goal.returns-then-allows_conditions-clause-cause
returns-then-allows_conditions-clause-cause c = λ before is.
    let conditioned : depends c.args.calculation.now ≡ true = sym c.depends.ensures ∙ c.if-depends.true in
    let may : may_depend (group_end c.args.calculation.now c.args.after.now) ≡ true = sym (c.allows_conditions.ensures.group before is) ∙ c.if-allows_conditions.true in
    rw (conditioned, may) refl

pub returns-then-allows_conditions-clause-rule : goal.returns-then-allows_conditions-clause-rule
returns-then-allows_conditions-clause-rule c = λ before is.
    let conditioned : depends c.args.calculation.now ≡ true = sym c.depends.ensures ∙ c.if-depends.true in
    let may : may_depend (group_end c.args.calculation.now c.args.after.now) ≡ true = sym (c.allows_conditions.ensures.group before is) ∙ c.if-allows_conditions.true in
    rw (conditioned, may) (neither _)

pub returns-else-allows_conditions-clause-cause : goal.returns-else-allows_conditions-clause-cause
returns-else-allows_conditions-clause-cause c = λ before is.
    let conditioned : depends c.args.calculation.now ≡ true = sym c.depends.ensures ∙ c.if-depends.true in
    let may : may_depend (group_end c.args.calculation.now c.args.after.now) ≡ false = sym (c.allows_conditions.ensures.group before is) ∙ c.if-allows_conditions.false in
    rw (conditioned, may) refl

pub returns-else-allows_conditions-clause-rule : goal.returns-else-allows_conditions-clause-rule
returns-else-allows_conditions-clause-rule c = λ before is.
    let conditioned : depends c.args.calculation.now ≡ true = sym c.depends.ensures ∙ c.if-depends.true in
    let may : may_depend (group_end c.args.calculation.now c.args.after.now) ≡ false = sym (c.allows_conditions.ensures.group before is) ∙ c.if-allows_conditions.false in
    rw (conditioned, may) (second _)
