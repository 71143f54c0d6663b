-- Tests in another order.
use Rattle.std.proofs.Common.{◌≡◌, Bool, true, false, cond, ◌||◌, Option, None, Some, refl, ap, ◌∙◌}
use Rattle.std.specs.Option.{option_or}
use Rattle.std.specs.Prelude.{is_some}
use Rattle.rpg_sheet_specs.specs.declared.operations.Kinds.{Kinds}
use Rattle.rpg_sheet_specs.specs.declared.operations.Kinds.TheVariants.{Numbers, Alike, Any}
use Rattle.rpg_causes_operands.specs.Operands.{of_pair}
use Rattle.rpg_program.specs.declared.form.FieldForm.{FieldForm}
use Rattle.rpg_faults_operands.specs.Kinds.{has_text, kinds_differ, wrong_kinds}

-- three tests, each with one more, or the three and then the others
by_numbers : (a b c x y z u : Bool) → ((a || (x || false || false)) || (((b || (y || false || false)) || false) || ((c || (z || false || false)) || u))) ≡ (a || b || c || (x || y || z) || u)
by_numbers true b c x y z u = refl
by_numbers false true c true y z u = refl
by_numbers false false true true y z u = refl
by_numbers false false false true y z u = refl
by_numbers false true c false y z u = refl
by_numbers false false true false true z u = refl
by_numbers false false false false true z u = refl
by_numbers false false true false false true u = refl
by_numbers false false true false false false u = refl
by_numbers false false false false false true u = refl
by_numbers false false false false false false u = refl

by_pair : (a b c p u : Bool) → ((a || false) || (((b || false) || p) || ((c || false) || u))) ≡ (a || b || c || p || u)
by_pair true b c p u = refl
by_pair false true c p u = refl
by_pair false false true true u = refl
by_pair false false false true u = refl
by_pair false false true false u = refl
by_pair false false false false u = refl

-- one factor alone is no pair
no_pair : (f : Option FieldForm) → kinds_differ f None ≡ false
no_pair None = refl
no_pair (Some f) = refl

some_if : {X : Type 0} (x : X) (b : Bool) → is_some (cond b (Some x) None) ≡ b
some_if x true = refl
some_if x false = refl

pair_is : (f g : Option FieldForm) → is_some (of_pair Alike f g) ≡ kinds_differ f g
pair_is None g = refl
pair_is (Some f) None = refl
pair_is (Some f) (Some g) = some_if _ (kinds_differ (Some f) (Some g))

-- classes and kinds of each operand, then the pair and the result: the same as the classes, the kinds, the result
pub in_other_order : (kinds : Kinds) (a b c u : Bool) (f g r : Option FieldForm) →
    ((a || wrong_kinds kinds f None None) || (((b || wrong_kinds kinds g None None) || is_some (of_pair kinds f g)) || ((c || wrong_kinds kinds r None None) || u)))
    ≡ (a || b || c || wrong_kinds kinds f g r || u)
in_other_order Numbers a b c u f g r = by_numbers a b c (has_text f) (has_text g) (has_text r) u
in_other_order Alike a b c u f g r = rw (no_pair f, no_pair g, no_pair r, pair_is f g) (by_pair a b c (kinds_differ f g) u)
in_other_order Any a b c u f g r = by_pair a b c false u

-- one of four
pub some_of_four : {Y : Type 0} (a b c d x : Option Y) (p q r s : Bool) → x ≡ option_or (option_or (option_or a b) c) d
    → is_some a ≡ p → is_some b ≡ q → is_some c ≡ r → is_some d ≡ s → is_some x ≡ (p || q || r || s)
some_of_four (Some a) b c d x p q r s e f g h i = ap is_some e ∙ ap (λ t. t || q || r || s) f
some_of_four None (Some b) c d x p q r s e f g h i = ap is_some e ∙ ap (λ t. false || t || r || s) g ∙ ap (λ t. t || q || r || s) f
some_of_four None None (Some c) d x p q r s e f g h i = ap is_some e ∙ ap (λ t. false || false || t || s) h ∙ ap (λ t. t || false || r || s) f ∙ ap (λ t. p || t || r || s) g
some_of_four None None None d x p q r s e f g h i = ap is_some e ∙ ap (λ t. false || false || false || t) i ∙ ap (λ t. t || false || false || s) f ∙ ap (λ t. p || t || false || s) g ∙ ap (λ t. p || q || t || s) h
