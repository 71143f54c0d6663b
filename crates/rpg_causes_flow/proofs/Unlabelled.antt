-- Where no card defines a label or a subroutine, there are no calls, and no field has the name of one.
use Rattle.std.proofs.Common.{◌≡◌, ℕ, Bool, true, false, cond, ◌||◌, List, [], ◌∷◌, ◌++◌, Option, None, Some, refl, sym, ap, ◌∙◌, append-nil}
use Rattle.std.specs.List.{list_any}
use Rattle.std.specs.Option.{option_and_then, option_map, option_or, option_to_list}
use Rattle.std.specs.Prelude.{is_some}
use Rattle.rpg_cards.specs.Calculations.{calculations, calculations_before}
use Rattle.rpg_cards.specs.Calls.{called_subroutine, calls, calls_after, subroutine_in}
use Rattle.rpg_cards.specs.Keys.{Key, Name}
use Rattle.rpg_cards.specs.Labels.{label_named, labels, section_of, target_name}
use Rattle.rpg_cards.specs.Statements.{Calculation}
use Rattle.rpg_cards.specs.declared.labels.Label.{Label}
use Rattle.rpg_cards.specs.declared.labels.Named.{Named}
use Rattle.rpg_cards.specs.declared.names.Definition.{Definition}
use Rattle.rpg_cards.specs.declared.spec_card.SpecCard.{SpecCard}
use Rattle.rpg_causes_flow.proofs.LabelLemmas.{is_given_is}
use Rattle.rpg_causes_flow.specs.Index.{DefineNothing, giver_on}
use Rattle.rpg_causes_flow.specs.Labels.{any_given, giver, of_definition}
use Rattle.rpg_causes_flow.specs.declared.labels.TwiceCause.TheVariants.{Given}
use Rattle.rpg_causes_operands.proofs.Options.{none_of}
use Rattle.rpg_causes_operands.specs.Names.{first_some}
use Rattle.rpg_symbols.specs.Chains.{Call}

-- ---- calls

module _ (given : List Label) (none : (q : Name) → label_named q given ≡ None) where
  no_callee : (t : Option Named) → option_and_then (called_subroutine given) t ≡ None
  no_callee None = refl
  no_callee (Some n) = by n.is_subroutine
    where
      callee : Label → Option ℕ
      callee l = cond l.named.is_subroutine (subroutine_in l.section) None

      by : (b : Bool) → cond b (option_and_then callee (label_named n.name given)) None ≡ None
      by true = ap (option_and_then callee) (none n.name)
      by false = refl

  abbrev call : ℕ → ℕ → Call
  call x y = (x, y)

  no_call : (caller callee : Option ℕ) → callee ≡ None → option_and_then (λ x. option_map (λ y. call x y) callee) caller ≡ None
  no_call None callee e = refl
  no_call (Some x) callee e = ap (option_map (λ y. call x y)) e

  no_calls : (before gs : List (Calculation Key)) → calls_after given before gs ≡ []
  no_calls before [] = refl
  no_calls before (g ∷ gs) =
      let target = target_name g.statement in
      ap (λ x. option_to_list x ++ calls_after given (before ++ g ∷ []) gs) (no_call (subroutine_in (section_of before g)) (option_and_then (called_subroutine given) target) (no_callee target))
      ∙ no_calls (before ++ g ∷ []) gs

pub calls_none : (cards : List SpecCard) → DefineNothing cards → calls (calculations cards) ≡ []
calls_none cards nothing =
    let given = labels (calculations cards) in
    no_calls given (λ q. none_of (label_named q given) (sym (is_given_is q cards []) ∙ ap is_some (nothing q))) [] (calculations cards)

-- ---- fields

neither : {X : Type 0} (a b : Option X) → option_or a b ≡ None → (a ≡ None) × (b ≡ None)
neither None b e = (refl, e)
neither (Some x) b e = absurd cc

module _ (before : List SpecCard) (c : SpecCard) (after : List SpecCard) (nothing : DefineNothing (before ++ c ∷ after)) where
  none_before : (q : Name) (cs : List SpecCard) → giver q (cs ++ c ∷ after) [] ≡ None → giver q cs (c ∷ after) ≡ None
  none_before q [] e = refl
  none_before q (d ∷ ds) e =
      let both = neither (giver_on q d ((ds ++ c ∷ after) ++ [])) (giver q (ds ++ c ∷ after) []) e in
      let here : giver_on q d (ds ++ c ∷ after) ≡ None = ap (giver_on q d) (sym (append-nil (ds ++ c ∷ after))) ∙ both.0 in
      ap (λ o. option_or o (giver q ds (c ∷ after))) here ∙ none_before q ds both.1

  pub none_defined : (ds : List Definition) → first_some (of_definition before c after) ds ≡ None
  none_defined [] = refl
  none_defined (d ∷ ds) =
      ap (λ o. option_or (option_map (Given d.name) o) (first_some (of_definition before c after) ds)) (none_before d.name before (nothing d.name)) ∙ none_defined ds

  pub none_given : (ds : List Definition) → any_given before c after ds ≡ false
  none_given [] = refl
  none_given (d ∷ ds) =
      let no : is_some (label_named d.name (labels (calculations_before before (c ∷ after)))) ≡ false = sym (is_given_is d.name before (c ∷ after)) ∙ ap is_some (none_before d.name before (nothing d.name)) in
      ap (λ b. b || any_given before c after ds) no ∙ none_given ds
