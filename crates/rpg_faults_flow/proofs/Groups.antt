-- The group that the card right before belongs to.
use Rattle.std.proofs.Common.{◌≡◌, Bool, true, false, cond, sym, ℕ, ◌+◌, ◌<◌, List, [], ◌∷◌, ◌++◌, length, take, get_or, Option, None, Some, refl, ap, ◌∙◌}
use Rattle.std.proofs.lemmas.List.{take_more}
use Rattle.std.specs.Prelude.{is_some}
use Rattle.std.specs.Option.{option_map, option_map_or}
use Rattle.rpg_cards.proofs.GroupEnds.{group_end-next}
use Rattle.rpg_cards.specs.Calculations.{CalculationGroup, group_end, group_with, last_card, open_calculation_group}
use Rattle.rpg_cards.specs.Cards.{calculation_on}
use Rattle.rpg_cards.specs.Groups.{joins}
use Rattle.rpg_cards.specs.declared.spec_card.SpecCard.{SpecCard}
use Rattle.rpg_faults_flow.proofs.Facts.{last_with}
use Rattle.rpg_faults_flow.proofs.Walk.{open_after-push}
use Rattle.rpg_faults_flow.specs.Columns.{may_depend}
use Rattle.rpg_faults_flow.specs.OpenGroups.{IsGroupBefore, IsOpenGroup, may_depend_in, may_depend_with, open_may_depend}
use Rattle.rpg_faults_flow.specs.Rounding.{follows_division, leaves_remainder}
use Rattle.rpg_faults_flow.specs.declared.columns.OpenGroup.{OpenGroup}
use Rattle.rpg_sheet_specs.specs.declared.calculation.CalculationSpec.{CalculationSpec}

-- ---- whether the open group allows conditions

module _ (c : SpecCard) (k : CalculationSpec) (after : List SpecCard) (is : calculation_on c.spec ≡ Some k) where
  may_depend_from : (group : Option CalculationGroup) → may_depend_in (open_may_depend group (c ∷ after)) k after ≡ may_depend (group_end k after)
  may_depend_from None = by (joins k.control_level)
    where
      by : (b : Bool) → cond b (may_depend (group_end k after)) (may_depend (group_end k after)) ≡ may_depend (group_end k after)
      by true = refl
      by false = refl
  may_depend_from (Some g) = by (joins k.control_level) refl
    where
      by : (b : Bool) → joins k.control_level ≡ b → cond b (may_depend (group_end (last_card g) (c ∷ after))) (may_depend (group_end k after)) ≡ may_depend (group_end k after)
      by true e = ap may_depend (group_end-next (last_card g) k c after is e)
      by false e = refl

pub may_depend_here : (before : List SpecCard) (k : CalculationSpec) (after : List SpecCard) (o : OpenGroup) → IsGroupBefore before k after o → may_depend_in o.may_depend k after ≡ may_depend (group_end k after)
may_depend_here before k after o is =
    ap (λ known. may_depend_in known k after) is.group ∙ may_depend_from is.card k after is.here (open_calculation_group before)

pub may_depend_next : (before : List SpecCard) (c : SpecCard) (after : List SpecCard) (o : OpenGroup) → IsOpenGroup before (c ∷ after) o → may_depend_with o.may_depend c after ≡ open_may_depend (open_calculation_group (before ++ c ∷ [])) after
may_depend_next before c after o is =
    ap (λ known. may_depend_with known c after) is ∙ by (calculation_on c.spec) refl ∙ ap (λ group. open_may_depend group after) (sym (open_after-push None before c))
  where
    known : Option Bool
    known = open_may_depend (open_calculation_group before) (c ∷ after)

    by : (x : Option CalculationSpec) → calculation_on c.spec ≡ x
        → option_map (λ k. may_depend_in known k after) x ≡ open_may_depend (option_map (group_with (open_calculation_group before)) x) after
    by None e = refl
    by (Some k) e =
        ap (λ b. Some b) (may_depend_from c k after e (open_calculation_group before)
        ∙ ap (λ j. may_depend (group_end j after)) (sym (last_with (open_calculation_group before) k)))

pub is_open_group : (before rest : List SpecCard) (o : OpenGroup) → IsOpenGroup before rest o → is_some o.may_depend ≡ is_some (open_calculation_group before)
is_open_group before rest o is = ap is_some is ∙ by (open_calculation_group before)
  where
    by : (group : Option CalculationGroup) → is_some (open_may_depend group rest) ≡ is_some group
    by None = refl
    by (Some g) = refl

-- a division without H is right before where its card is
pub follows_division-push : (before : List SpecCard) (c : SpecCard) → follows_division (before ++ c ∷ []) ≡ option_map_or leaves_remainder (calculation_on c.spec) false
follows_division-push before c = ap (λ o. option_map_or (λ g. leaves_remainder (last_card g)) o false) (open_after-push None before c) ∙ by (calculation_on c.spec)
  where
    by : (o : Option CalculationSpec) → option_map_or (λ g. leaves_remainder (last_card g)) (option_map (group_with (open_calculation_group before)) o) false ≡ option_map_or leaves_remainder o false
    by None = refl
    by (Some k) = ap leaves_remainder (last_with (open_calculation_group before) k)

pub is_division_after : (before rest : List SpecCard) (c : SpecCard) → before ≡ rest ++ c ∷ [] → follows_division before ≡ option_map_or leaves_remainder (calculation_on c.spec) false
is_division_after before rest c e = ap follows_division e ∙ follows_division-push rest c

-- one more card of these
pub taken : (cards : List SpecCard) (i : ℕ) (c : SpecCard) → i < length cards → c ≡ get_or cards i c → take (i + 1) cards ≡ take i cards ++ c ∷ []
taken cards i c lt is = rw (take_more cards i c lt, ← is) refl
