-- The last card of a group.
use Rattle.std.proofs.Common.{◌≡◌, Bool, true, false, cond, List, [], ◌∷◌, ◌++◌, Option, None, Some, unwrap_or, refl, sym, ap, ◌∙◌}
use Rattle.std.specs.List.{last_or}
use Rattle.std.specs.Option.{option_map_or}
use Rattle.rpg_cards.specs.Calculations.{CalculationGroup, alone, completed, group_end, joined_group, last_card}
use Rattle.rpg_cards.specs.Cards.{calculation_on}
use Rattle.rpg_cards.specs.Groups.{joins}
use Rattle.rpg_cards.specs.declared.spec_card.SpecCard.{SpecCard}
use Rattle.rpg_sheet_specs.specs.declared.calculation.CalculationSpec.{CalculationSpec}

last_push : {X : Type 0} (xs : List X) (x : X) (d : Option X) → last_or d (xs ++ x ∷ []) ≡ Some x
last_push [] x d = refl
last_push (y ∷ ys) x d = last_push ys x (Some y)

pub last_card-joined : (g : CalculationGroup) (k : CalculationSpec) → last_card (joined_group g k) ≡ k
last_card-joined g k = ap (λ o. unwrap_or o g.first) (last_push g.followers k None)

-- groups with the same last card end on the same card
last_completed : (g h : CalculationGroup) (after : List SpecCard) → last_card g ≡ last_card h → last_card (completed g after) ≡ last_card (completed h after)
last_completed g h [] same = same
last_completed g h (c ∷ cs) same = by (calculation_on c.spec) (λ k. last_completed (joined_group g k) (joined_group h k) cs (last_card-joined g k ∙ sym (last_card-joined h k)))
  where
    inner : (k : CalculationSpec) (b : Bool) → (last_card (completed (joined_group g k) cs) ≡ last_card (completed (joined_group h k) cs)) → last_card (cond b (completed (joined_group g k) cs) g) ≡ last_card (cond b (completed (joined_group h k) cs) h)
    inner k true more = more
    inner k false more = same

    by : (o : Option CalculationSpec) → ((k : CalculationSpec) → last_card (completed (joined_group g k) cs) ≡ last_card (completed (joined_group h k) cs)) → last_card (option_map_or (λ k. cond (joins k.control_level) (completed (joined_group g k) cs) g) o g) ≡ last_card (option_map_or (λ k. cond (joins k.control_level) (completed (joined_group h k) cs) h) o h)
    by None more = same
    by (Some k) more = inner k (joins k.control_level) (more k)

-- from a card to the next one of its group
pub group_end-joined : (k j : CalculationSpec) (after : List SpecCard) → last_card (completed (joined_group (alone k) j) after) ≡ group_end j after
group_end-joined k j after = last_completed (joined_group (alone k) j) (alone j) after refl

pub group_end-next : (k j : CalculationSpec) (c : SpecCard) (after : List SpecCard) → calculation_on c.spec ≡ Some j → joins j.control_level ≡ true → group_end k (c ∷ after) ≡ group_end j after
group_end-next k j c after is goes =
    ap (λ o. last_card (option_map_or (λ i. cond (joins i.control_level) (completed (joined_group (alone k) i) after) (alone k)) o (alone k))) is
    ∙ ap (λ b. last_card (cond b (completed (joined_group (alone k) j) after) (alone k))) goes
    ∙ group_end-joined k j after
