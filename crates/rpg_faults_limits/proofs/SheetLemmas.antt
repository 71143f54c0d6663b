-- What groups of cards come to with one more card after them.
use Rattle.std.proofs.Common.{◌≡◌, ℕ, ◌+◌, ◌≤◌, List, [], ◌∷◌, ◌++◌, Option, None, Some, refl, sym, ap, ◌∙◌, subst, arith, length-append}
use Rattle.std.specs.Option.{option_or}
use Rattle.rpg_cards.proofs.GroupLemmas.{groups-push, one_if_heading, open_group-push}
use Rattle.rpg_cards.specs.Groups.{Apart, Follower, Group, Heading, Role, file_of_group, open_group, with_card}
use Rattle.rpg_faults_limits.specs.Sheets.{HasGroups, IsOpen, file_or, place_named, with_role}
use Rattle.rpg_faults_limits.specs.declared.sheets.Groups.{Groups}
use Rattle.rpg_cards.specs.declared.spec_card.SpecCard.{SpecCard}
use Rattle.rpg_sheet_specs.specs.declared.spec.Spec.{Spec}

pub file_or_is : (cards : List SpecCard) (name file : Option (List ℕ)) (place : Option ℕ) → place ≡ place_named cards file → file_or cards name place ≡ place_named cards (option_or name file)
file_or_is cards None file place e = e
file_or_is cards (Some name) file place e = refl

module _ {H F : Type 0} (cards : List SpecCard) where
  still_open : (o : Option (Group H F)) (r : Role H F) (g : Groups) → IsOpen H F cards o g → IsOpen H F cards (with_card o r) (with_role cards r g)
  still_open o (Heading h name) g is = record { is_open = refl; file = file_or_is cards name (file_of_group o) g.file is.file }
  still_open None (Follower f) g is = is
  still_open (Some x) (Follower f) g is = record { is_open = is.is_open; file = is.file }
  still_open o Apart g is = is

  number_with : (r : Role H F) (g : Groups) → (with_role cards r g).number ≡ g.number + one_if_heading r
  number_with (Heading h name) g = refl
  number_with (Follower f) g = omega arith
  number_with Apart g = omega arith

  at_most_one : (r : Role H F) → one_if_heading r ≤ 1
  at_most_one (Heading h name) = omega arith
  at_most_one (Follower f) = omega arith
  at_most_one Apart = omega arith

  pub groups_with : (role : Spec → Role H F) (before : List SpecCard) (c : SpecCard) (g : Groups) → HasGroups H F role cards before g → HasGroups H F role cards (before ++ c ∷ []) (with_role cards (role c.spec) g)
  groups_with role before c g has =
      let number = number_with (role c.spec) g in
      let one = at_most_one (role c.spec) in
      let longer = length-append before (c ∷ []) in
      record {
        number = number ∙ ap (λ n. n + one_if_heading (role c.spec)) has.number ∙ sym (groups-push role before c);
        last = subst (λ o. IsOpen H F cards o (with_role cards (role c.spec) g)) (sym (open_group-push role before c)) (still_open (open_group role before) (role c.spec) g has.last);
        few = omega (arith, has.few);
      }
