-- The record types up to the open one, and the cards of the open one, with one more card.
use Rattle.std.proofs.Common.{◌≡◌, ℕ, ◌+◌, List, [], ◌∷◌, ◌++◌, length, take, Option, None, Some, refl, ap, ◌∙◌, arith}
use Rattle.std.proofs.Math.Seq.{take-append-add}
use Rattle.std.specs.Option.{option_map, option_or}
use Rattle.rpg_cards.proofs.GroupLemmas.{groups-heading, groups-push, groups-taken, one_if_heading, open_group-push, file_after}
use Rattle.rpg_cards.specs.Groups.{Apart, Follower, Group, Heading, Role, followers, group_count, groups, groups_from, input_role, open_group, opening, with_card}
use Rattle.rpg_cards.specs.declared.spec_card.SpecCard.{SpecCard}
use Rattle.rpg_faults_places.specs.Lengths.{input_specs_in}
use Rattle.rpg_sheet_specs.specs.declared.input.InputSpec.{InputSpec}
use Rattle.rpg_sheet_specs.specs.declared.input.RecordType.{RecordType}

module _ (before : List SpecCard) (c : SpecCard) (after : List SpecCard) where
  abbrev pub all_cards : List SpecCard
  all_cards = before ++ c ∷ after

  abbrev pub with_c : List SpecCard
  with_c = before ++ c ∷ []

  abbrev pub types_up_to : List SpecCard → List (Group RecordType InputSpec)
  types_up_to front = take (group_count input_role front) (groups input_role all_cards)

  -- before a type the groups are whole
  pub types_before : (t : RecordType) → input_role c.spec ≡ Heading t t.file → types_up_to before ≡ groups input_role before
  types_before t is = groups-taken input_role before c after t t.file is

  abbrev pub last_file : Option (List ℕ)
  last_file = file_after input_role None before

  abbrev pub type_group : RecordType → Group RecordType InputSpec
  type_group t = record { heading = t; followers = followers input_role after; file = option_or t.file last_file }

  -- after a type it counts with all its fields
  pub types_with : (t : RecordType) → input_role c.spec ≡ Heading t t.file → types_up_to with_c ≡ groups input_role before ++ type_group t ∷ []
  types_with t is =
      ap (λ n. take n (groups input_role all_cards)) (groups-push input_role before c ∙ ap (λ (r : Role RecordType InputSpec). length (groups input_role before) + one_if_heading r) is)
      ∙ ap (take (length (groups input_role before) + 1)) (groups-heading input_role None before c after t t.file is ∙ ap (λ (r : Role RecordType InputSpec). groups input_role before ++ opening r last_file (followers input_role after) (λ own. groups_from input_role own after)) is)
      ∙ take-append-add (groups input_role before) (type_group t ∷ groups_from input_role (option_or t.file last_file) after) 1

  -- another card changes nothing
  pub types_other : one_if_heading (input_role c.spec) ≡ 0 → types_up_to with_c ≡ types_up_to before
  types_other none = ap (λ n. take n (groups input_role all_cards)) (groups-push input_role before c ∙ ap (λ n. length (groups input_role before) + n) none ∙ omega arith)

  -- ---- what is made of the cards of the open type

  module _ {X : Type 0} (made : List InputSpec → X) where
    abbrev pub made_of : List SpecCard → Option X
    made_of front = option_map made (input_specs_in (open_group input_role front))

    with_role : (r : Role RecordType InputSpec) → input_role c.spec ≡ r → made_of with_c ≡ option_map made (input_specs_in (with_card (open_group input_role before) r))
    with_role r is = ap (λ o. option_map made (input_specs_in o)) (open_group-push input_role before c ∙ ap (λ (r : Role RecordType InputSpec). with_card (open_group input_role before) r) is)

    pub open_heading : (t : RecordType) → input_role c.spec ≡ Heading t t.file → made_of with_c ≡ Some (made [])
    open_heading t is = with_role (Heading t t.file) is

    pub open_follower : (s : InputSpec) → input_role c.spec ≡ Follower s → made_of with_c ≡ option_map (λ specs. made (specs ++ s ∷ [])) (input_specs_in (open_group input_role before))
    open_follower s is = with_role (Follower s) is ∙ by (open_group input_role before)
      where
        by : (o : Option (Group RecordType InputSpec)) → option_map made (input_specs_in (with_card o (Follower s))) ≡ option_map (λ specs. made (specs ++ s ∷ [])) (input_specs_in o)
        by None = refl
        by (Some g) = refl

    pub open_apart : input_role c.spec ≡ Apart → made_of with_c ≡ made_of before
    open_apart is = with_role Apart is
