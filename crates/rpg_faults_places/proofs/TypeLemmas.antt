-- The joined lengths of record types, card by card.
use Rattle.std.proofs.Common.{◌≡◌, ◌≢◌, ℕ, ◌+◌, ◌-◌, ◌≤◌, min, Bool, true, false, cond, List, [], ◌∷◌, ◌++◌, map, length, get_or, Option, None, Some, refl, sym, ap, ◌∙◌, arith, eq-eqb, ne_eqb, ◌==◌}
use Rattle.std.proofs.Math.ListN.{set}
use Rattle.std.proofs.lemmas.List.Elements.{filter-append, filter_map-append}
use Rattle.std.proofs.lemmas.List.Sums.{sum_by-append}
use Rattle.std.specs.List.{filter, sum_by}
use Rattle.std.specs.Option.{option_map, option_map_or, option_or}
use Rattle.rpg_cards.proofs.GroupLemmas.{one_if_heading}
use Rattle.rpg_cards.specs.Cards.{input_field_in}
use Rattle.rpg_cards.specs.Groups.{Apart, Follower, Group, Heading, Role, followers, groups, input_role, open_group}
use Rattle.rpg_cards.specs.Levels.{input_fields}
use Rattle.rpg_cards.specs.declared.spec_card.SpecCard.{SpecCard}
use Rattle.rpg_faults_places.proofs.LevelLemmas.{map_at_levels, same_at_levels, set_level, item_at}
use Rattle.rpg_faults_places.proofs.OpenTypes.{open_apart, open_follower, open_heading, type_group, types_before, types_other, types_with}
use Rattle.rpg_faults_places.specs.Lengths.{AreJoinedLengths, first_lengths, input_specs_in, lengths_of}
use Rattle.rpg_faults_places.specs.Places.{first_length, input_columns, is_at_level, joined_length, level_fields, level_length, levels}
use Rattle.rpg_faults_places.specs.declared.lengths.JoinedLengths.{JoinedLengths}
use Rattle.rpg_sheet_specs.specs.declared.indicator.Three.{Three}
use Rattle.rpg_sheet_specs.specs.declared.input.InputFieldSpec.{InputFieldSpec}
use Rattle.rpg_sheet_specs.specs.declared.input.InputSpec.{InputSpec}
use Rattle.rpg_sheet_specs.specs.declared.input.InputSpec.TheVariants as input
use Rattle.rpg_sheet_specs.specs.declared.input.RecordCode.{RecordCode}
use Rattle.rpg_sheet_specs.specs.declared.input.RecordType.{RecordType}

-- ---- the first lengths

or_or : {X : Type 0} (a b c : Option X) → option_or a (option_or b c) ≡ option_or (option_or a b) c
or_or None b c = refl
or_or (Some x) b c = refl

or_none : {X : Type 0} (a : Option X) → option_or a None ≡ a
or_none None = refl
or_none (Some x) = refl

-- with a further type
first_length-push : (level : ℕ) (gs : List (Group RecordType InputSpec)) (g : Group RecordType InputSpec) → first_length level (gs ++ g ∷ []) ≡ option_or (first_length level gs) (level_length level g.followers)
first_length-push level [] g = or_none (level_length level g.followers)
first_length-push level (x ∷ xs) g = ap (option_or (level_length level x.followers)) (first_length-push level xs g) ∙ or_or (level_length level x.followers) (first_length level xs) (level_length level g.followers)

module _ (before : List SpecCard) (c : SpecCard) (after : List SpecCard) where
  abbrev pub first_before : ℕ → Option ℕ
  first_before level = first_length level (groups input_role before)

  -- before a type the groups are whole
  pub first_lengths-before : (t : RecordType) → input_role c.spec ≡ Heading t t.file → first_lengths (before ++ c ∷ after) before ≡ map first_before levels
  first_lengths-before t is = ap (λ gs. map (λ level. first_length level gs) levels) (types_before before c after t is)

  -- after a type it counts with all its fields
  first_lengths-type : (t : RecordType) → input_role c.spec ≡ Heading t t.file
      → first_lengths (before ++ c ∷ after) (before ++ c ∷ []) ≡ map (λ level. option_or (first_before level) (level_length level (followers input_role after))) levels
  first_lengths-type t is =
      ap (λ gs. map (λ level. first_length level gs) levels) (types_with before c after t is)
      ∙ same_at_levels (λ level. first_length level (groups input_role before ++ type_group before c after t ∷ [])) (λ level. option_or (first_before level) (level_length level (followers input_role after)))
      (λ level. first_length-push level (groups input_role before) (type_group before c after t))

  -- another card changes nothing
  first_lengths-other : one_if_heading (input_role c.spec) ≡ 0 → first_lengths (before ++ c ∷ after) (before ++ c ∷ []) ≡ first_lengths (before ++ c ∷ after) before
  first_lengths-other none = ap (λ gs. map (λ level. first_length level gs) levels) (types_other before c after none)

-- ---- the open type

joined-push : (level : ℕ) (specs : List InputSpec) (s : InputSpec) → joined_length level (specs ++ s ∷ []) ≡ joined_length level specs + joined_length level (s ∷ [])
joined-push level specs s =
    ap (λ fs. sum_by input_columns (filter (is_at_level level) fs)) (filter_map-append input_field_in specs (s ∷ []))
    ∙ ap (sum_by input_columns) (filter-append (is_at_level level) (input_fields specs) (input_fields (s ∷ [])))
    ∙ sum_by-append input_columns (level_fields level specs) (level_fields level (s ∷ []))

-- a card without columns at a level
lengths_of-other : (specs : List InputSpec) (s : InputSpec) → ((level : ℕ) → joined_length level (s ∷ []) ≡ 0) → lengths_of (specs ++ s ∷ []) ≡ lengths_of specs
lengths_of-other specs s none =
    same_at_levels (λ level. min (joined_length level (specs ++ s ∷ [])) 65535) (λ level. min (joined_length level specs) 65535)
    (λ level. ap (λ n. min n 65535) (joined-push level specs s ∙ ap (λ n. joined_length level specs + n) (none level) ∙ omega arith))

joined_at : (level : ℕ) (f : InputFieldSpec) (b : Bool) → is_at_level level f ≡ b → joined_length level (input.Field f ∷ []) ≡ cond b (input_columns f) 0
joined_at level f true is = ap (λ b. sum_by input_columns (cond b (f ∷ []) [])) is ∙ omega arith
joined_at level f false is = ap (λ b. sum_by input_columns (cond b (f ∷ []) [])) is

lengths_of-none : (specs : List InputSpec) (f : InputFieldSpec) → f.level ≡ None → lengths_of specs ≡ lengths_of (specs ++ input.Field f ∷ [])
lengths_of-none specs f none = sym (lengths_of-other specs (input.Field f) (λ level. joined_at level f false (ap (λ o. option_map_or (λ l. l == level) o false) none)))

lengths_of-level : (specs : List InputSpec) (f : InputFieldSpec) (lengths : List ℕ) (n columns length : ℕ) → lengths ≡ lengths_of specs → f.level ≡ Some n → 1 ≤ n → n ≤ 9 → columns ≡ input_columns f
    → length ≡ min (get_or lengths (n - 1) 0 + columns) 65535 → set lengths (n - 1) length ≡ lengths_of (specs ++ input.Field f ∷ [])
lengths_of-level specs f lengths n columns length was at low high of is =
    ap (λ ls. set ls (n - 1) length) was ∙ set_level (λ level. min (joined_length level specs) 65535) (λ level. min (joined_length level (specs ++ input.Field f ∷ [])) 65535) 0 n length low high new old
  where
    here : is_at_level n f ≡ true
    here = ap (λ o. option_map_or (λ l. l == n) o false) at ∙ eq-eqb n n refl

    new : length ≡ min (joined_length n (specs ++ input.Field f ∷ [])) 65535
    new =
        let item = ap (λ ls. get_or ls (n - 1) 0) was ∙ item_at (λ level. min (joined_length level specs) 65535) n 0 low high in
        let push = joined-push n specs (input.Field f) in
        let own = joined_at n f true here in
        omega arith

    old : (level : ℕ) → level ≢ n → min (joined_length level (specs ++ input.Field f ∷ [])) 65535 ≡ min (joined_length level specs) 65535
    old level other =
        let apart : is_at_level level f ≡ false = ap (λ o. option_map_or (λ l. l == level) o false) at ∙ ne_eqb n level (λ e. other (sym e)) in
        ap (λ n. min n 65535) (joined-push level specs (input.Field f) ∙ ap (λ k. joined_length level specs + k) (joined_at level f false apart) ∙ omega arith)

module _ (f : InputFieldSpec) (lengths : List ℕ) (specs : Option (List InputSpec)) (was : Some lengths ≡ option_map lengths_of specs) where
  pub field_without_level : f.level ≡ None → Some lengths ≡ option_map (λ fs. lengths_of (fs ++ input.Field f ∷ [])) specs
  field_without_level none = by specs was
    where
      by : (o : Option (List InputSpec)) → Some lengths ≡ option_map lengths_of o → Some lengths ≡ option_map (λ fs. lengths_of (fs ++ input.Field f ∷ [])) o
      by None e = cc
      by (Some fs) e = e ∙ ap (λ ls. Some ls) (lengths_of-none fs f none)

  pub field_with_level : (n columns length : ℕ) → f.level ≡ Some n → 1 ≤ n → n ≤ 9 → columns ≡ input_columns f → length ≡ min (get_or lengths (n - 1) 0 + columns) 65535
      → Some (set lengths (n - 1) length) ≡ option_map (λ fs. lengths_of (fs ++ input.Field f ∷ [])) specs
  field_with_level n columns length at low high of is = by specs was
    where
      by : (o : Option (List InputSpec)) → Some lengths ≡ option_map lengths_of o → Some (set lengths (n - 1) length) ≡ option_map (λ fs. lengths_of (fs ++ input.Field f ∷ [])) o
      by None e = cc
      by (Some fs) e = let same : lengths ≡ lengths_of fs = cc in ap (λ ls. Some ls) (lengths_of-level fs f lengths n columns length same at low high of is)

-- ---- both, card by card

pub nothing_joined : (source : List SpecCard) → AreJoinedLengths source [] (record { first = None ∷ None ∷ None ∷ None ∷ None ∷ None ∷ None ∷ None ∷ None ∷ []; open_type = None })
unfolding levels
nothing_joined source = record { first = refl; open_type = refl }

no_lengths : 0 ∷ 0 ∷ 0 ∷ 0 ∷ 0 ∷ 0 ∷ 0 ∷ 0 ∷ 0 ∷ [] ≡ lengths_of []
unfolding levels
no_lengths = refl

module _ (before : List SpecCard) (c : SpecCard) (after : List SpecCard) (j : JoinedLengths) (was : AreJoinedLengths (before ++ c ∷ after) before j) where
  pub with_type : (t : RecordType) (first : List (Option ℕ)) → input_role c.spec ≡ Heading t t.file
      → first ≡ map (λ level. option_or (get_or j.first (level - 1) None) (level_length level (followers input_role after))) levels
      → AreJoinedLengths (before ++ c ∷ after) (before ++ c ∷ []) (record { first = first; open_type = Some (0 ∷ 0 ∷ 0 ∷ 0 ∷ 0 ∷ 0 ∷ 0 ∷ 0 ∷ 0 ∷ []) })
  with_type t first is made = record {
    first = made ∙ ap (λ ls. map (λ level. option_or (get_or ls (level - 1) None) (level_length level (followers input_role after))) levels) (was.first ∙ first_lengths-before before c after t is)
        ∙ map_at_levels (first_before before c after) (λ x level. option_or x (level_length level (followers input_role after))) None ∙ sym (first_lengths-type before c after t is);
    open_type = ap (λ ls. Some ls) no_lengths ∙ sym (open_heading before c after lengths_of t is);
  }

  first_other : (r : Role RecordType InputSpec) → input_role c.spec ≡ r → one_if_heading r ≡ 0 → j.first ≡ first_lengths (before ++ c ∷ after) (before ++ c ∷ [])
  first_other r is none = was.first ∙ sym (first_lengths-other before c after (ap (λ (r : Role RecordType InputSpec). one_if_heading r) is ∙ none))

  pub with_field : (f : InputFieldSpec) (new : Option (List ℕ)) → input_role c.spec ≡ Follower (input.Field f)
      → ((specs : Option (List InputSpec)) → j.open_type ≡ option_map lengths_of specs → new ≡ option_map (λ fs. lengths_of (fs ++ input.Field f ∷ [])) specs)
      → AreJoinedLengths (before ++ c ∷ after) (before ++ c ∷ []) (record { first = j.first; open_type = new })
  with_field f new is made = record {
    first = first_other (Follower (input.Field f)) is refl;
    open_type = made (input_specs_in (open_group input_role before)) was.open_type ∙ sym (open_follower before c after lengths_of (input.Field f) is);
  }

  pub with_codes : (codes : Three (Option RecordCode)) → input_role c.spec ≡ Follower (input.And codes) → AreJoinedLengths (before ++ c ∷ after) (before ++ c ∷ []) j
  with_codes codes is = record {
    first = first_other (Follower (input.And codes)) is refl;
    open_type = was.open_type ∙ by (input_specs_in (open_group input_role before)) ∙ sym (open_follower before c after lengths_of (input.And codes) is);
  }
    where
      by : (o : Option (List InputSpec)) → option_map lengths_of o ≡ option_map (λ fs. lengths_of (fs ++ input.And codes ∷ [])) o
      by None = refl
      by (Some fs) = ap (λ ls. Some ls) (sym (lengths_of-other fs (input.And codes) (λ level. refl)))

  pub with_apart : input_role c.spec ≡ Apart → AreJoinedLengths (before ++ c ∷ after) (before ++ c ∷ []) j
  with_apart is = record {
    first = first_other Apart is refl;
    open_type = was.open_type ∙ sym (open_apart before c after lengths_of is);
  }

-- the joined length of a level in the open type
pub length_in : (o : Option (Group RecordType InputSpec)) (lengths : List ℕ) (level : ℕ) → 1 ≤ level → level ≤ 9 → Some lengths ≡ option_map lengths_of (input_specs_in o)
    → get_or lengths (level - 1) 0 ≡ min (joined_length level (option_map_or (λ g. g.followers) o [])) 65535
length_in None lengths level low high is = cc
length_in (Some g) lengths level low high is =
    let same : lengths ≡ lengths_of g.followers = cc in
    ap (λ ls. get_or ls (level - 1) 0) same ∙ item_at (λ level. min (joined_length level g.followers) 65535) level 0 low high
