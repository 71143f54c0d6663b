-- No record type of the program of a source without a fault breaks a rule.
use Rattle.std.proofs.Common.{◌≡◌, ℕ, ◌+◌, ◌-◌, ◌≤◌, Bool, true, false, cond, not, ◌&&◌, ◌||◌, List, [], ◌∷◌, ◌++◌, append-nil, filter, length, map, Option, None, Some, refl, sym, ap, ◌∙◌, subst, arith}
use Rattle.std.proofs.lemmas.Bool.{and_from, eq-eqb, eqb-false, eqb-true, le-leb, ltb-false, ne_eqb, not_from_true}
use Rattle.std.proofs.lemmas.List.Sums.{sum_by-cons}
use Rattle.std.proofs.lemmas.Option.{same_Some}
use Rattle.std.proofs.lemmas.List.Elements.{filter-append, filter_map-append}
use Rattle.std.specs.List.{cons_option, filter_map, flat_map, sum}
use Rattle.std.specs.Option.{option_map, option_map_or}
use Rattle.std.specs.Prelude.{nat_le, nat_lt, sum_by, ◌==◌}
use Rattle.rpg_cards.specs.Statements.{shows_of}
use Rattle.rpg_cards.specs.Keys.{Key, Named}
use Rattle.rpg_cards.specs.Plain.{Each}
use Rattle.rpg_cards.proofs.GroupLemmas.{open_group-push}
use Rattle.rpg_cards.specs.Cards.{input_field_in}
use Rattle.rpg_cards.specs.Files.{file_by, file_for, file_use, is_input}
use Rattle.rpg_cards.specs.Groups.{Apart, Follower, Group, Heading, Role, followers, groups, input_role, open_file, open_group, with_card}
use Rattle.rpg_cards.specs.Levels.{control_level, is_match_field, match_level}
use Rattle.rpg_cards.specs.declared.files.FileUse.{FileUse}
use Rattle.rpg_cards.specs.declared.files.FileUse.TheVariants.{Disk, Primary, Printer, Secondary}
use Rattle.rpg_cards.specs.declared.spec_card.SpecCard.{SpecCard}
use Rattle.rpg_compile_program.proofs.Each.{each_append, each_map, each_passes, each_row, none_broken, none_passes}
use Rattle.rpg_program.specs.Forms.{form_at, kind_of}
use Rattle.rpg_program.specs.Input.{TypeRow, fits_columns, fits_shows}
use Rattle.rpg_program.specs.declared.input.ControlField.{ControlField}
use Rattle.rpg_program.specs.declared.input.InputField as row
use Rattle.rpg_program.specs.declared.input.RecordCode as row_code
use Rattle.rpg_program.specs.declared.form.FieldForm.{FieldForm}
use Rattle.rpg_faults_operands.specs.Indicators.{any_of, cannot_be_set}
use Rattle.rpg_faults_places.specs.Places.{first_length, first_valid_matches, valid_matches, has_other_lengths, has_other_matches, input_columns, is_at_level, is_past, joined_length, joins_badly, lengths_differ, level_fields, level_length, levels, matched_fields, matches_badly, matches_differ, open_specs, outside_on_input, outside_record, own_file, passes_length, passes_matches, repeats}
use Rattle.rpg_program.specs.Object.{Object, input_length}
use Rattle.rpg_program.specs.Naming.{renamed_input, renamed_type}
use Rattle.rpg_verify_rules.proofs.Kept.{NoneTrue}
use Rattle.rpg_verify_rules.specs.Rules.{broken}
use Rattle.rpg_verify_rules.specs.TypeRules.{are_joined_as, are_matches, is_code_in, is_control_in, is_input_in, is_input_shown, is_measured, joined_widths, measure, shows_wrongly, type_breaks}
use Rattle.rpg_verify_rules.specs.TypeRules as rule
use Rattle.rpg_verify_rules.specs.declared.rule.Rule.TheVariants as verifier
use Rattle.rpg_verify_rules.specs.declared.rule.TypeRule.{TypeRule}
use Rattle.rpg_verify_rules.specs.declared.rule.TypeRule.TheVariants.{V3, V4, V5, V6, V7, V25, V26}
use Rattle.rpg_sheet_specs.specs.declared.file.FileSpec.{FileSpec}
use Rattle.rpg_sheet_specs.specs.declared.input.InputFieldSpec.{InputFieldSpec}
use Rattle.rpg_sheet_specs.specs.declared.input.InputSpec.{InputSpec}
use Rattle.rpg_sheet_specs.specs.declared.input.InputSpec.TheVariants as input
use Rattle.rpg_sheet_specs.specs.declared.input.RecordType.{RecordType}
use Rattle.rpg_sheet_specs.specs.declared.spec.Spec.TheVariants as spec
use Rattle.rpg_compile_program.proofs.InputTypes.{InFile, IsFieldValid, IsInputValid, codes_in, each_type, follower_on, form_of_field, heading_on, marks_type, outside_kept, shown_so}
use Rattle.rpg_compile_program.proofs.Joined as levelled
use Rattle.rpg_compile_program.proofs.Joined.{HasColumns, Joined, all_nine, each_level, first_joined, first_same, measured, same_sum}
use Rattle.rpg_compile_program.proofs.LevelSums.{IsOfNine, at_most_nine, sum_of_widths}
use Rattle.rpg_compile_program.proofs.Lists.{each_card, front_keeps, or_first, or_second}
use Rattle.rpg_compile_program.proofs.Matched.{AreFew, IsOnce, Matches, columns_same, first_rows, firsts, matched, none_few, once_same, stay_few}
use Rattle.rpg_compile_program.proofs.Numbers.{forms_same, standing}
use Rattle.rpg_compile_program.proofs.OpenGroups.{HasValid, InGroup, IsAmong, each_among, each_valid, each_open}
use Rattle.rpg_compile_program.specs.Lines.{record_length_of}
use Rattle.rpg_compile_program.specs.Program.{key_numbers, program_of}
use Rattle.rpg_compile_program.specs.Ranges.{AreCards}
use Rattle.rpg_compile_program.specs.Rules.{KeepsCardRules}
use Rattle.rpg_compile_program.specs.Table.{key_form, table_of}
use Rattle.rpg_compile_program.specs.Types.{and_card_codes, card_type, codes_of, control_field, field_at_level, file_read, input_fields_in, input_file, input_row}
use Rattle.rpg_compile_program.proofs.Conditions.{all_settable}

-- ---- columns

in_columns : (file : Option FileSpec) (f : InputFieldSpec) → outside_record file f ≡ false → HasColumns f
in_columns file f e =
    let some = eqb-false f.from 0 (or_first (f.from == 0) _ e) in
    let rest = or_second (f.to == 0) _ (or_second (f.from == 0) _ e) in
    record { first = omega (arith, some); order = ltb-false f.to f.from (or_first (nat_lt f.to f.from) (is_past file f.to) rest) }

inside : (file : Option FileSpec) (g : FileSpec) (f : InputFieldSpec) → file ≡ Some g → outside_record file f ≡ false → f.to ≤ g.record_length
inside file g f is e =
    let rest = or_second (nat_lt f.to f.from) (is_past file f.to) (or_second (f.to == 0) _ (or_second (f.from == 0) _ e)) in
    ltb-false g.record_length f.to (sym (ap (λ o. is_past o f.to) is) ∙ rest)

-- ---- from the cards of a group to its fields

each_field : (P : InputSpec → Type 0) (Q : InputFieldSpec → Type 0) → ((f : InputFieldSpec) → P (input.Field f) → Q f) → (is : List InputSpec) → Each P is → Each Q (input_fields_in is)
each_field P Q f [] h = tt
each_field P Q f (input.Type t ∷ is) h = each_field P Q f is h.1
each_field P Q f (input.And cs ∷ is) h = each_field P Q f is h.1
each_field P Q f (input.Field x ∷ is) h = (f x h.0, each_field P Q f is h.1)

each_code : (P : InputSpec → Type 0) (Q : row_code.RecordCode → Type 0) → ((i : InputSpec) → P i → Each Q (and_card_codes i)) → (is : List InputSpec) → Each P is → Each Q (flat_map and_card_codes is)
each_code P Q f [] h = tt
each_code P Q f (i ∷ is) h = each_append Q (and_card_codes i) (flat_map and_card_codes is) (f i h.0) (each_code P Q f is h.1)

module _ (level_of : InputFieldSpec → Option ℕ) where
  each_level_field : (P : InputFieldSpec → Type 0) (Q : ControlField → Type 0) → ((f : InputFieldSpec) (l : ℕ) → level_of f ≡ Some l → P f → Q (control_field f l)) → (fs : List InputFieldSpec) → Each P fs → Each Q (filter_map (field_at_level level_of) fs)
  each_level_field P Q f [] h = tt
  each_level_field P Q f (x ∷ fs) h = by (level_of x) refl (each_level_field P Q f fs h.1)
    where
      by : (o : Option ℕ) → level_of x ≡ o → Each Q (filter_map (field_at_level level_of) fs) → Each Q (cons_option (option_map (control_field x) o) (filter_map (field_at_level level_of) fs))
      by None e r = r
      by (Some l) e r = (f x l e h.0, r)

module _ (cards : List SpecCard) (rules : KeepsCardRules cards) (ranges : AreCards cards) where
  -- ---- a type's columns are valid, and its joined lengths at most 256

  has_columns : (g : Group RecordType InputSpec) → InFile cards rules ranges g → levelled.InGroup g
  has_columns g h = each_field (IsInputValid cards rules ranges g.file) HasColumns (λ f x. in_columns (file_by g.file cards) f x.outside) g.followers h.1.1

  abbrev FewJoined : Group RecordType InputSpec → Type 0
  FewJoined g = (level : ℕ) → Joined level g ≤ 256

  one_joined : (level : ℕ) (is : List InputSpec) (f : InputFieldSpec) → joined_length level (is ++ input.Field f ∷ []) ≡ joined_length level is + cond (is_at_level level f) (input_columns f) 0
  one_joined level [] f = by (is_at_level level f)
    where
      by : (b : Bool) → sum_by input_columns (cond b (f ∷ []) []) ≡ sum_by input_columns [] + cond b (input_columns f) 0
      by true = sum_by-cons input_columns f [] ∙ omega arith
      by false = omega arith
  one_joined level (input.Type t ∷ is) f = one_joined level is f
  one_joined level (input.And cs ∷ is) f = one_joined level is f
  one_joined level (input.Field x ∷ is) f = by (is_at_level level x) (one_joined level is f)
    where
      by : (b : Bool) → joined_length level (is ++ input.Field f ∷ []) ≡ joined_length level is + cond (is_at_level level f) (input_columns f) 0
          → sum_by input_columns (cond b (x ∷ level_fields level (is ++ input.Field f ∷ [])) (level_fields level (is ++ input.Field f ∷ []))) ≡ sum_by input_columns (cond b (x ∷ level_fields level is) (level_fields level is)) + cond (is_at_level level f) (input_columns f) 0
      by true r = let a = sum_by-cons input_columns x (level_fields level (is ++ input.Field f ∷ [])) in let b = sum_by-cons input_columns x (level_fields level is) in omega arith
      by false r = r

  no_joined : (level : ℕ) (is : List InputSpec) (i : InputSpec) → ((f : InputFieldSpec) → i ≡ input.Field f → ⊥) → joined_length level (is ++ i ∷ []) ≡ joined_length level is
  no_joined level [] (input.Type t) other = refl
  no_joined level [] (input.And cs) other = refl
  no_joined level [] (input.Field f) other = absurd (other f refl)
  no_joined level (input.Type t ∷ is) i other = no_joined level is i other
  no_joined level (input.And cs ∷ is) i other = no_joined level is i other
  no_joined level (input.Field x ∷ is) i other = by (is_at_level level x) (no_joined level is i other)
    where
      by : (b : Bool) → joined_length level (is ++ i ∷ []) ≡ joined_length level is → sum_by input_columns (cond b (x ∷ level_fields level (is ++ i ∷ [])) (level_fields level (is ++ i ∷ []))) ≡ sum_by input_columns (cond b (x ∷ level_fields level is) (level_fields level is))
      by true r = sum_by-cons input_columns x (level_fields level (is ++ i ∷ [])) ∙ ap (λ n. input_columns x + n) r ∙ sym (sum_by-cons input_columns x (level_fields level is))
      by false r = r

  -- one more field of the open type
  stays_few : (f : InputFieldSpec) (is : List InputSpec) (o : Option ℕ) → f.level ≡ o → ((level : ℕ) → joined_length level is ≤ 256) → option_map_or (λ level. nat_le (joined_length level is) 256 && nat_lt 256 (joined_length level is + input_columns f)) o false ≡ false
      → (level : ℕ) → joined_length level is + cond (option_map_or (λ l. l == level) o false) (input_columns f) 0 ≤ 256
  stays_few f is None e few passes level = let h = few level in omega arith
  stays_few f is (Some l) e few passes level = by (l == level) refl
    where
      second : (b : Bool) → b ≡ true → (b && nat_lt 256 (joined_length l is + input_columns f)) ≡ false → joined_length l is + input_columns f ≤ 256
      second true t h = ltb-false 256 (joined_length l is + input_columns f) h
      second false t h = cc

      by : (b : Bool) → (l == level) ≡ b → joined_length level is + cond b (input_columns f) 0 ≤ 256
      by true t = subst (λ n. joined_length n is + input_columns f ≤ 256) (eqb-true l level t) (second (nat_le (joined_length l is) 256) (le-leb (joined_length l is) 256 (few l)) passes)
      by false t = let h = few level in omega arith

  IfOpen : Option (Group RecordType InputSpec) → Type 0
  IfOpen o = (g : Group RecordType InputSpec) → o ≡ Some g → FewJoined g

  joins_well : (before : List SpecCard) (c : SpecCard) (after : List SpecCard) (i : InputSpec) → cards ≡ before ++ c ∷ after → c.spec ≡ spec.Input i → joins_badly before after i ≡ false
  joins_well before c after i split is = or_second (outside_on_input (file_by (own_file before i) cards) i) (joins_badly before after i) (outside_kept cards rules ranges before c after i split is)

  passes_not : (before : List SpecCard) (c : SpecCard) (after : List SpecCard) (f : InputFieldSpec) → cards ≡ before ++ c ∷ after → c.spec ≡ spec.Input (input.Field f) → passes_length before f ≡ false
  passes_not before c after f split is = or_first (passes_length before f) (matches_badly before after (input.Field f)) (joins_well before c after (input.Field f) split is)

  with_one : (before : List SpecCard) (c : SpecCard) (after : List SpecCard) → cards ≡ before ++ c ∷ after → (r : Role RecordType InputSpec) → input_role c.spec ≡ r → (o : Option (Group RecordType InputSpec)) → open_group input_role before ≡ o
      → IfOpen o → IfOpen (with_card o r)
  unfolding IfOpen
  with_one before c after split (Heading t name) role o e few g is = λ level. subst (λ (x : Group RecordType InputSpec). Joined level x ≤ 256) (same_Some _ g is) (omega arith)
  with_one before c after split Apart role o e few g is = few g is
  with_one before c after split (Follower i) role None e few g is = absurd cc
  with_one before c after split (Follower i) role (Some x) e few g is = λ level. subst (λ (y : Group RecordType InputSpec). Joined level y ≤ 256) (same_Some _ g is) (by i role level)
    where
      specs : open_specs before ≡ x.followers
      specs = ap (λ o. option_map_or (λ (y : Group RecordType InputSpec). y.followers) o []) e

      by : (i : InputSpec) → input_role c.spec ≡ Follower i → (level : ℕ) → joined_length level (x.followers ++ i ∷ []) ≤ 256
      by (input.Type t) role level = subst (λ n. n ≤ 256) (sym (no_joined level x.followers (input.Type t) (λ f same. cc))) (few x refl level)
      by (input.And cs) role level = subst (λ n. n ≤ 256) (sym (no_joined level x.followers (input.And cs) (λ f same. cc))) (few x refl level)
      by (input.Field f) role level =
          let passes = passes_not before c after f split (follower_on c.spec (input.Field f) role) in
          subst (λ n. n ≤ 256) (sym (one_joined level x.followers f))
          (stays_few f x.followers f.level refl (few x refl) (sym (ap (λ is. option_map_or (λ level. nat_le (joined_length level is) 256 && nat_lt 256 (joined_length level is + input_columns f)) f.level false) specs) ∙ passes) level)

  few_open : (before after : List SpecCard) → cards ≡ before ++ after → IfOpen (open_group input_role before)
  unfolding IfOpen
  few_open before after split =
      front_keeps cards (λ cs. IfOpen (open_group input_role cs))
      (λ b c a s h. subst IfOpen (sym (open_group-push input_role b c)) (with_one b c a s (input_role c.spec) refl (open_group input_role b) refl h))
      (λ g e. absurd cc) before after split

  each_few : Each FewJoined (groups input_role cards)
  unfolding IfOpen
  each_few = each_open input_role cards FewJoined (λ before after split g e. few_open before after split g e)

  -- ---- each match level of a type stands once, and they take at most 256 columns

  abbrev HasFewMatches : Group RecordType InputSpec → Type 0
  HasFewMatches g = AreFew (matched_fields g.followers)

  matches_more : (is : List InputSpec) (i : InputSpec) → matched_fields (is ++ i ∷ []) ≡ matched_fields is ++ matched_fields (i ∷ [])
  matches_more is i =
      ap (filter is_match_field) (filter_map-append input_field_in is (i ∷ [])) ∙ filter-append is_match_field (filter_map input_field_in is) (filter_map input_field_in (i ∷ []))

  matches_stay_few : (before : List SpecCard) (c : SpecCard) (after : List SpecCard) (is : List InputSpec) (i : InputSpec) → cards ≡ before ++ c ∷ after → c.spec ≡ spec.Input i → open_specs before ≡ is
      → AreFew (matched_fields is) → AreFew (matched_fields is ++ matched_fields (i ∷ []))
  matches_stay_few before c after is (input.Type t) split on specs few = subst AreFew (sym (append-nil (matched_fields is))) few
  matches_stay_few before c after is (input.And cs) split on specs few = subst AreFew (sym (append-nil (matched_fields is))) few
  matches_stay_few before c after is (input.Field f) split on specs few =
      let right = or_second (passes_length before f) (matches_badly before after (input.Field f)) (joins_well before c after (input.Field f) split on) in
      stay_few (matched_fields is) f few (subst (λ xs. (repeats (matched_fields xs) f || passes_matches (matched_fields xs) f) ≡ false) specs right)

  IfOpenFew : Option (Group RecordType InputSpec) → Type 0
  IfOpenFew o = (g : Group RecordType InputSpec) → o ≡ Some g → HasFewMatches g

  with_one_few : (before : List SpecCard) (c : SpecCard) (after : List SpecCard) → cards ≡ before ++ c ∷ after → (r : Role RecordType InputSpec) → input_role c.spec ≡ r → (o : Option (Group RecordType InputSpec)) → open_group input_role before ≡ o
      → IfOpenFew o → IfOpenFew (with_card o r)
  unfolding IfOpenFew
  with_one_few before c after split (Heading t name) role o e few g is = subst HasFewMatches (same_Some _ g is) none_few
  with_one_few before c after split Apart role o e few g is = few g is
  with_one_few before c after split (Follower i) role None e few g is = absurd cc
  with_one_few before c after split (Follower i) role (Some x) e few g is =
      let specs : open_specs before ≡ x.followers = ap (λ o. option_map_or (λ (y : Group RecordType InputSpec). y.followers) o []) e in
      subst HasFewMatches (same_Some _ g is)
      (subst AreFew (sym (matches_more x.followers i)) (matches_stay_few before c after x.followers i split (follower_on c.spec i role) specs (few x refl)))

  matches_open : (before after : List SpecCard) → cards ≡ before ++ after → IfOpenFew (open_group input_role before)
  unfolding IfOpenFew
  matches_open before after split =
      front_keeps cards (λ cs. IfOpenFew (open_group input_role cs))
      (λ b c a s h. subst IfOpenFew (sym (open_group-push input_role b c)) (with_one_few b c a s (input_role c.spec) refl (open_group input_role b) refl h))
      (λ g e. absurd cc) before after split

  each_few_matches : Each HasFewMatches (groups input_role cards)
  unfolding IfOpenFew
  each_few_matches = each_open input_role cards HasFewMatches (λ before after split g e. matches_open before after split g e)

  each_once : Each IsOnce (groups input_role cards)
  each_once = each_map HasFewMatches IsOnce (groups input_role cards) (λ g few. few.once) each_few_matches

  -- ---- a type among the others

  abbrev ValidField : InputSpec → Type 0
  ValidField i = (f : InputFieldSpec) → i ≡ input.Field f → HasColumns f

  abbrev ValidCard : SpecCard → Type 0
  ValidCard c = HasValid input_role ValidField c

  all_cards : Each ValidCard cards
  all_cards = each_card cards ValidCard (λ before c after split i role f same.
      in_columns (file_by (open_file input_role before) cards) f (or_first (outside_record (file_by (open_file input_role before) cards) f) _
      (outside_kept cards rules ranges before c after (input.Field f) split (follower_on c.spec i role ∙ ap spec.Input same))))

  each_first : {X : Type 0} (P : X → Type 0) (xs ys : List X) → Each P (xs ++ ys) → Each P xs
  each_first P [] ys h = tt
  each_first P (x ∷ xs) ys h = (h.0, each_first P xs ys h.1)

  front_valid : (before after : List SpecCard) → cards ≡ before ++ after → Each levelled.InGroup (groups input_role before)
  front_valid before after split =
      each_map (InGroup input_role ValidField) levelled.InGroup (groups input_role before) (λ g h. each_field ValidField HasColumns (λ f x. x f refl) g.followers h)
      (each_valid input_role ValidField before (each_first ValidCard before after (subst (Each ValidCard) split all_cards)))

  abbrev Alike : List (Group RecordType InputSpec) → Group RecordType InputSpec → ℕ → Type 0
  Alike front g level = lengths_differ (first_length level front) (level_length level g.followers) ≡ false

  record IsAlike (front : List (Group RecordType InputSpec)) (g : Group RecordType InputSpec) : Type 0 where
    valid : Each levelled.InGroup front
    by_level : Each (Alike front g) levels
    matches : matches_differ (first_valid_matches front) (valid_matches (matched_fields g.followers)) ≡ false

  each_alike : Each (IsAmong input_role cards IsAlike) (groups input_role cards)
  each_alike = each_among input_role cards IsAlike (λ before c after t name split role.
      let card = heading_on c.spec t name role in
      let joins = joins_well before c after (input.Type t) split card.on in
      record {
        valid = front_valid before (c ∷ after) split;
        by_level = each_level (λ level. lengths_differ (first_length level (groups input_role before)) (level_length level (followers input_role after))) (or_first (has_other_lengths before after) (has_other_matches before after) joins);
        matches = or_second (has_other_lengths before after) (has_other_matches before after) joins;
      })

  each_of_lists : {X : Type 0} (P Q R : X → Type 0) (xs : List X) → ((x : X) → P x → Q x → R x) → Each P xs → Each Q xs → Each R xs
  each_of_lists P Q R [] f h g = tt
  each_of_lists P Q R (x ∷ xs) f h g = (f x h.0 g.0, each_of_lists P Q R xs f h.1 g.1)

  -- all that is known of a type
  record IsKnown (g : Group RecordType InputSpec) : Type 0 where
    filed : InFile cards rules ranges g
    few : FewJoined g
    few_matches : HasFewMatches g
    alike : IsAmong input_role cards IsAlike g

  record AreFewAlike (g : Group RecordType InputSpec) : Type 0 where
    few : FewJoined g
    few_matches : HasFewMatches g
    alike : IsAmong input_role cards IsAlike g

  record AreBothFew (g : Group RecordType InputSpec) : Type 0 where
    few : FewJoined g
    few_matches : HasFewMatches g

  each_known : Each IsKnown (groups input_role cards)
  each_known =
      each_of_lists (InFile cards rules ranges) AreFewAlike IsKnown (groups input_role cards) (λ g a b. record { filed = a; few = b.few; few_matches = b.few_matches; alike = b.alike }) (each_type cards rules ranges)
      (each_of_lists AreBothFew (IsAmong input_role cards IsAlike) AreFewAlike (groups input_role cards) (λ g a b. record { few = a.few; few_matches = a.few_matches; alike = b })
      (each_of_lists FewJoined HasFewMatches AreBothFew (groups input_role cards) (λ g a b. record { few = a; few_matches = b }) each_few each_few_matches) each_alike)

  -- ---- a type's match fields

  fields_valid : (g : Group RecordType InputSpec) → InFile cards rules ranges g → Each (IsFieldValid cards rules ranges g.file) (input_fields_in g.followers)
  fields_valid g h = each_field (IsInputValid cards rules ranges g.file) (IsFieldValid cards rules ranges g.file) (λ f x. x) g.followers h.1.1

  of_nine : (g : Group RecordType InputSpec) → InFile cards rules ranges g → Each IsOfNine (Matches g)
  of_nine g h = each_level_field match_level (IsFieldValid cards rules ranges g.file) IsOfNine (λ f l e x. x.range.match_level l e) (input_fields_in g.followers) (fields_valid g h)

  -- there are at most nine
  pub each_few_rows : Each (λ g. length (Matches g) ≤ 9) (groups input_role cards)
  each_few_rows = each_map IsKnown (λ g. length (Matches g) ≤ 9) (groups input_role cards) (λ g h. at_most_nine (Matches g) (of_nine g h.filed) (once_same (input_fields_in g.followers) h.few_matches.once)) each_known

  -- ---- the rules

  module _ (allowance : ℕ) where
    abbrev p : Object
    p = program_of cards allowance

    abbrev row_type : Group RecordType InputSpec → TypeRow ℕ
    row_type g = renamed_type (key_numbers cards) (card_type cards g)

    -- the length of its file's records
    abbrev length_at : Group RecordType InputSpec → ℕ
    length_at g = input_length p (row_type g).file

    read_length : (u : FileUse) → is_input u ≡ true → input_length p (file_read u) ≡ record_length_of (file_for u cards)
    unfolding program_of
    read_length Primary e = refl
    read_length Secondary e = refl
    read_length Printer e = cc
    read_length Disk e = cc

    record_is : (g : Group RecordType InputSpec) (h : InFile cards rules ranges g) → h.0.0.record_length ≡ length_at g
    record_is g h =
        sym (ap record_length_of h.0.3.only) ∙ sym (read_length (file_use h.0.0) h.0.2) ∙ ap (λ o. input_length p (input_file o)) (sym h.0.1)

    types_are : p.types ≡ map (renamed_type (key_numbers cards)) (map (card_type cards) (groups input_role cards))
    unfolding program_of
    types_are = refl

    form_is : (f : InputFieldSpec) (form : FieldForm) → key_form (table_of cards) (Named f.name) ≡ Some form → form_at p.fields (key_numbers cards (Named f.name)) ≡ Some form
    unfolding program_of
    form_is f form known = forms_same (table_of cards) (Named f.name) (standing (table_of cards) (Named f.name)) ∙ known

    module _ (g : Group RecordType InputSpec) (h : IsKnown g) where
      file_is : file_by g.file cards ≡ Some h.filed.0.0
      file_is = h.filed.0.1

      -- V3
      codes_right : Each (λ c. is_code_in (length_at g) c ≡ true) (row_type g).codes
      codes_right =
          each_append (λ c. is_code_in (length_at g) c ≡ true) (codes_of g.heading.codes) (flat_map and_card_codes g.followers)
          (codes_in (length_at g) (file_by g.file cards) h.filed.0.0 file_is (record_is g h.filed) g.heading.codes h.filed.1.0.codes)
          (each_code (IsInputValid cards rules ranges g.file) (λ c. is_code_in (length_at g) c ≡ true) more g.followers h.filed.1.1)
        where
          more : (i : InputSpec) → IsInputValid cards rules ranges g.file i → Each (λ c. is_code_in (length_at g) c ≡ true) (and_card_codes i)
          more (input.Type t) x = tt
          more (input.And cs) x = codes_in (length_at g) (file_by g.file cards) h.filed.0.0 file_is (record_is g h.filed) cs x.codes
          more (input.Field f) x = tt

      valid : Each (IsFieldValid cards rules ranges g.file) (input_fields_in g.followers)
      valid = fields_valid g h.filed

      within : (f : InputFieldSpec) → IsFieldValid cards rules ranges g.file f → f.to ≤ length_at g
      within f x = subst (λ n. f.to ≤ n) (record_is g h.filed) (inside (file_by g.file cards) h.filed.0.0 f file_is x.outside)

      -- V5
      control_right : (f : InputFieldSpec) (l : ℕ) → IsFieldValid cards rules ranges g.file f → is_control_in (length_at g) (control_field f l) ≡ true
      control_right f l x =
          let c = in_columns (file_by g.file cards) f x.outside in
          and_from _ _ (le-leb 1 f.from c.first) (and_from _ _ (le-leb f.from f.to c.order) (le-leb f.to (length_at g) (within f x)))

      level_right : (level : ℕ) → Alike h.alike.front g level → is_measured (measure level p.types) (rule.joined_width level (row_type g).levels) ≡ true
      level_right level same =
          let columns = has_columns g h.filed in
          let whole = each_map (InFile cards rules ranges) levelled.InGroup (groups input_role cards) has_columns (each_type cards rules ranges) in
          ap (λ ts. is_measured (measure level ts) (rule.joined_width level (row_type g).levels)) types_are
          ∙ (λ i. is_measured (first_same cards (key_numbers cards) level (groups input_role cards) whole i) (same_sum control_level level (input_fields_in g.followers) columns i))
          ∙ ap (λ gs. is_measured (first_joined level gs) (Joined level g)) h.alike.split
          ∙ measured level h.alike.front g h.alike.following h.alike.holds.valid columns (h.few level) same

      levels_right : rule.all_measured 1 (rule.measures p.types) (row_type g).levels ≡ true
      levels_right = all_nine p.types (row_type g).levels (each_map (Alike h.alike.front g) (λ level. is_measured (measure level p.types) (rule.joined_width level (row_type g).levels) ≡ true) levels level_right h.alike.holds.by_level)

      -- V26
      front_once : Each IsOnce h.alike.front
      front_once = each_first IsOnce h.alike.front (g ∷ h.alike.following) (subst (Each IsOnce) h.alike.split each_once)

      joined_alike : are_joined_as (joined_widths (rule.first_matches p.types)) (Matches g) ≡ true
      joined_alike =
          ap (λ ts. are_joined_as (joined_widths (rule.first_matches ts)) (Matches g)) types_are
          ∙ ap (λ cs. are_joined_as (joined_widths cs) (Matches g)) (first_rows cards (key_numbers cards) (groups input_role cards))
          ∙ ap (λ gs. are_joined_as (joined_widths (firsts gs)) (Matches g)) h.alike.split
          ∙ matched h.alike.front g h.alike.following h.alike.holds.valid front_once (has_columns g h.filed) h.few_matches.once h.alike.holds.matches

      few_columns : sum (joined_widths (Matches g)) ≤ 256
      few_columns =
          let widths = sum_of_widths (Matches g) (of_nine g h.filed) in
          let columns = columns_same (input_fields_in g.followers) (has_columns g h.filed) in
          let few = h.few_matches.columns in
          omega arith

      matches_right : are_matches (length_at g) (joined_widths (rule.first_matches p.types)) (row_type g).matches ≡ true
      matches_right =
          and_from _ _ (each_passes (is_control_in (length_at g)) (row_type g).matches
          (each_level_field match_level (IsFieldValid cards rules ranges g.file) (λ c. is_control_in (length_at g) c ≡ true) (λ f l e x. control_right f l x) (input_fields_in g.followers) valid))
          (and_from _ _ (once_same (input_fields_in g.followers) h.few_matches.once) (and_from _ _ (le-leb (sum (joined_widths (Matches g))) 256 few_columns) joined_alike))

      -- V6
      input_right : (f : InputFieldSpec) → IsFieldValid cards rules ranges g.file f → is_input_in p (length_at g) (renamed_input (key_numbers cards) (input_row f)) ≡ true
      input_right f x =
          let c = in_columns (file_by g.file cards) f x.outside in
          let form = form_of_field f x.form x.is in
          ap (fits_columns (length_at g) (renamed_input (key_numbers cards) (input_row f))) (form_is f x.form x.known)
          ∙ and_from _ _ (and_from _ _ (le-leb 1 f.from c.first) (and_from _ _ (le-leb f.from f.to c.order) (le-leb f.to (length_at g) (within f x))))
          (and_from _ _ form.plain (eq-eqb (f.to + 1 - f.from) x.form.length (sym form.long)))

      -- V7
      shown_right : (f : InputFieldSpec) → IsFieldValid cards rules ranges g.file f → is_input_shown p (renamed_input (key_numbers cards) (input_row f)) ≡ true
      shown_right f x =
          let form = form_of_field f x.form x.is in
          and_from _ _ (all_settable f.indicators (or_first (any_of cannot_be_set f.indicators) _ x.shown) x.range.indicators)
          (ap (λ o. fits_shows (kind_of o) (shows_of f.indicators)) (form_is f x.form x.known) ∙ ap (λ k. fits_shows k (shows_of f.indicators)) form.kind ∙ shown_so f.decimals f.indicators (or_second (any_of cannot_be_set f.indicators) _ x.shown))

      inputs_each : (P : row.InputField ℕ → Type 0) → ((f : InputFieldSpec) → IsFieldValid cards rules ranges g.file f → P (renamed_input (key_numbers cards) (input_row f))) → Each P (row_type g).inputs
      inputs_each P f =
          each_row (λ (x : row.InputField Key). P (renamed_input (key_numbers cards) x)) P (renamed_input (key_numbers cards)) (map input_row (input_fields_in g.followers)) (λ x y. y)
          (each_row (IsFieldValid cards rules ranges g.file) (λ (x : row.InputField Key). P (renamed_input (key_numbers cards) x)) input_row (input_fields_in g.followers) f valid)

      never_first : (a b : Bool) → a ≡ true → (not a && b) ≡ false
      never_first true b e = refl
      never_first false b e = cc

      type_right : (r : TypeRule) → type_breaks r p (row_type g) ≡ false
      unfolding type_breaks
      type_right V3 = not_from_true _ (each_passes (is_code_in (length_at g)) (row_type g).codes codes_right)
      type_right V4 = not_from_true _ (marks_type g.heading.indicator h.filed.1.0.indicator h.filed.1.0.range.indicator)
      type_right V5 =
          not_from_true _ (and_from _ _ (each_passes (is_control_in (length_at g)) (row_type g).levels
          (each_level_field control_level (IsFieldValid cards rules ranges g.file) (λ c. is_control_in (length_at g) c ≡ true) (λ f l e x. control_right f l x) (input_fields_in g.followers) valid)) levels_right)
      type_right V6 = not_from_true _ (each_passes (is_input_in p (length_at g)) (row_type g).inputs (inputs_each (λ f. is_input_in p (length_at g) f ≡ true) input_right))
      type_right V7 = none_passes (shows_wrongly p (length_at g)) (row_type g).inputs (inputs_each (λ f. shows_wrongly p (length_at g) f ≡ false) (λ f x. never_first _ _ (shown_right f x)))
      type_right V25 = ap (λ b. not (not b)) (ne_eqb (length_at g) 0 (λ z. let low = h.filed.0.3.lowest in let same = record_is g h.filed in omega (arith, z, low, same)))
      type_right V26 = not_from_true _ matches_right

    rows_right : (r : TypeRule) (gs : List (Group RecordType InputSpec)) → Each IsKnown gs → Each (λ t. type_breaks r p t ≡ false) (map (renamed_type (key_numbers cards)) (map (card_type cards) gs))
    rows_right r [] h = tt
    rows_right r (g ∷ gs) h = (type_right g h.0 r, rows_right r gs h.1)

    -- V3 to V7, V25 and V26
    pub types_kept : (r : TypeRule) → NoneTrue (broken (program_of cards allowance) (verifier.Type r))
    unfolding broken
    types_kept r = subst (λ ts. NoneTrue (map (type_breaks r p) ts)) (sym types_are) (none_broken (type_breaks r p) (map (renamed_type (key_numbers cards)) (map (card_type cards) (groups input_role cards))) (rows_right r (groups input_role cards) each_known))
