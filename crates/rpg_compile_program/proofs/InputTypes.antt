-- The record types of a source without a fault break no rule.
use Rattle.std.proofs.Common.{◌≡◌, ℕ, ◌+◌, ◌-◌, ◌≤◌, Bool, true, false, not, cond, ◌||◌, ◌&&◌, List, ◌∷◌, ◌++◌, map, Option, None, Some, refl, sym, ap, ◌∙◌, subst, arith}
use Rattle.std.proofs.lemmas.Bool.{and_from, eqb-false, le-leb, ltb-false}
use Rattle.std.proofs.lemmas.Option.{same_Some}
use Rattle.std.specs.Option.{ForSome, option_map_or, option_or, option_to_list}
use Rattle.std.specs.Prelude.{is_none, is_some, nat_le, nat_lt, ◌==◌}
use Rattle.rpg_cards.specs.Statements.{shows_of}
use Rattle.rpg_cards.specs.Keys.{Named}
use Rattle.rpg_cards.specs.Plain.{Each}
use Rattle.rpg_cards.specs.Cards.{input_on, output_record_on, type_on, file_on}
use Rattle.rpg_cards.specs.Files.{file_by, is_input, is_output}
use Rattle.rpg_cards.specs.Groups.{Follower, Group, Heading, groups, input_role, open_file, open_group, output_role}
use Rattle.rpg_cards.specs.Names.{definition_of, definitions_on, field_form, form_with, sized_form}
use Rattle.rpg_cards.specs.declared.spec_card.SpecCard.{SpecCard}
use Rattle.rpg_program.specs.Forms.{is_plain}
use Rattle.rpg_program.specs.Input.{fits_shows}
use Rattle.rpg_program.specs.declared.form.Class.TheVariants as class
use Rattle.rpg_program.specs.declared.form.FieldForm.{FieldForm}
use Rattle.rpg_program.specs.declared.form.Kind.{Kind}
use Rattle.rpg_program.specs.declared.form.Kind.TheVariants as kind
use Rattle.rpg_program.specs.declared.input.RecordCode as row_code
use Rattle.rpg_faults_limits.specs.Files.{bad_file, lacks_file}
use Rattle.rpg_faults_operands.specs.Indicators.{bad_on, bad_on_field, bad_on_input, cannot_mark_type}
use Rattle.rpg_faults_places.specs.Places.{bad_codes, is_code_outside, is_past, outside_on_input, outside_record, own_file, joins_badly}
use Rattle.rpg_program.specs.Kept.{IsIndicator}
use Rattle.rpg_verify_rules.specs.Indicators.{if_any, is_of_type}
use Rattle.rpg_verify_rules.specs.TypeRules.{is_code_in}
use Rattle.rpg_sheet_specs.specs.declared.file.FileSpec.{FileSpec}
use Rattle.rpg_sheet_specs.specs.declared.indicator.Three.{Three}
use Rattle.rpg_sheet_specs.specs.declared.input.InputFieldSpec.{InputFieldSpec}
use Rattle.rpg_sheet_specs.specs.declared.input.InputSpec.{InputSpec}
use Rattle.rpg_sheet_specs.specs.declared.input.InputSpec.TheVariants as input
use Rattle.rpg_sheet_specs.specs.declared.input.RecordCode.{RecordCode}
use Rattle.rpg_sheet_specs.specs.declared.input.RecordType.{RecordType}
use Rattle.rpg_sheet_specs.specs.declared.spec.Spec.{Spec}
use Rattle.rpg_sheet_specs.specs.declared.spec.Spec.TheVariants as spec
use Rattle.rpg_text.specs.Texts.{is_between}
use Rattle.rpg_compile_program.specs.Defined.{DefinesForm, IsForm}
use Rattle.rpg_compile_program.proofs.FiledGroups as filed
use Rattle.rpg_compile_program.proofs.Known.{input_kept}
use Rattle.rpg_compile_program.proofs.Lists.{or_first, or_second}
use Rattle.rpg_compile_program.proofs.OutputFiles as named_files
use Rattle.rpg_compile_program.proofs.Redefined.{HasName, card_defines, card_has_forms, key_defined}
use Rattle.rpg_compile_program.proofs.Settings.{valid_files}
use Rattle.rpg_compile_program.specs.Data.{kind_by}
use Rattle.rpg_compile_program.specs.Ranges.{AreCards, InThree, IsCard, IsCode, IsInRange, IsInput, IsInputField, IsType}
use Rattle.rpg_compile_program.specs.Rules.{KeepsCardRules}
use Rattle.rpg_compile_program.specs.Table.{key_form, table_of}
use Rattle.rpg_compile_program.specs.Types.{codes_of, record_code_of}
use Rattle.rpg_compile_program.proofs.Each.{three_of, each_at}

-- ---- what stands on an input card

pub follower_on : (s : Spec) (i : InputSpec) → input_role s ≡ Follower i → s ≡ spec.Input i
follower_on (spec.Header x) i e = cc
follower_on (spec.File x) i e = cc
follower_on (spec.Extension x) i e = cc
follower_on (spec.Calculation x) i e = cc
follower_on (spec.Output x) i e = cc
follower_on (spec.Data x) i e = cc
follower_on (spec.Form x) i e = cc
follower_on (spec.Input (input.Type t)) i e = cc
follower_on (spec.Input (input.And cs)) i e = let same : input.And cs ≡ i = cc in ap spec.Input same
follower_on (spec.Input (input.Field f)) i e = let same : input.Field f ≡ i = cc in ap spec.Input same

pub record IsTypeCard (s : Spec) (t : RecordType) (name : Option (List ℕ)) : Type 0 where
  pub on : s ≡ spec.Input (input.Type t)
  pub file : name ≡ t.file

pub heading_on : (s : Spec) (t : RecordType) (name : Option (List ℕ)) → input_role s ≡ Heading t name → IsTypeCard s t name
heading_on (spec.Header x) t name e = cc
heading_on (spec.File x) t name e = cc
heading_on (spec.Extension x) t name e = cc
heading_on (spec.Calculation x) t name e = cc
heading_on (spec.Output x) t name e = cc
heading_on (spec.Data x) t name e = cc
heading_on (spec.Form x) t name e = cc
heading_on (spec.Input (input.And cs)) t name e = cc
heading_on (spec.Input (input.Field f)) t name e = cc
heading_on (spec.Input (input.Type u)) t name e =
    let same : u ≡ t = cc in
    let file : u.file ≡ name = cc in
    record { on = ap (λ x. spec.Input (input.Type x)) same; file = sym file ∙ ap (λ (x : RecordType). x.file) same }

-- ---- record codes

abbrev IsCodeIn : ℕ → row_code.RecordCode → Type 0
IsCodeIn len c = is_code_in len c ≡ true

code_in : (len : ℕ) (file : Option FileSpec) (f : FileSpec) → file ≡ Some f → f.record_length ≡ len → (o : Option RecordCode) → is_code_outside file o ≡ false → Each (IsCodeIn len) (map record_code_of (option_to_list o))
code_in len file f is long None e = tt
code_in len file f is long (Some c) e =
    let some = eqb-false c.position 0 (or_first (c.position == 0) (is_past file c.position) e) in
    let past : nat_lt f.record_length c.position ≡ false = sym (ap (λ o. is_past o c.position) is) ∙ or_second (c.position == 0) (is_past file c.position) e in
    let within = ltb-false f.record_length c.position past in
    let low : 1 ≤ c.position = omega (arith, some) in
    let high : c.position ≤ len = subst (λ n. c.position ≤ n) long within in
    (and_from _ _ (le-leb 1 c.position low) (le-leb c.position len high), tt)

pub codes_in : (len : ℕ) (file : Option FileSpec) (f : FileSpec) → file ≡ Some f → f.record_length ≡ len → (t : Three (Option RecordCode)) → bad_codes file t ≡ false → Each (IsCodeIn len) (codes_of t)
codes_in len file f is long t e =
    let rest = or_second (is_code_outside file t.first) (is_code_outside file t.second || is_code_outside file t.third) e in
    three_of (IsCodeIn len) record_code_of t.first t.second t.third (code_in len file f is long t.first (or_first (is_code_outside file t.first) (is_code_outside file t.second || is_code_outside file t.third) e))
    (code_in len file f is long t.second (or_first (is_code_outside file t.second) (is_code_outside file t.third) rest)) (code_in len file f is long t.third (or_second (is_code_outside file t.second) (is_code_outside file t.third) rest))

-- ---- indicators

-- a type's
pub marks_type : (o : Option ℕ) → option_map_or cannot_mark_type o false ≡ false → ForSome o IsIndicator → if_any is_of_type o ≡ true
marks_type None e range = refl
marks_type (Some n) e range = by (nat_le n 99) refl (nat_le 101 n && nat_le n 110) refl e
  where
    by : (a : Bool) → nat_le n 99 ≡ a → (b : Bool) → (nat_le 101 n && nat_le n 110) ≡ b → not (a || b || (nat_le 120 n && nat_le n 128)) ≡ false → is_of_type n ≡ true
    by true p b q h = ap (λ x. x || (is_between 101 110 n || is_between 120 128 n)) (and_from _ _ (le-leb 1 n (range n refl).lowest) p)
    by false p true q h = yes (is_between 1 99 n) _ (ap (λ x. x || is_between 120 128 n) q)
      where
        yes : (a b : Bool) → b ≡ true → (a || b) ≡ true
        yes true b e = refl
        yes false b e = e
    by false p false q h = yes (is_between 1 99 n) _ (yes (is_between 101 110 n) _ (not_false _ h))
      where
        yes : (a b : Bool) → b ≡ true → (a || b) ≡ true
        yes true b e = refl
        yes false b e = e

        not_false : (b : Bool) → not b ≡ false → b ≡ true
        not_false true e = refl
        not_false false e = cc

-- ---- fields

-- the form of an input field: plain, as long as its columns, a text where column 52 is blank
pub record IsFormOf (f : InputFieldSpec) (form : FieldForm) : Type 0 where
  pub plain : is_plain form.class ≡ true
  pub long : form.length ≡ f.to + 1 - f.from
  pub kind : form.kind ≡ kind_by f.decimals

pub form_of_field : (f : InputFieldSpec) (form : FieldForm) → field_form f ≡ Some form → IsFormOf f form
form_of_field f form e = by (nat_le f.from f.to) f.decimals e
  where
    len : ℕ
    len = f.to + 1 - f.from

    made : (d : Option ℕ) (k : Kind) (n : ℕ) → kind_by d ≡ k → form_with class.Plain false 1 k len n ≡ form → (is_plain form.class ≡ true) × (form.length ≡ len) × (form.kind ≡ kind_by d)
    made d k n is same = (ap (λ (x : FieldForm). is_plain x.class) (sym same), ap (λ (x : FieldForm). x.length) (sym same), ap (λ (x : FieldForm). x.kind) (sym same) ∙ sym is)

    sized_so : (b : Bool) (d : Option ℕ) (k : Kind) (n : ℕ) → kind_by d ≡ k → cond b (Some (form_with class.Plain false 1 k len n)) None ≡ Some form → (is_plain form.class ≡ true) × (form.length ≡ len) × (form.kind ≡ kind_by d)
    sized_so true d k n is same = made d k n is (same_Some _ _ same)
    sized_so false d k n is same = cc

    parts : (b : Bool) (d : Option ℕ) → cond b (sized_form len d) None ≡ Some form → (is_plain form.class ≡ true) × (form.length ≡ len) × (form.kind ≡ kind_by d)
    parts false d same = cc
    parts true None same = sized_so (is_between 1 256 len) None kind.Text 0 refl same
    parts true (Some decimals) same = sized_so (is_between 1 15 len && nat_le decimals 9 && nat_le decimals len) (Some decimals) kind.Number decimals refl same

    by : (b : Bool) (d : Option ℕ) → field_form f ≡ Some form → IsFormOf f form
    by b d same = let all = parts (nat_le f.from f.to) f.decimals same in record { plain = all.0; long = all.1; kind = all.2 }

pub shown_so : (d : Option ℕ) (t : Three (Option ℕ)) → (is_none d && (is_some t.first || is_some t.second)) ≡ false → fits_shows (kind_by d) (shows_of t) ≡ true
shown_so None t e = by _ e
  where
    by : (b : Bool) → b ≡ false → not b ≡ true
    by true e = cc
    by false e = refl
shown_so (Some d) t e = refl

module _ (cards : List SpecCard) (rules : KeepsCardRules cards) (ranges : AreCards cards) where
  abbrev HasFile : Option (List ℕ) → Type 0
  HasFile name = named_files.HasFile cards (valid_files cards rules) is_input name

  -- ---- what stands on I cards, with the file of their type

  pub record IsTypeValid (name : Option (List ℕ)) (t : RecordType) : Type 0 where
    pub codes : bad_codes (file_by name cards) t.codes ≡ false
    pub indicator : option_map_or cannot_mark_type t.indicator false ≡ false
    pub range : IsType t

  pub record IsFieldValid (name : Option (List ℕ)) (f : InputFieldSpec) : Type 0 where
    pub outside : outside_record (file_by name cards) f ≡ false
    pub form : FieldForm
    pub is : field_form f ≡ Some form
    pub known : key_form (table_of cards) (Named f.name) ≡ Some form
    pub shown : bad_on_field f ≡ false
    pub range : IsInputField f

  pub record AreCodesValid (name : Option (List ℕ)) (cs : Three (Option RecordCode)) : Type 0 where
    pub codes : bad_codes (file_by name cards) cs ≡ false
    pub range : InThree IsCode cs

  abbrev pub IsInputValid : Option (List ℕ) → InputSpec → Type 0
  IsInputValid name (input.Type t) = Unit {0}
  IsInputValid name (input.And cs) = AreCodesValid name cs
  IsInputValid name (input.Field f) = IsFieldValid name f

  pub outside_kept : (before : List SpecCard) (c : SpecCard) (after : List SpecCard) (i : InputSpec) → cards ≡ before ++ c ∷ after → c.spec ≡ spec.Input i → (outside_on_input (file_by (own_file before i) cards) i || joins_badly before after i) ≡ false
  outside_kept before c after i split is =
      sym (ap (λ s. option_map_or (λ i. outside_on_input (file_by (own_file before i) cards) i || joins_badly before after i) (input_on s) false) is) ∙ input_kept cards rules before c after split

  indicators_kept : (before : List SpecCard) (c : SpecCard) (after : List SpecCard) (i : InputSpec) → cards ≡ before ++ c ∷ after → c.spec ≡ spec.Input i → bad_on_input i ≡ false
  indicators_kept before c after i split is = sym (ap (bad_on cards) is) ∙ rules.f8 before c after split

  range_kept : (before : List SpecCard) (c : SpecCard) (after : List SpecCard) (i : InputSpec) → cards ≡ before ++ c ∷ after → c.spec ≡ spec.Input i → IsInput i
  range_kept before c after i split is = subst IsInRange is (each_at IsCard before c after (subst AreCards split ranges))

  field_valid : (before : List SpecCard) (c : SpecCard) (after : List SpecCard) (f : InputFieldSpec) → cards ≡ before ++ c ∷ after → c.spec ≡ spec.Input (input.Field f) → IsFieldValid (open_file input_role before) f
  field_valid before c after f split is =
      let here = (subst (λ s. Each DefinesForm (definitions_on s)) is (card_has_forms cards rules before c after split)).0 in
      let named = (subst (λ s. Each (HasName cards) (definitions_on s)) is (card_defines cards rules before c after split)).0 in
      by (field_form f) refl here named
    where
      by : (o : Option FieldForm) → field_form f ≡ o → IsForm o → HasName cards (definition_of f) → IsFieldValid (open_file input_role before) f
      by None e valid named = absurd valid
      by (Some form) e valid named = record {
        outside = or_first (outside_record (file_by (open_file input_role before) cards) f) _ (outside_kept before c after (input.Field f) split is);
        form = form;
        is = e;
        known = key_defined cards rules (definition_of f) form named e;
        shown = indicators_kept before c after (input.Field f) split is;
        range = range_kept before c after (input.Field f) split is;
      }

  input_valid : (before : List SpecCard) (c : SpecCard) (after : List SpecCard) (i : InputSpec) → cards ≡ before ++ c ∷ after → c.spec ≡ spec.Input i → IsInputValid (open_file input_role before) i
  input_valid before c after (input.Type t) split is = tt
  input_valid before c after (input.And cs) split is = record {
    codes = or_first (bad_codes (file_by (open_file input_role before) cards) cs) _ (outside_kept before c after (input.And cs) split is);
    range = range_kept before c after (input.And cs) split is;
  }
  input_valid before c after (input.Field f) split is = field_valid before c after f split is

  pub follows : filed.Follows cards input_role HasFile IsTypeValid IsInputValid
  follows before c after i split role = input_valid before c after i split (follower_on c.spec i role)

  type_named : (before : List SpecCard) (c : SpecCard) (after : List SpecCard) (t : RecordType) → cards ≡ before ++ c ∷ after → c.spec ≡ spec.Input (input.Type t) → lacks_file cards is_input (is_some (open_group input_role before)) t.file ≡ false
  type_named before c after t split is =
      sym (ap (λ s. option_map_or (λ (t : RecordType). lacks_file cards is_input (is_some (open_group input_role before)) t.file) (type_on s) false) is)
      ∙ or_second (option_map_or (bad_file before) (file_on c.spec) false) (option_map_or (λ (t : RecordType). lacks_file cards is_input (is_some (open_group input_role before)) t.file) (type_on c.spec) false)
      (or_first _ (option_map_or (λ r. lacks_file cards is_output (is_some (open_group output_role before)) r.file) (output_record_on c.spec) false) (or_first _ _ (rules.f7 before c after split)))

  pub heads : filed.Heads cards input_role HasFile IsTypeValid IsInputValid
  heads before c after t name split role known =
      let card = heading_on c.spec t name role in
      let place : option_or t.file (open_file input_role before) ≡ option_or name (open_file input_role before) = ap (λ n. option_or n (open_file input_role before)) (sym card.file) in
      let all = outside_kept before c after (input.Type t) split card.on in (
        subst HasFile place (named_files.named_or_before cards (valid_files cards rules) is_input (is_some (open_group input_role before)) t.file (open_file input_role before) (type_named before c after t split card.on) known),
        subst (λ n. IsTypeValid n t) place (record {
          codes = or_first (bad_codes (file_by (option_or t.file (open_file input_role before)) cards) t.codes) _ all;
          indicator = indicators_kept before c after (input.Type t) split card.on;
          range = range_kept before c after (input.Type t) split card.on;
        }),
      )

  abbrev pub InFile : Group RecordType InputSpec → Type 0
  InFile g = filed.InFile cards input_role HasFile IsTypeValid IsInputValid g

  pub each_type : Each InFile (groups input_role cards)
  each_type = filed.each_in_file cards input_role HasFile IsTypeValid IsInputValid heads follows
