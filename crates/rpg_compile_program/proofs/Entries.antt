-- What stands in a column for a field: where no rule of cards is broken, it is there and stands as its column has it, by names.
use Rattle.std.proofs.Common.{◌≡◌, ℕ, Bool, true, false, not, cond, ◌&&◌, ◌||◌, List, Option, None, Some, refl, sym, ap, ◌∙◌, subst}
use Rattle.std.proofs.lemmas.Bool.{and_from, not-false, not_from_false, or_parts, or_right}
use Rattle.std.specs.Option.{ForSome, option_and_then, option_map, option_map_or}
use Rattle.std.specs.Prelude.{nat_lt, unwrap_or, ◌^◌}
use Rattle.rpg_cards.specs.Keys as keys
use Rattle.rpg_cards.specs.Keys.{Fixed, Key, Named, entry_operand, key_index, nowhere}
use Rattle.rpg_sheet_specs.specs.declared.operations.Column.TheVariants.{Must}
use Rattle.rpg_sheet_specs.specs.declared.operations.Content.{Content}
use Rattle.rpg_sheet_specs.specs.declared.operations.Content.TheVariants.{Label, Searched, Subroutine, Table, Value, WholeArray}
use Rattle.rpg_cards.specs.Constants.{constant_form, constant_of, form_of_factor}
use Rattle.rpg_cards.specs.Names.{form_in, form_of_name}
use Rattle.rpg_cards.specs.declared.constants.Constant.{Constant}
use Rattle.rpg_cards.specs.declared.constants.Constant.TheVariants as constant
use Rattle.rpg_cards.specs.declared.spec_card.SpecCard.{SpecCard}
use Rattle.rpg_program.specs.Forms.{has_field, is_array, is_index_form, is_table, kind_of, length_of, may_write, same_kind}
use Rattle.rpg_program.specs.Rows.{can_hold, has_form, has_index, has_operand, has_shape, is_blank_index, is_one}
use Rattle.rpg_program.specs.declared.form.Class.TheVariants as class
use Rattle.rpg_program.specs.declared.form.FieldForm.{FieldForm}
use Rattle.rpg_program.specs.declared.form.Kind.{Kind}
use Rattle.rpg_program.specs.declared.form.Kind.TheVariants as kind
use Rattle.rpg_program.specs.declared.operation.Index.{Index}
use Rattle.rpg_program.specs.declared.operation.Index.TheVariants as index
use Rattle.rpg_program.specs.declared.operation.Operand.{Operand}
use Rattle.rpg_program.specs.declared.row.Shape.{Shape}
use Rattle.rpg_program.specs.declared.row.Shape.TheVariants as shape
use Rattle.rpg_program.specs.declared.row.Use.{Use}
use Rattle.rpg_faults_flow.specs.Columns.{misses}
use Rattle.rpg_faults_operands.specs.Indexes.{bad_index_field, bad_index_of, can_index, is_too_short, misindexed, needs_index, takes_index}
use Rattle.rpg_faults_operands.specs.Kinds.{has_text, is_unwritable, is_wrong_class, kinds_differ}
use Rattle.rpg_faults_operands.specs.Names.{is_undefined, name_in_index, names_nothing}
use Rattle.rpg_faults_operands.specs.Operands.{card_entry_form, factor_entry, is_field_content, operand_with}
use Rattle.rpg_sheet_specs.specs.declared.entry.Entry.{Entry}
use Rattle.rpg_sheet_specs.specs.declared.entry.EntryIndex.{EntryIndex}
use Rattle.rpg_sheet_specs.specs.declared.entry.EntryIndex.TheVariants as written
use Rattle.rpg_sheet_specs.specs.declared.literal.Factor.{Factor}
use Rattle.rpg_sheet_specs.specs.declared.literal.Factor.TheVariants as factor
use Rattle.rpg_sheet_specs.specs.declared.literal.Literal.{Literal}
use Rattle.rpg_compile_program.proofs.RightRows.{IsRightUse, never_both}

-- the shape of what stands in a column
abbrev pub shape_of : Content → Shape
shape_of Value = shape.One
shape_of WholeArray = shape.Whole
shape_of Searched = shape.Searched
shape_of Table = shape.Table
shape_of Label = shape.One
shape_of Subroutine = shape.One

-- ---- kinds

kind_itself : (k : Kind) → same_kind k k ≡ true
kind_itself kind.Number = refl
kind_itself kind.Text = refl

number_kind : (k : Kind) → same_kind k kind.Text ≡ false → same_kind k kind.Number ≡ true
number_kind kind.Number e = refl
number_kind kind.Text e = cc

alike : (j k : Kind) → not (same_kind j k) ≡ false → same_kind k j ≡ true
alike kind.Number kind.Number e = refl
alike kind.Text kind.Text e = refl
alike kind.Number kind.Text e = cc
alike kind.Text kind.Number e = cc

last_of_three : (a b c : Bool) → a ≡ true → b ≡ true → ((a && b) && not c) ≡ false → c ≡ true
last_of_three true true c x y e = not-false c e
last_of_three true false c x y e = cc
last_of_three false b c x y e = cc

-- a field that is there has a form
pub some_form : (o : Option FieldForm) → has_field o ≡ true → (d : FieldForm) × (o ≡ Some d)
some_form None h = cc
some_form (Some d) h = (d, refl)

constant_class : (c : Constant) → (constant_form c).class ≡ class.Constant
constant_class (constant.Number n) = refl
constant_class (constant.Text text) = refl

module _ (cards : List SpecCard) (forms : Key → Option FieldForm)
    (named : (name : List ℕ) → forms (Named name) ≡ form_in (form_of_name name cards))
    (valid : (name : List ℕ) → is_undefined cards name ≡ false → has_field (form_in (form_of_name name cards)) ≡ true) where
  -- ---- indexes

  -- the form that the cards give to the field of an index
  abbrev index_form : Option EntryIndex → Option FieldForm
  index_form i = option_and_then (λ x. form_in (form_of_name x cards)) (option_and_then name_in_index i)

  abbrev lacks_index : Option EntryIndex → Bool
  lacks_index i = option_map_or (is_undefined cards) (option_and_then name_in_index i) false

  record IsIndexFit (s : Shape) (d : FieldForm) (x : Index Key) : Type 0 where
    there : has_index forms d x ≡ true
    shaped : has_shape forms s d x ≡ true

  blank_shaped : (c : Content) (d : FieldForm) → is_field_content c ≡ true → is_wrong_class c d ≡ false → needs_index c d ≡ false → has_shape forms (shape_of c) d index.Blank ≡ true
  blank_shaped Value d is right unneeded = not_from_false _ unneeded
  blank_shaped WholeArray d is right unneeded = and_from _ _ (not-false _ right) refl
  blank_shaped Searched d is right unneeded = not-false _ right
  blank_shaped Table d is right unneeded = and_from _ _ (not-false _ right) refl
  blank_shaped Label d is right unneeded = cc
  blank_shaped Subroutine d is right unneeded = cc

  -- an index that isn't blank stands with arrays alone
  index_shaped : (c : Content) (d : FieldForm) (x : Index Key) → is_field_content c ≡ true → is_wrong_class c d ≡ false → takes_index c d ≡ true → is_blank_index x ≡ false
      → (is_array d.class ≡ true → is_one forms d x ≡ true) → has_shape forms (shape_of c) d x ≡ true
  index_shaped Value d x is right takes some one = one takes
  index_shaped WholeArray d x is right takes some one = cc
  index_shaped Searched d x is right takes some one = ap (λ b. cond b (is_array d.class || is_table d.class) (is_one forms d x)) some ∙ one takes
  index_shaped Table d x is right takes some one = absurd (never_both d.class takes (not-false _ right))
  index_shaped Label d x is right takes some one = cc
  index_shaped Subroutine d x is right takes some one = cc

  -- the field of an index has a form, a plain number without decimals
  record IsIndexField (x : List ℕ) : Type 0 where
    form : FieldForm
    known : form_in (form_of_name x cards) ≡ Some form
    leads : forms (Named x) ≡ Some form
    fits : is_index_form (Some form) ≡ true

  index_field : (x : List ℕ) → is_undefined cards x ≡ false → bad_index_field (form_in (form_of_name x cards)) ≡ false → IsIndexField x
  index_field x there right =
      let form = some_form (form_in (form_of_name x cards)) (valid x there) in
      record {
        form = form.0;
        known = form.1;
        leads = named x ∙ form.1;
        fits = not-false _ (sym (ap bad_index_field form.1) ∙ right);
      }

  index_fits : (c : Content) (i : Option EntryIndex) (d : FieldForm) → is_field_content c ≡ true → is_wrong_class c d ≡ false → misindexed c i (index_form i) d ≡ false
      → bad_index_field (index_form i) ≡ false → lacks_index i ≡ false → IsIndexFit (shape_of c) d (key_index i)
  index_fits c None d is right fit whole there = record { there = refl; shaped = blank_shaped c d is right fit }
  index_fits c (Some (written.Literal n)) d is right fit whole there =
      let two = or_parts (not (takes_index c d)) _ fit in
      record {
        there = or_right (not (is_array d.class)) _ (not-false _ two.1);
        shaped = index_shaped c d (index.Literal n) is right (not-false _ two.0) refl (λ array. array);
      }
  index_fits c (Some (written.Name x)) d is right fit whole there =
      let two = or_parts (not (takes_index c d)) _ fit in
      let own = index_field x there whole in
      record {
        there = ap has_field own.leads;
        shaped = index_shaped c d (index.Field (Named x)) is right (not-false _ two.0) refl (λ array. and_from _ _ array (ap is_index_form own.leads ∙ own.fits));
      }

  -- an index field can hold all positions of what is searched
  index_holds : (i : Option EntryIndex) (d : FieldForm) → misindexed Searched i (index_form i) d ≡ false → bad_index_field (index_form i) ≡ false → lacks_index i ≡ false
      → can_hold forms (key_index i) d.entries ≡ true
  index_holds None d fit whole there = refl
  index_holds (Some (written.Literal n)) d fit whole there = refl
  index_holds (Some (written.Name x)) d fit whole there =
      let two = or_parts (not (is_array d.class)) _ fit in
      let own = index_field x there whole in
      let long : is_too_short Searched d own.form ≡ false = subst (λ (o : Option FieldForm). option_map_or (is_too_short Searched d) o false ≡ false) own.known two.1 in
      ap (λ (o : Option FieldForm). nat_lt d.entries (10 ^ length_of o)) own.leads ∙ last_of_three (is_array d.class) (can_index own.form) _ (not-false _ two.0) own.fits long

  -- ---- what stands in a column

  -- it is a field that is there, of the form that the cards give to it, with an index as its shape has it
  pub record Holds (s : Shape) (o : Operand Key) (known : Option FieldForm) : Type 0 where
    pub form : FieldForm
    pub is : known ≡ Some form
    pub leads : forms o.field ≡ Some form
    pub there : has_index forms form o.index ≡ true
    pub shaped : has_shape forms s form o.index ≡ true

  -- the constant of a literal has its form
  abbrev pub HasForm : Factor → Type 0
  HasForm (factor.Entry e) = Unit {0}
  HasForm (factor.Literal l) = forms (Fixed (constant_of l)) ≡ Some (constant_form (constant_of l))

  abbrev pub form_of : Factor → Option FieldForm
  form_of x = form_in (form_of_factor x cards)

  -- what the rules of cards say of what stands in a column, if something does
  pub record IsFit (c : Content) (f : Option Factor) : Type 0 where
    pub defined : option_map_or (names_nothing cards) (option_map (operand_with c) (option_and_then factor_entry f)) false ≡ false
    pub index : option_map_or (bad_index_of cards) (option_map (operand_with c) (option_and_then factor_entry f)) false ≡ false
    pub right : option_map_or (is_wrong_class c) (option_and_then form_of f) false ≡ false
    pub literal : ForSome f HasForm

  -- what they say of an entry's index, where the entry's form is known
  record IsEntryFit (c : Content) (e : Entry) : Type 0 where
    form : FieldForm
    is : card_entry_form cards e ≡ Some form
    right : is_wrong_class c form ≡ false
    fit : misindexed c e.index (index_form e.index) form ≡ false
    whole : bad_index_field (index_form e.index) ≡ false
    there : lacks_index e.index ≡ false

  entry_fit : (c : Content) (e : Entry) → IsFit c (Some (factor.Entry e)) → IsEntryFit c e
  entry_fit c e h =
      let names = or_parts (is_undefined cards e.name) _ h.defined in
      let index = or_parts _ _ h.index in
      let form = some_form (card_entry_form cards e) (valid e.name names.0) in
      record {
        form = form.0;
        is = form.1;
        right = subst (λ (o : Option FieldForm). option_map_or (is_wrong_class c) o false ≡ false) form.1 h.right;
        fit = subst (λ (o : Option FieldForm). option_map_or (misindexed c e.index (index_form e.index)) o false ≡ false) form.1 index.0;
        whole = index.1;
        there = names.1;
      }

  constant_unneeded : (c : Content) (d : FieldForm) → d.class ≡ class.Constant → needs_index c d ≡ false
  constant_unneeded Value d e = ap is_array e
  constant_unneeded WholeArray d e = refl
  constant_unneeded Searched d e = refl
  constant_unneeded Table d e = refl
  constant_unneeded Label d e = refl
  constant_unneeded Subroutine d e = refl

  pub factor_holds : (c : Content) (x : Factor) → is_field_content c ≡ true → IsFit c (Some x) → Holds (shape_of c) (keys.factor_operand x) (form_of x)
  factor_holds c (factor.Entry e) is h =
      let own = entry_fit c e h in
      let index = index_fits c e.index own.form is own.right own.fit own.whole own.there in
      record { form = own.form; is = own.is; leads = named e.name ∙ own.is; there = index.there; shaped = index.shaped }
  factor_holds c (factor.Literal l) is h =
      let form = constant_form (constant_of l) in
      record { form = form; is = refl; leads = h.literal (factor.Literal l) refl; there = refl; shaped = blank_shaped c form is h.right (constant_unneeded c form (constant_class (constant_of l))) }

  -- what is searched has no more positions than its index can hold
  pub factor_searches : (x : Factor) (d : FieldForm) → form_of x ≡ Some d → IsFit Searched (Some x) → can_hold forms (keys.factor_operand x).index d.entries ≡ true
  factor_searches (factor.Entry e) d is h =
      let own = entry_fit Searched e h in
      let same : own.form ≡ d = let both : Some own.form ≡ Some d = sym own.is ∙ is in cc in
      subst (λ (x : FieldForm). can_hold forms (key_index e.index) x.entries ≡ true) same (index_holds e.index own.form own.fit own.whole own.there)
  factor_searches (factor.Literal l) d is h = refl

  -- ---- columns

  abbrev pub at_factor : Option Factor → Operand Key
  at_factor f = unwrap_or (option_map keys.factor_operand f) nowhere

  abbrev pub at_result : Option Entry → Operand Key
  at_result r = unwrap_or (option_map entry_operand r) nowhere

  pub column_holds : (c : Content) (f : Option Factor) → is_field_content c ≡ true → misses (Must c) f ≡ false → IsFit c f → Holds (shape_of c) (at_factor f) (option_and_then form_of f)
  column_holds c None is filled h = cc
  column_holds c (Some x) is filled h = factor_holds c x is h

  pub column_searches : (f : Option Factor) (d : FieldForm) → option_and_then form_of f ≡ Some d → IsFit Searched f → can_hold forms (at_factor f).index d.entries ≡ true
  column_searches None d is h = cc
  column_searches (Some x) d is h = factor_searches x d is h

  pub result_holds : (c : Content) (r : Option Entry) → is_field_content c ≡ true → misses (Must c) (option_map factor.Entry r) ≡ false → IsFit c (option_map factor.Entry r)
      → Holds (shape_of c) (at_result r) (option_and_then (card_entry_form cards) r)
  result_holds c None is filled h = cc
  result_holds c (Some e) is filled h = factor_holds c (factor.Entry e) is h

  -- ---- what an operation's row says of them

  abbrev pub used : Operand Key → Kind → Shape → Use (Operand Key)
  used o k s = record { operand = o; kind = k; shape = s }

  use_right : (k : Kind) {s : Shape} {o : Operand Key} {known : Option FieldForm} (h : Holds s o known) → same_kind h.form.kind k ≡ true → IsRightUse forms (used o k s)
  use_right k {s} {o} h is = record {
    there = ap (λ f. has_operand forms f o.index) h.leads ∙ h.there;
    fits = ap (λ f. has_form forms f (used o k s)) h.leads ∙ and_from _ _ is h.shaped;
  }

  pub number_right : {s : Shape} {o : Operand Key} {known : Option FieldForm} → Holds s o known → has_text known ≡ false → IsRightUse forms (used o kind.Number s)
  number_right h right = use_right kind.Number h (number_kind h.form.kind (sym (ap has_text h.is) ∙ right))

  -- of its own kind
  pub own_right : {s : Shape} {o : Operand Key} {known : Option FieldForm} → Holds s o known → IsRightUse forms (used o (kind_of (forms o.field)) s)
  own_right {o = o} h = use_right (kind_of (forms o.field)) h (ap (λ (f : Option FieldForm). same_kind h.form.kind (kind_of f)) h.leads ∙ kind_itself h.form.kind)

  -- of the kind of another
  pub like_right : {s t : Shape} {a b : Operand Key} {one other : Option FieldForm} → Holds s a one → Holds t b other → kinds_differ one other ≡ false → IsRightUse forms (used b (kind_of (forms a.field)) t)
  like_right {a = a} h g right =
      let same : not (same_kind h.form.kind g.form.kind) ≡ false = sym (λ i. kinds_differ (h.is i) (g.is i)) ∙ right in
      use_right (kind_of (forms a.field)) g (ap (λ (f : Option FieldForm). same_kind g.form.kind (kind_of f)) h.leads ∙ alike h.form.kind g.form.kind same)

  pub result_written : {s : Shape} {o : Operand Key} {known : Option FieldForm} → Holds s o known → option_map_or is_unwritable known false ≡ false → may_write (forms o.field) ≡ true
  result_written h right = ap may_write h.leads ∙ not-false _ (sym (ap (λ (f : Option FieldForm). option_map_or is_unwritable f false) h.is) ∙ right)
