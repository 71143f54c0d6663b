-- The field of an output card that breaks no rule of cards is one that breaks no rule of lines, by names.
use Rattle.std.proofs.Common.{◌≡◌, ℕ, ◌≤◌, Bool, true, false, not, cond, ◌||◌, List, length, Option, None, Some, refl, sym, ap, ◌∙◌, subst}
use Rattle.std.proofs.lemmas.Bool.{and_from, and_parts, le-leb, ltb-false, not-false, not_from_false, or_parts, or_right}
use Rattle.std.specs.Cmp.Lexicographic.{bytes_decides}
use Rattle.std.specs.Option.{option_and_then, option_map, option_map_or}
use Rattle.std.specs.Prelude.{◌&&◌, codes, is_none, is_some, nat_lt, unwrap_or, if◌then◌else◌}
use Rattle.rpg_cards.specs.Keys.{Fixed, Key, Named, entry_operand, key_index}
use Rattle.rpg_sheet_specs.specs.declared.operations.Content.TheVariants.{Value}
use Rattle.rpg_cards.specs.Constants.{constant_form}
use Rattle.rpg_cards.specs.Names.{form_in, form_of_name}
use Rattle.rpg_cards.specs.declared.constants.Constant.TheVariants as constant
use Rattle.rpg_cards.specs.declared.spec_card.SpecCard.{SpecCard}
use Rattle.rpg_program.specs.Editing.{how_of, width_as}
use Rattle.rpg_program.specs.Forms.{has_field, is_array, is_writable, same_kind}
use Rattle.rpg_program.specs.LineFaults.{KeepsFieldRules, fits_editing, fits_source}
use Rattle.rpg_program.specs.Rows.{has_entry, has_operand, is_one_entry, is_shaped}
use Rattle.rpg_program.specs.declared.form.Class.TheVariants as class
use Rattle.rpg_program.specs.declared.form.FieldForm.{FieldForm}
use Rattle.rpg_program.specs.declared.form.Kind.{Kind}
use Rattle.rpg_program.specs.declared.form.Kind.TheVariants as kind
use Rattle.rpg_program.specs.declared.line.Source.TheVariants as sources
use Rattle.rpg_program.specs.declared.operation.Index.TheVariants as index
use Rattle.rpg_program.specs.declared.row.Shape.TheVariants as shape
use Rattle.rpg_edit_marks.specs.How.{width_of}
use Rattle.rpg_edit_marks.specs.declared.code.EditCode.{EditCode}
use Rattle.rpg_edit_marks.specs.declared.code.Fill.{Fill}
use Rattle.rpg_edit_marks.specs.declared.code.Fill.TheVariants as fills
use Rattle.rpg_edit_marks.specs.declared.how.How.{How}
use Rattle.rpg_edit_marks.specs.declared.how.How.TheVariants as hows
use Rattle.rpg_faults_operands.specs.Columns.{bad_output_field}
use Rattle.rpg_faults_operands.specs.Editing.{edits_badly, how_by, if_suited, suits, unedited, width, width_by}
use Rattle.rpg_faults_operands.specs.Indexes.{bad_index_field, bad_index_of, misindexed}
use Rattle.rpg_faults_operands.specs.Kinds.{wrong_as_output, wrong_in_output}
use Rattle.rpg_faults_operands.specs.Names.{index_name, is_undefined, name_in_index, names_nothing}
use Rattle.rpg_faults_operands.specs.Operands.{card_entry_form, operand_with, output_operand}
use Rattle.rpg_symbols.specs.Fields.{number_form}
use Rattle.rpg_sheet_specs.specs.declared.entry.Entry.{Entry}
use Rattle.rpg_sheet_specs.specs.declared.entry.EntryIndex.{EntryIndex}
use Rattle.rpg_sheet_specs.specs.declared.entry.EntryIndex.TheVariants as written
use Rattle.rpg_sheet_specs.specs.declared.indicator.ConditionSpec.{ConditionSpec}
use Rattle.rpg_sheet_specs.specs.declared.indicator.Three.{Three}
use Rattle.rpg_sheet_specs.specs.declared.output.OutputField.{OutputField}
use Rattle.rpg_compile_program.specs.Lines.{line_field_of, names_page}
use Rattle.rpg_edit_marks.specs.Code.{fill_by}
use Rattle.rpg_compile_program.proofs.Entries.{some_form}

module _ (cards : List SpecCard) (forms : Key → Option FieldForm) (words : Key → List ℕ)
    (named : (name : List ℕ) → forms (Named name) ≡ form_in (form_of_name name cards))
    (valid : (name : List ℕ) → is_undefined cards name ≡ false → has_field (form_in (form_of_name name cards)) ≡ true)
    (spelled : (text : List ℕ) → forms (Fixed (constant.Text text)) ≡ Some (constant_form (constant.Text text)) → words (Fixed (constant.Text text)) ≡ text) where
  -- ---- operands

  abbrev index_form : Option EntryIndex → Option FieldForm
  index_form i = option_and_then (λ x. form_in (form_of_name x cards)) (option_and_then name_in_index i)

  index_kept : (i : Option EntryIndex) (d : FieldForm) → misindexed Value i (index_form i) d ≡ false → bad_index_field (index_form i) ≡ false →
      option_map_or (is_undefined cards) (option_and_then name_in_index i) false ≡ false →
      (has_operand forms (Some d) (key_index i) && is_shaped forms (Some d) shape.One (key_index i)) ≡ true
  index_kept None d fit whole there = not_from_false (is_array d.class) fit
  index_kept (Some (written.Literal n)) d fit whole there =
      let two = or_parts _ _ fit in
      let array : is_array d.class ≡ true = not-false _ two.0 in
      and_from _ _ (or_right (not (is_array d.class)) _ (not-false _ two.1)) array
  index_kept (Some (written.Name x)) d fit whole there =
      let two = or_parts _ _ fit in
      let array : is_array d.class ≡ true = not-false _ two.0 in
      let form = some_form (form_in (form_of_name x cards)) (valid x there) in
      let is : forms (Named x) ≡ Some form.0 = named x ∙ form.1 in
      rw is (and_from _ _ refl (and_from _ _ array (let w = rw form.1 at whole in not-false _ w)))

  entry_kept : (e : Entry) (d : FieldForm) → card_entry_form cards e ≡ Some d → bad_index_of cards (operand_with Value e) ≡ false →
      option_map_or (is_undefined cards) (index_name e) false ≡ false → (has_entry forms (entry_operand e) && is_one_entry forms (entry_operand e)) ≡ true
  entry_kept e d is fit there =
      let two = or_parts _ _ fit in
      let at : forms (Named e.name) ≡ Some d = named e.name ∙ is in
      let fits : misindexed Value e.index (index_form e.index) d ≡ false = subst (λ (o : Option FieldForm). option_map_or (misindexed Value e.index (index_form e.index)) o false ≡ false) is two.0 in
      rw at (index_kept e.index d fits two.1 there)

  -- ---- PAGE

  abbrev page_form : FieldForm
  page_form = number_form class.Plain 4

  page_is : (e : Entry) (d : FieldForm) → names_page e ≡ true → card_entry_form cards e ≡ Some d → d ≡ page_form
  page_is e d page is =
      let name : e.name ≡ codes "PAGE" = (bytes_decides e.name (codes "PAGE")).0 (and_parts _ _ page).1 in
      let there : form_in (form_of_name (codes "PAGE") cards) ≡ Some d = subst (λ (n : List ℕ). form_in (form_of_name n cards) ≡ Some d) name is in
      cc

  -- ---- editing: what an entry of that form is edited by, where that fits, and how wide it is then

  record IsEdited (d : FieldForm) (f : OutputField) (how : How (List ℕ)) : Type 0 where
    fits : fits_editing forms words (Some d) (line_field_of f).editing (line_field_of f).fill ≡ true
    wide : width_as d.kind (Some d) (how_of words (line_field_of f).editing (line_field_of f).fill) ≡ width_of d.length d.decimals how

  abbrev IsListed : Option EditCode → Option (List ℕ) → Type 0
  IsListed code text = (x : List ℕ) → code ≡ None → text ≡ Some x → forms (Fixed (constant.Text x)) ≡ Some (constant_form (constant.Text x))

  -- an output field of these parts, which names an entry
  abbrev with_entry : Three (Option ConditionSpec) → Entry → Option EditCode → Bool → ℕ → Option (List ℕ) → OutputField
  with_entry conditions e code blanked end text = record { conditions = conditions; operand = Some e; code = code; blank_after = blanked; end = end; text = text }

  number_wide : (k : Kind) (d : FieldForm) (how : How (List ℕ)) → same_kind k kind.Number ≡ true → width_as k (Some d) how ≡ width_of d.length d.decimals how
  number_wide kind.Number d how is = refl
  number_wide kind.Text d how is = cc

  plain_wide : (k : Kind) (d : FieldForm) → width_as k (Some d) hows.Plain ≡ width_of d.length d.decimals hows.Plain
  plain_wide kind.Number d = refl
  plain_wide kind.Text d = refl

  by_code : (cs : Three (Option ConditionSpec)) (e : Entry) (code : EditCode) (b : Bool) (n : ℕ) (text : Option (List ℕ)) (d : FieldForm) (fill : Fill) →
      unwrap_or (option_and_then fill_by text) fills.Blank ≡ fill → suits d (hows.Code code fill) ≡ true → IsEdited d (with_entry cs e (Some code) b n text) (hows.Code code fill)
  by_code cs e code b n text d fill is fit =
      record {
        fits = rw is fit;
        wide = rw is (number_wide d.kind d (hows.Code code fill) (and_parts _ _ fit).0);
      }

  filled : (cs : Three (Option ConditionSpec)) (e : Entry) (code : EditCode) (b : Bool) (n : ℕ) (text : Option (List ℕ)) (d : FieldForm) (how : How (List ℕ)) →
      how_by (Some code) text ≡ Some how → suits d how ≡ true → IsEdited d (with_entry cs e (Some code) b n text) how
  filled cs e code b n None d how is fit =
      let same : hows.Code code fills.Blank ≡ how = cc in
      subst (λ (h : How (List ℕ)). IsEdited d (with_entry cs e (Some code) b n None) h) same (by_code cs e code b n None d fills.Blank refl (subst (λ (h : How (List ℕ)). suits d h ≡ true) (sym same) fit))
  filled cs e code b n (Some x) d how is fit = by_fill (fill_by x) refl is
    where
      by_fill : (o : Option Fill) → fill_by x ≡ o → option_map (λ (fill : Fill). hows.Code code fill) o ≡ Some how → IsEdited d (with_entry cs e (Some code) b n (Some x)) how
      by_fill None at h = absurd cc
      by_fill (Some fill) at h =
          let same : hows.Code code fill ≡ how = cc in
          subst (λ (h : How (List ℕ)). IsEdited d (with_entry cs e (Some code) b n (Some x)) h) same
          (by_code cs e code b n (Some x) d fill (ap (λ (o : Option Fill). unwrap_or o fills.Blank) at) (subst (λ (h : How (List ℕ)). suits d h ≡ true) (sym same) fit))

  unfilled : (cs : Three (Option ConditionSpec)) (e : Entry) (b : Bool) (n : ℕ) (text : Option (List ℕ)) (d : FieldForm) (how : How (List ℕ)) → card_entry_form cards e ≡ Some d →
      IsListed None text → how_by None text ≡ Some how → suits d how ≡ true → IsEdited d (with_entry cs e None b n text) how
  unfilled cs e b n (Some x) d how there listed is fit =
      let same : hows.Word x ≡ how = cc in
      let fits : suits d (hows.Word x) ≡ true = subst (λ (h : How (List ℕ)). suits d h ≡ true) (sym same) fit in
      let number = (and_parts _ _ fits).0 in
      subst (λ (h : How (List ℕ)). IsEdited d (with_entry cs e None b n (Some x)) h) same
      (record {
        fits = and_from _ _ (and_from _ _ number refl) (rw (listed x refl refl, spelled x (listed x refl refl)) (and_parts _ _ fits).1);
        wide = rw (spelled x (listed x refl refl)) (number_wide d.kind d (hows.Word x) number);
      })
  unfilled cs e b n None d how there listed is fit = by_page (names_page e) refl
    where
      same : hows.Plain ≡ how
      same = cc

      by_page : (p : Bool) → names_page e ≡ p → IsEdited d (with_entry cs e None b n None) how
      by_page true p =
          let page = page_is e d p there in
          subst (λ (h : How (List ℕ)). IsEdited d (with_entry cs e None b n None) h) same
          (record { fits = rw (page, p) refl; wide = rw (page, p) refl })
      by_page false p =
          subst (λ (h : How (List ℕ)). IsEdited d (with_entry cs e None b n None) h) same
          (record { fits = rw p refl; wide = rw p (plain_wide d.kind d) })

  -- where a code or word fits, it is found
  found : (d : FieldForm) (o : Option (How (List ℕ))) → is_none (option_and_then (if_suited d) o) ≡ false → (how : How (List ℕ)) × (o ≡ Some how) × (suits d how ≡ true) × (option_and_then (if_suited d) o ≡ Some how)
  found d None h = cc
  found d (Some how) h = by_fit (suits d how) refl h
    where
      by_fit : (b : Bool) → suits d how ≡ b → is_none (cond b (Some how) None) ≡ false → (h : How (List ℕ)) × (Some how ≡ Some h) × (suits d h ≡ true) × (if_suited d how ≡ Some h)
      by_fit true is h = (how, refl, is, ap (λ b. cond b (Some how) None) is)
      by_fit false is h = cc

  edited : (cs : Three (Option ConditionSpec)) (e : Entry) (code : Option EditCode) (b : Bool) (n : ℕ) (text : Option (List ℕ)) (d : FieldForm) (how : How (List ℕ)) →
      card_entry_form cards e ≡ Some d → IsListed code text → how_by code text ≡ Some how → suits d how ≡ true → IsEdited d (with_entry cs e code b n text) how
  edited cs e None b n text d how there listed is fit = unfilled cs e b n text d how there listed is fit
  edited cs e (Some code) b n text d how there listed is fit = filled cs e code b n text d how is fit

  -- ---- an output field of which no rule of cards is broken

  pub record IsFieldFit (f : OutputField) (len : ℕ) : Type 0 where
    pub columns : bad_output_field f ≡ false
    pub defined : option_map_or (names_nothing cards) (output_operand f) false ≡ false
    pub kinds : wrong_in_output cards f ≡ false
    pub index : option_map_or (bad_index_of cards) (output_operand f) false ≡ false
    pub editing : edits_badly cards f ≡ false
    pub narrow : option_map_or (λ w. nat_lt f.end w) (width cards f) false ≡ false
    pub inside : f.end ≤ len
    pub listed : IsListed f.code f.text

  abbrev Keeps : ℕ → OutputField → Type 0
  Keeps len f = KeepsFieldRules forms words len (line_field_of f)

  entry_keeps : (cs : Three (Option ConditionSpec)) (e : Entry) (code : Option EditCode) (b : Bool) (n : ℕ) (text : Option (List ℕ)) (len : ℕ) →
      IsFieldFit (with_entry cs e code b n text) len → Keeps len (with_entry cs e code b n text)
  entry_keeps cs e code b n text len fit =
      let names = or_parts _ _ fit.defined in
      let form = some_form (card_entry_form cards e) (valid e.name names.0) in
      let d = form.0 in
      let at : forms (Named e.name) ≡ Some d = named e.name ∙ form.1 in
      let unedited_by : is_none (option_and_then (if_suited d) (how_by code text)) ≡ false = subst (λ (o : Option FieldForm). unedited o (with_entry cs e code b n text) ≡ false) form.1 fit.editing in
      let how = found d (how_by code text) unedited_by in
      let is = edited cs e code b n text d how.0 form.1 fit.listed how.1 how.2 in
      let wide : width cards (with_entry cs e code b n text) ≡ Some (width_of d.length d.decimals how.0) =
      ap (λ (o : Option FieldForm). width_by (Some e) o (with_entry cs e code b n text)) form.1 ∙ ap (option_map (width_of d.length d.decimals)) how.3 in
      let narrow : nat_lt n (width_of d.length d.decimals how.0) ≡ false = subst (λ (o : Option ℕ). option_map_or (λ w. nat_lt n w) o false ≡ false) wide fit.narrow in
      let written : ((is_some code || is_some text) && same_kind d.kind kind.Text || (b && not (is_writable d.class))) ≡ false =
      subst (λ (o : Option FieldForm). option_map_or (wrong_as_output (with_entry cs e code b n text)) o false ≡ false) form.1 fit.kinds in
      record {
        operand = entry_kept e d form.1 fit.index names.1;
        source = rw at (page_kept e d form.1);
        editing = rw at is.fits;
        room = rw (at, is.wide) (and_from _ _ (le-leb _ _ (ltb-false n _ narrow)) (le-leb _ _ fit.inside));
        blanked = rw at (may_blank b (is_writable d.class) (or_parts _ _ written).1);
      }
    where
      page_kept : (e : Entry) (d : FieldForm) → card_entry_form cards e ≡ Some d → fits_source (if names_page e then sources.Page else sources.Value) (Some d) ≡ true
      page_kept e d is = by_page (names_page e) refl
        where
          by_page : (p : Bool) → names_page e ≡ p → fits_source (if p then sources.Page else sources.Value) (Some d) ≡ true
          by_page true p = rw (page_is e d p is) refl
          by_page false p = refl

      may_blank : (b w : Bool) → (b && not w) ≡ false → (not b || w) ≡ true
      may_blank true w h = not-false w h
      may_blank false w h = refl

  -- a field that names no entry is a constant
  constant_keeps : (cs : Three (Option ConditionSpec)) (code : Option EditCode) (b : Bool) (n : ℕ) (text : Option (List ℕ)) (len : ℕ) →
      IsFieldFit (record { conditions = cs; operand = None; code = code; blank_after = b; end = n; text = text }) len →
      Keeps len (record { conditions = cs; operand = None; code = code; blank_after = b; end = n; text = text })
  constant_keeps cs (Some code) b n text len fit = absurd (let h = fit.columns in cc)
  constant_keeps cs None true n text len fit = absurd (let h = fit.columns in cc)
  constant_keeps cs None false n None len fit = absurd (let h = fit.columns in cc)
  constant_keeps cs None false n (Some x) len fit =
      let at = fit.listed x refl refl in
      record {
        operand = rw at refl;
        source = refl;
        editing = refl;
        room = rw at (and_from _ _ (le-leb _ _ (ltb-false n (length x) fit.narrow)) (le-leb _ _ fit.inside));
        blanked = refl;
      }

  pub keeps_rules : (f : OutputField) (len : ℕ) → IsFieldFit f len → Keeps len f
  keeps_rules f len fit = by_operand f.operand fit
    where
      by_operand : (o : Option Entry) → IsFieldFit (record { conditions = f.conditions; operand = o; code = f.code; blank_after = f.blank_after; end = f.end; text = f.text }) len →
          Keeps len (record { conditions = f.conditions; operand = o; code = f.code; blank_after = f.blank_after; end = f.end; text = f.text })
      by_operand (Some e) fit = entry_keeps f.conditions e f.code f.blank_after f.end f.text len fit
      by_operand None fit = constant_keeps f.conditions f.code f.blank_after f.end f.text len fit
