-- What the rules give to whoever runs an accepted program.
use Rattle.std.proofs.Common.{◌≡◌, ℕ, zero, suc, ◌-◌, ◌<◌, ◌≤◌, Bool, true, false, not, ◌&&◌, cond, List, [], ◌∷◌, length, All, Option, Some, None, slice_get, refl, sym, ap, ◌∙◌, arith}
use Rattle.std.specs.Prelude.{get_or, nat_le, ◌==◌}
use Rattle.std.proofs.lemmas.Bool.{and_from, and_parts, eqb-true, le-leb, leb-true, lt-ltb, ltb-true, not-false, not-true, or_parts, true≢false}
use Rattle.std.proofs.lemmas.Option.{slice_get-get_or, slice_get_within}
use Rattle.std.specs.List.{list_all, list_any}
use Rattle.rpg_edit_marks.specs.declared.code.Fill.{Fill}
use Rattle.rpg_program.proofs.Rules.{right_field, right_row}
use Rattle.rpg_program.specs.Ends.{Fault, Storage}
use Rattle.rpg_program.specs.Forms.{form_at, kind_of, length_of}
use Rattle.rpg_program.specs.Input.{TypeRow, fits_shows, input_fault}
use Rattle.rpg_program.specs.LineFaults.{field_fault, fits_editing, is_spacing, line_fault}
use Rattle.rpg_program.specs.Rows.{all_used, is_writable_use}
use Rattle.rpg_program.specs.declared.form.FieldForm.{FieldForm}
use Rattle.rpg_program.specs.declared.input.InputField.{InputField}
use Rattle.rpg_program.specs.declared.line.Editing.{Editing}
use Rattle.rpg_program.specs.declared.line.Editing.TheVariants as editings
use Rattle.rpg_program.specs.declared.line.File.{File}
use Rattle.rpg_program.specs.declared.line.File.TheVariants.{Printer, Disk}
use Rattle.rpg_program.specs.declared.line.LineField.{LineField}
use Rattle.rpg_program.specs.declared.line.Spacing.{Spacing}
use Rattle.rpg_program.specs.declared.operation.Instruction.{Instruction}
use Rattle.rpg_program.specs.declared.operation.Instruction.TheVariants.{Act, Except, Branch, Call, Return}
use Rattle.rpg_program.specs.Constants.{word_at}
use Rattle.rpg_program.specs.Object.{LineRow, Object, SubroutineRow, file_length, input_length}
use Rattle.rpg_program.specs.Sections.{body_of, first_place, has_subroutine, instruction_at, level_in, section_instructions}
use Rattle.rpg_program.specs.declared.section.Place.{Place}
use Rattle.rpg_program.specs.declared.section.Section.{Section}
use Rattle.rpg_program.specs.declared.section.Section.TheVariants.{Detail, Total, Subroutine}
use Rattle.rpg_verify_rules.proofs.Columns.{columns_same, kinds_same, written_same}
use Rattle.rpg_verify_rules.proofs.Kept.{body_kept, line_kept, no_stray, place_kept, type_kept}
use Rattle.rpg_verify_rules.specs.Accepted.{IsAccepted}
use Rattle.rpg_verify_rules.specs.LineRules.{blanks_wrongly, edits_form, fits_line, has_width, is_field_edited, is_field_there, is_field_worded, is_spaced_on, is_unspaced, is_word_for, lacks_editing, lacks_room, lacks_word, line_breaks}
use Rattle.rpg_verify_rules.specs.PlaceRules.{ends_in_return, holds_found, is_own, is_return, is_searched_well, place_breaks}
use Rattle.rpg_verify_rules.specs.Sound.{IsAt, IsSound, IsSoundInstruction, IsSoundLine, IsSoundType, LeadsWell}
use Rattle.rpg_verify_rules.specs.TypeRules.{is_code_in, is_control_in, is_input_in, is_input_shown, shows_wrongly, type_breaks}
use Rattle.rpg_verify_rules.specs.declared.rule.LineRule.{LineRule}
use Rattle.rpg_verify_rules.specs.declared.rule.LineRule.TheVariants.{V2, V8, V10, V11, V12, V13, V14}
use Rattle.rpg_verify_rules.specs.declared.rule.PlaceRule.{PlaceRule}
use Rattle.rpg_verify_rules.specs.declared.rule.PlaceRule.TheVariants.{V16, V17, V18, V19, V20, V21, V22}
use Rattle.rpg_verify_rules.specs.declared.rule.TypeRule.{TypeRule}
use Rattle.rpg_verify_rules.specs.declared.rule.TypeRule.TheVariants.{V3, V4, V5, V6, V7, V25, V26}

-- ---- tests of each element

all_at : {X : Type 0} (test : X → Bool) (xs : List X) → list_all test xs ≡ true → (k : ℕ) (x : X) → slice_get xs k ≡ Some x → test x ≡ true
all_at test [] h k x e = absurd (cc)
all_at test (y ∷ xs) h zero x e = ap test same ∙ (and_parts (test y) _ h).0
  where
    same : x ≡ y
    same = cc
all_at test (y ∷ xs) h (suc k) x e = all_at test xs (and_parts (test y) _ h).1 k x e

none_at : {X : Type 0} (test : X → Bool) (xs : List X) → list_any test xs ≡ false → (k : ℕ) (x : X) → slice_get xs k ≡ Some x → test x ≡ false
none_at test [] h k x e = absurd (cc)
none_at test (y ∷ xs) h zero x e = ap test same ∙ (or_parts (test y) _ h).0
  where
    same : x ≡ y
    same = cc
none_at test (y ∷ xs) h (suc k) x e = none_at test xs (or_parts (test y) _ h).1 k x e

all_by : {X : Type 0} (P : X → Type 0) (xs : List X) → ((k : ℕ) (x : X) → slice_get xs k ≡ Some x → P x) → All P xs
all_by P xs h = λ k d l. h k (get_or xs k d) (slice_get-get_or xs k d l)

-- what is tested only where something else holds
then_holds : (a b : Bool) → a ≡ true → (a && not b) ≡ false → b ≡ true
then_holds true b h g = not-false b g
then_holds false b h g = cc

-- ---- where control goes

within_by : (ss : List SubroutineRow) (n : ℕ) (o : Option SubroutineRow) → slice_get ss n ≡ o → 0 < level_in o → n < length ss
within_by ss n None e h = absurd (omega (arith, h))
within_by ss n (Some s) e h = slice_get_within ss n s e

own_at : (p : Object) → IsAccepted p → (m n k : ℕ) (o : Option SubroutineRow) → slice_get p.subroutines m ≡ o → slice_get (body_of o) k ≡ Some (Return n) → (has_subroutine p n ≡ true) × (Subroutine m ≡ Subroutine n)
own_at p h m n k None e at = absurd (cc)
own_at p h m n k (Some s) e at =
    let own : is_own m (Return n) ≡ true = all_at (is_own m) s.instructions (and_parts _ _ (body_kept p h m s e)).0 k (Return n) at in
    let same : n ≡ m = eqb-true n m own in
    let there : m < length p.subroutines = slice_get_within p.subroutines m s e in
    (lt-ltb n (length p.subroutines) (omega (arith, same, there)), ap Subroutine (sym same))

return_well : (p : Object) → IsAccepted p → (s : Section) (k n : ℕ) → slice_get (section_instructions p s) k ≡ Some (Return n) → (has_subroutine p n ≡ true) × (s ≡ Subroutine n)
return_well p h Detail k n at = absurd (true≢false (none_at is_return p.detail (or_parts (list_any is_return p.detail) (list_any is_return p.total) (no_stray p h)).0 k (Return n) at))
return_well p h Total k n at = absurd (true≢false (none_at is_return p.total (or_parts (list_any is_return p.detail) (list_any is_return p.total) (no_stray p h)).1 k (Return n) at))
return_well p h (Subroutine m) k n at = own_at p h m n k (slice_get p.subroutines m) refl at

leads_well : (p : Object) → IsAccepted p → (s : Section) (k : ℕ) (i : Instruction ℕ) → slice_get (section_instructions p s) k ≡ Some i → ((r : PlaceRule) → place_breaks r p s i ≡ false) → LeadsWell p s i
unfolding place_breaks
leads_well p h s k (Act a) at g = tt
leads_well p h s k Except at g = tt
leads_well p h s k (Branch is_taken_where cs target) at g = not-false _ (g V21)
leads_well p h s k (Call n) at g =
    let up = ltb-true _ _ (not-false _ (g V22)) in
    (lt-ltb n (length p.subroutines) (within_by p.subroutines n (slice_get p.subroutines n) refl (omega (arith, up))), up)
leads_well p h s k (Return n) at g = return_well p h s k n at

-- ---- an instruction

instruction_sound : (p : Object) (s : Section) (i : Instruction ℕ) → ((r : PlaceRule) → place_breaks r p s i ≡ false) → LeadsWell p s i → IsSoundInstruction p s i
unfolding place_breaks
instruction_sound p s i g c =
    let valid = not-false _ (g V16) in
    let kinds = sym (kinds_same p i valid) ∙ not-false _ (g V17) in
    let same = columns_same p i valid kinds in
    let written = ap (λ r. all_used (is_writable_use (form_at p.fields)) r.result) (sym same) ∙ not-false _ (g V18) in
    let marked = and_parts _ _ (not-false _ (g V19)) in
    let sought = and_parts _ _ marked.1 in
    let searched = and_parts _ _ (ap (is_searched_well p) (sym same) ∙ sought.1) in
    let found = and_parts _ _ (ap (holds_found p) (sym (written_same p i valid kinds written)) ∙ not-false _ (g V20)) in
    record {
      operands = right_row (form_at p.fields) _ (record {
        valid = valid;
        kinds = kinds;
        result = written;
        one_sided = not-true _ searched.0;
        tables = found.0;
        positions = found.1;
      });
      control = c;
      marks = sought.0;
      conditions = marked.0;
    }

sound_at : (p : Object) → IsAccepted p → (x : Place) (i : Instruction ℕ) → IsAt p x i → IsSoundInstruction p x.section i
unfolding instruction_at
sound_at p h x i at =
    let g = λ (r : PlaceRule). place_kept p h r x i at in
    instruction_sound p x.section i g (leads_well p h x.section (x.number - first_place p x.section) i at.1 g)

-- ---- the ends of subroutines

ends_by : (p : Object) → IsAccepted p → (n : ℕ) (o : Option SubroutineRow) → slice_get p.subroutines n ≡ o → n < length p.subroutines → ends_in_return (body_of o) ≡ true
ends_by p h n (Some s) e l = (and_parts _ _ (body_kept p h n s e)).1
ends_by p h n None e l = absurd (missing p.subroutines n e l)
  where
    missing : (ss : List SubroutineRow) (n : ℕ) → slice_get ss n ≡ None → n < length ss → ⊥
    missing [] n e l = omega (arith, l)
    missing (s ∷ ss) zero e l = cc
    missing (s ∷ ss) (suc n) e l = missing ss n e (omega (arith, l))

-- ---- lines

zero_low : (n m : ℕ) → (n == 0) ≡ true → nat_le n m ≡ true
zero_low n m h = let e = eqb-true n 0 h in le-leb n m (omega (arith, e))

unspaced_low : (lines : ℕ) (s : Spacing) → is_unspaced s ≡ true → is_spacing lines s ≡ true
unspaced_low lines s h =
    let halves = and_parts _ _ h in
    let spaces = and_parts (s.space_before == 0) _ halves.0 in
    let skips = and_parts (s.skip_before == 0) _ halves.1 in
    and_from _ _ (and_from _ _ (zero_low s.space_before 3 spaces.0) (zero_low s.space_after 3 spaces.1))
    (and_from _ _ (zero_low s.skip_before lines skips.0) (zero_low s.skip_after lines skips.1))

spaced_low : (lines : ℕ) (f : File) (s : Spacing) → is_spaced_on lines f s ≡ true → is_spacing lines s ≡ true
spaced_low lines Printer s h = h
spaced_low lines Disk s h = unspaced_low lines s h

no_line_fault : (lines len : ℕ) (s : Spacing) → (len == 0) ≡ false → is_spacing lines s ≡ true → line_fault lines len s ≡ None
unfolding line_fault
no_line_fault lines len s h g = by_test _ (and_from (nat_le 1 len) (is_spacing lines s) (le-leb 1 len (there len h)) g)
  where
    there : (n : ℕ) → (n == 0) ≡ false → 1 ≤ n
    there zero e = cc
    there (suc n) e = omega arith

    by_test : (b : Bool) → b ≡ true → cond b None (Some Storage) ≡ None
    by_test true e = refl
    by_test false e = cc

editing_fits : (p : Object) (form : Option FieldForm) (e : Editing ℕ) (fill : Fill) → edits_form form e fill ≡ true → is_word_for p (length_of form) e ≡ true → fits_editing (form_at p.fields) (word_at p) form e fill ≡ true
editing_fits p form editings.Plain fill h g = h
editing_fits p form (editings.Code code) fill h g = h
editing_fits p form (editings.Word k) fill h g = and_from _ _ h g

-- what is refused only where something else holds
unless_refused : (a b : Bool) → a ≡ true → (not b && a) ≡ false → b ≡ true
unless_refused a true h g = refl
unless_refused a false h g = absurd (true≢false (sym h ∙ g))

field_sound : (p : Object) (len : ℕ) (f : LineField ℕ) → is_field_there p f ≡ true → lacks_editing p f ≡ false → lacks_word p f ≡ false → lacks_room p len f ≡ false → blanks_wrongly p len f ≡ false →
    field_fault (form_at p.fields) (word_at p) len f ≡ None
field_sound p len f there editing word room blanked =
    let edited : is_field_edited p f ≡ true = then_holds (is_field_there p f) _ there editing in
    let worded : is_field_worded p f ≡ true = then_holds (is_field_there p f && is_field_edited p f) _ (and_from _ _ there edited) (and_turned (is_field_there p f) (is_field_edited p f) _ ∙ word) in
    let wide : has_width p f ≡ true = and_from _ _ there (and_from _ _ edited worded) in
    let roomy = then_holds (has_width p f) _ wide room in
    let operand = and_parts _ _ there in
    right_field (form_at p.fields) (word_at p) len f (record {
      operand = operand.0;
      source = operand.1;
      editing = editing_fits p (form_at p.fields f.operand.field) f.editing f.fill edited worded;
      room = roomy;
      blanked = unless_refused (fits_line p len f) _ (and_from _ _ wide roomy) blanked;
    })
  where
    and_turned : (a b c : Bool) → ((a && b) && c) ≡ (a && (b && c))
    and_turned true b c = refl
    and_turned false b c = refl

line_sound : (p : Object) (l : LineRow) → ((r : LineRule) → line_breaks r p l ≡ false) → IsSoundLine p l
unfolding line_breaks
line_sound p l g =
    let spaced = not-false _ (g V8) in
    let lines = p.overflow.page.lines in
    record {
      line = no_line_fault lines (file_length p l.file) l.spacing (g V2) (spaced_low lines l.file l.spacing spaced);
      spacing = spaced;
      fields = all_by (λ f. field_fault (form_at p.fields) (word_at p) (file_length p l.file) f ≡ None) l.fields (λ k f e. field_sound p (file_length p l.file) f
          (all_at (is_field_there p) l.fields (not-false _ (g V10)) k f e)
          (none_at (lacks_editing p) l.fields (g V11) k f e)
          (none_at (lacks_word p) l.fields (g V12) k f e)
          (none_at (lacks_room p (file_length p l.file)) l.fields (g V13) k f e)
          (none_at (blanks_wrongly p (file_length p l.file)) l.fields (g V14) k f e));
    }

-- ---- record types

no_input_fault : (p : Object) (len : ℕ) (f : InputField ℕ) → is_input_in p len f ≡ true → fits_shows (kind_of (form_at p.fields f.field)) f.shows ≡ true → input_fault (form_at p.fields) len f ≡ None
unfolding input_fault
no_input_fault p len f h g = by_tests (is_input_in p len f) (fits_shows (kind_of (form_at p.fields f.field)) f.shows) _ _ h g
  where
    by_tests : (a b : Bool) (s k : Fault) → a ≡ true → b ≡ true → cond (not a) (Some s) (cond (not b) (Some k) None) ≡ None
    by_tests true true s k h g = refl
    by_tests true false s k h g = cc
    by_tests false b s k h g = cc

type_sound : (p : Object) (t : TypeRow ℕ) → ((r : TypeRule) → type_breaks r p t ≡ false) → IsSoundType p t
unfolding type_breaks
type_sound p t g =
    let len = input_length p t.file in
    let fields = and_parts _ _ (not-false _ (g V5)) in
    let matched = and_parts _ _ (not-false _ (g V26)) in
    let in_at = all_at (is_input_in p len) t.inputs (not-false _ (g V6)) in
    let shown_at = λ (k : ℕ) (f : InputField ℕ) (e : slice_get t.inputs k ≡ Some f). unless_refused (is_input_in p len f) _ (in_at k f e) (none_at (shows_wrongly p len) t.inputs (g V7) k f e) in
    record {
      indicator = not-false _ (g V4);
      codes = all_by (λ c. is_code_in len c ≡ true) t.codes (all_at (is_code_in len) t.codes (not-false _ (g V3)));
      levels = all_by (λ c. is_control_in len c ≡ true) t.levels (all_at (is_control_in len) t.levels fields.0);
      joined = fields.1;
      inputs = all_by (λ f. input_fault (form_at p.fields) len f ≡ None) t.inputs
          (λ k f e. no_input_fault p len f (in_at k f e) (and_parts _ _ (shown_at k f e)).1);
      shown = all_by (λ f. is_input_shown p f ≡ true) t.inputs shown_at;
      file = not-false _ (g V25);
      matches = all_by (λ c. is_control_in len c ≡ true) t.matches (all_at (is_control_in len) t.matches matched.0);
      once = (and_parts _ _ matched.1).0;
      few_matched = leb-true _ _ (and_parts _ _ (and_parts _ _ matched.1).1).0;
      alike = (and_parts _ _ (and_parts _ _ matched.1).1).1;
    }

-- ---- a program

-- an accepted program has no step, line or record that is wrong
pub sound : (p : Object) → IsAccepted p → IsSound p
sound p h = record {
  each = sound_at p h;
  ended = λ n there. ends_by p h n (slice_get p.subroutines n) refl (ltb-true n (length p.subroutines) there);
  lines = all_by (IsSoundLine p) p.lines (λ k l e. line_sound p l (λ r. line_kept p h r k l e));
  types = all_by (IsSoundType p) p.types (λ k t e. type_sound p t (λ r. type_kept p h r k t e));
}
