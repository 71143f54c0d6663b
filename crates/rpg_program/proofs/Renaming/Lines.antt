-- Renaming keys commutes with what output does.
use Rattle.std.proofs.Common.{◌≡◌, ℕ, Bool, true, false, not, ◌&&◌, ◌||◌, cond, List, [], ◌∷◌, ◌++◌, map, Option, None, Some, refl, sym, ap, ◌∙◌, subst, nat_cmp, Ordering}
use Rattle.std.proofs.lemmas.List.Elements.{All-head, All-nil, All-push, All-tail}
use Rattle.std.specs.FinSet as set
use Rattle.std.specs.Prelude.{All, nat_le, ◌==◌}
use Rattle.rpg_paper.specs.Paper.{Position, skip_turns_on, skipped, space_turns_on, spaced}
use Rattle.rpg_edit_marks.specs.declared.code.Fill.{Fill}
use Rattle.rpg_edit_marks.specs.declared.how.How.TheVariants as hows
use Rattle.rpg_program.specs.Editing.{how_of, text_of, width_as}
use Rattle.rpg_program.specs.Effect.{Effect, Leaves, go_on, quiet, then_go, unless_wrong}
use Rattle.rpg_program.specs.Ends.{End, Fault, Continues, Halt, Kind, Storage, Wrong}
use Rattle.rpg_program.specs.Entries.{position_of}
use Rattle.rpg_program.specs.Forms.{has_field, is_array, is_index_form, is_text_constant, kind_of, length_of, may_write, same_kind}
use Rattle.rpg_edit_marks.specs.Code.{is_blank_fill}
use Rattle.rpg_program.specs.LineFaults.{KeepsFieldRules, field_fault, fits_editing, fits_source, fits_word, has_kinds, has_storage, has_word, prints_page, line_fault}
use Rattle.rpg_program.specs.Lines.{Draft, Drafted, Line, after_movement, after_skip, after_skip_to, after_space, assembled, blank_line, blanked, blanked_all, with_page_counted, drafted, go_on_with, is_due, laid, laid_over, line_out, lines_out, next_page, one_out, printed_line, put_on, write_line_out, remembered, spaced_before, unless_faulty, where_due, with_field, with_fields}
use Rattle.rpg_program.specs.Rows.{has_entry, has_index, has_operand, is_one, is_one_entry, is_shaped}
use Rattle.rpg_program.specs.Showing.{turned_on}
use Rattle.rpg_program.specs.Values.{Number, number_of}
use Rattle.rpg_program.specs.Ended.{Ended, on_data}
use Rattle.rpg_program.specs.World.{Data, Fields, World, three_hold}
use Rattle.rpg_program.specs.declared.form.FieldForm.{FieldForm}
use Rattle.rpg_program.specs.declared.form.Kind.TheVariants as kinds
use Rattle.rpg_program.specs.declared.line.Editing.{Editing}
use Rattle.rpg_program.specs.declared.line.Editing.TheVariants as editings
use Rattle.rpg_program.specs.declared.line.File.{File}
use Rattle.rpg_program.specs.declared.line.File.TheVariants.{Printer, Disk}
use Rattle.rpg_program.specs.declared.line.LineField.{LineField}
use Rattle.rpg_program.specs.declared.line.Pass.{Pass}
use Rattle.rpg_program.specs.declared.line.Source.{Source}
use Rattle.rpg_program.specs.declared.line.Source.TheVariants as sources
use Rattle.rpg_program.specs.declared.line.Spacing.{Spacing}
use Rattle.rpg_program.specs.declared.operation.Index.{Index}
use Rattle.rpg_program.specs.declared.operation.Index.TheVariants.{Blank, Literal, Field}
use Rattle.rpg_program.specs.declared.operation.Operand.{Operand}
use Rattle.rpg_program.specs.declared.row.Shape.TheVariants as shapes
use Rattle.rpg_program.specs.declared.rows.Overflow.{Overflow}
use Rattle.rpg_program.proofs.Renaming.Operations.{position_same, written}
use Rattle.rpg_program.specs.Naming.{Agree, AgreeFields, AreNamed, IsNamed, IsRenaming, SameEffect, SameEnd, renamed_editing, renamed_field, renamed_index, renamed_line, renamed_operand}

module _ {K L : Type 0} {R : K → K → Ordering} {S : L → L → Ordering} {old : K → Option FieldForm} {at : K → L} where
  pub leaves_same : (v : World R) (w : World S) → Agree old at v w → SameEffect old at (Leaves v) (Leaves w)
  leaves_same v w a = record { ending = refl; world = a; lines = refl; records = refl }

  pub quiet_same : (e : End) (v : World R) (w : World S) → Agree old at v w → SameEffect old at (quiet e v) (quiet e w)
  quiet_same e v w a = record { ending = refl; world = a; lines = refl; records = refl }

  -- what is done to the data, as effects of worlds
  pub data_same : (f : Data R → Ended R) (g : Data S → Ended S) (v : World R) (w : World S) → Agree old at v w → SameEnd old at (f v.data) (g w.data) → SameEffect old at (on_data f v) (on_data g w)
  data_same f g v w a o = record { ending = o.ending; world = record { «data» = o.data; paper = a.paper }; lines = refl; records = refl }

  -- one effect and then another
  pub then_same : (d : Effect R) (e : Effect S) (go : World R → Effect R) (went : World S → Effect S) → SameEffect old at d e → ((v : World R) (w : World S) → Agree old at v w → SameEffect old at (go v) (went w)) → SameEffect old at (then_go d go) (then_go e went)
  then_same d e go went one next = subst (λ x. SameEffect old at (then_go d go) (go_on x e went)) (sym one.ending) (by_end d.ending refl)
    where
      by_end : (x : End) → d.ending ≡ x → SameEffect old at (go_on x d go) (go_on x e went)
      by_end Continues is =
          let two = next d.world e.world one.world in
          record { ending = two.ending; world = two.world; lines = λ i. one.lines i ++ two.lines i; records = λ i. one.records i ++ two.records i }
      by_end (Halt k) is = one
      by_end (Wrong f) is = one

  -- ---- the form

  movement_agrees : (indicator : Option ℕ) (turns : Position → Bool) (to : Position → Position) (v : World R) (w : World S) → Agree old at v w →
      Agree old at (after_movement indicator (turns v.paper.here) (to v.paper.here) v) (after_movement indicator (turns w.paper.here) (to w.paper.here) w)
  unfolding after_movement
  movement_agrees indicator turns to v w a =
      subst (λ b. Agree old at (after_movement indicator (turns v.paper.here) (to v.paper.here) v) (after_movement indicator b (to w.paper.here) w)) (λ i. turns (sym a.paper i).here)
      (by_turn (turns v.paper.here))
    where
      by_turn : (b : Bool) → Agree old at (after_movement indicator b (to v.paper.here) v) (after_movement indicator b (to w.paper.here) w)
      by_turn true = record {
        «data» = record { fields = a.data.fields; on = ap (turned_on indicator) a.data.on; remainder = a.data.remainder };
        paper = λ i. record (a.paper i) { here = to (a.paper i).here; has_turned_on = true };
      }
      by_turn false = record { «data» = a.data; paper = λ i. record (a.paper i) { here = to (a.paper i).here } }

  space_agrees : (overflow : Overflow) (n : ℕ) (v : World R) (w : World S) → Agree old at v w → Agree old at (after_space overflow n v) (after_space overflow n w)
  space_agrees overflow n v w a = movement_agrees overflow.indicator (space_turns_on overflow.page n) (spaced overflow.page n) v w a

  skip_agrees : (overflow : Overflow) (n : ℕ) (v : World R) (w : World S) → Agree old at v w → Agree old at (after_skip overflow n v) (after_skip overflow n w)
  skip_agrees overflow n v w a = by_none (n == 0)
    where
      by_none : (b : Bool) → Agree old at (cond b v (after_skip_to overflow n v)) (cond b w (after_skip_to overflow n w))
      by_none true = a
      by_none false = movement_agrees overflow.indicator (skip_turns_on overflow.page n) (skipped n) v w a

  printed_same : (text written : List ℕ) → written ≡ text → (v : World R) (w : World S) → Agree old at v w → SameEffect old at (printed_line v text) (printed_line w written)
  printed_same text written e v w a = record { ending = refl; world = a; lines = λ i. record { at = (a.paper i).here; text = e i } ∷ []; records = refl }

  put_same : (overflow : Overflow) (file : File) (s : Spacing) (text written : List ℕ) → written ≡ text → (v : World R) (w : World S) → Agree old at v w → SameEffect old at (put_on overflow file s text v) (put_on overflow file s written w)
  unfolding put_on
  put_same overflow Printer s text written e v w a =
      then_same (printed_line (spaced_before overflow s v) text) (printed_line (spaced_before overflow s w) written) _ _
      (printed_same text written e _ _ (space_agrees overflow s.space_before _ _ (skip_agrees overflow s.skip_before v w a)))
      (λ x y b. leaves_same _ _ (space_agrees overflow s.space_after _ _ (skip_agrees overflow s.skip_after x y b)))
  put_same overflow Disk s text written e v w a = record { ending = refl; world = a; lines = refl; records = λ i. e i ∷ [] }

module _ {K L : Type 0} {R : K → K → Ordering} {S : L → L → Ordering} {old : K → Option FieldForm} {new : L → Option FieldForm} {at : K → L} (r : IsRenaming R S old new at)
    (words : K → List ℕ) (new_words : L → List ℕ) (same_words : (k : K) → new_words (at k) ≡ words k) where
  -- ---- what may be wrong with a field

  index_same : (d : FieldForm) (x : Index K) → has_index new d (renamed_index at x) ≡ has_index old d x
  index_same d Blank = refl
  index_same d (Literal n) = refl
  index_same d (Field k) = ap has_field (r.forms k)

  one_same : (d : FieldForm) (x : Index K) → is_one new d (renamed_index at x) ≡ is_one old d x
  one_same d Blank = refl
  one_same d (Literal n) = refl
  one_same d (Field k) = ap (λ f. is_array d.class && is_index_form f) (r.forms k)

  entry_same : (o : Operand K) → has_entry new (renamed_operand at o) ≡ has_entry old o
  entry_same o = ap (λ f. has_operand new f (renamed_index at o.index)) (r.forms o.field) ∙ by_form (old o.field)
    where
      by_form : (f : Option FieldForm) → has_operand new f (renamed_index at o.index) ≡ has_operand old f o.index
      by_form None = refl
      by_form (Some d) = index_same d o.index

  one_entry_same : (o : Operand K) → is_one_entry new (renamed_operand at o) ≡ is_one_entry old o
  one_entry_same o = ap (λ f. is_shaped new f shapes.One (renamed_index at o.index)) (r.forms o.field) ∙ by_form (old o.field)
    where
      by_form : (f : Option FieldForm) → is_shaped new f shapes.One (renamed_index at o.index) ≡ is_shaped old f shapes.One o.index
      by_form None = refl
      by_form (Some d) = one_same d o.index

  word_same : (e : Editing K) → has_word new (renamed_editing at e) ≡ has_word old e
  word_same editings.Plain = refl
  word_same (editings.Code c) = refl
  word_same (editings.Word k) = ap has_field (r.forms k)

  how_same : (e : Editing K) (fill : Fill) → how_of new_words (renamed_editing at e) fill ≡ how_of words e fill
  how_same editings.Plain fill = refl
  how_same (editings.Code c) fill = refl
  how_same (editings.Word k) fill = ap hows.Word (same_words k)

  fits_same : (form : Option FieldForm) (e : Editing K) (fill : Fill) → fits_editing new new_words form (renamed_editing at e) fill ≡ fits_editing old words form e fill
  fits_same form editings.Plain fill = refl
  fits_same form (editings.Code c) fill = refl
  fits_same form (editings.Word k) fill = λ i. (same_kind (kind_of form) kinds.Number && is_blank_fill fill) && (is_text_constant (r.forms k i) && fits_word (length_of form) (same_words k i))

  storage_same : (len : ℕ) (f : LineField K) → has_storage new new_words len (renamed_field at f) ≡ has_storage old words len f
  storage_same len f = λ i. (entry_same f.operand i && word_same f.editing i)
      && ((nat_le (width_as (kind_of (r.forms f.operand.field i)) (r.forms f.operand.field i) (how_same f.editing f.fill i)) f.end && nat_le f.end len)
      && (not (f.is_blanked || prints_page f.source) || may_write (r.forms f.operand.field i)))

  kinds_same : (f : LineField K) → has_kinds new new_words (renamed_field at f) ≡ has_kinds old words f
  kinds_same f = λ i. one_entry_same f.operand i
      && ((ap (λ x. fits_editing new new_words x (renamed_editing at f.editing) f.fill) (r.forms f.operand.field) ∙ fits_same (old f.operand.field) f.editing f.fill) i && fits_source f.source (r.forms f.operand.field i))

  pub fault_same : (len : ℕ) (f : LineField K) → field_fault new new_words len (renamed_field at f) ≡ field_fault old words len f
  unfolding field_fault
  fault_same len f = λ i. cond (not (storage_same len f i)) (Some Storage) (cond (not (kinds_same f i)) (Some Kind) None)

  -- what the rules require of a field holds of the renamed one
  pub keeps_same : (len : ℕ) (f : LineField K) → KeepsFieldRules old words len f → KeepsFieldRules new new_words len (renamed_field at f)
  keeps_same len f k =
      let form = r.forms f.operand.field in
      record {
        operand = (λ i. entry_same f.operand i && one_entry_same f.operand i) ∙ k.operand;
        source = (λ i. fits_source f.source (form i)) ∙ k.source;
        editing = ap (λ x. fits_editing new new_words x (renamed_editing at f.editing) f.fill) form ∙ fits_same (old f.operand.field) f.editing f.fill ∙ k.editing;
        room = (λ i. nat_le (width_as (kind_of (form i)) (form i) (how_same f.editing f.fill i)) f.end && nat_le f.end len) ∙ k.room;
        blanked = (λ i. not f.is_blanked || may_write (form i)) ∙ k.blanked;
      }

  -- ---- the line under way

  abbrev renamed_pair : K × ℕ → L × ℕ
  renamed_pair p = (at p.0, p.1)

  -- an entry of what has a form
  abbrev IsEntry : K × ℕ → Type 0
  IsEntry p = has_field (old p.0) ≡ true

  record SameDraft (d : Draft R) (e : Draft S) : Type 0 where
    fields : AgreeFields old at d.fields e.fields
    text : e.text ≡ d.text
    to_blank : e.to_blank ≡ map renamed_pair d.to_blank
    there : All IsEntry d.to_blank

  record SameDrafted (d : Drafted R) (e : Drafted S) : Type 0 where
    ending : e.ending ≡ d.ending
    draft : SameDraft d.draft e.draft

  pushed : (xs : List (K × ℕ)) (x : K × ℕ) → map renamed_pair xs ++ renamed_pair x ∷ [] ≡ map renamed_pair (xs ++ x ∷ [])
  pushed [] x = refl
  pushed (y ∷ ys) x = ap (λ z. renamed_pair y ∷ z) (pushed ys x)

  remembered_same : (b : Bool) (x : K × ℕ) (xs : List (K × ℕ)) (ys : List (L × ℕ)) → ys ≡ map renamed_pair xs → remembered b (renamed_pair x) ys ≡ map renamed_pair (remembered b x xs)
  remembered_same true x xs ys e = ap (λ z. z ++ renamed_pair x ∷ []) e ∙ pushed xs x
  remembered_same false x xs ys e = e

  remembered_there : (b : Bool) (x : K × ℕ) (xs : List (K × ℕ)) → IsEntry x → All IsEntry xs → All IsEntry (remembered b x xs)
  remembered_there true x xs g h = All-push IsEntry xs x h g
  remembered_there false x xs g h = h

  counted_agrees : (s : Source) (x : K × ℕ) → IsEntry x → (v : Fields R) (w : Fields S) → AgreeFields old at v w → AgreeFields old at (with_page_counted s x v) (with_page_counted s (renamed_pair x) w)
  counted_agrees sources.Value x there v w a = a
  counted_agrees sources.Page x there v w a = written r v w a x.0 there x.1 _ _ (λ i. Number (next_page (number_of (a.values x.0 there x.1 i))))

  laid_same : (f : LineField K) → IsNamed old f.operand → (p : Option ℕ) (d : Draft R) (e : Draft S) → SameDraft d e → SameDrafted (laid old words d f p) (laid new new_words e (renamed_field at f) p)
  laid_same f there None d e a = record { ending = refl; draft = a }
  laid_same f there (Some n) d e a =
      let b = counted_agrees f.source (f.operand.field, n) there.0 d.fields e.fields a.fields in
      record {
        ending = refl;
        draft = record {
          fields = b;
          text = λ i. laid_over (a.text i) f.end (text_of (r.forms f.operand.field i) (how_same f.editing f.fill i) (b.values f.operand.field there.0 n i));
          to_blank = remembered_same f.is_blanked (f.operand.field, n) d.to_blank e.to_blank a.to_blank;
          there = remembered_there f.is_blanked (f.operand.field, n) d.to_blank there.0 a.there;
        };
      }

  unless_same : (x : Option Fault) (d : Draft R) (e : Draft S) (y : Drafted R) (z : Drafted S) → SameDraft d e → SameDrafted y z → SameDrafted (unless_faulty x d y) (unless_faulty x e z)
  unless_same None d e y z a b = b
  unless_same (Some f) d e y z a b = record { ending = refl; draft = a }

  field_same : (on : set.FinSet nat_cmp) (len : ℕ) (f : LineField K) → IsNamed old f.operand → (d : Draft R) (e : Draft S) → SameDraft d e → SameDrafted (with_field old words on len d f) (with_field new new_words on len e (renamed_field at f))
  unfolding with_field
  field_same on len f there d e a = by_condition (three_hold on f.conditions)
    where
      body : SameDrafted (unless_faulty (field_fault old words len f) d (laid old words d f (position_of old d.fields f.operand))) (unless_faulty (field_fault new new_words len (renamed_field at f)) e (laid new new_words e (renamed_field at f) (position_of new e.fields (renamed_operand at f.operand))))
      body =
          subst (λ x. SameDrafted (unless_faulty (field_fault old words len f) d (laid old words d f (position_of old d.fields f.operand))) (unless_faulty x e (laid new new_words e (renamed_field at f) (position_of new e.fields (renamed_operand at f.operand))))) (sym (fault_same len f))
          (unless_same (field_fault old words len f) d e _ _ a
          (subst (λ p. SameDrafted (laid old words d f (position_of old d.fields f.operand)) (laid new new_words e (renamed_field at f) p)) (sym (position_same r d.fields e.fields a.fields f.operand there))
          (laid_same f there (position_of old d.fields f.operand) d e a)))

      by_condition : (b : Bool) → SameDrafted (cond b (unless_faulty (field_fault old words len f) d (laid old words d f (position_of old d.fields f.operand))) (drafted Continues d)) (cond b (unless_faulty (field_fault new new_words len (renamed_field at f)) e (laid new new_words e (renamed_field at f) (position_of new e.fields (renamed_operand at f.operand)))) (drafted Continues e))
      by_condition true = body
      by_condition false = record { ending = refl; draft = a }

  go_on_same : (x : End) (d : Drafted R) (e : Drafted S) (go : Draft R → Drafted R) (went : Draft S → Drafted S) → SameDrafted d e → ((b : Draft R) (c : Draft S) → SameDraft b c → SameDrafted (go b) (went c)) → SameDrafted (go_on_with x d go) (go_on_with x e went)
  go_on_same Continues d e go went one next = next d.draft e.draft one.draft
  go_on_same (Halt k) d e go went one next = one
  go_on_same (Wrong f) d e go went one next = one

  -- what it outputs is named
  abbrev pub IsThere : LineField K → Type 0
  IsThere f = IsNamed old f.operand

  abbrev AreAll : Line K → Type 0
  AreAll l = All IsThere l.fields

  assembled_same : (on : set.FinSet nat_cmp) (len : ℕ) (fs : List (LineField K)) → All IsThere fs → (d : Draft R) (e : Draft S) → SameDraft d e → SameDrafted (assembled old words on len fs d) (assembled new new_words on len (map (renamed_field at) fs) e)
  assembled_same on len [] there d e a = record { ending = refl; draft = a }
  assembled_same on len (f ∷ fs) there d e a =
      let one = field_same on len f (All-head IsThere f fs there) d e a in
      subst (λ x. SameDrafted (assembled old words on len (f ∷ fs) d) (go_on_with x (with_field new new_words on len e (renamed_field at f)) (assembled new new_words on len (map (renamed_field at) fs)))) (sym one.ending)
      (go_on_same (with_field old words on len d f).ending _ _ _ _ one (assembled_same on len fs (All-tail IsThere f fs there)))

  blanked_agrees : (xs : List (K × ℕ)) → All IsEntry xs → (v : Fields R) (w : Fields S) → AgreeFields old at v w → AgreeFields old at (blanked_all xs v) (blanked_all (map renamed_pair xs) w)
  blanked_agrees [] there v w a = a
  blanked_agrees (x ∷ xs) there v w a = blanked_agrees xs (All-tail IsEntry x xs there) _ _ (written r v w a x.0 (All-head IsEntry x xs there) x.1 _ _ (ap blanked (a.values x.0 (All-head IsEntry x xs there) x.1)))

  fields_agree : (v : World R) (w : World S) → Agree old at v w → (x : Fields R) (y : Fields S) → AgreeFields old at x y → Agree old at (with_fields x v) (with_fields y w)
  fields_agree v w a x y b = record { «data» = record { fields = b; on = a.data.on; remainder = a.data.remainder }; paper = a.paper }

  output_same : (overflow : Overflow) (l : Line K) (v : World R) (w : World S) → Agree old at v w → (x : End) (d : Draft R) (e : Draft S) → SameDraft d e → SameEffect old at (write_line_out old words overflow l v x d) (write_line_out new new_words overflow (renamed_line at l) w x e)
  output_same overflow l v w a Continues d e b =
      then_same _ _ _ _ (put_same overflow l.file l.spacing d.text e.text b.text _ _ (fields_agree v w a d.fields e.fields b.fields))
      (λ x y c. leaves_same _ _ (fields_agree x y c _ _
      (subst (λ z. AgreeFields old at (blanked_all d.to_blank x.data.fields) (blanked_all z y.data.fields)) (sym b.to_blank) (blanked_agrees d.to_blank b.there x.data.fields y.data.fields c.data.fields))))
  output_same overflow l v w a (Halt k) d e b = quiet_same _ _ _ (fields_agree v w a d.fields e.fields b.fields)
  output_same overflow l v w a (Wrong f) d e b = quiet_same _ _ _ (fields_agree v w a d.fields e.fields b.fields)

  line_same : (overflow : Overflow) (l : Line K) → All IsThere l.fields → (v : World R) (w : World S) → Agree old at v w → SameEffect old at (line_out old words overflow l v) (line_out new new_words overflow (renamed_line at l) w)
  unfolding line_out
  line_same overflow l there v w a = by_fault (line_fault overflow.page.lines l.len l.spacing)
    where
      done : SameDrafted (assembled old words v.data.on l.len l.fields (blank_line l.len v)) (assembled new new_words w.data.on l.len (map (renamed_field at) l.fields) (blank_line l.len w))
      done = subst (λ on. SameDrafted (assembled old words v.data.on l.len l.fields (blank_line l.len v)) (assembled new new_words on l.len (map (renamed_field at) l.fields) (blank_line l.len w))) (sym a.data.on)
          (assembled_same v.data.on l.len l.fields there _ _ (record { fields = a.data.fields; text = refl; to_blank = refl; there = All-nil IsEntry }))

      put : SameEffect old at (let one = assembled old words v.data.on l.len l.fields (blank_line l.len v) in write_line_out old words overflow l v one.ending one.draft)
          (let one = assembled new new_words w.data.on l.len (map (renamed_field at) l.fields) (blank_line l.len w) in write_line_out new new_words overflow (renamed_line at l) w one.ending one.draft)
      put = subst (λ x. SameEffect old at (write_line_out old words overflow l v (assembled old words v.data.on l.len l.fields (blank_line l.len v)).ending (assembled old words v.data.on l.len l.fields (blank_line l.len v)).draft) (write_line_out new new_words overflow (renamed_line at l) w x (assembled new new_words w.data.on l.len (map (renamed_field at) l.fields) (blank_line l.len w)).draft)) (sym done.ending)
          (output_same overflow l v w a _ _ _ done.draft)

      by_fault : (x : Option Fault) → SameEffect old at (unless_wrong x v (let one = assembled old words v.data.on l.len l.fields (blank_line l.len v) in write_line_out old words overflow l v one.ending one.draft))
          (unless_wrong x w (let one = assembled new new_words w.data.on l.len (map (renamed_field at) l.fields) (blank_line l.len w) in write_line_out new new_words overflow (renamed_line at l) w one.ending one.draft))
      by_fault None = put
      by_fault (Some f) = quiet_same _ v w a

  one_out_same : (overflow : Overflow) (pass : Pass) (l : Line K) → All IsThere l.fields → (v : World R) (w : World S) → Agree old at v w → SameEffect old at (one_out old words overflow pass l v) (one_out new new_words overflow pass (renamed_line at l) w)
  unfolding one_out
  one_out_same overflow pass l there v w a =
      subst (λ on. SameEffect old at (one_out old words overflow pass l v) (where_due new new_words (is_due overflow.indicator pass on l.time l.alternatives) (line_out new new_words overflow (renamed_line at l) w) w)) (sym a.data.on)
      (by_asked (is_due overflow.indicator pass v.data.on l.time l.alternatives))
    where
      by_asked : (b : Bool) → SameEffect old at (where_due old words b (line_out old words overflow l v) v) (where_due new new_words b (line_out new new_words overflow (renamed_line at l) w) w)
      by_asked true = line_same overflow l there v w a
      by_asked false = leaves_same v w a

  pub lines_same : (overflow : Overflow) (pass : Pass) (ls : List (Line K)) → AreNamed old ls → (v : World R) (w : World S) → Agree old at v w → SameEffect old at (lines_out old words overflow pass ls v) (lines_out new new_words overflow pass (map (renamed_line at) ls) w)
  unfolding lines_out
  lines_same overflow pass [] there v w a = leaves_same v w a
  lines_same overflow pass (l ∷ ls) there v w a = then_same _ _ _ _ (one_out_same overflow pass l (All-head AreAll l ls there) v w a) (lines_same overflow pass ls (All-tail AreAll l ls there))
