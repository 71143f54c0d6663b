-- Output lines: the text of a line, when it is output, and its effect on a world.
use Rattle.std.specs.Prelude.{ℕ, ℤ, pos, ◌+ℤ◌, ◌-◌, Bool, true, false, not, ◌&&◌, ◌==◌, List, [], ◌∷◌, ◌++◌, length, take, drop, replicate, Option, None, Some, if◌then◌else◌}
use Rattle.std.specs.FinSet as set
use Rattle.std.specs.List.{list_any}
use Rattle.std.specs.Ordering.{nat_cmp, int_eq}
use Rattle.std.specs.declared.cmp.Ordering.{Ordering}
use Rattle.rpg_paper.specs.Paper.{Position, skip_turns_on, skipped, space_turns_on, spaced}
use Rattle.rpg_program.specs.Effect.{Effect, Leaves, quiet, then_go, unless_wrong}
use Rattle.rpg_program.specs.Editing.{how_of, text_of}
use Rattle.rpg_program.specs.Ends.{End, Fault, Continues, Halt, Wrong}
use Rattle.rpg_program.specs.Entries.{position_of}
use Rattle.rpg_program.specs.LineFaults.{field_fault, line_fault}
use Rattle.rpg_program.specs.Showing.{turned_on, turned_off}
use Rattle.rpg_program.specs.Values.{Value, Number, Text, number_of}
use Rattle.rpg_program.specs.World.{World, Fields, all_hold, three_hold, value_in, with_data, with_value}
use Rattle.rpg_program.specs.declared.form.FieldForm.{FieldForm}
use Rattle.rpg_program.specs.declared.condition.Condition.{Condition}
use Rattle.rpg_program.specs.declared.line.File.{File}
use Rattle.rpg_program.specs.declared.line.File.TheVariants.{Printer, Disk}
use Rattle.rpg_program.specs.declared.line.LineField.{LineField}
use Rattle.rpg_program.specs.declared.line.Spacing.{Spacing}
use Rattle.rpg_program.specs.declared.line.Pass.{Pass}
use Rattle.rpg_program.specs.declared.line.Pass.TheVariants as passes
use Rattle.rpg_program.specs.declared.line.Source.{Source}
use Rattle.rpg_program.specs.declared.line.Source.TheVariants as sources
use Rattle.rpg_program.specs.declared.line.Time.{Time}
use Rattle.rpg_program.specs.declared.line.Time.TheVariants as times
use Rattle.rpg_program.specs.declared.rows.Overflow.{Overflow}

-- a line with its length, that of its file (0 if it doesn't exist)
pub record Line (K : Type 0) : Type 0 where
  pub file : File
  pub time : Time
  pub len : ℕ
  pub spacing : Spacing
  pub alternatives : List (List Condition)
  pub fields : List (LineField K)

-- ---- when a line is output

-- an indicator is named without N
abbrev pub names_indicator : ℕ → List Condition → Bool
names_indicator n cs = list_any (λ c. (c.indicator == n) && not c.is_negated) cs

-- an alternative that names the overflow indicator without N
abbrev pub names_overflow : Option ℕ → List Condition → Bool
names_overflow None cs = false
names_overflow (Some n) cs = names_indicator n cs

-- the pass at which an alternative of a line counts: that of overflow if it names the overflow indicator, otherwise its line's own
unfoldable pub pass_of : Option ℕ → Time → List Condition → Pass
pass_of indicator times.Heading cs = if names_overflow indicator cs then passes.OverflowDetail else passes.Detail
pass_of indicator times.Detail cs = if names_overflow indicator cs then passes.OverflowDetail else passes.Detail
pass_of indicator times.Total cs = if names_overflow indicator cs then passes.OverflowTotal else passes.Total
pass_of indicator times.Exception cs = passes.Exception

-- two passes are the same
abbrev pub is_pass : Pass → Pass → Bool
is_pass passes.Detail passes.Detail = true
is_pass passes.Total passes.Total = true
is_pass passes.OverflowTotal passes.OverflowTotal = true
is_pass passes.OverflowDetail passes.OverflowDetail = true
is_pass passes.Exception passes.Exception = true
is_pass p q = false

-- the alternative counts at this pass, and all its conditions hold
abbrev pub is_met : Option ℕ → Pass → set.FinSet nat_cmp → Time → List Condition → Bool
is_met indicator pass on time cs = is_pass (pass_of indicator time cs) pass && all_hold on cs

-- a line is due if one of its alternatives is met
abbrev pub is_due : Option ℕ → Pass → set.FinSet nat_cmp → Time → List (List Condition) → Bool
is_due indicator pass on time alternatives = list_any (λ cs. is_met indicator pass on time cs) alternatives

-- ---- the form

module _ {K : Type 0} {R : K → K → Ordering} where
  -- the form moves, which may turn the overflow indicator on
  unfoldable pub after_movement : Option ℕ → Bool → Position → World R → World R
  after_movement indicator is_overflow to w =
      if is_overflow
      then record { «data» = record w.data { on = turned_on indicator w.data.on }; paper = record w.paper { here = to; has_turned_on = true } }
      else record w { paper = record w.paper { here = to } }

  -- n lines on
  abbrev pub after_space : Overflow → ℕ → World R → World R
  after_space overflow n w =
      after_movement overflow.indicator (space_turns_on overflow.page n w.paper.here) (spaced overflow.page n w.paper.here) w

  -- to the next line of this number
  abbrev pub after_skip_to : Overflow → ℕ → World R → World R
  after_skip_to overflow line w =
      after_movement overflow.indicator (skip_turns_on overflow.page line w.paper.here) (skipped line w.paper.here) w

  -- 0 means no skip
  abbrev pub after_skip : Overflow → ℕ → World R → World R
  after_skip overflow line w = if line == 0 then w else after_skip_to overflow line w

  -- the line is placed where the form is
  abbrev pub printed_line : World R → List ℕ → Effect R
  printed_line w text = record { ending = Continues; world = w; lines = record { at = w.paper.here; text = text } ∷ []; records = [] }

  -- the text becomes a record of the disk
  abbrev pub recorded : World R → List ℕ → Effect R
  recorded w text = record { ending = Continues; world = w; lines = []; records = text ∷ [] }

  -- skip before, space before
  abbrev pub spaced_before : Overflow → Spacing → World R → World R
  spaced_before overflow s w = after_space overflow s.space_before (after_skip overflow s.skip_before w)

  -- skip after, space after
  abbrev pub spaced_after : Overflow → Spacing → World R → World R
  spaced_after overflow s w = after_space overflow s.space_after (after_skip overflow s.skip_after w)

  -- the form moves, the line is placed, the form moves; a record is written
  unfoldable pub put_on : Overflow → File → Spacing → List ℕ → World R → Effect R
  put_on overflow Printer s text w = then_go (printed_line (spaced_before overflow s w) text) (λ v. Leaves (spaced_after overflow s v))
  put_on overflow Disk s text w = recorded w text

-- ---- the text of a line

-- the part, ending at this place
unfoldable pub laid_over : List ℕ → ℕ → List ℕ → List ℕ
laid_over text end part = take (end - length part) text ++ part ++ drop end text

-- the next page number; zero after 9999
unfoldable pub next_page : ℤ → ℤ
next_page n = if int_eq n (pos 9999) then pos 0 else n +ℤ pos 1

-- zero, or blanks
abbrev pub blanked : Option Value → Value
blanked None = Number (pos 0)
blanked (Some (Number n)) = Number (pos 0)
blanked (Some (Text text)) = Text (replicate (length text) 32)

-- with blank after, the entry is noted to be blanked later
abbrev pub remembered : {K : Type 0} → Bool → K × ℕ → List (K × ℕ) → List (K × ℕ)
remembered true entry entries = entries ++ entry ∷ []
remembered false entry entries = entries

-- a line that is being assembled: the fields, of which PAGE changes, the text so far, and the entries to be blanked
pub record Draft {K : Type 0} (R : K → K → Ordering) : Type 0 where
  pub fields : Fields R
  pub text : List ℕ
  pub to_blank : List (K × ℕ)

-- how assembling ended, and the line so far
pub record Drafted {K : Type 0} (R : K → K → Ordering) : Type 0 where
  pub ending : End
  pub draft : Draft R

module _ {K : Type 0} {R : K → K → Ordering} where
  -- a draft with its end
  abbrev pub drafted : End → Draft R → Drafted R
  drafted e d = record { ending = e; draft = d }

  -- the fields replaced by these
  abbrev pub with_fields : Fields R → World R → World R
  with_fields fields w = with_data (record w.data { fields = fields }) w

  -- nothing but blanks so far
  abbrev pub blank_line : ℕ → World R → Draft R
  blank_line len w = record { fields = w.data.fields; text = replicate len 32; to_blank = [] }

  -- PAGE is incremented before it is printed
  abbrev pub with_page_counted : Source → K × ℕ → Fields R → Fields R
  with_page_counted sources.Value entry fields = fields
  with_page_counted sources.Page entry fields = with_value entry (Number (next_page (number_of (value_in fields entry)))) fields

  -- an entry becomes zero or blank
  abbrev pub blanked_at : K × ℕ → Fields R → Fields R
  blanked_at entry fields = with_value entry (blanked (value_in fields entry)) fields

  -- the entries are blanked, one after another
  abbrev pub blanked_all : List (K × ℕ) → Fields R → Fields R
  blanked_all [] fields = fields
  blanked_all (e ∷ es) fields = blanked_all es (blanked_at e fields)

  -- continues if nothing is wrong with a field
  abbrev pub unless_faulty : Option Fault → Draft R → Drafted R → Drafted R
  unless_faulty None d e = e
  unless_faulty (Some f) d e = drafted (Wrong f) d

  -- a draft that continues is passed to what follows
  abbrev pub go_on_with : End → Drafted R → (Draft R → Drafted R) → Drafted R
  go_on_with Continues d go = go d.draft
  go_on_with (Halt k) d go = d
  go_on_with (Wrong f) d go = d

module _ {K : Type 0} {R : K → K → Ordering} where
  -- after an overflow output the indicator is settled: it turns off, unless a later movement has turned it on again
  abbrev pub settled : Overflow → World R → World R
  settled overflow w = record {
    «data» = record w.data { on = if w.paper.was_overflow && not w.paper.has_turned_on then turned_off overflow.indicator w.data.on else w.data.on };
    paper = record w.paper { was_overflow = false };
  }

  -- from the end of an overflow output on, movements are watched
  abbrev pub movements_watched : World R → World R
  movements_watched w = record w { paper = record w.paper { was_overflow = true; has_turned_on = false } }

module _ {K : Type 0} {R : K → K → Ordering} (forms : K → Option FieldForm) (words : K → List ℕ) where
  -- the text of an entry is written over the line; if the index is bad, halt 2
  abbrev pub laid : Draft R → LineField K → Option ℕ → Drafted R
  laid d f None = drafted (Halt 2) d
  laid d f (Some position) =
      let fields = with_page_counted f.source (f.operand.field, position) d.fields in
      drafted Continues (record {
        fields = fields;
        text = laid_over d.text f.end (text_of (forms f.operand.field) (how_of words f.editing f.fill) (value_in fields (f.operand.field, position)));
        to_blank = remembered f.is_blanked (f.operand.field, position) d.to_blank;
      })

  -- a field whose conditions hold
  unfoldable pub with_field : set.FinSet nat_cmp → ℕ → Draft R → LineField K → Drafted R
  with_field on len d f =
      if three_hold on f.conditions
      then unless_faulty (field_fault forms words len f) d (laid d f (position_of forms d.fields f.operand))
      else drafted Continues d

  -- all fields in order, until one is faulty or halts
  abbrev pub assembled : set.FinSet nat_cmp → ℕ → List (LineField K) → Draft R → Drafted R
  assembled on len [] d = drafted Continues d
  assembled on len (f ∷ fs) d = let one = with_field on len d f in go_on_with one.ending one (assembled on len fs)

  -- the line is output, and then its entries are blanked, unless a field has halted it
  abbrev pub write_line_out : Overflow → Line K → World R → End → Draft R → Effect R
  write_line_out overflow l w Continues d =
      then_go (put_on overflow l.file l.spacing d.text (with_fields d.fields w)) (λ v. Leaves (with_fields (blanked_all d.to_blank v.data.fields) v))
  write_line_out overflow l w (Halt k) d = quiet (Halt k) (with_fields d.fields w)
  write_line_out overflow l w (Wrong f) d = quiet (Wrong f) (with_fields d.fields w)

  -- a line is assembled, and then output
  unfoldable pub line_out : Overflow → Line K → World R → Effect R
  line_out overflow l w =
      unless_wrong (line_fault overflow.page.lines l.len l.spacing) w
      (let done = assembled w.data.on l.len l.fields (blank_line l.len w) in write_line_out overflow l w done.ending done.draft)

  -- an effect, if it is due
  abbrev pub where_due : Bool → Effect R → World R → Effect R
  where_due true e w = e
  where_due false e w = Leaves w

  -- a line, if it is due in this pass
  unfoldable pub one_out : Overflow → Pass → Line K → World R → Effect R
  one_out overflow pass l w = where_due (is_due overflow.indicator pass w.data.on l.time l.alternatives) (line_out overflow l w) w

  -- the lines of a pass, in order
  unfoldable pub lines_out : Overflow → Pass → List (Line K) → World R → Effect R
  lines_out overflow pass [] w = Leaves w
  lines_out overflow pass (l ∷ ls) w = then_go (one_out overflow pass l w) (lines_out overflow pass ls)

  -- ---- the outputs of a cycle

  -- H and D lines, and then the overflow indicator is settled
  abbrev pub detail_output : Overflow → List (Line K) → World R → Effect R
  detail_output overflow lines w = then_go (lines_out overflow passes.Detail lines w) (λ v. Leaves (settled overflow v))

  -- T lines
  abbrev pub total_output : Overflow → List (Line K) → World R → Effect R
  total_output overflow lines w = lines_out overflow passes.Total lines w

  -- H and D lines, and from then on movements are watched
  abbrev pub overflow_details : Overflow → List (Line K) → World R → Effect R
  overflow_details overflow lines w = then_go (lines_out overflow passes.OverflowDetail lines w) (λ v. Leaves (movements_watched v))

  -- total lines at overflow time, and then the heading and detail lines
  abbrev pub overflow_output : Overflow → List (Line K) → World R → Effect R
  overflow_output overflow lines w = then_go (lines_out overflow passes.OverflowTotal lines w) (overflow_details overflow lines)

  -- E lines
  abbrev pub exception_output : Overflow → List (Line K) → World R → Effect R
  exception_output overflow lines w = lines_out overflow passes.Exception lines w
