-- What lines do: the paper, EXCPT, blank after.
use Rattle.std.proofs.Common.{◌≡◌, ℕ, zero, suc, ◌+◌, ◌-◌, ◌≤◌, Bool, true, false, not, ◌&&◌, ◌||◌, cond, eqb, nat_le, nat_lt, List, [], ◌∷◌, ◌++◌, length, Option, None, Some, Ordering, refl, sym, ap, ap₂, ◌∙◌, subst, arith}
use Rattle.std.proofs.Math.Dec.{eqb-suc-zero}
use Rattle.std.proofs.lemmas.Bool.{eq-eqb, le-leb, lt-leb, lt-ltb}
use Rattle.std.specs.Cmp.{IsTotalOrder, nat_cmp_total, unsigned_tied}
use Rattle.std.specs.FinMap as map
use Rattle.std.specs.FinSet as set
use Rattle.std.specs.List.{list_any}
use Rattle.std.specs.Ordering.{eq_by_cmp, nat_cmp}
use Rattle.rpg_paper.specs.Paper.{Position, passes_overflow, reaches_overflow, skipped, space_turns_on, spaced}
use Rattle.rpg_paper.specs.declared.form.Page.{Page}
use Rattle.rpg_program.specs.Effect.{Effect, Leaves, then_go, unless_wrong}
use Rattle.rpg_program.specs.Ends.{End, Fault, Continues, Halt, Wrong}
use Rattle.rpg_program.specs.Entries.{position_of}
use Rattle.rpg_program.specs.LineFaults.{field_fault, line_fault}
use Rattle.rpg_program.specs.Lines.{Draft, Drafted, Line, after_movement, after_skip, after_skip_to, after_space, assembled, blank_line, blanked, blanked_all, blanked_at, drafted, exception_output, is_due, is_pass, laid, line_out, lines_out, names_overflow, one_out, pass_of, put_on, remembered, spaced_after, spaced_before, unless_faulty, where_due, with_field, with_fields, write_line_out}
use Rattle.rpg_program.specs.Values.{Value, Number, Text, entry_cmp}
use Rattle.rpg_program.specs.World.{Fields, World, all_hold, three_hold, value_in}
use Rattle.rpg_program.specs.declared.condition.Condition.{Condition}
use Rattle.rpg_program.specs.declared.form.FieldForm.{FieldForm}
use Rattle.rpg_program.specs.declared.line.File.{File}
use Rattle.rpg_program.specs.declared.line.File.TheVariants.{Printer, Disk}
use Rattle.rpg_program.specs.declared.line.LineField.{LineField}
use Rattle.rpg_program.specs.declared.line.Pass.{Pass}
use Rattle.rpg_program.specs.declared.line.Pass.TheVariants as passes
use Rattle.rpg_program.specs.declared.line.Spacing.{Spacing}
use Rattle.rpg_program.specs.declared.line.Time.{Time}
use Rattle.rpg_program.specs.declared.line.Time.TheVariants as times
use Rattle.rpg_program.specs.declared.rows.Overflow.{Overflow}
use Rattle.rpg_operation_laws.proofs.Results.{entries_total, has_value}
use Rattle.rpg_operation_laws.specs.Output.{Blanks, BlanksNoted, IsBlank, LinesTurnOn, Prints, PutsExceptions, Zero, is_exception, moved_on, skipped_if_any}

-- ---- the paper

module _ {K : Type 0} {R : K → K → Ordering} (overflow : Overflow) where
  -- the paper moves to a position, and no field changes
  record Moved (w : World R) (to : Position) (v : World R) : Type 0 where
    here : v.paper.here ≡ to
    fields : v.data.fields ≡ w.data.fields

  moves : (b : Bool) (to : Position) (w : World R) → Moved w to (after_movement overflow.indicator b to w)
  unfolding after_movement
  moves true to w = record { here = refl; fields = refl }
  moves false to w = record { here = refl; fields = refl }

  skips : (n : ℕ) (w : World R) → Moved w (skipped_if_any n w.paper.here) (after_skip overflow n w)
  skips zero w = record { here = refl; fields = refl }
  skips (suc n) w = subst (λ b. Moved w (skipped (suc n) w.paper.here) (cond b w (after_skip_to overflow (suc n) w))) (sym (eqb-suc-zero n)) (moves _ (skipped (suc n) w.paper.here) w)

  moves_on : (skip space : ℕ) (w : World R) → Moved w (moved_on overflow.page skip space w.paper.here) (after_space overflow space (after_skip overflow skip w))
  moves_on skip space w =
      let skipping = skips skip w in
      let spacing = moves _ (spaced overflow.page space (after_skip overflow skip w).paper.here) (after_skip overflow skip w) in
      record { here = spacing.here ∙ ap (spaced overflow.page space) skipping.here; fields = spacing.fields ∙ skipping.fields }

  before : (s : Spacing) (w : World R) → Moved w (moved_on overflow.page s.skip_before s.space_before w.paper.here) (spaced_before overflow s w)
  before s w = moves_on s.skip_before s.space_before w

  after : (s : Spacing) (w : World R) → Moved w (moved_on overflow.page s.skip_after s.space_after w.paper.here) (spaced_after overflow s w)
  after s w = moves_on s.skip_after s.space_after w

  pub prints : (s : Spacing) (text : List ℕ) (w : World R) → Prints overflow.page s text w (put_on overflow Printer s text w)
  unfolding put_on
  prints s text w = record {
    goes_on = refl;
    line = ap (λ p. record { at = p; text = text } ∷ []) (before s w).here;
    record_none = refl;
    rests = (after s (spaced_before overflow s w)).here ∙ ap (moved_on overflow.page s.skip_after s.space_after) (before s w).here;
  }

  -- entries are blanked after a line
  put_then : (file : File) (s : Spacing) (text : List ℕ) (w : World R) (es : List (K × ℕ))
      → (then_go (put_on overflow file s text w) (λ v. Leaves (with_fields (blanked_all es v.data.fields) v))).world.data.fields ≡ blanked_all es w.data.fields
  unfolding put_on
  put_then Printer s text w es = ap (blanked_all es) ((after s (spaced_before overflow s w)).fields ∙ (before s w).fields)
  put_then Disk s text w es = refl

-- ---- overflow

-- one line on, on the same page
turns : (page : Page) (p : Position) → p.line + 1 ≤ page.lines → space_turns_on page 1 p ≡ nat_le page.overflow_line (p.line + 1)
turns page p h =
    ap (λ (b : Bool). let to : Position = cond b (record { page = p.page; line = p.line + 1 }) (record { page = p.page + 1; line = p.line + 1 - page.lines }) in reaches_overflow page p to || passes_overflow page p to)
    (le-leb (p.line + 1) page.lines h)
    ∙ by (eqb p.page p.page) (nat_lt p.line (p.line + 1)) (nat_le page.overflow_line (p.line + 1)) (nat_lt p.line page.overflow_line) (eq-eqb p.page p.page refl) (lt-ltb p.line (p.line + 1) (omega arith))
  where
    by : (a b c d : Bool) → a ≡ true → b ≡ true → ((a && b && c) || (not a && d)) ≡ c
    by false b c d h k = cc
    by true false c d h k = cc
    by true true true d h k = refl
    by true true false d h k = refl

module _ {K : Type 0} {R : K → K → Ordering} where
  lit : (o : Option ℕ) (n : ℕ) (b : Bool) (to : Position) (w : World R) → b ≡ true → o ≡ Some n → set.contains (after_movement o b to w).data.on n ≡ true
  unfolding after_movement
  lit o n false to w h e = cc
  lit None n true to w h e = cc
  lit (Some k) n true to w h e =
      set.contains-insert nat_cmp_total w.data.on k n ∙ ap (λ b. b || set.contains w.data.on n) (unsigned_tied n k ∙ eq-eqb n k (sym (one k n e)))
    where
      one : (k n : ℕ) → Some k ≡ Some n → k ≡ n
      one k n e = cc

  unlit : (o : Option ℕ) (b : Bool) (to : Position) (w : World R) → b ≡ false → (after_movement o b to w).data.on ≡ w.data.on
  unfolding after_movement
  unlit o true to w h = cc
  unlit o false to w h = refl

  pub turns_on : LinesTurnOn R
  turns_on overflow n w within e = record {
    at = λ k. lit overflow.indicator n (space_turns_on overflow.page 1 w.paper.here) _ w
        (turns overflow.page w.paper.here (omega (arith, k, within)) ∙ le-leb overflow.page.overflow_line (w.paper.here.line + 1) (omega (arith, k))) e;
    above = λ k. unlit overflow.indicator (space_turns_on overflow.page 1 w.paper.here) _ w
        (turns overflow.page w.paper.here (omega (arith, k, within)) ∙ lt-leb overflow.page.overflow_line (w.paper.here.line + 1) k);
  }

-- ---- EXCPT

either_pass : (b : Bool) (p q : Pass) → is_pass p passes.Exception ≡ false → is_pass q passes.Exception ≡ false → is_pass (cond b p q) passes.Exception ≡ false
either_pass true p q h k = h
either_pass false p q h k = k

at_exception : (indicator : Option ℕ) (t : Time) (cs : List Condition) → is_pass (pass_of indicator t cs) passes.Exception ≡ is_exception t
unfolding pass_of
at_exception indicator times.Heading cs = either_pass (names_overflow indicator cs) passes.OverflowDetail passes.Detail refl refl
at_exception indicator times.Detail cs = either_pass (names_overflow indicator cs) passes.OverflowDetail passes.Detail refl refl
at_exception indicator times.Total cs = either_pass (names_overflow indicator cs) passes.OverflowTotal passes.Total refl refl
at_exception indicator times.Exception cs = refl

due_is : (indicator : Option ℕ) (on : set.FinSet nat_cmp) (t : Time) (alts : List (List Condition)) → is_due indicator passes.Exception on t alts ≡ (is_exception t && list_any (all_hold on) alts)
due_is indicator on t [] = by (is_exception t)
  where
    by : (b : Bool) → false ≡ (b && false)
    by true = refl
    by false = refl
due_is indicator on t (cs ∷ alts) =
    ap₂ (λ b c. (b && all_hold on cs) || c) (at_exception indicator t cs) (due_is indicator on t alts) ∙ by (is_exception t)
  where
    by : (b : Bool) → ((b && all_hold on cs) || (b && list_any (all_hold on) alts)) ≡ (b && (all_hold on cs || list_any (all_hold on) alts))
    by true = refl
    by false = refl

module _ {K : Type 0} {R : K → K → Ordering} (forms : K → Option FieldForm) (words : K → List ℕ) (overflow : Overflow) where
  where_is : (b : Bool) (e : Effect R) (w : World R) → where_due forms words b e w ≡ cond b e (Leaves w)
  where_is true e w = refl
  where_is false e w = refl

  pub puts_exceptions : (l : Line K) (ls : List (Line K)) (w : World R) → PutsExceptions forms words overflow l ls w
  unfolding lines_out one_out
  puts_exceptions l ls w = record {
    no_lines = refl;
    next_line = ap (λ e. then_go e (exception_output forms words overflow ls))
        (ap (λ b. where_due forms words b (line_out forms words overflow l w) w) (due_is overflow.indicator w.data.on l.time l.alternatives) ∙ where_is _ (line_out forms words overflow l w) w);
  }

-- ---- blank after

pub notes : {K : Type 0} {R : K → K → Ordering} (forms : K → Option FieldForm) (words : K → List ℕ) (on : set.FinSet nat_cmp) (len : ℕ) (d : Draft R) (f : LineField K) (p : ℕ)
    → three_hold on f.conditions ≡ true → position_of forms d.fields f.operand ≡ Some p → (with_field forms words on len d f).ending ≡ Continues
    → (with_field forms words on len d f).draft.to_blank ≡ cond f.is_blanked (d.to_blank ++ (f.operand.field, p) ∷ []) d.to_blank
unfolding with_field
notes {K} {R} forms words on len d f p holds named goes =
    let same : one (three_hold on f.conditions) (field_fault forms words len f) (position_of forms d.fields f.operand) ≡ one true (field_fault forms words len f) (Some p) =
    λ i. one (holds i) (field_fault forms words len f) (named i) in
    ap (λ x. x.draft.to_blank) same ∙ by (field_fault forms words len f) (ap (λ x. x.ending) (sym same) ∙ goes)
  where
    one : Bool → Option Fault → Option ℕ → Drafted R
    one b fault q = cond b (unless_faulty fault d (laid forms words d f q)) (drafted Continues d)

    by : (fault : Option Fault) → (one true fault (Some p)).ending ≡ Continues → (one true fault (Some p)).draft.to_blank ≡ cond f.is_blanked (d.to_blank ++ (f.operand.field, p) ∷ []) d.to_blank
    by None h = marked f.is_blanked
      where
        marked : (b : Bool) → remembered b (f.operand.field, p) d.to_blank ≡ cond b (d.to_blank ++ (f.operand.field, p) ∷ []) d.to_blank
        marked true = refl
        marked false = refl
    by (Some x) h = absurd cc

is_blank : (o : Option Value) → IsBlank (Some (blanked o))
is_blank None = Zero
is_blank (Some (Number n)) = Zero
is_blank (Some (Text text)) = Blanks (length text)

module _ {K : Type 0} {R : K → K → Ordering} (o : IsTotalOrder R) where
  blanked_is : (fields : Fields R) (x e : K × ℕ) → value_in (blanked_at x fields) e ≡ cond (eq_by_cmp (entry_cmp R) e x) (Some (blanked (value_in fields x))) (value_in fields e)
  blanked_is fields x e = map.get-insert (entries_total o) fields.values x (blanked (value_in fields x)) e

  stay_blank : (es : List (K × ℕ)) (fields : Fields R) (e : K × ℕ) → IsBlank (value_in fields e) → IsBlank (value_in (blanked_all es fields) e)
  stay_blank [] fields e h = h
  stay_blank (x ∷ es) fields e h = stay_blank es (blanked_at x fields) e (subst IsBlank (sym (blanked_is fields x e)) (by (eq_by_cmp (entry_cmp R) e x)))
    where
      by : (b : Bool) → IsBlank (cond b (Some (blanked (value_in fields x))) (value_in fields e))
      by true = is_blank (value_in fields x)
      by false = h

  are_blank : (es fs : List (K × ℕ)) (fields : Fields R) (e : K × ℕ) → IsBlank (value_in (blanked_all (es ++ e ∷ fs) fields) e)
  are_blank [] fs fields e = stay_blank fs (blanked_at e fields) e (subst IsBlank (sym (has_value o fields e (blanked (value_in fields e)))) (is_blank (value_in fields e)))
  are_blank (x ∷ es) fs fields e = are_blank es fs (blanked_at x fields) e

  others_stay : (es : List (K × ℕ)) (fields : Fields R) (e : K × ℕ) → list_any (eq_by_cmp (entry_cmp R) e) es ≡ false → value_in (blanked_all es fields) e ≡ value_in fields e
  others_stay [] fields e h = refl
  others_stay (x ∷ es) fields e h =
      let parts = or_parts (eq_by_cmp (entry_cmp R) e x) (list_any (eq_by_cmp (entry_cmp R) e) es) h in
      others_stay es (blanked_at x fields) e parts.1 ∙ blanked_is fields x e ∙ ap (λ b. cond b (Some (blanked (value_in fields x))) (value_in fields e)) parts.0
    where
      or_parts : (a b : Bool) → (a || b) ≡ false → (a ≡ false) × (b ≡ false)
      or_parts true b k = absurd cc
      or_parts false b k = (refl, k)

  pub blanks_noted : (forms : K → Option FieldForm) (words : K → List ℕ) (overflow : Overflow) (l : Line K) (w : World R) → (line_out forms words overflow l w).ending ≡ Continues
      → BlanksNoted (assembled forms words w.data.on l.len l.fields (blank_line l.len w)).draft (line_out forms words overflow l w).world.data.fields
  unfolding line_out
  blanks_noted forms words overflow l w goes = by_fault (line_fault overflow.page.lines l.len l.spacing) goes
    where
      done : Drafted R
      done = assembled forms words w.data.on l.len l.fields (blank_line l.len w)

      by_end : (x : End) → (write_line_out forms words overflow l w x done.draft).ending ≡ Continues → BlanksNoted done.draft (write_line_out forms words overflow l w x done.draft).world.data.fields
      by_end Continues h =
          let left = put_then overflow l.file l.spacing done.draft.text (with_fields done.draft.fields w) done.draft.to_blank in
          record {
            blanked = λ es fs e is. subst (λ (v : Fields R). IsBlank (value_in v e)) (ap (λ xs. blanked_all xs done.draft.fields) (sym is) ∙ sym left) (are_blank es fs done.draft.fields e);
            others = λ e none. ap (λ v. value_in v e) left ∙ others_stay done.draft.to_blank done.draft.fields e none;
          }
      by_end (Halt k) h = absurd cc
      by_end (Wrong y) h = absurd cc

      by_fault : (x : Option Fault) → (unless_wrong x w (write_line_out forms words overflow l w done.ending done.draft)).ending ≡ Continues
          → BlanksNoted done.draft (unless_wrong x w (write_line_out forms words overflow l w done.ending done.draft)).world.data.fields
      by_fault None h = by_end done.ending h
      by_fault (Some y) h = absurd cc
