-- An instruction that breaks a rule has a cause.
use Rattle.std.proofs.Common.{◌≡◌, ℕ, Bool, true, false, not, ◌&&◌, cond, Option, Some, None, refl, sym}
use Rattle.std.proofs.lemmas.Bool.{false≢true}
use Rattle.std.specs.Option.{is_some, option_or}
use Rattle.std.specs.Prelude.{◌||◌, nat_le}
use Rattle.rpg_program.specs.Forms.{entries_of, form_at}
use Rattle.rpg_program.specs.Rows.{all_of, all_used, can_hold, field_of, holds_all, holds_position, holds_positions, is_current_table, is_valid_operand, is_searched, is_two_sided, is_writable_use}
use Rattle.rpg_program.specs.declared.row.Marks.{Marks}
use Rattle.rpg_program.specs.declared.operation.Instruction.{Instruction}
use Rattle.rpg_program.specs.declared.operation.Instruction.TheVariants.{Act, Except, Branch, Call, Return}
use Rattle.rpg_program.specs.declared.operation.Operand.{Operand}
use Rattle.rpg_program.specs.declared.row.Row.{Row}
use Rattle.rpg_program.specs.declared.row.Use.{Use}
use Rattle.rpg_program.specs.ObjectInstructions.{columns}
use Rattle.rpg_program.specs.Object.{Object}
use Rattle.rpg_program.specs.declared.section.Section.{Section}
use Rattle.rpg_program.specs.declared.spans.Span.{Span}
use Rattle.rpg_refusal_causes.proofs.First.{one_of_two, some_front, some_if, some_later, some_unless}
use Rattle.rpg_refusal_causes.specs.First.{cause_if}
use Rattle.rpg_refusal_causes.specs.PlaceCauses.{call_cause, column_cause, entries_cause, found_cause, marked_cause, marks_cause, instruction_operand_cause, place_cause, search_cause, short_cause, target_cause, unordered_cause}
use Rattle.rpg_refusal_causes.specs.declared.cause.Column.{Column}
use Rattle.rpg_refusal_causes.specs.declared.cause.Column.TheVariants as column_names
use Rattle.rpg_verify.specs.declared.places.Placed.{Placed}
use Rattle.rpg_refusal_causes.specs.declared.cause.RefusalCause.TheVariants as causes
use Rattle.rpg_verify_rules.specs.PlaceRules.{are_marked, calls_higher, columns_of_kind, has_known_kind, is_ascending, is_ordered, is_searched_well, passing, place_breaks, stays_inside, those_passing, written_columns, are_testable, holds_found}
use Rattle.rpg_verify_rules.specs.declared.rule.PlaceRule.{PlaceRule}
use Rattle.rpg_verify_rules.specs.declared.rule.PlaceRule.TheVariants.{V16, V17, V18, V19, V20, V21, V22}

-- ---- operands

-- one of three columns doesn't pass
one_of_three : {C : Type 0} (a b c : Bool) (x y z : Option C) → (a ≡ false → is_some x ≡ true) → (b ≡ false → is_some y ≡ true) → (c ≡ false → is_some z ≡ true) →
    not (a && (b && c)) ≡ true → is_some (option_or (option_or x y) z) ≡ true
one_of_three false b c x y z f g h e = some_front (option_or x y) z (some_front x y (f refl))
one_of_three true false c x y z f g h e = some_front (option_or x y) z (some_later x y (g refl))
one_of_three true true false x y z f g h e = some_later (option_or x y) z (h refl)
one_of_three true true true x y z f g h e = absurd (false≢true e)

module _ (test : Use (Operand ℕ) → Bool) where
  column_has : (c : Column) (o : Option (Use (Operand ℕ))) → all_used test o ≡ false → is_some (column_cause (λ u. not (test u)) c o) ≡ true
  column_has c None h = absurd (false≢true (sym h))
  column_has c (Some u) h = some_unless (test u) (causes.Operand c u) h

  operand_has : (r : Row (Operand ℕ)) → not (all_of test r) ≡ true → is_some (instruction_operand_cause (λ u. not (test u)) r) ≡ true
  operand_has r h =
      one_of_three (all_used test r.factor1) (all_used test r.factor2) (all_used test r.result)
      (column_cause (λ u. not (test u)) column_names.Factor1 r.factor1) (column_cause (λ u. not (test u)) column_names.Factor2 r.factor2) (column_cause (λ u. not (test u)) column_names.Result r.result)
      (column_has column_names.Factor1 r.factor1) (column_has column_names.Factor2 r.factor2) (column_has column_names.Result r.result) h

module _ (valid known : Use (Operand ℕ) → Bool) where
  kind_has : (c : Column) (o : Option (Use (Operand ℕ))) → all_used known (passing valid o) ≡ false → is_some (column_cause (λ u. valid u && not (known u)) c o) ≡ true
  kind_has c None h = absurd (false≢true (sym h))
  kind_has c (Some u) h = by_valid (valid u) h
    where
      by_valid : (b : Bool) → all_used known (cond b (Some u) None) ≡ false → is_some (cause_if (b && not (known u)) (causes.Operand c u)) ≡ true
      by_valid true e = some_unless (known u) (causes.Operand c u) e
      by_valid false e = absurd (false≢true (sym e))

  kinds_have : (r : Row (Operand ℕ)) → not (all_of known (those_passing valid r)) ≡ true → is_some (instruction_operand_cause (λ u. valid u && not (known u)) r) ≡ true
  kinds_have r h =
      one_of_three (all_used known (passing valid r.factor1)) (all_used known (passing valid r.factor2)) (all_used known (passing valid r.result))
      (column_cause (λ u. valid u && not (known u)) column_names.Factor1 r.factor1) (column_cause (λ u. valid u && not (known u)) column_names.Factor2 r.factor2) (column_cause (λ u. valid u && not (known u)) column_names.Result r.result)
      (kind_has column_names.Factor1 r.factor1) (kind_has column_names.Factor2 r.factor2) (kind_has column_names.Result r.result) h

  written_has : (writable : Use (Operand ℕ) → Bool) (c : Column) (o : Option (Use (Operand ℕ))) → not (all_used writable (passing known (passing valid o))) ≡ true →
      is_some (column_cause (λ u. not (writable u)) c o) ≡ true
  written_has writable c None h = absurd (false≢true h)
  written_has writable c (Some u) h = by_valid (valid u) h
    where
      by_known : (b : Bool) → not (all_used writable (cond b (Some u) None)) ≡ true → is_some (cause_if (not (writable u)) (causes.Operand c u)) ≡ true
      by_known true e = some_if (not (writable u)) (causes.Operand c u) e
      by_known false e = absurd (false≢true e)

      by_valid : (b : Bool) → not (all_used writable (passing known (cond b (Some u) None))) ≡ true → is_some (cause_if (not (writable u)) (causes.Operand c u)) ≡ true
      by_valid true e = by_known (known u) e
      by_valid false e = absurd (false≢true e)

-- ---- indicators, and where control goes

shows_have : (p : Object) (m : Marks) (factor2 : Option (Use (Operand ℕ)))
    → not (are_marked m && (not (is_two_sided m) && (not (is_ordered m) || all_used (is_ascending p) factor2))) ≡ true → is_some (marked_cause p m factor2) ≡ true
shows_have p m factor2 h = by (are_marked m) (is_two_sided m) (is_ordered m) factor2 h
  where
    by : (a two ordered : Bool) (o : Option (Use (Operand ℕ))) → not (a && (not two && (not ordered || all_used (is_ascending p) o))) ≡ true
        → is_some (option_or (cause_if (not (a && not two)) (causes.Marked m)) (unordered_cause p m o)) ≡ true
    by false two ordered o h = refl
    by true true ordered o h = refl
    by true false false o h = absurd (false≢true h)
    by true false true None h = absurd (false≢true h)
    by true false true (Some u) h = some_if (not (is_ascending p u)) (causes.Unordered m u) h

marks_has : (p : Object) (i : Instruction ℕ) → not (are_testable p.version i && (are_marked (columns p i).marks && is_searched_well p (columns_of_kind p i))) ≡ true → is_some (marks_cause p i) ≡ true
marks_has p (Act a) h = shows_have p (columns p (Act a)).marks (columns_of_kind p (Act a)).factor2 h
marks_has p Except h = shows_have p (columns p Except).marks (columns_of_kind p Except).factor2 h
marks_has p (Branch is_taken_where cs target) h = refl
marks_has p (Call n) h = shows_have p (columns p (Call n)).marks (columns_of_kind p (Call n)).factor2 h
marks_has p (Return n) h = shows_have p (columns p (Return n)).marks (columns_of_kind p (Return n)).factor2 h

-- ---- what is searched

entries_have : (p : Object) (to : Option (Use (Operand ℕ))) (u : Use (Operand ℕ)) (n : ℕ) → not (holds_position (form_at p.fields) u.operand.index (field_of (form_at p.fields) to) n) ≡ true
    → is_some (entries_cause p to u n) ≡ true
entries_have p None u n h =
    some_front (cause_if (not (can_hold (form_at p.fields) u.operand.index n)) (causes.Index u n)) (short_cause p n None) (some_if (not (can_hold (form_at p.fields) u.operand.index n)) (causes.Index u n) h)
entries_have p (Some t) u n h =
    let holds = can_hold (form_at p.fields) u.operand.index n in
    let enough = nat_le n (entries_of (form_at p.fields t.operand.field)) in
    one_of_two holds enough (cause_if (not holds) (causes.Index u n)) (cause_if (not enough) (causes.Short t n)) (some_if (not holds) (causes.Index u n)) (some_if (not enough) (causes.Short t n)) h

found_have : (p : Object) (to factor2 : Option (Use (Operand ℕ))) → not (all_used (λ u. not (is_searched (form_at p.fields) u.shape) || holds_all (form_at p.fields) to u) factor2) ≡ true → is_some (found_cause p to factor2) ≡ true
found_have p to None h = absurd (false≢true h)
found_have p to (Some u) h = by (is_searched (form_at p.fields) u.shape) h
  where
    by : (b : Bool) → not (not b || holds_all (form_at p.fields) to u) ≡ true → is_some (cond b (entries_cause p to u (entries_of (form_at p.fields u.operand.field))) None) ≡ true
    by true e = entries_have p to u (entries_of (form_at p.fields u.operand.field)) e
    by false e = absurd (false≢true e)

search_has : (p : Object) (i : Instruction ℕ) (r : Row (Operand ℕ)) → not (holds_found p r) ≡ true → is_some (search_cause p i r) ≡ true
unfolding holds_positions
search_has p i r h =
    one_of_two (all_of (is_current_table (form_at p.fields)) r) (all_used (λ u. not (is_searched (form_at p.fields) u.shape) || holds_all (form_at p.fields) r.result u) r.factor2)
    (instruction_operand_cause (λ u. not (is_current_table (form_at p.fields) u)) r) (found_cause p r.result r.factor2)
    (operand_has (is_current_table (form_at p.fields)) r) (found_have p r.result r.factor2) h

target_has : (p : Object) (x : Span) (s : Section) (i : Instruction ℕ) → not (stays_inside p s i) ≡ true → is_some (target_cause x i) ≡ true
target_has p x s (Act a) h = absurd (false≢true h)
target_has p x s Except h = absurd (false≢true h)
target_has p x s (Branch is_taken_where cs target) h = refl
target_has p x s (Call n) h = absurd (false≢true h)
target_has p x s (Return n) h = absurd (false≢true h)

call_has : (p : Object) (s : Section) (i : Instruction ℕ) → not (calls_higher p s i) ≡ true → is_some (call_cause p i) ≡ true
call_has p s (Act a) h = absurd (false≢true h)
call_has p s Except h = absurd (false≢true h)
call_has p s (Branch is_taken_where cs target) h = absurd (false≢true h)
call_has p s (Call n) h = refl
call_has p s (Return n) h = absurd (false≢true h)

pub place_has : (r : PlaceRule) (p : Object) (x : Placed) → place_breaks r p x.span.section x.instruction ≡ true → is_some (place_cause r p x) ≡ true
unfolding place_breaks place_cause
place_has V16 p x h = operand_has (is_valid_operand (form_at p.fields)) (columns p x.instruction) h
place_has V17 p x h = kinds_have (is_valid_operand (form_at p.fields)) (has_known_kind p x.instruction) (columns p x.instruction) h
place_has V18 p x h = written_has (is_valid_operand (form_at p.fields)) (has_known_kind p x.instruction) (is_writable_use (form_at p.fields)) column_names.Result (columns p x.instruction).result h
place_has V19 p x h = marks_has p x.instruction h
place_has V20 p x h = search_has p x.instruction (written_columns p x.instruction) h
place_has V21 p x h = target_has p x.span x.span.section x.instruction h
place_has V22 p x h = call_has p x.span.section x.instruction h
