-- What in an instruction breaks V16 to V22.
use Rattle.std.specs.Prelude.{ℕ, Bool, false, not, ◌&&◌, nat_le, List, Option, None, Some, slice_get}
use Rattle.std.specs.Prelude.{if◌then◌else◌}
use Rattle.std.specs.Option.{option_map, option_map_or, option_or}
use Rattle.rpg_program.specs.Forms.{entries_of, form_at}
use Rattle.rpg_program.specs.Rows.{can_hold, is_current_table, is_valid_operand, is_searched, is_two_sided, is_writable_use}
use Rattle.rpg_program.specs.declared.condition.Conditions.{Conditions}
use Rattle.rpg_program.specs.declared.operation.Instruction.{Instruction}
use Rattle.rpg_program.specs.declared.operation.Instruction.TheVariants.{Branch, Call}
use Rattle.rpg_program.specs.declared.operation.Operand.{Operand}
use Rattle.rpg_program.specs.declared.row.Marks.{Marks}
use Rattle.rpg_program.specs.declared.row.Row.{Row}
use Rattle.rpg_program.specs.declared.row.Use.{Use}
use Rattle.rpg_program.specs.ObjectInstructions.{columns}
use Rattle.rpg_program.specs.Object.{Object, SubroutineRow}
use Rattle.rpg_program.specs.declared.spans.Span.{Span}
use Rattle.rpg_refusal_causes.specs.First.{cause_if}
use Rattle.rpg_refusal_causes.specs.declared.cause.Column.{Column}
use Rattle.rpg_refusal_causes.specs.declared.cause.Column.TheVariants as column_names
use Rattle.rpg_verify.specs.declared.places.Placed.{Placed}
use Rattle.rpg_refusal_causes.specs.declared.cause.RefusalCause.{RefusalCause}
use Rattle.rpg_refusal_causes.specs.declared.cause.RefusalCause.TheVariants as causes
use Rattle.rpg_verify_rules.specs.PlaceRules.{are_marked, columns_of_kind, has_known_kind, is_ascending, written_columns}
use Rattle.rpg_verify_rules.specs.declared.rule.PlaceRule.{PlaceRule}
use Rattle.rpg_verify_rules.specs.declared.rule.PlaceRule.TheVariants.{V16, V17, V18, V19, V20, V21, V22}

-- ---- which operand breaks a rule

-- it doesn't exist as required; it is of another kind; it may not be written; it is to become current, but isn't a table
abbrev pub operand_breaks : PlaceRule → Object → Instruction ℕ → Use (Operand ℕ) → Bool
operand_breaks V16 p i u = not (is_valid_operand (form_at p.fields) u)
operand_breaks V17 p i u = is_valid_operand (form_at p.fields) u && not (has_known_kind p i u)
operand_breaks V18 p i u = not (is_writable_use (form_at p.fields) u)
operand_breaks V20 p i u = not (is_current_table (form_at p.fields) u)
operand_breaks r p i u = false

-- the operand of a column, if it breaks the rule
abbrev pub column_cause : (Use (Operand ℕ) → Bool) → Column → Option (Use (Operand ℕ)) → Option RefusalCause
column_cause breaks column None = None
column_cause breaks column (Some u) = cause_if (breaks u) (causes.Operand column u)

-- the first of an instruction's operands that breaks the rule
abbrev pub instruction_operand_cause : (Use (Operand ℕ) → Bool) → Row (Operand ℕ) → Option RefusalCause
instruction_operand_cause breaks r =
    option_or (option_or (column_cause breaks column_names.Factor1 r.factor1) (column_cause breaks column_names.Factor2 r.factor2))
    (column_cause breaks column_names.Result r.result)

-- ---- indicators

-- factor 2, if it isn't in ascending sequence
abbrev pub unordered_cause : Object → Marks → Option (Use (Operand ℕ)) → Option RefusalCause
unordered_cause p m None = None
unordered_cause p m (Some u) = cause_if (not (is_ascending p u)) (causes.Unordered m u)

-- indicators; if these may stand, factor 2, which is searched by them
abbrev pub marked_cause : Object → Marks → Option (Use (Operand ℕ)) → Option RefusalCause
marked_cause p m factor2 = option_or (cause_if (not (are_marked m && not (is_two_sided m))) (causes.Marked m)) (unordered_cause p m factor2)

-- those of an operation
abbrev pub shows_cause : Object → Instruction ℕ → Option RefusalCause
shows_cause p i = marked_cause p (columns p i).marks (columns_of_kind p i).factor2

-- the conditions that a branch tests
abbrev pub tested_by : Instruction ℕ → Option Conditions
tested_by (Branch is_taken_where cs target) = Some cs
tested_by i = None

-- a branch tests indicators, an operation is marked by them
abbrev pub marks_cause : Object → Instruction ℕ → Option RefusalCause
marks_cause p i = option_map_or (λ cs. Some (causes.Tested cs)) (tested_by i) (shows_cause p i)

-- ---- what is searched

-- the entries of what an operand names
abbrev pub entries_named : Object → Use (Operand ℕ) → ℕ
entries_named p u = entries_of (form_at p.fields u.operand.field)

-- a result with fewer entries than that
abbrev pub short_cause : Object → ℕ → Option (Use (Operand ℕ)) → Option RefusalCause
short_cause p n None = None
short_cause p n (Some u) = cause_if (not (nat_le n (entries_named p u))) (causes.Short u n)

-- what is searched has this many entries: its index can't hold their number, or the result has fewer
abbrev pub entries_cause : Object → Option (Use (Operand ℕ)) → Use (Operand ℕ) → ℕ → Option RefusalCause
entries_cause p to u n = option_or (cause_if (not (can_hold (form_at p.fields) u.operand.index n)) (causes.Index u n)) (short_cause p n to)

-- of what is searched
abbrev pub found_cause : Object → Option (Use (Operand ℕ)) → Option (Use (Operand ℕ)) → Option RefusalCause
found_cause p to None = None
found_cause p to (Some u) = if is_searched (form_at p.fields) u.shape then entries_cause p to u (entries_named p u) else None

-- of operands that no lower-numbered rule rejects: what is to become current isn't a table; otherwise what is searched
abbrev pub search_cause : Object → Instruction ℕ → Row (Operand ℕ) → Option RefusalCause
search_cause p i r = option_or (instruction_operand_cause (operand_breaks V20 p i) r) (found_cause p r.result r.factor2)

-- ---- where control goes

-- where a branch leads
abbrev pub target_cause : Span → Instruction ℕ → Option RefusalCause
target_cause s (Branch is_taken_where cs target) = Some (causes.Target target s.first s.end)
target_cause s i = None

-- the level of an existing subroutine
abbrev pub level_if_any : List SubroutineRow → ℕ → Option ℕ
level_if_any ss n = option_map (λ (s : SubroutineRow). s.level) (slice_get ss n)

-- what a call calls
abbrev pub call_cause : Object → Instruction ℕ → Option RefusalCause
call_cause p (Call n) = Some (causes.Called n (level_if_any p.subroutines n))
call_cause p i = None

-- what in an instruction that breaks a rule breaks it
unfoldable pub place_cause : PlaceRule → Object → Placed → Option RefusalCause
place_cause V16 p x = instruction_operand_cause (operand_breaks V16 p x.instruction) (columns p x.instruction)
place_cause V17 p x = instruction_operand_cause (operand_breaks V17 p x.instruction) (columns p x.instruction)
place_cause V18 p x = column_cause (operand_breaks V18 p x.instruction) column_names.Result (columns p x.instruction).result
place_cause V19 p x = marks_cause p x.instruction
place_cause V20 p x = search_cause p x.instruction (written_columns p x.instruction)
place_cause V21 p x = target_cause x.span x.instruction
place_cause V22 p x = call_cause p x.instruction
