-- The rules of instructions, and of the subroutines that they are in.
use Rattle.std.specs.Prelude.{ℕ, ◌+◌, ◌-◌, Bool, true, false, not, ◌&&◌, ◌||◌, ◌==◌, nat_lt, List, [], ◌∷◌, ◌++◌, map, length, Option, None, Some, is_some, slice_get, if◌then◌else◌}
use Rattle.std.specs.List.{list_all, list_any}
use Rattle.rpg_program.specs.Control.{has_conditions}
use Rattle.rpg_program.specs.Forms.{form_at}
use Rattle.rpg_program.specs.Rows.{all_of, all_used, has_kind, holds_positions, is_current_table, is_valid_operand, is_two_sided, is_writable_use}
use Rattle.rpg_program.specs.declared.form.FieldForm.{FieldForm}
use Rattle.rpg_program.specs.declared.operation.Action.TheVariants.{Compare, LookUp}
use Rattle.rpg_program.specs.declared.operation.Instruction.{Instruction}
use Rattle.rpg_program.specs.declared.operation.Instruction.TheVariants.{Act, Branch, Call, Return}
use Rattle.rpg_program.specs.declared.operation.Operand.{Operand}
use Rattle.rpg_program.specs.declared.row.Marks.{Marks}
use Rattle.rpg_program.specs.declared.row.Marks.TheVariants.{Unmarked, Shown, Wanted, Sought}
use Rattle.rpg_program.specs.declared.row.Row.{Row}
use Rattle.rpg_program.specs.declared.row.Use.{Use}
use Rattle.rpg_program.specs.ObjectInstructions.{columns}
use Rattle.rpg_program.specs.Object.{Object, SubroutineRow}
use Rattle.rpg_program.specs.Sections.{is_place, level_of, section_instructions}
use Rattle.rpg_program.specs.declared.rows.Version.{Version}
use Rattle.rpg_program.specs.declared.section.Section.{Section}
use Rattle.rpg_program.specs.declared.section.Section.TheVariants.{Detail, Total, Subroutine}
use Rattle.rpg_text.specs.Texts.{is_between}
use Rattle.rpg_verify_rules.specs.Indicators.{all_testable, are_settable, has_shows}
use Rattle.rpg_verify_rules.specs.declared.places.OperandTest.{OperandTest}
use Rattle.rpg_verify_rules.specs.declared.places.OperandTest.TheVariants.{Valid, Known, Writable, Current}
use Rattle.rpg_verify_rules.specs.declared.rule.PlaceRule.{PlaceRule}
use Rattle.rpg_verify_rules.specs.declared.rule.PlaceRule.TheVariants.{V16, V17, V18, V19, V20, V21, V22}

-- ---- indicators

-- indicators that may be set, at least one if one is required
abbrev pub are_marked : Marks → Bool
are_marked Unmarked = true
are_marked (Shown s) = are_settable s
are_marked (Wanted s) = are_settable s && has_shows s
are_marked (Sought s) = are_settable s && has_shows s

-- a search for the next entry above or below
abbrev pub is_ordered : Marks → Bool
is_ordered (Sought s) = is_some s.plus || is_some s.minus
is_ordered m = false

-- the entries ascend
abbrev pub is_form_ascending : Option FieldForm → Bool
is_form_ascending None = false
is_form_ascending (Some d) = d.is_ascending

-- what an operand names is in ascending sequence
abbrev pub is_ascending : Object → Use (Operand ℕ) → Bool
is_ascending p u = is_form_ascending (form_at p.fields u.operand.field)

-- a search is for equal entries, or in one direction through ascending entries
abbrev pub is_searched_well : Object → Row (Operand ℕ) → Bool
is_searched_well p r = not (is_two_sided r.marks) && (not (is_ordered r.marks) || all_used (is_ascending p) r.factor2)

-- conditions that may be tested, for SKIP at least one
abbrev pub are_testable : Version → Instruction ℕ → Bool
are_testable v (Branch is_taken_where cs target) = all_testable v cs && (is_taken_where || has_conditions cs)
are_testable v i = true

-- ---- transfers of control

-- a branch stays in its section
abbrev pub stays_inside : Object → Section → Instruction ℕ → Bool
stays_inside p s (Branch is_taken_where cs target) = is_place p (record { section = s; number = target })
stays_inside p s i = true

-- a call leads to a subroutine of a higher level; if it doesn't exist the level is 0, which is above no section's
abbrev pub calls_higher : Object → Section → Instruction ℕ → Bool
calls_higher p s (Call n) = nat_lt (level_of p s) (level_of p (Subroutine n))
calls_higher p s i = true

-- ---- operands that no lower-numbered rule rejects

-- the operand of a column, if it passes
abbrev pub passing : {O : Type 0} → (Use O → Bool) → Option (Use O) → Option (Use O)
passing test None = None
passing test (Some u) = if test u then Some u else None

-- a row with only the operands that pass
abbrev pub those_passing : {O : Type 0} → (Use O → Bool) → Row O → Row O
those_passing test r = record { factor1 = passing test r.factor1; factor2 = passing test r.factor2; result = passing test r.result; marks = r.marks }

-- COMP and LOKUP require factor 2 to be of the same kind as factor 1
abbrev pub compares : Instruction ℕ → Bool
compares (Act (Compare a b s)) = true
compares (Act (LookUp a b r s)) = true
compares i = false

-- the required kinds are known: if factors are compared, factor 1 is valid
abbrev pub knows_kinds : Object → Instruction ℕ → Bool
knows_kinds p i = not (compares i) || all_used (is_valid_operand (form_at p.fields)) (columns p i).factor1

-- the operand has the kind that its use requires, if kinds are known here
abbrev pub has_known_kind : Object → Instruction ℕ → Use (Operand ℕ) → Bool
has_known_kind p i u = not (knows_kinds p i) || has_kind (form_at p.fields) u

-- the operand passes the test
abbrev pub passes : Object → OperandTest → Use (Operand ℕ) → Bool
passes p Valid = is_valid_operand (form_at p.fields)
passes p (Known i) = has_known_kind p i
passes p Writable = is_writable_use (form_at p.fields)
passes p Current = is_current_table (form_at p.fields)

-- the operands that V16 allows; of these, those that V17 allows; of these, with the result only if V18 allows it
abbrev pub valid_columns : Object → Instruction ℕ → Row (Operand ℕ)
valid_columns p i = those_passing (is_valid_operand (form_at p.fields)) (columns p i)

-- the operands that have the required kind
abbrev pub columns_of_kind : Object → Instruction ℕ → Row (Operand ℕ)
columns_of_kind p i = those_passing (has_known_kind p i) (valid_columns p i)

-- those of them that may be written where they are
abbrev pub written_columns : Object → Instruction ℕ → Row (Operand ℕ)
written_columns p i =
    record { factor1 = (columns_of_kind p i).factor1; factor2 = (columns_of_kind p i).factor2; result = passing (is_writable_use (form_at p.fields)) (columns_of_kind p i).result; marks = (columns_of_kind p i).marks }

-- what becomes current is a table, and any result of a search fits its index field and the table
abbrev pub holds_found : Object → Row (Operand ℕ) → Bool
holds_found p r = all_of (is_current_table (form_at p.fields)) r && holds_positions (form_at p.fields) r

-- ---- whether an instruction of a section breaks a rule; V17 to V20 don't apply to an operand that a lower-numbered rule rejects

-- the instruction breaks the rule
unfoldable pub place_breaks : PlaceRule → Object → Section → Instruction ℕ → Bool
place_breaks V16 p s i = not (all_of (is_valid_operand (form_at p.fields)) (columns p i))
place_breaks V17 p s i = not (all_of (has_known_kind p i) (valid_columns p i))
place_breaks V18 p s i = not (all_used (is_writable_use (form_at p.fields)) (columns_of_kind p i).result)
place_breaks V19 p s i = not (are_testable p.version i && (are_marked (columns p i).marks && is_searched_well p (columns_of_kind p i)))
place_breaks V20 p s i = not (holds_found p (written_columns p i))
place_breaks V21 p s i = not (stays_inside p s i)
place_breaks V22 p s i = not (calls_higher p s i)

-- for each place of a section
abbrev pub section_judged : PlaceRule → Object → Section → List Bool
section_judged r p s = map (place_breaks r p s) (section_instructions p s)

-- for each place of the subroutines from a number on
abbrev pub subroutines_judged : PlaceRule → Object → ℕ → List SubroutineRow → List Bool
subroutines_judged r p n [] = []
subroutines_judged r p n (s ∷ ss) = map (place_breaks r p (Subroutine n)) s.instructions ++ subroutines_judged r p (n + 1) ss

-- for each place after detail calculations
abbrev pub judged_after_detail : PlaceRule → Object → List Bool
judged_after_detail r p = section_judged r p Total ++ subroutines_judged r p 0 p.subroutines

-- for each place of the program, in order
abbrev pub places_judged : PlaceRule → Object → List Bool
places_judged r p = section_judged r p Detail ++ judged_after_detail r p

-- ---- subroutines

-- a return from any subroutine
abbrev pub is_return : Instruction ℕ → Bool
is_return (Return n) = true
is_return i = false

-- no return, or one from that subroutine
abbrev pub is_own : ℕ → Instruction ℕ → Bool
is_own number (Return n) = n == number
is_own number i = true

-- the last one, if any, is a return
abbrev pub is_return_if_any : Option (Instruction ℕ) → Bool
is_return_if_any None = false
is_return_if_any (Some i) = is_return i

-- the last instruction is a return
abbrev pub ends_in_return : List (Instruction ℕ) → Bool
ends_in_return code = is_return_if_any (slice_get code (length code - 1))

-- all its returns are its own, and the last instruction is one
abbrev pub is_body : ℕ → List (Instruction ℕ) → Bool
is_body number code = list_all (is_own number) code && ends_in_return code

-- for each subroutine from a number on, whether it breaks this
abbrev pub bodies_judged : ℕ → List SubroutineRow → List Bool
bodies_judged n [] = []
bodies_judged n (s ∷ ss) = not (is_body n s.instructions) ∷ bodies_judged (n + 1) ss

-- a return in detail or total calculations counts for row 0
abbrev pub with_first : Bool → List Bool → List Bool
with_first b [] = b ∷ []
with_first b (x ∷ xs) = (b || x) ∷ xs

-- an instruction outside subroutines is a return
abbrev pub has_stray_return : Object → Bool
has_stray_return p = list_any is_return p.detail || list_any is_return p.total

-- the level isn't 1 to 100
abbrev pub is_off_level : SubroutineRow → Bool
is_off_level s = not (is_between 1 100 s.level)
