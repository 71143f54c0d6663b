-- Weights, costs and the bound are small.
use Rattle.std.proofs.Common.{◌≡◌, ℕ, zero, suc, ◌+◌, ◌-◌, ◌*◌, ◌^◌, ◌<◌, ◌≤◌, max, Bool, true, false, cond, List, [], ◌∷◌, map, Option, Some, None, All, slice_get, length, arith}
use Rattle.std.specs.Prelude.{is_some, nat_lt, nat_le, slice_index}
use Rattle.std.proofs.lemmas.Nat.{mul-le}
use Rattle.rpg_program.specs.Control.{always_goes}
use Rattle.rpg_program.specs.Forms.{entries_of, form_at}
use Rattle.rpg_program.specs.Input.{TypeRow}
use Rattle.rpg_program.specs.Instructions.{instruction_columns}
use Rattle.rpg_program.specs.Weights.{exceptions_of, exceptions_weight, goes_through, instruction_weight, is_exception, is_in_cycle, lines_weight, overflow_weight, row_weight, types_weight, use_weight}
use Rattle.rpg_program.specs.declared.form.FieldForm.{FieldForm}
use Rattle.rpg_program.specs.declared.line.Time.{Time}
use Rattle.rpg_program.specs.declared.operation.Instruction.{Instruction}
use Rattle.rpg_program.specs.declared.operation.Instruction.TheVariants.{Act, Except, Branch, Call, Return}
use Rattle.rpg_program.specs.declared.operation.Operand.{Operand}
use Rattle.rpg_program.specs.declared.row.Use.{Use}
use Rattle.rpg_program.specs.ObjectInstructions.{weight}
use Rattle.rpg_program.specs.Kept.{IsFieldRow, IsLineRow, IsProgram, IsTypeRow}
use Rattle.rpg_program.specs.Object.{LineRow, Object, SubroutineRow, lines_of, program_line}
use Rattle.rpg_program.specs.Sections.{instructions_in}
use Rattle.rpg_verify.specs.Bound.{back_cost, bound, cost_in, costs_at, most, most_at, most_back, most_in, once}
use Rattle.rpg_verify.specs.Paths.{cost_onward, with_cost, costs_from}
use Rattle.rpg_verify.specs.Weighing.{all_outputs_weight}

-- ---- all of a list

pub first_all : {X : Type 0} (P : X → Type 0) (x : X) (xs : List X) → All P (x ∷ xs) → P x
first_all P x xs h = h 0 x (omega arith)

pub others_all : {X : Type 0} (P : X → Type 0) (x : X) (xs : List X) → All P (x ∷ xs) → All P xs
others_all P x xs h = λ k d l. h (suc k) d (omega (arith, l))

-- ---- weights

few_entries : (fields : List FieldForm) (n : ℕ) → All IsFieldRow fields → entries_of (slice_get fields n) ≤ 9999
few_entries [] n h = omega arith
few_entries (f ∷ fs) zero h = (first_all IsFieldRow f fs h).most
few_entries (f ∷ fs) (suc n) h = few_entries fs n (others_all IsFieldRow f fs h)

entries_at : (fields : List FieldForm) (n : ℕ) → All IsFieldRow fields → entries_of (form_at fields n) ≤ 9999
entries_at fields zero h = omega arith
entries_at fields (suc n) h = few_entries fields n h

pub lines_few : (p : Object) (meant : Time → Bool) (ls : List LineRow) → All IsLineRow ls → lines_weight meant (map (program_line p) ls) ≤ 201 * length ls
lines_few p meant [] h = omega arith
lines_few p meant (l ∷ ls) h = by_time (meant l.time) (lines_few p meant ls (others_all IsLineRow l ls h)) (first_all IsLineRow l ls h).few_fields
  where
    by_time : (b : Bool) → lines_weight meant (map (program_line p) ls) ≤ 201 * length ls → length l.fields ≤ 200 → cond b (1 + length l.fields) 0 + lines_weight meant (map (program_line p) ls) ≤ 201 * length (l ∷ ls)
    by_time true r w = omega (arith, r, w)
    by_time false r w = omega (arith, r)

pub types_few : (ts : List (TypeRow ℕ)) → All IsTypeRow ts → types_weight ts ≤ 709 * length ts
types_few [] h = omega arith
types_few (t ∷ ts) h =
    let r = types_few ts (others_all IsTypeRow t ts h) in
    let w = first_all IsTypeRow t ts h in
    let a = w.few_codes in
    let b = w.few_levels in
    let c = w.few_inputs in
    let d = w.few_matches in
    omega (arith, r, a, b, c, d)

abbrev pub heaviest : ℕ
heaviest = 211000

use_light : (fields : List FieldForm) → All IsFieldRow fields → (u : Option (Use (Operand ℕ))) → use_weight (form_at fields) u ≤ 9999
use_light fields h None = omega arith
use_light fields h (Some u) = by_shape (goes_through u.shape)
  where
    by_shape : (b : Bool) → cond b (entries_of (form_at fields u.operand.field)) 0 ≤ 9999
    by_shape true = entries_at fields u.operand.field h
    by_shape false = omega arith

exceptions_light : (exceptions : ℕ) (i : Instruction ℕ) → exceptions_of exceptions i ≤ exceptions
exceptions_light exceptions (Act a) = omega arith
exceptions_light exceptions Except = omega arith
exceptions_light exceptions (Branch is_taken_where cs target) = omega arith
exceptions_light exceptions (Call n) = omega arith
exceptions_light exceptions (Return n) = omega arith

-- an instruction weighs no more than this
pub weight_light : (fields : List FieldForm) → All IsFieldRow fields → (exceptions : ℕ) → exceptions ≤ 201000 → (i : Instruction ℕ) → instruction_weight (form_at fields) exceptions i ≤ heaviest
unfolding instruction_weight row_weight
weight_light fields h exceptions e i =
    let u = use_light fields h (instruction_columns (form_at fields) i).factor2 in
    let x = exceptions_light exceptions i in
    omega (arith, u, x, e)

pub exceptions_few : (p : Object) → IsProgram p → exceptions_weight (lines_of p) ≤ 201000
exceptions_few p h = let e = lines_few p is_exception p.lines h.lines in let n = h.few_lines in omega (arith, e, n)

pub others_few : (p : Object) → IsProgram p → overflow_weight (lines_of p) ≤ 201000
others_few p h = let e = lines_few p is_in_cycle p.lines h.lines in let n = h.few_lines in omega (arith, e, n)

pub weight_few : (p : Object) → IsProgram p → (i : Instruction ℕ) → weight p i ≤ heaviest
weight_few p h i = weight_light p.fields h.fields (exceptions_weight (lines_of p)) (exceptions_few p h) i

-- ---- costs

-- all of them are no more
abbrev pub Under : List ℕ → ℕ → Type 0
Under costs c = (k : ℕ) → slice_index costs k ≤ c

onward_few : (place : ℕ) (i : Instruction ℕ) (costs : List ℕ) (c : ℕ) → Under costs c → cost_onward place i costs ≤ c
onward_few place (Act a) costs c h = h 0
onward_few place Except costs c h = h 0
onward_few place (Branch k cs t) costs c h = by_tests (nat_lt place t) (always_goes k cs) (h (t - (place + 1))) (h 0)
  where
    by_tests : (a b : Bool) → slice_index costs (t - (place + 1)) ≤ c → slice_index costs 0 ≤ c → max (cond a (slice_index costs (t - (place + 1))) 0) (cond b 0 (slice_index costs 0)) ≤ c
    by_tests true true x y = omega arith
    by_tests true false x y = omega arith
    by_tests false true x y = omega arith
    by_tests false false x y = omega arith
onward_few place (Call s) costs c h = h 0
onward_few place (Return s) costs c h = omega arith

with_few : (w : Instruction ℕ → ℕ) (place : ℕ) (i : Instruction ℕ) (costs : List ℕ) (c : ℕ) → w i ≤ heaviest → Under costs c → Under (with_cost w place i costs) (heaviest + c)
with_few w place i costs c l h zero = let o = onward_few place i costs c h in omega (arith, l, o)
with_few w place i costs c l h (suc k) = let o = h k in omega (arith, o)

none_under : (c k : ℕ) → slice_index [] k ≤ c
none_under c k = omega arith

-- a section's costs grow by the heaviest instruction a place
pub costs_few : (w : Instruction ℕ → ℕ) → ((i : Instruction ℕ) → w i ≤ heaviest) → (n : ℕ) (is : List (Instruction ℕ)) → Under (costs_from w n is) (heaviest * length is)
costs_few w l n [] = none_under _
costs_few w l n (i ∷ is) = λ k. (let u = with_few w n i (costs_from w (n + 1) is) (heaviest * length is) (l i) (costs_few w l (n + 1) is) k in omega (arith, u))

-- ---- the greatest cost that a spend leads to

cost_in_few : (first : ℕ) (costs : List ℕ) (c place : ℕ) → Under costs c → cost_in first costs place ≤ c
cost_in_few first costs c place h = by_test (nat_le first place)
  where
    by_test : (b : Bool) → cond b (slice_index costs (place - first)) 0 ≤ c
    by_test true = h (place - first)
    by_test false = omega arith

back_few : (first : ℕ) (costs : List ℕ) (c place : ℕ) (i : Instruction ℕ) → Under costs c → back_cost first costs place i ≤ c
back_few first costs c place (Act a) h = omega arith
back_few first costs c place Except h = omega arith
back_few first costs c place (Branch k cs t) h = by_test (nat_le t place)
  where
    by_test : (b : Bool) → cond b (cost_in first costs t) 0 ≤ c
    by_test true = cost_in_few first costs c t h
    by_test false = omega arith
back_few first costs c place (Call n) h = omega arith
back_few first costs c place (Return n) h = omega arith

pub most_back_few : (first : ℕ) (costs : List ℕ) (c place : ℕ) (is : List (Instruction ℕ)) → Under costs c → most_back first costs place is ≤ c
most_back_few first costs c place [] h = omega arith
most_back_few first costs c place (i ∷ is) h = let a = back_few first costs c place i h in let b = most_back_few first costs c (place + 1) is h in omega (arith, a, b)

pub under : (p : Object) → IsProgram p → (first : ℕ) (code : List (Instruction ℕ)) (m : ℕ) → length code ≤ m → Under (costs_at p first code) (heaviest * m)
under p h first code m l k = let u = costs_few (weight p) (weight_few p h) first code k in omega (arith, u, l)

pub most_at_few : (p : Object) → IsProgram p → (first : ℕ) (code : List (Instruction ℕ)) (m : ℕ) → length code ≤ m → most_at p first code ≤ heaviest * m
most_at_few p h first code m l = most_back_few first (costs_at p first code) (heaviest * m) first code (under p h first code m l)

pub most_in_few : (p : Object) → IsProgram p → (first m : ℕ) (ss : List SubroutineRow) → instructions_in ss ≤ m → most_in p first ss ≤ heaviest * m
most_in_few p h first m [] l = omega arith
most_in_few p h first m (s ∷ ss) l =
    let own : length s.instructions ≤ m = omega (arith, l) in
    let a = under p h first s.instructions m own 0 in
    let b = most_at_few p h first s.instructions m own in
    let c = most_in_few p h (first + length s.instructions) m ss (omega (arith, l)) in
    omega (arith, a, b, c)

pub most_few : (p : Object) → IsProgram p → most p ≤ heaviest * 8192
most_few p h =
    let n = h.few_instructions in
    let a = most_at_few p h 0 p.detail 8192 (omega (arith, n)) in
    let b = most_at_few p h (length p.detail) p.total 8192 (omega (arith, n)) in
    let c = most_in_few p h (length p.detail + length p.total) 8192 p.subroutines (omega (arith, n)) in
    omega (arith, a, b, c)

-- ---- all

pub output_few : (p : Object) → IsProgram p → all_outputs_weight p ≤ 402000
output_few p h = by_test (is_some p.overflow.indicator) (others_few p h)
  where
    by_test : (b : Bool) → overflow_weight (lines_of p) ≤ 201000 → cond b (overflow_weight (lines_of p) + overflow_weight (lines_of p)) (overflow_weight (lines_of p)) ≤ 402000
    by_test true l = omega (arith, l)
    by_test false l = omega (arith, l)

pub types_light : (p : Object) → IsProgram p → types_weight p.types ≤ 141800
types_light p h = let t = types_few p.types h.types in let n = h.few_types in omega (arith, t, n)

pub once_few : (p : Object) → IsProgram p → once p ≤ 3457024000
once_few p h =
    let n = h.few_instructions in
    let detail = under p h 0 p.detail 8192 (omega (arith, n)) 0 in
    let total = under p h (length p.detail) p.total 8192 (omega (arith, n)) 0 in
    omega (arith, detail, total)

-- the same of numbers that are equal
pub paid_by : (p : Object) → IsProgram p → (a m : ℕ) → a ≡ p.allowance → m ≡ most p → a * m ≤ 65535 * (heaviest * 8192)
paid_by p h a m e f = let x = h.highest_allowance in let y = most_few p h in mul-le a m 65535 (heaviest * 8192) (omega (arith, e, x)) (omega (arith, f, y))

pub paid_few : (p : Object) → IsProgram p → p.allowance * most p ≤ 65535 * (heaviest * 8192)
paid_few p h = mul-le p.allowance (most p) 65535 (heaviest * 8192) h.highest_allowance (most_few p h)

pub bound_few : (p : Object) → IsProgram p → bound p < 2 ^ 48
unfolding bound
bound_few p h =
    let types = types_light p h in
    let out = output_few p h in
    let passed = once_few p h in
    let paid = paid_few p h in
    omega (arith, types, out, passed, paid)

-- ---- as the pass finds them

-- the costs of what is left of a section of few places
pub costs_under : (fields : List FieldForm) → All IsFieldRow fields → (exceptions : ℕ) → exceptions ≤ 201000 → (n : ℕ) (is : List (Instruction ℕ)) → length is ≤ 8192 → Under (costs_from (instruction_weight (form_at fields) exceptions) n is) (heaviest * 8192)
costs_under fields h exceptions e n is l k = let u = costs_few (instruction_weight (form_at fields) exceptions) (weight_light fields h exceptions e) n is k in omega (arith, u, l)

pub onward_under : (place : ℕ) (i : Instruction ℕ) (costs : List ℕ) → ((k : ℕ) → slice_index costs k ≤ 1728512000) → cost_onward place i costs ≤ 1728512000
onward_under place i costs h = onward_few place i costs 1728512000 h
