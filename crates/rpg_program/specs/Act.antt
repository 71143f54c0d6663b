-- Operations on entries: what they do to the data, stated once for instructions and for calculation cards.
use Rattle.std.specs.Prelude.{ℕ, zero, suc, ℤ, pos, neg_ℤ, ◌+ℤ◌, Bool, false, List, Option, None, Some, if◌then◌else◌}
use Rattle.std.specs.Option.{option_map}
use Rattle.std.specs.Ordering.{int_eq}
use Rattle.std.specs.declared.cmp.Ordering.{Ordering}
use Rattle.rpg_decimal_words.specs.Fraction.{Fraction, aligned_number, fraction_cmp, minus, over, plus, rest_decimals, rest_of, stored_number, times, with_decimals}
use Rattle.rpg_decimal_words.specs.Move.{number_moved_left, number_moved_right, overlay_left, overlay_right}
use Rattle.rpg_decimal_words.specs.Order.{text_cmp}
use Rattle.rpg_decimal_words.specs.Zoned.{number_in, zoned_text}
use Rattle.rpg_program.specs.Ended.{Gives, Ended, if_right, or_halt}
use Rattle.rpg_program.specs.Ends.{Fault, Storage}
use Rattle.rpg_program.specs.Forms.{decimals_of, entries_of, is_table_form, kind_of, length_of}
use Rattle.rpg_program.specs.Rows.{holds_position, is_blank_index}
use Rattle.rpg_program.specs.Search.{positions, search_of}
use Rattle.rpg_program.specs.Showing.{set_to, shown, shown_if_any, sign_of}
use Rattle.rpg_program.specs.Values.{Number, Text}
use Rattle.rpg_program.specs.World.{Data, characters_at, number_at, set_current, set_value}
use Rattle.rpg_program.specs.declared.form.FieldForm.{FieldForm}
use Rattle.rpg_program.specs.declared.form.Kind.{Kind}
use Rattle.rpg_program.specs.declared.form.Kind.TheVariants as kinds
use Rattle.rpg_program.specs.declared.operation.Action.{Action}
use Rattle.rpg_program.specs.declared.operation.Action.TheVariants.{Compute, Divide, Assign, TakeRemainder, CrossFoot, Compare, LookUp, Move, SetIndicators}
use Rattle.rpg_program.specs.declared.operation.Entry.{Entry}
use Rattle.rpg_program.specs.declared.operation.Found.{Found}
use Rattle.rpg_program.specs.declared.operation.Index.{Index}
use Rattle.rpg_program.specs.declared.operation.Index.TheVariants.{Blank, Literal, Field}
use Rattle.rpg_program.specs.declared.operation.Operator.{Operator}
use Rattle.rpg_program.specs.declared.operation.Operator.TheVariants.{Add, Subtract, Multiply}
use Rattle.rpg_program.specs.declared.operation.Shows.{Shows}
use Rattle.rpg_program.specs.declared.operation.Side.{Side}
use Rattle.rpg_program.specs.declared.operation.Side.TheVariants.{Right, Left}

-- ---- numbers

-- the exact result of an operator for two numbers
abbrev pub computed : Operator → Fraction → Fraction → Fraction
computed Add p q = plus p q
computed Subtract p q = minus p q
computed Multiply p q = times p q

-- one number divided by another, exactly; none if that is zero
abbrev pub divided : Fraction → Fraction → Option Fraction
divided p q = if int_eq q.top (pos 0) then None else Some (over p q)

-- negated, if requested
abbrev pub assigned : Bool → ℤ → ℤ
assigned negated n = if negated then neg_ℤ n else n

-- the remainder of dividing p, with pd decimals, by q, with qd decimals, after its quotient is truncated to `dec` decimals
abbrev pub left_over : Fraction → ℕ → Fraction → ℕ → ℕ → Fraction
left_over p pd q qd dec = with_decimals (aligned_number false (rest_decimals pd qd dec) (rest_of p q dec)) (rest_decimals pd qd dec)

-- a result as a field of that form keeps it: extra decimals truncated or half adjusted, and without excess digits on the left
abbrev pub stored_value : Bool → Option FieldForm → Fraction → ℤ
stored_value half form n = stored_number half (decimals_of form) (length_of form) n

-- ---- places

-- places that overwrite those of another text
abbrev pub text_over : Side → List ℕ → List ℕ → List ℕ
text_over Right source old = overlay_right source old
text_over Left source old = overlay_left source old

-- the digits of a number of k digits, overwriting those of one of `len` digits
abbrev pub number_over : Side → ℕ → ℤ → ℕ → ℤ → ℤ
number_over Right k n len old = number_moved_right k n len old
number_over Left k n len old = number_moved_left k n len old

-- the sum of f 1 to f n
abbrev pub sum_to : (ℕ → ℤ) → ℕ → ℤ
sum_to f zero = pos 0
sum_to f (suc n) = sum_to f n +ℤ f (suc n)

-- where a search begins
abbrev pub search_start : {K : Type 0} → Entry K → ℕ
search_start e = if is_blank_index e.index then 1 else e.position

-- another entry of the same field
abbrev pub entry_at : {K : Type 0} → Entry K → ℕ → Entry K
entry_at e n = record e { position = n }

-- the field that an entry is of
abbrev pub field_of_entry : {K : Type 0} → Entry K → K
field_of_entry e = e.field

module _ {K : Type 0} (forms : K → Option FieldForm) where
  -- a position that its index field can't hold, or that the result's table doesn't have
  unfoldable pub position_fault : Entry K → Option K → Option Found → Option Fault
  position_fault b table None = None
  position_fault b table (Some f) = if holds_position forms b.index table f.position then None else Some Storage

module _ {K : Type 0} {R : K → K → Ordering} where
  -- a number is stored, and then the indicators are set for it
  abbrev pub store : Data R → Entry K → Shows → ℤ → Data R
  store d r s n = record (set_value d r.field r.position (Number n)) { on = shown s (sign_of n) d.on }

  -- a position is stored in an index field
  abbrev pub index_set : Index K → ℕ → Data R → Data R
  index_set Blank n d = d
  index_set (Literal m) n d = d
  index_set (Field k) n d = set_value d k 1 (Number (pos n))

module _ {K : Type 0} {R : K → K → Ordering} (forms : K → Option FieldForm) where
  -- the number of an entry, its decimal point if its form has it
  abbrev pub exact : Data R → Entry K → Fraction
  exact d o = with_decimals (number_at d o.field o.position) (decimals_of (forms o.field))

  -- the sum of all entries of an array
  abbrev pub summed : Data R → Entry K → Fraction
  summed d b = with_decimals (sum_to (number_at d b.field) (entries_of (forms b.field))) (decimals_of (forms b.field))

  -- the remainder after a division: its own if it isn't half adjusted, otherwise the previous one
  abbrev pub remainder_after : Bool → Data R → Entry K → Entry K → Entry K → Fraction
  remainder_after half d a b r =
      if half then d.remainder
      else left_over (exact d a) (decimals_of (forms a.field)) (exact d b) (decimals_of (forms b.field)) (decimals_of (forms r.field))

  -- how two entries of one kind compare: numbers by their values, texts by the order of characters
  abbrev pub order_by : Kind → Data R → Entry K → Entry K → Ordering
  order_by kinds.Number d a b = fraction_cmp (exact d a) (exact d b)
  order_by kinds.Text d a b = text_cmp (characters_at d a.field a.position) (characters_at d b.field b.position)

  -- how the entry at a position of factor 2 compares with factor 1
  abbrev pub order_at : Data R → Entry K → Entry K → ℕ → Ordering
  order_at d a b n = order_by (kind_of (forms a.field)) d (entry_at b n) a

  -- the characters of an entry of that kind: for a number its zoned text
  abbrev pub source_text : Kind → Data R → Entry K → List ℕ
  source_text kinds.Number d b = zoned_text (length_of (forms b.field)) (number_at d b.field b.position)
  source_text kinds.Text d b = characters_at d b.field b.position

  -- an entry of that kind, moved to a number of `len` digits: a text overwrites the text of the old number, and the result is read
  abbrev pub number_after : Kind → Side → Data R → Entry K → ℕ → ℤ → Option ℤ
  number_after kinds.Number side d b len old = Some (number_over side (length_of (forms b.field)) (number_at d b.field b.position) len old)
  number_after kinds.Text side d b len old = number_in (text_over side (characters_at d b.field b.position) (zoned_text len old))

  -- an entry of one kind, moved to a result of another or the same; a text that isn't a number there is halt 4
  unfoldable pub moved : Kind → Kind → Side → Data R → Entry K → Entry K → Ended R
  moved from kinds.Number side d b r =
      or_halt (number_after from side d b (length_of (forms r.field)) (number_at d r.field r.position)) 4 d (λ n. Gives (set_value d r.field r.position (Number n)))
  moved from kinds.Text side d b r = Gives (set_value d r.field r.position (Text (text_over side (source_text from d b) (characters_at d r.field r.position))))

  -- ---- LOKUP

  -- a position becomes current, if the field is a table
  abbrev pub made_current : K → ℕ → Data R → Data R
  made_current k n d = if is_table_form (forms k) then set_current d k n else d

  -- a position becomes current in the result's table, if there is one
  abbrev pub made_current_if_any : Option K → ℕ → Data R → Data R
  made_current_if_any None n d = d
  made_current_if_any (Some table) n d = made_current table n d

  -- the position found is stored in the index field, 1 if there is none; it becomes current in factor 2 and in the result's table
  unfoldable pub with_found : Entry K → Option K → Option Found → Data R → Data R
  with_found b table None d = index_set b.index 1 d
  with_found b table (Some f) d = made_current_if_any table f.position (made_current b.field f.position (index_set b.index f.position d))

  -- the indicators show what was found
  abbrev pub found_shown : Shows → Option Found → Data R → Data R
  found_shown s f d = record d { on = shown_if_any s (option_map (λ (x : Found). x.order) f) d.on }

  -- the position is stored, and the indicators show what was found, unless it doesn't fit there
  unfoldable pub looked_up : Data R → Entry K → Option K → Shows → Option Found → Ended R
  looked_up d b table s f = if_right (position_fault forms b table f) d (Gives (found_shown s f (with_found b table f d)))

  -- factor 1 is searched among the entries of factor 2, from its index on
  unfoldable pub found_in : Data R → Entry K → Entry K → Shows → Option Found
  found_in d a b s = search_of (order_at d a b) s (positions (search_start b) (entries_of (forms b.field)))

  -- one case per operation; a zero divisor is halt 1
  unfoldable pub act : Action (Entry K) → Data R → Ended R
  act (Compute f half a b r s) d = Gives (store d r s (stored_value half (forms r.field) (computed f (exact d a) (exact d b))))
  act (Divide half a b r s) d =
      or_halt (divided (exact d a) (exact d b)) 1 d (λ n. Gives (store (record d { remainder = remainder_after half d a b r }) r s (stored_value half (forms r.field) n)))
  act (Assign negated half b r s) d =
      Gives (store d r s (stored_value half (forms r.field) (with_decimals (assigned negated (number_at d b.field b.position)) (decimals_of (forms b.field)))))
  act (TakeRemainder r s) d = Gives (store d r s (stored_value false (forms r.field) d.remainder))
  act (CrossFoot half b r s) d = Gives (store d r s (stored_value half (forms r.field) (summed d b)))
  act (Compare a b s) d = Gives (record d { on = shown s (order_by (kind_of (forms a.field)) d a b) d.on })
  act (LookUp a b r s) d = looked_up d b (option_map field_of_entry r) s (found_in d a b s)
  act (Move side b r) d = moved (kind_of (forms b.field)) (kind_of (forms r.field)) side d b r
  act (SetIndicators is_on s) d = Gives (record d { on = set_to is_on s d.on })
