-- LOKUP, by positions; and the entry that an operand names.
use Rattle.std.specs.Prelude.{◌≡◌, ℕ, ◌≤◌, pos, Bool, true, false, ⊤, Option, None, Some, MatchOption, is_some}
use Rattle.std.specs.FinSet as set
use Rattle.std.specs.Ordering.{is_eq, is_gt, is_lt}
use Rattle.std.specs.declared.cmp.Ordering.{Ordering}
use Rattle.std.specs.declared.cmp.Ordering.TheVariants.{Less, Equal, Greater}
use Rattle.rpg_decimal_words.specs.Fraction.{fraction_cmp}
use Rattle.rpg_decimal_words.specs.Order.{text_cmp}
use Rattle.rpg_program.specs.Act.{act}
use Rattle.rpg_program.specs.Ends.{Continues}
use Rattle.rpg_program.specs.Entries.{position_of}
use Rattle.rpg_program.specs.Forms.{entries_of, is_table_form, kind_of}
use Rattle.rpg_program.specs.Places.{IsFirst, IsLast, NonePasses}
use Rattle.rpg_program.specs.Values.{Number, number_of}
use Rattle.rpg_program.specs.World.{Data, Fields, characters_at, current_in, value_at, value_in}
use Rattle.rpg_program.specs.declared.form.FieldForm.{FieldForm}
use Rattle.rpg_program.specs.declared.form.Kind.{Kind}
use Rattle.rpg_program.specs.declared.form.Kind.TheVariants as kinds
use Rattle.rpg_program.specs.declared.operation.Action.TheVariants.{LookUp}
use Rattle.rpg_program.specs.declared.operation.Entry.{Entry}
use Rattle.rpg_program.specs.declared.operation.Found.{Found}
use Rattle.rpg_program.specs.declared.operation.Index.{Index}
use Rattle.rpg_program.specs.declared.operation.Index.TheVariants.{Blank, Literal, Field}
use Rattle.rpg_program.specs.declared.operation.Shows.{Shows}
use Rattle.rpg_operation_laws.specs.Results.{ShowOutcome, number_there, stays}

-- an order is that one
abbrev pub is_order : Ordering → Ordering → Bool
is_order Equal x = is_eq x
is_order Greater x = is_gt x
is_order Less x = is_lt x

-- `entry` is how the entry at a position compares with factor 1
module _ (entry : ℕ → Ordering) (s : Shows) (from last : ℕ) where
  -- this column of the card is blank, or no entry has that order
  abbrev pub FindsNone : Option ℕ → Ordering → Type 0
  FindsNone column order = is_some column ≡ true → NonePasses (λ m. is_order order (entry m)) from last

  -- EQ finds the first equal entry. If it finds none, HI finds the first greater one; if that finds none, LO the last smaller one.
  abbrev pub IsFoundAs : Ordering → ℕ → Type 0
  IsFoundAs Equal n = (is_some s.zero ≡ true) × IsFirst (λ m. is_eq (entry m)) from last n
  IsFoundAs Greater n = FindsNone s.zero Equal × (is_some s.plus ≡ true) × IsFirst (λ m. is_gt (entry m)) from last n
  IsFoundAs Less n = FindsNone s.zero Equal × FindsNone s.plus Greater × (is_some s.minus ≡ true) × IsLast (λ m. is_lt (entry m)) from last n

  -- what is found, or that nothing is
  abbrev pub FindsNearest : Option Found → Type 0
  FindsNearest found = MatchOption found (FindsNone s.zero Equal × FindsNone s.plus Greater × FindsNone s.minus Less) (λ f. IsFoundAs f.order f.position)

-- the first entry that is searched
abbrev pub begins_at : {K : Type 0} → Index K → ℕ → ℕ
begins_at Blank p = 1
begins_at (Literal n) p = p
begins_at (Field k) p = p

module _ {K : Type 0} {R : K → K → Ordering} where
  -- an index field has the position
  abbrev pub IndexHas : Index K → ℕ → Data R → Type 0
  IndexHas Blank n d = ⊤
  IndexHas (Literal m) n d = ⊤
  IndexHas (Field k) n d = value_at d k 1 ≡ Some (Number (pos n))

module _ {K : Type 0} {R : K → K → Ordering} (forms : K → Option FieldForm) where
  -- how an entry compares with factor 1: numbers by value, texts by the order of characters
  abbrev pub entry_against : Kind → Data R → Entry K → Entry K → ℕ → Ordering
  entry_against kinds.Number d a b n = fraction_cmp (number_there forms d b.field n) (number_there forms d a.field a.position)
  entry_against kinds.Text d a b n = text_cmp (characters_at d b.field n) (characters_at d a.field a.position)

  -- a table's current entry has that position
  abbrev pub IsCurrent : K → ℕ → Data R → Type 0
  IsCurrent k n d = is_table_form (forms k) ≡ true → current_in d.fields k ≡ n

  -- nothing is found: all named indicators turn off, the index is 1, and tables keep their current entries
  pub record AfterNone (d : Data R) (b : Entry K) (s : Shows) (after : Data R) : Type 0 where
    pub off : (i : ℕ) → set.contains after.on i ≡ stays s d.on i
    pub index : IndexHas b.index 1 after
    pub current : after.fields.current ≡ d.fields.current

  -- an entry is found: it is current in the table searched and in the result's, and its position is in the index field
  pub record AfterFound (d : Data R) (b : Entry K) (table : Option (Entry K)) (s : Shows) (f : Found) (after : Data R) : Type 0 where
    pub shows : ShowOutcome s f.order d.on after.on
    pub index : IndexHas b.index f.position after
    pub current : IsCurrent b.field f.position after
    pub result : (t : Entry K) → table ≡ Some t → IsCurrent t.field f.position after

  -- what LOKUP finds from its index on, and the data after that
  pub record LooksUp (d : Data R) (a b : Entry K) (table : Option (Entry K)) (s : Shows) (after : Data R) : Type 0 where
    pub found : Option Found
    pub nearest : FindsNearest (entry_against (kind_of (forms a.field)) d a b) s (begins_at b.index b.position) (entries_of (forms b.field)) found
    pub leaves : MatchOption found (AfterNone d b s after) (λ f. AfterFound d b table s f after)

  -- a field with an index: the position of the entry that it names
  pub record NamesEntries (fields : Fields R) (k : K) : Type 0 where
    -- without an index a table stands for its current entry; any other field has one
    pub alone : is_table_form (forms k) ≡ false → position_of forms fields (record { field = k; index = Blank }) ≡ Some 1
    pub table : is_table_form (forms k) ≡ true → position_of forms fields (record { field = k; index = Blank }) ≡ Some (current_in fields k)
    -- a literal is the position, and so is the number in an index field
    pub literal : (n : ℕ) → position_of forms fields (record { field = k; index = Literal n }) ≡ Some n
    pub within : (i : K) (n : ℕ) → number_of (value_in fields (i, 1)) ≡ pos n → 1 ≤ n → n ≤ entries_of (forms k)
        → position_of forms fields (record { field = k; index = Field i }) ≡ Some n
    -- otherwise it is out of range
    pub otherwise : (i : K) → ((n : ℕ) → number_of (value_in fields (i, 1)) ≡ pos n → 1 ≤ n → n ≤ entries_of (forms k) → ⊥)
        → position_of forms fields (record { field = k; index = Field i }) ≡ None

-- LOKUP, if it goes on
abbrev pub SearchesFind : {K : Type 0} → (K → K → Ordering) → Type 0
SearchesFind {K} R = (forms : K → Option FieldForm) (d : Data R) (a b : Entry K) (table : Option (Entry K)) (s : Shows)
    → (act forms (LookUp a b table s) d).ending ≡ Continues → LooksUp forms d a b table s (act forms (LookUp a b table s) d).data

-- the entries that operands name
abbrev pub OperandsNameEntries : {K : Type 0} → (K → K → Ordering) → Type 0
OperandsNameEntries {K} R = (forms : K → Option FieldForm) (fields : Fields R) (k : K) → NamesEntries forms fields k
