-- Operations on operands that were resolved.
use Rattle.std.proofs.Common.{◌≡◌, ℕ, ℤ, Bool, true, false, Some, is_some, refl, sym}
use Rattle.std.proofs.lemmas.Option.{cond_some}
use Rattle.rpg_program.specs.Act.{act, store}
use Rattle.rpg_program.specs.Ends.{Continues}
use Rattle.rpg_program.specs.Entries.{entry_of}
use Rattle.rpg_program.specs.Operate.{has_entries, operate, resolved}
use Rattle.rpg_program.specs.Ended.{Gives}
use Rattle.rpg_program.specs.Rows.{row_of}
use Rattle.rpg_program.specs.declared.operation.Action.TheVariants.{Assign, Compare, Compute, CrossFoot, Divide, Move, TakeRemainder}
use Rattle.rpg_program.specs.declared.operation.Operand.{Operand}
use Rattle.rpg_program.specs.declared.operation.Operator.{Operator}
use Rattle.rpg_program.specs.declared.operation.Shows.{Shows}
use Rattle.rpg_program.specs.declared.operation.Side.{Side}
use Rattle.rpg_memory.specs.Memory.{Working, data_put, entry_if_in_range, forms_in, position_in}
use Rattle.rpg_memory.specs.declared.resolved.Resolved.{Resolved}
use Rattle.rpg_machine_operations.specs.Words.{act_in, assigned_in, computed_in, kind_in, moved_in, operate_in, stored_value_in, summed_in}
use Rattle.rpg_memory.specs.Doing.{DidData}

-- an operand whose entry was found names that entry
record Names (w : Working) (o : Operand ℕ) (r : Resolved) : Type 0 where
  some : is_some (position_in w o) ≡ true
  entry : entry_of (forms_in w) w.world.data.fields o ≡ r.entry

entry_named : (w : Working) (o : Operand ℕ) (r : Resolved) → Some r.entry ≡ entry_if_in_range w o → Names w o r
entry_named w o r is =
    let both = cond_some (is_some (position_in w o)) (entry_of (forms_in w) w.world.data.fields o) r.entry (sym is) in
    record { some = both.0; entry = both.1 }

pub compute_named : (w : Working) (f : Operator) (half : Bool) (a b to : Operand ℕ) (s : Shows) (d e r : Resolved) → Some d.entry ≡ entry_if_in_range w a →
    Some e.entry ≡ entry_if_in_range w b → Some r.entry ≡ entry_if_in_range w to → operate_in w (Compute f half a b to s) ≡ act_in w (Compute f half d e r s)
unfolding operate resolved has_entries row_of
compute_named w f half a b to s d e r first second third =
    let x = entry_named w a d first in let y = entry_named w b e second in let z = entry_named w to r third in
    rw (x.some, y.some, z.some, x.entry, y.entry, z.entry) refl

pub divide_named : (w : Working) (half : Bool) (a b to : Operand ℕ) (s : Shows) (d e r : Resolved) → Some d.entry ≡ entry_if_in_range w a →
    Some e.entry ≡ entry_if_in_range w b → Some r.entry ≡ entry_if_in_range w to → operate_in w (Divide half a b to s) ≡ act_in w (Divide half d e r s)
unfolding operate resolved has_entries row_of
divide_named w half a b to s d e r first second third =
    let x = entry_named w a d first in let y = entry_named w b e second in let z = entry_named w to r third in
    rw (x.some, y.some, z.some, x.entry, y.entry, z.entry) refl

pub assign_named : (w : Working) (negated half : Bool) (b to : Operand ℕ) (s : Shows) (e r : Resolved) → Some e.entry ≡ entry_if_in_range w b →
    Some r.entry ≡ entry_if_in_range w to → operate_in w (Assign negated half b to s) ≡ act_in w (Assign negated half e r s)
unfolding operate resolved has_entries row_of
assign_named w negated half b to s e r second third =
    let y = entry_named w b e second in let z = entry_named w to r third in
    rw (y.some, z.some, y.entry, z.entry) refl

pub remainder_named : (w : Working) (to : Operand ℕ) (s : Shows) (r : Resolved) → Some r.entry ≡ entry_if_in_range w to → operate_in w (TakeRemainder to s) ≡ act_in w (TakeRemainder r s)
unfolding operate resolved has_entries row_of
remainder_named w to s r third =
    let z = entry_named w to r third in
    rw (z.some, z.entry) refl

pub cross_named : (w : Working) (half : Bool) (b to : Operand ℕ) (s : Shows) (e r : Resolved) → Some e.entry ≡ entry_if_in_range w b →
    Some r.entry ≡ entry_if_in_range w to → operate_in w (CrossFoot half b to s) ≡ act_in w (CrossFoot half e r s)
unfolding operate resolved has_entries row_of
cross_named w half b to s e r second third =
    let y = entry_named w b e second in let z = entry_named w to r third in
    rw (y.some, z.some, y.entry, z.entry) refl

pub compare_named : (w : Working) (a b : Operand ℕ) (s : Shows) (d e : Resolved) → Some d.entry ≡ entry_if_in_range w a → Some e.entry ≡ entry_if_in_range w b →
    operate_in w (Compare a b s) ≡ act_in w (Compare d e s)
unfolding operate resolved has_entries row_of
compare_named w a b s d e first second =
    let x = entry_named w a d first in let y = entry_named w b e second in
    rw (x.some, y.some, x.entry, y.entry) refl

pub move_named : (w : Working) (side : Side) (b to : Operand ℕ) (e r : Resolved) → Some e.entry ≡ entry_if_in_range w b → Some r.entry ≡ entry_if_in_range w to →
    operate_in w (Move side b to) ≡ moved_in w (kind_in w r) side e r
unfolding operate resolved has_entries row_of act
move_named w side b to e r second third =
    let y = entry_named w b e second in let z = entry_named w to r third in
    rw (y.some, z.some, y.entry, z.entry) refl

-- ---- what is done once a result is stored

-- a number was stored, and shown
abbrev pub HasStored : Working → Resolved → Shows → ℤ → Working → Type 0
HasStored w r s n new = new ≡ data_put (store w.world.data r.entry s n) w

stored : (w new : Working) (r : Resolved) (s : Shows) (m n : ℤ) → n ≡ m → HasStored w r s n new → DidData (Gives (store w.world.data r.entry s m)) w Continues new
stored w new r s m n is done = rw (done, is) (record { leaves = refl; right = tt; rest = refl })

pub compute_stored : (w new : Working) (f : Operator) (half : Bool) (s : Shows) (d e r : Resolved) (n : ℤ) → n ≡ computed_in w f half d e r → HasStored w r s n new →
    DidData (act_in w (Compute f half d e r s)) w Continues new
unfolding act
compute_stored w new f half s d e r n is done = stored w new r s (computed_in w f half d e r) n is done

pub assign_stored : (w new : Working) (negated half : Bool) (s : Shows) (e r : Resolved) (n : ℤ) → n ≡ stored_value_in w half r (assigned_in w negated e) → HasStored w r s n new →
    DidData (act_in w (Assign negated half e r s)) w Continues new
unfolding act
assign_stored w new negated half s e r n is done = stored w new r s (stored_value_in w half r (assigned_in w negated e)) n is done

pub remainder_stored : (w new : Working) (s : Shows) (r : Resolved) (n : ℤ) → n ≡ stored_value_in w false r w.world.data.remainder → HasStored w r s n new →
    DidData (act_in w (TakeRemainder r s)) w Continues new
unfolding act
remainder_stored w new s r n is done = stored w new r s (stored_value_in w false r w.world.data.remainder) n is done

pub cross_stored : (w new : Working) (half : Bool) (s : Shows) (e r : Resolved) (n : ℤ) → n ≡ summed_in w half e r → HasStored w r s n new →
    DidData (act_in w (CrossFoot half e r s)) w Continues new
unfolding act
cross_stored w new half s e r n is done = stored w new r s (summed_in w half e r) n is done
