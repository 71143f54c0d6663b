use Rattle.std.proofs.Common.{◌≡◌, ◌+◌, sym, arith}
use Rattle.rpg_store.specs.Slots.{entries_count, forms_of}
use Rattle.rpg_store.proofs.Counting.{last_ends}
use Rattle.rpg_store.proofs.listed.entries_count.Goals as goal

pub returns-in-Some : goal.returns-in-Some
returns-in-Some c =
    let slot = c.in-Some.slot.now in
    let ends : slot.first + slot.form.entries ≡ 0 + entries_count (forms_of c.args.slots.now) = last_ends 0 c.args.slots.now slot c.requires (sym c.in-Some.ensures.value) in
    omega arith
