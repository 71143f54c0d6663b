use Rattle.std.proofs.Common.{◌≡◌, rules, to_z, of_z}
use Rattle.std.specs.Int.{w64}
use Rattle.rpg_memory.proofs.Keeping.{number_kept}
use Rattle.rpg_memory.proofs.memory.Memory.set_number_in.Goals as goal

pub invariant_of-self : goal.invariant_of-self
invariant_of-self g c =
    let read : to_z w64 (of_z w64 c.args.n) ≡ c.args.n = search rules in
    number_kept g.S.Store.forms g.S.Store.contents g.S.Store.currents c.self.inside.program.now.fields c.self.inside.store c.set_number_in.new.self c.args.field c.args.position c.args.n _
    c.self.invariant c.set_number_in.ensures.forms c.set_number_in.ensures.contents c.set_number_in.ensures.currents read (rw (← c.self.view_is) at c.requires.there) (rw (← c.self.view_is) at c.requires.length)
