use Rattle.rpg_memory.proofs.Keeping.{text_kept}
use Rattle.rpg_memory.proofs.Values.{old_text}
use Rattle.rpg_memory.proofs.memory.Memory.set_text_in.Goals as goal

pub set_text_in-requires-clause-there : goal.set_text_in-requires-clause-there
set_text_in-requires-clause-there g c =
    old_text c.self.inside.program.now.fields (g.S.Store.contents c.self.inside.store) (g.S.Store.currents c.self.inside.store) c.args.field c.args.position _
    c.self.invariant.fits (rw (← c.self.view_is) at c.requires.there) (rw (← c.self.view_is) at c.requires.length)

pub invariant_of-self : goal.invariant_of-self
invariant_of-self g c =
    text_kept g.S.Store.forms g.S.Store.contents g.S.Store.currents c.self.inside.program.now.fields c.self.inside.store c.set_text_in.new.store c.args.field c.args.position c.args.text.now
    c.self.invariant c.set_text_in.ensures.forms c.set_text_in.ensures.contents c.set_text_in.ensures.currents (rw (← c.self.view_is) at c.requires.there) (rw (← c.self.view_is) at c.requires.length) c.requires.characters
