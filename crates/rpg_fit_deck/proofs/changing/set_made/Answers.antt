use Rattle.rpg_fit_deck.proofs.Replacing.{absent_made, changed_made, gone_made, kept_made}
use Rattle.rpg_fit_deck.proofs.changing.set_made.Goals as goal

pub returns-in-Kept : goal.returns-in-Kept
returns-in-Kept c =
    let first = rw c.as_slice.ensures.value at c.in-Some.ensures.first in
    rw c.in-Kept.is (kept_made c.args.id c.args.cards.now.items c.in-Some.place first)

pub returns-in-Changed : goal.returns-in-Changed
returns-in-Changed c =
    let first = rw c.as_slice.ensures.value at c.in-Some.ensures.first in
    rw c.in-Changed.is (changed_made c.in-Changed.card c.args.id c.args.cards.now.items c.in-Some.place c.index_mut.result.now first c.index_mut.ensures.value)

pub returns-in-Gone : goal.returns-in-Gone
returns-in-Gone c =
    let first = rw c.as_slice.ensures.value at c.in-Some.ensures.first in
    rw (c.in-Gone.is, c.remove.ensures.items) (gone_made c.args.id c.args.cards.now.items c.in-Some.place first)

pub returns-in_default : goal.returns-in_default
returns-in_default c =
    let none = rw c.as_slice.ensures.value at c.in_default.ensures.first in
    absent_made c.args.here c.args.id c.args.cards.now.items none
