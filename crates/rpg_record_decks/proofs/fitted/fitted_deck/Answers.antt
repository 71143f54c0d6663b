use Rattle.std.proofs.Common.{◌≡◌, ◌+◌, ◌-◌, ◌++◌, List, ℕ, length, sym, ap, subst, arith, length-drop}
use Rattle.std.specs.List.{join_with_byte, slice_split}
use Rattle.rpg_text.specs.Lines.{is_line_feed}
use Rattle.rpg_record_decks.proofs.FittedLemmas.{next_fitted, rest_following}
use Rattle.rpg_record_decks.specs.Fitted.{fitted, fitted_from}
use Rattle.rpg_record_decks.proofs.fitted.fitted_deck.Goals as goal

pub loop-end-preserved : goal.loop-end-preserved
loop-end-preserved c =
    let rest = c.loop-end.rest.now in
    let end = c.in-Some.end in
    let same = rest_following rest (end + 1) in
    record {
      few = omega (arith, ap (λ (l : List ℕ). length l) same, length-drop (end + 1) rest, c.loop-end.invariant.few, c.in-Some.ensures.within);
      deck = subst (λ (l : List ℕ). c.push.new.self.items ++ join_with_byte 10 (fitted_from c.args.changes.now (c.loop-end.number + 1) (slice_split is_line_feed l)) ≡ fitted c.args.changes.now c.args.source.now) (sym same)
          (next_fitted c.args.changes.now c.loop-end.number end rest c.loop-end.deck.items c.add_line.new.deck.items c.push.new.self.items (fitted c.args.changes.now c.args.source.now) (sym c.in-Some.ensures.place) c.loop-end.invariant.deck
          c.in_ok-add_line.ensures c.in_ok-push.ensures.items);
    }
