use Rattle.std.proofs.Common.{◌+◌, ◌++◌, [], ◌∷◌, List, drop, get_or, map, sym, ap, ◌∙◌, append_assoc}
use Rattle.std.proofs.lemmas.List.{at_drop_more}
use Rattle.rpg_record_decks.specs.Fitted.{digits_change}
use Rattle.rpg_record_decks.specs.declared.fitted.CardChange.{CardChange}
use Rattle.rpg_record_decks.specs.declared.fitted.DigitColumns.{DigitColumns}
use Rattle.rpg_record_outputs.proofs.changes.add_reading.Goals as goal

abbrev no_digits : DigitColumns
no_digits = record { card = 0; first = 0; last = 0 }

pub loop-digits-preserved : goal.loop-digits-preserved
loop-digits-preserved c =
    let all = c.args.all.now in
    let l = c.loop-digits in
    let d = get_or all l.digits-index no_digits in
    let rest = map digits_change (drop (l.digits-index + 1) all) in
    ap (λ (changes : List CardChange). changes ++ rest) (c.in_ok-push.ensures.items ∙ ap (λ (x : CardChange). l.changes.items ++ x ∷ []) c.digits_change.ensures) ∙ append_assoc l.changes.items (digits_change d ∷ []) rest
    ∙ ap (λ (changes : List CardChange). l.changes.items ++ changes) (sym (at_drop_more (map digits_change) all l.digits-index no_digits c.loop-digits-test.true)) ∙ l.invariant
