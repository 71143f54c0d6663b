use Rattle.std.proofs.Common.{false, ◌≡◌, ◌+◌, ◌<◌, List, [], ◌∷◌, ◌++◌, ap, sym, ◌∙◌, arith, append_assoc, length-append, vec_len, ℕ}
use Rattle.rpg_sheet_specs.specs.Cards.{card_of, ends_source}
use Rattle.rpg_sheet.specs.Sheet.{source}
use Rattle.rpg_sheet.proofs.SheetLemmas.{specs-push, few_seen, source_ends, source_continues, fault_after-valid, fault_after-bad}
use Rattle.rpg_sheet.proofs.source.cards.Goals as goal

pub returns-in-Err-clause-fault : goal.returns-in-Err-clause-fault
returns-in-Err-clause-fault c =
    let kept = c.loop-rest.invariant in
    let earlier = c.loop-rest.earlier in
    let columns = rw c.columns_of-columns.ensures at c.in-Err.ensures.columns in
    rw columns
    (kept.valid ∙ fault_after-bad kept.done c.loop-rest.rest.now c.first_line.result.1.now earlier.count earlier.latest earlier.data_begun c.first_line.result.0.now c.in-Err.field-0.code c.first_line.ensures.cut kept.seen c.in-Err.ensures.code)

pub loop-rest-preserved : goal.loop-rest-preserved
loop-rest-preserved c =
    let kept = c.loop-rest.invariant in
    let earlier = c.loop-rest.earlier in
    let line = c.first_line.result.0.now in
    let done = kept.done in
    let read = c.in-Ok.ensures in
    let more : ends_source (card_of line) ≡ _ = rw c.columns_of-columns.ensures at (sym c.ends_source.ensures ∙ c.if-ends_source.false) in
    let on = source_continues c.loop-rest.rest.now line c.first_line.result.1.now c.first_line.ensures.cut more in
    let pushed = c.push_reserved.ensures in
    let reserved = c.in_ok-reserve-in-Ok.ensures in
    let one_more : vec_len c.push_reserved.new.self ≡ vec_len c.loop-rest.specs + 1 = pushed.len ∙ ap (λ n. n + 1) reserved.len in
    let few : earlier.count < 2000 = few_seen earlier.count earlier.latest earlier.data_begun line read.valid in
    let seen = c.with-earlier.ensures done line c.columns_of-columns.ensures kept.seen in
    let counted : c.with-earlier.result.count ≡ earlier.count + 1 = let before = kept.seen.count_is in let after = seen.count_is in omega (arith, length-append done (line ∷ [])) in
    let each : vec_len c.loop-rest.specs ≡ earlier.count = kept.one_each in
    record {
      done = done ++ line ∷ [];
      cut = kept.cut ∙ ap (λ (r : List (List ℕ)). done ++ r) on ∙ sym (append_assoc done (line ∷ []) _);
      made = rw (c.push_reserved.ensures.items, c.in_ok-reserve-in-Ok.ensures.items, kept.made, read.spec, kept.seen.data_begun_is, c.columns_of-columns.ensures) (sym (specs-push false done line));
      valid = kept.valid ∙ rw on (fault_after-valid done (source c.first_line.result.1.now) earlier.count earlier.latest earlier.data_begun line kept.seen read.valid);
      seen = seen;
      one_each = omega arith;
      few = omega arith;
    }

pub returns-then-ends_source-clause-cards : goal.returns-then-ends_source-clause-cards
returns-then-ends_source-clause-cards c =
    let kept = c.loop-rest.invariant in
    let line = c.first_line.result.0.now in
    let done = kept.done in
    let read = c.in-Ok.ensures in
    let ends : ends_source (card_of line) ≡ _ = rw c.columns_of-columns.ensures at (sym c.ends_source.ensures ∙ c.if-ends_source.true) in
    let last = source_ends c.loop-rest.rest.now line c.first_line.result.1.now c.first_line.ensures.cut ends in
    rw (c.new.ensures, c.push_reserved.ensures.items, c.in_ok-reserve-in-Ok.ensures.items, kept.made, read.spec, kept.seen.data_begun_is, kept.cut, last, c.columns_of-columns.ensures) (sym (specs-push false done line))
