use Rattle.std.proofs.Common.{◌≡◌, ◌-◌, slice_get, None, Some, refl, sym, ap, ◌∙◌, arith}
use Rattle.rpg_program.specs.Values.{characters_of}
use Rattle.rpg_program.specs.Object.{seen}
use Rattle.rpg_program.proofs.TextConstants.{found_at, missing_at, word_found, word_missing}
use Rattle.rpg_program.proofs.words.word_at.Goals as goal

pub returns-in-None : goal.returns-in-None
returns-in-None c =
    let all = c.args.rows.now.values.items in
    let k = c.from.result - 1 in
    let look = c.in-None.ensures.lookup in
    let same = c.from.ensures in
    let positive = c.if-field-eq0.false in
    let at : slice_get all k ≡ None = ap (λ xs. slice_get xs k) (sym c.deref.ensures.value) ∙ missing_at c.deref.result.now k look.0 in
    word_missing (seen c.args.rows.now) all refl c.args.field k (omega (arith, same, positive)) c.requires at

pub returns-in-Some : goal.returns-in-Some
returns-in-Some c =
    let all = c.args.rows.now.values.items in
    let k = c.from.result - 1 in
    let v = c.in-Some.values.now in
    let look = c.in-Some.ensures.lookup in
    let same = c.from.ensures in
    let positive = c.if-field-eq0.false in
    let at : slice_get all k ≡ Some v = ap (λ xs. slice_get xs k) (sym c.deref.ensures.value) ∙ found_at c.deref.result.now k v look.0 look.1 in
    c.first_text.ensures
    ∙ ap (λ vs. characters_of (slice_get vs 0)) c.as_slice.ensures
    ∙ word_found (seen c.args.rows.now) all refl c.args.field k v (omega (arith, same, positive)) c.requires at
