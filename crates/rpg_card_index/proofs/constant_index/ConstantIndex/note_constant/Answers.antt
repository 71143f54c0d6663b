use Rattle.std.proofs.Common.{◌≡◌, ◌≤◌, Some, None, cond, not, [], ◌∷◌, length, ap, sym, ◌∙◌, arith}
use Rattle.std.specs.List.{list_any}
use Rattle.std.specs.Map.{lookup}
use Rattle.std.specs.Option.{is_none, option_or}
use Rattle.std.specs.Prelude.{ℕ, Option}
use Rattle.rpg_card_index.proofs.IndexLemmas.{none_some}
use Rattle.rpg_card_index.proofs.TotalLemmas.{one_more, running_more}
use Rattle.rpg_card_index.specs.Index.{place_of_constant}
use Rattle.rpg_card_index.specs.Totals.{constant_size, constant_totals}
use Rattle.rpg_cards.proofs.FirstLemmas.{any_first, noted_more}
use Rattle.rpg_cards.specs.Constants.{is_same}
use Rattle.rpg_cards.specs.SameConstants.{is_same_equiv}
use Rattle.rpg_program.specs.Forms.{size_of}
use Rattle.rpg_symbols.specs.Totals.{with_item}
use Rattle.rpg_card_index.proofs.constant_index.ConstantIndex.note_constant.Goals as goal

pub returns : goal.returns
returns c items is =
    let key = c.args.constant in
    let old = c.args.self.now in
    let place : c.count-place.result ≡ length items = c.count-place.ensures ∙ is.running.count in
    let fresh : c.in_ok-is_first.is_first ≡ not (list_any (is_same key) items) =
    c.in_ok-is_first.ensures.first ∙ ap (λ (o : Option ℕ). is_none o) (is.standing key) ∙ none_some _ ∙ ap not (sym (any_first (is_same key) place_of_constant 0 items)) in
    let sized : c.size-bytes.result ≡ constant_size key = c.size-bytes.ensures ∙ ap size_of c.form.ensures in
    let small : c.size-bytes.result ≤ 4294967295 = omega (arith, c.size-bytes.type_inv) in
    record {
      standing = λ x.
          noted_more (is_same x) place_of_constant (is_same x) old.first.entries c.note.new.map.entries items (key ∷ []) (is.standing x)
          (c.in_ok-is_first.ensures.map x ∙ ap (λ p. option_or (lookup (is_same x) old.first.entries) (cond (is_same x key) (Some p) None)) place);
      running =
          running_more constant_totals items key old.totals c.push.new.self is.running c.in_ok-push.ensures.before
          (c.in_ok-push.ensures.all ∙ ap (λ t. with_item t c.in_ok-is_first.is_first c.size-bytes.result) is.running.all
          ∙ one_more is_same is_same_equiv constant_size [] items key c.in_ok-is_first.is_first c.size-bytes.result fresh sized)
          c.in_ok-is_first.is_first c.size-bytes.result c.in_ok-push.ensures.all small;
    }
