use Rattle.std.proofs.Common.{◌+◌, List, [], ◌∷◌, length, ap, subst, sym, ◌∙◌}
use Rattle.rpg_cards.specs.Constants.{constants}
use Rattle.rpg_cards.specs.declared.spec_card.SpecCard.{SpecCard}
use Rattle.rpg_faults_limits.proofs.StorageLemmas.{kept_storage, measure_is, with_first}
use Rattle.rpg_faults_limits.specs.Causes.{first_past, measure_of}
use Rattle.rpg_faults_limits.specs.Limits.{bytes_up_to, constant_bytes, fields_up_to, name_bytes, name_count}
use Rattle.rpg_faults_limits.specs.State.{AreItemsOrKept}
use Rattle.rpg_faults_limits.specs.declared.measures.Limit.TheVariants as limit
use Rattle.rpg_faults_limits.proofs.limits.on_storage.Goals as goal

pub returns-in_default : goal.returns-in_default
returns-in_default c = sym (kept_storage c.args.source.now c.args.before.now c.args.card.now c.args.after.now c.requires.split (subst (AreItemsOrKept c.args.source.now c.args.before.now) c.in_default.is c.requires.items))

pub names_in-names_with-requires-clause-front : goal.names_in-names_with-requires-clause-front
names_in-names_with-requires-clause-front c = with_first c.args.source.now c.args.before.now c.args.card.now c.args.after.now c.up_to-front.result.now c.requires.split c.up_to-front.ensures

pub constants_in-constants_with-requires-clause-front : goal.constants_in-constants_with-requires-clause-front
constants_in-constants_with-requires-clause-front c = with_first c.args.source.now c.args.before.now c.args.card.now c.args.after.now c.up_to-front.result.now c.requires.split c.up_to-front.ensures

pub returns : goal.returns
returns c =
    let cards = c.args.source.now in
    let before = c.args.before.now in
    let card = c.args.card.now in
    let front = c.up_to-front.ensures in
    let all = c.all_names-all.ensures in
    let with_names = c.names_in-names_with.ensures in
    let with_constants = c.constants_in-constants_with.ensures in
    let names = measure_is limit.Names name_count 4000 before card _ _ _ c.counted.ensures c.names_in-names.ensures.number (with_names.number ∙ ap name_count front) in
    let bytes = measure_is limit.NameBytes name_bytes 65535 before card _ _ _ c.counted-2.ensures c.names_in-names.ensures.bytes (with_names.bytes ∙ ap name_bytes front) in
    let storage =
    measure_is limit.Bytes (bytes_up_to cards) 65535 before card _ _ _ c.counted-3.ensures
    (ap (λ n. n + c.constants_in-constants.result.bytes) all.bytes ∙ ap (λ n. name_bytes cards + n) c.constants_in-constants.ensures.bytes)
    (ap (λ n. n + c.constants_in-constants_with.result.bytes) all.bytes ∙ ap (λ n. name_bytes cards + n) (with_constants.bytes ∙ ap constant_bytes front)) in
    let fields =
    measure_is limit.Fields (fields_up_to cards) 4000 before card _ _ _ c.counted-4.ensures
    (ap (λ n. n + c.constants_in-constants.result.number) all.number ∙ ap (λ n. name_count cards + n) c.constants_in-constants.ensures.number)
    (ap (λ n. n + c.constants_in-constants_with.result.number) all.number ∙ ap (λ n. name_count cards + n) (with_constants.number ∙ ap (λ (l : List SpecCard). length (constants l)) front)) in
    c.first_past.ensures
    ∙ ap (λ m. first_past (m ∷ c.counted-2.result ∷ c.counted-3.result ∷ c.counted-4.result ∷ [])) names
    ∙ ap (λ m. first_past (measure_of limit.Names name_count 4000 before card ∷ m ∷ c.counted-3.result ∷ c.counted-4.result ∷ [])) bytes
    ∙ ap (λ m. first_past (measure_of limit.Names name_count 4000 before card ∷ measure_of limit.NameBytes name_bytes 65535 before card ∷ m ∷ c.counted-4.result ∷ [])) storage
    ∙ ap (λ m. first_past (measure_of limit.Names name_count 4000 before card ∷ measure_of limit.NameBytes name_bytes 65535 before card ∷ measure_of limit.Bytes (bytes_up_to cards) 65535 before card ∷ m ∷ [])) fields
