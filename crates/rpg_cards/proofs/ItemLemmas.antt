-- What cards define and their constants: of cards put together, and how many there are at most.
use Rattle.std.proofs.Common.{◌≡◌, ℕ, ◌+◌, ◌*◌, ◌<◌, ◌≤◌, List, [], ◌∷◌, ◌++◌, length, map, take, get_or, Option, None, Some, refl, sym, ap, ◌∙◌, arith, append_assoc, append-nil, length-append}
use Rattle.std.proofs.lemmas.List.{take_more}
use Rattle.std.specs.Option.{option_and_then, option_to_list}
use Rattle.rpg_cards.specs.Constants.{constants_in, constants_on, factor_constant, text_constant}
use Rattle.rpg_cards.specs.Names.{definition_by, definition_in, definitions, definitions_on}
use Rattle.rpg_cards.specs.declared.constants.Constant.{Constant}
use Rattle.rpg_cards.specs.declared.names.Definition.{Definition}
use Rattle.rpg_cards.specs.declared.spec_card.SpecCard.{SpecCard}
use Rattle.rpg_sheet_specs.specs.declared.input.InputSpec.TheVariants as input
use Rattle.rpg_sheet_specs.specs.declared.output.OutputSpec.TheVariants as output
use Rattle.rpg_sheet_specs.specs.declared.spec.Spec.{Spec}
use Rattle.rpg_sheet_specs.specs.declared.spec.Spec.TheVariants as spec

pub definitions-append : (cs ds : List SpecCard) → definitions (cs ++ ds) ≡ definitions cs ++ definitions ds
definitions-append [] ds = refl
definitions-append (c ∷ cs) ds = ap (λ (l : List Definition). definitions_on c.spec ++ l) (definitions-append cs ds) ∙ sym (append_assoc (definitions_on c.spec) (definitions cs) (definitions ds))

pub constants_in-append : (cs ds : List SpecCard) → constants_in (cs ++ ds) ≡ constants_in cs ++ constants_in ds
constants_in-append [] ds = refl
constants_in-append (c ∷ cs) ds = ap (λ (l : List Constant). constants_on c.spec ++ l) (constants_in-append cs ds) ∙ sym (append_assoc (constants_on c.spec) (constants_in cs) (constants_in ds))

-- ---- one more card

pub take_one : (cards : List SpecCard) (i : ℕ) (c : SpecCard) → i < length cards → c ≡ get_or cards i c → take (i + 1) cards ≡ take i cards ++ c ∷ []
take_one cards i c lt is = rw (take_more cards i c lt, ← is) refl

pub definitions-push : (before : List SpecCard) (c : SpecCard) → definitions (before ++ c ∷ []) ≡ definitions before ++ definitions_on c.spec
definitions-push before c = definitions-append before (c ∷ []) ∙ ap (λ (l : List Definition). definitions before ++ l) (append-nil (definitions_on c.spec))

pub constants_in-push : (before : List SpecCard) (c : SpecCard) → constants_in (before ++ c ∷ []) ≡ constants_in before ++ constants_on c.spec
constants_in-push before c = constants_in-append before (c ∷ []) ∙ ap (λ (l : List Constant). constants_in before ++ l) (append-nil (constants_on c.spec))

pub definitions-take : (cards : List SpecCard) (i : ℕ) (c : SpecCard) → i < length cards → c ≡ get_or cards i c → definitions (take (i + 1) cards) ≡ definitions (take i cards) ++ definitions_on c.spec
definitions-take cards i c lt is = ap definitions (take_one cards i c lt is) ∙ definitions-push (take i cards) c

pub constants_in-take : (cards : List SpecCard) (i : ℕ) (c : SpecCard) → i < length cards → c ≡ get_or cards i c → constants_in (take (i + 1) cards) ≡ constants_in (take i cards) ++ constants_on c.spec
constants_in-take cards i c lt is = ap constants_in (take_one cards i c lt is) ∙ constants_in-push (take i cards) c

-- ---- a card has two of each at most

at_most_one : {X : Type 0} (o : Option X) → length (option_to_list o) ≤ 1
at_most_one None = omega arith
at_most_one (Some x) = omega arith

-- an E card's table, and its alternating one
one_or_two : {X Y : Type 0} (f : X → Y) (x : X) (o : Option X) → length (map f (x ∷ option_to_list o) ++ [] ++ [] ++ []) ≤ 2
one_or_two f x None = omega arith
one_or_two f x (Some y) = omega arith

pub few_definitions_on : (s : Spec) → length (definitions_on s) ≤ 2
few_definitions_on (spec.Header h) = omega arith
few_definitions_on (spec.File f) = omega arith
few_definitions_on (spec.Extension e) = one_or_two (definition_in e) e.table e.alternating
few_definitions_on (spec.Form h) = omega arith
few_definitions_on (spec.Input (input.Type t)) = omega arith
few_definitions_on (spec.Input (input.And codes)) = omega arith
few_definitions_on (spec.Input (input.Field f)) = omega arith
few_definitions_on (spec.Calculation k) = let one = at_most_one (definition_by k) in omega arith
few_definitions_on (spec.Output o) = omega arith
few_definitions_on (spec.Data d) = omega arith

pub few_constants_on : (s : Spec) → length (constants_on s) ≤ 2
few_constants_on (spec.Header h) = omega arith
few_constants_on (spec.File f) = omega arith
few_constants_on (spec.Extension e) = omega arith
few_constants_on (spec.Form h) = omega arith
few_constants_on (spec.Input i) = omega arith
few_constants_on (spec.Calculation k) =
    let first = option_and_then factor_constant k.factor_1 in
    let second = option_and_then factor_constant k.factor_2 in
    let both = length-append (option_to_list first) (option_to_list second) in
    let one = at_most_one first in
    let other = at_most_one second in
    rw append-nil (omega arith)
few_constants_on (spec.Output (output.Record r)) = omega arith
few_constants_on (spec.Output (output.And t)) = omega arith
few_constants_on (spec.Output (output.Or t)) = omega arith
few_constants_on (spec.Output (output.Field f)) = let one = at_most_one (text_constant f) in omega arith
few_constants_on (spec.Data d) = omega arith

pub few_definitions : (cards : List SpecCard) → length (definitions cards) ≤ 2 * length cards
few_definitions [] = omega arith
few_definitions (c ∷ cs) =
    let here = few_definitions_on c.spec in
    let rest = few_definitions cs in
    let both = length-append (definitions_on c.spec) (definitions cs) in
    omega arith

pub few_constants : (cards : List SpecCard) → length (constants_in cards) ≤ 2 * length cards
few_constants [] = omega arith
few_constants (c ∷ cs) =
    let here = few_constants_on c.spec in
    let rest = few_constants cs in
    let both = length-append (constants_on c.spec) (constants_in cs) in
    omega arith
