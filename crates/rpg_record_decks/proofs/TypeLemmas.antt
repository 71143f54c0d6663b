-- Types while their cards are read.
use Rattle.std.proofs.Common.{◌≡◌, ℕ, ◌+◌, ◌<◌, ◌++◌, Bool, true, false, List, [], ◌∷◌, drop, get_or, length, map, refl, sym, ap, subst, ◌∙◌, Option, Some, Result, Ok}
use Rattle.std.proofs.lemmas.List.{at_drop_more}
use Rattle.rpg_sheet_specs.specs.declared.input.InputSpec.{InputSpec}
use Rattle.rpg_records.specs.Seen.{number_seen}
use Rattle.rpg_records.specs.declared.layout.NumberField.{NumberField}
use Rattle.rpg_record_decks.proofs.OutcomeLemmas.{fault_onto, fault_then, onto-onto}
use Rattle.rpg_record_decks.specs.Outcomes.{IsDeckFaultOf, and_then, at_card, onto}
use Rattle.rpg_record_decks.specs.Reading.{type_read}
use Rattle.rpg_record_decks.specs.Types.{TypeRead, cards_of_file, input_spec_of, is_on_sheet, is_of_file, type_after, type_before, types_read_after}
use Rattle.rpg_record_decks.specs.declared.deck.DeckCard.{DeckCard}
use Rattle.rpg_record_decks.specs.declared.fault.CardFault.{CardFault}
use Rattle.rpg_record_decks.specs.declared.fault.DeckFault.{DeckFault}
use Rattle.rpg_record_decks.specs.declared.types.TypeCards.{TypeCards}

pub numbers_more : (fs : List NumberField) (f : NumberField) → map number_seen (fs ++ f ∷ []) ≡ map number_seen fs ++ number_seen f ∷ []
numbers_more [] f = refl
numbers_more (g ∷ gs) f = ap (λ rest. number_seen g ∷ rest) (numbers_more gs f)

pub types_more : (ts : List TypeCards) (t : TypeCards) → map type_read (ts ++ t ∷ []) ≡ map type_read ts ++ type_read t ∷ []
types_more [] t = refl
types_more (u ∷ us) t = ap (λ rest. type_read u ∷ rest) (types_more us t)

-- ---- one more card of the file

after_input : (length : ℕ) (now : Option TypeRead) (c : DeckCard) (cs : List DeckCard) (spec : InputSpec) → at_card c.number (input_spec_of c.card) ≡ Ok spec
    → types_read_after length now (c ∷ cs) ≡ and_then (at_card c.number (type_after length now c spec)) (λ t. onto (type_before now spec) (types_read_after length (Some t) cs))
after_input length now c cs spec e =
    ap (λ (r : Result InputSpec DeckFault). and_then r (λ spec. and_then (at_card c.number (type_after length now c spec)) (λ t. onto (type_before now spec) (types_read_after length (Some t) cs)))) e

pub card_read : (length : ℕ) (now held : Option TypeRead) (c : DeckCard) (cs : List DeckCard) (spec : InputSpec) (t : TypeRead) (done more : List TypeRead) → at_card c.number (input_spec_of c.card) ≡ Ok spec
    → more ≡ done ++ type_before now spec → type_after length held c spec ≡ type_after length now c spec → type_after length held c spec ≡ Ok t
    → onto more (types_read_after length (Some t) cs) ≡ onto done (types_read_after length now (c ∷ cs))
card_read length now held c cs spec t done more e f g h = sym (
    ap (onto done) (after_input length now c cs spec e)
    ∙ ap (λ (r : Result TypeRead CardFault). onto done (and_then (at_card c.number r) (λ t. onto (type_before now spec) (types_read_after length (Some t) cs)))) (sym g ∙ h)
    ∙ onto-onto done (type_before now spec) (types_read_after length (Some t) cs)
    ∙ ap (λ (l : List TypeRead). onto l (types_read_after length (Some t) cs)) (sym f)
    )

pub card_refused : (length : ℕ) (now : Option TypeRead) (c : DeckCard) (cs : List DeckCard) (done : List TypeRead) (fault : DeckFault) → IsDeckFaultOf (at_card c.number (input_spec_of c.card)) fault
    → IsDeckFaultOf (onto done (types_read_after length now (c ∷ cs))) fault
card_refused length now c cs done fault h =
    fault_onto done (types_read_after length now (c ∷ cs)) fault
    (fault_then (at_card c.number (input_spec_of c.card)) (λ (spec : InputSpec). and_then (at_card c.number (type_after length now c spec)) (λ t. onto (type_before now spec) (types_read_after length (Some t) cs))) fault h)

pub type_refused : (length : ℕ) (now held : Option TypeRead) (c : DeckCard) (cs : List DeckCard) (spec : InputSpec) (done : List TypeRead) (fault : DeckFault) → at_card c.number (input_spec_of c.card) ≡ Ok spec
    → type_after length held c spec ≡ type_after length now c spec → IsDeckFaultOf (at_card c.number (type_after length held c spec)) fault → IsDeckFaultOf (onto done (types_read_after length now (c ∷ cs))) fault
type_refused length now held c cs spec done fault e g h =
    subst (λ (r : Result (List TypeRead) DeckFault). IsDeckFaultOf (onto done r) fault) (sym (after_input length now c cs spec e))
    (fault_onto done (and_then (at_card c.number (type_after length now c spec)) (λ (t : TypeRead). onto (type_before now spec) (types_read_after length (Some t) cs))) fault
    (fault_then (at_card c.number (type_after length now c spec)) (λ (t : TypeRead). onto (type_before now spec) (types_read_after length (Some t) cs)) fault (subst (λ (r : Result TypeRead CardFault). IsDeckFaultOf (at_card c.number r) fault) g h)))

-- ---- which cards are the file's

pub cards_other : (sheet name : List ℕ) (before : Bool) (c : DeckCard) (cs : List DeckCard) → is_on_sheet sheet c.card ≡ false → cards_of_file sheet name before (c ∷ cs) ≡ cards_of_file sheet name before cs
cards_other sheet name before c cs e = rw e refl

pub cards_left_out : (sheet name : List ℕ) (before : Bool) (c : DeckCard) (cs : List DeckCard) → is_on_sheet sheet c.card ≡ true → is_of_file name before c.card ≡ false
    → cards_of_file sheet name before (c ∷ cs) ≡ cards_of_file sheet name false cs
cards_left_out sheet name before c cs e f = rw (e, f) refl

pub cards_next : (sheet name : List ℕ) (before : Bool) (c : DeckCard) (cs : List DeckCard) → is_on_sheet sheet c.card ≡ true → is_of_file name before c.card ≡ true
    → cards_of_file sheet name before (c ∷ cs) ≡ c ∷ cards_of_file sheet name true cs
cards_next sheet name before c cs e f = rw (e, f) refl

-- the next card, where it is the file's
pub card_next : (sheet name : List ℕ) (before : Bool) (cards : List DeckCard) (i : ℕ) (c : DeckCard) → i < length cards → c ≡ get_or cards i c → is_on_sheet sheet c.card ≡ true → is_of_file name before c.card ≡ true
    → cards_of_file sheet name before (drop i cards) ≡ c ∷ cards_of_file sheet name true (drop (i + 1) cards)
card_next sheet name before cards i c h e p q =
    at_drop_more (cards_of_file sheet name before) cards i c h ∙ ap (λ (x : DeckCard). cards_of_file sheet name before (x ∷ drop (i + 1) cards)) (sym e) ∙ cards_next sheet name before c (drop (i + 1) cards) p q
