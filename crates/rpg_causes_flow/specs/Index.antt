-- Where each label and subroutine is first defined, and the recursive calls.
use Rattle.std.specs.Prelude.{◌≡◌, ℕ, suc, ◌+◌, ◌<◌, ◌==◌, List, [], ◌∷◌, ◌++◌, length, get_or, slice_index, Bool, false, ◌&&◌, ◌||◌, nat_eq, nat_le, nat_lt, ◌-◌, Option, None, Some, is_some, option_and_then, if◌then◌else◌}
use Rattle.std.specs.Cmp.Lexicographic.{pointwise}
use Rattle.std.specs.Int.{bit_at}
use Rattle.std.specs.List.{list_any}
use Rattle.std.specs.Map.{lookup}
use Rattle.std.specs.Option.{option_map, option_map_or, option_or}
use Rattle.rpg_cards.specs.Calculations.{calculations, calculations_before, card_ending}
use Rattle.rpg_cards.specs.Calls.{called_subroutine, calls, subroutine_in}
use Rattle.rpg_cards.specs.Keys.{Name}
use Rattle.rpg_cards.specs.Labels.{defined_name, label_named, labels, target_name}
use Rattle.rpg_cards.specs.Statements.{statement_of}
use Rattle.rpg_cards.specs.declared.labels.Label.{Label}
use Rattle.rpg_cards.specs.declared.labels.Named.{Named}
use Rattle.rpg_cards.specs.declared.labels.Section.{Section}
use Rattle.rpg_cards.specs.declared.spec_card.SpecCard.{SpecCard}
use Rattle.rpg_causes_flow.specs.Flow.{section_at}
use Rattle.rpg_causes_flow.specs.Labels.{giver, giver_if, name_given_on}
use Rattle.rpg_causes_flow.specs.declared.flow.Flow.{Flow}
use Rattle.rpg_causes_flow.specs.declared.index.FirstLabel.{FirstLabel}
use Rattle.rpg_causes_flow.specs.declared.labels.Giver.{Giver}
use Rattle.rpg_faults_flow.specs.Flow.{leaves_by}
use Rattle.rpg_sheet_specs.specs.declared.calculation.CalculationSpec.{CalculationSpec}
use Rattle.rpg_symbols.specs.Chains.{Call, Calls, reaches, reaches_within}

-- ---- names

-- the labels of a source
abbrev pub labels_of : List SpecCard → List Label
labels_of cards = labels (calculations cards)

-- what a label is, and its section
abbrev pub target : Label → Bool × Section
target l = (l.named.is_subroutine, l.section)

-- that of the first label of a name
abbrev pub entry_target : FirstLabel → Bool × Section
entry_target e = (e.is_subroutine, e.section)

-- that of the first label of a name in a source
abbrev pub first_target : Name → List SpecCard → Option (Bool × Section)
first_target q cards = option_map target (label_named q (labels_of cards))

-- the card that defines it
abbrev pub entry_giver : FirstLabel → Giver
entry_giver e = record { card = e.card; is_subroutine = e.is_subroutine }

-- the card, if it defines the name
abbrev pub giver_on : Name → SpecCard → List SpecCard → Option Giver
giver_on q c after = option_and_then (giver_if q c.number) (name_given_on c after)

-- the position of the first of the front cards that does, given that of the first
abbrev pub place_from : ℕ → Name → List SpecCard → List SpecCard → Option ℕ
place_from i q [] after = None
place_from i q (c ∷ cs) after = if is_some (giver_on q c (cs ++ after)) then Some i else place_from (suc i) q cs after

-- each name of the cards before with its first label and its card
pub record IsIndexOf (names : List (Name × FirstLabel)) (before rest : List SpecCard) : Type 0 where
  pub labels : (q : Name) → option_map entry_target (lookup (pointwise nat_eq q) names) ≡ option_map target (label_named q (labels (calculations_before before rest)))
  pub givers : (q : Name) → option_map entry_giver (lookup (pointwise nat_eq q) names) ≡ giver q before rest
  pub places : (q : Name) → option_map (λ e. e.position) (lookup (pointwise nat_eq q) names) ≡ place_from 0 q before rest

-- none of the cards defines a label or a subroutine
abbrev pub DefineNothing : List SpecCard → Type 0
DefineNothing cards = (q : Name) → giver q cards [] ≡ None

-- the label that a calculation defines on a card, under that name
abbrev pub entry_if : Name → ℕ → Flow → SpecCard → CalculationSpec → Named → Option FirstLabel
entry_if q i f c k n = if pointwise nat_eq q n.name then Some (record { position = i; card = c.number; is_subroutine = n.is_subroutine; section = section_at f k }) else None

-- likewise, if the calculation defines one
abbrev pub entry_of : Name → ℕ → Flow → SpecCard → CalculationSpec → Option FirstLabel
entry_of q i f c k = option_and_then (entry_if q i f c k) (defined_name (statement_of k))

-- likewise, if a calculation ends on the card
abbrev pub card_entry : Name → ℕ → Flow → SpecCard → List SpecCard → Option FirstLabel
card_entry q i f c after = option_and_then (entry_of q i f c) (card_ending c after)

-- names without an entry get one
abbrev pub Notes : (Name → Option FirstLabel) → List (Name × FirstLabel) → List (Name × FirstLabel) → Type 0
Notes entry old new = (q : Name) → lookup (pointwise nat_eq q) new ≡ option_or (lookup (pointwise nat_eq q) old) (entry q)

-- ---- F13

-- a GOTO from that section to that name leaves the section
abbrev pub name_leaves : List SpecCard → Section → Named → Bool
name_leaves cards own n = option_map_or (leaves_by own n) (label_named n.name (labels_of cards)) false

-- a calculation's GOTO leaves its section
abbrev pub leaves_section : List SpecCard → Flow → CalculationSpec → Bool
leaves_section cards f k = option_map_or (name_leaves cards (section_at f k)) (target_name (statement_of k)) false

-- ---- calls

-- caller and callee of a calculation
abbrev pub calculation_call : Flow → List Label → CalculationSpec → Option Call
calculation_call f given k =
    option_and_then (λ caller. option_map (λ callee. (caller, callee)) (option_and_then (called_subroutine given) (target_name (statement_of k)))) (subroutine_in (section_at f k))

-- of the calculation that ends on a card
abbrev pub card_call : Flow → List Label → SpecCard → List SpecCard → Option Call
card_call f given c after = option_and_then (calculation_call f given) (card_ending c after)

-- the same caller and the same callee
abbrev pub same_call : Call → Call → Bool
same_call p q = p.0 == q.0 && p.1 == q.1

-- the calls whose callee reaches their caller
abbrev pub AreCycles : Calls → Calls → Type 0
AreCycles found all = (p : Call) → list_any (same_call p) found ≡ (list_any (same_call p) all && reaches all p.1 p.0)

-- the calls of a source
abbrev pub calls_of : List SpecCard → Calls
calls_of cards = calls (calculations cards)

-- those of them whose callee reaches their caller
abbrev pub AreCyclesOf : Calls → List SpecCard → Type 0
AreCyclesOf found cards = AreCycles found (calls_of cards)

-- ---- which subroutines reach which, 64 of them at a time: each is a bit of a word

-- all numbers of callers and callees are below the count
abbrev pub AreBelow : ℕ → Calls → Type 0
AreBelow count all = (k : ℕ) → k < length all → ((get_or all k (0, 0)).0 < count) × ((get_or all k (0, 0)).1 < count)

-- bit i of the word is set
abbrev pub has_word_bit : ℕ → ℕ → Bool
has_word_bit word i = bit_at word i == 1

-- a subroutine that is one of the 64 from `first` on
abbrev pub is_in_word : ℕ → ℕ → Bool
is_in_word first x = nat_le first x && nat_lt (x - first) 64

-- by at most this many calls
pub record IsReaching (steps : ℕ) (all : Calls) (first count : ℕ) (words : List ℕ) : Type 0 where
  pub each_has : length words ≡ count
  pub reaching : (x i : ℕ) → x < count → i < 64 → has_word_bit (get_or words x 0) i ≡ reaches_within steps all x (first + i)

-- the next words are those for one call more
abbrev pub ReachesFurther : Calls → ℕ → List ℕ → List ℕ → Type 0
ReachesFurther all first words next = (steps : ℕ) → IsReaching steps all first (length words) words → IsReaching (steps + 1) all first (length words) next

-- a caller's word also gets the bits of the subroutines that it calls
abbrev pub Spreads : Calls → List ℕ → List ℕ → List ℕ → Type 0
Spreads all words old new =
    (x i : ℕ) → x < length words → has_word_bit (slice_index new x) i ≡ (has_word_bit (slice_index old x) i || list_any (λ p. p.0 == x && has_word_bit (slice_index words p.1) i) all)

-- of the calls by the 64 subroutines those that come back are added
abbrev pub AddsCycles : ℕ → Calls → Calls → Calls → Type 0
AddsCycles first all old new =
    (p : Call) → list_any (same_call p) new ≡ (list_any (same_call p) old || (list_any (same_call p) all && (is_in_word first p.0 && reaches all p.1 p.0)))
